-- Expressions that grow by one step after the other, as a loop lets them: `reads n e place` goes on after e in at most n
-- rounds, and `step e place` is the next step, or nothing where e ends.
use Rattle.std.proofs.Common.{◌≡◌, ℕ, suc, ◌+◌, ◌-◌, ◌<◌, ◌≤◌, arith, true, false, Option, Some, None, refl, sym, ap, ◌∙◌}
use Rattle.std.specs.Prelude.{nat_le}
use Rattle.tree.specs.Syntax.{Expression}
use Rattle.tree.specs.Depth.{expression_depth}
use Rattle.meaning.specs.Cursor.{Cursor, GoText}
use Rattle.tree_reader.specs.Reader.{Readers, go_on}
use Rattle.tree_reader.specs.Reading.{Read}

module _ (text : GoText) (r : Readers) (below : ℕ) (reads : ℕ → Expression → Cursor → Read Expression) (count i : ℕ) (e : Expression) (rest : Cursor) (total : Read Expression) (so_far : reads (count - i) e rest ≡ total) where
  pub grown-runs-out : reads 0 e rest ≡ None → count ≤ i → total ≡ None
  grown-runs-out none le =
      let k : count - i ≡ 0 = omega (arith, le) in
      sym so_far ∙ (ap (λ (n : ℕ). reads n e rest) k ∙ none)

  module _ (lt : i < count) (step : Option (Read Expression)) (next : (n : ℕ) → reads (suc n) e rest ≡ go_on text r below (reads n) e rest step) where
    this_round : total ≡ go_on text r below (reads (count - (i + 1))) e rest step
    this_round =
        let k : count - i ≡ suc (count - (i + 1)) = omega (arith, lt) in
        sym so_far ∙ (ap (λ (n : ℕ). reads n e rest) k ∙ next (count - (i + 1)))

    pub grown-ends : step ≡ None → total ≡ Some (e, rest)
    grown-ends none = this_round ∙ ap (go_on text r below (reads (count - (i + 1))) e rest) none

    module _ (grown : Read Expression) (goes : step ≡ Some grown) where
      pub grown-too-deep : nat_le (expression_depth e) below ≡ false → total ≡ None
      grown-too-deep deep =
          this_round ∙ (ap (go_on text r below (reads (count - (i + 1))) e rest) goes ∙ rw deep refl)

      module _ (fits : nat_le (expression_depth e) below ≡ true) where
        pub grown-fails : grown ≡ None → total ≡ None
        grown-fails none =
            this_round ∙ (ap (go_on text r below (reads (count - (i + 1))) e rest) goes ∙ rw (fits, none) refl)

        pub grown-goes-on : (x : Expression) (end : Cursor) → grown ≡ Some (x, end) → reads (count - (i + 1)) x end ≡ total
        grown-goes-on x end read =
            sym (this_round ∙ (ap (go_on text r below (reads (count - (i + 1))) e rest) goes ∙ rw (fits, read) refl))
