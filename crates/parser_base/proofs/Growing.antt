-- Reading the parts of a list one after the other, as a loop does: `reads n place` reads the rest of the list in at most n
-- rounds, and `cons` puts a part before what follows it.
use Rattle.std.proofs.Common.{◌≡◌, ℕ, suc, ◌+◌, ◌-◌, ◌<◌, ◌≤◌, List, [], ◌∷◌, ◌++◌, Some, None, refl, sym, ap, ◌∙◌, arith}
use Rattle.std.specs.Prelude.{option_and_then}
use Rattle.meaning.specs.Cursor.{Cursor}
use Rattle.tree_reader.specs.Reading.{Read}

module _ {X Y : Type 0} (cons : X → Y → Y) where
  -- the parts before what follows them
  abbrev pub prepend : List X → Y → Y
  prepend [] more = more
  prepend (x ∷ xs) more = cons x (prepend xs more)

  -- one part, and what is read after it
  abbrev pub with_part : X → Read Y → Read Y
  with_part x read = option_and_then (λ (more : Y × Cursor). Some (cons x more.0, more.1)) read

  -- what was read before, and what is still read
  abbrev pub after : List X → Read Y → Read Y
  after items None = None
  after items (Some more) = Some (prepend items more.0, more.1)

  prepend-push : (items : List X) (x : X) (more : Y) → prepend (items ++ x ∷ []) more ≡ prepend items (cons x more)
  prepend-push [] x more = refl
  prepend-push (y ∷ ys) x more = ap (cons y) (prepend-push ys x more)

  after-push : (items : List X) (x : X) (read : Read Y) → after (items ++ x ∷ []) read ≡ after items (with_part x read)
  after-push items x None = refl
  after-push items x (Some more) = ap (λ (y : Y). Some (y, more.1)) (prepend-push items x more.0)

  pub after-nothing : (read : Read Y) → after [] read ≡ read
  after-nothing None = refl
  after-nothing (Some more) = refl

  -- a list that is put together in the same way
  pub prepend-all : (nil : Y) (view : List X → Y) → view [] ≡ nil → ((x : X) (xs : List X) → view (x ∷ xs) ≡ cons x (view xs)) → (items : List X) → prepend items nil ≡ view items
  prepend-all nil view none some [] = sym none
  prepend-all nil view none some (x ∷ xs) = ap (cons x) (prepend-all nil view none some xs) ∙ sym (some x xs)

  module _ (reads : ℕ → Cursor → Read Y) where
    -- before the first round
    pub starts : (count rounds : ℕ) (place : Cursor) → count ≡ rounds → after [] (reads (count - 0) place) ≡ reads rounds place
    starts count rounds place same =
        let k : count - 0 ≡ rounds = omega (arith, same) in
        ap (λ (n : ℕ). after [] (reads n place)) k ∙ after-nothing (reads rounds place)

    -- in a round, after those parts, of so many rounds
    module _ (items : List X) (count i : ℕ) (rest : Cursor) (total : Read Y) (so_far : after items (reads (count - i) rest) ≡ total) where
      pub runs_out : ((place : Cursor) → reads 0 place ≡ None) → count ≤ i → total ≡ None
      runs_out none le =
          let k : count - i ≡ 0 = omega (arith, le) in
          sym so_far ∙ (ap (λ (n : ℕ). after items (reads n rest)) k ∙ ap (after items) (none rest))

      module _ (lt : i < count) where
        this_round : total ≡ after items (reads (suc (count - (i + 1))) rest)
        this_round =
            let k : count - i ≡ suc (count - (i + 1)) = omega (arith, lt) in
            sym so_far ∙ ap (λ (n : ℕ). after items (reads n rest)) k

        pub fails : ((n : ℕ) → reads (suc n) rest ≡ None) → total ≡ None
        fails none = this_round ∙ ap (after items) (none (count - (i + 1)))

        pub ends : (more : Y) (end : Cursor) → ((n : ℕ) → reads (suc n) rest ≡ Some (more, end)) → total ≡ Some (prepend items more, end)
        ends more end is = this_round ∙ ap (after items) (is (count - (i + 1)))

        pub goes_on : (x : X) (next : Cursor) → ((n : ℕ) → reads (suc n) rest ≡ with_part x (reads n next)) → after (items ++ x ∷ []) (reads (count - (i + 1)) next) ≡ total
        goes_on x next is =
            after-push items x (reads (count - (i + 1)) next) ∙ sym (this_round ∙ ap (after items) (is (count - (i + 1))))
