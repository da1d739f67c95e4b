-- Chains of imports that meet no package twice come to an end.
use Rattle.std.proofs.Common.{◌≡◌, ℕ, zero, suc, ◌+◌, ◌<◌, Bool, true, false, not, cond, inl, inr, List, length, get_or, set, replicate, refl, ap, ◌∙◌, sym, subst, arith, true≢false}
use Rattle.std.specs.Prelude.{count_by}
use Rattle.std.proofs.lemmas.Bool.{cases_eq, cases_lt}
use Rattle.std.proofs.lemmas.List.{length-set, get_or-set_other, get_or_past, length-replicate, get_or-replicate}
use Rattle.std.proofs.lemmas.List.Sums.{sum_by-set}
use Rattle.imports.specs.Ranks.{Package, Imports, Chain, ends, goes_on, HasRank}

module _ (packages : List Package) where
  pub one_more : (i j k : ℕ) → Chain packages i j → Imports packages j k → Chain packages i k
  one_more i j k ends h = goes_on h ends
  one_more i j k (goes_on {j = m} a c) h = goes_on a (one_more m j k c h)

  -- a walk along imports: where it is now, and marks for the packages from which a chain goes there
  record Walk (i : ℕ) (marks : List Bool) (here : ℕ) : Type 0 where
    within : length marks ≡ length packages
    arrived : Chain packages i here
    marked : (m : ℕ) → get_or marks m false ≡ true → Chain packages m here

  module _ (i : ℕ) (ranked : HasRank packages i) where
    went : (marks : List Bool) (here next : ℕ)
        → Walk i marks here
        → Imports packages here next
        → next < length packages
        → Walk i (set marks next true) next
    went marks here next w h l = record {
      within = length-set marks next true ∙ w.within;
      arrived = one_more i here next w.arrived h;
      marked = λ m e. elim (cases_eq m next) [
        | inl p ↦ subst (λ n. Chain packages n next) (sym p) ends
        | inr d ↦ one_more m here next (w.marked m (sym (get_or-set_other marks next m true false d) ∙ e)) h
      ];
    }

    -- what is imported was not met before
    not_met : (marks : List Bool) (here next : ℕ) (b : Bool)
        → Walk i marks here
        → Imports packages here next
        → get_or marks next false ≡ b
        → b ≡ false
    not_met marks here next true w h e = absurd (ranked here next w.arrived h (w.marked next e))
    not_met marks here next false w h e = refl

    fewer_left : (marks : List Bool) (next : ℕ)
        → next < length marks
        → get_or marks next false ≡ false
        → count_by not (set marks next true) + 1 ≡ count_by not marks
    fewer_left marks next l e =
        let one : cond {A = ℕ} (not (get_or marks next false)) 1 0 ≡ 1 = ap (λ (b : Bool). cond {A = ℕ} (not b) 1 0) e in
        let all : count_by not (set marks next true) + cond {A = ℕ} (not (get_or marks next false)) 1 0
        ≡ count_by not marks + 0 =
        sum_by-set (λ (b : Bool). cond (not b) 1 0) marks next true false l in
        omega arith

    -- where each package without a property imports another one without it, the walk would not end
    module _ (Without : ℕ → Type 0)
        (further : (m : ℕ) → m < length packages → Without m
        → (n : ℕ) × Imports packages m n × (n < length packages) × Without n) where
      less_left : (marks : List Bool) (here : ℕ)
          → Walk i marks here
          → (next : (n : ℕ) × Imports packages here n × (n < length packages) × Without n)
          → count_by not (set marks next.0 true) + 1 ≡ count_by not marks
      less_left marks here w next =
          let long : length marks ≡ length packages = w.within in
          let low : next.0 < length packages = next.2 in
          fewer_left marks next.0 (omega arith) (not_met marks here next.0 (get_or marks next.0 false) w next.1 refl)

      no_end : (left : ℕ) (marks : List Bool) (here : ℕ)
          → count_by not marks ≡ left
          → Walk i marks here
          → here < length packages
          → Without here
          → ⊥
      no_end zero marks here e w l without =
          let less = less_left marks here w (further here l without) in omega (arith, less)
      no_end (suc left) marks here e w l without =
          let next = further here l without in
          let less = less_left marks here w next in
          no_end left (set marks next.0 true) next.0 (omega (arith, less)) (went marks here next.0 w next.1 next.2) next.2 next.3

      unmarked : (m : ℕ) → get_or (replicate (length packages) false) m false ≡ false
      unmarked m =
          elim (cases_lt m (length packages)) [
            | inl l ↦ get_or-replicate (length packages) m false false l
            | inr past ↦ get_or_past (replicate (length packages) false) m false
                (let long : length (replicate {A = Bool} (length packages) false) ≡ length packages =
                length-replicate (length packages) false in
                omega arith)
          ]

      begins : Walk i (set (replicate (length packages) false) i true) i
      begins = record {
        within = length-set (replicate (length packages) false) i true ∙ length-replicate (length packages) false;
        arrived = ends;
        marked = λ m e. elim (cases_eq m i) [
          | inl p ↦ subst (λ n. Chain packages n i) (sym p) ends
          | inr d ↦ absurd (true≢false
              (sym e ∙ get_or-set_other (replicate (length packages) false) i m true false d ∙ unmarked m))
        ];
      }

      pub cannot_be_without : i < length packages → Without i → ⊥
      cannot_be_without l without =
          no_end (count_by not (set (replicate (length packages) false) i true))
          (set (replicate (length packages) false) i true) i refl begins l without
