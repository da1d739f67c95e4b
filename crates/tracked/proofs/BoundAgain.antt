-- The locals that marks bind again, as a table that a loop fills.
use Rattle.std.proofs.Common.{◌≡◌, ℕ, ◌+◌, ◌<◌, ◌≤◌, Bool, true, false, ◌&&◌, ◌||◌, if◌then◌else◌, List, [], ◌∷◌, length, get_or, drop, Option, Some, None, is_some, option_map, refl, sym, ap, ◌∙◌}
use Rattle.std.specs.Prelude.{◌==◌, is_none}
use Rattle.std.specs.List.{list_any}
use Rattle.std.proofs.lemmas.List.{at_drop_all}
use Rattle.tree.proofs.Depths.{drop_item}
use Rattle.mentions.specs.declared.mark.Mark.{Mark as KeptMark}
use Rattle.mentions.specs.MarkViews.{mark_view, marks_view}
use Rattle.meaning.specs.Mentions.{BodyPlace, Mention, Mark, mentions, of_fields, runs_literal, returns, opens, closes}
use Rattle.meaning.specs.Tracked.{Known, Placed, placed, outer, variable_of, declared_by, is_variable, Local, locals_of, find_local}
use Rattle.meaning.specs.Objects.{is_binding, binds_again, is_bound_again}
use Rattle.tracked.specs.declared.table.Locals.{Locals}
use Rattle.tracked.specs.declared.unbound.BoundAgain.{BoundAgain}
use Rattle.tracked.specs.LocalViews.{SeenLocal, fresh, entry_in, HasLocals, bound_by, bound_in, update_bound, unbound_local}

or_false : (b : Bool) → b ≡ (b || false)
or_false true = refl
or_false false = refl

or_true : (b : Bool) → true ≡ (b || true)
or_true true = refl
or_true false = refl

and_false : (b : Bool) → false ≡ (b && false)
and_false true = refl
and_false false = refl

and_true : (b : Bool) → b ≡ (b && true)
and_true true = refl
and_true false = refl

or_assoc : (a b c : Bool) → ((a || b) || c) ≡ (a || (b || c))
or_assoc true b c = refl
or_assoc false b c = refl

-- the local that the mention binds again is the one that it means
variable_bound : (v : Option ℕ) (t : Bool) (n : ℕ)
    → is_variable (if t then v else None) n ≡ (is_variable v n && t)
variable_bound v true n = and_true (is_variable v n)
variable_bound v false n = and_false (is_variable v n)

module _ (known : Known) (m : Mention) where
  binds-by : (n : ℕ) → is_variable (bound_by known m) n ≡ binds_again known n (mentions m)
  binds-by n = variable_bound (variable_of known m) (is_binding m.role && is_none (declared_by known m)) n

  -- one that is put
  pub one_bound : (number : ℕ) → Some number ≡ bound_by known m → (n : ℕ) (old : Option Bool)
      → is_some (update_bound number old n) ≡ (is_some old || binds_again known n (mentions m))
  one_bound number is n old =
      by (number == n) ∙ ap (λ v. is_some old || is_variable v n) is ∙ ap (λ b. is_some old || b) (binds-by n)
    where
      by : (t : Bool) → is_some (if t then Some true else old) ≡ (is_some old || t)
      by true = or_true (is_some old)
      by false = or_false (is_some old)

  pub none_bound : None ≡ bound_by known m → (n : ℕ) (old : Option Bool)
      → is_some old ≡ (is_some old || binds_again known n (mentions m))
  none_bound is n old =
      or_false (is_some old) ∙ ap (λ v. is_some old || is_variable v n) is ∙ ap (λ b. is_some old || b) (binds-by n)

module _ (known : Known) (n : ℕ) where
  -- the bodies around a mark don't matter
  any_placed : (bs : List BodyPlace) (ms : List Mark)
      → list_any (λ p. binds_again known n p.mark) (placed bs ms) ≡ list_any (binds_again known n) ms
  unfolding placed
  any_placed bs [] = refl
  any_placed bs (mentions m ∷ ms) = ap (λ b. binds_again known n (mentions m) || b) (any_placed bs ms)
  any_placed bs (of_fields site m ∷ ms) = any_placed bs ms
  any_placed bs (runs_literal moment site at ∷ ms) = any_placed bs ms
  any_placed bs (returns at es ∷ ms) = any_placed bs ms
  any_placed bs (opens b ∷ ms) = any_placed (b ∷ bs) ms
  any_placed bs (closes ∷ ms) = any_placed (outer bs) ms

  -- one more mark
  pub next_bound : (marks : List KeptMark) (i : ℕ) (m : KeptMark) → i < length marks → m ≡ get_or marks i m
      → (a b : BoundAgain) → is_some (bound_in b n) ≡ (is_some (bound_in a n) || binds_again known n (mark_view m))
      → (whole : Bool)
      → (is_some (bound_in a n) || list_any (binds_again known n) (marks_view (drop i marks))) ≡ whole
      → (is_some (bound_in b n) || list_any (binds_again known n) (marks_view (drop (i + 1) marks))) ≡ whole
  next_bound marks i m within is a b notes whole so_far =
      let rest : Bool = list_any (binds_again known n) (marks_view (drop (i + 1) marks)) in
      ap (λ t. t || rest) notes
      ∙ or_assoc (is_some (bound_in a n)) (binds_again known n (mark_view m)) rest
      ∙ sym
      (ap (λ (ms : List KeptMark). is_some (bound_in a n) || list_any (binds_again known n) (marks_view ms))
      (drop_item marks i m within is))
      ∙ so_far

  -- after the last one
  pub all_bound : (marks : List KeptMark) (i : ℕ) → length marks ≤ i → (a : BoundAgain)
      → (is_some (bound_in a n) || list_any (binds_again known n) (marks_view (drop i marks)))
      ≡ list_any (binds_again known n) (marks_view marks)
      → is_some (bound_in a n) ≡ is_bound_again known (placed [] (marks_view marks)) n
  all_bound marks i past a so_far =
      or_false (is_some (bound_in a n))
      ∙ sym
      (at_drop_all (λ (ms : List KeptMark). is_some (bound_in a n) || list_any (binds_again known n) (marks_view ms))
      marks i past)
      ∙ so_far ∙ sym (any_placed [] (marks_view marks))

local_of_fresh : (o : Option Local) → option_map (λ (e : SeenLocal). e.local) (option_map fresh o) ≡ o
local_of_fresh None = refl
local_of_fresh (Some l) = refl

-- what two tables tell, of the locals and of those that are bound again
pub tells_unbound : (known : Known) (ps qs : List Placed) → ps ≡ qs → (locals : Locals) (bound : BoundAgain)
    → HasLocals locals (locals_of known ps)
    → ((n : ℕ) → is_some (bound_in bound n) ≡ is_bound_again known ps n)
    → (n : ℕ) → (if is_some (bound_in bound n) then None else option_map (λ e. e.local) (entry_in locals.entries n))
    ≡ unbound_local known qs n
tells_unbound known ps qs same locals bound has again n =
    ap (λ t. if t then None else option_map (λ (e : SeenLocal). e.local) (entry_in locals.entries n)) (again n)
    ∙ ap (λ (o : Option Local). if is_bound_again known ps n then None else o)
    (ap (option_map (λ (e : SeenLocal). e.local)) (has.entries n) ∙ local_of_fresh (find_local (locals_of known ps) n))
    ∙ ap (λ (ps : List Placed). unbound_local known ps n) same
