-- Some list of a body comes to a return, where a table tells exactly the classes that arrive.
use Rattle.std.proofs.Common.{◌≡◌, ◌↔◌, ℕ, Bool, true, ◌&&◌, inl, inr, List, Some, IsTrue, Contains, sym, ap, ◌∙◌, subst}
use Rattle.std.specs.Prelude.{slice_get}
use Rattle.std.proofs.lemmas.Bool.{and_parts, and_from, or_cases, or_left, or_right}
use Rattle.meaning.specs.Code.{Occurrence}
use Rattle.meaning.specs.FunctionFacts.{VariableKind, cancel, group}
use Rattle.meaning.specs.Tracked.{live, idle}
use Rattle.meaning.specs.Uses.{Event}
use Rattle.meaning.specs.BodyEvents.{Variable}
use Rattle.meaning.specs.Classes.{CancelClass, unset, opened, kept, safe, pending, GroupClass, unmade, in_state, awaited}
use Rattle.flow.specs.GraphOfCode.{nodes}
use Rattle.meaning_packages.specs.PathFaults.{Paths, cancel_class, group_class, ComesBack}
use Rattle.bodies.specs.Classified.{Classifies}
use Rattle.path_faults.specs.FoundFaults.{Cancels, Groups, is_return, is_reached, some_return_is_reached}
use Rattle.path_faults.proofs.Kept.{return_of}
use Rattle.path_faults.proofs.Places.{any_witness, any_holds, passes_at, any_at}

module _ (has : CancelClass → Bool) (has_group : GroupClass → Bool) (pending_groups : List ℕ) where
  reached_class : is_reached has has_group pending_groups cancel ≡ true → (k : CancelClass) × (has k ≡ true)
  reached_class e =
      elim (or_cases (has unset) _ e) [
        | inl h ↦ (unset, h)
        | inr a ↦
            elim (or_cases (has opened) _ a) [
              | inl h ↦ (opened, h)
              | inr b ↦
                  elim (or_cases (has kept) _ b) [
                    | inl h ↦ (kept, h)
                    | inr c ↦
                        elim (or_cases (has safe) _ c) [
                          | inl h ↦ (safe, h)
                          | inr some ↦ let w = any_witness (λ g. has (pending g)) pending_groups some in (pending w.0, w.2)
                        ]
                  ]
            ]
      ]

  reached_group : is_reached has has_group pending_groups group ≡ true → (k : GroupClass) × (has_group k ≡ true)
  reached_group e =
      elim (or_cases (has_group unmade) _ e) [
        | inl h ↦ (unmade, h)
        | inr a ↦
            elim (or_cases (has_group (in_state idle)) _ a) [
              | inl h ↦ (in_state idle, h)
              | inr b ↦
                  elim (or_cases (has_group (in_state live)) _ b) [
                    | inl h ↦ (in_state live, h)
                    | inr h ↦ (awaited, h)
                  ]
            ]
      ]

  class_reached : ((g : ℕ) → has (pending g) ≡ true → Contains pending_groups g) → (k : CancelClass) → has k ≡ true
      → is_reached has has_group pending_groups cancel ≡ true
  class_reached all unset h = or_left (has unset) _ h
  class_reached all opened h = or_right (has unset) _ (or_left (has opened) _ h)
  class_reached all kept h = or_right (has unset) _ (or_right (has opened) _ (or_left (has kept) _ h))
  class_reached all safe h =
      or_right (has unset) _ (or_right (has opened) _ (or_right (has kept) _ (or_left (has safe) _ h)))
  class_reached all (pending g) h =
      or_right (has unset) _ (or_right (has opened) _ (or_right (has kept) _ (or_right (has safe) _
      (any_holds (λ g. has (pending g)) pending_groups g (all g h) h))))

  group_reached : (k : GroupClass) → has_group k ≡ true → is_reached has has_group pending_groups group ≡ true
  group_reached unmade h = or_left (has_group unmade) _ h
  group_reached (in_state idle) h = or_right (has_group unmade) _ (or_left (has_group (in_state idle)) _ h)
  group_reached (in_state live) h =
      or_right (has_group unmade) _ (or_right (has_group (in_state idle)) _ (or_left (has_group (in_state live)) _ h))
  group_reached awaited h =
      or_right (has_group unmade) _ (or_right (has_group (in_state idle)) _ (or_right (has_group (in_state live)) _ h))

module _ (b : Paths) (cancels : Cancels) (groups : Groups) (pending_groups : List ℕ)
    (tells : Classifies b.code b.promises b.variables cancels groups)
    (all : (i n g : ℕ) → cancels i n (pending g) ≡ true → Contains pending_groups g)
    (i : ℕ) (v : Variable) (there : slice_get b.variables i ≡ Some v) where
  abbrev os : List (Occurrence Event)
  os = nodes b.code

  abbrev test : VariableKind → ℕ → Occurrence Event → Bool
  test k n o = is_return o.event && is_reached (cancels i n) (groups i n) pending_groups k

  came : (k : VariableKind) → v.kind ≡ k → some_return_is_reached cancels groups pending_groups os i k ≡ true → ComesBack b
  came cancel kind e =
      let w = passes_at (test cancel) os e in
      let parts = and_parts (is_return w.element.event) (is_reached (cancels i w.place) (groups i w.place) pending_groups cancel) w.passes in
      let returns = return_of w.element.event parts.0 in
      let class = reached_class (cancels i w.place) (groups i w.place) pending_groups parts.1 in
      let it = (tells.of_cancel i v there kind).found w.place w.element class.0 w.is_there class.1 in
      record {
        handed = returns.0;
        list = it.before;
        there = w.element;
        comes = record { reaches = it.reaches; is_return = returns.1 };
      }
  came group kind e =
      let w = passes_at (test group) os e in
      let parts = and_parts (is_return w.element.event) (is_reached (cancels i w.place) (groups i w.place) pending_groups group) w.passes in
      let returns = return_of w.element.event parts.0 in
      let class = reached_group (cancels i w.place) (groups i w.place) pending_groups parts.1 in
      let it = (tells.of_group i v there kind).found w.place w.element class.0 w.is_there class.1 in
      record {
        handed = returns.0;
        list = it.before;
        there = w.element;
        comes = record { reaches = it.reaches; is_return = returns.1 };
      }

  back : (k : VariableKind) → v.kind ≡ k → ComesBack b → some_return_is_reached cancels groups pending_groups os i k ≡ true
  back cancel kind c =
      let it = (tells.of_cancel i v there kind).kept c.list c.there c.comes.reaches in
      any_at (test cancel) os it.node c.there it.is_node
      (and_from (is_return c.there.event) (is_reached (cancels i it.node) (groups i it.node) pending_groups cancel)
      (ap is_return c.comes.is_return)
      (class_reached (cancels i it.node) (groups i it.node) pending_groups (all i it.node) (cancel_class b v c.list) it.is_marked))
  back group kind c =
      let it = (tells.of_group i v there kind).kept c.list c.there c.comes.reaches in
      any_at (test group) os it.node c.there it.is_node
      (and_from (is_return c.there.event) (is_reached (cancels i it.node) (groups i it.node) pending_groups group)
      (ap is_return c.comes.is_return)
      (group_reached (cancels i it.node) (groups i it.node) pending_groups (group_class b v c.list) it.is_marked))

-- of what the program keeps
pub comes_are : (cancels : Cancels) (groups : Groups) (pending_groups : List ℕ)
    → ((i n g : ℕ) → cancels i n (pending g) ≡ true → Contains pending_groups g)
    → (occurrences : List (Occurrence Event)) (i : ℕ) (reached : Bool) (kind : VariableKind)
    → reached ≡ some_return_is_reached cancels groups pending_groups occurrences i kind
    → (b : Paths) → occurrences ≡ nodes b.code → Classifies b.code b.promises b.variables cancels groups
    → (v : Variable) → slice_get b.variables i ≡ Some v → v.kind ≡ kind → IsTrue reached ↔ ComesBack b
comes_are cancels groups pending_groups all occurrences i reached kind is b same_nodes tells v there same_kind =
    let same : reached ≡ some_return_is_reached cancels groups pending_groups (nodes b.code) i kind =
    is ∙ ap (λ ns. some_return_is_reached cancels groups pending_groups ns i kind) same_nodes in (
      λ e. came b cancels groups pending_groups tells all i v there kind same_kind (sym same ∙ e),
      λ c. same ∙ back b cancels groups pending_groups tells all i v there kind same_kind c,
    )
