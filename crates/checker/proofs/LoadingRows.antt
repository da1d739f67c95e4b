-- The masks of a row, added to a state one after the other.
use Rattle.std.proofs.Common.{◌≡◌, ℕ, suc, ◌+◌, ◌<◌, ◌≤◌, Bool, true, false, ◌&&◌, List, ◌∷◌, length, get_or, drop, map, Some, option_map, refl, sym, ap, ◌∙◌, subst, arith}
use Rattle.std.specs.Prelude.{slice_get}
use Rattle.std.proofs.lemmas.Bool.{and_left}
use Rattle.std.proofs.lemmas.List.{drop_more, drop_all, length-map}
use Rattle.std.proofs.lemmas.Option.{slice_get-map, slice_get_read}
use Rattle.facts.specs.FactViews.{kind_view}
use Rattle.events.specs.declared.variable.Variable.{Variable as KeptVariable}
use Rattle.events.specs.VariableViews.{variable_view}
use Rattle.meaning.specs.BodyEvents.{Variable}
use Rattle.meaning.specs.FunctionFacts.{VariableKind, cancel, group}
use Rattle.bodies.specs.States.{has_bit, Sets, first_bit, mask_bits}
use Rattle.checker.specs.CertificateTests.{all_from, mask_in, loads}
use Rattle.checker.specs.Loaded.{next_if, place_of, is_taken, AreLoaded}
use Rattle.checker.specs.LoadingSteps.{count_in, more_if, Adds, LoadedSoFar}
use Rattle.checker.specs.declared.loaded.Loading.{Loading}
use Rattle.checker.proofs.LoadedRows.{next_place, none_loaded, next_loaded, place_first}

abbrev pub taken_at : List Variable → List ℕ → ℕ → Variable → Bool
taken_at vs masks i v = is_taken v.kind (place_of v.kind vs i) (mask_in masks i)

more_is : (kind its : VariableKind) (n : ℕ) → more_if kind its n ≡ next_if kind its n
more_is cancel cancel n = omega arith
more_is cancel group n = refl
more_is group cancel n = refl
more_is group group n = omega arith

module _ (vs : List Variable) (masks : List ℕ) where
  pub none_so_far : (s : Loading) → s.cancels ≡ 0 → s.groups ≡ 0 → ((bit : ℕ) → has_bit s.state.words bit ≡ false)
      → LoadedSoFar vs masks 0 s
  none_so_far s cancels groups none = record {
    cancels = cancels ∙ sym (place_first cancel vs);
    groups = groups ∙ sym (place_first group vs);
    are_loaded = none_loaded vs masks s.state.words none;
  }

  pub counted : (count : ℕ) (kind : VariableKind) (s : Loading) → LoadedSoFar vs masks count s
      → count_in kind s ≡ place_of kind vs count
  counted count cancel s h = h.cancels
  counted count group s h = h.groups

  pub next_so_far : (count : ℕ) (v : Variable) (a b : Loading) → slice_get vs count ≡ Some v
      → LoadedSoFar vs masks count a
      → taken_at vs masks count v ≡ true
      → Adds v.kind (mask_in masks count) a b
      → LoadedSoFar vs masks (count + 1) b
  next_so_far count v a b there h taken adds = record {
    cancels =
        adds.cancels ∙ more_is cancel v.kind a.cancels ∙ ap (next_if cancel v.kind) h.cancels
        ∙ sym (next_place cancel vs count v there)
        ∙ ap (place_of cancel vs) (let same : suc count ≡ count + 1 = omega arith in same);
    groups =
        adds.groups ∙ more_is group v.kind a.groups ∙ ap (next_if group v.kind) h.groups
        ∙ sym (next_place group vs count v there)
        ∙ ap (place_of group vs) (let same : suc count ≡ count + 1 = omega arith in same);
    are_loaded =
        next_loaded vs masks count v a.state.words b.state.words there h.are_loaded taken
        (subst (λ k. Sets (first_bit v.kind k) (mask_bits v.kind) (mask_in masks count) a.state.words b.state.words)
        (counted count v.kind a h) adds.sets);
  }

-- The loop over the variables

module _ (kept : List KeptVariable) (masks : List ℕ) where
  abbrev variables : List Variable
  variables = map variable_view kept

  abbrev test : ℕ → Variable → Bool
  test = taken_at variables masks

  -- the test of those that are left is that of all, and the masks so far are loaded
  abbrev pub IsGoing : ℕ → Loading → Type 0
  IsGoing place s =
      (all_from test place (map variable_view (drop place kept)) ≡ all_from test 0 variables)
      × LoadedSoFar variables masks place s

  module _ (place : ℕ) (v : KeptVariable) (a : Loading) (mask : ℕ) (own : Bool) (within : place < length kept)
      (is : v ≡ get_or kept place v) (is_mask : mask ≡ mask_in masks place)
      (tests : own ≡ is_taken (kind_view v.kind) (count_in (kind_view v.kind) a) mask) (going : IsGoing place a) where
    there : slice_get variables place ≡ Some (variable_view v)
    there =
        slice_get-map variable_view kept place
        ∙ ap (option_map variable_view) (slice_get_read kept (length kept) place v refl within is)

    same_test : own ≡ test place (variable_view v)
    same_test =
        tests ∙ ap (λ k. is_taken (kind_view v.kind) k mask) (counted variables masks place (kind_view v.kind) a going.1)
        ∙ ap (is_taken (kind_view v.kind) (place_of (kind_view v.kind) variables place)) is_mask

    split : all_from test place (map variable_view (drop place kept))
        ≡ (own && all_from test (place + 1) (map variable_view (drop (place + 1) kept)))
    split =
        ap (λ l. all_from test place (map variable_view l))
        (drop_more kept place v within ∙ ap (λ x. x ∷ drop (place + 1) kept) (sym is))
        ∙ ap (λ b. b && all_from test (place + 1) (map variable_view (drop (place + 1) kept))) (sym same_test)

    pub goes_on : (b : Loading) → own ≡ true → (own ≡ true → Adds (kind_view v.kind) mask a b) → IsGoing (place + 1) b
    goes_on b so adds = (
      sym (split ∙ ap (λ t. t && all_from test (place + 1) (map variable_view (drop (place + 1) kept))) so) ∙ going.0,
      next_so_far variables masks place (variable_view v) a b there going.1 (sym same_test ∙ so)
          (subst (λ m. Adds (kind_view v.kind) m a b) is_mask (adds so)),
    )

    pub stops : own ≡ false → false ≡ loads variables masks
    stops fails =
        sym (split ∙ and_left own (all_from test (place + 1) (map variable_view (drop (place + 1) kept))) fails) ∙ going.0

  pub all_tested : (place : ℕ) (s : Loading) → length kept ≤ place → IsGoing place s → true ≡ loads variables masks
  all_tested place s past going =
      sym (ap (λ l. all_from test place (map variable_view l)) (drop_all place kept past)) ∙ going.0

  pub are_all : (place : ℕ) (s : Loading) → place ≡ length kept → IsGoing place s
      → AreLoaded variables masks (length variables) s.state.words
  are_all place s end going =
      subst (λ n. AreLoaded variables masks n s.state.words) (end ∙ sym (length-map kept variable_view)) going.1.are_loaded
