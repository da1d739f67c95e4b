-- The mask of a variable that has a place is changed by what nodes make of the variable's classes.
use Rattle.std.proofs.Common.{◌≡◌, ◌↔◌, ℕ, ◌+◌, ◌<◌, ◌≤◌, Bool, true, ◌&&◌, List, [], ◌∷◌, length, Option, Some, None, Contains, refl, sym, ap, ◌∙◌, subst, arith, inl, inr}
use Rattle.std.proofs.lemmas.Bool.{eqb-true, eq-eqb, lt-ltb}
use Rattle.std.proofs.lemmas.Option.{same_Some, slice_get_within}
use Rattle.std.specs.Prelude.{slice_get, nat_eq, nat_lt, option_and_then, unwrap_or}
use Rattle.bodies.specs.NodeEvents.{node_event_view, events_graph}
use Rattle.bodies.specs.declared.node.NodeEvent.{NodeEvent}
use Rattle.bodies.specs.declared.node.NodeEvent.TheVariants.{Other, FallsOff, Does}
use Rattle.flow.specs.GraphViews.{graph_view}
use Rattle.flow.specs.declared.graph.Graph.{Graph as KeptGraph}
use Rattle.bodies.proofs.ChangedGraphs.{tells_changed}
use Rattle.bodies.specs.Carried.{TellsReached}
use Rattle.bodies.specs.Flags.{cancel_entry, group_entry}
use Rattle.bodies.specs.JoinedStates.{words_at, has_at, IsImageOf, IsColumn, TellsColumns}
use Rattle.bodies.specs.Places.{IsOnly, IsPlaced, IsPlacedAs, IsPlacedIf, ArePlaced}
use Rattle.bodies.specs.Solutions.{packed_for, FindsKind}
use Rattle.bodies.specs.declared.places.Places.{Places}
use Rattle.meaning.proofs.Membership.{contains_here, contains_cases, contains_nil}
use Rattle.meaning.specs.BodyEvents.{Variable, VariableRole, own_parameter, own_receiver, declared_in_body, captured}
use Rattle.meaning.specs.Classes.{Promises, change_cancel, GroupClass, entry_group, change_group}
use Rattle.meaning.specs.FunctionFacts.{VariableKind, cancel, group}
use Rattle.meaning.specs.Uses.{Event}
use Rattle.bodies.proofs.ChangedMasks.{cancel_stays, group_stays}
use Rattle.bodies.proofs.ClassNumbers.{cancel_inverse, group_inverse, group_within}
use Rattle.bodies.specs.Bits.{cancel_bit, cancel_class, group_bit, group_class}
use Rattle.bodies.specs.BitSteps.{bit_after, cancel_step, group_step}
use Rattle.bodies.specs.Masks.{bit_of_group}
use Rattle.bodies.specs.States.{mask_from, cancel_first, group_first, IsImage, Fit}
use Rattle.bodies.specs.declared.state.State.{State}
use Rattle.bodies.specs.declared.state.StateVariables.{StateVariables}

-- Bits that stand for classes

abbrev pub is_same : Option ℕ → ℕ → Bool
is_same None bit = true
is_same (Some other) bit = nat_eq other bit

module _ {K : Type 0} (class_of : ℕ → Option K) (bit_of : K → Option ℕ) where
  -- the bit is that of its class, or stands for none
  abbrev pub usual_bit : ℕ → Bool
  usual_bit bit = is_same (option_and_then bit_of (class_of bit)) bit

  module _ (there : (k : K) (bit : ℕ) → bit_of k ≡ Some bit → class_of bit ≡ Some k) where
    usual_of : (k : K) (bit : ℕ) → bit_of k ≡ Some bit → usual_bit bit ≡ true
    usual_of k bit e =
        ap (λ o. is_same (option_and_then bit_of o) bit) (there k bit e)
        ∙ ap (λ o. is_same o bit) e
        ∙ eq-eqb bit bit refl

    module _ (change : K → K) (bit : ℕ) (h : usual_bit bit ≡ true) where
      by_bit : (k : K) (o : Option ℕ) → bit_of (change k) ≡ o → usual_bit (unwrap_or o bit) ≡ true
      by_bit k None e = h
      by_bit k (Some to) e = usual_of (change k) to e

      by_class : (o : Option K) → usual_bit (unwrap_or (option_and_then (λ k. bit_of (change k)) o) bit) ≡ true
      by_class None = h
      by_class (Some k) = by_bit k (bit_of (change k)) refl

      keeps_usual : usual_bit (bit_after class_of bit_of change bit) ≡ true
      keeps_usual = by_class (class_of bit)

  -- what changes no class leaves each usual bit where it is
  module _ (change : K → K) (changes_none : (k : K) → change k ≡ k) (bit : ℕ) where
    same_bit : (o : Option ℕ) → is_same o bit ≡ true → unwrap_or o bit ≡ bit
    same_bit None e = refl
    same_bit (Some other) e = eqb-true other bit e

    same_class : (o : Option K) → is_same (option_and_then bit_of o) bit ≡ true
        → unwrap_or (option_and_then (λ k. bit_of (change k)) o) bit ≡ bit
    same_class None e = refl
    same_class (Some k) e = ap (λ l. unwrap_or (bit_of l) bit) (changes_none k) ∙ same_bit (bit_of k) e

    stays_there : usual_bit bit ≡ true → bit_after class_of bit_of change bit ≡ bit
    stays_there e = same_class (class_of bit) e

-- a step that leaves each bit of a mask where it is takes the mask to itself
own_image : (count : ℕ) (step : ℕ → ℕ) (mask : ℕ → Bool)
    → ((bit : ℕ) → bit < count → mask bit ≡ true → step bit ≡ bit)
    → IsImage count step mask mask
own_image count step mask fixed to l = (
  λ e. (to, l, e, fixed to l e),
  λ w. subst (λ bit. mask bit ≡ true) (sym (fixed w.0 w.1 w.2) ∙ w.3) w.2,
)

-- An entry of one bit

only_entry : (count only first : ℕ) (words : List ℕ) → IsOnly count words first only → (bit : ℕ) → bit < count
    → (mask_from words first bit ≡ true) ↔ Contains (only ∷ []) bit
only_entry count only first words is bit l = (
  λ e. subst (λ b. Contains (only ∷ []) b) (sym (eqb-true bit only (sym (is bit l) ∙ e))) (contains_here only []),
  λ c. elim (contains_cases only bit [] c) [
    | inl same ↦ is bit l ∙ eq-eqb bit only (sym same)
    | inr none ↦ absurd (contains_nil bit none)
  ],
)

only_is : (P : ℕ → Type 0) (only : ℕ) → P only → (bit : ℕ) → Contains (only ∷ []) bit → P bit
only_is P only h bit c =
    elim (contains_cases only bit [] c) [
      | inl same ↦ subst P same h
      | inr none ↦ absurd (contains_nil bit none)
    ]

-- Columns

module _ (p : Promises) (vs : StateVariables) (fits : Fit vs) (entry : List ℕ) where
  module _ (v : Variable) (first : ℕ)
      (h : IsPlaced 16 cancel_first vs.cancels.now entry v.number first (cancel_entry v.role)) where
    abbrev groups : List ℕ
    groups = vs.pending.now

    abbrev cancel_of_node : NodeEvent → ℕ → ℕ
    cancel_of_node e = cancel_step p v.number groups (node_event_view e)

    entry_small : (role : VariableRole) → cancel_entry role < 16
    entry_small (own_parameter k) = omega arith
    entry_small own_receiver = omega arith
    entry_small declared_in_body = omega arith
    entry_small captured = omega arith

    entry_usual : (role : VariableRole) → usual_bit (cancel_class groups) (cancel_bit groups) (cancel_entry role) ≡ true
    entry_usual (own_parameter k) = refl
    entry_usual own_receiver = refl
    entry_usual declared_in_body = refl
    entry_usual captured = refl

    cancel_images : (e : NodeEvent) (before after : List ℕ)
        → IsImageOf p vs e before after
        → ((bit : ℕ) → bit < 16 → mask_from before first bit ≡ true → usual_bit (cancel_class groups) (cancel_bit groups) bit ≡ true)
        → IsImage 16 (cancel_of_node e) (mask_from before first) (mask_from after first)
    cancel_images Other before after same usual =
        subst (λ ws. IsImage 16 (cancel_of_node Other) (mask_from before first) (mask_from ws first)) (sym same)
        (own_image 16 (cancel_of_node Other) (mask_from before first)
        (λ bit l e. stays_there (cancel_class groups) (cancel_bit groups) (change_cancel p v.number (node_event_view Other)) (λ _. refl) bit (usual bit l e)))
    cancel_images FallsOff before after same usual =
        subst (λ ws. IsImage 16 (cancel_of_node FallsOff) (mask_from before first) (mask_from ws first)) (sym same)
        (own_image 16 (cancel_of_node FallsOff) (mask_from before first)
        (λ bit l e. stays_there (cancel_class groups) (cancel_bit groups) (change_cancel p v.number (node_event_view FallsOff)) (λ _. refl) bit (usual bit l e)))
    cancel_images (Does e) before after applies usual =
        subst (λ f. IsImage 16 (cancel_of_node (Does e)) (mask_from before f) (mask_from after f)) (sym h.is_first)
        (applies.cancels h.place v.number h.is_number)

    pub cancel_column : IsColumn p vs entry first 16 cancel_of_node (cancel_entry v.role ∷ [])
        (usual_bit (cancel_class groups) (cancel_bit groups))
    cancel_column = record {
      stays = λ e. cancel_stays p v.number groups (node_event_view e);
      small = only_is (λ bit. bit < 16) (cancel_entry v.role) (entry_small v.role);
      is_entry = only_entry 16 (cancel_entry v.role) first entry h.entry;
      begins = only_is (λ bit. usual_bit (cancel_class groups) (cancel_bit groups) bit ≡ true) (cancel_entry v.role) (entry_usual v.role);
      keeps = λ e bit u. keeps_usual (cancel_class groups) (cancel_bit groups) (cancel_inverse groups).there (change_cancel p v.number (node_event_view e)) bit u;
      images = cancel_images;
    }

  module _ (v : Variable) (first : ℕ)
      (h : IsPlaced 4 group_first vs.groups.now entry v.number first (group_entry v.role)) where
    abbrev group_of_node : NodeEvent → ℕ → ℕ
    group_of_node e = group_step p v.number (node_event_view e)

    group_there : (k : GroupClass) (bit : ℕ) → bit_of_group k ≡ Some bit → group_class bit ≡ Some k
    group_there k bit e = subst (λ b. group_class b ≡ Some k) (same_Some (group_bit k) bit e) (group_inverse.there k)

    group_images : (e : NodeEvent) (before after : List ℕ)
        → IsImageOf p vs e before after
        → ((bit : ℕ) → bit < 4 → mask_from before first bit ≡ true → usual_bit group_class bit_of_group bit ≡ true)
        → IsImage 4 (group_of_node e) (mask_from before first) (mask_from after first)
    group_images Other before after same usual =
        subst (λ ws. IsImage 4 (group_of_node Other) (mask_from before first) (mask_from ws first)) (sym same)
        (own_image 4 (group_of_node Other) (mask_from before first)
        (λ bit l e. stays_there group_class bit_of_group (change_group p v.number (node_event_view Other)) (λ _. refl) bit (usual bit l e)))
    group_images FallsOff before after same usual =
        subst (λ ws. IsImage 4 (group_of_node FallsOff) (mask_from before first) (mask_from ws first)) (sym same)
        (own_image 4 (group_of_node FallsOff) (mask_from before first)
        (λ bit l e. stays_there group_class bit_of_group (change_group p v.number (node_event_view FallsOff)) (λ _. refl) bit (usual bit l e)))
    group_images (Does e) before after applies usual =
        subst (λ f. IsImage 4 (group_of_node (Does e)) (mask_from before f) (mask_from after f)) (sym h.is_first)
        (applies.groups h.place v.number h.is_number)

    pub group_column : IsColumn p vs entry first 4 group_of_node (group_entry v.role ∷ [])
        (usual_bit group_class bit_of_group)
    group_column = record {
      stays = λ e. group_stays p v.number (node_event_view e);
      small = only_is (λ bit. bit < 4) (group_entry v.role) (group_within (entry_group v.role));
      is_entry = only_entry 4 (group_entry v.role) first entry h.entry;
      begins = only_is (λ bit. usual_bit group_class bit_of_group bit ≡ true) (group_entry v.role)
          (usual_of group_class bit_of_group group_there (entry_group v.role) (group_entry v.role) refl);
      keeps = λ e bit u. keeps_usual group_class bit_of_group group_there (change_group p v.number (node_event_view e)) bit u;
      images = group_images;
    }

-- What the states tell of each variable

-- fewer bits, and by a table that says the same of these
told_by : (g : KeptGraph NodeEvent) (step : Event → ℕ → ℕ) (count width : ℕ) (entries : List ℕ) (has found : ℕ → ℕ → Bool)
    → width ≤ count
    → ((n i : ℕ) → i < width → found n i ≡ has n i)
    → TellsReached (graph_view g) (λ e. step (node_event_view e)) count entries has
    → TellsReached (events_graph g) step width entries found
told_by g step count width entries has found fewer same told =
    tells_changed node_event_view (graph_view g) step entries width found (record {
      at = λ n i l w.
          let is = told.at n i l (omega (arith, w, fewer)) in
          (λ e. is.0 (sym (same n i w) ∙ e), λ r. same n i w ∙ is.1 r);
    })

found_there : (states : List State) (first i n : ℕ) → first < 832 → i < 16
    → packed_for states (Some first) n i ≡ has_at states n (first + i)
found_there states first i n l small =
    ap (λ t. t && (nat_lt i 16 && has_at states n (first + i))) (lt-ltb first 832 l)
    ∙ ap (λ t. t && has_at states n (first + i)) (lt-ltb i 16 small)

module _ (p : Promises) (g : KeptGraph NodeEvent) (vs : List Variable) (s : Places) (kept : StateVariables)
    (fits : Fit kept) (cancels : kept.cancels.now ≡ s.cancels.items) (groups : kept.groups.now ≡ s.groups.items)
    (states : List State) (told : TellsColumns p kept s.entry.words g states) where
  finds_as : (v : Variable) (first : ℕ) (kind : VariableKind)
      → IsPlacedAs s v first kind
      → FindsKind kind p kept.pending.now g v (packed_for states (Some first))
  finds_as v first cancel h =
      let at = subst (λ ns. IsPlaced 16 cancel_first ns s.entry.words v.number first (cancel_entry v.role)) (sym cancels) h in
      let many = fits.cancels in
      let is = h.is_first in
      let within = slice_get_within kept.cancels.now at.place v.number at.is_number in
      told_by g (cancel_step p v.number kept.pending.now) 16 16
      (cancel_entry v.role ∷ []) (λ n bit. mask_from (words_at states n) first bit) (packed_for states (Some first))
      (omega arith)
      (λ n i l. found_there states first i n (omega (arith, is, within, many)) l)
      (told first 16 (λ e. cancel_step p v.number kept.pending.now (node_event_view e)) (cancel_entry v.role ∷ [])
      (usual_bit (cancel_class kept.pending.now) (cancel_bit kept.pending.now))
      (cancel_column p kept fits s.entry.words v first at))
  finds_as v first group h =
      let at = subst (λ ns. IsPlaced 4 group_first ns s.entry.words v.number first (group_entry v.role)) (sym groups) h in
      let many = fits.groups in
      let is = h.is_first in
      let within = slice_get_within kept.groups.now at.place v.number at.is_number in
      told_by g (group_step p v.number) 4 4 (group_entry v.role ∷ [])
      (λ n bit. mask_from (words_at states n) first bit) (packed_for states (Some first)) (omega arith)
      (λ n i l. found_there states first i n (omega (arith, is, within, many)) (omega (arith, l)))
      (told first 4 (λ e. group_step p v.number (node_event_view e)) (group_entry v.role ∷ [])
      (usual_bit group_class bit_of_group) (group_column p kept fits s.entry.words v first at))

  finds_if : (v : Variable) (o : Option ℕ)
      → IsPlacedIf s v o
      → FindsKind v.kind p kept.pending.now g v (packed_for states o)
  finds_if v None h = absurd h
  finds_if v (Some first) h = finds_as v first v.kind h

  pub finds_each : ArePlaced vs (length vs) s
      → (i : ℕ) (v : Variable)
      → slice_get vs i ≡ Some v
      → FindsKind v.kind p kept.pending.now g v (packed_for states (slice_get s.firsts.items i))
  finds_each placed i v is = finds_if v (slice_get s.firsts.items i) (placed.each i v (slice_get_within vs i v is) is)
