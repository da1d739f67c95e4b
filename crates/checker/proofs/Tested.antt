-- What the program tests of a certificate is what is meant.
use Rattle.std.proofs.Common.{◌≡◌, ◌↔◌, ◌==◌, ℕ, zero, suc, Bool, true, false, not, ◌&&◌, ◌||◌, IsTrue, List, [], ◌∷◌, length, Option, Some, None, nat_eq, Contains, refl, sym, ap, ◌∙◌, subst, true≢false, arith, inl, inr, lt_of_lt_of_le, pow_mono}
use Rattle.std.specs.Prelude.{slice_get, slice_index_or}
use Rattle.std.specs.List.{AllByRecursion, list_all}
use Rattle.tree.specs.declared.edition.Edition.{Edition}
use Rattle.tree.specs.declared.edition.Edition.TheVariants.{First, Second}
use Rattle.std.proofs.lemmas.Bool.{false≢true, and_parts, and_from, or_cases, or_left, or_right, not-true, not_from_false, false_from_ne_true, eqb-true, eq-eqb, lt-ltb}
use Rattle.meaning.specs.Code.{Occurrence}
use Rattle.meaning.specs.FunctionFacts.{VariableKind, cancel, group}
use Rattle.meaning.specs.Tracked.{GroupState, live}
use Rattle.meaning.specs.Uses.{VariableAt, Handed, Event, other, obtain, obtain_kept, renew, keep, call_kept, defer_kept, give, give_field, clear, call, defer_call, pass, defer_pass, lend, start, try, wait, defer_wait, make, defer_literal, go, return_event, is_cancel, is_group}
use Rattle.meaning.specs.BodyEvents.{Variable, too_many_faults}
use Rattle.meaning.specs.Classes.{CancelClass, opened, kept, pending, entry_cancel, change_cancel, in_state, entry_group, change_group}
use Rattle.meaning_packages.specs.Credits.{is_live}
use Rattle.meaning_packages.specs.PathFaults.{BindsCancel, obtains, obtains_into, clears, is_declared, is_handed, is_handed_kept, is_lost}
use Rattle.path_faults.specs.FoundFaults as found
use Rattle.path_faults.specs.FoundFaults.{Cancels, Groups, deed_of, is_return_deed, is_return, is_live_group, may_be_lost, is_left_to, is_uncalled, is_open_there, owes_call, is_fault}
use Rattle.path_faults.proofs.Kept.{cancel_kind, group_kind, is_cancel_kind, is_group_kind, not_handed, return_of, lost_has, has_lost, settled_safe, settled_at_rest, unsettled_class}
use Rattle.path_faults.proofs.Places.{place_of as place_of_element, contains_at, any_witness, any_holds, passes_at, any_at}
use Rattle.bodies.specs.Bits.{group_class}
use Rattle.bodies.specs.Masks.{HasKnownBits, Has, GoesInto, bit_of_group}
use Rattle.bodies.specs.MaskTests.{has_known_bits, may_be_cancel, may_be_group}
use Rattle.bodies.proofs.ChangedClasses.{StartsAmong}
use Rattle.bodies.proofs.MaskedClasses.{known_bits, has_is, may_be_is, pending_among, group_may_be_is}
use Rattle.bodies.specs.States.{has_place}
use Rattle.checker.proofs.FewVariables.{few_cancels, few_own, few_is, with_bits, bits_fit}
use Rattle.checker.proofs.LoadedRows.{place_below}
use Rattle.checker.proofs.SteppedClasses.{cancels_go, groups_go, bits_go, cancel_stands, group_stands}
use Rattle.checker.proofs.SteppedMasks.{known_cancel, known_group, steps_told, steps_tested}
use Rattle.checker.proofs.TestedLists.{members, all_members, by_recursion, at_each, each_at, zip_each, each_zip, at_edge, edge_each}
use Rattle.checker.specs.Certificates.{CheckedBody, groups_with_bits, class_of_bit, bit_of_class, masks_in, row_from, masks_at, mask_at, StartsWithBits, IsRow, HasRows, IsClosedFor, is_claimed, IsOwed, is_kept, has_claim, MayBeCancel, MayBeLive, MayBeUncalled, is_open, is_left, IsFault, loses_cancel, loses_group, returns_live, returns_uncalled, returns_kept, Holds, IsSettledBy, SettlesIn}
use Rattle.checker.specs.CertificateTests as tested
use Rattle.checker.specs.Loaded.{numbers_of, place_of, is_taken, step_of, steps_into}
use Rattle.checker.specs.CertificateTests.{all_from, mask_in, is_row, has_rows, has_entry, has_entries, loads, all_step_into, have_places, starts_among, all_start_among, cancels_told, groups_told, lives_told, breaks_claim, is_broken, node_breaks, starts_hold, edges_hold, has_fault, breaks_settling}

-- Rows

row_is : (edition : Edition) (vs : List Variable) (row : List ℕ) → IsTrue (is_row edition vs row) ↔ IsRow edition vs row
row_is edition vs row = (known, tested_so)
  where
    test : ℕ → Variable → Bool
    test i v = has_known_bits edition v.kind (mask_in row i)

    Known : Variable → ℕ → Type 0
    Known v mask = HasKnownBits edition v.kind mask

    known : is_row edition vs row ≡ true → IsRow edition vs row
    known e =
        let parts = and_parts (length row == length vs) (all_from test 0 vs) e in
        each_zip Known 0 vs row (eqb-true (length row) (length vs) parts.0)
        (λ i v there. (known_bits edition v.kind (mask_in row i)).0 (at_each test vs parts.1 i v there))

    tested_so : IsRow edition vs row → is_row edition vs row ≡ true
    tested_so h =
        let parts = zip_each Known 0 vs row h in
        and_from (length row == length vs) (all_from test 0 vs) (eq-eqb (length row) (length vs) parts.0)
        (each_at test vs (λ i v there. (known_bits edition v.kind (mask_in row i)).1 (parts.1 i v there)))

-- Groups in which literals are started

starts_so : (groups : List ℕ) (e : Event) → StartsAmong groups e → starts_among groups e ≡ true
starts_so groups (start g (Some literal)) among =
    any_holds (λ h. nat_eq h g) groups g (among g literal refl) (eq-eqb g g refl)
starts_so groups (start g None) among = refl
starts_so groups other among = refl
starts_so groups (obtain u f k d) among = refl
starts_so groups (obtain_kept u f k x) among = refl
starts_so groups (renew u x) among = refl
starts_so groups (keep u x) among = refl
starts_so groups (call_kept u x) among = refl
starts_so groups (defer_kept u x) among = refl
starts_so groups (give u x) among = refl
starts_so groups (give_field u) among = refl
starts_so groups (clear u) among = refl
starts_so groups (call u) among = refl
starts_so groups (defer_call u) among = refl
starts_so groups (pass u f k) among = refl
starts_so groups (defer_pass u f k) among = refl
starts_so groups (lend g f k) among = refl
starts_so groups (try g literal) among = refl
starts_so groups (wait g) among = refl
starts_so groups (defer_wait g) among = refl
starts_so groups (make u state) among = refl
starts_so groups (defer_literal literal) among = refl
starts_so groups (go work) among = refl
starts_so groups (return_event handed) among = refl

so_started : (groups : List ℕ) (e : Event) → starts_among groups e ≡ true → StartsAmong groups e
so_started groups e h g literal is =
    let w = any_witness (λ x. nat_eq x g) groups (sym (ap (starts_among groups) is) ∙ h) in
    subst (Contains groups) (eqb-true w.0 g w.2) w.1

-- The masks at a node

no_known : (kind : VariableKind) → has_known_bits Second kind 0 ≡ true
no_known cancel = refl
no_known group = refl

abbrev AreKnown : List Variable → List ℕ → Type 0
AreKnown vs row = (i : ℕ) (v : Variable) → slice_get vs i ≡ Some v
    → has_known_bits Second v.kind (mask_in row i) ≡ true

-- the second edition has all bits that the first has
more_known : (edition : Edition) (kind : VariableKind) (mask : ℕ) → HasKnownBits edition kind mask
    → HasKnownBits Second kind mask
more_known First cancel mask h = lt_of_lt_of_le h (pow_mono {i = 15} {j = 16} (omega arith))
more_known First group mask h = h
more_known Second kind mask h = h

module _ (edition : Edition) (vs : List Variable) where
  row_known : (row : List ℕ) → IsRow edition vs row → AreKnown vs row
  row_known row h i v at =
      (known_bits Second v.kind (mask_in row i)).1
      (more_known edition v.kind (mask_in row i)
      ((zip_each (λ (v : Variable) mask. HasKnownBits edition v.kind mask) 0 vs row h).1 i v at))

  rows_known : (states : List (List ℕ)) (row : ℕ) → AllByRecursion (IsRow edition vs) states
      → AreKnown vs (slice_index_or states row [])
  rows_known [] row all = λ i v at. no_known v.kind
  rows_known (s ∷ ss) zero all = row_known s all.0
  rows_known (s ∷ ss) (suc row) all = rows_known ss row all.1

  masks_known : (states : List (List ℕ)) (o : Option ℕ) → AllByRecursion (IsRow edition vs) states
      → AreKnown vs (masks_in states o)
  masks_known states None all = λ i v at. no_known v.kind
  masks_known states (Some row) all = rows_known states row all

has_places : (vs : List Variable) → too_many_faults vs ≡ [] → (i : ℕ) (v : Variable) (kind : VariableKind)
    → slice_get vs i ≡ Some v → v.kind ≡ kind → has_place kind (place_of kind vs i) ≡ true
has_places vs few i v cancel at is =
    let l = place_below cancel vs i v at is in
    let most = few_cancels vs few in
    lt-ltb (place_of cancel vs i) 48 (omega (arith, l, most))
has_places vs few i v group at is =
    let l = place_below group vs i v at is in
    let most = few_own vs few in
    lt-ltb (place_of group vs i) 12 (omega (arith, l, most))

module _ (b : CheckedBody) (states : List (List ℕ)) where
  abbrev vs : List Variable
  vs = b.variables

  abbrev groups : List ℕ
  groups = groups_with_bits b.variables

  abbrev masks : ℕ → List ℕ
  masks = masks_at b states

  -- what is told of the classes at nodes

  abbrev cancels : Cancels
  cancels = cancels_told groups masks

  abbrev groups_at : Groups
  groups_at = groups_told masks

  rows_are : IsTrue (has_rows b.edition vs (length b.order) states) ↔ HasRows b.edition b states
  rows_are = (
    λ e.
        let parts = and_parts (length states == length b.order) (list_all (is_row b.edition vs) states) e in
        record {
          are_as_many = eqb-true (length states) (length b.order) parts.0;
          are_rows = each_row.0 parts.1;
        },
    λ h.
        and_from (length states == length b.order) (list_all (is_row b.edition vs) states)
        (eq-eqb (length states) (length b.order) h.are_as_many) (each_row.1 h.are_rows),
  )
    where
      each_row : IsTrue (list_all (is_row b.edition vs) states) ↔ AllByRecursion (IsRow b.edition vs) states
      each_row = by_recursion (is_row b.edition vs) (IsRow b.edition vs) (row_is b.edition vs) states

  -- Entry and edges

  abbrev Entered : Variable → VariableKind → ℕ → Type 0
  Entered v cancel mask = Has (bit_of_class b) mask (entry_cancel v.role)
  Entered v group mask = Has bit_of_group mask (entry_group v.role)

  entry_is : (v : Variable) (mask : ℕ) (kind : VariableKind)
      → IsTrue (has_entry groups v.role mask kind) ↔ Entered v kind mask
  entry_is v mask cancel = has_is (bit_of_class b) mask (entry_cancel v.role)
  entry_is v mask group = has_is bit_of_group mask (entry_group v.role)

  abbrev Goes : Variable → Event → VariableKind → ℕ → ℕ → Type 0
  Goes v e cancel before after = GoesInto (class_of_bit b) (bit_of_class b) (change_cancel b.promises v.number e) before after
  Goes v e group before after = GoesInto group_class bit_of_group (change_group b.promises v.number e) before after

  -- what is tested of the groups in which literals are started

  abbrev starting_part : Bool
  starting_part = all_start_among groups b.graph.nodes

  abbrev starting_test : Occurrence Event → Bool
  starting_test o = starts_among groups o.event

  all_started : starting_part ≡ true → StartsWithBits b
  all_started e n g literal o here is =
      so_started groups o.event (members starting_test b.graph.nodes e o (contains_at b.graph.nodes n o here)) g literal is

  started_so : StartsWithBits b → starting_part ≡ true
  started_so h =
      all_members starting_test b.graph.nodes
      (λ o inside.
      let at = place_of_element b.graph.nodes o inside in
      starts_so groups o.event (λ g literal is. h at.0 g literal o at.1 is))

  module _ (few : too_many_faults vs ≡ []) where
    abbrev Steps : Variable → Event → VariableKind → ℕ → ℕ → Bool
    Steps v e kind before after = steps_into (step_of b.promises groups e v.number kind) before after

    goes_is : (v : Variable) (e : Event) (before after : ℕ) (kind : VariableKind) → StartsAmong groups e
        → has_known_bits Second kind before ≡ true
        → IsTrue (Steps v e kind before after) ↔ Goes v e kind before after
    goes_is v e before after cancel among known = (
      λ t. cancels_go groups (bits_fit vs few) b.promises v.number e before after among
          (steps_told (step_of b.promises groups e v.number cancel) cancel before after known t),
      λ g. steps_tested (step_of b.promises groups e v.number cancel) cancel before after known
          (bits_go (class_of_bit b) (bit_of_class b) (change_cancel b.promises v.number e) before after
          (λ bit set.
          cancel_stands groups bit (with_bits vs few) (known_cancel before bit known set)) g),
    )
    goes_is v e before after group among known = (
      λ t. groups_go b.promises v.number e before after
          (steps_told (step_of b.promises groups e v.number group) group before after known t),
      λ g. steps_tested (step_of b.promises groups e v.number group) group before after known
          (bits_go group_class bit_of_group (change_group b.promises v.number e) before after
          (λ bit set. group_stands bit (known_group before bit known set)) g),
    )

  record ClosedParts (v : Variable) (kind : VariableKind) (mask : ℕ → ℕ) : Type 0 where
    at_starts : (n : ℕ) → Contains b.graph.starts n → Entered v kind (mask n)
    along_edges : (n m : ℕ) (o : Occurrence Event) (ms : List ℕ) → slice_get b.graph.nodes n ≡ Some o
        → slice_get b.graph.next n ≡ Some ms → Contains ms m → Goes v o.event kind (mask n) (mask m)

  closed_from : (v : Variable) (mask : ℕ → ℕ) (kind : VariableKind) → ClosedParts v kind mask
      → IsClosedFor b v kind mask
  closed_from v mask cancel p = record { at_starts = p.at_starts; along_edges = p.along_edges }
  closed_from v mask group p = record { at_starts = p.at_starts; along_edges = p.along_edges }

  closed_parts : (v : Variable) (mask : ℕ → ℕ) (kind : VariableKind) → IsClosedFor b v kind mask
      → ClosedParts v kind mask
  closed_parts v mask cancel p = record { at_starts = p.at_starts; along_edges = p.along_edges }
  closed_parts v mask group p = record { at_starts = p.at_starts; along_edges = p.along_edges }

  abbrev entry_test : ℕ → ℕ → Variable → Bool
  entry_test n i v = has_entry groups v.role (mask_in (masks n) i) v.kind

  abbrev step_test : ℕ → Event → ℕ → ℕ → Variable → Bool
  step_test n e m i v =
      steps_into (step_of b.promises groups e v.number v.kind) (mask_in (masks n) i) (mask_in (masks m) i)

  abbrev edge_test : ℕ → Event → ℕ → Bool
  edge_test n e m = all_step_into groups vs b.promises e (masks n) (masks m)

  abbrev starts_part : Bool
  starts_part = starts_hold groups vs masks b.graph.starts

  abbrev edges_part : Bool
  edges_part = edges_hold groups vs masks b.promises b.graph.nodes b.graph.next

  abbrev AreClosed : Type 0
  AreClosed = (i : ℕ) (v : Variable) → slice_get vs i ≡ Some v → IsClosedFor b v v.kind (mask_at b states i)

  module _ (few : too_many_faults vs ≡ []) (starts : StartsWithBits b) (rows : HasRows b.edition b states) where
    known_at : (n : ℕ) → AreKnown vs (masks n)
    known_at n = masks_known b.edition vs states (row_from 0 b.order n) rows.are_rows

    loads_at : (n : ℕ) → loads vs (masks n) ≡ true
    loads_at n =
        each_at (λ i (v : Variable). is_taken v.kind (place_of v.kind vs i) (mask_in (masks n) i)) vs
        (λ i v at. and_from (has_place v.kind (place_of v.kind vs i)) (has_known_bits Second v.kind (mask_in (masks n) i))
        (has_places vs few i v v.kind at refl) (known_at n i v at))

    abbrev steps_part : ℕ → Event → ℕ → Bool
    steps_part n e m = all_from (step_test n e m) 0 vs

    goes_here : (n : ℕ) (o : Occurrence Event) (m i : ℕ) (v : Variable) → slice_get b.graph.nodes n ≡ Some o
        → slice_get vs i ≡ Some v
        → IsTrue (step_test n o.event m i v) ↔ Goes v o.event v.kind (mask_at b states i n) (mask_at b states i m)
    goes_here n o m i v here at =
        goes_is few v o.event (mask_at b states i n) (mask_at b states i m) v.kind
        (λ g literal is. starts n g literal o here is) (known_at n i v at)

    are_closed : starts_part ≡ true → edges_part ≡ true → AreClosed
    are_closed begins edges i v there =
        closed_from v (mask_at b states i) v.kind record {
          at_starts = λ n inside.
              (entry_is v (mask_at b states i n) v.kind).0
              (at_each (entry_test n) vs
              (members (λ n. has_entries groups vs (masks n)) b.graph.starts begins n inside) i v there);
          along_edges = λ n m o ms here linked inside.
              let all = at_edge edge_test b.graph.nodes b.graph.next edges n m o ms here linked inside in
              let rest = (and_parts (loads vs (masks n)) (loads vs (masks m) && steps_part n o.event m) all).1 in
              let steps = (and_parts (loads vs (masks m)) (steps_part n o.event m) rest).1 in
              (goes_here n o m i v here there).0 (at_each (step_test n o.event m) vs steps i v there);
        }

    edges_closed : AreClosed → edges_part ≡ true
    edges_closed closed =
        edge_each edge_test b.graph.nodes b.graph.next
        (λ n m o ms here linked inside.
        and_from (loads vs (masks n)) (loads vs (masks m) && steps_part n o.event m) (loads_at n)
        (and_from (loads vs (masks m)) (steps_part n o.event m) (loads_at m)
        (each_at (step_test n o.event m) vs
        (λ i v there. (goes_here n o m i v here there).1
        ((closed_parts v (mask_at b states i) v.kind (closed i v there)).along_edges n m o ms here linked inside)))))

  starts_closed : AreClosed → starts_part ≡ true
  starts_closed closed =
      all_members (λ n. has_entries groups vs (masks n)) b.graph.starts
      (λ n inside. each_at (entry_test n) vs
      (λ i v there. (entry_is v (mask_at b states i n) v.kind).1
      ((closed_parts v (mask_at b states i) v.kind (closed i v there)).at_starts n inside)))

  -- Faults

  module _ (node : ℕ) where
    abbrev mask_of : ℕ → ℕ
    mask_of i = mask_at b states i node

    abbrev lives : ℕ → Bool
    lives = lives_told masks node

    cancel_may : (i : ℕ) (k : CancelClass) → IsTrue (cancels i node k) ↔ MayBeCancel b states node i k
    cancel_may i k = may_be_is groups (mask_of i) k

    live_may : (i : ℕ) → IsTrue (lives i) ↔ MayBeLive b states node i
    live_may i = group_may_be_is (mask_of i) (in_state live)

    -- what is lost

    lost_fault : (e : Event) (u : VariableAt) → BindsCancel e u → (i : ℕ) (v : Variable) → slice_get vs i ≡ Some v
        → found.loses_cancel vs cancels groups node u.number i v ≡ true → IsFault b states node e
    lost_fault e u binds i v there h =
        let parts = and_parts (is_cancel (Some v.kind))
        ((v.number == u.number) && may_be_lost vs (cancels i node) groups) h in
        let inner = and_parts (v.number == u.number) (may_be_lost vs (cancels i node) groups) parts.1 in
        let lost = lost_has (cancels i node) vs groups inner.1 in
        loses_cancel i v u lost.0 there (cancel_kind v.kind parts.0) binds (sym (eqb-true v.number u.number inner.0))
        ((cancel_may i lost.0).0 lost.1) lost.2

    fault_lost : (i : ℕ) (v : Variable) (u : VariableAt) (k : CancelClass) → v.kind ≡ cancel → u.number ≡ v.number
        → MayBeCancel b states node i k → is_lost vs k ≡ true
        → found.loses_cancel vs cancels groups node u.number i v ≡ true
    fault_lost i v u k kind same may_be lost =
        and_from (is_cancel (Some v.kind)) ((v.number == u.number) && may_be_lost vs (cancels i node) groups)
        (is_cancel_kind v.kind kind)
        (and_from (v.number == u.number) (may_be_lost vs (cancels i node) groups)
        (eq-eqb v.number u.number (sym same))
        (has_lost (cancels i node) vs groups (λ g h. pending_among groups (mask_of i) g h) k
        ((cancel_may i k).1 may_be) lost))

    live_group : (i : ℕ) (g : Variable) → is_live_group g (groups_at i node) ≡ true
        → (g.kind ≡ group) × MayBeLive b states node i
    live_group i g h =
        let parts = and_parts (is_group (Some g.kind)) (lives i) h in
        (group_kind g.kind parts.0, (live_may i).0 parts.1)

    group_live : (i : ℕ) (g : Variable) → g.kind ≡ group → MayBeLive b states node i
        → is_live_group g (groups_at i node) ≡ true
    group_live i g kind may_be =
        and_from (is_group (Some g.kind)) (lives i) (is_group_kind g.kind kind) ((live_may i).1 may_be)

    lost_group : (e : Event) (u : VariableAt) (state : GroupState) → e ≡ make u state → (i : ℕ) (g : Variable)
        → slice_get vs i ≡ Some g → found.loses_group groups_at node u.number i g ≡ true → IsFault b states node e
    lost_group e u state makes i g there h =
        let parts = and_parts (g.number == u.number) (is_live_group g (groups_at i node)) h in
        let its = live_group i g parts.1 in
        loses_group i g u state there its.0 makes (sym (eqb-true g.number u.number parts.0)) its.1

    group_lost : (i : ℕ) (g : Variable) (u : VariableAt) → g.kind ≡ group → u.number ≡ g.number
        → MayBeLive b states node i → found.loses_group groups_at node u.number i g ≡ true
    group_lost i g u kind same may_be =
        and_from (g.number == u.number) (is_live_group g (groups_at i node)) (eq-eqb g.number u.number (sym same))
        (group_live i g kind may_be)

    -- uncalled

    abbrev left_test : ℕ → ℕ → Variable → Bool
    left_test i j g = is_group (Some g.kind) && (cancels i node (pending g.number) && lives j)

    abbrev left_part : ℕ → Bool
    left_part i = is_left_to vs (cancels i node) lives

    left_is : (i : ℕ) → left_part i ≡ true → MayBeUncalled b states node i
    left_is i left =
        let w = passes_at (left_test i) vs left in
        let g = w.element in
        let parts = and_parts (is_group (Some g.kind)) (cancels i node (pending g.number) && lives w.place) w.passes in
        let inner = and_parts (cancels i node (pending g.number)) (lives w.place) parts.1 in
        is_left w.place g w.is_there (group_kind g.kind parts.0) ((cancel_may i (pending g.number)).0 inner.0)
        ((live_may w.place).0 inner.1)

    open_is : (i : ℕ) → cancels i node opened ≡ true → MayBeUncalled b states node i
    open_is i is = is_open ((cancel_may i opened).0 is)

    -- open, or left to a live group
    uncalled_so : (i : ℕ) → MayBeUncalled b states node i → (cancels i node opened || left_part i) ≡ true
    uncalled_so i (is_open may_be) = or_left (cancels i node opened) (left_part i) ((cancel_may i opened).1 may_be)
    uncalled_so i (is_left j g there kind may_be is_live) =
        or_right (cancels i node opened) (left_part i)
        (any_at (left_test i) vs j g there
        (and_from (is_group (Some g.kind)) (cancels i node (pending g.number) && lives j) (is_group_kind g.kind kind)
        (and_from (cancels i node (pending g.number)) (lives j) ((cancel_may i (pending g.number)).1 may_be)
        ((live_may j).1 is_live))))

    -- what a return breaks

    abbrev owes_test : List Handed → Variable → Bool
    owes_test handed v = is_declared v.role && not (is_handed v.number handed)

    abbrev open_part : List Handed → ℕ → Variable → Bool
    open_part handed i v = is_open_there v.number handed (cancels i node)

    abbrev kept_part : List Handed → ℕ → Variable → Bool
    kept_part handed i v = cancels i node kept && not (is_handed_kept v.number handed)

    abbrev uncalled_test : List Handed → ℕ → Variable → Bool
    uncalled_test handed i v = owes_call v handed && (open_part handed i v || left_part i)

    -- owed, and open or kept or left to a live group
    uncalled_return : (e : Event) (handed : List Handed) → e ≡ return_event handed → (i : ℕ) (v : Variable)
        → slice_get vs i ≡ Some v
        → v.kind ≡ cancel
        → is_declared v.role ≡ true
        → is_handed v.number handed ≡ false
        → (open_part handed i v || left_part i) ≡ true
        → IsFault b states node e
    uncalled_return e handed returns i v there kind declared unhanded h =
        elim (or_cases (open_part handed i v) (left_part i) h) [
          | inl either ↦
              elim (or_cases (cancels i node opened) (kept_part handed i v) either) [
                | inl is ↦ returns_uncalled i v handed there kind returns (is_kept declared unhanded) (open_is i is)
                | inr held ↦
                    let both = and_parts (cancels i node kept) (not (is_handed_kept v.number handed)) held in
                    returns_kept i v handed there kind returns
                    (is_kept declared (not-true (is_handed_kept v.number handed) both.1)) ((cancel_may i kept).0 both.0)
              ]
          | inr left ↦ returns_uncalled i v handed there kind returns (is_kept declared unhanded) (left_is i left)
        ]

    broken_return : (e : Event) (handed : List Handed) → e ≡ return_event handed → (i : ℕ) (v : Variable)
        → slice_get vs i ≡ Some v
        → (uncalled_test handed i v || found.returns_live groups_at node i v) ≡ true → IsFault b states node e
    broken_return e handed returns i v there h =
        elim (or_cases (uncalled_test handed i v) (found.returns_live groups_at node i v) h) [
          | inl uncalled ↦
              let parts = and_parts (owes_call v handed) (open_part handed i v || left_part i) uncalled in
              let owes = and_parts (is_cancel (Some v.kind)) (owes_test handed v) parts.0 in
              let inner = and_parts (is_declared v.role) (not (is_handed v.number handed)) owes.1 in
              uncalled_return e handed returns i v there (cancel_kind v.kind owes.0) inner.0
              (not-true (is_handed v.number handed) inner.1) parts.1
          | inr its ↦
              let parts = and_parts (is_declared v.role) (is_live_group v (groups_at i node)) its in
              let live_one = live_group i v parts.1 in
              returns_live i v handed there live_one.0 returns parts.0 live_one.1
        ]

    fault_is : (e : Event) (i : ℕ) (v : Variable) → slice_get vs i ≡ Some v
        → is_fault vs cancels groups_at groups lives node (deed_of e) i v ≡ true → IsFault b states node e
    fault_is (obtain u f k d) i v there h = lost_fault (obtain u f k d) u (obtains) i v there h
    fault_is (obtain_kept u f k x) i v there h = lost_fault (obtain_kept u f k x) u (obtains_into) i v there h
    fault_is (clear u) i v there h = lost_fault (clear u) u (clears) i v there h
    fault_is (make u s) i v there h = lost_group (make u s) u s refl i v there h
    fault_is (return_event handed) i v there h = broken_return (return_event handed) handed refl i v there h
    fault_is other i v there h = absurd (false≢true h)
    fault_is (renew u x) i v there h = absurd (false≢true h)
    fault_is (keep u x) i v there h = absurd (false≢true h)
    fault_is (call_kept u x) i v there h = absurd (false≢true h)
    fault_is (defer_kept u x) i v there h = absurd (false≢true h)
    fault_is (give u x) i v there h = absurd (false≢true h)
    fault_is (give_field u) i v there h = absurd (false≢true h)
    fault_is (call u) i v there h = absurd (false≢true h)
    fault_is (defer_call u) i v there h = absurd (false≢true h)
    fault_is (pass u f k) i v there h = absurd (false≢true h)
    fault_is (defer_pass u f k) i v there h = absurd (false≢true h)
    fault_is (lend g f k) i v there h = absurd (false≢true h)
    fault_is (start g l) i v there h = absurd (false≢true h)
    fault_is (try g l) i v there h = absurd (false≢true h)
    fault_is (wait g) i v there h = absurd (false≢true h)
    fault_is (defer_wait g) i v there h = absurd (false≢true h)
    fault_is (defer_literal l) i v there h = absurd (false≢true h)
    fault_is (go work) i v there h = absurd (false≢true h)

    abbrev claim_test : Variable → ℕ → Bool
    claim_test v i = is_cancel (Some v.kind) && is_uncalled vs (cancels i node) lives

    claim_is : (e : Event) (i : ℕ) (v : Variable) → slice_get vs i ≡ Some v
        → breaks_claim vs cancels lives b.is_claimed node (deed_of e) i v ≡ true → IsFault b states node e
    claim_is e i v there h =
        let first = and_parts (is_return_deed (deed_of e)) (is_claimed b.is_claimed v.role && claim_test v i) h in
        let second = and_parts (is_claimed b.is_claimed v.role) (claim_test v i) first.1 in
        let third = and_parts (is_cancel (Some v.kind)) (is_uncalled vs (cancels i node) lives) second.1 in
        let returns = return_of e first.0 in
        let kind = cancel_kind v.kind third.0 in
        elim (or_cases (cancels i node opened) (cancels i node kept || left_part i) third.1) [
          | inl is ↦ returns_uncalled i v returns.0 there kind returns.1 (has_claim second.0) (open_is i is)
          | inr more ↦
              elim (or_cases (cancels i node kept) (left_part i) more) [
                | inl is ↦
                    returns_kept i v returns.0 there kind returns.1 (has_claim second.0) ((cancel_may i kept).0 is)
                | inr left ↦ returns_uncalled i v returns.0 there kind returns.1 (has_claim second.0) (left_is i left)
              ]
        ]

    abbrev broken_test : Event → ℕ → Variable → Bool
    broken_test e = is_broken vs cancels groups_at groups lives b.is_claimed node (deed_of e)

    abbrev breaks_part : Event → Bool
    breaks_part e = node_breaks vs cancels groups_at groups lives b.is_claimed node e

    broken_is : (e : Event) → breaks_part e ≡ true → IsFault b states node e
    broken_is e h =
        let w = passes_at (broken_test e) vs h in
        elim (or_cases (is_fault vs cancels groups_at groups lives node (deed_of e) w.place w.element)
        (breaks_claim vs cancels lives b.is_claimed node (deed_of e) w.place w.element) w.passes) [
          | inl is ↦ fault_is e w.place w.element w.is_there is
          | inr claimed ↦ claim_is e w.place w.element w.is_there claimed
        ]

    -- back

    by_fault : (e : Event) (i : ℕ) (v : Variable) → slice_get vs i ≡ Some v
        → is_fault vs cancels groups_at groups lives node (deed_of e) i v ≡ true → breaks_part e ≡ true
    by_fault e i v there h =
        any_at (broken_test e) vs i v there
        (or_left (is_fault vs cancels groups_at groups lives node (deed_of e) i v) _ h)

    by_claim : (e : Event) (i : ℕ) (v : Variable) → slice_get vs i ≡ Some v
        → breaks_claim vs cancels lives b.is_claimed node (deed_of e) i v ≡ true → breaks_part e ≡ true
    by_claim e i v there h =
        any_at (broken_test e) vs i v there
        (or_right (is_fault vs cancels groups_at groups lives node (deed_of e) i v) _ h)

    bound_by : {e : Event} {u : VariableAt} → BindsCancel e u → (i : ℕ) (v : Variable)
        → found.loses_cancel vs cancels groups node u.number i v ≡ true
        → is_fault vs cancels groups_at groups lives node (deed_of e) i v ≡ true
    bound_by (obtains) i v h = h
    bound_by (obtains_into) i v h = h
    bound_by (clears) i v h = h

    abbrev fault_of : ℕ → Variable → Event → Bool
    fault_of i v e = is_fault vs cancels groups_at groups lives node (deed_of e) i v

    declared_breaks : (e : Event) (i : ℕ) (v : Variable) (handed : List Handed) → slice_get vs i ≡ Some v
        → v.kind ≡ cancel
        → e ≡ return_event handed
        → is_declared v.role ≡ true
        → is_handed v.number handed ≡ false
        → (open_part handed i v || left_part i) ≡ true
        → breaks_part e ≡ true
    declared_breaks e i v handed there kind returns declared unhanded uncalled =
        by_fault e i v there
        (ap (fault_of i v) returns
        ∙ or_left (uncalled_test handed i v) (found.returns_live groups_at node i v)
        (and_from (owes_call v handed) (open_part handed i v || left_part i)
        (and_from (is_cancel (Some v.kind)) (owes_test handed v) (is_cancel_kind v.kind kind)
        (and_from (is_declared v.role) (not (is_handed v.number handed)) declared
        (not_from_false (is_handed v.number handed) unhanded))) uncalled))

    claimed_breaks : (e : Event) (i : ℕ) (v : Variable) (handed : List Handed) → slice_get vs i ≡ Some v
        → v.kind ≡ cancel
        → e ≡ return_event handed
        → is_claimed b.is_claimed v.role ≡ true
        → is_uncalled vs (cancels i node) lives ≡ true
        → breaks_part e ≡ true
    claimed_breaks e i v handed there kind returns claimed uncalled =
        by_claim e i v there
        (and_from (is_return_deed (deed_of e)) (is_claimed b.is_claimed v.role && claim_test v i)
        (ap (λ x. is_return_deed (deed_of x)) returns)
        (and_from (is_claimed b.is_claimed v.role) (claim_test v i) claimed
        (and_from (is_cancel (Some v.kind)) (is_uncalled vs (cancels i node) lives) (is_cancel_kind v.kind kind)
        uncalled)))

    also_open : (handed : List Handed) (i : ℕ) (v : Variable) → (cancels i node opened || left_part i) ≡ true
        → (open_part handed i v || left_part i) ≡ true
    also_open handed i v h =
        elim (or_cases (cancels i node opened) (left_part i) h) [
          | inl is ↦
              or_left (open_part handed i v) (left_part i) (or_left (cancels i node opened) (kept_part handed i v) is)
          | inr left ↦ or_right (open_part handed i v) (left_part i) left
        ]

    also_uncalled : (i : ℕ) → (cancels i node opened || left_part i) ≡ true → is_uncalled vs (cancels i node) lives ≡ true
    also_uncalled i h =
        elim (or_cases (cancels i node opened) (left_part i) h) [
          | inl is ↦ or_left (cancels i node opened) (cancels i node kept || left_part i) is
          | inr left ↦
              or_right (cancels i node opened) (cancels i node kept || left_part i)
              (or_right (cancels i node kept) (left_part i) left)
        ]

    owed_breaks : (e : Event) (i : ℕ) (v : Variable) (handed : List Handed) → slice_get vs i ≡ Some v
        → v.kind ≡ cancel
        → e ≡ return_event handed
        → IsOwed b v (is_handed v.number handed)
        → (cancels i node opened || left_part i) ≡ true
        → breaks_part e ≡ true
    owed_breaks e i v handed there kind returns (is_kept declared unhanded) h =
        declared_breaks e i v handed there kind returns declared unhanded (also_open handed i v h)
    owed_breaks e i v handed there kind returns (has_claim claimed) h =
        claimed_breaks e i v handed there kind returns claimed (also_uncalled i h)

    kept_breaks : (e : Event) (i : ℕ) (v : Variable) (handed : List Handed) → slice_get vs i ≡ Some v
        → v.kind ≡ cancel
        → e ≡ return_event handed
        → IsOwed b v (is_handed_kept v.number handed)
        → cancels i node kept ≡ true
        → breaks_part e ≡ true
    kept_breaks e i v handed there kind returns (is_kept declared unhanded) h =
        declared_breaks e i v handed there kind returns declared (not_handed v.number handed unhanded)
        (or_left (open_part handed i v) (left_part i)
        (or_right (cancels i node opened) (kept_part handed i v)
        (and_from (cancels i node kept) (not (is_handed_kept v.number handed)) h
        (not_from_false (is_handed_kept v.number handed) unhanded))))
    kept_breaks e i v handed there kind returns (has_claim claimed) h =
        claimed_breaks e i v handed there kind returns claimed
        (or_right (cancels i node opened) (cancels i node kept || left_part i)
        (or_left (cancels i node kept) (left_part i) h))

    is_broken_so : (e : Event) → IsFault b states node e → breaks_part e ≡ true
    is_broken_so e (loses_cancel i v u k there kind binds same may_be lost) =
        by_fault e i v there (bound_by binds i v (fault_lost i v u k kind same may_be lost))
    is_broken_so e (loses_group i g u state there kind makes same may_be) =
        by_fault e i g there (ap (fault_of i g) makes ∙ group_lost i g u kind same may_be)
    is_broken_so e (returns_live i g handed there kind returns declared may_be) =
        by_fault e i g there
        (ap (fault_of i g) returns
        ∙ or_right (uncalled_test handed i g) (found.returns_live groups_at node i g)
        (and_from (is_declared g.role) (is_live_group g (groups_at i node)) declared (group_live i g kind may_be)))
    is_broken_so e (returns_uncalled i v handed there kind returns owed may_be) =
        owed_breaks e i v handed there kind returns owed (uncalled_so i may_be)
    is_broken_so e (returns_kept i v handed there kind returns owed may_be) =
        kept_breaks e i v handed there kind returns owed ((cancel_may i kept).1 may_be)

  abbrev fault_test : ℕ → Occurrence Event → Bool
  fault_test n o = node_breaks vs cancels groups_at groups (lives_told masks n) b.is_claimed n o.event

  abbrev fault_part : Bool
  fault_part = has_fault groups vs masks b.is_claimed b.graph.nodes

  abbrev HasNoFault : Type 0
  HasNoFault = (n : ℕ) (o : Occurrence Event) → slice_get b.graph.nodes n ≡ Some o → IsFault b states n o.event → ⊥

  none_there : fault_part ≡ false → HasNoFault
  none_there e n o here fault =
      true≢false (sym (any_at fault_test b.graph.nodes n o here (is_broken_so n o.event fault)) ∙ e)

  none_found : HasNoFault → fault_part ≡ false
  none_found none =
      false_from_ne_true fault_part
      (λ h. let w = passes_at fault_test b.graph.nodes h in none w.place w.element w.is_there (broken_is w.place w.element.event w.passes))

  -- The whole

  abbrev rows_part : Bool
  rows_part = has_rows b.edition vs (length b.order) states

  abbrev places_part : Bool
  places_part = have_places (numbers_of cancel vs) (numbers_of group vs) groups

  abbrev graph_part : Bool
  graph_part = starts_part && (edges_part && not fault_part)

  pub holds_is : IsTrue (tested.holds (numbers_of cancel vs) (numbers_of group vs) groups masks b states) ↔ Holds b states
  holds_is = (held, holding)
    where
      held : tested.holds (numbers_of cancel vs) (numbers_of group vs) groups masks b states ≡ true → Holds b states
      held e =
          let first = and_parts places_part (starting_part && (rows_part && graph_part)) e in
          let second = and_parts starting_part (rows_part && graph_part) first.1 in
          let third = and_parts rows_part graph_part second.1 in
          let fourth = and_parts starts_part (edges_part && not fault_part) third.1 in
          let fifth = and_parts edges_part (not fault_part) fourth.1 in
          let few = (few_is vs).0 first.0 in
          let starting = all_started second.0 in
          let rows = rows_are.0 third.0 in
          record {
            are_few = few;
            starts_with_bits = starting;
            has_rows = rows;
            is_closed = are_closed few starting rows fourth.0 fifth.0;
            has_no_fault = none_there (not-true fault_part fifth.1);
          }

      holding : Holds b states → tested.holds (numbers_of cancel vs) (numbers_of group vs) groups masks b states ≡ true
      holding h =
          and_from places_part (starting_part && (rows_part && graph_part)) ((few_is vs).1 h.are_few)
          (and_from starting_part (rows_part && graph_part) (started_so h.starts_with_bits)
          (and_from rows_part graph_part (rows_are.1 h.has_rows)
          (and_from starts_part (edges_part && not fault_part) (starts_closed h.is_closed)
          (and_from edges_part (not fault_part)
          (edges_closed h.are_few h.starts_with_bits h.has_rows h.is_closed)
          (not_from_false fault_part (none_found h.has_no_fault))))))

  -- Credit

  module _ (mask : ℕ) where
    abbrev is_unsettled : VariableKind → Bool
    is_unsettled = found.is_unsettled (may_be_cancel groups mask) (may_be_group mask) groups

    settled_by : (kind : VariableKind) → is_unsettled kind ≡ false → IsSettledBy b kind mask
    settled_by cancel e = λ k h.
        settled_safe (may_be_cancel groups mask) (may_be_group mask) groups (pending_among groups mask) e k
        ((may_be_is groups mask k).1 h)
    settled_by group e = λ k h.
        settled_at_rest (may_be_cancel groups mask) (may_be_group mask) groups e k ((group_may_be_is mask k).1 h)

    not_settled : (kind : VariableKind) → is_unsettled kind ≡ true → IsSettledBy b kind mask → ⊥
    not_settled cancel e settled =
        let w = unsettled_class (may_be_cancel groups mask) (may_be_group mask) groups e in
        true≢false (sym (settled w.0 ((may_be_is groups mask w.0).0 w.1)) ∙ w.2)
    not_settled group e settled =
        true≢false (settled (in_state live) ((group_may_be_is mask (in_state live)).0 e))

  module _ (i : ℕ) (v : Variable) where
    abbrev settling_test : ℕ → Occurrence Event → Bool
    settling_test n o = is_return o.event && is_unsettled (mask_in (masks n) i) v.kind

    abbrev unsettled_part : Bool
    unsettled_part = breaks_settling groups masks b.graph.nodes i v.kind

    settled_in : unsettled_part ≡ false → SettlesIn b states i v
    settled_in e n o handed here returns =
        settled_by (mask_at b states i n) v.kind
        (false_from_ne_true (is_unsettled (mask_at b states i n) v.kind)
        (λ h. true≢false (sym (any_at settling_test b.graph.nodes n o here
        (and_from (is_return o.event) (is_unsettled (mask_in (masks n) i) v.kind) (ap is_return returns) h)) ∙ e)))

    broken_settling : SettlesIn b states i v → unsettled_part ≡ true → ⊥
    broken_settling settles e =
        let w = passes_at settling_test b.graph.nodes e in
        let parts = and_parts (is_return w.element.event) (is_unsettled (mask_in (masks w.place) i) v.kind) w.passes in
        let returns = return_of w.element.event parts.0 in
        not_settled (mask_at b states i w.place) v.kind parts.1
        (settles w.place w.element returns.0 w.is_there returns.1)

    pub settles_is : IsTrue (not (breaks_settling groups masks b.graph.nodes i v.kind)) ↔ SettlesIn b states i v
    settles_is = (
      λ e. settled_in (not-true unsettled_part e),
      λ h. not_from_false unsettled_part (false_from_ne_true unsettled_part (broken_settling h)),
    )
