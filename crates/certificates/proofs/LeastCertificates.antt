-- Least certificates hold, and settle what is settled.
use Rattle.std.proofs.Common.{◌≡◌, ℕ, ◌-◌, ◌<◌, ◌≤◌, Bool, true, false, List, [], ◌∷◌, length, Option, Some, Contains, refl, sym, ap, ◌∙◌, subst, arith, true≢false}
use Rattle.std.proofs.lemmas.List.Elements.{Contains-append_left}
use Rattle.std.proofs.lemmas.Option.{slice_get_within, same_Some}
use Rattle.std.specs.Prelude.{◌↔◌, slice_get, not}
use Rattle.certificates.proofs.ClassBits.{AreBits, cancel_bits, group_bits, may_be, is_reached, has}
use Rattle.certificates.proofs.ListsToNodes.{only, LeadsTo, cancel_leads, cancel_comes, group_leads, group_comes}
use Rattle.certificates.proofs.MadeRows.{there as element_at, all_by, each_by}
use Rattle.certificates.proofs.Unkept.{IsUnkept, kept_is_not, reached_unkept, without_last}
use Rattle.certificates.proofs.NodesInRange.{contains_at, start_in_range, next_in_range}
use Rattle.certificates.specs.Least.{HasJust, HasReached, IsLeast, body_with}
use Rattle.certificates.specs.LeastLaws.{keeps as keeps_it, StartsInOwnGroups, KeepsByEdition, CanHaveCertificate, HasNoFault, KeepsEachClaim, LeastHolds, LeastSettles, LeastIsWithin, HasClassesOf}
use Rattle.checker.proofs.FewVariables.{bits_fit}
use Rattle.checker.proofs.TestedLists.{zip_each, each_zip}
use Rattle.checker.specs.CertificateTests.{mask_in}
use Rattle.checker.specs.Certificates.{CheckedBody, spare, groups_with_bits, class_of_bit, bit_of_class, StartsWithBits, mask_at, IsClosed, IsClosedFor, IsOwed, is_kept, has_claim, MayBeCancel, MayBeLive, MayBeUncalled, is_open, is_left, IsFault, loses_cancel, loses_group, returns_live, returns_uncalled, returns_kept, IsRow, HasRows, Holds, IsSettledBy, SettlesIn}
use Rattle.flow.specs.GraphOfCode.{nodes}
use Rattle.flow.specs.Walks.{Graph, graph_of}
use Rattle.flow.specs.declared.order.NodePlace.{NodePlace}
use Rattle.bodies.specs.AtNodes.{IsCancelAt, IsGroupAt}
use Rattle.bodies.specs.Carried.{IsReached, starts, goes}
use Rattle.bodies.specs.OwnGroups.{literal_group, groups_of}
use Rattle.meaning.proofs.Membership.{contains_here}
use Rattle.meaning.specs.BodyEvents.{Variable, too_many_faults}
use Rattle.meaning.specs.Classes.{CancelClass, opened, kept, pending, entry_cancel, change_cancel, GroupClass, in_state, entry_group, change_group}
use Rattle.meaning.specs.Code.{Occurrence}
use Rattle.meaning.specs.Lists.{Reaches}
use Rattle.meaning.specs.FunctionFacts.{VariableKind, cancel, group}
use Rattle.meaning.specs.Tracked.{live}
use Rattle.meaning.specs.Uses.{Event, Handed, return_event}
use Rattle.meaning.specs.declared.TheConstants.{MOST_GROUPS}
use Rattle.meaning_packages.specs.Credits.{is_safe, is_live, is_settled, Settles}
use Rattle.meaning_packages.specs.PathFaults.{overwritten, not_called, group_is_live, group_overwritten, left_to_live_group, Paths, cancel_class, group_class, is_declared, is_handed, is_handed_kept, is_lost, OwesCall, ComesToReturn, LeavesLive, IsLeft, loses_cancel as fault_loses_cancel, loses_group as fault_loses_group, returns_live as fault_returns_live, returns_open as fault_returns_open, returns_kept as fault_returns_kept, returns_pending as fault_returns_pending}
use Rattle.tree.specs.declared.edition.Edition.{Edition}
use Rattle.tree.specs.declared.edition.Edition.TheVariants.{First, Second}
use Rattle.path_faults.proofs.Kept.{not_handed}
use Rattle.bodies.proofs.ClassNumbers.{cancel_inverse}
use Rattle.bodies.specs.Bits.{group_class as class_of_group_bit}
use Rattle.bodies.specs.Masks.{bit_of_group, HasKnownBits, MayBe}

-- The bits of a body

module _ (b : CheckedBody) (fits : length (groups_with_bits b.variables) ≤ 12)
    (own : StartsInOwnGroups b) where
  abbrev AreCancelBits : Variable → Type 0
  AreCancelBits v =
      AreBits b.graph (class_of_bit b) (bit_of_class b) (entry_cancel v.role) (change_cancel b.promises v.number)

  of_cancel : (v : Variable) → AreCancelBits v
  of_cancel v =
      cancel_bits b.graph (groups_with_bits b.variables) b.promises v.number v.role fits
      (λ n o g is e.
      Contains-append_left (groups_of b.variables) (spare (MOST_GROUPS - length (groups_of b.variables))) g
      (own n o g is e))

abbrev AreGroupBits : CheckedBody → Variable → Type 0
AreGroupBits b v =
    AreBits b.graph class_of_group_bit bit_of_group (entry_group v.role) (change_group b.promises v.number)

of_group : (b : CheckedBody) (v : Variable) → AreGroupBits b v
of_group b v = group_bits b.graph b.promises v.number v.role

-- a group of the body has a bit
with_bits : (b : CheckedBody) → StartsInOwnGroups b → StartsWithBits b
with_bits b own n g literal o is e =
    Contains-append_left (groups_of b.variables) (spare (MOST_GROUPS - length (groups_of b.variables))) g
    (own n o g is (ap literal_group e))

-- Entry and edges

module _ {K : Type 0}
    (g : Graph Event) (class_of : ℕ → Option K) (bit_of : K → Option ℕ) (entry : K) (change : Event → K → K)
    (bits : AreBits g class_of bit_of entry change)
    (start_is_node : (n : ℕ) → Contains g.starts n → n < length g.nodes)
    (next_is_node : (n m : ℕ) (ms : List ℕ) → slice_get g.next n ≡ Some ms → Contains ms m → m < length g.nodes)
    (mask : ℕ → ℕ)
    (just : (n : ℕ) → n < length g.nodes → HasJust class_of (IsReached g change (entry ∷ []) n) (mask n)) where
  closed : IsClosed g class_of bit_of entry change mask
  closed = record {
    at_starts = λ n s.
        has g class_of bit_of entry change bits n (mask n) (just n (start_is_node n s)) entry
        (starts s (contains_here entry []));
    along_edges = λ n m o ms is follow to k may.
        let there = just n (slice_get_within g.nodes n o is) in
        let r = is_reached g class_of bit_of entry change bits n (mask n) there k may in
        has g class_of bit_of entry change bits m (mask m) (just m (next_is_node n m ms follow to)) (change o.event k)
        (goes r is follow to);
  }

-- The paths of the body

module _ (paths : Paths) (order : List NodePlace) (claims : ℕ → Bool) where
  abbrev body : CheckedBody
  body = body_with paths order claims

  module _ (fits : length (groups_with_bits paths.variables) ≤ 12) (own : StartsInOwnGroups body)
      (states : List (List ℕ)) (least : IsLeast body states) where
    abbrev IsJust : Variable → VariableKind → (ℕ → ℕ) → Type 0
    IsJust v kind mask = (n : ℕ) → n < length (nodes paths.code) → HasReached body v kind n (mask n)

    closed_by_kind : (v : Variable) (kind : VariableKind) (mask : ℕ → ℕ)
        → IsJust v kind mask
        → IsClosedFor body v kind mask
    closed_by_kind v cancel mask just =
        closed (graph_of paths.code) (class_of_bit body) (bit_of_class body) (entry_cancel v.role)
        (change_cancel paths.promises v.number) (of_cancel body fits own v) (start_in_range paths.code)
        (next_in_range paths.code) mask just
    closed_by_kind v group mask just =
        closed (graph_of paths.code) class_of_group_bit bit_of_group (entry_group v.role)
        (change_group paths.promises v.number) (of_group body v) (start_in_range paths.code)
        (next_in_range paths.code) mask just

    -- What masks tell of lists

    cancel_list : (v : Variable) (n mask : ℕ) (o : Occurrence Event) (k : CancelClass)
        → slice_get (nodes paths.code) n ≡ Some o
        → HasReached body v cancel n mask
        → MayBe (class_of_bit body) mask k
        → LeadsTo paths.code (cancel_class paths v) o k
    cancel_list v n mask o k is just may =
        cancel_leads paths.code paths.promises v n o k is
        (is_reached (graph_of paths.code) (class_of_bit body) (bit_of_class body) (entry_cancel v.role)
        (change_cancel paths.promises v.number) (of_cancel body fits own v) n mask just k may)

    group_list : (v : Variable) (n mask : ℕ) (o : Occurrence Event) (k : GroupClass)
        → slice_get (nodes paths.code) n ≡ Some o
        → HasReached body v group n mask
        → MayBe class_of_group_bit mask k
        → LeadsTo paths.code (group_class paths v) o k
    group_list v n mask o k is just may =
        group_leads paths.code paths.promises v n o k is
        (is_reached (graph_of paths.code) class_of_group_bit bit_of_group (entry_group v.role)
        (change_group paths.promises v.number) (of_group body v) n mask just k may)

    cancel_there : (i n : ℕ) (v : Variable) (o : Occurrence Event) (k : CancelClass)
        → slice_get paths.variables i ≡ Some v
        → v.kind ≡ cancel
        → slice_get (nodes paths.code) n ≡ Some o
        → MayBeCancel body states n i k
        → LeadsTo paths.code (cancel_class paths v) o k
    cancel_there i n v o k at kind is may =
        cancel_list v n (mask_at body states i n) o k is
        (subst (λ k. HasReached body v k n (mask_at body states i n)) kind
        (least.has_reached i v n at (slice_get_within (nodes paths.code) n o is)))
        may

    leaves_live : (i n : ℕ) (g : Variable) (o : Occurrence Event)
        → slice_get paths.variables i ≡ Some g
        → g.kind ≡ group
        → slice_get (nodes paths.code) n ≡ Some o
        → MayBeLive body states n i
        → (t : List (Occurrence Event)) × Reaches paths.code t o × LeavesLive paths g t
    leaves_live i n g o at kind is may =
        let l = group_list g n (mask_at body states i n) o (in_state live) is
        (subst (λ k. HasReached body g k n (mask_at body states i n)) kind
        (least.has_reached i g n at (slice_get_within (nodes paths.code) n o is)))
        may in (
          l.before,
          l.reaches,
          record {
            is_of_body = contains_at paths.variables i g at;
            is_group_variable = kind;
            is_live = l.is_class;
          },
        )

    -- Rows of the first edition

    module _ (none : (n : ℕ) (o : Occurrence Event) → slice_get (nodes paths.code) n ≡ Some o → keeps_it o.event ≡ false)
      where
        first_bits : (v : Variable) (kind : VariableKind) (n mask : ℕ)
            → HasReached body v kind n mask
            → HasKnownBits Second kind mask
            → HasKnownBits First kind mask
        first_bits v group n mask just known = known
        first_bits v cancel n mask just known =
            without_last mask known
            (λ set.
            let stands = (just 15).0 set in
            kept_is_not (subst IsUnkept (same_Some stands.class kept (sym stands.is_class))
            (reached_unkept (graph_of paths.code) paths.promises v.number v.role none n stands.class stands.is_so)))

        first_row : (k : ℕ) (row : List ℕ) (place : NodePlace)
            → slice_get order k ≡ Some place
            → slice_get states k ≡ Some row
            → IsRow Second paths.variables row
            → IsRow First paths.variables row
        first_row k row place at is known =
            let parts = zip_each (λ (v : Variable) mask. HasKnownBits Second v.kind mask) 0 paths.variables row known in
            each_zip (λ (v : Variable) mask. HasKnownBits First v.kind mask) 0 paths.variables row parts.0
            (λ i v there.
            first_bits v v.kind place.node (mask_in row i) (least.each_row k i place row v at is there)
            (parts.1 i v there))

        first_rows : HasRows First body states
        first_rows = record {
          are_as_many = least.has_rows.are_as_many;
          are_rows =
              all_by (IsRow First paths.variables) states
              (λ k row is.
              let l = slice_get_within states k row is in
              let counted = least.has_rows.are_as_many in
              let place = element_at order k (omega (arith, l, counted)) in
              first_row k row place.0 place.1 is (each_by (IsRow Second paths.variables) states least.has_rows.are_rows k row is));
        }

    rows_by : (edition : Edition)
        → (edition ≡ First → (n : ℕ) (o : Occurrence Event) → slice_get (nodes paths.code) n ≡ Some o
        → keeps_it o.event ≡ false)
        → HasRows edition body states
    rows_by First none = first_rows (none refl)
    rows_by Second none = least.has_rows

    rows_of : KeepsByEdition body → HasRows paths.edition body states
    rows_of by_edition = rows_by paths.edition (λ is n o at. by_edition n o is at)

    module _ (sound : HasNoFault paths) (keeps : KeepsEachClaim paths body) where
      module _ (i n : ℕ) (v : Variable) (handed : List Handed) (o : Occurrence Event)
          (at : slice_get paths.variables i ≡ Some v) (kind : v.kind ≡ cancel)
          (is : slice_get (nodes paths.code) n ≡ Some o) (returns : o.event ≡ return_event handed) where
        class_list : (k : CancelClass)
            → MayBeCancel body states n i k
            → (t : List (Occurrence Event))
            × ComesToReturn paths t o handed
            × (cancel_class paths v t ≡ k)
        class_list k may =
            let l = cancel_there i n v o k at kind is may in
            (l.before, record { reaches = l.reaches; is_return = returns }, l.is_class)

        left_list : (j : ℕ) (g : Variable)
            → slice_get paths.variables j ≡ Some g
            → g.kind ≡ group
            → MayBeCancel body states n i (pending g.number)
            → MayBeLive body states n j
            → (t : List (Occurrence Event)) × ComesToReturn paths t o handed × IsLeft paths v t o
        left_list j g there is_group may lives =
            let l = cancel_there i n v o (pending g.number) at kind is may in
            let other = leaves_live j n g o there is_group is lives in (
              l.before,
              record { reaches = l.reaches; is_return = returns },
              record {
                left_to = g;
                other_list = other.0;
                there = o;
                is_pending = l.is_class;
                reaches = other.1;
                same_offset = refl;
                same_order = refl;
                is_live = other.2;
              },
            )

        owes : is_declared v.role ≡ true → is_handed v.number handed ≡ false → OwesCall paths v handed
        owes declared unhanded = record {
          is_of_body = contains_at paths.variables i v at;
          is_cancel_variable = kind;
          is_declared_here = declared;
          is_kept = unhanded;
        }

        called : IsOwed body v (is_handed v.number handed) → MayBeUncalled body states n i → ⊥
        called (is_kept declared unhanded) (is_open may) =
            let l = class_list opened may in
            sound record { at = o.at; code = not_called; name = v.name }
            (fault_returns_open v handed l.0 o l.1 (owes declared unhanded) l.2)
        called (is_kept declared unhanded) (is_left j g there is_group may lives) =
            let l = left_list j g there is_group may lives in
            sound record { at = o.at; code = left_to_live_group; name = v.name }
            (fault_returns_pending v handed l.0 o l.1 (owes declared unhanded) l.2)
        called (has_claim claim) (is_open may) =
            let l = class_list opened may in
            (keeps i v at kind claim).never_open handed l.0 o l.1 l.2
        called (has_claim claim) (is_left j g there is_group may lives) =
            let l = left_list j g there is_group may lives in
            (keeps i v at kind claim).never_left handed l.0 o l.1 l.2

        handed_on : IsOwed body v (is_handed_kept v.number handed) → MayBeCancel body states n i kept → ⊥
        handed_on (is_kept declared unhanded) may =
            let l = class_list kept may in
            sound record { at = o.at; code = not_called; name = v.name }
            (fault_returns_kept v handed l.0 o l.1 (owes declared (not_handed v.number handed unhanded)) l.2 unhanded)
        handed_on (has_claim claim) may =
            let l = class_list kept may in
            (keeps i v at kind claim).never_kept handed l.0 o l.1 l.2

      no_fault : (n : ℕ) (o : Occurrence Event)
          → slice_get (nodes paths.code) n ≡ Some o
          → IsFault body states n o.event
          → ⊥
      no_fault n o is (loses_cancel i v u k at kind binds same may lost) =
          let l = cancel_there i n v o k at kind is may in
          sound record { at = u.at; code = overwritten; name = v.name }
          (fault_loses_cancel v u l.before o (contains_at paths.variables i v at) kind l.reaches binds same
          (subst (λ k. is_lost paths.variables k ≡ true) (sym l.is_class) lost))
      no_fault n o is (loses_group i g u state at kind makes same may) =
          let l = leaves_live i n g o at kind is may in
          sound record { at = u.at; code = group_overwritten; name = g.name }
          (fault_loses_group g u state l.0 o l.1 makes same l.2)
      no_fault n o is (returns_live i g handed at kind returns declared may) =
          let l = leaves_live i n g o at kind is may in
          sound record { at = o.at; code = group_is_live; name = g.name }
          (fault_returns_live g handed l.0 o record { reaches = l.1; is_return = returns } declared l.2)
      no_fault n o is (returns_uncalled i v handed at kind returns owed may) =
          called i n v handed o at kind is returns owed may
      no_fault n o is (returns_kept i v handed at kind returns owed may) =
          handed_on i n v handed o at kind is returns owed may

      holds : KeepsByEdition body → too_many_faults paths.variables ≡ [] → Holds body states
      holds by_edition few = record {
        are_few = few;
        starts_with_bits = with_bits body own;
        has_rows = rows_of by_edition;
        is_closed = λ i v at. closed_by_kind v v.kind (mask_at body states i) (λ n l. least.has_reached i v n at l);
        has_no_fault = no_fault;
      }

    -- What is settled

    settled : (v : Variable) (kind : VariableKind) (mask : ℕ → ℕ) (handed : List Handed)
        (t : List (Occurrence Event)) (o : Occurrence Event)
        → IsJust v kind mask
        → ((n : ℕ) → slice_get (nodes paths.code) n ≡ Some o → IsSettledBy body kind (mask n))
        → ComesToReturn paths t o handed
        → is_settled paths v t kind ≡ true
    settled v cancel mask handed t o just settles comes =
        let there = cancel_comes paths.code paths.promises v t o comes.reaches in
        let l = slice_get_within (nodes paths.code) there.node o there.is_node in
        settles there.node there.is_node (cancel_class paths v t)
        (may_be (graph_of paths.code) (class_of_bit body) (bit_of_class body) (entry_cancel v.role)
        (change_cancel paths.promises v.number) (of_cancel body fits own v) (mask there.node) (cancel_class paths v t)
        (has (graph_of paths.code) (class_of_bit body) (bit_of_class body) (entry_cancel v.role)
        (change_cancel paths.promises v.number) (of_cancel body fits own v) there.node (mask there.node)
        (just there.node l) (cancel_class paths v t) there.is_at))
    settled v group mask handed t o just settles comes =
        let there = group_comes paths.code paths.promises v t o comes.reaches in
        let l = slice_get_within (nodes paths.code) there.node o there.is_node in
        ap not (settles there.node there.is_node (group_class paths v t)
        (may_be (graph_of paths.code) class_of_group_bit bit_of_group (entry_group v.role)
        (change_group paths.promises v.number) (of_group body v) (mask there.node) (group_class paths v t)
        (has (graph_of paths.code) class_of_group_bit bit_of_group (entry_group v.role)
        (change_group paths.promises v.number) (of_group body v) there.node (mask there.node)
        (just there.node l) (group_class paths v t) there.is_at)))

    not_true : (x : Bool) → not x ≡ true → x ≡ false
    not_true true e = absurd (true≢false (sym e))
    not_true false e = refl

    settles_there : (v : Variable) (kind : VariableKind) (n mask : ℕ) (o : Occurrence Event) (handed : List Handed)
        → slice_get (nodes paths.code) n ≡ Some o
        → o.event ≡ return_event handed
        → HasReached body v kind n mask
        → ((t : List (Occurrence Event)) → ComesToReturn paths t o handed → is_settled paths v t kind ≡ true)
        → IsSettledBy body kind mask
    settles_there v cancel n mask o handed is returns just settles = λ k may.
        let l = cancel_list v n mask o k is just may in
        subst (λ k. is_safe k ≡ true) l.is_class
        (settles l.before record { reaches = l.reaches; is_return = returns })
    settles_there v group n mask o handed is returns just settles = λ k may.
        let l = group_list v n mask o k is just may in
        subst (λ k. is_live k ≡ false) l.is_class
        (not_true (is_live (group_class paths v l.before))
        (settles l.before record { reaches = l.reaches; is_return = returns }))

    settles : (i : ℕ) (v : Variable)
        → slice_get paths.variables i ≡ Some v
        → SettlesIn body states i v ↔ Settles paths v
    settles i v at = (
      λ h. record {
        at_returns = λ handed t o comes.
            settled v v.kind (mask_at body states i) handed t o (λ n l. least.has_reached i v n at l)
            (λ n is. h n o handed is comes.is_return) comes;
      },
      λ h n o handed is returns.
          settles_there v v.kind n (mask_at body states i n) o handed is returns
          (least.has_reached i v n at (slice_get_within (nodes paths.code) n o is))
          (λ t comes. h.at_returns handed t o comes),
    )

-- Of any body of these paths

module _ (paths : Paths) (b : CheckedBody) (certified : CanHaveCertificate paths b) where
  is_body : body paths b.order b.is_claimed ≡ b
  is_body i = record {
    edition = sym certified.is_of.is_edition i;
    graph = sym certified.is_of.is_graph i;
    order = b.order;
    variables = sym certified.is_of.are_variables i;
    promises = sym certified.is_of.are_promises i;
    is_claimed = b.is_claimed;
  }

  own_groups : StartsInOwnGroups (body paths b.order b.is_claimed)
  own_groups = subst StartsInOwnGroups (sym is_body) certified.starts_in_own_groups

  by_edition : KeepsByEdition (body paths b.order b.is_claimed)
  by_edition = subst KeepsByEdition (sym is_body) certified.keeps_by_edition

  of_paths : (P : CheckedBody → Type 0)
      → (StartsInOwnGroups (body paths b.order b.is_claimed)
      → KeepsByEdition (body paths b.order b.is_claimed)
      → P (body paths b.order b.is_claimed))
      → P b
  of_paths P f = subst P is_body (f own_groups by_edition)

pub least_holds : LeastHolds
least_holds paths b states certified sound keeps =
    of_paths paths b certified (λ b. KeepsEachClaim paths b → IsLeast b states → Holds b states)
    (λ own kept_by keeps least.
    holds paths b.order b.is_claimed (bits_fit paths.variables certified.are_few) own states least sound keeps kept_by
    certified.are_few) keeps

pub least_settles : LeastSettles
least_settles paths b states certified =
    of_paths paths b certified
    (λ b. IsLeast b states → (i : ℕ) (v : Variable) → slice_get paths.variables i ≡ Some v
    → SettlesIn b states i v ↔ Settles paths v)
    (λ own kept_by least.
    settles paths b.order b.is_claimed (bits_fit paths.variables certified.are_few) own states least)

-- Each certificate that holds has all classes

module _ {K : Type 0}
    (g : Graph Event) (class_of : ℕ → Option K) (bit_of : K → Option ℕ) (entry : K) (change : Event → K → K)
    (told : (k : K) (bit : ℕ) → bit_of k ≡ Some bit → class_of bit ≡ Some k) (mask : ℕ → ℕ)
    (closed : IsClosed g class_of bit_of entry change mask) where
  holds_all : (n : ℕ) (k : K) → IsReached g change (entry ∷ []) n k → MayBe class_of (mask n) k
  holds_all n k (starts a b) =
      let h = closed.at_starts n a in
      subst (MayBe class_of (mask n)) (only entry k b)
      record { bit = h.bit; is_in = h.is_in; is_class = told entry h.bit h.is_bit }
  holds_all n k (goes {n = m} {k = j} {o = o} {ms = ms} r a b c) =
      let h = closed.along_edges m n o ms a b c j (holds_all m j r) in
      record { bit = h.bit; is_in = h.is_in; is_class = told (change o.event j) h.bit h.is_bit }

module _ {K : Type 0} (class_of : ℕ → Option K) (IsSo : K → Type 0) (mask : ℕ) (just : HasJust class_of IsSo mask) where
  is_so : (k : K) → MayBe class_of mask k → IsSo k
  is_so k may =
      let stands = (just may.bit).0 may.is_in in
      subst IsSo (same_Some stands.class k (sym stands.is_class ∙ may.is_class)) stands.is_so

within_by_kind : (b : CheckedBody) (v : Variable) (kind : VariableKind) (n : ℕ) (mask other : ℕ → ℕ)
    → HasReached b v kind n (mask n)
    → IsClosedFor b v kind other
    → HasClassesOf b kind (mask n) (other n)
within_by_kind b v cancel n mask other just edges = λ k may.
    holds_all b.graph (class_of_bit b) (bit_of_class b) (entry_cancel v.role) (change_cancel b.promises v.number)
    (cancel_inverse (groups_with_bits b.variables)).there other edges n k
    (is_so (class_of_bit b) (IsCancelAt b.graph b.promises v n) (mask n) just k may)
within_by_kind b v group n mask other just edges = λ k may.
    holds_all b.graph class_of_group_bit bit_of_group (entry_group v.role) (change_group b.promises v.number)
    (of_group b v).there other edges n k
    (is_so class_of_group_bit (IsGroupAt b.graph b.promises v n) (mask n) just k may)

pub least_is_within : LeastIsWithin
least_is_within b states others least holds i v n at l =
    within_by_kind b v v.kind n (mask_at b states i) (mask_at b others i) (least.has_reached i v n at l)
    (holds.is_closed i v at)
