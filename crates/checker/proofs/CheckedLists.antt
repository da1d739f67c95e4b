-- What a certificate that holds says of the lists of a body's code.
use Rattle.std.proofs.Common.{◌≡◌, ℕ, true, List, [], ◌∷◌, ◌++◌, Option, Some, Contains, refl, sym, ap, ◌∙◌, subst}
use Rattle.std.specs.Prelude.{slice_get}
use Rattle.std.proofs.lemmas.Bool.{not_from_false}
use Rattle.std.proofs.lemmas.Option.{same_Some}
use Rattle.meaning.specs.Code.{Occurrence, Code}
use Rattle.meaning.specs.Lists.{Lists, stopped, Reaches}
use Rattle.meaning.specs.FunctionFacts.{VariableKind, cancel, group}
use Rattle.meaning.specs.Tracked.{live}
use Rattle.meaning.specs.Uses.{Handed, Event, return_event}
use Rattle.meaning.specs.BodyEvents.{Variable}
use Rattle.meaning.specs.Classes.{CancelClass, opened, kept, pending, entry_cancel, change_cancel, cancel_after, GroupClass, in_state, entry_group, change_group, group_after}
use Rattle.meaning_packages.specs.Credits.{is_live, is_settled}
use Rattle.meaning_packages.specs.PathFaults.{Paths, PathFault, is_lost, is_handed, is_handed_kept, cancel_class, group_class, ComesToReturn, LeavesLive, IsLeft, IsPathFault, loses_cancel, loses_group, returns_live, returns_open, returns_kept, returns_pending, KeepsCall}
use Rattle.flow.specs.Walks.{Graph, graph_of, Walk, arrives, goes_on}
use Rattle.flow.specs.GraphOfCode.{nodes}
use Rattle.flow.proofs.WalksOfLists.{graphs_walk}
use Rattle.path_faults.proofs.Places.{place_of}
use Rattle.bodies.specs.Bits.{group_bit}
use Rattle.bodies.specs.Bits as numbers
use Rattle.bodies.specs.Masks.{bit_of_group, Has, MayBe}
use Rattle.bodies.proofs.ClassNumbers.{cancel_inverse, group_inverse}
use Rattle.checker.specs.Certificates.{CheckedBody, groups_with_bits, class_of_bit, bit_of_class, mask_at, IsClosed, IsClosedFor, is_claimed, IsOwed, is_kept, has_claim, MayBeUncalled, is_open, is_left, Holds, IsSettledBy, SettlesIn}
use Rattle.checker.specs.Certificates as certificates
use Rattle.checker.specs.CheckerLaws.{IsOf, HaveOwnPlaces, LeavesNoFault, KeepsClaims, SettlesWhatItSays}

-- Along a list

same_first : {A : Type 0} (x y : A) (xs ys : List A) → x ∷ xs ≡ y ∷ ys → x ≡ y
same_first x y xs ys e = cc

same_rest : {A : Type 0} (x y : A) (xs ys : List A) → x ∷ xs ≡ y ∷ ys → xs ≡ ys
same_rest x y xs ys e = cc

not_empty : {A : Type 0} (x : A) (t : List A) → t ++ x ∷ [] ≡ [] → ⊥
not_empty x [] e = cc
not_empty x (y ∷ t) e = cc

module _ {K : Type 0} (change : Event → K → K) where
  -- the class after a list
  abbrev after : K → List (Occurrence Event) → K
  after k [] = k
  after k (o ∷ t) = after (change o.event k) t

module _ {K : Type 0} (g : Graph Event) (class_of : ℕ → Option K) (bit_of : K → Option ℕ) (entry : K)
    (change : Event → K → K) (mask : ℕ → ℕ)
    (is_told : (k : K) (bit : ℕ) → bit_of k ≡ Some bit → class_of bit ≡ Some k)
    (closed : IsClosed g class_of bit_of entry change mask) where
  may_be : (n : ℕ) (k : K) → Has bit_of (mask n) k → MayBe class_of (mask n) k
  may_be n k h = record { bit = h.bit; is_in = h.is_in; is_class = is_told k h.bit h.is_bit }

  -- a node of the occurrence has the class
  record HasAt (o : Occurrence Event) (k : K) : Type 0 where
    node : ℕ
    is_node : slice_get g.nodes node ≡ Some o
    has : Has bit_of (mask node) k

  along : {n : ℕ} {us : List (Occurrence Event)} → Walk g n us
      → (k : K) (t : List (Occurrence Event)) (o : Occurrence Event)
      → Has bit_of (mask n) k
      → us ≡ t ++ o ∷ []
      → HasAt o (after change k t)
  along (arrives {n = n} {o = p} here) k [] o h e =
      record { node = n; is_node = here ∙ ap Some (same_first p o [] [] e); has = h }
  along (arrives {n = n} {o = p} here) k (q ∷ t) o h e =
      absurd (not_empty o t (sym (same_rest p q [] (t ++ o ∷ []) e)))
  along (goes_on {n = n} {o = p} {t = us} here there next w) k [] o h e =
      record { node = n; is_node = here ∙ ap Some (same_first p o us [] e); has = h }
  along (goes_on {n = n} {m = m} {o = p} {ms = ms} {t = us} here there next w) k (q ∷ t) o h e =
      let same = same_first p q us (t ++ o ∷ []) e in
      let goes = closed.along_edges n m p ms here there next k (may_be n k h) in
      along w (change q.event k) t o (subst (λ x. Has bit_of (mask m) (change x.event k)) same goes)
      (same_rest p q us (t ++ o ∷ []) e)

  -- what a list has to begin with
  record Begins (t : List (Occurrence Event)) (o : Occurrence Event) : Type 0 where
    first : Occurrence Event
    rest : List (Occurrence Event)
    is : t ++ o ∷ [] ≡ first ∷ rest

  begins : (t : List (Occurrence Event)) (o : Occurrence Event) → Begins t o
  begins [] o = record { first = o; rest = []; is = refl }
  begins (p ∷ t) o = record { first = p; rest = t ++ o ∷ []; is = refl }

  arrives_as : (c : Code Event) → g ≡ graph_of c → (t : List (Occurrence Event)) (o : Occurrence Event)
      → Reaches c t o → HasAt o (after change entry t)
  arrives_as c is_graph t o reaches =
      let b = begins t o in
      let w = (graphs_walk Event c).each_list b.first b.rest (subst (λ l. Lists c l stopped) b.is reaches) in
      let starts = subst (λ h. Contains h.starts w.0) (sym is_graph) w.1 in
      along (subst (λ h. Walk h w.0 (b.first ∷ b.rest)) (sym is_graph) w.2) entry t o (closed.at_starts w.0 starts)
      (sym b.is)

  -- a node of the occurrence may have the class
  pub record MayBeAt (o : Occurrence Event) (k : K) : Type 0 where
    pub node : ℕ
    pub is_node : slice_get g.nodes node ≡ Some o
    pub may_be : MayBe class_of (mask node) k

  pub may_arrive : (c : Code Event) → g ≡ graph_of c → (t : List (Occurrence Event)) (o : Occurrence Event)
      → Reaches c t o → MayBeAt o (after change entry t)
  may_arrive c is_graph t o reaches =
      let it = arrives_as c is_graph t o reaches in
      record { node = it.node; is_node = it.is_node; may_be = may_be it.node (after change entry t) it.has }

same_cancel : (paths : Paths) (number : ℕ) (k : CancelClass) (t : List (Occurrence Event))
    → after (change_cancel paths.promises number) k t ≡ cancel_after paths.promises number k t
same_cancel paths number k [] = refl
same_cancel paths number k (o ∷ t) = same_cancel paths number (change_cancel paths.promises number o.event k) t

same_group : (paths : Paths) (number : ℕ) (k : GroupClass) (t : List (Occurrence Event))
    → after (change_group paths.promises number) k t ≡ group_after paths.promises number k t
same_group paths number k [] = refl
same_group paths number k (o ∷ t) = same_group paths number (change_group paths.promises number o.event k) t

-- A certificate that holds

module _ (paths : Paths) (b : CheckedBody) (states : List (List ℕ)) (is_of : IsOf paths b) (holds : Holds b states) where
  abbrev vs : List Variable
  vs = paths.variables

  there_too : (i : ℕ) (v : Variable) → slice_get vs i ≡ Some v → slice_get b.variables i ≡ Some v
  there_too i v there = ap (λ l. slice_get l i) is_of.are_variables ∙ there

  node_too : (n : ℕ) (o : Occurrence Event) → slice_get b.graph.nodes n ≡ Some o
      → slice_get (nodes paths.code) n ≡ Some o
  node_too n o here = sym (ap (λ g. slice_get g.nodes n) is_of.is_graph) ∙ here

  closed_for : (i : ℕ) (v : Variable) → slice_get vs i ≡ Some v → (kind : VariableKind) → v.kind ≡ kind
      → IsClosedFor b v kind (mask_at b states i)
  closed_for i v there kind is =
      subst (λ k. IsClosedFor b v k (mask_at b states i)) is (holds.is_closed i v (there_too i v there))

  record CancelAt (i : ℕ) (o : Occurrence Event) (k : CancelClass) : Type 0 where
    node : ℕ
    is_node : slice_get b.graph.nodes node ≡ Some o
    may_be : certificates.MayBeCancel b states node i k

  cancel_at : (i : ℕ) (v : Variable) → slice_get vs i ≡ Some v → v.kind ≡ cancel → (t : List (Occurrence Event))
      (o : Occurrence Event) → Reaches paths.code t o → (k : CancelClass) → cancel_class paths v t ≡ k
      → CancelAt i o k
  cancel_at i v there kind t o reaches k is =
      let it = may_arrive b.graph (class_of_bit b) (bit_of_class b) (entry_cancel v.role)
      (change_cancel b.promises v.number) (mask_at b states i)
      (cancel_inverse (groups_with_bits b.variables)).there (closed_for i v there cancel kind) paths.code is_of.is_graph t
      o reaches in
      let same = ap (λ p. after (change_cancel p v.number) (entry_cancel v.role) t) is_of.are_promises
      ∙ same_cancel paths v.number (entry_cancel v.role) t ∙ is in
      record {
        node = it.node;
        is_node = it.is_node;
        may_be = subst (certificates.MayBeCancel b states it.node i) same it.may_be;
      }

  record GroupAt (i : ℕ) (o : Occurrence Event) (k : GroupClass) : Type 0 where
    node : ℕ
    is_node : slice_get b.graph.nodes node ≡ Some o
    may_be : MayBe numbers.group_class (mask_at b states i node) k

  group_at : (i : ℕ) (g : Variable) → slice_get vs i ≡ Some g → g.kind ≡ group → (t : List (Occurrence Event))
      (o : Occurrence Event) → Reaches paths.code t o → (k : GroupClass) → group_class paths g t ≡ k
      → GroupAt i o k
  group_at i g there kind t o reaches k is =
      let it = may_arrive b.graph numbers.group_class bit_of_group (entry_group g.role)
      (change_group b.promises g.number) (mask_at b states i) told (closed_for i g there group kind) paths.code
      is_of.is_graph t o reaches in
      let same = ap (λ p. after (change_group p g.number) (entry_group g.role) t) is_of.are_promises
      ∙ same_group paths g.number (entry_group g.role) t ∙ is in
      record {
        node = it.node;
        is_node = it.is_node;
        may_be = subst (MayBe numbers.group_class (mask_at b states i it.node)) same it.may_be;
      }
    where
      told : (k : GroupClass) (bit : ℕ) → bit_of_group k ≡ Some bit → numbers.group_class bit ≡ Some k
      told k bit e = ap numbers.group_class (sym (same_Some (group_bit k) bit e)) ∙ group_inverse.there k

  -- Paths

  live_at : (g : Variable) (t : List (Occurrence Event)) (o : Occurrence Event) → Reaches paths.code t o
      → LeavesLive paths g t → (i : ℕ) × (slice_get vs i ≡ Some g) × GroupAt i o (in_state live)
  live_at g t o reaches leaves =
      let at = place_of vs g leaves.is_of_body in
      (at.0, at.1, group_at at.0 g at.1 leaves.is_group_variable t o reaches (in_state live) leaves.is_live)

  -- a fault at a return
  uncalled : (i : ℕ) (v : Variable) (handed : List Handed) (o : Occurrence Event) (n : ℕ)
      → slice_get vs i ≡ Some v
      → v.kind ≡ cancel
      → slice_get b.graph.nodes n ≡ Some o
      → o.event ≡ return_event handed
      → IsOwed b v (is_handed v.number handed)
      → MayBeUncalled b states n i
      → ⊥
  uncalled i v handed o n there kind here returns owed may_be =
      holds.has_no_fault n o here (certificates.returns_uncalled i v handed (there_too i v there) kind returns owed may_be)

  never_open : (i : ℕ) (v : Variable) → slice_get vs i ≡ Some v → v.kind ≡ cancel → (handed : List Handed)
      (t : List (Occurrence Event)) (o : Occurrence Event) → ComesToReturn paths t o handed
      → IsOwed b v (is_handed v.number handed) → cancel_class paths v t ≡ opened → ⊥
  never_open i v there kind handed t o comes owed is =
      let it = cancel_at i v there kind t o comes.reaches opened is in
      uncalled i v handed o it.node there kind it.is_node comes.is_return owed (is_open it.may_be)

  never_kept : (i : ℕ) (v : Variable) → slice_get vs i ≡ Some v → v.kind ≡ cancel → (handed : List Handed)
      (t : List (Occurrence Event)) (o : Occurrence Event) → ComesToReturn paths t o handed
      → IsOwed b v (is_handed_kept v.number handed) → cancel_class paths v t ≡ kept → ⊥
  never_kept i v there kind handed t o comes owed is =
      let it = cancel_at i v there kind t o comes.reaches kept is in
      holds.has_no_fault it.node o it.is_node
      (certificates.returns_kept i v handed (there_too i v there) kind comes.is_return owed it.may_be)

  module _ (own : HaveOwnPlaces paths) where
    never_left : (i : ℕ) (v : Variable) → slice_get vs i ≡ Some v → v.kind ≡ cancel → (handed : List Handed)
        (t : List (Occurrence Event)) (o : Occurrence Event) → ComesToReturn paths t o handed
        → IsOwed b v (is_handed v.number handed) → IsLeft paths v t o → ⊥
    never_left i v there kind handed t o comes owed left =
        let g = left.left_to in
        let it = cancel_at i v there kind t o comes.reaches (pending g.number) left.is_pending in
        let live = live_at g left.other_list left.there left.reaches left.is_live in
        let same = own live.2.node it.node left.there o (node_too live.2.node left.there live.2.is_node)
        (node_too it.node o it.is_node) left.same_offset left.same_order in
        uncalled i v handed o it.node there kind it.is_node comes.is_return owed
        (is_left live.0 g (there_too live.0 g live.1) left.is_live.is_group_variable it.may_be
        (subst (λ n. certificates.MayBeLive b states n live.0) same live.2.may_be))

    no_fault : (f : PathFault) → IsPathFault paths f → ⊥
    no_fault _ (loses_cancel v u t o inside kind reaches binds same lost) =
        let at = place_of vs v inside in
        let it = cancel_at at.0 v at.1 kind t o reaches (cancel_class paths v t) refl in
        holds.has_no_fault it.node o it.is_node
        (certificates.loses_cancel at.0 v u (cancel_class paths v t) (there_too at.0 v at.1) kind binds same it.may_be
        (ap (λ l. is_lost l (cancel_class paths v t)) is_of.are_variables ∙ lost))
    no_fault _ (loses_group g u state t o reaches makes same leaves) =
        let it = live_at g t o reaches leaves in
        holds.has_no_fault it.2.node o it.2.is_node
        (certificates.loses_group it.0 g u state (there_too it.0 g it.1) leaves.is_group_variable makes same it.2.may_be)
    no_fault _ (returns_live g handed t o comes declared leaves) =
        let it = live_at g t o comes.reaches leaves in
        holds.has_no_fault it.2.node o it.2.is_node
        (certificates.returns_live it.0 g handed (there_too it.0 g it.1) leaves.is_group_variable comes.is_return declared
        it.2.may_be)
    no_fault _ (returns_open v handed t o comes owes is) =
        let at = place_of vs v owes.is_of_body in
        never_open at.0 v at.1 owes.is_cancel_variable handed t o comes (is_kept owes.is_declared_here owes.is_kept) is
    no_fault _ (returns_kept v handed t o comes owes is not_handed) =
        let at = place_of vs v owes.is_of_body in
        never_kept at.0 v at.1 owes.is_cancel_variable handed t o comes (is_kept owes.is_declared_here not_handed) is
    no_fault _ (returns_pending v handed t o comes owes left) =
        let at = place_of vs v owes.is_of_body in
        never_left at.0 v at.1 owes.is_cancel_variable handed t o comes (is_kept owes.is_declared_here owes.is_kept) left

    claim_kept : (i : ℕ) (v : Variable) → slice_get vs i ≡ Some v → v.kind ≡ cancel
        → is_claimed b.is_claimed v.role ≡ true → KeepsCall paths v
    claim_kept i v there kind claimed = record {
      never_open = λ handed t o comes is. never_open i v there kind handed t o comes (has_claim claimed) is;
      never_kept = λ handed t o comes is. never_kept i v there kind handed t o comes (has_claim claimed) is;
      never_left = λ handed t o comes left. never_left i v there kind handed t o comes (has_claim claimed) left;
    }

  -- Credit

  settled_by : (i : ℕ) (v : Variable) → slice_get vs i ≡ Some v → SettlesIn b states i v → (handed : List Handed)
      (t : List (Occurrence Event)) (o : Occurrence Event) → ComesToReturn paths t o handed
      → (kind : VariableKind) → v.kind ≡ kind → is_settled paths v t kind ≡ true
  settled_by i v there settles handed t o comes cancel kind =
      let it = cancel_at i v there kind t o comes.reaches (cancel_class paths v t) refl in
      let by : IsSettledBy b cancel (mask_at b states i it.node) =
      subst (λ k. IsSettledBy b k (mask_at b states i it.node)) kind (settles it.node o handed it.is_node comes.is_return) in
      by (cancel_class paths v t) it.may_be
  settled_by i v there settles handed t o comes group kind =
      let it = group_at i v there kind t o comes.reaches (group_class paths v t) refl in
      let by : IsSettledBy b group (mask_at b states i it.node) =
      subst (λ k. IsSettledBy b k (mask_at b states i it.node)) kind (settles it.node o handed it.is_node comes.is_return) in
      not_from_false (is_live (group_class paths v t)) (by (group_class paths v t) it.may_be)

pub leaves_no_fault : LeavesNoFault
leaves_no_fault paths b states is_of own holds f is = no_fault paths b states is_of holds own f is

pub keeps_claims : KeepsClaims
keeps_claims paths b states is_of own holds i v there kind claimed =
    claim_kept paths b states is_of holds own i v there kind claimed

pub settles_what_it_says : SettlesWhatItSays
settles_what_it_says paths b states is_of holds i v there settles = record {
  at_returns = λ handed t o comes. settled_by paths b states is_of holds i v there settles handed t o comes v.kind refl;
}
