-- What is kept of the packages that can be taken, and what each step makes of it.
use Rattle.std.proofs.Common.{◌≡◌, ℕ, ◌+◌, ◌*◌, ◌<◌, ◌≤◌, true, false, List, [], ◌∷◌, ◌++◌, Contains, Option, Some, None, inl, inr, refl, sym, ap, ◌∙◌, subst, length, get_or, arith, slice_get, slice_set, drop}
use Rattle.std.specs.Prelude.{sum_by, replicate}
use Rattle.std.proofs.lemmas.Bool.{cases_lt}
use Rattle.std.proofs.lemmas.List.{length-set, length-append, length-replicate, get_or_default, drop_more}
use Rattle.std.proofs.lemmas.List.Sums.{sum_by-set, sum_by-le}
use Rattle.std.proofs.lemmas.List.Elements.{All-from_get_or, Contains-get_or}
use Rattle.std.proofs.lemmas.List.Folds.{sum_by-replicate}
use Rattle.std.proofs.lemmas.Option.{slice_get_within, get_or_from_slice_get, slice_get-get_or}
use Rattle.board.specs.declared.entries.Phase.{Phase}
use Rattle.board.specs.declared.entries.Phase.TheVariants.{Untaken, Taken, Delivered, GivenBack}
use Rattle.board.specs.Legal.{IsRanked, IsIn}
use Rattle.board.specs.Ready.{was_delivered, is_untaken, row, unlisted, is_in_at, Missing, is_untaken_at, FirstUntaken, AreListed, AreIn, Lacks, CanTake, Listing, times_listed, Stands}
use Rattle.board.proofs.Lists.{get_set, get_set_here, get_set_other, get_replicate, get_there, get_push, get_before, get_last, none_in, in_rest}
use Rattle.board.proofs.Phases.{true_false, is_in, not_in, in_is, untaken_is, stays_in, was_in, was_in_before, was_untaken}

unlisted_is : (r : Option ℕ) (k : Option (Option ℕ)) (from : ℕ) → unlisted r k ≡ Some from
    → ((n : ℕ) × (r ≡ Some n)) × (k ≡ Some (Some from))
unlisted_is None k from e = cc
unlisted_is (Some n) None from e = cc
unlisted_is (Some n) (Some count) from e = ((n, refl), ap (λ (x : Option ℕ). Some x) e)

not_unlisted : (r : Option ℕ) (k : Option (Option ℕ)) (n count : ℕ) → unlisted r k ≡ None → r ≡ Some n → k ≡ Some (Some count) → ⊥
not_unlisted None k n count e f g = cc
not_unlisted (Some m) None n count e f g = cc
not_unlisted (Some m) (Some None) n count e f g = cc
not_unlisted (Some m) (Some (Some x)) n count e f g = cc

at_most_one : (x : Option ℕ) → times_listed x ≤ 1
at_most_one None = omega arith
at_most_one (Some count) = omega arith

all_at_most : (known : List (Option ℕ)) → sum_by times_listed known ≤ length known * 1
all_at_most known =
    sum_by-le times_listed 1 known
    (All-from_get_or (λ x. times_listed x ≤ 1) known None (λ i low. at_most_one (get_or known i None)))

count_set : (known : List (Option ℕ)) (p : ℕ) (old new : Option ℕ) → slice_get known p ≡ Some old
    → sum_by times_listed (slice_set known p new) + times_listed old ≡ sum_by times_listed known + times_listed new
count_set known p old new at =
    let set = sum_by-set times_listed known p new old (slice_get_within known p old at) in
    let is = ap times_listed (get_or_from_slice_get known p old old at) in
    omega (arith, set, is)

-- What calls answer, carried to what is kept

pub first_by : (phases : List Phase) (xs ys : List ℕ) (from : ℕ) (o p : Option ℕ) → FirstUntaken phases xs from o
    → xs ≡ ys → o ≡ p → FirstUntaken phases ys from p
first_by phases xs ys from o p first same is =
    let P : List ℕ → Type 0 = λ l. FirstUntaken phases l from o in
    let Q : Option ℕ → Type 0 = λ x. FirstUntaken phases ys from x in
    subst Q is (subst P same first)

pub missing_by : (phases : List Phase) (xs ys : List ℕ) (from : ℕ) (o p : Option ℕ) → Missing phases xs from o
    → xs ≡ ys → o ≡ p → Missing phases ys from p
missing_by phases xs ys from o p missing same is =
    let P : List ℕ → Type 0 = λ l. Missing phases l from o in
    let Q : Option ℕ → Type 0 = λ x. Missing phases ys from x in
    subst Q is (subst P same missing)

pub unlisted_by : (r : Option ℕ) (xs ys : List (Option ℕ)) (place : ℕ) (o p : Option ℕ)
    → o ≡ unlisted r (slice_get xs place) → xs ≡ ys → o ≡ p → unlisted r (slice_get ys place) ≡ p
unlisted_by r xs ys place o p is same known =
    ap (λ (l : List (Option ℕ)). unlisted r (slice_get l place)) (sym same) ∙ sym is ∙ known

module _ (rows : List (List ℕ)) (rank : ℕ → Option ℕ) where
  pub next_place : (phases : List Phase) (places : List ℕ) (index : ℕ) (l : Listing) → index < length places
      → Stands rows rank phases (drop index places) l
      → Stands rows rank phases (get_or places index 0 ∷ drop (index + 1) places) l
  next_place phases places index l low is =
      let P : List ℕ → Type 0 = λ todo. Stands rows rank phases todo l in
      subst P (drop_more places index 0 low) is

  pub starts : (phases : List Phase) (ranked : List ℕ) (l : Listing) → AreListed rank ranked → length phases ≡ length rows
      → l.listed ≡ [] → l.passed ≡ 0 → l.known ≡ replicate (length rows) (Some 0) → length rows ≤ l.capacity
      → Stands rows rank phases ranked l
  starts phases ranked l listed many nothing passed known room =
      let at : (p : ℕ) (y : Option ℕ) → slice_get l.known p ≡ Some y → y ≡ Some 0 = λ p y e.
      get_replicate (length rows) p (Some 0) y (ap (λ (k : List (Option ℕ)). slice_get k p) (sym known) ∙ e) in
      let none = ap (λ (k : List ℕ). length k) nothing in
      let sum = ap (sum_by times_listed) known ∙ sum_by-replicate times_listed (length rows) (Some 0) in
      record {
        phases_as_many = many;
        as_many = ap (λ (k : List (Option ℕ)). length k) known ∙ length-replicate (length rows) (Some 0);
        is_within = omega (arith, passed);
        are_known = λ i p e. (
            let never : slice_get [] i ≡ Some p = ap (λ (k : List ℕ). slice_get k i) (sym nothing) ∙ e in
            cc);
        are_in = λ p e. (let is = at p None e in cc);
        first_in = λ p count e k low bound. (
            let is : Some count ≡ Some 0 = at p (Some count) e in
            let same : count ≡ 0 = cc in
            absurd (omega (arith, same, low)));
        others_lack = λ p count e r out. absurd (out (listed p r.0 r.1));
        is_listed = λ p e u. (let is = at p None e in cc);
        counted = omega (arith, none, sum);
        has_room = room;
      }

  -- Looking at one package

  pub not_listed : (phases : List Phase) (place : ℕ) (rest : List ℕ) (l : Listing)
      → Stands rows rank phases (place ∷ rest) l → unlisted (rank place) (slice_get l.known place) ≡ None
      → Stands rows rank phases rest l
  not_listed phases place rest l is none = record {
    phases_as_many = is.phases_as_many;
    as_many = is.as_many;
    is_within = is.is_within;
    are_known = is.are_known;
    are_in = is.are_in;
    first_in = is.first_in;
    others_lack = λ p count e r out. (
        let apart : p ≡ place → ⊥ = λ same. (
        let P : ℕ → Type 0 = λ k. rank k ≡ Some r.0 in
        let Q : ℕ → Type 0 = λ k. slice_get l.known k ≡ Some (Some count) in
        not_unlisted (rank place) (slice_get l.known place) r.0 count none (subst P same r.1) (subst Q same e)) in
        is.others_lack p count e r (λ h. out (in_rest place rest p apart h)));
    is_listed = is.is_listed;
    counted = is.counted;
    has_room = is.has_room;
  }

  abbrev pub waiting : Listing → ℕ → ℕ → Listing
  waiting l place count = record {
    listed = l.listed;
    passed = l.passed;
    known = slice_set l.known place (Some count);
    capacity = l.capacity;
  }

  module _ (phases : List Phase) (place : ℕ) (rest : List ℕ) (l : Listing) (is : Stands rows rank phases (place ∷ rest) l)
      (from : ℕ) (open_one : unlisted (rank place) (slice_get l.known place) ≡ Some from) where
    ranked : IsRanked rank place
    ranked = (unlisted_is _ _ from open_one).0

    at : slice_get l.known place ≡ Some (Some from)
    at = (unlisted_is _ _ from open_one).1

    pub within : place < length l.known
    within = slice_get_within l.known place (Some from) at

    not_here : (i p : ℕ) → slice_get l.listed i ≡ Some p → p ≡ place → ⊥
    not_here i p e same =
        let P : ℕ → Type 0 = λ k. slice_get l.known k ≡ Some None in
        let none : slice_get l.known place ≡ Some None = subst P same (is.are_known i p e) in
        let some = at in
        cc

    lacks : (p count : ℕ) → slice_get l.known p ≡ Some (Some count) → IsRanked rank p → (Contains rest p → ⊥)
        → (p ≡ place → ⊥) → Lacks rows phases p
    lacks p count e r out apart = is.others_lack p count e r (λ h. out (in_rest place rest p apart h))

    pub waits : (index : ℕ) → Missing phases (row rows place) from (Some index)
        → Stands rows rank phases rest (waiting l place index)
    waits index missing = record {
      phases_as_many = is.phases_as_many;
      as_many = length-set l.known place (Some index) ∙ is.as_many;
      is_within = is.is_within;
      are_known = λ i p e. get_set_other l.known place p (Some index) (not_here i p e) ∙ is.are_known i p e;
      are_in = λ p e.
          elim (get_set l.known place p (Some index) None e) [
            | inl h ↦ (let never = h.1 in cc)
            | inr h ↦ is.are_in p h.1
          ];
      first_in = λ p count e k low bound.
          elim (get_set l.known place p (Some index) (Some count) e) [
            | inl h ↦ (
                let same : count ≡ index = (let g = h.1 in cc) in
                let P : ℕ → Type 0 = λ q. is_in_at phases (row rows q) k ≡ true in
                let Q : ℕ → Type 0 = λ q. k < length (row rows q) in
                let here : k < length (row rows place) = subst Q h.0 bound in
                let small : k < index = omega (arith, same, low) in
                subst P (sym h.0) (elim (cases_lt k from) [
                  | inl before ↦ is.first_in place from at k before here
                  | inr later ↦ missing.2 k later small
                ]))
            | inr h ↦ is.first_in p count h.1 k low bound
          ];
      others_lack = λ p count e r out.
          elim (get_set l.known place p (Some index) (Some count) e) [
            | inl h ↦ (
                let P : ℕ → Type 0 = λ q. Lacks rows phases q in
                subst P (sym h.0) (
                  get_or (row rows place) index 0,
                  Contains-get_or (row rows place) index 0 missing.0,
                  not_in phases (get_or (row rows place) index 0) missing.1,
                ))
            | inr h ↦ lacks p count h.1 r out h.0
          ];
      is_listed = λ p e u.
          elim (get_set l.known place p (Some index) None e) [
            | inl h ↦ (let never = h.1 in cc)
            | inr h ↦ is.is_listed p h.1 u
          ];
      counted = omega (arith, is.counted, count_set l.known place (Some from) (Some index) at);
      has_room = is.has_room;
    }

    next_count : sum_by times_listed (slice_set l.known place None) ≡ sum_by times_listed l.known + 1
    next_count = omega (arith, count_set l.known place (Some from) None at)

    pub room_left : length l.listed < l.capacity
    room_left =
        let most = all_at_most (slice_set l.known place None) in
        let len = length-set l.known place None in
        omega (arith, next_count, most, len, is.counted, is.as_many, is.has_room)

    all_in : Missing phases (row rows place) from None → AreIn rows phases place
    all_in missing j (k, low, same) =
        let P : ℕ → Type 0 = λ q. IsIn phases q in
        let e : is_in_at phases (row rows place) k ≡ true = elim (cases_lt k from) [
          | inl before ↦ is.first_in place from at k before low
          | inr later ↦ missing k later low
        ] in
        let there : get_or (row rows place) k 0 ≡ j = get_or_default (row rows place) k 0 j low ∙ same in
        subst P there (is_in phases (get_or (row rows place) k 0) e)

    pub lists : (more : Listing) → Missing phases (row rows place) from None
        → more.listed ≡ l.listed ++ place ∷ [] → more.passed ≡ l.passed → more.known ≡ slice_set l.known place None
        → more.capacity ≡ l.capacity → Stands rows rank phases rest more
    lists more missing e_listed e_passed e_known e_capacity =
        let now : Stands rows rank phases rest (record {
          listed = l.listed ++ place ∷ [];
          passed = l.passed;
          known = slice_set l.known place None;
          capacity = l.capacity;
        }) = record {
          phases_as_many = is.phases_as_many;
          as_many = length-set l.known place None ∙ is.as_many;
          is_within = omega (arith, is.is_within, length-append l.listed (place ∷ []));
          are_known = λ i p e.
              elim (get_push l.listed i place p e) [
                | inl h ↦ get_set_other l.known place p None (not_here i p h) ∙ is.are_known i p h
                | inr h ↦ (
                    let P : ℕ → Type 0 = λ q. slice_get (slice_set l.known place None) q ≡ Some None in
                    subst P (sym h) (get_set_here l.known place (Some from) None at))
              ];
          are_in = λ p e.
              elim (get_set l.known place p None None e) [
                | inl h ↦ (
                    let P : ℕ → Type 0 = λ q. IsRanked rank q × AreIn rows phases q in
                    subst P (sym h.0) (ranked, all_in missing))
                | inr h ↦ is.are_in p h.1
              ];
          first_in = λ p count e k low bound.
              elim (get_set l.known place p None (Some count) e) [
                | inl h ↦ (let never = h.1 in cc)
                | inr h ↦ is.first_in p count h.1 k low bound
              ];
          others_lack = λ p count e r out.
              elim (get_set l.known place p None (Some count) e) [
                | inl h ↦ (let never = h.1 in cc)
                | inr h ↦ lacks p count h.1 r out h.0
              ];
          is_listed = λ p e u.
              elim (get_set l.known place p None None e) [
                | inl h ↦ (length l.listed, is.is_within, get_last l.listed place ∙ ap Some (sym h.0))
                | inr h ↦ (
                    let there = is.is_listed p h.1 u in
                    (there.0, there.1, get_before l.listed there.0 place p there.2))
              ];
          counted = omega (arith, is.counted, next_count, length-append l.listed (place ∷ []));
          has_room = is.has_room;
        } in
        let same : record {
          listed = l.listed ++ place ∷ [];
          passed = l.passed;
          known = slice_set l.known place None;
          capacity = l.capacity;
        } ≡ more = λ i. record {
          listed = sym e_listed i;
          passed = sym e_passed i;
          known = sym e_known i;
          capacity = sym e_capacity i;
        } in
        subst (Stands rows rank phases rest) same now

  -- Phases that go on

  abbrev pub passing : Listing → ℕ → Listing
  passing l count = record { listed = l.listed; passed = count; known = l.known; capacity = l.capacity }

  goes_on : (phases after : List Phase) (todo : List ℕ) (l : Listing) (count : ℕ) → Stands rows rank phases [] l
      → length after ≡ length phases → count ≤ length l.listed
      → ((q : ℕ) → IsIn phases q → IsIn after q)
      → ((q : ℕ) → (Contains todo q → ⊥) → Lacks rows phases q → Lacks rows after q)
      → ((q : ℕ) → slice_get l.known q ≡ Some None → slice_get after q ≡ Some Untaken
      → (i : ℕ) × (count ≤ i) × (slice_get l.listed i ≡ Some q))
      → Stands rows rank after todo (passing l count)
  goes_on phases after todo l count is many within on lacking listed = record {
    phases_as_many = many ∙ is.phases_as_many;
    as_many = is.as_many;
    is_within = within;
    are_known = is.are_known;
    are_in = λ p e. (let h = is.are_in p e in (h.0, λ j c. on j (h.1 j c)));
    first_in = λ p n e k low bound.
        in_is after (get_or (row rows p) k 0) (on _ (is_in phases (get_or (row rows p) k 0) (is.first_in p n e k low bound)));
    others_lack = λ p n e r out. lacking p out (is.others_lack p n e r (none_in p));
    is_listed = listed;
    counted = is.counted;
    has_room = is.has_room;
  }

  lacks_before : (phases : List Phase) (place : ℕ) (new : Phase) → was_delivered (Some new) ≡ false
      → (q : ℕ) → Lacks rows phases q → Lacks rows (slice_set phases place new) q
  lacks_before phases place new open_one q h = (h.0, h.1, λ later. h.2 (was_in_before phases place new open_one h.0 later))

  module _ (phases : List Phase) (l : Listing) (is : Stands rows rank phases [] l) where
    pub takes : (index place : ℕ) → FirstUntaken phases l.listed l.passed (Some index) → place ≡ get_or l.listed index 0
        → CanTake rows rank phases place
        × ((worker : ℕ) → Stands rows rank (slice_set phases place (Taken worker)) [] (passing l (index + 1)))
    takes index place first same =
        let there : slice_get l.listed index ≡ Some place = slice_get-get_or l.listed index 0 first.1 ∙ ap Some (sym same) in
        let given = is.are_in place (is.are_known index place there) in
        let P : ℕ → Type 0 = λ q. slice_get phases q ≡ Some Untaken in
        let untaken : slice_get phases place ≡ Some Untaken =
        subst P (sym same) (untaken_is phases (get_or l.listed index 0) first.2) in (
          (given.0, untaken, given.1),
          λ worker. goes_on phases (slice_set phases place (Taken worker)) [] l (index + 1) is
              (length-set phases place (Taken worker))
              (omega (arith, first.1))
              (stays_in phases place (Taken worker) Untaken untaken refl)
              (λ q out. lacks_before phases place (Taken worker) refl q)
              (λ q e u.
              let before = was_untaken phases place (Taken worker) refl q u in
              let at = is.is_listed q e before.1 in
              let item : get_or l.listed at.0 0 ≡ q = get_or_from_slice_get l.listed at.0 q 0 at.2 in
              let left : is_untaken_at phases l.listed at.0 ≡ true =
              ap (λ (k : ℕ). is_untaken (slice_get phases k)) item ∙ ap is_untaken before.1 in
              let later : index ≤ at.0 = elim (cases_lt at.0 index) [
                | inl low ↦ absurd (true_false left (first.3 at.0 at.1 low))
                | inr past ↦ past
              ] in
              let apart : at.0 ≡ index → ⊥ = λ here. before.0 (
              sym item ∙ ap (λ (k : ℕ). get_or l.listed k 0) here ∙ sym same) in (
                at.0,
                elim (cases_lt index at.0) [
                  | inl past ↦ omega (arith, past)
                  | inr low ↦ absurd (apart (omega (arith, low, later)))
                ],
                at.2,
              )),
        )

    pub takes_at : (index place : ℕ) → FirstUntaken phases l.listed l.passed (Some index)
        → place ≡ get_or l.listed index place
        → CanTake rows rank phases place
        × ((worker : ℕ) → Stands rows rank (slice_set phases place (Taken worker)) [] (passing l (index + 1)))
    takes_at index place first same =
        takes index place first (same ∙ get_or_default l.listed index place 0 first.1)

    pub none_left : FirstUntaken phases l.listed l.passed None → (p : ℕ) → CanTake rows rank phases p → ⊥
    none_left none p can =
        let within = slice_get_within phases p Untaken can.1 in
        let known = get_there l.known p (omega (arith, within, is.phases_as_many, is.as_many)) in
        by known.0 known.1
      where
        by : (x : Option ℕ) → slice_get l.known p ≡ Some x → ⊥
        by None e =
            let at = is.is_listed p e can.1 in
            let item : get_or l.listed at.0 0 ≡ p = get_or_from_slice_get l.listed at.0 p 0 at.2 in
            let left : is_untaken_at phases l.listed at.0 ≡ true =
            ap (λ (k : ℕ). is_untaken (slice_get phases k)) item ∙ ap is_untaken can.1 in
            true_false left (none at.0 at.1 (slice_get_within l.listed at.0 p at.2))
        by (Some count) e =
            let h = is.others_lack p count e can.0 (none_in p) in
            h.2 (can.2 h.0 h.1)

    pub delivered : (todo : List ℕ) (place worker : ℕ) → slice_get phases place ≡ Some (Taken worker)
        → ((q : ℕ) → Contains (row rows q) place → Contains todo q)
        → Stands rows rank (slice_set phases place (Delivered worker)) todo l
    delivered todo place worker at among =
        goes_on phases (slice_set phases place (Delivered worker)) todo l l.passed is
        (length-set phases place (Delivered worker))
        is.is_within
        (stays_in phases place (Delivered worker) (Taken worker) at refl)
        (λ q out h.
        let apart : h.0 ≡ place → ⊥ = λ same. out (among q (subst (Contains (row rows q)) same h.1)) in (
          h.0,
          h.1,
          λ later. elim (was_in phases place (Delivered worker) h.0 later) [
            | inl same ↦ apart same
            | inr before ↦ h.2 before
          ],
        ))
        (λ q e u. is.is_listed q e (was_untaken phases place (Delivered worker) refl q u).1)

    pub given_back : (place worker : ℕ) → slice_get phases place ≡ Some (Taken worker)
        → Stands rows rank (slice_set phases place (GivenBack worker)) [] l
    given_back place worker at =
        goes_on phases (slice_set phases place (GivenBack worker)) [] l l.passed is
        (length-set phases place (GivenBack worker))
        is.is_within
        (stays_in phases place (GivenBack worker) (Taken worker) at refl)
        (λ q out. lacks_before phases place (GivenBack worker) refl q)
        (λ q e u. is.is_listed q e (was_untaken phases place (GivenBack worker) refl q u).1)
