-- What each step makes of a board.
use Rattle.std.proofs.Common.{◌≡◌, ℕ, zero, suc, ◌+◌, ◌*◌, ◌<◌, ◌≤◌, Bool, true, false, List, [], ◌∷◌, ◌++◌, Contains, Option, Some, None, ◌⊎◌, inl, inr, refl, sym, ap, ◌∙◌, subst, length, get_or, arith, slice_get, slice_set}
use Rattle.std.specs.Prelude.{sum_by, replicate, fold, is_some}
use Rattle.std.proofs.lemmas.List.{length-set, length-append, length-replicate}
use Rattle.std.proofs.lemmas.List.Sums.{sum_by-set, sum_by-le, sum_by-cons, get_or-le-sum_by, fold-append}
use Rattle.std.proofs.lemmas.List.Elements.{All-from_get_or}
use Rattle.std.proofs.lemmas.List.Folds.{sum_by-replicate}
use Rattle.std.proofs.lemmas.Option.{slice_get_within, get_or_from_slice_get}
use Rattle.imports.specs.Ranks.{Package, IsOrder}
use Rattle.imports.specs.Settling.{given_imports}
use Rattle.imports.proofs.GivenImports.{table_imports, imports_table}
use Rattle.board.specs.declared.entries.Entry.{Entry}
use Rattle.board.specs.declared.entries.Entry.TheVariants.{Take, Deliver, Back}
use Rattle.board.specs.declared.entries.Phase.{Phase}
use Rattle.board.specs.declared.entries.Phase.TheVariants.{Untaken, Taken, Delivered, GivenBack}
use Rattle.board.specs.History.{State, begun, after, state_of}
use Rattle.board.specs.Legal.{IsRanked, IsIn, IsReady, MayFollow, IsLegalFrom, IsLegal}
use Rattle.board.specs.Ready.{row, CanTake, Listing, Stands}
use Rattle.board.specs.Importers.{AreImporters}
use Rattle.board.specs.Kept.{Fields, IsBoard, Fits, AllFit, HasNoBack, times_in, times_open}
use Rattle.board.proofs.Lists.{get_set, get_replicate, get_there}

state_next : (n : ℕ) (h : List Entry) (e : Entry) → state_of n (h ++ e ∷ []) ≡ after (state_of n h) e
state_next n h e = fold-append after (begun n) h (e ∷ [])

legal_next : (packages : List Package) (rank : ℕ → Option ℕ) (s : State) (es : List Entry) (e : Entry)
    → IsLegalFrom packages rank s es → MayFollow packages rank (fold after s es) e → IsLegalFrom packages rank s (es ++ e ∷ [])
legal_next packages rank s [] e legal may = (may, tt)
legal_next packages rank s (x ∷ es) e legal may = (legal.0, legal_next packages rank (after s x) es e legal.1 may)

-- Sums over phases

at_most_two : (x : Phase) → times_in x ≤ 2
at_most_two Untaken = omega arith
at_most_two (Taken w) = omega arith
at_most_two (Delivered w) = omega arith
at_most_two (GivenBack w) = omega arith

at_most_one : (x : Phase) → times_open x ≤ 1
at_most_one Untaken = omega arith
at_most_one (Taken w) = omega arith
at_most_one (Delivered w) = omega arith
at_most_one (GivenBack w) = omega arith

all_at_most_two : (phases : List Phase) → sum_by times_in phases ≤ length phases * 2
all_at_most_two phases =
    sum_by-le times_in 2 phases
    (All-from_get_or (λ x. times_in x ≤ 2) phases Untaken (λ i low. at_most_two (get_or phases i Untaken)))

all_at_most_one : (phases : List Phase) → sum_by times_open phases ≤ length phases * 1
all_at_most_one phases =
    sum_by-le times_open 1 phases
    (All-from_get_or (λ x. times_open x ≤ 1) phases Untaken (λ i low. at_most_one (get_or phases i Untaken)))

module _ (f : Phase → ℕ) where
  sum_set : (phases : List Phase) (p : ℕ) (old new : Phase) → slice_get phases p ≡ Some old
      → sum_by f (slice_set phases p new) + f old ≡ sum_by f phases + f new
  sum_set phases p old new at =
      let set = sum_by-set f phases p new old (slice_get_within phases p old at) in
      let is = ap f (get_or_from_slice_get phases p old old at) in
      omega (arith, set, is)

  sum_has : (phases : List Phase) (p : ℕ) (old : Phase) → slice_get phases p ≡ Some old → f old ≤ sum_by f phases
  sum_has phases p old at =
      let some = get_or-le-sum_by f phases p old (slice_get_within phases p old at) in
      let is = ap f (get_or_from_slice_get phases p old old at) in
      omega (arith, some, is)

taken_by : (x : Phase) → (times_open x ≡ 0) ⊎ ((w : ℕ) × (x ≡ Taken w))
taken_by Untaken = inl refl
taken_by (Taken w) = inr (w, refl)
taken_by (Delivered w) = inl refl
taken_by (GivenBack w) = inl refl

-- where some are pending, one was taken and is still to come
pub one_taken : (phases : List Phase) → (sum_by times_open phases ≡ 0 → ⊥)
    → (p : ℕ) × (w : ℕ) × (slice_get phases p ≡ Some (Taken w))
one_taken [] some = absurd (some refl)
one_taken (x ∷ phases) some =
    elim (taken_by x) [
      | inl none ↦ (
          let rest = one_taken phases (λ zero_rest. some (omega (arith, sum_by-cons times_open x phases, none, zero_rest))) in
          (suc rest.0, rest.1, rest.2))
      | inr h ↦ (0, h.0, ap (λ (y : Phase). Some y) h.1)
    ]

pub none_taken : (phases : List Phase) → sum_by times_open phases ≡ 0 → (p w : ℕ) → slice_get phases p ≡ Some (Taken w) → ⊥
none_taken phases none p w at = let some = sum_has times_open phases p (Taken w) at in absurd (omega (arith, none, some))

module _ {X : Type 0} (packages : List Package) (rank : ℕ → Option ℕ) (place_of : X → ℕ) where
  -- Room

  -- there is room for a step that a package still has before it
  pub room_left : (b : Fields X) (p : ℕ) (old new : Phase) → IsBoard packages rank place_of b
      → slice_get b.phases p ≡ Some old → times_in new ≡ times_in old + 1 → length b.history < b.capacity
  room_left b p old new is at more =
      let next = sum_set times_in b.phases p old new at in
      let most = all_at_most_two (slice_set b.phases p new) in
      let len = length-set b.phases p new in
      omega (arith, next, more, most, len, is.is_counted, is.has_room, is.are_as_many)

  pub few_pending : (b : Fields X) → IsBoard packages rank place_of b → b.pending ≤ length b.phases
  few_pending b is = omega (arith, is.is_pending, all_at_most_one b.phases)

  pub some_pending : (b : Fields X) (p w : ℕ) → IsBoard packages rank place_of b → slice_get b.phases p ≡ Some (Taken w)
      → 1 ≤ b.pending
  some_pending b p w is at = omega (arith, is.is_pending, sum_has times_open b.phases p (Taken w) at)

  -- What can be taken

  pub ready_by : (b : Fields X) (p : ℕ) → IsBoard packages rank place_of b → CanTake b.rows b.rank b.phases p
      → IsReady packages rank b.phases p
  ready_by b p is can = record {
    is_ranked = (can.0.0, ap (λ (f : ℕ → Option ℕ). f p) (sym is.is_rank) ∙ can.0.1);
    is_untaken = can.1;
    imports_in = λ j h. (
        let P : List (List ℕ) → Type 0 = λ rows. Contains (row rows p) j in
        can.2 j (subst P (sym is.are_rows) (imports_table packages p j h)));
  }

  pub can_by : (b : Fields X) (p : ℕ) → IsBoard packages rank place_of b → IsReady packages rank b.phases p
      → CanTake b.rows b.rank b.phases p
  can_by b p is ready = (
    (ready.is_ranked.0, ap (λ (f : ℕ → Option ℕ). f p) is.is_rank ∙ ready.is_ranked.1),
    ready.is_untaken,
    λ j c.
        let P : List (List ℕ) → Type 0 = λ rows. Contains (row rows p) j in
        ready.imports_in j (table_imports packages p j (subst P is.are_rows c)),
  )

  pub ready_there : (b : Fields X) (p : ℕ) → IsBoard packages rank place_of b → IsReady packages rank b.phases p
      → IsReady packages rank (state_of (length packages) b.history).phases p
  ready_there b p is ready =
      let P : List Phase → Type 0 = λ l. IsReady packages rank l p in
      subst P is.are_phases ready

  -- One step

  abbrev pub stepped : Fields X → ℕ → Phase → List (Option X) → List Entry → ℕ → Bool → ℕ → Listing → Fields X
  stepped b p new outcomes history capacity stopped pending listing = record {
    rows = b.rows;
    rank = b.rank;
    ranked = b.ranked;
    importers = b.importers;
    phases = slice_set b.phases p new;
    outcomes = outcomes;
    history = history;
    capacity = capacity;
    stopped = stopped;
    pending = pending;
    listing = listing;
  }

  -- what a step needs to be one of a board
  pub record Goes (b : Fields X) (e : Entry) (p : ℕ) (old new : Phase) (outcomes : List (Option X)) (stopped : Bool)
      (pending : ℕ) (listing : Listing) : Type 0 where
    pub at : slice_get b.phases p ≡ Some old
    pub may : MayFollow packages rank (state_of (length packages) b.history) e
    pub phases_after : (after (state_of (length packages) b.history) e).phases
        ≡ slice_set (state_of (length packages) b.history).phases p new
    pub stopped_after : stopped ≡ (after (state_of (length packages) b.history) e).stopped
    pub one_more : times_in new ≡ times_in old + 1
    pub outcomes_as_many : length outcomes ≡ length b.outcomes
    pub all_fit : AllFit place_of (slice_set b.phases p new) outcomes
    pub no_back : stopped ≡ false → HasNoBack (slice_set b.phases p new)
    pub is_pending : pending + times_open old ≡ b.pending + times_open new
    pub stands : Stands b.rows b.rank (slice_set b.phases p new) [] listing

  pub goes : (b : Fields X) (e : Entry) (p : ℕ) (old new : Phase) (outcomes : List (Option X)) (history : List Entry)
      (capacity : ℕ) (stopped : Bool) (pending : ℕ) (listing : Listing) → IsBoard packages rank place_of b
      → Goes b e p old new outcomes stopped pending listing → history ≡ b.history ++ e ∷ [] → capacity ≡ b.capacity
      → IsBoard packages rank place_of (stepped b p new outcomes history capacity stopped pending listing)
  goes b e p old new outcomes history capacity stopped pending listing is by adds same =
      let n = length packages in
      let next : state_of n history ≡ after (state_of n b.history) e =
      ap (λ (h : List Entry). state_of n h) adds ∙ state_next n b.history e in
      let P : List Entry → Type 0 = λ h. IsLegal packages rank h in
      let longer = ap (λ (h : List Entry). length h) adds in
      record {
        are_rows = is.are_rows;
        is_rank = is.is_rank;
        is_order = is.is_order;
        are_importers = is.are_importers;
        are_phases = ap (λ (x : List Phase). slice_set x p new) is.are_phases ∙ sym by.phases_after
            ∙ ap (λ (s : State). s.phases) (sym next);
        is_stopped = by.stopped_after ∙ ap (λ (s : State). s.stopped) (sym next);
        is_legal = subst P (sym adds) (legal_next packages rank (begun n) b.history e is.is_legal by.may);
        are_as_many = length-set b.phases p new ∙ is.are_as_many;
        outcomes_as_many = by.outcomes_as_many ∙ is.outcomes_as_many;
        all_fit = by.all_fit;
        is_counted = omega (
          arith,
          longer,
          length-append b.history (e ∷ []),
          is.is_counted,
          sum_set times_in b.phases p old new by.at,
          by.one_more,
        );
        has_room = omega (arith, same, is.has_room);
        no_back = by.no_back;
        is_pending = omega (arith, is.is_pending, sum_set times_open b.phases p old new by.at, by.is_pending);
        stands = by.stands;
      }

  -- Outcomes that fit

  fit_on : (phases : List Phase) (outcomes : List (Option X)) (p : ℕ) (old new : Phase) → slice_get phases p ≡ Some old
      → ((y : Option X) → Fits place_of p old y → Fits place_of p new y) → AllFit place_of phases outcomes
      → AllFit place_of (slice_set phases p new) outcomes
  fit_on phases outcomes p old new at keeps was q x y ex ey =
      elim (get_set phases p q new x ex) [
        | inl h ↦ (
            let P : ℕ → Type 0 = λ k. slice_get outcomes k ≡ Some y in
            let now = keeps y (was p old y at (subst P h.0 ey)) in
            let Q : ℕ → Type 0 = λ k. Fits place_of k x y in
            let R : Phase → Type 0 = λ z. Fits place_of p z y in
            subst Q (sym h.0) (subst R (sym h.1) now))
        | inr h ↦ was q x y h.1 ey
      ]

  fit_delivered : (phases : List Phase) (outcomes : List (Option X)) (p w : ℕ) (r : X) → place_of r ≡ p
      → AllFit place_of phases outcomes → AllFit place_of (slice_set phases p (Delivered w)) (slice_set outcomes p (Some r))
  fit_delivered phases outcomes p w r is was q x y ex ey =
      elim (get_set phases p q (Delivered w) x ex) [
        | inl h ↦ elim (get_set outcomes p q (Some r) y ey) [
          | inl k ↦ (
              let Q : ℕ → Type 0 = λ i. Fits place_of i x y in
              let R : Phase → Type 0 = λ z. Fits place_of p z y in
              let S : Option X → Type 0 = λ z. Fits place_of p (Delivered w) z in
              subst Q (sym h.0) (subst R (sym h.1) (subst S (sym k.1) is)))
          | inr k ↦ absurd (k.0 h.0)
        ]
        | inr h ↦ elim (get_set outcomes p q (Some r) y ey) [
          | inl k ↦ absurd (h.0 k.0)
          | inr k ↦ was q x y h.1 k.1
        ]
      ]

  taken_fits : (p w : ℕ) (y : Option X) → Fits place_of p Untaken y → Fits place_of p (Taken w) y
  taken_fits p w None h = tt
  taken_fits p w (Some k) h = h

  back_fits : (p w : ℕ) (y : Option X) → Fits place_of p (Taken w) y → Fits place_of p (GivenBack w) y
  back_fits p w None h = tt
  back_fits p w (Some k) h = h

  -- The three steps

  pub taken : (b : Fields X) (w p : ℕ) (listing : Listing) (pending : ℕ) → IsBoard packages rank place_of b
      → b.stopped ≡ false → CanTake b.rows b.rank b.phases p → pending ≡ b.pending + 1
      → Stands b.rows b.rank (slice_set b.phases p (Taken w)) [] listing
      → Goes b (Take w p) p Untaken (Taken w) b.outcomes b.stopped pending listing
  taken b w p listing pending is on can more stands = record {
    at = can.1;
    may = (sym is.is_stopped ∙ on, ready_there b p is (ready_by b p is can));
    phases_after = refl;
    stopped_after = is.is_stopped;
    one_more = refl;
    outcomes_as_many = refl;
    all_fit = fit_on b.phases b.outcomes p Untaken (Taken w) can.1 (taken_fits p w) is.all_fit;
    no_back = λ goes_on q v e.
        elim (get_set b.phases p q (Taken w) (GivenBack v) e) [
          | inl h ↦ (let k = h.1 in cc)
          | inr h ↦ is.no_back goes_on q v h.1
        ];
    is_pending = omega (arith, more);
    stands = stands;
  }

  pub delivered : (b : Fields X) (w p : ℕ) (r : X) (listing : Listing) (pending : ℕ) → IsBoard packages rank place_of b
      → place_of r ≡ p → slice_get b.phases p ≡ Some (Taken w) → pending + 1 ≡ b.pending
      → Stands b.rows b.rank (slice_set b.phases p (Delivered w)) [] listing
      → Goes b (Deliver w p) p (Taken w) (Delivered w) (slice_set b.outcomes p (Some r)) b.stopped pending listing
  delivered b w p r listing pending is place at less stands = record {
    at = at;
    may = ap (λ (x : List Phase). slice_get x p) (sym is.are_phases) ∙ at;
    phases_after = refl;
    stopped_after = is.is_stopped;
    one_more = refl;
    outcomes_as_many = length-set b.outcomes p (Some r);
    all_fit = fit_delivered b.phases b.outcomes p w r place is.all_fit;
    no_back = λ goes_on q v e.
        elim (get_set b.phases p q (Delivered w) (GivenBack v) e) [
          | inl h ↦ (let k = h.1 in cc)
          | inr h ↦ is.no_back goes_on q v h.1
        ];
    is_pending = omega (arith, less);
    stands = stands;
  }

  pub returned : (b : Fields X) (w p : ℕ) (listing : Listing) (pending : ℕ) → IsBoard packages rank place_of b
      → slice_get b.phases p ≡ Some (Taken w) → pending + 1 ≡ b.pending
      → Stands b.rows b.rank (slice_set b.phases p (GivenBack w)) [] listing
      → Goes b (Back w p) p (Taken w) (GivenBack w) b.outcomes true pending listing
  returned b w p listing pending is at less stands = record {
    at = at;
    may = ap (λ (x : List Phase). slice_get x p) (sym is.are_phases) ∙ at;
    phases_after = refl;
    stopped_after = refl;
    one_more = refl;
    outcomes_as_many = refl;
    all_fit = fit_on b.phases b.outcomes p (Taken w) (GivenBack w) at (back_fits p w) is.all_fit;
    no_back = λ goes_on. cc;
    is_pending = omega (arith, less);
    stands = stands;
  }

  -- A board on which nothing was done

  pub opens : (b : Fields X) → b.rows ≡ given_imports packages → b.rank ≡ rank → IsOrder packages rank b.ranked
      → AreImporters b.rows b.importers → b.phases ≡ replicate (length packages) Untaken
      → b.outcomes ≡ replicate (length packages) None → b.history ≡ [] → 2 * length packages ≤ b.capacity
      → b.stopped ≡ false → b.pending ≡ 0 → Stands b.rows b.rank b.phases [] b.listing → IsBoard packages rank place_of b
  opens b rows ranks order importers phases outcomes history room stopped pending stands =
      let P : List Entry → Type 0 = λ h. IsLegal packages rank h in
      let S : List Entry → List Phase = λ h. (state_of (length packages) h).phases in
      let T : List Entry → Bool = λ h. (state_of (length packages) h).stopped in
      let counted = ap (sum_by times_in) phases ∙ sum_by-replicate times_in (length packages) Untaken in
      let open_ones = ap (sum_by times_open) phases ∙ sum_by-replicate times_open (length packages) Untaken in
      let no_entry = ap (λ (h : List Entry). length h) history in
      record {
        are_rows = rows;
        is_rank = ranks;
        is_order = order;
        are_importers = importers;
        are_phases = phases ∙ ap S (sym history);
        is_stopped = stopped ∙ ap T (sym history);
        is_legal = subst P (sym history) tt;
        are_as_many = ap (λ (l : List Phase). length l) phases ∙ length-replicate (length packages) Untaken;
        outcomes_as_many = ap (λ (l : List (Option X)). length l) outcomes ∙ length-replicate (length packages) None;
        all_fit = λ p x y ex ey. (
            let is_x = get_replicate (length packages) p Untaken x (ap (λ (l : List Phase). slice_get l p) (sym phases) ∙ ex) in
            let is_y = get_replicate (length packages) p None y (ap (λ (l : List (Option X)). slice_get l p) (sym outcomes) ∙ ey) in
            let Q : Phase → Type 0 = λ z. Fits place_of p z y in
            let R : Option X → Type 0 = λ z. Fits place_of p Untaken z in
            subst Q (sym is_x) (subst R (sym is_y) tt));
        is_counted = omega (arith, counted, no_entry);
        has_room = room;
        no_back = λ goes_on p w e. (
            let is = get_replicate (length packages) p Untaken (GivenBack w)
            (ap (λ (l : List Phase). slice_get l p) (sym phases) ∙ e) in
            cc);
        is_pending = omega (arith, pending, open_ones);
        stands = stands;
      }

  -- The board is over

  in_by : (phases : List Phase) (p : ℕ) (y : Phase) → slice_get phases p ≡ Some y → (slice_get phases p ≡ Some Untaken → ⊥)
      → ((w : ℕ) → slice_get phases p ≡ Some (Taken w) → ⊥) → ((w : ℕ) → slice_get phases p ≡ Some (GivenBack w) → ⊥)
      → IsIn phases p
  in_by phases p Untaken e a b c = absurd (a e)
  in_by phases p (Taken w) e a b c = absurd (b w e)
  in_by phases p (Delivered w) e a b c = (w, e)
  in_by phases p (GivenBack w) e a b c = absurd (c w e)

  -- where nothing is ready, taken or given back, all with a rank below n were delivered
  all_below : (phases : List Phase) (ranked : List ℕ) → IsOrder packages rank ranked → length phases ≡ length packages
      → HasNoBack phases → ((p : ℕ) → IsReady packages rank phases p → ⊥)
      → ((p w : ℕ) → slice_get phases p ≡ Some (Taken w) → ⊥) → (n p r : ℕ) → rank p ≡ Some r → r < n → IsIn phases p
  all_below phases ranked order many back none taken zero p r e low = absurd (omega (arith, low))
  all_below phases ranked order many back none taken (suc n) p r e low =
      let within = ((order.ranks p).0 (ap is_some e)).0 in
      let x = get_there phases p (omega (arith, within, many)) in
      in_by phases p x.0 x.1
      (λ u. none p (record {
        is_ranked = (r, e);
        is_untaken = u;
        imports_in = λ j h. (
            let below = order.imports_first p j r h e in
            all_below phases ranked order many back none taken n j below.0 below.1 (omega (arith, below.2, low)));
      }))
      (λ w t. taken p w t)
      (λ w t. back p w t)

  pub all_in : (b : Fields X) → IsBoard packages rank place_of b → b.stopped ≡ false → b.pending ≡ 0
      → ((p : ℕ) → CanTake b.rows b.rank b.phases p → ⊥) → (p : ℕ) → IsRanked rank p → IsIn b.phases p
  all_in b is on nothing none p has =
      all_below b.phases b.ranked is.is_order is.are_as_many (is.no_back on)
      (λ q ready. none q (can_by b q is ready))
      (none_taken b.phases (sym is.is_pending ∙ nothing))
      (suc has.0) p has.0 has.1 (omega arith)
