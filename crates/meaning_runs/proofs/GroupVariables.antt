-- The groups that a body's events are about, in a file of which no use is a fault. Each is one of the body's variables.
-- Work is started in groups that the body declares, or in its home; a wait is for one that it declares, or the body is
-- called under `defer`; a group that is lent or made is the body's own. A literal that is started has the group as its
-- home, and each literal with a home is started so.
use Rattle.std.proofs.Common.{◌≡◌, ℕ, Bool, true, false, ◌⊎◌, inl, inr, List, [], ◌∷◌, ◌++◌, Option, Some, None, Contains, refl, sym, ap, ◌∙◌, subst}
use Rattle.std.specs.Prelude.{◌==◌, ◌&&◌, ◌||◌, not, if◌then◌else◌, is_none}
use Rattle.std.specs.List.{list_any, list_all}
use Rattle.std.proofs.lemmas.Bool.{and_parts, and_from, or_left, eq-eqb, false≢true}
use Rattle.std.proofs.lemmas.Option.{none-some}
use Rattle.tree.specs.Syntax.{Expressions, no_expression, expression_and}
use Rattle.meaning.specs.Code.{Occurrence}
use Rattle.meaning.specs.Lists.{Exit, Lists, Reaches}
use Rattle.meaning.specs.FunctionFacts.{group}
use Rattle.meaning.specs.Mentions.{Named, is_start, is_one, CallPlace, Call, LiteralUse, other_use, deferred_call, call_under_go, started_by, argument_use, called, Mention, BodyPlace, Moment, at_return, in_goroutine, mentions, opens}
use Rattle.meaning.specs.Tracked.{local_meant_or, variable_of, Placed, outer, Local}
use Rattle.meaning.specs.Uses.{Seen, found, VariableAt, Callee, Event, lend, is_body, is_own as is_own_of, is_of_local, is_run, runs_once, is_member_of, literals_between, variable_outcome, error_events}
use Rattle.meaning.specs.Kept.{object_events}
use Rattle.meaning.specs.BodyEvents.{Variable, captured, role_in, role_in_own, bodies_of, opened_in, is_declared_around, is_captured_there, is_variable_of, sent_events, mark_events}
use Rattle.meaning_packages.specs.CallsFlags.{has_name, is_function}
use Rattle.meaning_packages.proofs.BodyPlaces.{placed_only}
use Rattle.meaning_runs.specs.Bodies.{Program, Body, IsOf, IsOutermost, IsLiteralIn, code_of, variables_in, is_captured}
use Rattle.meaning_runs.specs.BodyOffsets.{AreApart}
use Rattle.meaning_runs.specs.EventSources.{HasSource}
pub use Rattle.meaning_runs.specs.Steps.{Starts, by_start, by_try}
use Rattle.meaning_runs.proofs.Bindings.{Binds, kind_bound, is_bound}
use Rattle.meaning_runs.proofs.BodyOffsets.{opened_there as begun_there}
use Rattle.meaning_runs.proofs.Captured.{any_true, own_role}
use Rattle.meaning_runs.proofs.DeferredLiterals.{run_literal_there}
use Rattle.meaning_runs.proofs.SentEvents.{run_event}
use Rattle.meaning_runs.proofs.GroupHomes.{at_home, home_of, home_in, home_found, IsWellUsed, IsDeclaredIn, member_home, by_members, by_runs, outermost_has_no_home, home_is_around, started_by_mention}
use Rattle.meaning_runs.proofs.GroupUses.{members_between, AreMembers, AreRunOnce, UsesGroup, starts, tries, waits, waits_later, lends, HasGroupUse, is_about_group, group_use_there}
use Rattle.meaning_runs.proofs.MarkForms.{is_started, literal_of, use_at}
use Rattle.meaning_runs.proofs.MarksBeside.{IsOpened, IsBeside, EndsWith, all_of_them, opened_there}
use Rattle.meaning_runs.proofs.OwnNumbers.{declares_it, is_own}
use Rattle.meaning_runs.proofs.OwnBindings.{BindsVariable}
use Rattle.meaning_runs.proofs.OwnVariables.{find_is, found_is, as_variable, is_its, is_listed, binds_variable}
use Rattle.meaning_runs.proofs.Places.{eqb_is}
use Rattle.meaning_runs.proofs.StartedLiterals.{starts_about, IsStartOf, start_said, argument_there}
use Rattle.meaning_runs.proofs.TrackedBindings.{is_tracked}
use Rattle.std.proofs.lemmas.List.Elements.{Contains-append_left}

-- Events

pub data Lends : Event → ℕ → Type 0 where
  by_loan : {v : ℕ} {f : Callee} {k : ℕ} → Lends (lend v f k) v

-- a group of that number is one of the body's variables
pub record HasGroup (b : Body) (v : ℕ) : Type 0 where
  pub variable : Variable
  pub is_of_body : Contains (variables_in b) variable
  pub is_it : variable.number ≡ v
  pub is_group_variable : variable.kind ≡ group

-- the body declares it, as a parameter or in its block
abbrev pub IsItsOwn : {b : Body} {v : ℕ} → HasGroup b v → Type 0
IsItsOwn h = is_captured h.variable.role ≡ false

lends_about : (e : Event) (v : ℕ) → Lends e v → is_about_group e ≡ true
lends_about e v by_loan = refl

lend_said : (seen : Seen) (bodies : List BodyPlace) (m : Mention) (l : Local) (e : Event) (v : ℕ)
    → UsesGroup seen bodies m l e
    → Lends e v
    → (is_own_of l bodies ≡ true) × (l.number ≡ v)
lend_said seen bodies m l e v (lends f k h) by_loan = (h, refl)
lend_said seen bodies m l e v (starts c h k) a = elim a [ ]
lend_said seen bodies m l e v (tries c h k) a = elim a [ ]
lend_said seen bodies m l e v (waits h) a = elim a [ ]
lend_said seen bodies m l e v (waits_later h) a = elim a [ ]

-- the call of Go or TryGo with a literal as its only argument
only_one : (n : Named) (es : Expressions) (ellipsis : Bool) (place : CallPlace) (at : ℕ)
    → literal_of record { callee = n; arguments = es; has_ellipsis = ellipsis; place = place } ≡ Some at
    → (is_one es && not ellipsis) ≡ true
only_one n no_expression ellipsis place at e = absurd (none-some at e)
only_one n (expression_and a no_expression) false place at e = refl
only_one n (expression_and a no_expression) true place at e = absurd (none-some at e)
only_one n (expression_and a (expression_and b es)) ellipsis place at e = absurd (none-some at e)

start_use : (c : Call) (at : ℕ) → is_start c.callee ≡ true → literal_of c ≡ Some at → argument_use (Some c) ≡ started_by c.callee
start_use c at begins e =
    ap (λ x. if x && (is_one c.arguments && not c.has_ellipsis) then started_by c.callee else other_use) begins
    ∙ ap (λ x. if x then started_by c.callee else other_use) (only_one c.callee c.arguments c.has_ellipsis c.place at e)

-- in the body one literal begins at an offset
pub one_literal : (b : Body) → AreApart b.file.marks → (c d : Body) → IsLiteralIn b c → IsLiteralIn b d
    → c.place.at ≡ d.place.at
    → c ≡ d
one_literal b apart c d is also same =
    let first = opened_there b.file.marks is.mark c.place is.is_of_file is.opens_it in
    let second = opened_there b.file.marks also.mark d.place also.is_of_file also.opens_it in
    λ i. record {
      home = (is.same_home ∙ sym also.same_home) i;
      file = (is.same_file ∙ sym also.same_file) i;
      place = apart.one_each c.place d.place first second same i;
    }

-- Bodies around a mention

record HasFirst (at : ℕ) (bodies : List BodyPlace) : Type 0 where
  first : BodyPlace
  rest : List BodyPlace
  is_so : bodies ≡ first ∷ rest
  begins_there : first.at ≡ at

first_body : (at : ℕ) (bodies : List BodyPlace) → is_body at bodies ≡ true → HasFirst at bodies
first_body at [] e = absurd (false≢true e)
first_body at (b ∷ bs) e = record { first = b; rest = bs; is_so = refl; begins_there = eqb_is b.at at e }

-- a body that declares what an inner one mentions stands around that
around_if : (declaring body : ℕ) (c : BodyPlace) (cs : List BodyPlace)
    → c.at ≡ body
    → IsDeclaredIn declaring (c ∷ cs)
    → (declaring == body) ≡ false
    → is_declared_around declaring body (c ∷ cs) ≡ true
around_if declaring body c cs here e apart =
    subst (λ t. (if t then list_any (λ (d : BodyPlace). d.at == declaring) cs else is_declared_around declaring body cs) ≡ true)
    (sym (eq-eqb c.at body here)) (later (c.at == declaring) refl e)
  where
    later : (t : Bool) → (c.at == declaring) ≡ t
        → (t || list_any (λ (d : BodyPlace). d.at == declaring) cs) ≡ true
        → list_any (λ (d : BodyPlace). d.at == declaring) cs ≡ true
    later true q h =
        let same : declaring ≡ body = sym (eqb_is c.at declaring q) ∙ here in
        absurd (false≢true (sym apart ∙ eq-eqb declaring body same))
    later false q h = h

-- what passes each literal between a mention and the declaring body passes the innermost, if that does not declare it
first_passes : (test : BodyPlace → Bool) (declaring : ℕ) (c : BodyPlace) (cs : List BodyPlace)
    → list_all test (literals_between declaring (c ∷ cs)) ≡ true
    → (c.at == declaring) ≡ false
    → test c ≡ true
first_passes test declaring c cs e apart =
    (and_parts (test c) (list_all test (literals_between declaring cs))
    (subst (λ t. list_all test (if t then [] else c ∷ literals_between declaring cs) ≡ true) apart e)).0

module _ (b : Body) (well : IsWellUsed b.file) (its : Contains (bodies_of b.file) b.place) where
  module _ (e : Event) (u : HasGroupUse b e) where
    abbrev l : Local
    l = u.use_of.local

    abbrev bodies : List BodyPlace
    bodies = u.placed.bodies

    its_bodies : HasFirst b.place.at bodies
    its_bodies = first_body b.place.at bodies u.stands_here

    is_found_so : found b.file (Some l.number) ≡ Some l
    is_found_so = (found_is b.file (variable_of b.file.known u.mention) l u.use_of.is_found).0

    -- the body that it stands in is this one
    is_this : its_bodies.first ≡ b.place
    is_this =
        let ends = subst (EndsWith its_bodies.first its_bodies.rest) (sym its_bodies.is_so) all_of_them in
        let opened = well.form.begun u.placed its_bodies.first its_bodies.rest u.is_of_file ends in
        well.apart.one_each its_bodies.first b.place (opened_there b.file.marks _ its_bodies.first opened refl)
        (placed_only (opened_in b.file.marks) b.place its) its_bodies.begins_there

    its_mention : is_of_local l (variable_of b.file.known u.mention) ≡ true
    its_mention = by (variable_of b.file.known u.mention) u.use_of.is_found
      where
        by : (o : Option ℕ) → found b.file o ≡ Some l → is_of_local l o ≡ true
        by None q = absurd (none-some l q)
        by (Some n) q = eq-eqb n l.number (sym (find_is b.file.locals n l q).1)

    abbrev occurs_at : Placed → Bool
    occurs_at p = is_captured_there b.file.known b.place.at l p.bodies p.mark

    -- the declaring body is this one, or stands around it
    is_variable : IsDeclaredIn l.body bodies → is_variable_of b.file b.place.at l ≡ true
    is_variable declared = is_its b l group is_found_so u.use_of.is_group (by (l.body == b.place.at) refl)
      where
        by : (t : Bool) → (l.body == b.place.at) ≡ t → (t || list_any occurs_at b.file.marks) ≡ true
        by true q = refl
        by false q =
            let inner = subst (λ (bs : List BodyPlace). IsDeclaredIn l.body bs) its_bodies.is_so declared in
            let around = around_if l.body b.place.at its_bodies.first its_bodies.rest its_bodies.begins_there inner q in
            let both = and_from (is_declared_around l.body b.place.at bodies) (is_of_local l (variable_of b.file.known u.mention))
            (subst (λ (bs : List BodyPlace). is_declared_around l.body b.place.at bs ≡ true) (sym its_bodies.is_so) around)
            its_mention in
            any_true occurs_at b.file.marks u.placed u.is_of_file
            (subst (λ m. is_captured_there b.file.known b.place.at l bodies m ≡ true) (sym u.is_mention) both)

    has_group : IsDeclaredIn l.body bodies → HasGroup b l.number
    has_group declared = record {
      variable = as_variable b l group is_found_so u.use_of.is_group;
      is_of_body = is_listed b l group is_found_so u.use_of.is_group (is_variable declared);
      is_it = refl;
      is_group_variable = refl;
    }

    -- it is the body's own, or what passes the literals between passes this body
    own_or : (test : BodyPlace → Bool)
        → list_all test (literals_between l.body bodies) ≡ true
        → (is_captured (role_in b.place.at l) ≡ false) ⊎ (test b.place ≡ true)
    own_or test e = by (l.body == b.place.at) refl
      where
        by : (t : Bool) → (l.body == b.place.at) ≡ t
            → (is_captured (if t then role_in_own l.role else captured) ≡ false) ⊎ (test b.place ≡ true)
        by true q = inl (own_role l.role)
        by false q =
            let apart : (its_bodies.first.at == l.body) ≡ false = other (its_bodies.first.at == l.body) refl in
            inr (subst (λ (c : BodyPlace). test c ≡ true) is_this
            (first_passes test l.body its_bodies.first its_bodies.rest
            (subst (λ (bs : List BodyPlace). list_all test (literals_between l.body bs) ≡ true) its_bodies.is_so e) apart))
          where
            other : (s : Bool) → (its_bodies.first.at == l.body) ≡ s → s ≡ false
            other false r = refl
            other true r =
                let same : l.body ≡ b.place.at = sym (eqb_is its_bodies.first.at l.body r) ∙ its_bodies.begins_there in
                absurd (false≢true (sym q ∙ eq-eqb l.body b.place.at same))

    -- it stands as a group of a number
    as_number : (P : (n : ℕ) → HasGroup b n → Type 0) (v : ℕ) → l.number ≡ v → (g : HasGroup b l.number) → P l.number g
        → (g : HasGroup b v) × P v g
    as_number P v same g h = subst (λ n. (g : HasGroup b n) × P n g) same (g, h)

    by_these : AreMembers b.file bodies l → IsDeclaredIn l.body bodies
    by_these members =
        by_members b.file well u.placed u.is_of_file l its_bodies.first its_bodies.rest its_bodies.is_so is_found_so
        u.use_of.is_group members

    start_allowed : (v : ℕ) → l.number ≡ v → AreMembers b.file bodies l
        → (g : HasGroup b v) × (IsItsOwn g ⊎ (home_in b ≡ Some v))
    unfolding has_group
    start_allowed v same members =
        as_number (λ n g. IsItsOwn g ⊎ (home_in b ≡ Some n)) v same (has_group (by_these members))
        (elim (own_or (is_member_of b.file.known l) (members_between b.file.known l bodies members)) [
          | inl own ↦ inl own
          | inr member ↦ inr (member_home b.file l b.place is_found_so u.use_of.is_group member)
        ])

    wait_allowed : (v : ℕ) → l.number ≡ v → AreRunOnce b.file bodies l
        → (g : HasGroup b v) × (IsItsOwn g ⊎ (runs_once b.file.known.edition b.place ≡ true))
    unfolding has_group
    wait_allowed v same once =
        as_number (λ n g. IsItsOwn g ⊎ (runs_once b.file.known.edition b.place ≡ true)) v same
        (has_group (by_runs b.file well u.placed u.is_of_file l its_bodies.first its_bodies.rest its_bodies.is_so once))
        (own_or (runs_once b.file.known.edition) once)

    own_allowed : (v : ℕ) → l.number ≡ v → is_own_of l bodies ≡ true → (g : HasGroup b v) × IsItsOwn g
    unfolding has_group
    own_allowed v same own =
        as_number (λ n g. IsItsOwn g) v same
        (has_group (subst (λ (bs : List BodyPlace). IsDeclaredIn l.body bs) (sym its_bodies.is_so) (or_left _ _ first_declares)))
        (elim (own_or (λ c. false) (subst (λ (bs : List BodyPlace). list_all (λ c. false) (literals_between l.body bs) ≡ true)
        (sym its_bodies.is_so)
        (ap (λ t. list_all (λ (c : BodyPlace). false) (if t then [] else its_bodies.first ∷ literals_between l.body its_bodies.rest)) first_declares)))
        [ inl h ↦ h | inr bad ↦ absurd (false≢true bad) ])
      where
        first_declares : (its_bodies.first.at == l.body) ≡ true
        first_declares = subst (λ (bs : List BodyPlace). is_body l.body bs ≡ true) its_bodies.is_so own

    -- the literal that it starts
    start_has_literal : (v at : ℕ) → IsStartOf b.file bodies u.mention l v (Some at)
        → (d : Body) × IsLiteralIn b d × (d.place.at ≡ at) × (home_in d ≡ Some v)
    start_has_literal v at s =
        let argument = argument_there b well.form e u s.call at s.is_start_there.is_callee s.is_literal in
        let callee = argument.callee in
        let h = argument.literal in
        let used = h.is_used_so ∙ start_use s.call at (ap is_start (sym callee.is_named) ∙ s.is_start_there.is_of_start) s.is_literal in
        let is : found b.file (local_meant_or (b.file.known.means s.call.callee.at) None) ≡ Some l =
        ap (λ (n : Named). found b.file (local_meant_or (b.file.known.means n.at) None)) (sym callee.is_named)
        ∙ ap (λ declares. found b.file (local_meant_or (b.file.known.means u.mention.named.at) declares)) (sym callee.declares_none)
        ∙ u.use_of.is_found in (
          h.literal,
          h.is_literal,
          h.begins_there,
          ap (λ f. home_of f h.literal.place.literal) h.is_literal.same_file
              ∙ ap (home_of b.file) used ∙ home_found b.file s.call.callee l is u.use_of.is_group ∙ ap Some s.is_it,
        )

  -- each event that a list of the body's code has is so (`has_source`)
  module _ (e : Event) (source : HasSource b e) where
    use_there : is_about_group e ≡ true → HasGroupUse b e
    use_there about = group_use_there b e source about

    -- work is started in a group of the body's own, or in its home
    pub starts_are_allowed : (v : ℕ) (literal : Option ℕ)
        → Starts e v literal
        → (g : HasGroup b v) × (IsItsOwn g ⊎ (home_in b ≡ Some v))
    starts_are_allowed v literal h =
        let u = use_there (starts_about e v literal h) in
        let s = start_said b.file u.placed.bodies u.mention u.use_of.local e v literal u.use_of.uses h in
        start_allowed e u v s.is_it s.are_members

    -- a literal that is started is there, and each one at its offset has the group as its home
    pub started_literal_is_there : (v at : ℕ)
        → Starts e v (Some at)
        → (d : Body) × IsLiteralIn b d × (d.place.at ≡ at) × (home_in d ≡ Some v)
    started_literal_is_there v at h =
        let u = use_there (starts_about e v (Some at) h) in
        start_has_literal e u v at
        (start_said b.file u.placed.bodies u.mention u.use_of.local e v (Some at) u.use_of.uses h)

    pub started_literal_is_at_home : (v : ℕ) (d : Body)
        → IsLiteralIn b d
        → Starts e v (Some d.place.at)
        → home_in d ≡ Some v
    started_literal_is_at_home v d is h =
        let r = started_literal_is_there v d.place.at h in
        subst (λ c. home_in c ≡ Some v) (one_literal b well.apart r.0 d r.1 is r.2) r.3

    pub lends_are_own : (v : ℕ) → Lends e v → (g : HasGroup b v) × IsItsOwn g
    lends_are_own v h =
        let u = use_there (lends_about e v h) in
        let s = lend_said b.file u.placed.bodies u.mention u.use_of.local e v u.use_of.uses h in
        own_allowed e u v s.1 s.0

  -- an event of the body that starts the literal, on a path or not
  pub record IsStarted (d : Body) (v : ℕ) : Type 0 where
    pub placed : Placed
    pub event : Event
    pub is_of_file : Contains b.file.marks placed
    pub stands_here : is_body b.place.at placed.bodies ≡ true
    pub is_given : Contains (mark_events b.file placed.bodies placed.mark) event
    pub starts_it : Starts event v (Some d.place.at)

  -- each literal with a home is started there
  pub literal_at_home_is_started : (d : Body) → IsLiteralIn b d → (v : ℕ) → home_in d ≡ Some v → IsStarted d v
  literal_at_home_is_started d is v home =
      let around = outer is.mark.bodies in
      let opened = subst (λ m. IsBeside b.file.marks is.mark.bodies m) is.opens_it (well.form.beside is.mark is.is_of_file) in
      let it : is.mark ≡ record { mark = opens d.place; bodies = d.place ∷ around } =
      λ i. record { mark = is.opens_it i; bodies = opened.stands_first i } in
      let w = started_by_mention b.file well d.place around v (subst (Contains b.file.marks) it is.is_of_file)
      (ap (λ f. home_of f d.place.literal) (sym is.same_file) ∙ home) in
      let m : Mention = record { named = w.call.callee; role = called w.call; site = w.site; declares = None } in
      let literal = literal_of w.call in
      let same : (e : Event) → Starts e w.local.number literal → Starts e v (Some d.place.at) =
      λ e h. subst (λ k. Starts e k (Some d.place.at)) w.is_it (subst (λ k. Starts e w.local.number k) w.is_argument h) in
      let started : (e : Event) → Contains (variable_outcome b.file around m).events e → Starts e w.local.number literal
      → IsStarted d v =
      λ e there h. record {
        placed = record { mark = mentions m; bodies = around };
        event = e;
        is_of_file = w.is_there;
        stands_here = is.stands_in_it;
        is_given = Contains-append_left (variable_outcome b.file around m).events
            (error_events b.file m m.role ++ (object_events b.file around m ++ sent_events b.file.known.edition b.file around m)) e
            there;
        starts_it = same e h;
      } in
      elim w.allowed.gives_it [ inl there ↦ started _ there by_start | inr there ↦ started _ there by_try ]

  -- the mark that opens the body
  opening_mark : (p : Placed) × Contains b.file.marks p × (p.mark ≡ opens b.place)
  opening_mark = begun_there b.file.marks b.place (placed_only (opened_in b.file.marks) b.place its)

  opened_so : (p : Placed) → Contains b.file.marks p → p.mark ≡ opens b.place → IsOpened b.file.marks p.bodies b.place
  opened_so p among is = subst (λ m. IsBeside b.file.marks p.bodies m) is (well.form.beside p among)

  place_of : (p : Placed) → (is : p.mark ≡ opens b.place) → (among : Contains b.file.marks p)
      → Contains b.file.marks record { mark = opens b.place; bodies = b.place ∷ outer p.bodies }
  place_of p is among =
      let same : p ≡ record { mark = opens b.place; bodies = b.place ∷ outer p.bodies } =
      λ i. record { mark = is i; bodies = (opened_so p among is).stands_first i } in
      subst (Contains b.file.marks) same among

  -- the home of a literal is none of its own variables
  pub home_is_not_its_own : (v : ℕ) → home_in b ≡ Some v → is_own b v ≡ false
  home_is_not_its_own v home = by (found b.file (Some v)) refl
    where
      by_body : (l : Local) (t : Bool) → found b.file (Some v) ≡ Some l → (l.body == b.place.at) ≡ t → t ≡ false
      by_body l false is q = refl
      by_body l true is q =
          let m = opening_mark in
          absurd (home_is_around b.file well b.place (outer m.0.bodies) v l (place_of m.0 m.2 m.1) home is (eqb_is l.body b.place.at q))

      by : (o : Option Local) → found b.file (Some v) ≡ o → declares_it b.place.at o ≡ false
      by None is = refl
      by (Some l) is = by_body l (l.body == b.place.at) is refl

  -- what anyone may call has no home: a body that stands in no other, and a function
  pub outermost_is_not_at_home : IsOutermost b → (v : ℕ) → home_in b ≡ Some v → ⊥
  outermost_is_not_at_home is v home =
      outermost_has_no_home b.file well b.place v
      (subst (λ (bs : List BodyPlace). Contains b.file.marks record { mark = opens b.place; bodies = b.place ∷ bs })
      is.stands_in_none (place_of is.mark is.opens_it is.is_of_file)) home

  pub function_is_not_at_home : (name : List ℕ) → is_function name b.place ≡ true → (v : ℕ) → home_in b ≡ Some v → ⊥
  function_is_not_at_home name is v home =
      let m = opening_mark in
      let started = ap is_started (at_home b.file b.place.literal v home).is_started_so in
      let led = (opened_so m.0 m.1 m.2).led started in
      false≢true (ap (has_name name) (sym led.has_no_name) ∙ (and_parts (is_none b.place.receiver) (has_name name b.place.name) is).1)

-- nor has a literal that is called under `defer` or `go`, or anyhow else
pub run_is_not_at_home : (b : Body) → is_run b.place.literal ≡ true → home_in b ≡ None
run_is_not_at_home b e = by b.place.literal e
  where
    by : (used : LiteralUse) → is_run used ≡ true → home_of b.file used ≡ None
    by other_use q = absurd (false≢true q)
    by deferred_call q = refl
    by call_under_go q = refl
    by (started_by n) q = absurd (false≢true q)

-- what an event binds is a variable that the body declares, of the kind that it binds
pub bindings_are_own : (p : Program) (b : Body) (t : List (Occurrence Event)) (o : Occurrence Event) (u : VariableAt)
    → IsOf p b
    → Reaches (code_of b) t o
    → Binds o.event u
    → BindsVariable (kind_bound o.event) b u
bindings_are_own p b t o u of reached binds =
    let h = is_bound b t o u reached binds in
    binds_variable b u h (kind_bound o.event) (is_tracked p b t o u of reached binds h)

run_so : (moment : Moment) → is_run (use_at moment) ≡ true
run_so at_return = refl
run_so in_goroutine = refl

-- so each literal that begins where an event of the body runs one is called under `defer` or `go`
pub run_literal_runs : (b : Body) → IsWellUsed b.file → (t : List (Occurrence Event)) (x : Exit)
    → Lists (code_of b) t x
    → (o : Occurrence Event)
    → Contains t o
    → (d : Body)
    → (moment : Moment)
    → IsLiteralIn b d
    → o.event ≡ run_event moment d.place.at
    → is_run d.place.literal ≡ true
run_literal_runs b well t x lists o among d moment is e =
    let h = run_literal_there b well.form t x lists o among moment d.place.at e in
    subst (λ c. is_run c.place.literal ≡ true) (one_literal b well.apart h.literal d h.is_literal is h.begins_there)
    (ap is_run h.is_used_so ∙ run_so moment)
