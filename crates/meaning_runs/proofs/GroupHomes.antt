-- The group that a literal is started in, its home. In a file of which no use is a fault each literal that an event
-- starts has that group as its home, and each literal with a home is started by an event. A body starts work only in
-- its home and in groups that it declares itself.
use Rattle.std.proofs.Common.{◌≡◌, ℕ, ◌<◌, Bool, true, false, ◌⊎◌, inl, inr, List, [], ◌∷◌, ◌++◌, Option, Some, None, Contains, refl, sym, ap, ◌∙◌, subst, arith}
use Rattle.std.specs.Prelude.{◌==◌, ◌&&◌, ◌||◌, not, if◌then◌else◌, codes}
use Rattle.std.specs.List.{list_any, list_all}
use Rattle.std.specs.Str.{bytes_eq}
use Rattle.std.proofs.lemmas.Bool.{and_parts, or_left, or_right, eq-eqb, false≢true}
use Rattle.std.proofs.lemmas.List.Elements.{Contains-append_left, Contains-append_right}
use Rattle.std.proofs.lemmas.Option.{none-some, same_Some}
use Rattle.tree.specs.declared.edition.Edition.{Edition}
use Rattle.tree.specs.declared.edition.Edition.TheVariants.{First, Second}
use Rattle.meaning.specs.FunctionFacts.{group}
use Rattle.meaning.specs.Mentions.{Named, starts_by, is_start, is_one, nowhere, Call, LiteralUse, other_use, deferred_call, call_under_go, started_by, argument_use, called, Mention, BodyPlace, mentions, opens, mention}
use Rattle.meaning.specs.Tracked.{local_meant_or, variable_of, Placed, Local}
use Rattle.meaning.specs.Uses.{Seen, found, tracked_kind, is_group, is_body, is_outside, is_of_local, is_started_by_it, is_member_of, are_members, literals_between, Event, start, try, UseFault, Outcome, allowed_if, is_free, only_argument, is_statement_place, is_statement_or_value, group_started, group_tried, group_awaited, group_limited, group_called, group_use, use_outcome, mention_outcome, role_outcome, local_outcome, variable_outcome, mention_faults, is_run, runs_once, is_deferred_use}
use Rattle.meaning.specs.BodyEvents.{bodies_of, opened_in, mark_faults, outer_faults_of, outer_faults, faults_of, body_faults, variables_of, too_many_faults}
use Rattle.meaning.proofs.Membership.{contains_here, contains_cases, contains_nil}
use Rattle.meaning_packages.proofs.BodyPlaces.{placed_there}
use Rattle.meaning_runs.specs.Bodies.{Body}
use Rattle.meaning_runs.specs.BodyOffsets.{AreApart}
use Rattle.meaning_runs.proofs.BoundOnce.{IsWithout, of_its_mark}
use Rattle.meaning_runs.proofs.Captured.{any_there}
use Rattle.meaning_runs.proofs.GroupUses.{AreMembers, AreRunOnce, members_declared}
use Rattle.meaning_runs.proofs.LeftSides.{Stands}
use Rattle.meaning_runs.proofs.MarkForms.{is_started, literal_of}
use Rattle.meaning_runs.proofs.MarksBeside.{EndsWith, all_of_them, one_more, AreInForm, opened_there}
use Rattle.meaning_runs.proofs.OwnVariables.{found_is}
use Rattle.meaning_runs.proofs.Places.{eqb_is}
use Rattle.meaning_runs.proofs.TrackedBindings.{is_group_kind}

-- what runs once is called under `defer` or `go`
runs_anyhow : (edition : Edition) (b : BodyPlace) → runs_once edition b ≡ true → is_run b.literal ≡ true
runs_anyhow First b e = by b.literal e
  where
    by : (used : LiteralUse) → is_deferred_use used ≡ true → is_run used ≡ true
    by other_use q = absurd (false≢true q)
    by deferred_call q = refl
    by call_under_go q = absurd (false≢true q)
    by (started_by n) q = absurd (false≢true q)
runs_anyhow Second b e = e

-- Homes

abbrev number_of_group : Seen → Option Local → Option ℕ
number_of_group seen None = None
number_of_group seen (Some l) = if is_group (tracked_kind seen (Some l)) then Some l.number else None

-- the group whose Go or TryGo has the literal as its argument
abbrev pub home_of : Seen → LiteralUse → Option ℕ
home_of seen other_use = None
home_of seen deferred_call = None
home_of seen call_under_go = None
home_of seen (started_by n) = number_of_group seen (found seen (local_meant_or (seen.known.means n.at) None))

abbrev pub home_in : Body → Option ℕ
home_in b = home_of b.file b.place.literal

-- the local that is the home of a literal
pub record IsAtHome (seen : Seen) (used : LiteralUse) (v : ℕ) : Type 0 where
  pub callee : Named
  pub is_started_so : used ≡ started_by callee
  pub local : Local
  pub is_found : found seen (local_meant_or (seen.known.means callee.at) None) ≡ Some local
  pub is_group_local : tracked_kind seen (Some local) ≡ Some group
  pub is_it : local.number ≡ v

pub at_home : (seen : Seen) (used : LiteralUse) (v : ℕ) → home_of seen used ≡ Some v → IsAtHome seen used v
at_home seen other_use v e = absurd (none-some v e)
at_home seen deferred_call v e = absurd (none-some v e)
at_home seen call_under_go v e = absurd (none-some v e)
at_home seen (started_by n) v e = by (found seen (local_meant_or (seen.known.means n.at) None)) refl e
  where
    by_kind : (l : Local) (b : Bool)
        → found seen (local_meant_or (seen.known.means n.at) None) ≡ Some l
        → is_group (tracked_kind seen (Some l)) ≡ b
        → (if b then Some l.number else None) ≡ Some v
        → IsAtHome seen (started_by n) v
    by_kind l true is q h = record {
      callee = n;
      is_started_so = refl;
      local = l;
      is_found = is;
      is_group_local = is_group_kind (tracked_kind seen (Some l)) q;
      is_it = same_Some l.number v h;
    }
    by_kind l false is q h = absurd (none-some v h)

    by : (o : Option Local)
        → found seen (local_meant_or (seen.known.means n.at) None) ≡ o
        → number_of_group seen o ≡ Some v
        → IsAtHome seen (started_by n) v
    by None is h = absurd (none-some v h)
    by (Some l) is h = by_kind l (is_group (tracked_kind seen (Some l))) is refl h

pub home_found : (seen : Seen) (n : Named) (l : Local)
    → found seen (local_meant_or (seen.known.means n.at) None) ≡ Some l
    → tracked_kind seen (Some l) ≡ Some group
    → home_of seen (started_by n) ≡ Some l.number
home_found seen n l is tracked =
    ap (number_of_group seen) is ∙ ap (λ k. if is_group k then Some l.number else None) tracked

-- a literal that the local starts is at home in it
pub member_home : (seen : Seen) (l : Local) (b : BodyPlace)
    → found seen (Some l.number) ≡ Some l
    → tracked_kind seen (Some l) ≡ Some group
    → is_member_of seen.known l b ≡ true
    → home_of seen b.literal ≡ Some l.number
member_home seen l b is tracked e = by b.literal e
  where
    number : (o : Option ℕ) → is_of_local l o ≡ true → o ≡ Some l.number
    number None q = absurd (false≢true q)
    number (Some n) q = ap Some (eqb_is n l.number q)

    by : (used : LiteralUse) → is_started_by_it seen.known l used ≡ true → home_of seen used ≡ Some l.number
    by other_use q = absurd (false≢true q)
    by deferred_call q = absurd (false≢true q)
    by call_under_go q = absurd (false≢true q)
    by (started_by n) q = home_found seen n l (ap (found seen) (number _ q) ∙ is) tracked

-- Calls that start a literal

used_start : (x y : Bool) (m n : Named) → (if x && y then started_by m else other_use) ≡ started_by n → (m ≡ n) × (x ≡ true)
used_start true true m n e = let same : m ≡ n = cc in (same, refl)
used_start true false m n e = let bad : other_use ≡ started_by n = e in absurd (cc)
used_start false y m n e = let bad : other_use ≡ started_by n = e in absurd (cc)

-- the call of a literal that is started is one of Go or TryGo
pub start_of : (c : Call) (n : Named) → argument_use (Some c) ≡ started_by n → (c.callee ≡ n) × (is_start c.callee ≡ true)
start_of c n e = used_start (is_start c.callee) (is_one c.arguments && not c.has_ellipsis) c.callee n e

-- Where an event starts something

-- what a mention that starts something gives
pub record IsAllowedStart (seen : Seen) (bodies : List BodyPlace) (l : Local) (c : Call) (events : List Event) : Type 0 where
  pub is_whole : is_statement_or_value c.place ≡ true
  pub are_members : AreMembers seen bodies l
  pub gives_it : Contains events (start l.number (literal_of c)) ⊎ Contains events (try l.number (literal_of c))

module _ (seen : Seen) (bodies : List BodyPlace) (m : Mention) (l : Local) (c : Call) where
  abbrev outcome_so : Option (List Event) → Outcome
  outcome_so o = use_outcome group l m o

  -- where it is no fault, the condition of a use holds
  if_no_fault : (b : Bool) (es : List Event)
      → IsWithout (outcome_so (allowed_if b es)).faults
      → (b ≡ true) × ((outcome_so (allowed_if b es)).events ≡ es)
  if_no_fault true es none = (refl, refl)
  if_no_fault false es none = absurd (none _ (contains_here _ []))

  -- what is allowed at such a place
  abbrev allowed_at : Bool → Event → Option (List Event)
  allowed_at at_place event = allowed_if (at_place && (is_free seen (only_argument c)
      && are_members seen.known l bodies)) (event ∷ [])

  -- there it starts what the event says
  started_so : (at_place : Bool) (event : Event)
      → (at_place ≡ true → is_statement_or_value c.place ≡ true)
      → ((events : List Event) → Contains events event
      → Contains events (start l.number (literal_of c)) ⊎ Contains events (try l.number (literal_of c)))
      → IsWithout (outcome_so (allowed_at at_place event)).faults
      → IsAllowedStart seen bodies l c (outcome_so (allowed_at at_place event)).events
  started_so at_place event whole it none =
      let members = are_members seen.known l bodies in
      let r = if_no_fault (at_place && (is_free seen (only_argument c) && members)) (event ∷ []) none in
      let parts = and_parts at_place (is_free seen (only_argument c) && members) r.0 in
      record {
        is_whole = whole parts.0;
        are_members = (and_parts (is_free seen (only_argument c)) members parts.1).1;
        gives_it = it _ (subst (λ (l : List Event). Contains l event) (sym r.1) (contains_here event []));
      }

  -- whether the name is Go, and whether it is TryGo
  abbrev by_tests : List ℕ → Bool → Bool → Option (List Event)
  by_tests n is_go is_try =
      if is_go then group_started seen l bodies c
      else if is_try then group_tried seen l bodies c
      else if bytes_eq n (codes "Wait") then group_awaited seen.known.edition l bodies c
      else if bytes_eq n (codes "SetLimit") then group_limited l bodies c
      else None

  by_name : (o : Option (List ℕ))
      → starts_by o ≡ true
      → IsWithout (outcome_so (group_called seen l bodies o c)).faults
      → IsAllowedStart seen bodies l c (outcome_so (group_called seen l bodies o c)).events
  by_name None e none = absurd (false≢true e)
  by_name (Some n) e none = by (bytes_eq n (codes "Go")) (bytes_eq n (codes "TryGo")) e none
    where
      by : (x y : Bool) → (x || y) ≡ true
          → IsWithout (outcome_so (by_tests n x y)).faults
          → IsAllowedStart seen bodies l c (outcome_so (by_tests n x y)).events
      by true y q h = started_so (is_statement_place c.place) (start l.number (literal_of c))
          (λ e. or_left (is_statement_place c.place) _ e) (λ events there. inl there) h
      by false true q h = started_so (is_statement_or_value c.place) (try l.number (literal_of c)) (λ e. e)
          (λ events there. inr there) h
      by false false q h = absurd (false≢true q)

  module _ (role : m.role ≡ called c) (is : found seen (variable_of seen.known m) ≡ Some l)
      (tracked : tracked_kind seen (Some l) ≡ Some group) where
    its_outcome : variable_outcome seen bodies m ≡ outcome_so (group_called seen l bodies m.named.selected c)
    its_outcome =
        ap (local_outcome seen bodies m) is ∙ ap (role_outcome seen l bodies m) role
        ∙ ap (λ k. mention_outcome seen l k bodies m) tracked
        ∙ ap (λ r. outcome_so (group_use seen l bodies m r)) role

    is_allowed : is_start m.named ≡ true
        → IsWithout (variable_outcome seen bodies m).faults
        → IsAllowedStart seen bodies l c (variable_outcome seen bodies m).events
    is_allowed begins none =
        subst (λ (o : Outcome). IsAllowedStart seen bodies l c o.events) (sym its_outcome)
        (by_name m.named.selected begins (subst (λ (o : Outcome). IsWithout o.faults) its_outcome none))

-- A file without faults

-- the tree of a text, of which no use is a fault
pub record IsWellUsed (seen : Seen) : Type 0 where
  pub apart : AreApart seen.marks
  pub form : AreInForm seen.marks
  pub fits : (p : Placed) → Contains seen.marks p → Stands p.mark
  pub outside : IsWithout (outer_faults seen)
  pub inside : (b : BodyPlace) → Contains (bodies_of seen) b → IsWithout (body_faults seen b.at)

-- what the first mark adds
abbrev outer_and : Seen → Placed → List Placed → List BodyPlace → List UseFault
outer_and seen q qs bodies =
    if is_outside bodies then mark_faults seen q.bodies q.mark ++ outer_faults_of seen qs else outer_faults_of seen qs

of_outer_mark : (seen : Seen) (marks : List Placed) (p : Placed) (x : UseFault)
    → Contains marks p
    → p.bodies ≡ []
    → Contains (mark_faults seen p.bodies p.mark) x
    → Contains (outer_faults_of seen marks) x
of_outer_mark seen [] p x among out h = absurd (contains_nil p among)
of_outer_mark seen (q ∷ qs) p x among out h =
    elim (contains_cases q p qs among) [
      | inl same ↦ first q.bodies (ap (λ (r : Placed). r.bodies) same ∙ out)
          (subst (λ (r : Placed). Contains (mark_faults seen r.bodies r.mark) x) (sym same) h)
      | inr later ↦ next q.bodies (of_outer_mark seen qs p x later out h)
    ]
  where
    first : (bodies : List BodyPlace) → bodies ≡ [] → Contains (mark_faults seen q.bodies q.mark) x
        → Contains (outer_and seen q qs bodies) x
    first [] e k = Contains-append_left (mark_faults seen q.bodies q.mark) (outer_faults_of seen qs) x k
    first (b ∷ bs) e k = let bad : b ∷ bs ≡ [] = e in absurd (cc)

    next : (bodies : List BodyPlace) → Contains (outer_faults_of seen qs) x → Contains (outer_and seen q qs bodies) x
    next [] k = Contains-append_right (mark_faults seen q.bodies q.mark) (outer_faults_of seen qs) x k
    next (b ∷ bs) k = k

last_one : (b : BodyPlace) (bs : List BodyPlace) → (z : BodyPlace) × EndsWith z [] (b ∷ bs)
last_one b [] = (b, all_of_them)
last_one b (c ∷ cs) = let r = last_one c cs in (r.0, one_more r.1)

-- one of these bodies is the one at that offset
abbrev pub IsDeclaredIn : ℕ → List BodyPlace → Type 0
IsDeclaredIn declaring bodies = list_any (λ (b : BodyPlace). b.at == declaring) bodies ≡ true

abbrev OutermostPasses : (BodyPlace → Bool) → List BodyPlace → Type 0
OutermostPasses test bodies = (z : BodyPlace) → EndsWith z [] bodies → test z ≡ true

-- the body that declares the local is one of these, or each of these passes the test, the outermost too
declared_or : (test : BodyPlace → Bool) (declaring : ℕ) (bodies : List BodyPlace)
    → list_all test (literals_between declaring bodies) ≡ true
    → IsDeclaredIn declaring bodies ⊎ OutermostPasses test bodies
declared_or test declaring [] e = inr (λ z ends. absurd (none_ends z [] refl ends))
  where
    none_ends : (z : BodyPlace) (bs : List BodyPlace) → bs ≡ [] → EndsWith z [] bs → ⊥
    none_ends z bs q all_of_them = let bad : z ∷ [] ≡ [] = q in cc
    none_ends z bs q (one_more {c = c} {bs = rest} h) = let bad : c ∷ rest ≡ [] = q in cc
declared_or test declaring (b ∷ bs) e = by (b.at == declaring) refl e (declared_or test declaring bs)
  where
    passes_on : test b ≡ true → OutermostPasses test bs → (z : BodyPlace) (cs : List BodyPlace) → cs ≡ b ∷ bs → EndsWith z [] cs → test z ≡ true
    passes_on first rest z cs q all_of_them = let same : b ≡ z = cc in subst (λ x. test x ≡ true) same first
    passes_on first rest z cs q (one_more {bs = more} h) =
        let same : more ≡ bs = cc in rest z (subst (EndsWith z []) same h)

    by : (t : Bool) → (b.at == declaring) ≡ t
        → list_all test (if t then [] else b ∷ literals_between declaring bs) ≡ true
        → (list_all test (literals_between declaring bs) ≡ true → IsDeclaredIn declaring bs ⊎ OutermostPasses test bs)
        → IsDeclaredIn declaring (b ∷ bs) ⊎ OutermostPasses test (b ∷ bs)
    by true here all more = inl (or_left (b.at == declaring) _ here)
    by false here all more =
        let parts = and_parts (test b) (list_all test (literals_between declaring bs)) all in
        elim (more parts.1) [
          | inl later ↦ inl (or_right (b.at == declaring) _ later)
          | inr rest ↦ inr (λ z ends. passes_on parts.0 rest z (b ∷ bs) refl ends)
        ]

module _ (seen : Seen) (well : IsWellUsed seen) where
  -- a body around a mark is one of the file
  is_body_of : (p : Placed) (b : BodyPlace) (around : List BodyPlace)
      → Contains seen.marks p
      → EndsWith b around p.bodies
      → Contains (opened_in seen.marks) b
  is_body_of p b around among ends = opened_there seen.marks _ b (well.form.begun p b around among ends) refl

  no_mark_fault : (p : Placed) → Contains seen.marks p → IsWithout (mark_faults seen p.bodies p.mark)
  no_mark_fault p among x h = by p.bodies refl
    where
      by : (bodies : List BodyPlace) → p.bodies ≡ bodies → ⊥
      by [] e = well.outside x (of_outer_mark seen seen.marks p x among e h)
      by (b ∷ bs) e =
          let there = is_body_of p b bs among (subst (EndsWith b bs) (sym e) all_of_them) in
          let here : is_body b.at p.bodies ≡ true = ap (is_body b.at) e ∙ eq-eqb b.at b.at refl in
          let own = faults_of seen b.at seen.marks in
          well.inside b (placed_there (opened_in seen.marks) b there) x
          (Contains-append_left own (too_many_faults (variables_of seen b.at)) x (of_its_mark seen b.at seen.marks p x among here h))

  no_use_fault : (m : Mention) (bodies : List BodyPlace)
      → Contains seen.marks record { mark = mentions m; bodies = bodies }
      → IsWithout (variable_outcome seen bodies m).faults
  no_use_fault m bodies among x h =
      no_mark_fault _ among x (Contains-append_left (mention_faults seen bodies m) _ x
      (Contains-append_left (variable_outcome seen bodies m).faults _ x h))

  -- the mention that has the literal as its argument
  pub record IsStartedBy (b : BodyPlace) (around : List BodyPlace) (v : ℕ) : Type 0 where
    pub site : ℕ
    pub call : Call
    pub local : Local
    pub is_there : Contains seen.marks record { mark = mention site (called call) call.callee; bodies = around }
    pub is_argument : literal_of call ≡ Some b.at
    pub is_placed : around ≡ [] → call.place ≡ nowhere
    pub is_found : found seen (local_meant_or (seen.known.means call.callee.at) None) ≡ Some local
    pub is_group_local : tracked_kind seen (Some local) ≡ Some group
    pub is_it : local.number ≡ v
    pub allowed : IsAllowedStart seen around local call
        (variable_outcome seen around record { named = call.callee; role = called call; site = site; declares = None }).events

  -- a literal that is at home in a group is the argument of a mention that starts it
  pub started_by_mention : (b : BodyPlace) (around : List BodyPlace) (v : ℕ)
      → Contains seen.marks record { mark = opens b; bodies = b ∷ around }
      → home_of seen b.literal ≡ Some v
      → IsStartedBy b around v
  started_by_mention b around v among e =
      let home = at_home seen b.literal v e in
      let led = (well.form.beside _ among).led (ap is_started home.is_started_so) in
      let c = led.call in
      let start = start_of c home.callee (sym led.is_used_so ∙ home.is_started_so) in
      let callee = well.form.beside _ led.is_there c refl in
      let is = ap (λ (n : Named). found seen (local_meant_or (seen.known.means n.at) None)) start.0 ∙ home.is_found in
      let m : Mention = record { named = c.callee; role = called c; site = led.site; declares = None } in
      record {
        site = led.site;
        call = c;
        local = home.local;
        is_there = led.is_there;
        is_argument = led.is_argument;
        is_placed = callee.is_placed;
        is_found = is;
        is_group_local = home.is_group_local;
        is_it = home.is_it;
        allowed = is_allowed seen around m home.local c refl is home.is_group_local start.1 (no_use_fault m around led.is_there);
      }

  -- what stands in no body has none
  pub outermost_has_no_home : (z : BodyPlace) (v : ℕ)
      → Contains seen.marks record { mark = opens z; bodies = z ∷ [] }
      → home_of seen z.literal ≡ Some v
      → ⊥
  outermost_has_no_home z v among e =
      let w = started_by_mention z [] v among e in
      false≢true (ap is_statement_or_value (sym (w.is_placed refl)) ∙ w.allowed.is_whole)

  -- Which bodies declare a group that is used

  module _ (p : Placed) (among : Contains seen.marks p) (l : Local) (c : BodyPlace) (cs : List BodyPlace) (here : p.bodies ≡ c ∷ cs) where
    outermost : (z : BodyPlace) × EndsWith z [] p.bodies
    outermost = subst (λ (bs : List BodyPlace). (z : BodyPlace) × EndsWith z [] bs) (sym here) (last_one c cs)

    begins : Contains seen.marks record { mark = opens outermost.0; bodies = outermost.0 ∷ [] }
    begins = well.form.begun p outermost.0 [] among outermost.1

    pub by_members : found seen (Some l.number) ≡ Some l
        → tracked_kind seen (Some l) ≡ Some group
        → AreMembers seen p.bodies l
        → IsDeclaredIn l.body p.bodies
    by_members is tracked members = members_declared seen.known l p.bodies members

    pub by_runs : AreRunOnce seen p.bodies l → IsDeclaredIn l.body p.bodies
    by_runs once = elim (declared_or (runs_once seen.known.edition) l.body p.bodies once) [
      | inl h ↦ h
      | inr all ↦ absurd (false≢true (sym ((well.form.beside _ begins).not_run refl)
          ∙ runs_anyhow seen.known.edition outermost.0 (all outermost.0 outermost.1)))
    ]

  -- a literal does not declare its home
  pub home_is_around : (b : BodyPlace) (around : List BodyPlace) (v : ℕ) (l : Local)
      → Contains seen.marks record { mark = opens b; bodies = b ∷ around }
      → home_of seen b.literal ≡ Some v
      → found seen (Some v) ≡ Some l
      → l.body ≡ b.at
      → ⊥
  home_is_around b around v l among e is same = by around refl
    where
      w : IsStartedBy b around v
      w = started_by_mention b around v among e

      one : w.local ≡ l
      one = same_Some w.local l (sym (found_is seen _ w.local w.is_found).0 ∙ ap (λ n. found seen (Some n)) w.is_it ∙ is)

      by : (bodies : List BodyPlace) → around ≡ bodies → ⊥
      by [] q = outermost_has_no_home b v (subst (λ (bs : List BodyPlace). Contains seen.marks record { mark = opens b; bodies = b ∷ bs }) q among) e
      by (c ∷ cs) q =
          let there = by_members record { mark = mention w.site (called w.call) w.call.callee; bodies = around } w.is_there w.local c cs q
          (found_is seen _ w.local w.is_found).0 w.is_group_local w.allowed.are_members in
          let declaring = any_there (λ (d : BodyPlace). d.at == w.local.body) around there in
          let less : declaring.0.at < b.at = (well.apart.falling _ among).0 declaring.0 declaring.1 in
          let at : declaring.0.at ≡ b.at = eqb_is declaring.0.at w.local.body declaring.2 ∙ ap (λ (x : Local). x.body) one ∙ same in
          omega (arith, less, at)
