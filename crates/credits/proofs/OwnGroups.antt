-- Each group in which a node of a body starts a literal is a variable of the body: the node comes from a mark in the body,
-- around which the body that declares the group stands.
use Rattle.std.proofs.Common.{◌≡◌, ℕ, Bool, true, false, ◌⊎◌, inl, inr, List, [], ◌∷◌, Option, Some, None, Contains, refl, sym, ap, ◌∙◌, subst}
use Rattle.std.specs.Prelude.{◌==◌, ◌||◌, if◌then◌else◌, is_some}
use Rattle.std.specs.List.{list_any}
use Rattle.std.proofs.lemmas.Bool.{and_from, false≢true}
use Rattle.std.proofs.lemmas.Bool.Decides.{Decides-eqb}
use Rattle.std.proofs.lemmas.List.Elements.{Contains-append_cases}
use Rattle.std.proofs.lemmas.Option.{none-some, same_Some}
use Rattle.bodies.specs.Bodies.{code_in}
use Rattle.bodies.specs.OwnGroups.{literal_group, groups_of, StartsInOwnGroups}
use Rattle.credits.proofs.BodyVariables.{group_listed}
use Rattle.flow.specs.GraphOfCode.{nodes}
use Rattle.meaning.proofs.Membership.{contains_nil, contains_cases}
use Rattle.meaning.specs.BodyEvents.{is_declared_around, is_captured_there, sites_of, variables_of}
use Rattle.meaning.specs.Code.{Occurrence, Code, skip, does, leave, then_code, either, repeats, up_to}
use Rattle.meaning.specs.FunctionFacts.{group}
use Rattle.meaning.specs.Mentions.{BodyPlace, Mention, mentions}
use Rattle.meaning.specs.Tracked.{variable_of, Placed, Local}
use Rattle.meaning.specs.Uses.{Seen, Event, start, found, tracked_kind, is_body, is_of_local}
use Rattle.meaning_runs.proofs.EventSources.{EachIn, of_body, marked}
use Rattle.meaning_runs.proofs.GroupUses.{is_about_group, AreMembers, members_declared, UsesGroup, starts, tries, waits, waits_later, lends, group_use_there}
use Rattle.meaning_runs.proofs.MarkForms.{literal_of}
use Rattle.meaning_runs.proofs.OwnVariables.{find_is}
use Rattle.meaning_runs.specs.Bodies.{Body}
use Rattle.meaning_runs.specs.EventSources.{HasSource, says_nothing, falls_off, of_mark}
use Rattle.path_faults.proofs.Places.{contains_at, any_holds}

-- Nodes of a code

pub node_has : {E : Type 0} (P : E → Type 0) (c : Code E) → EachIn P c → (o : Occurrence E) → Contains (nodes c) o → P o.event
node_has P skip h o n = absurd (contains_nil o n)
node_has P (does x) h o n =
    elim (contains_cases x o [] n) [
      | inl same ↦ subst (λ (y : Occurrence _). P y.event) same h
      | inr bad ↦ absurd (contains_nil o bad)
    ]
node_has P (leave w) h o n = absurd (contains_nil o n)
node_has P (then_code a b) h o n =
    elim (Contains-append_cases (nodes b) (nodes a) o n) [ inl k ↦ node_has P b h.1 o k | inr k ↦ node_has P a h.0 o k ]
node_has P (either a b) h o n =
    elim (Contains-append_cases (nodes b) (nodes a) o n) [ inl k ↦ node_has P b h.1 o k | inr k ↦ node_has P a h.0 o k ]
node_has P (repeats a) h o n = node_has P a h o n
node_has P (up_to w a) h o n = node_has P a h o n

-- A variable of the body

module _ (seen : Seen) (body : ℕ) (p : Placed) (m : Mention) (l : Local) (among : Contains seen.marks p)
    (is_mention : p.mark ≡ mentions m) (is : found seen (variable_of seen.known m) ≡ Some l) where
  its_local : (o : Option ℕ) → found seen o ≡ Some l → is_of_local l o ≡ true
  its_local None e = absurd (none-some l e)
  its_local (Some n) e = (Decides-eqb n l.number).1 (sym (find_is seen.locals n l e).1)

  captured_here : is_declared_around l.body body p.bodies ≡ true
      → is_captured_there seen.known body l p.bodies p.mark ≡ true
  captured_here around =
      subst (λ mark. is_captured_there seen.known body l p.bodies mark ≡ true) (sym is_mention)
      (and_from (is_declared_around l.body body p.bodies) (is_of_local l (variable_of seen.known m)) around
      (its_local (variable_of seen.known m) is))

  around_if : (bodies : List BodyPlace) → is_body body bodies ≡ true
      → list_any (λ (b : BodyPlace). b.at == l.body) bodies ≡ true
      → (l.body == body) ≡ false
      → is_declared_around l.body body bodies ≡ true
  around_if [] here e other = absurd (false≢true here)
  around_if (b ∷ bs) here e other =
      subst (λ t. (if t then list_any (λ (c : BodyPlace). c.at == l.body) bs else is_declared_around l.body body bs) ≡ true)
      (sym here)
      (elim (or_parts (b.at == l.body) (list_any (λ (c : BodyPlace). c.at == l.body) bs) e) [
        | inl first ↦
            let at = (Decides-eqb b.at body).0 here in
            let too = (Decides-eqb b.at l.body).0 first in
            absurd (false≢true (sym other ∙ (Decides-eqb l.body body).1 (sym too ∙ at)))
        | inr later ↦ later
      ])
    where
      or_parts : (x y : Bool) → (x || y) ≡ true → (x ≡ true) ⊎ (y ≡ true)
      or_parts true y h = inl refl
      or_parts false y h = inr h

  is_of_body : is_body body p.bodies ≡ true
      → list_any (λ (b : BodyPlace). b.at == l.body) p.bodies ≡ true
      → ((l.body == body) || list_any (λ (q : Placed). is_captured_there seen.known body l q.bodies q.mark) seen.marks) ≡ true
  is_of_body here around = by (l.body == body) refl
    where
      by : (t : Bool) → (l.body == body) ≡ t
          → (t || list_any (λ (q : Placed). is_captured_there seen.known body l q.bodies q.mark) seen.marks) ≡ true
      by true e = refl
      by false e =
          any_holds (λ (q : Placed). is_captured_there seen.known body l q.bodies q.mark) seen.marks p among
          (captured_here (around_if p.bodies here around e))

  pub group_there : is_body body p.bodies ≡ true → tracked_kind seen (Some l) ≡ Some group
      → AreMembers seen p.bodies l
      → Contains (groups_of (variables_of seen body)) l.number
  group_there here is_group members =
      group_listed seen body l (variable_of seen.known m) is is_group
      (and_from (is_some (tracked_kind seen (Some l)))
      ((l.body == body) || list_any (λ (q : Placed). is_captured_there seen.known body l q.bodies q.mark) seen.marks)
      (ap is_some is_group) (is_of_body here (members_declared seen.known l p.bodies members)))

-- All nodes of a body

is_about : (e : Event) (g : ℕ) → literal_group e ≡ Some g → is_about_group e ≡ true
is_about (start v literal) g is = refl
is_about e g is = absurd (none-some g is)

its_number : (v : ℕ) (literal : Option ℕ) (g : ℕ) → literal_group (start v literal) ≡ Some g → v ≡ g
its_number v None g is = absurd (none-some g is)
its_number v (Some at) g is = same_Some v g is

-- the group in which a mention starts a literal
group_of : (seen : Seen) (bodies : List BodyPlace) (m : Mention) (l : Local) (e : Event) (g : ℕ) → UsesGroup seen bodies m l e
    → literal_group e ≡ Some g
    → (l.number ≡ g) × AreMembers seen bodies l
group_of seen bodies m l e g (starts c s members) is = (its_number l.number (literal_of c) g is, members)
group_of seen bodies m l e g (tries c s members) is = absurd (none-some g is)
group_of seen bodies m l e g (waits saved) is = absurd (none-some g is)
group_of seen bodies m l e g (waits_later saved) is = absurd (none-some g is)
group_of seen bodies m l e g (lends f k own) is = absurd (none-some g is)

by_source : (b : Body) → (e : Event) → HasSource b e → (g : ℕ) → literal_group e ≡ Some g
    → Contains (groups_of (variables_of b.file b.place.at)) g
by_source b e source g is =
    let u = group_use_there b e source (is_about e g is) in
    let l = u.use_of.local in
    let its = group_of b.file u.placed.bodies u.mention l e g u.use_of.uses is in
    subst (Contains (groups_of (variables_of b.file b.place.at))) its.0
    (group_there b.file b.place.at u.placed u.mention l u.is_of_file u.is_mention u.use_of.is_found u.stands_here
    u.use_of.is_group its.1)

pub starts_in_own_groups : (seen : Seen) (b : BodyPlace) → StartsInOwnGroups (code_in seen b) (variables_of seen b.at)
starts_in_own_groups seen b n o g is there =
    by_source body o.event
    (node_has (HasSource body) (code_in seen b)
    (of_body (HasSource body) (sites_of seen b.at) says_nothing falls_off
    (λ at e h. let r = marked seen b.at seen.marks at e h in of_mark r.0 r.1 r.2 r.3)
    record { statements = b.statements; braces = b.braces })
    o (contains_at (nodes (code_in seen b)) n o is))
    g there
  where
    body : Body
    body = record { home = 0; file = seen; place = b }
