-- The passes that the program finds faulty are those of the definitions.
use Rattle.std.proofs.Common.{◌≡◌, ◌↔◌, ◌==◌, ℕ, Bool, true, false, ◌&&◌, inl, inr, List, [], ◌∷◌, Some, map, Contains, refl, sym, ap, ◌∙◌, subst, true≢false, if◌then◌else◌}
use Rattle.std.proofs.lemmas.Bool.{and_parts, and_from}
use Rattle.std.proofs.lemmas.List.Elements.{Contains-append_left, Contains-append_right, Contains-append_cases}
use Rattle.meaning.proofs.Membership.{contains_nil, contains_here, contains_there, contains_cases}
use Rattle.tree.specs.declared.edition.Edition.TheVariants.{First, Second}
use Rattle.meaning.specs.Uses.{VariableAt, Event, other, obtain, obtain_kept, renew, keep, call_kept, defer_kept, give, give_field, clear, call, defer_call, pass, defer_pass, lend, start, try, wait, defer_wait, make, defer_literal, go, return_event, is_cancel}
use Rattle.meaning.specs.BodyEvents.{Variable}
use Rattle.meaning.specs.Classes.{Promises}
use Rattle.events.specs.declared.told.SiteEvent.{SiteEvent}
use Rattle.events.specs.ToldViews.{events_of_site}
use Rattle.tracked_rows.specs.EventViews.{event_view}
use Rattle.meaning_packages.specs.PathFaults.{passed_on, PathFault, Paths, PassesOn, passes, defers, IsPassFault, passes_on}
use Rattle.path_faults.specs.FoundFaults.{passed_faults, passed_unless, passing_faults, found_pass_faults}
use Rattle.path_faults.proofs.Places.{place_of, contains_at}
use Rattle.path_faults.proofs.Kept.{same_number, is_same, cancel_kind, is_cancel_kind, fault_at, gives_fault}

-- Events of a site, and of all sites

site_event : (t : Bool) (x e : Event) (xs : List Event) → Contains (if t then x ∷ xs else xs) e → Contains (x ∷ xs) e
site_event true x e xs h = h
site_event false x e xs h = contains_there x e xs h

abbrev pub views : List SiteEvent → List Event
views es = map (λ s. event_view s.event) es

then_more : (x e : Event) (xs ys : List Event) → (Contains xs e → Contains ys e) → Contains (x ∷ xs) e → Contains (x ∷ ys) e
then_more x e xs ys more h =
    elim (contains_cases x e xs h) [
      | inl same ↦ subst (Contains (x ∷ ys)) same (contains_here x ys)
      | inr later ↦ contains_there x e ys (more later)
    ]

pub of_any_site : (es : List SiteEvent) (at : ℕ) (e : Event) → Contains (events_of_site at es) e → Contains (views es) e
of_any_site [] at e h = absurd (contains_nil e h)
of_any_site (s ∷ es) at e h =
    then_more (event_view s.event) e (events_of_site at es) (views es) (of_any_site es at e)
    (site_event (s.site == at) (event_view s.event) e (events_of_site at es) h)

here_or_later : (t : Bool) (x e : Event) (xs : List Event) → Contains xs e → Contains (if t then x ∷ xs else xs) e
here_or_later true x e xs h = contains_there x e xs h
here_or_later false x e xs h = h

here_first : (t : Bool) (x : Event) (xs : List Event) → t ≡ true → Contains (if t then x ∷ xs else xs) x
here_first true x xs is = contains_here x xs
here_first false x xs is = absurd (true≢false (sym is))

pub at_some_site : (es : List SiteEvent) (e : Event) → Contains (views es) e → (at : ℕ) × Contains (events_of_site at es) e
at_some_site [] e h = absurd (contains_nil e h)
at_some_site (s ∷ es) e h =
    elim (contains_cases (event_view s.event) e (views es) h) [
      | inl same ↦ (
        s.site,
        subst (Contains (events_of_site s.site (s ∷ es))) same
            (here_first (s.site == s.site) (event_view s.event) (events_of_site s.site es) (is_same s.site s.site refl)),
      )
      | inr later ↦
          let w = at_some_site es e later in
          (w.0, here_or_later (s.site == w.0) (event_view s.event) e (events_of_site w.0 es) w.1)
    ]

-- Faults of one event

module _ (vs : List Variable) (p : Promises) where
  pub passed_by : (es : List Event) (f : PathFault) → Contains (found_pass_faults vs p es) f
      → (e : Event) × Contains es e × Contains (passing_faults vs p e) f
  passed_by [] f h = absurd (contains_nil f h)
  passed_by (e ∷ es) f h =
      elim (Contains-append_cases (passing_faults vs p e) (found_pass_faults vs p es) f h) [
        | inl here ↦ (e, contains_here e es, here)
        | inr later ↦ let w = passed_by es f later in (w.0, contains_there e w.0 es w.1, w.2)
      ]

  pub passes_by : (es : List Event) (f : PathFault) (e : Event) → Contains es e → Contains (passing_faults vs p e) f
      → Contains (found_pass_faults vs p es) f
  passes_by [] f e h given = absurd (contains_nil e h)
  passes_by (x ∷ es) f e h given =
      elim (contains_cases x e es h) [
        | inl same ↦
            Contains-append_left (passing_faults vs p x) (found_pass_faults vs p es) f
            (subst (λ y. Contains (passing_faults vs p y) f) (sym same) given)
        | inr later ↦
            Contains-append_right (passing_faults vs p x) (found_pass_faults vs p es) f (passes_by es f e later given)
      ]

  unless_parts : (t : Bool) (u : VariableAt) (f : PathFault) → Contains (passed_unless t vs u) f
      → (t ≡ false) × Contains (passed_faults vs u) f
  unless_parts true u f h = absurd (contains_nil f h)
  unless_parts false u f h = (refl, h)

  unless_from : (t : Bool) (u : VariableAt) (f : PathFault) → t ≡ false → Contains (passed_faults vs u) f
      → Contains (passed_unless t vs u) f
  unless_from true u f e h = absurd (true≢false e)
  unless_from false u f e h = h

  -- the event passes it
  record PassesIt (e : Event) (f : PathFault) : Type 0 where
    it : VariableAt
    is_pass : PassesOn p e it
    gives : Contains (passed_faults vs it) f

  passing : (e : Event) (f : PathFault) → Contains (passing_faults vs p e) f → PassesIt e f
  passing (pass u c k) f h =
      let w = unless_parts (p.calls c k) u f h in record { it = u; is_pass = passes w.0; gives = w.1 }
  passing (defer_pass u c k) f h =
      let w = unless_parts (p.calls c k) u f h in record { it = u; is_pass = defers w.0; gives = w.1 }
  passing other f h = absurd (contains_nil f h)
  passing (obtain u c k d) f h = absurd (contains_nil f h)
  passing (obtain_kept u c k x) f h = absurd (contains_nil f h)
  passing (renew u x) f h = absurd (contains_nil f h)
  passing (keep u x) f h = absurd (contains_nil f h)
  passing (call_kept u x) f h = absurd (contains_nil f h)
  passing (defer_kept u x) f h = absurd (contains_nil f h)
  passing (give u x) f h = absurd (contains_nil f h)
  passing (give_field u) f h = absurd (contains_nil f h)
  passing (clear u) f h = absurd (contains_nil f h)
  passing (call u) f h = absurd (contains_nil f h)
  passing (defer_call u) f h = absurd (contains_nil f h)
  passing (lend g c k) f h = absurd (contains_nil f h)
  passing (start g l) f h = absurd (contains_nil f h)
  passing (try g literal) f h = absurd (contains_nil f h)
  passing (wait g) f h = absurd (contains_nil f h)
  passing (defer_wait g) f h = absurd (contains_nil f h)
  passing (make u s) f h = absurd (contains_nil f h)
  passing (defer_literal l) f h = absurd (contains_nil f h)
  passing (go work) f h = absurd (contains_nil f h)
  passing (return_event handed) f h = absurd (contains_nil f h)

  passes_it : {e : Event} {u : VariableAt} → PassesOn p e u → (f : PathFault) → Contains (passed_faults vs u) f
      → Contains (passing_faults vs p e) f
  passes_it (passes {u = u} {f = c} {k = k} h) f given = unless_from (p.calls c k) u f h given
  passes_it (defers {u = u} {f = c} {k = k} h) f given = unless_from (p.calls c k) u f h given

-- All passes

module _ (b : Paths) (es : List Event) (there : (at : ℕ) (e : Event) → Contains (b.events at) e → Contains es e)
    (somewhere : (e : Event) → Contains es e → (at : ℕ) × Contains (b.events at) e) where
  abbrev vs : List Variable
  vs = b.variables

  pub pass_is : b.edition ≡ First → (f : PathFault) → Contains (found_pass_faults vs b.promises es) f → IsPassFault b f
  pass_is is_first f h =
      let w = passed_by vs b.promises es f h in
      let by = passing vs b.promises w.0 f w.2 in
      let at = somewhere w.0 w.1 in
      let it = fault_at vs (λ i v. is_cancel (Some v.kind) && (v.number == by.it.number)) by.it.at passed_on f by.gives in
      let v = it.variable in
      let parts = and_parts (is_cancel (Some v.kind)) (v.number == by.it.number) it.passes in
      subst (IsPassFault b) it.is_it
      (passes_on v by.it at.0 w.0 is_first (contains_at vs it.place v it.is_there) (cancel_kind v.kind parts.0) at.1 by.is_pass
      (sym (same_number v.number by.it.number parts.1)))

  pub is_pass : (f : PathFault) → IsPassFault b f → Contains (found_pass_faults vs b.promises es) f
  is_pass _ (passes_on v u at e is_first inside kind here by same) =
      let place = place_of vs v inside in
      passes_by vs b.promises es _ e (there at e here)
      (passes_it vs b.promises by _
      (gives_fault vs (λ i v. is_cancel (Some v.kind) && (v.number == u.number)) u.at passed_on place.0 v place.1
      (and_from (is_cancel (Some v.kind)) (v.number == u.number) (is_cancel_kind v.kind kind)
      (is_same v.number u.number (sym same)))))

-- What the program keeps

pub passes_are : (us : List Variable) (p : Promises) (es : List SiteEvent) (faults : List PathFault)
    → faults ≡ found_pass_faults us p (views es) → (b : Paths) → b.edition ≡ First
    → ((at : ℕ) → b.events at ≡ events_of_site at es)
    → b.variables ≡ us → b.promises ≡ p → (f : PathFault) → Contains faults f ↔ IsPassFault b f
passes_are us p es faults is b is_first events same_variables same_promises f = (
  λ h. pass_is b (views es) there somewhere is_first f (subst (λ l. Contains l f) same h),
  λ h. subst (λ l. Contains l f) (sym same) (is_pass b (views es) there somewhere f h),
)
  where
    same : faults ≡ found_pass_faults b.variables b.promises (views es)
    same =
        is ∙ ap (λ xs. found_pass_faults xs p (views es)) (sym same_variables)
        ∙ ap (λ q. found_pass_faults b.variables q (views es)) (sym same_promises)

    there : (at : ℕ) (e : Event) → Contains (b.events at) e → Contains (views es) e
    there at e h = of_any_site es at e (subst (λ l. Contains l e) (events at) h)

    somewhere : (e : Event) → Contains (views es) e → (at : ℕ) × Contains (b.events at) e
    somewhere e h =
        let w = at_some_site es e h in (w.0, subst (λ l. Contains l e) (sym (events w.0)) w.1)

-- The second edition asks for none

first_not_second : First ≡ Second → ⊥
first_not_second e = cc

no_pass : (b : Paths) → b.edition ≡ Second → (f : PathFault) → IsPassFault b f → ⊥
no_pass b is_second _ (passes_on v u at e is_first inside kind here by same) =
    first_not_second (sym is_first ∙ is_second)

pub passes_are_none : (faults : List PathFault) → faults ≡ [] → (b : Paths) → b.edition ≡ Second
    → (f : PathFault) → Contains faults f ↔ IsPassFault b f
passes_are_none faults none b is_second f = (
  λ h. absurd (contains_nil f (subst (λ l. Contains l f) none h)),
  λ h. absurd (no_pass b is_second f h),
)
