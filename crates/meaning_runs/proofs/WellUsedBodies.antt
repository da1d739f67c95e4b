-- Where no use in a file is a fault, bodies start work only in groups of their own, lent or not, and in their homes;
-- and all else that is asked of names and uses holds.
use Rattle.std.proofs.Common.{◌≡◌, ℕ, ◌<◌, Contains, ◌⊎◌, inl, inr, true, false, List, [], ◌∷◌, ◌++◌, Option, Some, None, refl, sym, ap, ◌∙◌, subst}
use Rattle.std.specs.Prelude.{◌==◌, ◌&&◌}
use Rattle.std.specs.List.{list_any}
use Rattle.std.proofs.lemmas.Bool.{true≢false, and_parts, and_from, eq-eqb, false_from_ne_true}
use Rattle.std.proofs.lemmas.List.Elements.{Contains-append_right}
use Rattle.meaning.specs.Code.{Occurrence}
use Rattle.meaning.specs.Lists.{stopped}
use Rattle.meaning.specs.Tracked.{Placed, outer}
use Rattle.meaning_runs.proofs.MarksBeside.{IsBeside}
use Rattle.meaning.specs.Mentions.{BodyPlace, at_return, in_goroutine}
use Rattle.meaning.specs.Uses.{VariableAt, Event, defer_literal, go_literal, go, Seen, is_body}
use Rattle.meaning.specs.BodyEvents.{Variable, VariableRole, own_parameter, own_receiver, declared_in_body, captured, is_parameter, mark_events}
use Rattle.meaning.proofs.Membership.{contains_here}
use Rattle.meaning_packages.specs.PathFaults.{is_declared}
use Rattle.meaning_runs.specs.Bodies.{Program, Body, IsOf, IsLiteralIn, Escapes, variables_in, is_parameter_of, is_captured_by, is_captured, starts_it, is_started_in}
use Rattle.meaning_runs.specs.BodyOffsets.{AreApart, AreFalling}
use Rattle.meaning_runs.specs.Steps.{Starts, by_start, by_try}
use Rattle.meaning_runs.proofs.Bindings.{Binds, kind_bound, makes}
use Rattle.meaning_runs.proofs.Captured.{any_there, any_true}
use Rattle.meaning_runs.proofs.EventSources.{events_have_sources}
use Rattle.meaning_runs.proofs.GroupDuties.{is_mentioned, captured_is_mentioned, mentioned_is_bound_once}
use Rattle.meaning_runs.proofs.GroupHomes.{home_in, IsWellUsed}
use Rattle.meaning_runs.proofs.GroupVariables.{Lends, by_loan, HasGroup, IsItsOwn, starts_are_allowed, started_literal_is_at_home, lends_are_own, literal_at_home_is_started, home_is_not_its_own, outermost_is_not_at_home, function_is_not_at_home, run_is_not_at_home, bindings_are_own, run_literal_runs}
use Rattle.meaning_runs.proofs.OwnNumbers.{is_own, declared_is_own, parameter_is_own, captured_role}
use Rattle.meaning_runs.proofs.OwnBindings.{BindsVariable}
use Rattle.meaning_runs.proofs.Places.{eqb_is}
use Rattle.meaning_runs.proofs.WhoStarts.{is_declared_in, IsOwnGroup, IsGroupParameter, Startable, by_own, by_parameter, by_home, Lendable, own_lent, parameter_lent, BodiesAreWellUsed}

-- no number is the home of the body
without_home : (b : Body) → ((v : ℕ) → home_in b ≡ Some v → ⊥) → home_in b ≡ None
without_home b none = by (home_in b) refl
  where
    by : (o : Option ℕ) → home_in b ≡ o → o ≡ None
    by None e = refl
    by (Some v) e = absurd (none v e)

-- a variable of the body's own is declared in its block, or is a parameter
declared_or_parameter : (r : VariableRole) → is_captured r ≡ false → (is_declared r ≡ true) ⊎ (is_parameter r ≡ true)
declared_or_parameter (own_parameter k) e = inr refl
declared_or_parameter own_receiver e = inr refl
declared_or_parameter declared_in_body e = inl refl
declared_or_parameter captured e = absurd (true≢false e)

its_own_group : (b : Body) (v : ℕ) (g : HasGroup b v) → IsItsOwn g
    → IsOwnGroup b g.variable ⊎ IsGroupParameter b g.variable
its_own_group b v g own = elim (declared_or_parameter g.variable.role own) [
  | inl declared ↦ inl record {
    is_of_body = g.is_of_body;
    is_group_variable = g.is_group_variable;
    is_declared_here = declared;
  }
  | inr parameter ↦ inr record {
    is_of_body = g.is_of_body;
    is_group_variable = g.is_group_variable;
    is_parameter_here = parameter;
  }
]

-- what is declared in the body is its own
declared_own : (b : Body) (v : ℕ) → is_declared_in b v ≡ true → is_own b v ≡ true
declared_own b v e =
    let x = any_there (λ (y : Variable). (y.number == v) && is_declared y.role) (variables_in b) e in
    let q = and_parts (x.0.number == v) (is_declared x.0.role) x.2 in
    subst (λ n. is_own b n ≡ true) (eqb_is x.0.number v q.0) (declared_is_own b x.0 x.1 q.1)

-- an event that starts the literal does so by its offset
starts_so : (e : Event) (v at : ℕ) → Starts e v (Some at) → starts_it at e ≡ true
starts_so e v at by_start = eq-eqb at at refl
starts_so e v at by_try = eq-eqb at at refl

module _ (p : Program) (well : (b : Body) → IsOf p b → IsWellUsed b.file) where
  -- what an event binds
  bound : (b : Body) (t : List (Occurrence Event)) (o : Occurrence Event) (u : VariableAt)
      (x : BindsVariable (kind_bound o.event) b u)
      → is_declared_in b u.number ≡ true
  bound b t o u x =
      any_true (λ (y : Variable). (y.number == u.number) && is_declared y.role) (variables_in b) x.variable x.is_of_body
      (and_from (x.variable.number == u.number) (is_declared x.variable.role)
      (eq-eqb x.variable.number u.number x.is_it)
      x.is_declared_here)

  startable : (b : Body) (v : ℕ) → (g : HasGroup b v) × (IsItsOwn g ⊎ (home_in b ≡ Some v)) → Startable b v
  startable b v (g, inl own) = elim (its_own_group b v g own) [
    | inl x ↦ by_own g.variable x g.is_it
    | inr x ↦ by_parameter g.variable x g.is_it
  ]
  startable b v (g, inr home) = by_home home

  lendable : (b : Body) (v : ℕ) → (g : HasGroup b v) × IsItsOwn g → Lendable b v
  lendable b v (g, own) = elim (its_own_group b v g own) [
    | inl x ↦ own_lent g.variable x g.is_it
    | inr x ↦ parameter_lent g.variable x g.is_it
  ]

  -- a literal with a home is started by an event
  escaped : (b literal : Body) → IsOf p b → Escapes b literal → (v : ℕ) → home_in literal ≡ Some v → ⊥
  escaped b literal of escapes v home =
      let x = literal_at_home_is_started b (well b of) of.is_body literal escapes.is_literal v home in
      let at = literal.place.at in
      let starts : list_any (starts_it at) (mark_events b.file x.placed.bodies x.placed.mark) ≡ true =
      any_true (starts_it at) (mark_events b.file x.placed.bodies x.placed.mark) x.event x.is_given
      (starts_so x.event v at x.starts_it) in
      let is_started : is_started_in b at ≡ true =
      any_true (λ (y : Placed). is_body b.place.at y.bodies && list_any (starts_it at)
      (mark_events b.file y.bodies y.mark)) b.file.marks
      x.placed x.is_of_file (and_from (is_body b.place.at x.placed.bodies)
      (list_any (starts_it at) (mark_events b.file x.placed.bodies x.placed.mark)) x.stands_here starts) in
      true≢false (sym is_started ∙ escapes.is_not_started)

  mentioned : (b literal : Body) (v : ℕ) → IsOf p b → IsLiteralIn b literal → is_captured_by literal v ≡ true
      → is_mentioned b.file v ≡ true
  mentioned b literal v of is captures =
      let x = any_there (λ (y : Variable). (y.number == v) && is_captured y.role) (variables_in literal) captures in
      let q = and_parts (x.0.number == v) (is_captured x.0.role) x.2 in
      let apart = (well b of).apart in
      subst (λ n. is_mentioned b.file n ≡ true) (eqb_is x.0.number v q.0)
      (subst (λ (f : Seen). is_mentioned f x.0.number ≡ true) is.same_file
      (captured_is_mentioned literal.file (subst (λ (f : Seen). AreApart f.marks) (sym is.same_file) apart)
      literal.place.at x.0 x.1
      (captured_role x.0.role q.1)))

  behind : (b literal : Body) → IsOf p b → IsLiteralIn b literal → b.place.at < literal.place.at
  behind b literal of is =
      let w = well b of in
      let opened = subst (λ m. IsBeside b.file.marks is.mark.bodies m) is.opens_it (w.form.beside is.mark is.is_of_file) in
      by (outer is.mark.bodies) (subst AreFalling opened.stands_first (w.apart.falling is.mark is.is_of_file)).0
      is.stands_in_it
    where
      by : (cs : List BodyPlace) → ((c : BodyPlace) → Contains cs c → c.at < literal.place.at)
          → is_body b.place.at cs ≡ true
          → b.place.at < literal.place.at
      by [] all e = absurd (true≢false (sym e))
      by (c ∷ cs) all e = subst (λ n. n < literal.place.at) (eqb_is c.at b.place.at e) (all c (contains_here c cs))

  pub bodies_are_well_used : BodiesAreWellUsed p
  bodies_are_well_used = record {
    binds_own = λ b t o u of reached binds. (
      bound b t o u (bindings_are_own p b t o u of reached binds),
      λ q. mentioned_is_bound_once b (well b of) of.is_body t o u reached binds q,
    );
    makes_own = λ b t o u state of reached e.
        let x = bindings_are_own p b t o u of reached (subst (λ y. Binds y u) (sym e) makes) in (
          x.variable,
          record {
            is_of_body = x.is_of_body;
            is_group_variable = x.is_of_kind ∙ ap kind_bound e;
            is_declared_here = x.is_declared_here;
          },
          x.is_it,
        );
    starts_in = λ b t o v literal of reached h.
        startable b v (starts_are_allowed b (well b of) of.is_body o.event (events_have_sources b t o reached) v literal
        h);
    has_home = λ b t o v at literal of reached h is begins.
        started_literal_is_at_home b (well b of) of.is_body o.event (events_have_sources b t o reached) v literal is
        (subst (λ n. Starts o.event v (Some n)) (sym begins) h);
    lends_own = λ b t o v position f of reached e.
        lendable b v (lends_are_own b (well b of) of.is_body o.event (events_have_sources b t o reached) v
        (subst (λ y. Lends y v) (sym e) by_loan));
    home_is_elsewhere = λ b v of home.
        let other_one = home_is_not_its_own b (well b of) of.is_body v home in (
          false_from_ne_true (is_declared_in b v) (λ q. true≢false (sym (declared_own b v q) ∙ other_one)),
          false_from_ne_true (is_parameter_of b v) (λ q. true≢false (sym (parameter_is_own b v q) ∙ other_one)),
        );
    function_has_no_home = λ caller b f is.
        without_home b (function_is_not_at_home b (well b is.is_of) is.is_of.is_body f.name is.has_name);
    outermost_has_no_home = λ b of outermost.
        without_home b (outermost_is_not_at_home b (well b of) of.is_body outermost);
    deferred_has_no_home = λ b t o at literal of reached e is begins.
        run_is_not_at_home literal
        (run_literal_runs b (well b of) (t ++ o ∷ []) stopped reached o
        (Contains-append_right t (o ∷ []) o (contains_here o [])) literal at_return is
        (e ∙ ap defer_literal (sym begins)));
    gone_has_no_home = λ b t o at literal of reached e is begins.
        run_is_not_at_home literal
        (run_literal_runs b (well b of) (t ++ o ∷ []) stopped reached o
        (Contains-append_right t (o ∷ []) o (contains_here o [])) literal in_goroutine is
        (e ∙ ap (λ n. go (go_literal n)) (sym begins)));
    escaped_has_no_home = λ b literal of escapes. without_home literal (escaped b literal of escapes);
    begins_behind = behind;
    captured_is_mentioned = mentioned;
  }
