-- Of which no finding is to be said, of that all holds that error groups ask for: no use in its files is a fault and no
-- path of its bodies has one, in every package that runs go through. What a literal is relied on for in a group that it
-- captures it keeps: none of its lists that comes to a return leaves the group live. And each variable that a literal
-- mentions, group or not, is bound in its declaration alone.
use Rattle.std.proofs.Common.{◌≡◌, ℕ, Bool, true, false, List, Option, Some, None, Contains, refl, sym, ap, ◌∙◌, subst}
use Rattle.std.specs.Prelude.{not}
use Rattle.std.proofs.lemmas.Bool.{false≢true}
use Rattle.meaning.specs.Code.{Occurrence}
use Rattle.meaning.specs.Lists.{Reaches}
use Rattle.meaning.specs.Tracked.{Local, live}
use Rattle.meaning.specs.Uses.{Callee, Seen, found, is_in_literal, VariableAt, Handed, Event}
use Rattle.meaning.specs.BodyEvents.{Variable, captured, bodies_of, variables_of}
use Rattle.meaning.specs.Classes.{CancelClass, unset, opened, kept, safe, pending, GroupClass, in_state}
use Rattle.meaning_packages.specs.PathFaults.{PathFault, IsPathFault, ComesToReturn, paths_of}
use Rattle.meaning_packages.specs.Credits.{Credits, AreFairCredits, is_safe, is_live, is_settled, no_calls, promises_in}
use Rattle.report.specs.Entries.{Entry}
use Rattle.meaning_reports.specs.Loaded.{known_in, trees_of, seen_files}
use Rattle.meaning_reports.specs.PackageReports.{IsFileFinding, outside_bodies, of_use}
use Rattle.meaning_runs.specs.Bodies.{Program, Body, IsRun, IsOf, code_of}
use Rattle.meaning_runs.specs.BodyOffsets.{AreApart}
use Rattle.meaning_runs.specs.World.{is_declaration}
use Rattle.meaning_runs.specs.Promise.{HaveNoFindings}
use Rattle.meaning_runs.specs.PackageYes.{AreOfTexts}
use Rattle.meaning_runs.specs.Duties.{IsCreditedWith, IsWaitingFor, calls_in}
use Rattle.meaning_runs.proofs.Bindings.{Binds}
use Rattle.meaning_runs.proofs.BodyOffsets.{bodies_are_apart}
use Rattle.meaning_runs.proofs.BoundOnce.{is_declared_there}
use Rattle.meaning_runs.proofs.Captured.{of_variable, is_inside}
use Rattle.meaning_runs.proofs.Findings.{credited, no_path_fault}
use Rattle.meaning_runs.proofs.GroupHomes.{IsWellUsed}
use Rattle.meaning_runs.proofs.GroupPaths.{group_class_of}
use Rattle.meaning_runs.proofs.KnownFlags.{credited_fairly}
use Rattle.meaning_runs.proofs.LeftSides.{left_sides_fit}
use Rattle.meaning_runs.proofs.MarksBeside.{AreInForm, in_form}
use Rattle.meaning_runs.proofs.NamedOutermost.{keeps_in}
use Rattle.meaning_runs.proofs.Places.{class_of}
use Rattle.meaning_runs.proofs.TrackedBindings.{of_number}

-- Variables that literals mention

abbrev is_mentioned_so : Seen → Option Local → Bool
is_mentioned_so seen None = false
is_mentioned_so seen (Some l) = is_in_literal seen l

-- a literal in the body that declares the variable of that number mentions it
abbrev pub is_mentioned : Seen → ℕ → Bool
is_mentioned seen v = is_mentioned_so seen (found seen (Some v))

-- what the body at an offset captures, cancel variable or group, is mentioned so
pub captured_is_mentioned : (seen : Seen) → AreApart seen.marks → (literal : ℕ) (w : Variable)
    → Contains (variables_of seen literal) w
    → w.role ≡ captured
    → is_mentioned seen w.number ≡ true
captured_is_mentioned seen apart literal w among role =
    let h = of_variable seen literal w among in
    ap (is_mentioned_so seen) h.1 ∙ is_inside seen apart.falling literal w h.0 among role h.1

-- what is mentioned so is bound in its declaration alone
pub mentioned_is_bound_once : (b : Body) → IsWellUsed b.file → Contains (bodies_of b.file) b.place
    → (t : List (Occurrence Event)) (o : Occurrence Event) (u : VariableAt)
    → Reaches (code_of b) t o
    → Binds o.event u
    → is_mentioned b.file u.number ≡ true
    → is_declaration u ≡ true
mentioned_is_bound_once b well its t o u reached binds e = by (found b.file (Some u.number)) refl e
  where
    by : (l : Option Local) → found b.file (Some u.number) ≡ l → is_mentioned_so b.file l ≡ true → is_declaration u ≡ true
    by None is q = absurd (false≢true q)
    by (Some l) is q = is_declared_there b well.fits (well.inside b.place its) t o u l reached binds is q

-- What literals wait for

not_live : (k : GroupClass) → not (is_live k) ≡ true → k ≡ in_state live → ⊥
not_live k e q = false≢true (sym (ap (λ x. not (is_live x)) q) ∙ e)

pub never_live : (literal : Body) (g : Variable) (c : IsWaitingFor literal g)
    → (handed : List Handed) (t : List (Occurrence Event)) (o : Occurrence Event)
    → ComesToReturn (paths_of literal.file (promises_in no_calls c.credits literal.place.at) literal.place) t o handed
    → group_class_of (promises_in no_calls c.credits literal.place.at) g t ≡ in_state live
    → ⊥
never_live literal g c handed t o back =
    let paths = paths_of literal.file (promises_in no_calls c.credits literal.place.at) literal.place in
    not_live _ (sym (ap (is_settled paths g t) c.is_group_variable) ∙ c.settles.at_returns handed t o back)

safe_class : (k : CancelClass) → is_safe k ≡ true → k ≡ safe
safe_class unset e = absurd (false≢true e)
safe_class opened e = absurd (false≢true e)
safe_class kept e = absurd (false≢true e)
safe_class safe e = refl
safe_class (pending g) e = absurd (false≢true e)

-- what a literal is known to call is safe at each of its returns, and pending in no group
pub is_safe_at_return : (literal : Body) (v : Variable) (c : IsCreditedWith literal v)
    → (handed : List Handed) (t : List (Occurrence Event)) (o : Occurrence Event)
    → ComesToReturn (paths_of literal.file (promises_in no_calls c.credits literal.place.at) literal.place) t o handed
    → class_of (promises_in no_calls c.credits literal.place.at) v t ≡ safe
is_safe_at_return literal v c handed t o back =
    let paths = paths_of literal.file (promises_in no_calls c.credits literal.place.at) literal.place in
    safe_class _ (sym (ap (is_settled paths v t) c.is_cancel_variable) ∙ c.settles.at_returns handed t o back)

-- Packages without findings

-- a file of which nothing is to be said, under some fair credits
pub record HasNothingSaid (calls : Callee → ℕ → Bool) (seen : Seen) : Type 0 where
  pub number : ℕ
  pub credits : Credits
  pub are_fair : AreFairCredits seen credits
  pub none : (x : Entry) → IsFileFinding calls number record { seen = seen; credits = credits } x → ⊥

module _ (p : Program) (none_found : HaveNoFindings p (IsRun p)) where
  pub nothing_said : (b : Body) (of : IsOf p b) → HasNothingSaid (calls_in p of.loaded) b.file
  nothing_said b of =
      let h = none_found.of_package b.home of.loaded of.is_run of.is_package in
      let seens = seen_files p.packages p.tables of.loaded in
      let c = credited seens h.known.files b.file h.known.are_files of.is_file in
      let same : c.file ≡ record { seen = b.file; credits = c.file.credits } =
      λ i. record { seen = c.is_it i; credits = c.file.credits } in
      record {
        number = c.number;
        credits = c.file.credits;
        are_fair = subst (λ s. AreFairCredits s c.file.credits) c.is_it
            (credited_fairly seens h.known.files c.file h.known.are_files c.is_among);
        none = subst (λ f. (x : Entry) → IsFileFinding (calls_in p of.loaded) c.number f x → ⊥) same
            (λ x finding. h.none c.number c.file x c.is_there finding);
      }

  -- no use in the file is a fault
  pub well_used : AreOfTexts p → (b : Body) → IsOf p b → IsWellUsed b.file
  well_used texts b of =
      let said = nothing_said b of in
      let w = of_number (known_in p.packages p.tables of.loaded) 0 (trees_of of.loaded) b.file of.is_file in
      let text = texts b.home of.loaded of.is_run of.is_package w.1 w.3 in
      record {
        apart = subst (λ (s : Seen). AreApart s.marks) w.2 (bodies_are_apart of.loaded.edition (keeps_in p of.loaded w.0) text.0 w.1 text.1);
        form = subst (λ (s : Seen). AreInForm s.marks) w.2 (in_form of.loaded.edition (keeps_in p of.loaded w.0) w.1);
        fits = λ mark h. left_sides_fit of.loaded.edition (keeps_in p of.loaded w.0) w.1 mark (subst (λ (s : Seen). Contains s.marks mark) (sym w.2) h);
        outside = λ x h. said.none _ (outside_bodies x h);
        inside = λ c among x h. said.none _ (of_use c x among h);
      }

  -- what the paths of a body rely on, where none of them has a fault; so it is of each package that runs go through
  pub record HasNoFaultThere (b : Body) (of : IsOf p b) : Type 0 where
    pub credits : Credits
    pub are_fair : AreFairCredits b.file credits
    pub none : (x : PathFault)
        → IsPathFault (paths_of b.file (promises_in (calls_in p of.loaded) credits b.place.at) b.place) x
        → ⊥

  pub no_fault_there : (b : Body) (of : IsOf p b) → HasNoFaultThere b of
  no_fault_there b of =
      let said = nothing_said b of in
      let w = of_number (known_in p.packages p.tables of.loaded) 0 (trees_of of.loaded) b.file of.is_file in
      let form = subst (λ (s : Seen). AreInForm s.marks) w.2 (in_form of.loaded.edition (keeps_in p of.loaded w.0) w.1) in
      record {
        credits = said.credits;
        are_fair = said.are_fair;
        none = no_path_fault (calls_in p of.loaded) said.number record { seen = b.file; credits = said.credits } said.none
            form b.place of.is_body;
      }
