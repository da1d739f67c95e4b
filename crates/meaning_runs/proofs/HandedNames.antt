-- An event that passes a cancel variable or lends a group does so to the function that a name of its file means, which is
-- selected from an import of the file where it is of another package. So no body hands anything to a function of a package
-- that its own does not import, and each given package that a trusted one hands something to is trusted.
use Rattle.std.proofs.Common.{◌≡◌, ℕ, ◌+◌, zero, suc, Bool, true, false, inl, inr, List, [], ◌∷◌, ◌++◌, map, Option, Some, None, Contains, refl, sym, ap, subst, ◌∙◌, arith}
use Rattle.std.specs.Prelude.{◌&&◌, ◌||◌, if◌then◌else◌, codes, option_map, slice_get}
use Rattle.std.specs.List.{list_all}
use Rattle.std.specs.Str.{bytes_eq}
use Rattle.std.proofs.lemmas.Bool.{false≢true}
use Rattle.std.proofs.lemmas.List.Elements.{Contains-append_cases}
use Rattle.std.proofs.lemmas.Option.{none-some, same_Some}
use Rattle.tree.specs.declared.edition.Edition.{Edition}
use Rattle.tree.specs.declared.edition.Edition.TheVariants.{First, Second}
use Rattle.tree.specs.Syntax.{ImportSpec, SourceFile}
use Rattle.meaning.specs.OuterBlocks.{PackageNames, PackageLevel, import_name_of, is_called, is_first_path, any_path, import_among, import_meant, or_else, specs_of, package_block, package_meant}
use Rattle.meaning.specs.Scopes.{LocalName, file_names}
use Rattle.meaning.specs.Declarations.{Meaning, local_name, import_name, function_name, package_name, universe_name, locals_of, local_meant, Use, uses_of, use_at, package_or_universe, import_or_around, local_or_around, meaning_of, meaning_at}
use Rattle.meaning.specs.FunctionFacts.{CancelType, cancel_type, group_type, VariableKind, cancel, group}
use Rattle.meaning.specs.Mentions.{Named, BodyPlace, Row, Call, Role, elsewhere, as_key, exposed, found_nil, found_error, called, called_in_brackets, argument, returned, left, names_type, new_literal, parameter_pointer, Mention, Mark, mentions, runs_literal, returns, opens, closes, pointed_to, of_fields}
use Rattle.meaning.specs.Tracked.{Known, is_universe, variable_of, LocalRole, parameter, receiver, variadic, result, in_block, Local}
use Rattle.meaning.specs.Uses.{Callee, path_meant, callee_of, VariableAt, Seen, found, kind_of, tracked_kind, Event, call, defer_call, pass, defer_pass, lend, start, try, wait, defer_wait, return_event, defer_literal, Binding, obtained, cleared, made, binding_at, binding_event, variable_at, cancel_called, cancel_passed, cancel_use, cancel_use_by, is_read, allowed_if, either_use, group_started, group_tried, group_awaited, group_limited, group_called, group_lent, group_use, kind_use, mention_outcome, binding_outcome, row_outcome, role_outcome, local_outcome, variable_outcome, lost_to, error_events, is_own, has_no_argument, has_its_arguments, is_statement_place, is_deferred_place, takes, is_given_as, cancel_type_of, is_call_place, body_gives, is_free, only_argument, started_literal, are_members, literals_between, is_statement_or_value, is_item_place, go_call, go_pass, go_literal, go, runs_once, taken_on, call_taken_on, is_under_go}
use Rattle.meaning.specs.BodyEvents.{mark_events, handed_on, seen_file, sent_events}
use Rattle.meaning.proofs.Membership.{contains_here, contains_there, contains_cases, contains_nil, contains_map}
use Rattle.imports.specs.Ranks.{Package}
use Rattle.meaning_reports.specs.Loaded.{LoadedPackage, HaveDistinctPaths, Tables, counts, counts_as_given, trees_of, imports_of, imported_paths, package_names, means_in, known_in, seen_from, seen_files}
use Rattle.meaning_reports.specs.UsedImports.{HandsTo, passes, defers, lends, goes, HandsThere, Uses}
use Rattle.meaning_reports.proofs.ImportsOf.{gives, in_lists, given_in_lists, list_item}
use Rattle.meaning_runs.specs.Bodies.{Program, Body, IsRun, IsOf, IsNamed}
use Rattle.meaning_runs.specs.Promise.{AreClosed}
use Rattle.meaning_runs.specs.CallSteps.{HandsStayTrusted}
use Rattle.meaning_runs.proofs.EventSources.{marked}
use Rattle.meaning_runs.proofs.HandedEvents.{hands_there}
use Rattle.meaning.specs.Kept.{object_events}
use Rattle.meaning_runs.proofs.KeptEvents.{IsOfObject, by_renew, by_call, by_deferred, by_give, by_keep, by_outer, by_obtaining, by_gift, object_events_are, field_events_are}
use Rattle.meaning_runs.proofs.MentionEvents.{AllFit, AllFitIf, none_given, one_fits, allowed, one_allowed, if_so, use_outcome_fits}
use Rattle.meaning_runs.proofs.SentEvents.{sent_events_are, literal_event_fits}

-- Events

abbrev is_handing : Event → Bool
is_handing (pass u f k) = true
is_handing (defer_pass u f k) = true
is_handing (lend v f k) = true
is_handing (go (go_pass f xs)) = true
is_handing e = false

abbrev callee_in : Event → Callee
callee_in (pass u f k) = f
callee_in (defer_pass u f k) = f
callee_in (lend v f k) = f
callee_in (go (go_pass f xs)) = f
callee_in e = record { path = None; name = [] }

hands_so : (f : Callee) (e : Event) → HandsTo f e → (is_handing e ≡ true) × (callee_in e ≡ f)
hands_so f e passes = (refl, refl)
hands_so f e defers = (refl, refl)
hands_so f e lends = (refl, refl)
hands_so f e goes = (refl, refl)

module _ (known : Known) where
  -- what the event hands something to is what a name means
  abbrev HandsToNamed : Event → Type 0
  HandsToNamed e = (f : Callee) → HandsTo f e → (n : Named) × (f ≡ callee_of known n)

  quiet : (e : Event) → is_handing e ≡ false → HandsToNamed e
  quiet e none f h = absurd (false≢true (sym none ∙ (hands_so f e h).0))

  named : (e : Event) (n : Named) → callee_in e ≡ callee_of known n → HandsToNamed e
  named e n is f h = (n, sym (hands_so f e h).1 ∙ is)

  module _ (bodies : List BodyPlace) (l : Local) where
    cancel_called_named : (t : CancelType) (selected : Option (List ℕ)) (c : Call)
        → AllFitIf HandsToNamed (cancel_called t l.number selected c)
    cancel_called_named t (Some m) c = tt
    cancel_called_named t None c =
        one_allowed HandsToNamed (has_its_arguments t c && is_statement_place c.place)
        (has_its_arguments t c && is_deferred_place c.place) (call l.number) (defer_call l.number)
        (quiet (call l.number) refl) (quiet (defer_call l.number) refl)

    cancel_passed_named : (t : CancelType) (u : VariableAt) (selected : Option (List ℕ)) (k : ℕ) (b : Bool) (c : Call)
        → AllFitIf HandsToNamed (cancel_passed known t u selected k b c)
    cancel_passed_named t u None k false c =
        let passed = pass u (callee_of known c.callee) k in
        let saved = defer_pass u (callee_of known c.callee) k in
        one_allowed HandsToNamed (takes known c (cancel_type t) k && is_call_place c.place)
        (takes known c (cancel_type t) k && is_deferred_place c.place) passed saved (named passed c.callee refl)
        (named saved c.callee refl)
    cancel_passed_named t u None k true c = tt
    cancel_passed_named t u (Some n) k b c = tt

    cancel_use_named : (t : CancelType) (m : Mention) (r : Role)
        → AllFitIf HandsToNamed (cancel_use known t l bodies m r)
    cancel_use_named t m elsewhere = tt
    cancel_use_named t m as_key = tt
    cancel_use_named t m exposed = tt
    cancel_use_named t m pointed_to = tt
    cancel_use_named t m (found_nil nil) = if_universe (is_universe (known.means nil))
      where
        if_universe : (b : Bool) → AllFit HandsToNamed (if b then call l.number ∷ [] else [])
        if_universe true = one_fits HandsToNamed (call l.number) (quiet (call l.number) refl)
        if_universe false = none_given HandsToNamed
    cancel_use_named t m (found_error nil row) = none_given HandsToNamed
    cancel_use_named t m (called c) = cancel_called_named t m.named.selected c
    cancel_use_named t m called_in_brackets = tt
    cancel_use_named t m (argument k b c) =
        if_so HandsToNamed (is_own l bodies) (cancel_passed known t (variable_at l m) m.named.selected k b c) None
        (cancel_passed_named t (variable_at l m) m.named.selected k b c) tt
    cancel_use_named t m (returned k) =
        allowed HandsToNamed (is_own l bodies && is_given_as k t (body_gives known bodies)) [] (none_given HandsToNamed)
    cancel_use_named t m (left k row) = tt
    cancel_use_named t m (names_type row) = tt
    cancel_use_named t m (new_literal row) = tt
    cancel_use_named t m parameter_pointer = tt

    either_named : (o k : Option (List Event)) → AllFitIf HandsToNamed o → AllFitIf HandsToNamed k
        → AllFitIf HandsToNamed (either_use o k)
    either_named None k h m = m
    either_named (Some es) k h m = h

    call_taken_on_named : (t : CancelType) (selected : Option (List ℕ)) (c : Call)
        → AllFitIf HandsToNamed (call_taken_on t l.number selected c)
    call_taken_on_named t (Some m) c = tt
    call_taken_on_named t None c =
        let e = go (go_call l.number) in
        allowed HandsToNamed (has_its_arguments t c && is_under_go c.place) (e ∷ []) (one_fits HandsToNamed e (quiet e refl))

    taken_on_named : (t : CancelType) (m : Mention) (r : Role) → AllFitIf HandsToNamed (taken_on t l m r)
    taken_on_named t m (called c) = call_taken_on_named t m.named.selected c
    taken_on_named t m elsewhere = tt
    taken_on_named t m as_key = tt
    taken_on_named t m exposed = tt
    taken_on_named t m pointed_to = tt
    taken_on_named t m (found_nil nil) = tt
    taken_on_named t m (found_error nil row) = tt
    taken_on_named t m called_in_brackets = tt
    taken_on_named t m (argument k b c) = tt
    taken_on_named t m (returned k) = tt
    taken_on_named t m (left k row) = tt
    taken_on_named t m (names_type row) = tt
    taken_on_named t m (new_literal row) = tt
    taken_on_named t m parameter_pointer = tt

    cancel_use_by_named : (edition : Edition) (t : CancelType) (m : Mention) (r : Role)
        → AllFitIf HandsToNamed (cancel_use_by edition known t l bodies m r)
    cancel_use_by_named First t m r = cancel_use_named t m r
    cancel_use_by_named Second t m r =
        either_named (cancel_use known t l bodies m r)
        (either_use (taken_on t l m r) (allowed_if (is_read t r m.named.selected) []))
        (cancel_use_named t m r)
        (either_named (taken_on t l m r) (allowed_if (is_read t r m.named.selected) []) (taken_on_named t m r)
        (allowed HandsToNamed (is_read t r m.named.selected) [] (none_given HandsToNamed)))

    group_lent_named : (selected : Option (List ℕ)) (k : ℕ) (c : Call)
        → AllFitIf HandsToNamed (group_lent known l bodies selected k c)
    group_lent_named None k c =
        let lent = lend l.number (callee_of known c.callee) k in
        allowed HandsToNamed (is_own l bodies && (takes known c group_type k && is_call_place c.place)) (lent ∷ [])
        (one_fits HandsToNamed lent (named lent c.callee refl))
    group_lent_named (Some m) k c = tt

    here_named : (own : Bool) (x : Event) → HandsToNamed x → AllFit HandsToNamed (if own then x ∷ [] else [])
    here_named true x q = one_fits HandsToNamed x q
    here_named false x q = none_given HandsToNamed

    binding_named : (m : Mention) (row : Row) (binding : Binding) → HandsToNamed (binding_event known l m row binding)
    binding_named m row (obtained k) = quiet (binding_event known l m row (obtained k)) refl
    binding_named m row cleared = quiet (binding_event known l m row cleared) refl
    binding_named m row (made state) = quiet (binding_event known l m row (made state)) refl

module _ (seen : Seen) (bodies : List BodyPlace) (l : Local) where
  abbrev Fits : Event → Type 0
  Fits = HandsToNamed seen.known

  group_called_named : (selected : Option (List ℕ)) (c : Call) → AllFitIf Fits (group_called seen l bodies selected c)
  group_called_named None c = tt
  group_called_named (Some m) c =
      let inside = are_members seen.known l bodies in
      let saved = list_all (runs_once seen.known.edition) (literals_between l.body bodies) in
      let limited = if bytes_eq m (codes "SetLimit") then group_limited l bodies c else None in
      let awaited = if bytes_eq m (codes "Wait") then group_awaited seen.known.edition l bodies c else limited in
      let tried = if bytes_eq m (codes "TryGo") then group_tried seen l bodies c else awaited in
      let started = start l.number (started_literal (only_argument c)) in
      let attempted = try l.number (started_literal (only_argument c)) in
      if_so Fits (bytes_eq m (codes "Go")) (group_started seen l bodies c) tried
      (allowed Fits (is_statement_place c.place && (is_free seen (only_argument c) && inside)) (started ∷ [])
      (one_fits Fits started (quiet seen.known started refl)))
      (if_so Fits (bytes_eq m (codes "TryGo")) (group_tried seen l bodies c) awaited
      (allowed Fits (is_statement_or_value c.place && (is_free seen (only_argument c) && inside)) (attempted ∷ [])
      (one_fits Fits attempted (quiet seen.known attempted refl)))
      (if_so Fits (bytes_eq m (codes "Wait")) (group_awaited seen.known.edition l bodies c) limited
      (one_allowed Fits (has_no_argument c &&
      ((is_statement_or_value c.place || (is_item_place c.place && is_own l bodies)) && saved))
      (has_no_argument c && (is_deferred_place c.place && saved)) (wait l.number) (defer_wait l.number)
      (quiet seen.known (wait l.number) refl) (quiet seen.known (defer_wait l.number) refl))
      (if_so Fits (bytes_eq m (codes "SetLimit")) (group_limited l bodies c) None
      (allowed Fits (is_statement_place c.place && is_own l bodies) [] (none_given Fits)) tt)))

  group_use_named : (m : Mention) (r : Role) → AllFitIf Fits (group_use seen l bodies m r)
  group_use_named m elsewhere = tt
  group_use_named m as_key = tt
  group_use_named m exposed = tt
  group_use_named m pointed_to = tt
  group_use_named m (found_nil nil) = none_given Fits
  group_use_named m (found_error nil row) = none_given Fits
  group_use_named m (called c) = group_called_named m.named.selected c
  group_use_named m called_in_brackets = tt
  group_use_named m (argument k b c) = group_lent_named seen.known bodies l m.named.selected k c
  group_use_named m (returned k) = tt
  group_use_named m (left k row) = tt
  group_use_named m (names_type row) = tt
  group_use_named m (new_literal row) = tt
  group_use_named m parameter_pointer = tt

  kind_use_named : (kind : VariableKind) (m : Mention) → AllFitIf Fits (kind_use seen l kind bodies m)
  kind_use_named cancel m = cancel_use_by_named seen.known bodies l seen.known.edition (cancel_type_of seen l) m m.role
  kind_use_named group m = group_use_named m m.role

  mention_named : (kind : Option VariableKind) (m : Mention) → AllFit Fits (mention_outcome seen l kind bodies m).events
  mention_named None m = none_given Fits
  mention_named (Some kind) m =
      use_outcome_fits Fits kind l m (kind_use seen l kind bodies m) (kind_use_named kind m)

  bound_named : (kind : VariableKind) (m : Mention) (row : Row) (binding : Binding) (r : LocalRole)
      → AllFit Fits (binding_outcome seen l kind bodies m row binding r).events
  bound_named kind m row binding (parameter k) = none_given Fits
  bound_named kind m row binding receiver = none_given Fits
  bound_named kind m row binding variadic = none_given Fits
  bound_named kind m row binding result = none_given Fits
  bound_named kind m row binding in_block =
      here_named seen.known bodies l (is_own l bodies) (binding_event seen.known l m row binding)
      (binding_named seen.known bodies l m row binding)

  row_named : (kind : Option VariableKind) (m : Mention) (row : Row) (binding : Option Binding)
      → AllFit Fits (row_outcome seen l kind bodies m row binding).events
  row_named None m row None = none_given Fits
  row_named None m row (Some binding) = none_given Fits
  row_named (Some kind) m row None = mention_named (tracked_kind seen (Some l)) m
  row_named (Some kind) m row (Some binding) = bound_named kind m row binding l.role

  role_named : (m : Mention) (r : Role) → AllFit Fits (role_outcome seen l bodies m r).events
  role_named m (left k row) = row_named (kind_of seen (Some l)) m row (binding_at seen row k)
  role_named m elsewhere = mention_named (tracked_kind seen (Some l)) m
  role_named m as_key = mention_named (tracked_kind seen (Some l)) m
  role_named m exposed = mention_named (tracked_kind seen (Some l)) m
  role_named m pointed_to = mention_named (tracked_kind seen (Some l)) m
  role_named m (found_nil nil) = mention_named (tracked_kind seen (Some l)) m
  role_named m (found_error nil row) = mention_named (tracked_kind seen (Some l)) m
  role_named m (called c) = mention_named (tracked_kind seen (Some l)) m
  role_named m called_in_brackets = mention_named (tracked_kind seen (Some l)) m
  role_named m (argument k x c) = mention_named (tracked_kind seen (Some l)) m
  role_named m (returned k) = mention_named (tracked_kind seen (Some l)) m
  role_named m (names_type row) = mention_named (tracked_kind seen (Some l)) m
  role_named m (new_literal row) = mention_named (tracked_kind seen (Some l)) m
  role_named m parameter_pointer = mention_named (tracked_kind seen (Some l)) m

local_named : (seen : Seen) (bodies : List BodyPlace) (m : Mention) (o : Option Local)
    → AllFit (HandsToNamed seen.known) (local_outcome seen bodies m o).events
local_named seen bodies m None = none_given (HandsToNamed seen.known)
local_named seen bodies m (Some l) = role_named seen bodies l m m.role

calls_named : (known : Known) (vs : List ℕ) → AllFit (HandsToNamed known) (map call vs)
calls_named known [] e h = none_given (HandsToNamed known) e h
calls_named known (v ∷ vs) e h =
    elim (contains_cases (call v) e (map call vs) h) [
      | inl same ↦ subst (HandsToNamed known) same (quiet known (call v) refl)
      | inr more ↦ calls_named known vs e more
    ]

error_named : (seen : Seen) (m : Mention) (r : Role) → AllFit (HandsToNamed seen.known) (error_events seen m r)
error_named seen m elsewhere = none_given (HandsToNamed seen.known)
error_named seen m as_key = none_given (HandsToNamed seen.known)
error_named seen m exposed = none_given (HandsToNamed seen.known)
error_named seen m pointed_to = none_given (HandsToNamed seen.known)
error_named seen m (found_nil nil) = none_given (HandsToNamed seen.known)
error_named seen m (found_error nil row) = if_universe (is_universe (seen.known.means nil))
  where
    lost : List Event
    lost = map call (lost_to seen row (variable_of seen.known m))

    if_universe : (b : Bool) → AllFit (HandsToNamed seen.known) (if b then lost else [])
    if_universe true = calls_named seen.known (lost_to seen row (variable_of seen.known m))
    if_universe false = none_given (HandsToNamed seen.known)
error_named seen m (called c) = none_given (HandsToNamed seen.known)
error_named seen m called_in_brackets = none_given (HandsToNamed seen.known)
error_named seen m (argument k x c) = none_given (HandsToNamed seen.known)
error_named seen m (returned k) = none_given (HandsToNamed seen.known)
error_named seen m (left k row) = none_given (HandsToNamed seen.known)
error_named seen m (names_type row) = none_given (HandsToNamed seen.known)
error_named seen m (new_literal row) = none_given (HandsToNamed seen.known)
error_named seen m parameter_pointer = none_given (HandsToNamed seen.known)

-- what is of an object hands nothing to a function that is named
object_hands_nothing : {seen : Seen} {bodies : List BodyPlace} {mark : Mark} (e : Event)
    → IsOfObject seen bodies mark e
    → is_handing e ≡ false
object_hands_nothing e (by_renew k h) = refl
object_hands_nothing e (by_call k h) = refl
object_hands_nothing e (by_deferred k h) = refl
object_hands_nothing e (by_give k h) = refl
object_hands_nothing e (by_keep k h fits) = refl
object_hands_nothing e (by_outer k h fits) = refl
object_hands_nothing e (by_obtaining k site l a is h told) = refl
object_hands_nothing e (by_gift x v c q) = refl

mark_named : (seen : Seen) (bodies : List BodyPlace) (m : Mark)
    → AllFit (HandsToNamed seen.known) (mark_events seen bodies m)
mark_named seen bodies (mentions m) = λ e h.
    let lost = error_events seen m m.role in
    let of_objects = object_events seen bodies m in
    let sent = sent_events seen.known.edition seen bodies m in
    elim (Contains-append_cases (variable_outcome seen bodies m).events (lost ++ (of_objects ++ sent)) e h) [
      | inl of_use ↦ local_named seen bodies m (found seen (variable_of seen.known m)) e of_use
      | inr more ↦ elim (Contains-append_cases lost (of_objects ++ sent) e more) [
        | inl of_error ↦ error_named seen m m.role e of_error
        | inr rest ↦ elim (Contains-append_cases of_objects sent e rest) [
          | inl of_object ↦ quiet seen.known e (object_hands_nothing e (object_events_are seen bodies m e of_object))
          | inr by_going ↦
              let is = sent_events_are seen bodies m e by_going in
              named seen.known e is.call.callee (ap callee_in is.is_event)
        ]
      ]
    ]
mark_named seen bodies (of_fields site m) = λ e h.
    quiet seen.known e (object_hands_nothing e (field_events_are seen bodies site m e h))
mark_named seen bodies (runs_literal moment site at) =
    literal_event_fits (HandsToNamed seen.known) seen.known.edition moment at (quiet seen.known (defer_literal at) refl)
    (quiet seen.known (go (go_literal at)) refl)
mark_named seen bodies (returns at es) =
    let e = return_event (handed_on seen bodies 0 es) in
    one_fits (HandsToNamed seen.known) e (quiet seen.known e refl)
mark_named seen bodies (opens b) = none_given (HandsToNamed seen.known)
mark_named seen bodies closes = none_given (HandsToNamed seen.known)

-- Imports

abbrev HasPath : List ImportSpec → List ℕ → Type 0
HasPath specs path = (s : ImportSpec) × Contains specs s × (s.path ≡ path)

among_specs : (is_path : List ℕ → Bool) (packages : PackageNames) (name path : List ℕ) (specs : List ImportSpec)
    → import_among is_path packages name specs ≡ Some path
    → HasPath specs path
among_specs is_path packages name path [] e = absurd (none-some path e)
among_specs is_path packages name path (s ∷ ss) e =
    by (is_path s.path && is_called name (import_name_of packages s.name s.path)) e
    (among_specs is_path packages name path ss)
  where
    by : (b : Bool) → (if b then Some s.path else import_among is_path packages name ss) ≡ Some path
        → (import_among is_path packages name ss ≡ Some path → HasPath ss path)
        → HasPath (s ∷ ss) path
    by true h rest = (s, contains_here s ss, same_Some s.path path h)
    by false h rest = let r = rest h in (r.0, contains_there s r.0 ss r.1, r.2)

meant_specs : (packages : PackageNames) (specs : List ImportSpec) (name path : List ℕ)
    → import_meant packages specs name ≡ Some path
    → HasPath specs path
meant_specs packages specs name path e =
    by (import_among is_first_path packages name specs) refl e
  where
    by : (o : Option (List ℕ)) → import_among is_first_path packages name specs ≡ o
        → or_else o (import_among any_path packages name specs) ≡ Some path
        → HasPath specs path
    by None is h = among_specs any_path packages name path specs h
    by (Some q) is h = among_specs is_first_path packages name path specs (is ∙ h)

abbrev IsImport : Meaning → List ℕ → Type 0
IsImport m path = m ≡ import_name path

no_import_around : (level : Option PackageLevel) (path : List ℕ) → IsImport (package_or_universe level) path → ⊥
no_import_around None path e = cc
no_import_around (Some d) path e = by d.is_function e
  where
    by : (b : Bool) → IsImport (if b then function_name else package_name) path → ⊥
    by true h = cc
    by false h = cc

import_of_use : (files : List SourceFile) (packages : PackageNames) (file : SourceFile) (u : Use) (path : List ℕ)
    → meaning_of files packages file u ≡ import_name path
    → HasPath (specs_of file.imports) path
import_of_use files packages file u path e =
    by_local (local_meant (locals_of (file_names file)) u.name u.at) e
  where
    around : Option PackageLevel
    around = package_meant (package_block files) u.name

    same_path : (q : List ℕ) → import_name q ≡ import_name path → q ≡ path
    same_path q h = cc

    by_import : (o : Option (List ℕ)) → import_meant packages (specs_of file.imports) u.name ≡ o
        → import_or_around o (package_or_universe around) ≡ import_name path
        → HasPath (specs_of file.imports) path
    by_import None is h = absurd (no_import_around around path h)
    by_import (Some q) is h =
        meant_specs packages (specs_of file.imports) u.name path (is ∙ ap (λ x. Some x) (same_path q h))

    by_local : (o : Option LocalName)
        → local_or_around o (import_or_around (import_meant packages (specs_of file.imports) u.name) (package_or_universe around))
        ≡ import_name path
        → HasPath (specs_of file.imports) path
    by_local None h = by_import (import_meant packages (specs_of file.imports) u.name) refl h
    by_local (Some d) h = absurd (cc)

meant_import : (o : Option Meaning) (path : List ℕ) → path_meant o ≡ Some path → o ≡ Some (import_name path)
meant_import None path e = absurd (none-some path e)
meant_import (Some (import_name q)) path e = ap (λ x. Some (import_name x)) (same_Some q path e)
meant_import (Some (local_name n k)) path e = absurd (none-some path e)
meant_import (Some function_name) path e = absurd (none-some path e)
meant_import (Some package_name) path e = absurd (none-some path e)
meant_import (Some universe_name) path e = absurd (none-some path e)

-- what a tree of the package means by an import it imports
imported_there : (ps : List LoadedPackage) (q : LoadedPackage) (number at : ℕ) (path : List ℕ)
    → means_in ps q number at ≡ Some (import_name path)
    → Contains (imported_paths q) path
imported_there ps q number at path e = by_file (slice_get (trees_of q) number) refl e
  where
    contained : (ts : List SourceFile) (n : ℕ) (t : SourceFile) → slice_get ts n ≡ Some t → Contains ts t
    contained [] n t is = absurd (none-some t is)
    contained (x ∷ ts) zero t is = subst (λ y. Contains (x ∷ ts) y) (same_Some x t is) (contains_here x ts)
    contained (x ∷ ts) (suc n) t is = contains_there x t ts (contained ts n t is)

    by_use : (t : SourceFile) → Contains (trees_of q) t → (u : Option Use)
        → option_map (meaning_of (trees_of q) (package_names ps) t) u ≡ Some (import_name path)
        → Contains (imported_paths q) path
    by_use t among None h = absurd (none-some (import_name path) h)
    by_use t among (Some u) h =
        let w = import_of_use (trees_of q) (package_names ps) t u path (same_Some _ (import_name path) h) in
        gives (λ tree. map (λ (s : ImportSpec). s.path) (imports_of tree)) (trees_of q) t path among
        (subst (λ x. Contains (map (λ (s : ImportSpec). s.path) (imports_of t)) x) w.2
        (contains_map (λ (s : ImportSpec). s.path) (imports_of t) w.0 w.1))

    by_file : (o : Option SourceFile) → slice_get (trees_of q) number ≡ o
        → meaning_at (trees_of q) (package_names ps) o at ≡ Some (import_name path)
        → Contains (imported_paths q) path
    by_file None is h = absurd (none-some (import_name path) h)
    by_file (Some t) is h = by_use t (contained (trees_of q) number t is) (use_at at (uses_of (file_names t))) h

-- Packages

known_there : (known : ℕ → Known) (n : ℕ) (trees : List SourceFile) (seen : Seen) → Contains (seen_from known n trees) seen
    → (m : ℕ) × ((at : ℕ) → seen.known.means at ≡ (known m).means at)
known_there known n [] seen h = absurd (contains_nil seen h)
known_there known n (tree ∷ trees) seen h =
    elim (contains_cases (seen_file (known n) tree) seen (seen_from known (n + 1) trees) h) [
      | inl same ↦ (n, λ at. sym (ap (λ (s : Seen). s.known.means at) same))
      | inr later ↦ known_there known (n + 1) trees seen later
    ]

-- what a file of a package hands something to is of a package that it imports
pub handed_is_imported : (ps : List LoadedPackage) (tables : Tables) (q : LoadedPackage) (file : Seen) (f : Callee)
    (path : List ℕ)
    → Contains (seen_files ps tables q) file
    → HandsThere file f
    → f.path ≡ Some path
    → Contains (imported_paths q) path
handed_is_imported ps tables q file f path among hands is =
    let its = marked file hands.body.at file.marks hands.at hands.event hands.is_event in
    let name = mark_named file its.0.bodies its.0.mark hands.event its.3 f hands.hands in
    let known = known_there (known_in ps tables q) 0 (trees_of q) file among in
    let meant : path_meant (file.known.means name.0.at) ≡ Some path = ap (λ (g : Callee). g.path) (sym name.1) ∙ is in
    imported_there ps q known.0 name.0.at path
    (sym (known.1 name.0.at)
    ∙ meant_import (file.known.means name.0.at) path meant)

module _ (p : Program) (distinct : HaveDistinctPaths p.packages) (closed : AreClosed p) where
  uses_it : (b : Body) (of : IsOf p b) (f : Callee) (path : List ℕ) (home : ℕ) (named : LoadedPackage)
      → HandsThere b.file f
      → f.path ≡ Some path
      → slice_get p.packages home ≡ Some named
      → named.path ≡ path
      → counts_as_given named ≡ true
      → Uses p.packages p.tables b.home home
  uses_it b of f path home named hands is there same counted = record {
    imported = named;
    is_imported = there;
    is_counted = counted;
    imports = record {
      importer = list_item p.packages of.loaded;
      imported = list_item p.packages named;
      is_importer = in_lists p.packages b.home of.loaded of.is_package;
      is_imported = in_lists p.packages home named there;
      names = subst (λ x. Contains (imported_paths of.loaded) x) (sym same)
          (handed_is_imported p.packages p.tables of.loaded b.file f path of.is_file hands is);
      is_first = λ k r at its.
          let w = given_in_lists p.packages k r at in
          let one : home ≡ k = distinct.same home k named w.0 there w.1
          (sym its ∙ ap (λ (x : Package). x.path) (sym w.2)) in
          omega (arith, one);
    };
    is_used = record {
      user = of.loaded;
      file = b.file;
      callee = f;
      is_user = of.is_package;
      is_file = of.is_file;
      is_of_path = is ∙ ap (λ x. Some x) (sym same);
      hands = hands;
    };
  }

  pub stays_trusted : (b : Body) (of : IsOf p b) (f : Callee) (home : ℕ) → HandsThere b.file f → IsNamed p b.home f.path home
      → counts (slice_get p.packages home) ≡ true
      → IsRun p home
  stays_trusted b of f home hands named counted = by f.path refl named
    where
      by : (o : Option (List ℕ)) → f.path ≡ o → IsNamed p b.home o home → IsRun p home
      by None is its = subst (λ n. IsRun p n) (sym its) of.is_run
      by (Some path) is its = closed b.home home of.is_run (uses_it b of f path home its.0 hands is its.1 its.2 (sym (ap counts its.1) ∙ counted))

pub hands_stay_trusted : HandsStayTrusted
hands_stay_trusted p b t o f home distinct closed of reached hands named counted =
    stays_trusted p distinct closed b of f home (hands_there b of.is_body f t o reached hands) named counted
