-- What a mention gives stands where its name stands, at its site, or at the statement of its row: its faults, and the
-- events with an offset.
use Rattle.std.proofs.Common.{ℕ, ◌≤◌, Bool, true, false, inl, inr, List, [], ◌∷◌, ◌++◌, Option, Some, None, Contains, subst}
use Rattle.std.specs.Prelude.{◌&&◌, ◌||◌, if◌then◌else◌, not, is_some, codes}
use Rattle.std.specs.List.{list_all}
use Rattle.std.specs.Str.{bytes_eq}
use Rattle.std.proofs.lemmas.List.Elements.{Contains-append_cases}
use Rattle.meaning.specs.FunctionFacts.{CancelType, is_same_type, cancel_type, group_type, VariableKind, cancel, group, errgroup_path, is_import}
use Rattle.meaning.specs.Mentions.{BodyPlace, Standing, ordinary, first_of_for, communication, Row, Call, CallPlace, nowhere, as_statement, only_value, return_item, deferred, Role, elsewhere, as_key, called, called_in_brackets, argument, returned, left, names_type, new_literal, parameter_pointer, Mention, exposed, found_nil, found_error, pointed_to, under_go}
use Rattle.meaning.specs.Tracked.{is_universe, variable_of, declared_by, Giving, giving_of, row_giving, are_locals, LocalRole, parameter, receiver, variadic, result, in_block, Local}
use Rattle.meaning.specs.Uses.{Seen, found, kind_of, tracked_kind, last_name, Event, other, obtain, clear, call, defer_call, pass, defer_pass, lend, start, try, wait, defer_wait, make, defer_literal, return_event, Binding, obtained, cleared, made, binding_at, binding_event, row_binds, allowed_if, either_use, variable_at, cancel_called, cancel_passed, cancel_use, only_argument, group_started, group_tried, group_awaited, group_limited, group_called, group_lent, group_use, is_own, body_gives, has_no_argument, has_its_arguments, is_statement_place, is_deferred_place, is_item_place, is_statement_or_value, is_call_place, takes, is_given_as, cancel_type_of, type_from, callee_of, is_free, started_literal, are_members, literals_between, UseCode, recover_used, cancel_discarded, cancel_used_otherwise, group_used_otherwise, bound_again, UseFault, fault_at, otherwise, Outcome, if_not, again_faults, type_faults, first_faults, binding_outcome, use_outcome, kind_use, mention_outcome, row_outcome, role_outcome, local_outcome, variable_outcome, last_fault, has_blank, row_call_faults, hands_on, call_faults, is_only_called, giving_role_faults, giving_faults, is_made_or_parameter, recover_faults, mention_faults, is_in_literal, cancel_use_by, is_read, obtain_kept, renew, keep, call_kept, defer_kept, give, give_field, go_call, go, runs_once, taken_on, call_taken_on, is_under_go}
use Rattle.meaning.proofs.Membership.{contains_nil, contains_cases}
use Rattle.meaning_runs.specs.NamePlaces.{PlaceStandsWithin, RoleStandsWithin}
use Rattle.tree.specs.declared.edition.Edition.{Edition}
use Rattle.tree.specs.declared.edition.Edition.TheVariants.{First, Second}

-- the offset of an event, where it has one
abbrev pub EventStandsWithin : ℕ → Event → Type 0
EventStandsWithin n other = Unit {0}
EventStandsWithin n (obtain u f k is_new) = u.at ≤ n
EventStandsWithin n (clear u) = u.at ≤ n
EventStandsWithin n (obtain_kept u f k x) = u.at ≤ n
EventStandsWithin n (renew v x) = Unit {0}
EventStandsWithin n (keep v x) = Unit {0}
EventStandsWithin n (call_kept v x) = Unit {0}
EventStandsWithin n (defer_kept v x) = Unit {0}
EventStandsWithin n (give v x) = Unit {0}
EventStandsWithin n (give_field v) = Unit {0}
EventStandsWithin n (call v) = Unit {0}
EventStandsWithin n (defer_call v) = Unit {0}
EventStandsWithin n (pass u f k) = u.at ≤ n
EventStandsWithin n (defer_pass u f k) = u.at ≤ n
EventStandsWithin n (lend g f k) = Unit {0}
EventStandsWithin n (start g literal) = Unit {0}
EventStandsWithin n (try g literal) = Unit {0}
EventStandsWithin n (wait g) = Unit {0}
EventStandsWithin n (defer_wait g) = Unit {0}
EventStandsWithin n (make u state) = u.at ≤ n
EventStandsWithin n (defer_literal at) = Unit {0}
EventStandsWithin n (go work) = Unit {0}
EventStandsWithin n (return_event handed) = Unit {0}

pub record EventsStandWithin (n : ℕ) (es : List Event) : Type 0 where
  pub each : (e : Event) → Contains es e → EventStandsWithin n e

pub record FaultsStandWithin (n : ℕ) (fs : List UseFault) : Type 0 where
  pub each : (f : UseFault) → Contains fs f → f.at ≤ n

pub no_event : {n : ℕ} → EventsStandWithin n []
no_event = record { each = λ e h. absurd (contains_nil e h) }

pub one_event : {n : ℕ} (x : Event) → EventStandsWithin n x → EventsStandWithin n (x ∷ [])
one_event {n} x h = record {
  each = λ e among. elim (contains_cases x e [] among) [
    | inl same ↦ subst (EventStandsWithin n) same h
    | inr none ↦ absurd (contains_nil e none)
  ];
}

pub no_fault : {n : ℕ} → FaultsStandWithin n []
no_fault = record { each = λ f h. absurd (contains_nil f h) }

pub one_fault : {n : ℕ} (at : ℕ) (code : UseCode) (name : List ℕ) → at ≤ n → FaultsStandWithin n (fault_at at code name)
one_fault {n} at code name h = record {
  each = λ f among. elim (contains_cases _ f [] among) [
    | inl same ↦ subst (λ (x : UseFault). x.at ≤ n) same h
    | inr none ↦ absurd (contains_nil f none)
  ];
}

pub both_faults : {n : ℕ} {xs ys : List UseFault} → FaultsStandWithin n xs → FaultsStandWithin n ys → FaultsStandWithin n (xs ++ ys)
both_faults {n} {xs} {ys} h k = record {
  each = λ f among. elim (Contains-append_cases xs ys f among) [ inl r ↦ h.each f r | inr r ↦ k.each f r ];
}

pub faults_if : {n : ℕ} (b : Bool) {xs ys : List UseFault} → FaultsStandWithin n xs → FaultsStandWithin n ys → FaultsStandWithin n (if b then xs else ys)
faults_if true h k = h
faults_if false h k = k

pub not_if : {n : ℕ} (b : Bool) {xs : List UseFault} → FaultsStandWithin n xs → FaultsStandWithin n (if_not b xs)
not_if b h = faults_if b no_fault h

-- what an allowed mention gives
abbrev EventsLieIf : ℕ → Option (List Event) → Type 0
EventsLieIf n None = Unit {0}
EventsLieIf n (Some es) = EventsStandWithin n es

pub record OutcomeStandsWithin (n : ℕ) (o : Outcome) : Type 0 where
  pub faults : FaultsStandWithin n o.faults
  pub events : EventsStandWithin n o.events

module _ (n : ℕ) where
  allowed : (b : Bool) (es : List Event) → EventsStandWithin n es → EventsLieIf n (allowed_if b es)
  allowed true es h = h
  allowed false es h = tt

  one_of : (o k : Option (List Event)) → EventsLieIf n o → EventsLieIf n k → EventsLieIf n (either_use o k)
  one_of None k h m = m
  one_of (Some es) k h m = h

  one_allowed : (b c : Bool) (x y : Event)
      → EventStandsWithin n x
      → EventStandsWithin n y
      → EventsLieIf n (either_use (allowed_if b (x ∷ [])) (allowed_if c (y ∷ [])))
  one_allowed b c x y h k =
      one_of (allowed_if b (x ∷ [])) (allowed_if c (y ∷ [])) (allowed b (x ∷ []) (one_event x h))
      (allowed c (y ∷ []) (one_event y k))

  if_so : (b : Bool) (o k : Option (List Event)) → EventsLieIf n o → EventsLieIf n k → EventsLieIf n (if b then o else k)
  if_so true o k h m = h
  if_so false o k h m = m

  module _ (seen : Seen) (l : Local) (bodies : List BodyPlace) (m : Mention) (low : m.named.at ≤ n) where
    -- what is allowed

    abbrev its_type : CancelType
    its_type = cancel_type_of seen l

    called_lies : (selected : Option (List ℕ)) (c : Call) → EventsLieIf n (cancel_called its_type l.number selected c)
    called_lies (Some name) c = tt
    called_lies None c =
        one_allowed (has_its_arguments its_type c && is_statement_place c.place)
        (has_its_arguments its_type c && is_deferred_place c.place) (call l.number) (defer_call l.number) tt tt

    passed_lies : (selected : Option (List ℕ)) (k : ℕ) (b : Bool) (c : Call)
        → EventsLieIf n (cancel_passed seen.known its_type (variable_at l m) selected k b c)
    passed_lies None k false c =
        one_allowed (takes seen.known c (cancel_type its_type) k && is_call_place c.place)
        (takes seen.known c (cancel_type its_type) k && is_deferred_place c.place)
        (pass (variable_at l m) (callee_of seen.known c.callee) k)
        (defer_pass (variable_at l m) (callee_of seen.known c.callee) k) low low
    passed_lies None k true c = tt
    passed_lies (Some name) k b c = tt

    called_if : (b : Bool) → EventsStandWithin n (if b then call l.number ∷ [] else [])
    called_if true = one_event (call l.number) tt
    called_if false = no_event

    cancel_lies : (r : Role) → EventsLieIf n (cancel_use seen.known its_type l bodies m r)
    cancel_lies elsewhere = tt
    cancel_lies as_key = tt
    cancel_lies exposed = tt
    cancel_lies pointed_to = tt
    cancel_lies (found_nil nil) = called_if (is_universe (seen.known.means nil))
    cancel_lies (found_error nil row) = no_event
    cancel_lies (called c) = called_lies m.named.selected c
    cancel_lies called_in_brackets = tt
    cancel_lies (argument k b c) =
        if_so (is_own l bodies) (cancel_passed seen.known its_type (variable_at l m) m.named.selected k b c) None
        (passed_lies m.named.selected k b c) tt
    cancel_lies (returned k) =
        allowed (is_own l bodies && is_given_as k its_type (body_gives seen.known bodies)) [] no_event
    cancel_lies (left k row) = tt
    cancel_lies (names_type row) = tt
    cancel_lies (new_literal row) = tt
    cancel_lies parameter_pointer = tt

    call_taken_lies : (selected : Option (List ℕ)) (c : Call)
        → EventsLieIf n (call_taken_on its_type l.number selected c)
    call_taken_lies (Some name) c = tt
    call_taken_lies None c =
        allowed (has_its_arguments its_type c && is_under_go c.place) (go (go_call l.number) ∷ [])
        (one_event (go (go_call l.number)) tt)

    taken_lies : (r : Role) → EventsLieIf n (taken_on its_type l m r)
    taken_lies (called c) = call_taken_lies m.named.selected c
    taken_lies elsewhere = tt
    taken_lies as_key = tt
    taken_lies exposed = tt
    taken_lies pointed_to = tt
    taken_lies (found_nil nil) = tt
    taken_lies (found_error nil row) = tt
    taken_lies called_in_brackets = tt
    taken_lies (argument k b c) = tt
    taken_lies (returned k) = tt
    taken_lies (left k row) = tt
    taken_lies (names_type row) = tt
    taken_lies (new_literal row) = tt
    taken_lies parameter_pointer = tt

    group_called_lies : (selected : Option (List ℕ)) (c : Call) → EventsLieIf n (group_called seen l bodies selected c)
    group_called_lies None c = tt
    group_called_lies (Some name) c =
        let inside = are_members seen.known l bodies in
        let saved = list_all (runs_once seen.known.edition) (literals_between l.body bodies) in
        let limited = if bytes_eq name (codes "SetLimit") then group_limited l bodies c else None in
        let awaited = if bytes_eq name (codes "Wait") then group_awaited seen.known.edition l bodies c else limited in
        let tried = if bytes_eq name (codes "TryGo") then group_tried seen l bodies c else awaited in
        if_so (bytes_eq name (codes "Go")) (group_started seen l bodies c) tried
        (allowed (is_statement_place c.place && (is_free seen (only_argument c) && inside))
        (start l.number (started_literal (only_argument c)) ∷ [])
        (one_event (start l.number (started_literal (only_argument c))) tt))
        (if_so (bytes_eq name (codes "TryGo")) (group_tried seen l bodies c) awaited
        (allowed (is_statement_or_value c.place && (is_free seen (only_argument c) && inside))
        (try l.number (started_literal (only_argument c)) ∷ [])
        (one_event (try l.number (started_literal (only_argument c))) tt))
        (if_so (bytes_eq name (codes "Wait")) (group_awaited seen.known.edition l bodies c) limited
        (one_allowed (has_no_argument c &&
        ((is_statement_or_value c.place || (is_item_place c.place && is_own l bodies)) && saved))
        (has_no_argument c && (is_deferred_place c.place && saved)) (wait l.number) (defer_wait l.number) tt tt)
        (if_so (bytes_eq name (codes "SetLimit")) (group_limited l bodies c) None
        (allowed (is_statement_place c.place && is_own l bodies) [] no_event) tt)))

    lent_lies : (selected : Option (List ℕ)) (k : ℕ) (c : Call) → EventsLieIf n (group_lent seen.known l bodies selected k c)
    lent_lies None k c =
        allowed (is_own l bodies && (takes seen.known c group_type k && is_call_place c.place))
        (lend l.number (callee_of seen.known c.callee) k ∷ [])
        (one_event (lend l.number (callee_of seen.known c.callee) k) tt)
    lent_lies (Some name) k c = tt

    group_lies : (r : Role) → EventsLieIf n (group_use seen l bodies m r)
    group_lies elsewhere = tt
    group_lies as_key = tt
    group_lies exposed = tt
    group_lies pointed_to = tt
    group_lies (found_nil nil) = no_event
    group_lies (found_error nil row) = no_event
    group_lies (called c) = group_called_lies m.named.selected c
    group_lies called_in_brackets = tt
    group_lies (argument k b c) = lent_lies m.named.selected k c
    group_lies (returned k) = tt
    group_lies (left k row) = tt
    group_lies (names_type row) = tt
    group_lies (new_literal row) = tt
    group_lies parameter_pointer = tt

    kind_lies : (kind : VariableKind) → EventsLieIf n (kind_use seen l kind bodies m)
    kind_lies cancel = by seen.known.edition m.role
      where
        by : (edition : Edition) (r : Role) → EventsLieIf n (cancel_use_by edition seen.known its_type l bodies m r)
        by First r = cancel_lies r
        by Second r =
            one_of (cancel_use seen.known its_type l bodies m r)
            (either_use (taken_on its_type l m r) (allowed_if (is_read its_type r m.named.selected) []))
            (cancel_lies r)
            (one_of (taken_on its_type l m r) (allowed_if (is_read its_type r m.named.selected) []) (taken_lies r)
            (allowed (is_read its_type r m.named.selected) [] no_event))
    kind_lies group = group_lies m.role

    use_lies : (kind : VariableKind) (o : Option (List Event)) → EventsLieIf n o → OutcomeStandsWithin n (use_outcome kind l m o)
    use_lies kind None h = record { faults = one_fault m.named.at (otherwise kind) l.name low; events = no_event }
    use_lies kind (Some es) h = record { faults = no_fault; events = h }

    unbound_lies : (kind : Option VariableKind) → OutcomeStandsWithin n (mention_outcome seen l kind bodies m)
    unbound_lies None = record { faults = no_fault; events = no_event }
    unbound_lies (Some kind) = use_lies kind (kind_use seen l kind bodies m) (kind_lies kind)

    -- bindings

    again_lies : FaultsStandWithin n (again_faults seen l m)
    again_lies =
        faults_if (is_in_literal seen l && not (is_some (declared_by seen.known m)))
        (one_fault m.named.at bound_again l.name low) no_fault

    type_lies : (row : Row) (binding : Binding) → FaultsStandWithin n (type_faults seen l m row binding)
    type_lies row (obtained k) =
        not_if (is_same_type its_type (type_from k (row_giving seen.known row)))
        (one_fault m.named.at cancel_used_otherwise l.name low)
    type_lies row cleared = no_fault
    type_lies row (made state) = no_fault

    first_lies : (standing : Standing) (kind : VariableKind) → FaultsStandWithin n (first_faults standing kind l m)
    first_lies ordinary kind = no_fault
    first_lies first_of_for kind = one_fault m.named.at (otherwise kind) l.name low
    first_lies communication kind = no_fault

    event_lies : (row : Row) (binding : Binding) → EventStandsWithin n (binding_event seen.known l m row binding)
    event_lies row (obtained k) = low
    event_lies row cleared = low
    event_lies row (made state) = low

    here_lies : (own : Bool) (x : Event) → EventStandsWithin n x → EventsStandWithin n (if own then x ∷ [] else [])
    here_lies true x h = one_event x h
    here_lies false x h = no_event

    bound_lies : (kind : VariableKind) (row : Row) (binding : Binding) (r : LocalRole)
        → OutcomeStandsWithin n (binding_outcome seen l kind bodies m row binding r)
    bound_lies kind row binding (parameter k) =
        record { faults = both_faults (one_fault m.named.at (otherwise kind) l.name low) again_lies; events = no_event }
    bound_lies kind row binding receiver =
        record { faults = both_faults (one_fault m.named.at (otherwise kind) l.name low) again_lies; events = no_event }
    bound_lies kind row binding variadic =
        record { faults = one_fault m.named.at (otherwise kind) l.name low; events = no_event }
    bound_lies kind row binding result =
        record { faults = one_fault m.named.at bound_again l.name low; events = no_event }
    bound_lies kind row binding in_block = record {
      faults = both_faults (first_lies row.standing kind) (both_faults (type_lies row binding) again_lies);
      events = here_lies (is_own l bodies) (binding_event seen.known l m row binding) (event_lies row binding);
    }

    row_lies : (kind : Option VariableKind) (row : Row) (binding : Option Binding)
        → OutcomeStandsWithin n (row_outcome seen l kind bodies m row binding)
    row_lies None row None = record { faults = no_fault; events = no_event }
    row_lies None row (Some binding) = record { faults = no_fault; events = no_event }
    row_lies (Some kind) row None = unbound_lies (tracked_kind seen (Some l))
    row_lies (Some kind) row (Some binding) = bound_lies kind row binding l.role

    role_lies : (r : Role) → OutcomeStandsWithin n (role_outcome seen l bodies m r)
    role_lies (left k row) = row_lies (kind_of seen (Some l)) row (binding_at seen row k)
    role_lies elsewhere = unbound_lies (tracked_kind seen (Some l))
    role_lies as_key = unbound_lies (tracked_kind seen (Some l))
    role_lies exposed = unbound_lies (tracked_kind seen (Some l))
    role_lies pointed_to = unbound_lies (tracked_kind seen (Some l))
    role_lies (found_nil nil) = unbound_lies (tracked_kind seen (Some l))
    role_lies (found_error nil row) = unbound_lies (tracked_kind seen (Some l))
    role_lies (called c) = unbound_lies (tracked_kind seen (Some l))
    role_lies called_in_brackets = unbound_lies (tracked_kind seen (Some l))
    role_lies (argument k x c) = unbound_lies (tracked_kind seen (Some l))
    role_lies (returned k) = unbound_lies (tracked_kind seen (Some l))
    role_lies (names_type row) = unbound_lies (tracked_kind seen (Some l))
    role_lies (new_literal row) = unbound_lies (tracked_kind seen (Some l))
    role_lies parameter_pointer = unbound_lies (tracked_kind seen (Some l))

  module _ (seen : Seen) (bodies : List BodyPlace) (m : Mention) (low : m.named.at ≤ n) where
    local_lies : (o : Option Local) → OutcomeStandsWithin n (local_outcome seen bodies m o)
    local_lies None = record { faults = no_fault; events = no_event }
    local_lies (Some l) = role_lies seen l bodies m low m.role

    pub variable_lies : OutcomeStandsWithin n (variable_outcome seen bodies m)
    variable_lies = local_lies (found seen (variable_of seen.known m))

    -- makers and givers

    last_lies : (code : UseCode) → FaultsStandWithin n (last_fault code m.named)
    last_lies code = one_fault m.named.at code (last_name m.named) low

    row_call_lies : (row : Row) (o : Option Giving) → row.statement ≤ n → FaultsStandWithin n (row_call_faults seen m.named row o)
    row_call_lies row None starts = last_lies cancel_used_otherwise
    row_call_lies row (Some g) starts =
        faults_if (has_blank row g.gives) (one_fault row.statement cancel_discarded (last_name m.named) starts)
        (faults_if (are_locals seen.known row g.gives && row_binds seen row) no_fault (last_lies cancel_used_otherwise))

    call_lies : (g : Giving) (place : CallPlace) → m.site ≤ n → PlaceStandsWithin n place → FaultsStandWithin n (call_faults seen bodies m g place)
    call_lies g nowhere site h = last_lies cancel_used_otherwise
    call_lies g as_statement site h = one_fault m.site cancel_discarded (last_name m.named) site
    call_lies g (only_value row) site h = row_call_lies row (row_giving seen.known row) h
    call_lies g (return_item k) site h =
        not_if (hands_on (body_gives seen.known bodies) k g) (last_lies cancel_used_otherwise)
    call_lies g deferred site h = last_lies cancel_used_otherwise
    call_lies g under_go site h = last_lies cancel_used_otherwise

    maker_lies : FaultsStandWithin n (if is_only_called seen.known.edition seen.known m.named then last_fault cancel_used_otherwise m.named else [])
    maker_lies = faults_if (is_only_called seen.known.edition seen.known m.named) (last_lies cancel_used_otherwise) no_fault

    giving_role_lies : (g : Giving) (r : Role) → m.site ≤ n → RoleStandsWithin n r → FaultsStandWithin n (giving_role_faults seen bodies m g r)
    giving_role_lies g (called c) site h = call_lies g c.place site h
    giving_role_lies g called_in_brackets site h = last_lies cancel_used_otherwise
    giving_role_lies g elsewhere site h = maker_lies
    giving_role_lies g as_key site h = maker_lies
    giving_role_lies g exposed site h = maker_lies
    giving_role_lies g pointed_to site h = maker_lies
    giving_role_lies g (found_nil nil) site h = maker_lies
    giving_role_lies g (found_error nil row) site h = maker_lies
    giving_role_lies g (argument k x c) site h = maker_lies
    giving_role_lies g (returned k) site h = maker_lies
    giving_role_lies g (left k row) site h = maker_lies
    giving_role_lies g (names_type row) site h = maker_lies
    giving_role_lies g (new_literal row) site h = maker_lies
    giving_role_lies g parameter_pointer site h = maker_lies

    giving_lies : (o : Option Giving) → m.site ≤ n → RoleStandsWithin n m.role → FaultsStandWithin n (giving_faults seen bodies m o)
    giving_lies None site h = no_fault
    giving_lies (Some g) site h = giving_role_lies g m.role site h

    -- all of a mention
    pub mention_faults_lie : m.site ≤ n → RoleStandsWithin n m.role → FaultsStandWithin n (mention_faults seen bodies m)
    mention_faults_lie site h =
        both_faults variable_lies.faults
        (both_faults (giving_lies (giving_of seen.known m.named) site h)
        (faults_if (is_import errgroup_path (seen.known.means m.named.at))
        (not_if (is_made_or_parameter seen m m.role) (last_lies group_used_otherwise)) no_fault))

    pub recover_faults_lie : FaultsStandWithin n (recover_faults seen.known m)
    recover_faults_lie =
        faults_if (bytes_eq m.named.name (codes "recover") && is_universe (seen.known.means m.named.at))
        (one_fault m.named.at recover_used (codes "-") low) no_fault
