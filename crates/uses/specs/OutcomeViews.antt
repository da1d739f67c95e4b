-- What the program keeps of faults and outcomes, and what it stands for.
use Rattle.std.specs.Prelude.{ℕ, ◌≡◌, Bool, not, ◌&&◌, if◌then◌else◌, List, [], ◌∷◌, ◌++◌, Option, Some, None, is_some, map, codes}
use Rattle.std.specs.Str.{bytes_eq}
use Rattle.uses.specs.declared.faults.UseCode.{UseCode as KeptCode}
use Rattle.uses.specs.declared.faults.UseCode.TheVariants.{RecoverUsed, GotoUsed, CancelDiscarded, CancelUsedOtherwise, GroupUsedOtherwise, BoundAgain, TooManyVariables}
use Rattle.uses.specs.declared.faults.UseFault.{UseFault as KeptFault}
use Rattle.uses.specs.declared.bindings.Binding.{Binding as KeptBinding}
use Rattle.uses.specs.declared.bindings.Binding.TheVariants.{Obtained, Cleared, Made}
use Rattle.tracked_rows.specs.declared.event.Event.{Event as KeptEvent}
use Rattle.tracked_rows.specs.EventViews.{events_view}
use Rattle.tracked.specs.LocalViews.{SeenLocal, kind_of_entry, tracked_kind_of_entry}
use Rattle.tracked_rows.specs.RowViews.{state_view}
use Rattle.meaning.specs.FunctionFacts.{is_same_type, VariableKind}
use Rattle.meaning.specs.Mentions.{Standing, ordinary, first_of_for, communication, Row, BodyPlace, Role, left, Mention, FieldLeft, Assigned, Mark, mentions, of_fields, runs_literal, returns, opens, closes}
use Rattle.tree.specs.Syntax.{Identifier}
use Rattle.meaning.specs.Tracked.{Known, is_universe, declared_by, row_giving, body_locals, Local, LocalRole, parameter, receiver, variadic, result, in_block}
use Rattle.meaning.specs.BodyEvents.{is_in_block, literal_events, sent_events}
use Rattle.meaning.specs.Uses.{Seen, Binding, obtained, cleared, made, Event, UseCode, recover_used, goto_used, cancel_discarded, cancel_used_otherwise, group_used_otherwise, bound_again, too_many_variables, UseFault, fault_at, otherwise, Outcome, nothing, only_faults, binding_event, error_events, first_faults, type_faults, event_here, use_outcome, kind_use, binding_at, variable_outcome, mention_faults, result_faults, if_not, cancel_type_of, type_from, field_left_faults, field_variable, field_faults}

abbrev pub code_view : KeptCode → UseCode
code_view RecoverUsed = recover_used
code_view GotoUsed = goto_used
code_view CancelDiscarded = cancel_discarded
code_view CancelUsedOtherwise = cancel_used_otherwise
code_view GroupUsedOtherwise = group_used_otherwise
code_view BoundAgain = bound_again
code_view TooManyVariables = too_many_variables

abbrev pub fault_view : KeptFault → UseFault
fault_view f = record { at = f.at; code = code_view f.code; name = f.name.now }

abbrev pub binding_view : KeptBinding → Binding
binding_view (Obtained k) = obtained k
binding_view Cleared = cleared
binding_view (Made state) = made (state_view state)

abbrev pub AddsFaults : List KeptFault → List KeptFault → List UseFault → Type 0
AddsFaults before after faults = map fault_view after ≡ map fault_view before ++ faults

-- the faults are added, and the event is what is done
abbrev pub Gives : List KeptFault → List KeptFault → Option KeptEvent → Outcome → Type 0
Gives before after event outcome = AddsFaults before after outcome.faults × (events_view event ≡ outcome.events)

-- Outcomes of a local with what the marks of its file do to it

abbrev pub again_of : Known → SeenLocal → Mention → List UseFault
again_of known e m =
    if e.is_in_literal && not (is_some (declared_by known m)) then fault_at m.named.at bound_again e.local.name else []

abbrev pub binding_outcome_of
    : Seen → SeenLocal → VariableKind → List BodyPlace → Mention → Row → Binding → LocalRole → Outcome
binding_outcome_of seen e kind bodies m row b result =
    only_faults (fault_at m.named.at bound_again e.local.name)
binding_outcome_of seen e kind bodies m row b variadic =
    only_faults (fault_at m.named.at (otherwise kind) e.local.name)
binding_outcome_of seen e kind bodies m row b (parameter k) =
    only_faults (fault_at m.named.at (otherwise kind) e.local.name ++ again_of seen.known e m)
binding_outcome_of seen e kind bodies m row b receiver =
    only_faults (fault_at m.named.at (otherwise kind) e.local.name ++ again_of seen.known e m)
binding_outcome_of seen e kind bodies m row b in_block = record {
  faults = first_faults row.standing kind e.local m
      ++ (type_faults seen e.local m row b ++ again_of seen.known e m);
  events = event_here e.local bodies (binding_event seen.known e.local m row b);
}

abbrev pub mention_outcome_of : Seen → SeenLocal → Option VariableKind → List BodyPlace → Mention → Outcome
mention_outcome_of seen e None bodies m = nothing
mention_outcome_of seen e (Some kind) bodies m = use_outcome kind e.local m (kind_use seen e.local kind bodies m)

abbrev pub row_outcome_of
    : Seen → SeenLocal → Option VariableKind → List BodyPlace → Mention → Row → Option Binding → Outcome
row_outcome_of seen e None bodies m row binding = nothing
row_outcome_of seen e (Some kind) bodies m row None = mention_outcome_of seen e (tracked_kind_of_entry e) bodies m
row_outcome_of seen e (Some kind) bodies m row (Some binding) =
    binding_outcome_of seen e kind bodies m row binding e.local.role

abbrev pub role_outcome_of : Seen → SeenLocal → List BodyPlace → Mention → Role → Outcome
role_outcome_of seen e bodies m (left k row) =
    row_outcome_of seen e (kind_of_entry e) bodies m row (binding_at seen row k)
role_outcome_of seen e bodies m role = mention_outcome_of seen e (tracked_kind_of_entry e) bodies m

abbrev pub entry_outcome : Seen → List BodyPlace → Mention → Option SeenLocal → Outcome
entry_outcome seen bodies m None = nothing
entry_outcome seen bodies m (Some e) = role_outcome_of seen e bodies m m.role

-- Faults of fields of new objects

abbrev pub first_field_faults : Standing → Identifier → List UseFault
first_field_faults ordinary f = []
first_field_faults first_of_for f = fault_at f.span.start cancel_used_otherwise f.text
first_field_faults communication f = []

abbrev pub type_field_faults : Seen → Local → Identifier → Row → ℕ → List UseFault
type_field_faults seen v f row k =
    if_not (is_same_type (cancel_type_of seen v) (type_from k (row_giving seen.known row)))
    (fault_at f.span.start cancel_used_otherwise f.text)

abbrev pub written_faults : Seen → FieldLeft → Assigned → List UseFault
written_faults seen l a = field_left_faults seen (field_variable seen l.field) l.field a.row a.left_side

-- Faults of marks

-- the faults of a mark but for those that go by the variables of bodies, of `recover` and `goto`
abbrev pub plain_faults : Seen → List BodyPlace → Mark → List UseFault
plain_faults seen bodies (mentions m) = mention_faults seen bodies m
plain_faults seen bodies (of_fields site m) = field_faults seen m
plain_faults seen bodies (runs_literal moment site at) = []
plain_faults seen bodies (returns at es) = []
plain_faults seen bodies (opens b) = result_faults (body_locals seen.known b)
plain_faults seen bodies closes = []

-- Events of marks

-- those that are no calls behind a row with an error, and don't go by what is kept in fields
abbrev pub plain_events : Seen → List BodyPlace → Mark → List Event
plain_events seen bodies (mentions m) = (variable_outcome seen bodies m).events
plain_events seen bodies (of_fields site m) = []
plain_events seen bodies (runs_literal moment site at) = literal_events seen.known.edition moment at
plain_events seen bodies (returns at es) = []
plain_events seen bodies (opens b) = []
plain_events seen bodies closes = []

-- those calls
abbrev pub error_calls : Seen → Mark → List Event
error_calls seen (mentions m) = error_events seen m m.role
error_calls seen (of_fields site m) = []
error_calls seen (runs_literal moment site at) = []
error_calls seen (returns at es) = []
error_calls seen (opens b) = []
error_calls seen closes = []

-- what functions under `go` get
abbrev pub sent_part : Seen → List BodyPlace → Mark → List Event
sent_part seen bodies (mentions m) = sent_events seen.known.edition seen bodies m
sent_part seen bodies (of_fields site m) = []
sent_part seen bodies (runs_literal moment site at) = []
sent_part seen bodies (returns at es) = []
sent_part seen bodies (opens b) = []
sent_part seen bodies closes = []

abbrev pub listed_number : Option ℕ → List ℕ
listed_number None = []
listed_number (Some number) = number ∷ []

-- a mention of the universe's `recover`
abbrev pub is_recover : Known → Mention → Bool
is_recover known m = bytes_eq m.named.name (codes "recover") && is_universe (known.means m.named.at)
