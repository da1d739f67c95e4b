-- What the program keeps of events, and what it stands for.
use Rattle.std.specs.Prelude.{List, [], ◌∷◌, Option, Some, None, option_map, map}
use Rattle.tracked_rows.specs.declared.event.Callee.{Callee as KeptCallee}
use Rattle.tracked_rows.specs.declared.event.Handed.{Handed as KeptHanded}
use Rattle.tracked_rows.specs.declared.event.Sent.{Sent as KeptSent}
use Rattle.tracked_rows.specs.declared.event.VariableAt.{VariableAt as KeptVariable}
use Rattle.tracked_rows.specs.declared.event.Event.{Event as KeptEvent}
use Rattle.tracked_rows.specs.declared.event.Event.TheVariants.{Obtain, Clear, Call, DeferCall, ObtainKept, Renew, Keep, CallKept, DeferKept, Give, GiveField, Pass, DeferPass, Lend, Start, Try, Wait, DeferWait, Make, DeferLiteral, GoCall, GoPass, GoLiteral, Return}
use Rattle.tracked_rows.specs.RowViews.{state_view}
use Rattle.meaning.specs.Uses.{Callee, Handed, Sent, VariableAt, go_call, go_pass, go_literal, Event, obtain, clear, call, defer_call, obtain_kept, renew, keep, call_kept, defer_kept, give, give_field, pass, defer_pass, lend, start, try, wait, defer_wait, make, defer_literal, go, return_event}

abbrev pub callee_view : KeptCallee → Callee
callee_view c = record { path = option_map (λ p. p.now) c.path; name = c.name.now }

abbrev pub handed_view : KeptHanded → Handed
handed_view h = record { number = h.number; position = h.position; object = h.object }

abbrev pub sent_view : KeptSent → Sent
sent_view x = record { number = x.number; position = x.position }

abbrev pub variable_view : KeptVariable → VariableAt
variable_view v = record { number = v.number; at = v.at }

abbrev pub event_view : KeptEvent → Event
event_view (Obtain v f k is_declared) = obtain (variable_view v) (callee_view f) k is_declared
event_view (Clear v) = clear (variable_view v)
event_view (Call v) = call v
event_view (DeferCall v) = defer_call v
event_view (ObtainKept v f k x) = obtain_kept (variable_view v) (callee_view f) k x
event_view (Renew v x) = renew v x
event_view (Keep v x) = keep v x
event_view (CallKept v x) = call_kept v x
event_view (DeferKept v x) = defer_kept v x
event_view (Give v x) = give v x
event_view (GiveField v) = give_field v
event_view (Pass v f k) = pass (variable_view v) (callee_view f) k
event_view (DeferPass v f k) = defer_pass (variable_view v) (callee_view f) k
event_view (Lend v f k) = lend v (callee_view f) k
event_view (Start v literal) = start v literal
event_view (Try v literal) = try v literal
event_view (Wait v) = wait v
event_view (DeferWait v) = defer_wait v
event_view (Make v state) = make (variable_view v) (state_view state)
event_view (DeferLiteral at) = defer_literal at
event_view (GoCall v) = go (go_call v)
event_view (GoPass f xs) = go (go_pass (callee_view f) (map sent_view xs.items))
event_view (GoLiteral at) = go (go_literal at)
event_view (Return handed) = return_event (map handed_view handed.items)

abbrev pub events_view : Option KeptEvent → List Event
events_view None = []
events_view (Some e) = event_view e ∷ []
