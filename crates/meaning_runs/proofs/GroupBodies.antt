-- The bodies of the examples with groups, and the code that they go through.
use Rattle.std.proofs.Common.{◌≡◌, ℕ, ◌+◌, true, false, List, [], ◌∷◌, Some, None, Option, Contains, refl, arith}
use Rattle.std.proofs.lemmas.Bool.{eq-eqb}
use Rattle.std.specs.Prelude.{codes}
use Rattle.tree.specs.Syntax.{no_parameter, signature_of, Statements, Function}
use Rattle.meaning.specs.Code.{Code, returning, skip, does, leave, then_code, either}
use Rattle.meaning.specs.Mentions.{BodyPlace, opens, started_by, literal_body}
use Rattle.meaning.specs.Tracked.{idle, live}
use Rattle.meaning.specs.Uses.{Seen, Event, Callee, other, obtain, call, defer_call, lend, start, try, wait, defer_wait, make, return_event}
use Rattle.meaning.specs.BodyEvents.{seen_file, bodies_of}
use Rattle.meaning.proofs.Membership.{contains_here}
use Rattle.meaning.specs.Kept.{gifts}
use Rattle.meaning_reports.specs.Loaded.{known_in}
use Rattle.meaning_runs.specs.Bodies.{Body, IsOf, IsOutermost, IsLiteralIn, Escapes, IsFunction, is_parameter_of, is_captured_by, code_of}
use Rattle.meaning_runs.specs.Examples.{from_to}
use Rattle.meaning_runs.specs.World.{Passing}
use Rattle.meaning_runs.specs.GroupExamples.{error_at, calling_block, starting_block, calling_at_once, file_with, loaded_of, program_of, program_with, awaiting, trying, joining, crossing, leaving_early, leaving_to_parameter, remaking, leaving_to_another, deferring_wait, forgetting_block, handing_over, lending_on, starting_there}
use Rattle.meaning_runs.proofs.ExampleBodies.{seeing, place_of, one, event_at}
use Rattle.meaning_runs.proofs.GivenValues.{given_groups}

abbrev pub file_of : List Function → Seen
file_of fs = seen_file (known_in (program_of fs).packages (program_of fs).tables (loaded_of fs) 0) (file_with fs)

-- a body of the one file
abbrev pub body_among : List Function → BodyPlace → Body
body_among fs place = record { home = 0; file = file_of fs; place = place }

abbrev pub body_of : Function → BodyPlace → Body
body_of f = body_among (f ∷ [])

-- that of the function
abbrev pub whole : Function → Body
whole f = body_of f (place_of f)

-- a literal that is started by `group.method`, at an offset: its length, and the statements in it
abbrev pub started_literal : List ℕ → List ℕ → ℕ → ℕ → ℕ → Statements → BodyPlace
started_literal group method from at end ss =
    literal_body (started_by record { name = group; at = from; selected = Some method }) at
    (signature_of no_parameter (error_at (at + 7)) false) ss
    (from_to (at + 13) end)

-- Of a tree that is seen through these are told by the place of a mark.

is_of_file : (fs : List Function) (f : Function) → Contains (bodies_of (file_of fs)) (place_of f) → IsOf (program_of fs) (body_among fs (place_of f))
is_of_file fs f among = record { loaded = loaded_of fs; is_package = refl; is_run = refl; is_file = contains_here (file_of fs) []; is_body = among }

is_whole : (f : Function) → Contains (bodies_of (file_of (f ∷ []))) (place_of f) → IsOf (program_with f) (whole f)
is_whole f = is_of_file (f ∷ []) f

is_outer_there : (fs : List Function) (f : Function) → Contains (file_of fs).marks record { mark = opens (place_of f); bodies = place_of f ∷ [] } → IsOutermost (body_among fs (place_of f))
is_outer_there fs f among = record { mark = _; is_of_file = among; opens_it = refl; stands_in_none = refl }

is_outer : (f : Function) → Contains (file_of (f ∷ [])).marks record { mark = opens (place_of f); bodies = place_of f ∷ [] } → IsOutermost (whole f)
is_outer f = is_outer_there (f ∷ []) f

is_in : (f : Function) (literal : BodyPlace) → Contains (file_of (f ∷ [])).marks record { mark = opens literal; bodies = literal ∷ place_of f ∷ [] } → IsLiteralIn (whole f) (body_of f literal)
is_in f literal among = record { mark = _; is_of_file = among; opens_it = refl; stands_in_it = eq-eqb f.span.start f.span.start refl; same_file = refl; same_home = refl }

-- two events of a site
abbrev pub two : ℕ → Event → Event → Code Event
two at e f =
    then_code (does record { at = at; order = 0; event = e })
    (then_code (does record { at = at; order = 1; event = f }) skip)

-- what leaves the body
abbrev pub returns_at : ℕ → Code Event
returns_at at = then_code (one (event_at at (return_event []))) (leave returning)

abbrev pub waits_at : ℕ → ℕ → Code Event
waits_at at v = then_code (two at (wait v) (return_event [])) (leave returning)

abbrev makes_at : ℕ → ℕ → Code Event
makes_at at v = one (event_at at (make record { number = v; at = v } idle))

-- `_, cancel := context.WithCancel(p)`
abbrev obtains_at : ℕ → Code Event
obtains_at at =
    one (event_at at (obtain record { number = at + 3; at = at + 3 } record { path = Some (codes "context"); name = codes "WithCancel" } 1 true))

abbrev starts_at : ℕ → ℕ → Option ℕ → Code Event
starts_at at v literal = one (event_at at (start v literal))

-- a body that goes through this between its braces
abbrev pub in_braces : ℕ → Code Event → ℕ → Code Event
in_braces first c end =
    then_code (does (event_at first other)) (then_code c (does (event_at end (return_event []))))

pub awaiting_is_of : IsOf (program_with awaiting) (whole awaiting)
unfolding seeing
awaiting_is_of = is_whole awaiting (0, omega arith, refl)

pub awaiting_is_outermost : IsOutermost (whole awaiting)
unfolding seeing
awaiting_is_outermost = is_outer awaiting (0, omega arith, refl)

pub awaiting_is : code_of (whole awaiting) ≡ in_braces 96 (then_code (makes_at 99 103) (then_code (obtains_at 121) (then_code (starts_at 157 103 (Some 162)) (then_code (waits_at 212 103) skip)))) 228
unfolding seeing gifts
awaiting_is = refl

abbrev pub awaited_literal : BodyPlace
awaited_literal = started_literal (codes "g") (codes "Go") 157 162 209 (calling_block 162)

pub awaited_literal_is_in : IsLiteralIn (whole awaiting) (body_of awaiting awaited_literal)
unfolding seeing gifts
awaited_literal_is_in = is_in awaiting awaited_literal (9, omega arith, refl)

pub awaited_literal_is : code_of (body_of awaiting awaited_literal) ≡ in_braces 175 (then_code (one (event_at 179 (defer_call 124))) (then_code (returns_at 196) skip)) 208
unfolding seeing gifts
awaited_literal_is = refl

pub awaited_literal_has_no_parameter : is_parameter_of (body_of awaiting awaited_literal) 124 ≡ false
unfolding seeing
awaited_literal_has_no_parameter = refl

pub awaited_literal_captures_it : is_captured_by (body_of awaiting awaited_literal) 124 ≡ true
unfolding seeing
awaited_literal_captures_it = refl

pub trying_is_of : IsOf (program_with trying) (whole trying)
unfolding seeing
trying_is_of = is_whole trying (0, omega arith, refl)

pub trying_is_outermost : IsOutermost (whole trying)
unfolding seeing
trying_is_outermost = is_outer trying (0, omega arith, refl)

pub trying_is : code_of (whole trying) ≡ in_braces 96 (then_code (makes_at 99 103) (then_code (obtains_at 121) (then_code (one (event_at 157 (try 103 (Some 165)))) (then_code (waits_at 215 103) skip)))) 231
unfolding seeing gifts
trying_is = refl

abbrev pub tried_literal : BodyPlace
tried_literal = started_literal (codes "g") (codes "TryGo") 157 165 212 (calling_block 165)

pub tried_literal_is_in : IsLiteralIn (whole trying) (body_of trying tried_literal)
unfolding seeing gifts
tried_literal_is_in = is_in trying tried_literal (9, omega arith, refl)

pub tried_literal_is : code_of (body_of trying tried_literal) ≡ in_braces 178 (then_code (one (event_at 182 (defer_call 124))) (then_code (returns_at 199) skip)) 211
unfolding seeing gifts
tried_literal_is = refl

pub tried_literal_has_no_parameter : is_parameter_of (body_of trying tried_literal) 124 ≡ false
unfolding seeing
tried_literal_has_no_parameter = refl

pub tried_literal_captures_it : is_captured_by (body_of trying tried_literal) 124 ≡ true
unfolding seeing
tried_literal_captures_it = refl

pub joining_is_of : IsOf (program_with joining) (whole joining)
unfolding seeing
joining_is_of = is_whole joining (0, omega arith, refl)

pub joining_is_outermost : IsOutermost (whole joining)
unfolding seeing
joining_is_outermost = is_outer joining (0, omega arith, refl)

pub joining_is : code_of (whole joining) ≡ in_braces 96 (then_code (makes_at 99 103) (then_code (obtains_at 121) (then_code (starts_at 157 103 (Some 162)) (then_code (starts_at 212 103 (Some 217)) (then_code (waits_at 264 103) skip))))) 280
unfolding seeing gifts
joining_is = refl

abbrev pub first_literal : BodyPlace
first_literal = started_literal (codes "g") (codes "Go") 157 162 209 (calling_block 162)

pub first_literal_is_in : IsLiteralIn (whole joining) (body_of joining first_literal)
unfolding seeing gifts
first_literal_is_in = is_in joining first_literal (9, omega arith, refl)

pub first_literal_is : code_of (body_of joining first_literal) ≡ in_braces 175 (then_code (one (event_at 179 (defer_call 124))) (then_code (returns_at 196) skip)) 208
unfolding seeing gifts
first_literal_is = refl

pub first_literal_has_no_parameter : is_parameter_of (body_of joining first_literal) 124 ≡ false
unfolding seeing
first_literal_has_no_parameter = refl

pub first_literal_captures_it : is_captured_by (body_of joining first_literal) 124 ≡ true
unfolding seeing
first_literal_captures_it = refl

abbrev pub second_literal : BodyPlace
second_literal = started_literal (codes "g") (codes "Go") 212 217 261 (starting_block 217)

pub second_literal_is_in : IsLiteralIn (whole joining) (body_of joining second_literal)
unfolding seeing gifts
second_literal_is_in = is_in joining second_literal (15, omega arith, refl)

pub second_literal_is : code_of (body_of joining second_literal) ≡ in_braces 230 (then_code (starts_at 234 103 None) (then_code (returns_at 248) skip)) 260
unfolding seeing gifts
second_literal_is = refl

pub second_literal_has_no_parameter : is_parameter_of (body_of joining second_literal) 103 ≡ false
unfolding seeing
second_literal_has_no_parameter = refl

pub second_literal_captures_it : is_captured_by (body_of joining second_literal) 103 ≡ true
unfolding seeing
second_literal_captures_it = refl

pub crossing_is_of : IsOf (program_with crossing) (whole crossing)
unfolding seeing
crossing_is_of = is_whole crossing (0, omega arith, refl)

pub crossing_is_outermost : IsOutermost (whole crossing)
unfolding seeing
crossing_is_outermost = is_outer crossing (0, omega arith, refl)

pub crossing_is : code_of (whole crossing) ≡ in_braces 96 (then_code (makes_at 99 103) (then_code (makes_at 121 125) (then_code (starts_at 143 125 (Some 148)) (then_code (then_code (one (event_at 198 (wait 125))) (then_code (one (event_at 195 other)) (either (then_code (returns_at 230) skip) skip))) (then_code (waits_at 245 103) skip))))) 261
unfolding seeing gifts
crossing_is = refl

abbrev pub crossing_literal : BodyPlace
crossing_literal = started_literal (codes "h") (codes "Go") 143 148 192 (starting_block 148)

pub crossing_literal_is_in : IsLiteralIn (whole crossing) (body_of crossing crossing_literal)
unfolding seeing gifts
crossing_literal_is_in = is_in crossing crossing_literal (7, omega arith, refl)

pub crossing_literal_is : code_of (body_of crossing crossing_literal) ≡ in_braces 161 (then_code (one (event_at 165 other)) (then_code (returns_at 179) skip)) 191
unfolding seeing gifts
crossing_literal_is = refl

pub leaving_early_is_of : IsOf (program_with leaving_early) (whole leaving_early)
unfolding seeing
leaving_early_is_of = is_whole leaving_early (0, omega arith, refl)

pub leaving_early_is_outermost : IsOutermost (whole leaving_early)
unfolding seeing
leaving_early_is_outermost = is_outer leaving_early (0, omega arith, refl)

pub leaving_early_is : code_of (whole leaving_early) ≡ in_braces 96 (then_code (one (event_at 99 (make record { number = 99; at = 99 } live))) (then_code (then_code skip (then_code (one (event_at 132 other)) (either (then_code (returns_at 148) skip) skip))) (then_code (starts_at 163 99 None) (then_code (waits_at 176 99) skip)))) 192
unfolding seeing gifts
leaving_early_is = refl

pub leaving_to_parameter_is_of : IsOf (program_with leaving_to_parameter) (whole leaving_to_parameter)
unfolding seeing
leaving_to_parameter_is_of = is_whole leaving_to_parameter (0, omega arith, refl)

pub leaving_to_parameter_is_outermost : IsOutermost (whole leaving_to_parameter)
unfolding seeing
leaving_to_parameter_is_outermost = is_outer leaving_to_parameter (0, omega arith, refl)

pub leaving_to_parameter_is : code_of (whole leaving_to_parameter) ≡ in_braces 109 (then_code (obtains_at 112) (then_code (starts_at 148 90 (Some 153)) skip)) 196
unfolding seeing
leaving_to_parameter_is = refl

abbrev pub left_literal : BodyPlace
left_literal = started_literal (codes "g") (codes "Go") 148 153 194 calling_at_once

pub left_literal_is_in : IsLiteralIn (whole leaving_to_parameter) (body_of leaving_to_parameter left_literal)
unfolding seeing gifts
left_literal_is_in = is_in leaving_to_parameter left_literal (7, omega arith, refl)

pub left_literal_is : code_of (body_of leaving_to_parameter left_literal) ≡ in_braces 166 (then_code (one (event_at 170 (call 115))) (then_code (returns_at 181) skip)) 193
unfolding seeing gifts
left_literal_is = refl

pub left_literal_has_no_parameter : is_parameter_of (body_of leaving_to_parameter left_literal) 115 ≡ false
unfolding seeing
left_literal_has_no_parameter = refl

pub left_literal_captures_it : is_captured_by (body_of leaving_to_parameter left_literal) 115 ≡ true
unfolding seeing
left_literal_captures_it = refl

pub has_group_parameter : is_parameter_of (whole leaving_to_parameter) 90 ≡ true
unfolding seeing
has_group_parameter = refl

pub remaking_is_of : IsOf (program_with remaking) (whole remaking)
unfolding seeing
remaking_is_of = is_whole remaking (0, omega arith, refl)

pub remaking_is_outermost : IsOutermost (whole remaking)
unfolding seeing
remaking_is_outermost = is_outer remaking (0, omega arith, refl)

pub remaking_is : code_of (whole remaking) ≡ in_braces 90 (then_code (makes_at 93 93) (then_code (starts_at 119 93 None) (then_code (one (event_at 132 (make record { number = 93; at = 132 } idle))) skip))) 156
unfolding seeing
remaking_is = refl

pub leaving_to_another_is_of : IsOf (program_with leaving_to_another) (whole leaving_to_another)
unfolding seeing
leaving_to_another_is_of = is_whole leaving_to_another (0, omega arith, refl)

pub leaving_to_another_is_outermost : IsOutermost (whole leaving_to_another)
unfolding seeing
leaving_to_another_is_outermost = is_outer leaving_to_another (0, omega arith, refl)

pub leaving_to_another_is : code_of (whole leaving_to_another) ≡ in_braces 96 (then_code (makes_at 99 103) (then_code (makes_at 121 125) (then_code (obtains_at 143) (then_code (starts_at 179 125 (Some 184)) (then_code (waits_at 234 103) skip))))) 250
unfolding seeing gifts
leaving_to_another_is = refl

abbrev pub other_literal : BodyPlace
other_literal = started_literal (codes "h") (codes "Go") 179 184 231 (calling_block 184)

pub other_literal_is_in : IsLiteralIn (whole leaving_to_another) (body_of leaving_to_another other_literal)
unfolding seeing gifts
other_literal_is_in = is_in leaving_to_another other_literal (11, omega arith, refl)

pub other_literal_is : code_of (body_of leaving_to_another other_literal) ≡ in_braces 197 (then_code (one (event_at 201 (defer_call 146))) (then_code (returns_at 218) skip)) 230
unfolding seeing gifts
other_literal_is = refl

pub deferring_wait_is_of : IsOf (program_with deferring_wait) (whole deferring_wait)
unfolding seeing
deferring_wait_is_of = is_whole deferring_wait (0, omega arith, refl)

pub deferring_wait_is_outermost : IsOutermost (whole deferring_wait)
unfolding seeing
deferring_wait_is_outermost = is_outer deferring_wait (0, omega arith, refl)

pub deferring_wait_is : code_of (whole deferring_wait) ≡ in_braces 90 (then_code (makes_at 93 97) (then_code (one (event_at 115 (defer_wait 97))) (then_code (starts_at 131 97 None) skip))) 143
unfolding seeing
deferring_wait_is = refl

pub handing_over_is_of : IsOf (program_with handing_over) (whole handing_over)
unfolding seeing
handing_over_is_of = is_whole handing_over (0, omega arith, refl)

pub handing_over_is_outermost : IsOutermost (whole handing_over)
unfolding seeing
handing_over_is_outermost = is_outer handing_over (0, omega arith, refl)

pub handing_over_is : code_of (whole handing_over) ≡ in_braces 90 (then_code (one (event_at 93 other)) skip) 167
unfolding seeing
handing_over_is = refl

abbrev pub handed_literal : BodyPlace
handed_literal = started_literal (codes "w") (codes "Go") 93 98 165 forgetting_block

pub handed_literal_escapes : Escapes (whole handing_over) (body_of handing_over handed_literal)
unfolding seeing gifts
handed_literal_escapes = record {
  is_literal = is_in handing_over handed_literal (2, omega arith, refl);
  is_not_deferred = refl;
  is_not_started = refl;
}

pub handed_literal_is : code_of (body_of handing_over handed_literal) ≡ in_braces 111 (then_code (obtains_at 115) (then_code (returns_at 152) skip)) 164
unfolding seeing gifts
handed_literal_is = refl

-- the function that lends its group, and the one that gets it
abbrev pub lending : List Function
lending = lending_on ∷ starting_there ∷ []

abbrev pub lender : Body
lender = body_among lending (place_of lending_on)

abbrev pub helper : Body
helper = body_among lending (place_of starting_there)

abbrev pub named_helper : Callee
named_helper = record { path = None; name = codes "helper" }

pub lender_is_of : IsOf (program_of lending) lender
unfolding seeing
lender_is_of = is_of_file lending lending_on (0, omega arith, refl)

pub lender_is_outermost : IsOutermost lender
unfolding seeing
lender_is_outermost = is_outer_there lending lending_on (0, omega arith, refl)

pub lender_is : code_of lender ≡ in_braces 90 (then_code (makes_at 93 97) (then_code (one (event_at 115 (lend 97 named_helper 0))) skip)) 126
unfolding seeing
lender_is = refl

pub helper_is_function : IsFunction (program_of lending) lender named_helper helper
unfolding seeing
helper_is_function = record { is_of = is_of_file lending starting_there (1, omega arith, refl); is_of_package = refl; has_name = refl }

pub helper_is : code_of helper ≡ in_braces 160 (then_code (starts_at 163 141 None) skip) 175
unfolding seeing
helper_is = refl

pub helper_has_parameter : is_parameter_of helper 141 ≡ true
unfolding seeing
helper_has_parameter = refl

abbrev pub lends_one : Option ℕ → Passing
lends_one group = record { callee = named_helper; is_deferred = false; given = []; lent = record { position = 0; group = group } ∷ [] }

pub helper_gets_it : (group : Option ℕ) → given_groups helper (lends_one group) 141 ≡ group
unfolding seeing
helper_gets_it group = refl
