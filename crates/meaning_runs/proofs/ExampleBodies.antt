-- The bodies of the examples, and the code that they go through.
use Rattle.std.proofs.Common.{◌≡◌, ℕ, true, false, List, [], ◌∷◌, Some, None, Option, refl, arith}
use Rattle.std.specs.Prelude.{codes}
use Rattle.tree.specs.Syntax.{no_parameter, signature_of, expression_statement, no_statement, statement_and, Block, Function}
use Rattle.meaning.specs.Code.{Occurrence, Code, skip, does, then_code}
use Rattle.meaning.specs.Mentions.{BodyPlace, opens, deferred_call, literal_body, function_body, expression_marks, form_marks, expressions_marks, optional_marks, arguments_marks, items_marks, lefts_marks, names_type_marks, signature_marks, parameters_marks, fields_marks, statement_marks, statement_form_marks, statements_marks, optional_statement_marks, cases_marks, communications_marks, declaration_marks, specs_marks, ranged_marks}
use Rattle.meaning.specs.Scopes.{expression_names, expression_form_names, expressions_names, optional_names, signature_names, parameters_names, fields_names, statement_names, statement_form_names, statements_names, optional_statement_names, cases_names, communications_names, declaration_names, specs_names}
use Rattle.meaning.specs.Declarations.{first_locals, innermost}
use Rattle.meaning.specs.Jumps.{statement_parts, form_parts, parts_of, optional_parts, cases_parts, communications_parts}
use Rattle.meaning.specs.StatementCode.{statement_code, form_code, optional_code, statements_code, cases_code, communications_code}
use Rattle.meaning.specs.Tracked.{placed, locals_of}
use Rattle.meaning.specs.Uses.{Seen, Event, other, obtain, call, defer_call, pass, defer_literal, return_event}
use Rattle.meaning.specs.BodyEvents.{seen_file}
use Rattle.meaning_reports.specs.Loaded.{known_in}
use Rattle.meaning_runs.specs.Bodies.{Body, IsOf, IsOutermost, IsLiteralIn, IsFunction, is_parameter_of, is_captured_by, code_of}
use Rattle.meaning_runs.specs.Examples.{from_to, doing, call_at, file_with, loaded_with, program_with, saving, forgetting, passing, taking, deferring, overwriting}

-- names, marks and code are seen through
unfoldable pub seeing : Unit {0}
unfolding expression_marks form_marks expressions_marks optional_marks arguments_marks items_marks lefts_marks ranged_marks
    names_type_marks signature_marks parameters_marks fields_marks statement_marks statement_form_marks
    statements_marks optional_statement_marks cases_marks communications_marks declaration_marks specs_marks
    expression_names expression_form_names expressions_names optional_names signature_names parameters_names
    fields_names statement_names statement_form_names statements_names optional_statement_names cases_names
    communications_names declaration_names specs_names first_locals innermost statement_code form_code
    optional_code statements_code cases_code communications_code statement_parts form_parts parts_of optional_parts
    cases_parts communications_parts placed locals_of
seeing = tt

abbrev pub file_seen : List Function → Seen
file_seen fs = seen_file (known_in (program_with fs).packages (program_with fs).tables (loaded_with fs) 0) (file_with fs)

-- a body of the one file
abbrev pub body_in : List Function → BodyPlace → Body
body_in fs place = record { home = 0; file = file_seen fs; place = place }

abbrev block_or : Option Block → Block
block_or None = record { statements = no_statement; braces = from_to 0 0 }
block_or (Some b) = b

abbrev pub place_of : Function → BodyPlace
place_of f = function_body f (block_or f.body)

abbrev pub event_at : ℕ → Event → Occurrence Event
event_at at e = record { at = at; order = 0; event = e }

abbrev pub one : Occurrence Event → Code Event
one o = then_code (does o) skip

-- what `context.WithCancel` binds
abbrev pub obtains : Event
obtains =
    obtain record { number = 61; at = 61 } record { path = Some (codes "context"); name = codes "WithCancel" } 1 true

-- a body that obtains, and then has one more event
abbrev pub code_then : ℕ → Event → ℕ → Code Event
code_then at e end =
    then_code (does (event_at 55 other))
    (then_code
    (then_code (one (event_at 58 obtains)) (then_code (one (event_at at e)) skip))
    (does (event_at end (return_event []))))

-- a body that begins at an offset and calls a variable
abbrev pub code_calling : ℕ → ℕ → ℕ → ℕ → Code Event
code_calling start at v end =
    then_code (does (event_at start other))
    (then_code (then_code (one (event_at at (call v))) skip) (does (event_at end (return_event []))))

abbrev pub forgetting_code : Code Event
forgetting_code =
    then_code (does (event_at 55 other))
    (then_code (then_code (one (event_at 58 obtains)) skip) (does (event_at 93 (return_event []))))

abbrev pub passed : Event
passed = pass record { number = 61; at = 96 } record { path = None; name = codes "g" } 0

pub saving_is_of : IsOf (program_with (saving ∷ [])) (body_in (saving ∷ []) (place_of saving))
unfolding seeing
saving_is_of = record {
  loaded = loaded_with (saving ∷ []);
  is_package = refl;
  is_run = refl;
  is_file = (0, omega arith, refl);
  is_body = (0, omega arith, refl);
}

pub saving_is_outermost : IsOutermost (body_in (saving ∷ []) (place_of saving))
unfolding seeing
saving_is_outermost = record {
  mark = record { mark = opens (place_of saving); bodies = place_of saving ∷ [] };
  is_of_file = (0, omega arith, refl);
  opens_it = refl;
  stands_in_none = refl;
}

pub saving_is : code_of (body_in (saving ∷ []) (place_of saving)) ≡ code_then 94 (defer_call 61) 109
unfolding seeing
saving_is = refl

pub forgetting_is_of : IsOf (program_with (forgetting ∷ [])) (body_in (forgetting ∷ []) (place_of forgetting))
unfolding seeing
forgetting_is_of = record {
  loaded = loaded_with (forgetting ∷ []);
  is_package = refl;
  is_run = refl;
  is_file = (0, omega arith, refl);
  is_body = (0, omega arith, refl);
}

pub forgetting_is_outermost : IsOutermost (body_in (forgetting ∷ []) (place_of forgetting))
unfolding seeing
forgetting_is_outermost = record {
  mark = record { mark = opens (place_of forgetting); bodies = place_of forgetting ∷ [] };
  is_of_file = (0, omega arith, refl);
  opens_it = refl;
  stands_in_none = refl;
}

pub forgetting_is : code_of (body_in (forgetting ∷ []) (place_of forgetting)) ≡ forgetting_code
unfolding seeing
forgetting_is = refl

pub passing_is_of : IsOf (program_with (passing ∷ taking ∷ [])) (body_in (passing ∷ taking ∷ []) (place_of passing))
unfolding seeing
passing_is_of = record {
  loaded = loaded_with (passing ∷ taking ∷ []);
  is_package = refl;
  is_run = refl;
  is_file = (0, omega arith, refl);
  is_body = (0, omega arith, refl);
}

pub passing_is_outermost : IsOutermost (body_in (passing ∷ taking ∷ []) (place_of passing))
unfolding seeing
passing_is_outermost = record {
  mark = record { mark = opens (place_of passing); bodies = place_of passing ∷ [] };
  is_of_file = (0, omega arith, refl);
  opens_it = refl;
  stands_in_none = refl;
}

pub passing_is : code_of (body_in (passing ∷ taking ∷ []) (place_of passing)) ≡ code_then 94 passed 104
unfolding seeing
passing_is = refl

pub deferring_is_of : IsOf (program_with (deferring ∷ [])) (body_in (deferring ∷ []) (place_of deferring))
unfolding seeing
deferring_is_of = record {
  loaded = loaded_with (deferring ∷ []);
  is_package = refl;
  is_run = refl;
  is_file = (0, omega arith, refl);
  is_body = (0, omega arith, refl);
}

pub deferring_is_outermost : IsOutermost (body_in (deferring ∷ []) (place_of deferring))
unfolding seeing
deferring_is_outermost = record {
  mark = record { mark = opens (place_of deferring); bodies = place_of deferring ∷ [] };
  is_of_file = (0, omega arith, refl);
  opens_it = refl;
  stands_in_none = refl;
}

pub deferring_is : code_of (body_in (deferring ∷ []) (place_of deferring)) ≡ code_then 94 (defer_literal 100) 122
unfolding seeing
deferring_is = refl

-- the function that takes it
abbrev pub both : List Function
both = passing ∷ taking ∷ []

pub taking_is_function : IsFunction (program_with both) (body_in both (place_of passing)) record { path = None; name = codes "g" } (body_in both (place_of taking))
unfolding seeing
taking_is_function = record {
  is_of = record {
    loaded = loaded_with both;
    is_package = refl;
    is_run = refl;
    is_file = (0, omega arith, refl);
    is_body = (1, omega arith, refl);
  };
  is_of_package = refl;
  has_name = refl;
}

pub taking_is : code_of (body_in both (place_of taking)) ≡ code_calling 136 139 114 143
unfolding seeing
taking_is = refl

pub has_parameter : is_parameter_of (body_in both (place_of taking)) 114 ≡ true
unfolding seeing
has_parameter = refl

-- the literal
abbrev pub literal : BodyPlace
literal =
    literal_body deferred_call 100 (signature_of no_parameter no_parameter false)
    (statement_and (doing 109 117 (expression_statement (call_at 109))) no_statement)
    (from_to 107 119)

pub literal_is_in : IsLiteralIn (body_in (deferring ∷ []) (place_of deferring)) (body_in (deferring ∷ []) literal)
unfolding seeing
literal_is_in = record {
  mark = record { mark = opens literal; bodies = literal ∷ place_of deferring ∷ [] };
  is_of_file = (6, omega arith, refl);
  opens_it = refl;
  stands_in_it = refl;
  same_file = refl;
  same_home = refl;
}

pub literal_is : code_of (body_in (deferring ∷ []) literal) ≡ code_calling 107 109 61 118
unfolding seeing
literal_is = refl

pub has_no_parameter : is_parameter_of (body_in (deferring ∷ []) literal) 61 ≡ false
unfolding seeing
has_no_parameter = refl

pub captures_it : is_captured_by (body_in (deferring ∷ []) literal) 61 ≡ true
unfolding seeing
captures_it = refl

-- what the assignment binds
abbrev pub assigns : Event
assigns =
    obtain record { number = 61; at = 97 } record { path = Some (codes "context"); name = codes "WithCancel" } 1 false

abbrev pub overwriting_code : Code Event
overwriting_code =
    then_code (does (event_at 55 other))
    (then_code
    (then_code (one (event_at 58 obtains))
    (then_code (one (event_at 94 assigns)) (then_code (one (event_at 129 (call 61))) skip)))
    (does (event_at 138 (return_event []))))

pub overwriting_is_of : IsOf (program_with (overwriting ∷ [])) (body_in (overwriting ∷ []) (place_of overwriting))
unfolding seeing
overwriting_is_of = record {
  loaded = loaded_with (overwriting ∷ []);
  is_package = refl;
  is_run = refl;
  is_file = (0, omega arith, refl);
  is_body = (0, omega arith, refl);
}

pub overwriting_is_outermost : IsOutermost (body_in (overwriting ∷ []) (place_of overwriting))
unfolding seeing
overwriting_is_outermost = record {
  mark = record { mark = opens (place_of overwriting); bodies = place_of overwriting ∷ [] };
  is_of_file = (0, omega arith, refl);
  opens_it = refl;
  stands_in_none = refl;
}

pub overwriting_is : code_of (body_in (overwriting ∷ []) (place_of overwriting)) ≡ overwriting_code
unfolding seeing
overwriting_is = refl
