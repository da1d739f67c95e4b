-- The bodies of the examples that lose a cancel function, and the code that they go through.
use Rattle.std.proofs.Common.{◌≡◌, ℕ, false, List, [], ◌∷◌, None, refl, arith}
use Rattle.std.specs.Prelude.{codes}
use Rattle.tree.specs.Syntax.{no_parameter, signature_of, expression_statement, if_statement, no_statement, statement_and, missing_statement, Function}
use Rattle.meaning.specs.Code.{Code, returning, skip, does, leave, then_code, either}
use Rattle.meaning.specs.Mentions.{BodyPlace, opens, deferred_call, literal_body}
use Rattle.meaning.specs.Uses.{Event, other, call, defer_pass, defer_literal, return_event}
use Rattle.meaning_runs.specs.Bodies.{IsOf, IsOutermost, IsLiteralIn, IsFunction, code_of}
use Rattle.meaning_runs.specs.Examples.{from_to, doing, call_at, loaded_with, program_with, passing}
use Rattle.meaning_runs.specs.LoudReturns.{test_at, ignoring, ignoring_at, deferring_pass, deferring_nothing, deferring_branch, using, branching, returning_early}
use Rattle.meaning_runs.proofs.ExampleBodies.{seeing, body_in, place_of, event_at, one, obtains, passed, code_then}

-- a body that obtains, and then goes through this
abbrev pub code_with : Code Event → ℕ → Code Event
code_with rest end =
    then_code (does (event_at 55 other))
    (then_code (then_code (one (event_at 58 obtains)) rest) (does (event_at end (return_event []))))

-- a body that begins at an offset, goes through this and falls off its end
abbrev pub code_around : ℕ → Code Event → ℕ → Code Event
code_around start c end =
    then_code (does (event_at start other)) (then_code c (does (event_at end (return_event []))))

-- the test of a branch
abbrev pub branch_at : ℕ → Code Event → Code Event
branch_at at c = then_code skip (then_code (one (event_at at other)) (either c skip))

-- a call of the variable, as a statement that stands alone
abbrev pub calling_at : ℕ → Code Event
calling_at at = then_code (one (event_at at (call 61))) skip

abbrev pub both : List Function
both = passing ∷ ignoring ∷ []

pub passing_is_of : IsOf (program_with (both)) (body_in (both) (place_of passing))
unfolding seeing
passing_is_of = record {
  loaded = loaded_with (both);
  is_package = refl;
  is_run = refl;
  is_file = (0, omega arith, refl);
  is_body = (0, omega arith, refl);
}

pub passing_is_outermost : IsOutermost (body_in (both) (place_of passing))
unfolding seeing
passing_is_outermost = record {
  mark = record { mark = opens (place_of passing); bodies = place_of passing ∷ [] };
  is_of_file = (0, omega arith, refl);
  opens_it = refl;
  stands_in_none = refl;
}

pub passing_is : code_of (body_in (both) (place_of passing)) ≡ code_then 94 passed 104
unfolding seeing
passing_is = refl

pub ignoring_is_function : IsFunction (program_with both) (body_in both (place_of passing)) record { path = None; name = codes "g" } (body_in both (place_of ignoring))
unfolding seeing
ignoring_is_function = record {
  is_of = record {
    loaded = loaded_with both;
    is_package = refl;
    is_run = refl;
    is_file = (0, omega arith, refl);
    is_body = (1, omega arith, refl);
  };
  is_of_package = refl;
  has_name = refl;
}

pub ignoring_is : code_of (body_in both (place_of ignoring)) ≡ code_around 136 skip 138
unfolding seeing
ignoring_is = refl

pub using_is_of : IsOf (program_with (using ∷ [])) (body_in (using ∷ []) (place_of using))
unfolding seeing
using_is_of = record {
  loaded = loaded_with (using ∷ []);
  is_package = refl;
  is_run = refl;
  is_file = (0, omega arith, refl);
  is_body = (0, omega arith, refl);
}

pub using_is_outermost : IsOutermost (body_in (using ∷ []) (place_of using))
unfolding seeing
using_is_outermost = record {
  mark = record { mark = opens (place_of using); bodies = place_of using ∷ [] };
  is_of_file = (0, omega arith, refl);
  opens_it = refl;
  stands_in_none = refl;
}

pub using_is : code_of (body_in (using ∷ []) (place_of using)) ≡ code_with (then_code (one (event_at 94 other)) skip) 105
unfolding seeing
using_is = refl

pub branching_is_of : IsOf (program_with (branching ∷ [])) (body_in (branching ∷ []) (place_of branching))
unfolding seeing
branching_is_of = record {
  loaded = loaded_with (branching ∷ []);
  is_package = refl;
  is_run = refl;
  is_file = (0, omega arith, refl);
  is_body = (0, omega arith, refl);
}

pub branching_is_outermost : IsOutermost (body_in (branching ∷ []) (place_of branching))
unfolding seeing
branching_is_outermost = record {
  mark = record { mark = opens (place_of branching); bodies = place_of branching ∷ [] };
  is_of_file = (0, omega arith, refl);
  opens_it = refl;
  stands_in_none = refl;
}

pub branching_is : code_of (body_in (branching ∷ []) (place_of branching)) ≡ code_with (then_code (branch_at 94 (calling_at 110)) skip) 122
unfolding seeing
branching_is = refl

pub returning_early_is_of : IsOf (program_with (returning_early ∷ [])) (body_in (returning_early ∷ []) (place_of returning_early))
unfolding seeing
returning_early_is_of = record {
  loaded = loaded_with (returning_early ∷ []);
  is_package = refl;
  is_run = refl;
  is_file = (0, omega arith, refl);
  is_body = (0, omega arith, refl);
}

pub returning_early_is_outermost : IsOutermost (body_in (returning_early ∷ []) (place_of returning_early))
unfolding seeing
returning_early_is_outermost = record {
  mark = record { mark = opens (place_of returning_early); bodies = place_of returning_early ∷ [] };
  is_of_file = (0, omega arith, refl);
  opens_it = refl;
  stands_in_none = refl;
}

pub returning_early_is : code_of (body_in (returning_early ∷ []) (place_of returning_early)) ≡ code_with (then_code (branch_at 94 (then_code (then_code (one (event_at 110 (return_event []))) (leave returning)) skip)) (calling_at 121)) 130
unfolding seeing
returning_early_is = refl

pub deferring_nothing_is_of : IsOf (program_with (deferring_nothing ∷ [])) (body_in (deferring_nothing ∷ []) (place_of deferring_nothing))
unfolding seeing
deferring_nothing_is_of = record {
  loaded = loaded_with (deferring_nothing ∷ []);
  is_package = refl;
  is_run = refl;
  is_file = (0, omega arith, refl);
  is_body = (0, omega arith, refl);
}

pub deferring_nothing_is_outermost : IsOutermost (body_in (deferring_nothing ∷ []) (place_of deferring_nothing))
unfolding seeing
deferring_nothing_is_outermost = record {
  mark = record { mark = opens (place_of deferring_nothing); bodies = place_of deferring_nothing ∷ [] };
  is_of_file = (0, omega arith, refl);
  opens_it = refl;
  stands_in_none = refl;
}

pub deferring_nothing_is : code_of (body_in (deferring_nothing ∷ []) (place_of deferring_nothing)) ≡ code_then 94 (defer_literal 100) 112
unfolding seeing
deferring_nothing_is = refl

pub deferring_branch_is_of : IsOf (program_with (deferring_branch ∷ [])) (body_in (deferring_branch ∷ []) (place_of deferring_branch))
unfolding seeing
deferring_branch_is_of = record {
  loaded = loaded_with (deferring_branch ∷ []);
  is_package = refl;
  is_run = refl;
  is_file = (0, omega arith, refl);
  is_body = (0, omega arith, refl);
}

pub deferring_branch_is_outermost : IsOutermost (body_in (deferring_branch ∷ []) (place_of deferring_branch))
unfolding seeing
deferring_branch_is_outermost = record {
  mark = record { mark = opens (place_of deferring_branch); bodies = place_of deferring_branch ∷ [] };
  is_of_file = (0, omega arith, refl);
  opens_it = refl;
  stands_in_none = refl;
}

pub deferring_branch_is : code_of (body_in (deferring_branch ∷ []) (place_of deferring_branch)) ≡ code_then 94 (defer_literal 100) 138
unfolding seeing
deferring_branch_is = refl

abbrev pub empty_literal : BodyPlace
empty_literal =
    literal_body deferred_call 100 (signature_of no_parameter no_parameter false)
    no_statement
    (from_to 107 109)

pub empty_literal_is_in : IsLiteralIn (body_in (deferring_nothing ∷ []) (place_of deferring_nothing)) (body_in (deferring_nothing ∷ []) empty_literal)
unfolding seeing
empty_literal_is_in = record {
  mark = record { mark = opens empty_literal; bodies = empty_literal ∷ place_of deferring_nothing ∷ [] };
  is_of_file = (6, omega arith, refl);
  opens_it = refl;
  stands_in_it = refl;
  same_file = refl;
  same_home = refl;
}

pub empty_literal_is : code_of (body_in (deferring_nothing ∷ []) empty_literal) ≡ code_around 107 skip 108
unfolding seeing
empty_literal_is = refl

abbrev pub branching_literal : BodyPlace
branching_literal =
    literal_body deferred_call 100 (signature_of no_parameter no_parameter false)
    (statement_and (doing 109 133 (if_statement missing_statement false (test_at 112) (statement_and (doing 123 131 (expression_statement (call_at 123))) no_statement) (from_to 121 133) missing_statement)) no_statement)
    (from_to 107 135)

pub branching_literal_is_in : IsLiteralIn (body_in (deferring_branch ∷ []) (place_of deferring_branch)) (body_in (deferring_branch ∷ []) branching_literal)
unfolding seeing
branching_literal_is_in = record {
  mark = record { mark = opens branching_literal; bodies = branching_literal ∷ place_of deferring_branch ∷ [] };
  is_of_file = (6, omega arith, refl);
  opens_it = refl;
  stands_in_it = refl;
  same_file = refl;
  same_home = refl;
}

pub branching_literal_is : code_of (body_in (deferring_branch ∷ []) branching_literal) ≡ code_around 107 (then_code (branch_at 109 (calling_at 123)) skip) 134
unfolding seeing
branching_literal_is = refl

abbrev pub both_deferred : List Function
both_deferred = deferring_pass ∷ ignoring_at 113 ∷ []

abbrev pub passed_later : Event
passed_later = defer_pass record { number = 61; at = 102 } record { path = None; name = codes "g" } 0

pub deferring_pass_is_of : IsOf (program_with both_deferred) (body_in both_deferred (place_of deferring_pass))
unfolding seeing
deferring_pass_is_of = record {
  loaded = loaded_with both_deferred;
  is_package = refl;
  is_run = refl;
  is_file = (0, omega arith, refl);
  is_body = (0, omega arith, refl);
}

pub deferring_pass_is_outermost : IsOutermost (body_in both_deferred (place_of deferring_pass))
unfolding seeing
deferring_pass_is_outermost = record {
  mark = record { mark = opens (place_of deferring_pass); bodies = place_of deferring_pass ∷ [] };
  is_of_file = (0, omega arith, refl);
  opens_it = refl;
  stands_in_none = refl;
}

pub deferring_pass_is : code_of (body_in both_deferred (place_of deferring_pass)) ≡ code_then 94 passed_later 110
unfolding seeing
deferring_pass_is = refl

pub ignoring_later_is_function : IsFunction (program_with both_deferred) (body_in both_deferred (place_of deferring_pass)) record { path = None; name = codes "g" } (body_in both_deferred (place_of (ignoring_at 113)))
unfolding seeing
ignoring_later_is_function = record {
  is_of = record {
    loaded = loaded_with both_deferred;
    is_package = refl;
    is_run = refl;
    is_file = (0, omega arith, refl);
    is_body = (1, omega arith, refl);
  };
  is_of_package = refl;
  has_name = refl;
}

pub ignoring_later_is : code_of (body_in both_deferred (place_of (ignoring_at 113))) ≡ code_around 142 skip 144
unfolding seeing
ignoring_later_is = refl
