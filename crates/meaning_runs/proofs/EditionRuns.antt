-- A run of each example of the second edition, to a return.
use Rattle.std.proofs.Common.{◌≡◌, List, [], ◌∷◌, refl, ap, ◌∙◌, arith}
use Rattle.tree.specs.declared.operator.BinaryOperator.{BinaryOperator}
use Rattle.tree.specs.declared.operator.BinaryOperator.TheVariants.{Equal, NotEqual}
use Rattle.tree.specs.Syntax.{Function}
use Rattle.meaning.specs.Code.{Code, skip, does, then_code, either}
use Rattle.meaning.specs.Mentions.{opens}
use Rattle.meaning.specs.Uses.{Seen, Event, other, call, return_event}
use Rattle.meaning.specs.BodyEvents.{seen_file}
use Rattle.meaning.specs.Kept.{gifts}
use Rattle.meaning_reports.specs.Loaded.{known_in}
use Rattle.meaning_runs.specs.Bodies.{Body, IsOf, IsOutermost, code_of}
use Rattle.meaning_runs.specs.World.{in_cell}
use Rattle.meaning_runs.specs.Moves.{happens, first_moves, first_is_done, picks_first, picks_second}
use Rattle.meaning_runs.specs.Steps.{moves_on, does_other, calls_one, comes_to_return}
use Rattle.meaning_runs.specs.Examples.{file_with}
use Rattle.meaning_runs.specs.Returns.{HasQuietReturn, HasLoudReturn}
use Rattle.meaning_runs.specs.EditionReturns.{second_of, second_with, guarding, EditionReturnsExist}
use Rattle.meaning_runs.proofs.ExampleBodies.{seeing, place_of, event_at, one}
use Rattle.meaning_runs.proofs.ExampleRuns.{act, goes, next_at, quiet_of}
use Rattle.meaning_runs.proofs.LoudBodies.{code_with, calling_at}
use Rattle.meaning_runs.proofs.LoudRuns.{Stands, obtained_one, loud_of}
use Rattle.meaning_runs.proofs.Places.{called_now}

abbrev seen_second : List Function → Seen
seen_second fs = seen_file (known_in (second_with fs).packages (second_with fs).tables (second_of fs) 0) (file_with fs)

abbrev body_second : BinaryOperator → Body
body_second op = record {
  home = 0;
  file = seen_second (guarding op ∷ []);
  place = place_of (guarding op);
}

is_of : IsOf (second_with (guarding NotEqual ∷ [])) (body_second NotEqual)
unfolding seeing gifts
is_of = record {
  loaded = second_of (guarding NotEqual ∷ []);
  is_package = refl;
  is_run = refl;
  is_file = (0, omega arith, refl);
  is_body = (0, omega arith, refl);
}

is_outermost : IsOutermost (body_second NotEqual)
unfolding seeing gifts
is_outermost = record {
  mark = record { mark = opens (place_of (guarding NotEqual)); bodies = place_of (guarding NotEqual) ∷ [] };
  is_of_file = (0, omega arith, refl);
  opens_it = refl;
  stands_in_none = refl;
}

is_of_nil : IsOf (second_with (guarding Equal ∷ [])) (body_second Equal)
unfolding seeing gifts
is_of_nil = record {
  loaded = second_of (guarding Equal ∷ []);
  is_package = refl;
  is_run = refl;
  is_file = (0, omega arith, refl);
  is_body = (0, omega arith, refl);
}

is_outermost_nil : IsOutermost (body_second Equal)
unfolding seeing gifts
is_outermost_nil = record {
  mark = record { mark = opens (place_of (guarding Equal)); bodies = place_of (guarding Equal) ∷ [] };
  is_of_file = (0, omega arith, refl);
  opens_it = refl;
  stands_in_none = refl;
}

-- a test, and what stands on its two ways
abbrev tested : Code Event → Code Event → Code Event
tested c d = then_code (then_code skip (then_code (one (event_at 94 other)) (either c d))) skip

abbrev after_call : Code Event
after_call = then_code (one (event_at 111 (call 61))) (calling_at 115)

guarding_is : code_of (body_second NotEqual) ≡ code_with (tested (calling_at 115) (calling_at 125)) 127
unfolding seeing gifts
guarding_is = refl

guarding_nil_is : code_of (body_second Equal) ≡ code_with (tested after_call skip) 127
unfolding seeing gifts
guarding_nil_is = refl

quiet_by_guard : HasQuietReturn (second_with (guarding NotEqual ∷ []))
quiet_by_guard = from_there (obtained_one _ _ _ _ is_of is_outermost guarding_is)
  where
    from_there : Stands (second_with (guarding NotEqual ∷ [])) (body_second NotEqual) (then_code (tested (calling_at 115) (calling_at 125)) (does (event_at 127 (return_event [])))) → HasQuietReturn (second_with (guarding NotEqual ∷ []))
    from_there h =
        let r1 = act _ h.world _ _ _ _ h.run h.is_running (moves_on (goes _ _ _ _ refl (first_moves (first_moves first_is_done)))) in
        let r2 = act _ _ _ _ _ _ r1 refl (does_other (next_at _ 94 other _ _ refl (first_moves (first_moves (first_moves (first_moves happens)))) refl)) in
        let r3 = act _ _ _ _ _ _ r2 refl (moves_on (goes _ _ _ _ refl (first_moves (first_moves (first_moves first_is_done))))) in
        let r4 = act _ _ _ _ _ _ r3 refl (moves_on (goes _ _ _ _ refl (first_moves (first_moves first_is_done)))) in
        let r5 = act _ _ _ _ _ _ r4 refl (moves_on (goes _ _ _ _ refl (first_moves (first_moves picks_first)))) in
        let r6 = act _ _ _ _ _ _ r5 refl (calls_one {v = 61} (next_at _ 115 (call 61) _ _ refl (first_moves (first_moves (first_moves (first_moves happens)))) refl)) in
        let r7 = act _ _ _ _ _ _ r6 refl (moves_on (goes _ _ _ _ refl (first_moves (first_moves (first_moves first_is_done))))) in
        let r8 = act _ _ _ _ _ _ r7 refl (moves_on (goes _ _ _ _ refl (first_moves (first_moves first_is_done)))) in
        let r9 = act _ _ _ _ _ _ r8 refl (moves_on (goes _ _ _ _ refl (first_moves first_is_done))) in
        let r10 = act _ _ _ _ _ _ r9 refl (moves_on (goes _ _ _ _ refl first_is_done)) in
        let r11 = act _ _ _ _ _ _ r10 refl (comes_to_return (next_at _ 127 (return_event []) _ _ refl happens refl)) in
        quiet_of _ _ _ r11 refl record { stage = refl; saved = refl } refl refl refl refl refl (called_now h.world.store _ 0 (ap (in_cell h.world.store 61) h.has_cell ∙ h.holds_it))

loud_by_guard : HasLoudReturn (second_with (guarding Equal ∷ []))
loud_by_guard = from_there (obtained_one _ _ _ _ is_of_nil is_outermost_nil guarding_nil_is)
  where
    from_there : Stands (second_with (guarding Equal ∷ [])) (body_second Equal) (then_code (tested after_call skip) (does (event_at 127 (return_event [])))) → HasLoudReturn (second_with (guarding Equal ∷ []))
    from_there h =
        let r1 = act _ h.world _ _ _ _ h.run h.is_running (moves_on (goes _ _ _ _ refl (first_moves (first_moves first_is_done)))) in
        let r2 = act _ _ _ _ _ _ r1 refl (does_other (next_at _ 94 other _ _ refl (first_moves (first_moves (first_moves (first_moves happens)))) refl)) in
        let r3 = act _ _ _ _ _ _ r2 refl (moves_on (goes _ _ _ _ refl (first_moves (first_moves (first_moves first_is_done))))) in
        let r4 = act _ _ _ _ _ _ r3 refl (moves_on (goes _ _ _ _ refl (first_moves (first_moves first_is_done)))) in
        let r5 = act _ _ _ _ _ _ r4 refl (moves_on (goes _ _ _ _ refl (first_moves (first_moves picks_second)))) in
        let r6 = act _ _ _ _ _ _ r5 refl (moves_on (goes _ _ _ _ refl (first_moves first_is_done))) in
        let r7 = act _ _ _ _ _ _ r6 refl (moves_on (goes _ _ _ _ refl first_is_done)) in
        let r8 = act _ _ _ _ _ _ r7 refl (comes_to_return (next_at _ 127 (return_event []) _ _ refl happens refl)) in
        loud_of _ _ _ r8 refl record { stage = refl; saved = refl } refl refl refl refl h.none_called

pub edition_returns_exist : EditionReturnsExist
edition_returns_exist = record { guarding_is_quiet = quiet_by_guard; guarding_nil_is_loud = loud_by_guard }
