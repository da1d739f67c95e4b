-- A run of each example of fields, to a return.
use Rattle.std.proofs.Common.{◌≡◌, ◌⊎◌, inl, inr, true, List, [], ◌∷◌, Some, Contains, refl, sym, ap, subst, arith}
use Rattle.std.specs.Prelude.{codes}
use Rattle.tree.specs.Syntax.{Function}
use Rattle.meaning.proofs.Membership.{contains_here, contains_nil}
use Rattle.meaning.specs.Code.{Code, skip, leave, then_code, returning}
use Rattle.meaning.specs.KeptExamples.{file_of, obtaining}
use Rattle.meaning.specs.Kept.{gifts}
use Rattle.meaning.specs.Uses.{Seen, Callee, Handed, Event, obtain, obtain_kept, renew, keep, call_kept, defer_kept, give, give_field, return_event}
use Rattle.meaning.specs.BodyEvents.{bodies_of, seen_file}
use Rattle.meaning_packages.specs.CallsFlags.{is_function}
use Rattle.meaning_reports.specs.Loaded.{known_in}
use Rattle.meaning_runs.specs.Bodies.{Body, IsOf, IsOutermost, code_of}
use Rattle.meaning_runs.specs.World.{nothing, cancel_function, runs, Frame, World}
use Rattle.meaning_runs.specs.Steps.{IsAtEnd}
use Rattle.meaning_runs.specs.Runs.{Run, Owes}
use Rattle.meaning_runs.specs.Returns.{HasQuietReturn, HasLoudReturn}
use Rattle.meaning_runs.specs.FieldReturns.{package_of, program_of, keeping_alone, calling_field, deferring_field, giving_object, returning_object, obtaining_and_calling, giving_in_field, returning_early, HasFreeReturn, FieldReturnsExist}
use Rattle.meaning_runs.proofs.ExampleBodies.{seeing, place_of, event_at, one}
use Rattle.meaning_runs.proofs.ExampleRuns.{begins, only_one, quiet_of}
use Rattle.meaning_runs.proofs.ExampleSteps.{past_other, past_maker, past_maker_into, past_keep, past_renewal, past_kept_call, past_kept_deferral, past_gift, past_field_gift, past_handing, past_return, runs_its_call}
use Rattle.meaning_runs.proofs.GroupBodies.{two, in_braces}
use Rattle.meaning_runs.proofs.LoudRuns.{loud_of}
use Rattle.meaning_runs.proofs.NamedOutermost.{named_is_outermost}

-- Bodies

abbrev seen_in : Function → Seen
seen_in f = seen_file (known_in (program_of f).packages (program_of f).tables (package_of f) 0) (file_of f)

abbrev body_of : Function → Body
body_of f = record { home = 0; file = seen_in f; place = place_of f }

is_of_file : (f : Function) → Contains (bodies_of (seen_in f)) (place_of f) → IsOf (program_of f) (body_of f)
is_of_file f among = record {
  loaded = package_of f;
  is_package = refl;
  is_run = refl;
  is_file = contains_here (seen_in f) [];
  is_body = among;
}

-- another function stands before it
calling_is_of : IsOf (program_of calling_field) (body_of calling_field)
unfolding seeing gifts
calling_is_of = is_of_file calling_field (1, omega arith, refl)

deferring_is_of : IsOf (program_of deferring_field) (body_of deferring_field)
unfolding seeing gifts
deferring_is_of = is_of_file deferring_field (1, omega arith, refl)

obtaining_and_calling_is_of : IsOf (program_of obtaining_and_calling) (body_of obtaining_and_calling)
unfolding seeing gifts
obtaining_and_calling_is_of = is_of_file obtaining_and_calling (1, omega arith, refl)

keeping_is_of : IsOf (program_of keeping_alone) (body_of keeping_alone)
unfolding seeing gifts
keeping_is_of = is_of_file keeping_alone (1, omega arith, refl)

obtaining_is_of : IsOf (program_of obtaining) (body_of obtaining)
unfolding seeing gifts
obtaining_is_of = is_of_file obtaining (1, omega arith, refl)

returning_early_is_of : IsOf (program_of returning_early) (body_of returning_early)
unfolding seeing gifts
returning_early_is_of = is_of_file returning_early (1, omega arith, refl)

giving_is_of : IsOf (program_of giving_object) (body_of giving_object)
unfolding seeing gifts
giving_is_of = is_of_file giving_object (1, omega arith, refl)

returning_is_of : IsOf (program_of returning_object) (body_of returning_object)
unfolding seeing gifts
returning_is_of = is_of_file returning_object (1, omega arith, refl)

giving_in_field_is_of : IsOf (program_of giving_in_field) (body_of giving_in_field)
unfolding seeing gifts
giving_in_field_is_of = is_of_file giving_in_field (1, omega arith, refl)

-- Codes

abbrev maker : Callee
maker = record { path = Some (codes "context"); name = codes "WithCancel" }

-- `_, c := context.WithCancel(p)`
abbrev obtains_c : Code Event
obtains_c = one (event_at 140 (obtain record { number = 143; at = 143 } maker 1 true))

-- `t := &T{stop: c}`
abbrev keeps_c : Code Event
keeps_c = two 180 (renew 143 180) (keep 143 180)

-- `t := &T{}`, and the row that obtains into it
abbrev obtains_into_t : Code Event → Code Event
obtains_into_t rest =
    then_code (one (event_at 180 (renew 232 180)))
    (then_code (one (event_at 220 (obtain_kept record { number = 232; at = 232 } maker 1 180))) rest)

-- the two, and what is behind them
abbrev kept_then : Code Event → Code Event
kept_then c = in_braces 130 (then_code obtains_c (then_code keeps_c c)) 399

abbrev handed_t : List Handed
handed_t = record { number = 143; position = 0; object = Some 180 } ∷ []

calling_is : code_of (body_of calling_field) ≡ kept_then (then_code (one (event_at 220 (call_kept 143 180))) skip)
unfolding seeing gifts
calling_is = refl

deferring_is : code_of (body_of deferring_field) ≡ kept_then (then_code (one (event_at 220 (defer_kept 143 180))) skip)
unfolding seeing gifts
deferring_is = refl

obtaining_and_calling_is : code_of (body_of obtaining_and_calling)
    ≡ in_braces 130 (obtains_into_t (then_code (one (event_at 310 (call_kept 232 180))) skip)) 399
unfolding seeing gifts
obtaining_and_calling_is = refl

keeping_is : code_of (body_of keeping_alone) ≡ kept_then skip
unfolding seeing gifts
keeping_is = refl

obtaining_is : code_of (body_of obtaining) ≡ in_braces 130 (obtains_into_t skip) 399
unfolding seeing gifts
obtaining_is = refl

returning_early_is : code_of (body_of returning_early)
    ≡ in_braces 130 (then_code obtains_c (then_code (one (event_at 180 (renew 143 180)))
    (then_code (then_code (one (event_at 220 (return_event handed_t))) (leave returning))
    (then_code (one (event_at 260 (keep 143 180))) skip)))) 399
unfolding seeing gifts
returning_early_is = refl

giving_is : code_of (body_of giving_object) ≡ kept_then (then_code (one (event_at 220 (give 143 180))) skip)
unfolding seeing gifts
giving_is = refl

returning_is : code_of (body_of returning_object)
    ≡ kept_then (then_code (then_code (one (event_at 220 (return_event handed_t))) (leave returning)) skip)
unfolding seeing gifts
returning_is = refl

giving_in_field_is : code_of (body_of giving_in_field)
    ≡ in_braces 130 (then_code obtains_c (then_code (one (event_at 220 (give_field 143))) skip)) 399
unfolding seeing gifts
giving_in_field_is = refl

-- Runs

outermost : (f : Function) → IsOf (program_of f) (body_of f) → is_function (codes "f") (place_of f) ≡ true
    → IsOutermost (body_of f)
outermost f of is = named_is_outermost (program_of f) (body_of f) of (codes "f") is

-- others have the one function
free_of : (f : Function) (w : World) (g : Frame) → Run (program_of f) w → w.stacks 0 ≡ g ∷ [] → IsAtEnd g
    → g.body.home ≡ 0
    → g.obtained ≡ 0 ∷ []
    → Contains g.handed_on (cancel_function 0) ⊎ Contains g.given_away (cancel_function 0)
    → HasFreeReturn (program_of f)
free_of f w g run at end home obtained gone = (
  w,
  g,
  record {
    run = run;
    is_returning = record { goroutine = 0; others = []; is_running = at; is_at_end = end };
    is_of_package = home;
    obtained = 0;
    was_obtained = subst (λ l. Contains l 0) (sym obtained) (contains_here 0 []);
    owes_none = λ a o.
        let same = only_one 0 a (subst (λ l. Contains l a) obtained o.was_obtained) in
        elim gone [
          | inl h ↦ o.is_kept (subst (λ n. Contains g.handed_on (cancel_function n)) same h)
          | inr h ↦ o.is_its_own (subst (λ n. Contains g.given_away (cancel_function n)) same h)
        ];
  },
)

calling_is_quiet : HasQuietReturn (program_of calling_field)
calling_is_quiet =
    let r0 = begins (program_of calling_field) (body_of calling_field) calling_is_of (outermost calling_field calling_is_of refl) in
    let r1 = past_other 0 r0 refl (ap runs calling_is) refl true refl in
    let r2 = past_maker 0 r1 refl refl refl true refl in
    let r3 = past_renewal 0 r2 refl refl refl true refl in
    let r4 = past_keep 0 r3 refl refl refl true refl in
    let r5 = past_kept_call 0 r4 refl refl refl true refl in
    let r6 = past_return 0 r5 refl refl refl true refl in
    quiet_of _ _ _ r6 refl record { stage = refl; saved = refl } refl refl refl refl refl (contains_here 0 [])

deferring_is_quiet : HasQuietReturn (program_of deferring_field)
deferring_is_quiet =
    let r0 = begins (program_of deferring_field) (body_of deferring_field) deferring_is_of (outermost deferring_field deferring_is_of refl) in
    let r1 = past_other 0 r0 refl (ap runs deferring_is) refl true refl in
    let r2 = past_maker 0 r1 refl refl refl true refl in
    let r3 = past_renewal 0 r2 refl refl refl true refl in
    let r4 = past_keep 0 r3 refl refl refl true refl in
    let r5 = past_kept_deferral 0 r4 refl refl refl true refl in
    let r6 = past_return 0 r5 refl refl refl true refl in
    let r7 = runs_its_call 0 r6 (cancel_function 0) refl refl refl in
    quiet_of _ _ _ r7 refl record { stage = refl; saved = refl } refl refl refl refl refl (contains_here 0 [])

obtaining_is_quiet : HasQuietReturn (program_of obtaining_and_calling)
obtaining_is_quiet =
    let r0 = begins (program_of obtaining_and_calling) (body_of obtaining_and_calling) obtaining_and_calling_is_of (outermost obtaining_and_calling obtaining_and_calling_is_of refl) in
    let r1 = past_other 0 r0 refl (ap runs obtaining_and_calling_is) refl true refl in
    let r2 = past_renewal 0 r1 refl refl refl true refl in
    let r3 = past_maker_into 0 r2 refl refl refl true refl in
    let r4 = past_kept_call 0 r3 refl refl refl true refl in
    let r5 = past_return 0 r4 refl refl refl true refl in
    quiet_of _ _ _ r5 refl record { stage = refl; saved = refl } refl refl refl refl refl (contains_here 0 [])

keeping_is_loud : HasLoudReturn (program_of keeping_alone)
keeping_is_loud =
    let r0 = begins (program_of keeping_alone) (body_of keeping_alone) keeping_is_of (outermost keeping_alone keeping_is_of refl) in
    let r1 = past_other 0 r0 refl (ap runs keeping_is) refl true refl in
    let r2 = past_maker 0 r1 refl refl refl true refl in
    let r3 = past_renewal 0 r2 refl refl refl true refl in
    let r4 = past_keep 0 r3 refl refl refl true refl in
    let r5 = past_return 0 r4 refl refl refl true refl in
    loud_of _ _ _ r5 refl record { stage = refl; saved = refl } refl refl refl refl refl

obtaining_is_loud : HasLoudReturn (program_of obtaining)
obtaining_is_loud =
    let r0 = begins (program_of obtaining) (body_of obtaining) obtaining_is_of (outermost obtaining obtaining_is_of refl) in
    let r1 = past_other 0 r0 refl (ap runs obtaining_is) refl true refl in
    let r2 = past_renewal 0 r1 refl refl refl true refl in
    let r3 = past_maker_into 0 r2 refl refl refl true refl in
    let r4 = past_return 0 r3 refl refl refl true refl in
    loud_of _ _ _ r4 refl record { stage = refl; saved = refl } refl refl refl refl refl

-- what is handed on is nothing
nothing_alone : Contains (nothing ∷ []) (cancel_function 0) → ⊥
nothing_alone h = let bad : nothing ≡ cancel_function 0 = only_one nothing (cancel_function 0) h in cc

handing_nothing : (g : Frame) → g.obtained ≡ 0 ∷ [] → g.handed_on ≡ nothing ∷ [] → g.given_away ≡ [] → Owes g 0
handing_nothing g obtained handed own = record {
  was_obtained = subst (λ l. Contains l 0) (sym obtained) (contains_here 0 []);
  is_kept = λ h. nothing_alone (subst (λ l. Contains l (cancel_function 0)) handed h);
  is_its_own = λ h. contains_nil (cancel_function 0) (subst (λ l. Contains l (cancel_function 0)) own h);
}

returning_early_is_loud : HasLoudReturn (program_of returning_early)
returning_early_is_loud =
    let r0 = begins (program_of returning_early) (body_of returning_early) returning_early_is_of (outermost returning_early returning_early_is_of refl) in
    let r1 = past_other 0 r0 refl (ap runs returning_early_is) refl true refl in
    let r2 = past_maker 0 r1 refl refl refl true refl in
    let r3 = past_renewal 0 r2 refl refl refl true refl in
    let r4 = past_handing 0 r3 refl refl refl true handed_t refl in
    let owes = handing_nothing _ refl refl refl in
    (_, _, record { run = r4; is_returning = record { goroutine = 0; others = []; is_running = refl; is_at_end = record { stage = refl; saved = refl } }; is_of_package = refl; owed = 0; owes = owes }, λ q. contains_nil 0 (q.called 0 owes))

giving_is_free : HasFreeReturn (program_of giving_object)
giving_is_free =
    let r0 = begins (program_of giving_object) (body_of giving_object) giving_is_of (outermost giving_object giving_is_of refl) in
    let r1 = past_other 0 r0 refl (ap runs giving_is) refl true refl in
    let r2 = past_maker 0 r1 refl refl refl true refl in
    let r3 = past_renewal 0 r2 refl refl refl true refl in
    let r4 = past_keep 0 r3 refl refl refl true refl in
    let r5 = past_gift 0 r4 refl refl refl true refl in
    let r6 = past_return 0 r5 refl refl refl true refl in
    free_of giving_object _ _ r6 refl record { stage = refl; saved = refl } refl refl (inr (contains_here (cancel_function 0) []))

returning_is_free : HasFreeReturn (program_of returning_object)
returning_is_free =
    let r0 = begins (program_of returning_object) (body_of returning_object) returning_is_of (outermost returning_object returning_is_of refl) in
    let r1 = past_other 0 r0 refl (ap runs returning_is) refl true refl in
    let r2 = past_maker 0 r1 refl refl refl true refl in
    let r3 = past_renewal 0 r2 refl refl refl true refl in
    let r4 = past_keep 0 r3 refl refl refl true refl in
    let r5 = past_handing 0 r4 refl refl refl true handed_t refl in
    free_of returning_object _ _ r5 refl record { stage = refl; saved = refl } refl refl (inl (contains_here (cancel_function 0) []))

giving_in_field_is_free : HasFreeReturn (program_of giving_in_field)
giving_in_field_is_free =
    let r0 = begins (program_of giving_in_field) (body_of giving_in_field) giving_in_field_is_of (outermost giving_in_field giving_in_field_is_of refl) in
    let r1 = past_other 0 r0 refl (ap runs giving_in_field_is) refl true refl in
    let r2 = past_maker 0 r1 refl refl refl true refl in
    let r3 = past_field_gift 0 r2 refl refl refl true refl in
    let r4 = past_return 0 r3 refl refl refl true refl in
    free_of giving_in_field _ _ r4 refl record { stage = refl; saved = refl } refl refl (inr (contains_here (cancel_function 0) []))

pub field_returns_exist : FieldReturnsExist
field_returns_exist = record {
  calling_is_quiet = calling_is_quiet;
  deferring_is_quiet = deferring_is_quiet;
  obtaining_is_quiet = obtaining_is_quiet;
  keeping_is_loud = keeping_is_loud;
  obtaining_is_loud = obtaining_is_loud;
  returning_early_is_loud = returning_early_is_loud;
  giving_is_free = giving_is_free;
  returning_is_free = returning_is_free;
  giving_in_field_is_free = giving_in_field_is_free;
}
