use Rattle.std.proofs.Common.{◌∙◌, ◌-◌, arith, drop, length, length-drop, subst, sym, take}
use Rattle.std.proofs.lemmas.List.{take_all}
use Rattle.memchr.specs.Find.{FindsNeedle}
use Rattle.directives.proofs.Places.{next_found, next_passed, none_found}
use Rattle.directives.proofs.place.place_in.Goals as goal

pub returns-then-is_free-clause-place : goal.returns-then-is_free-clause-place
returns-then-is_free-clause-place c =
    let line = c.args.line.now in
    let passed = c.places.passed in
    let rest = take_all (length line - passed) (drop passed line) (omega (arith, length-drop passed line)) in
    next_found line _ _ passed rest c.requires c.places.invariant.0 c.places.invariant.1 c.in-Some.further c.in-Some.ensures
    (sym c.is_free.ensures ∙ c.if-is_free.true)

pub places-preserved : goal.places-preserved
places-preserved c =
    let line = c.args.line.now in
    let passed = c.places.passed in
    let rest = take_all (length line - passed) (drop passed line) (omega (arith, length-drop passed line)) in
    next_passed line _ _ passed rest c.requires c.places.invariant.0 c.places.invariant.1 c.in-Some.further c.in-Some.ensures
    (sym c.is_free.ensures ∙ c.if-is_free.false)

pub returns-clause-place : goal.returns-clause-place
returns-clause-place c =
    let line = c.args.line.now in
    let passed = c.places.passed in
    let left = take (length line - passed) (drop passed line) in
    let rest = take_all (length line - passed) (drop passed line) (omega (arith, length-drop passed line)) in
    let none = subst (λ r. FindsNeedle left c.args.finder.now 0 r) c.in_default.is c.find.ensures in
    none_found line _ _ passed rest c.requires c.places.invariant.0 c.places.invariant.1 none
