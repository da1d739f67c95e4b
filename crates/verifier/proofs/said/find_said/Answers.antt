use Rattle.std.proofs.Common.{◌<◌, length, map, refl, sym, ap, ◌∙◌, subst, arith, option_map}
use Rattle.std.proofs.lemmas.List.{length-map}
use Rattle.std.proofs.lemmas.Option.{slice_get_read, slice_get-map}
use Rattle.bodies.specs.Bodies.{TellBodies}
use Rattle.called_parameters.specs.Called.{is_called}
use Rattle.calls_flags.specs.KnownCalls.{known_calls}
use Rattle.meaning_packages.specs.CallsFlags.{FileWithCredits}
use Rattle.path_faults.proofs.Places.{element_at}
use Rattle.verifier.proofs.SaidFiles.{none_said, next_said, all_said}
use Rattle.verifier.proofs.said.find_said.Goals as goal

pub loop-number-init : goal.loop-number-init
loop-number-init c = λ fs tell g given.
    none_said g (is_called c.args.calls.own.now) (known_calls c.args.calls)
    (map (λ (f : FileWithCredits). f.seen) fs) c.new-diagnostics.result.items c.new-diagnostics.ensures.items

pub loop-number-preserved : goal.loop-number-preserved
loop-number-preserved c = λ fs tell g given.
    let n = c.loop-number.number in
    let within : c.loop-number.number < length fs =
    (let same = tell.are_as_many in omega (arith, same, c.loop-number-test.true)) in
    let f = element_at fs n within in
    let told = tell.each n f.0 c.index-files-number.result f.2
    (slice_get_read c.args.files.now (length c.args.files.now) n c.index-files-number.result refl c.loop-number-test.true
    c.index-files-number.is) in
    next_said g (is_called c.args.calls.own.now) (known_calls c.args.calls) (map (λ (h : FileWithCredits). h.seen) fs) n
    f.0.seen (slice_get-map (λ (h : FileWithCredits). h.seen) fs n ∙ ap (option_map (λ (h : FileWithCredits). h.seen)) f.2)
    c.loop-number.diagnostics.items c.add_file.new.diagnostics.items (c.loop-number.invariant fs tell g given)
    (c.in_ok-add_file.ensures f.0.seen told.tells
    (subst (TellBodies n f.0.seen) (sym c.deref.ensures.value) told.are_bodies) g given)

pub returns : goal.returns
returns c = λ fs tell g given.
    let seens = map (λ (f : FileWithCredits). f.seen) fs in
    all_said g (is_called c.args.calls.own.now) (known_calls c.args.calls) seens c.loop-number.number
    c.loop-number.diagnostics.items
    (let many = length-map fs (λ (f : FileWithCredits). f.seen) in
    let same = tell.are_as_many in omega (arith, many, same, c.loop-number-test.false))
    (c.loop-number.invariant fs tell g given)
