use Rattle.std.proofs.Common.{◌≡◌, [], ◌∷◌, length, refl, ap, ◌∙◌, arith}
use Rattle.std.proofs.lemmas.List.{map-append}
use Rattle.std.proofs.lemmas.Option.{slice_get_read}
use Rattle.calls_flags.specs.KnownCalls.{known_calls}
use Rattle.explanations.proofs.ToldFiles.{none_told, one_told, all_told}
use Rattle.explanations.specs.ToldViews.{told_views, ways_view}
use Rattle.explanations.proofs.told_ways.files_faults.Goals as goal

pub loop-number-init : goal.loop-number-init
loop-number-init c =
    none_told (known_calls c.args.calls) c.args.files.now (ways_view c.new-ways.result.items)
    (ap ways_view c.new-ways.ensures.items)

pub loop-number-preserved : goal.loop-number-preserved
loop-number-preserved c =
    let made = c.in_ok-file_faults.field-0 in
    one_told (known_calls c.args.calls) c.args.files.now c.loop-number.number (ways_view c.loop-number.ways.items)
    (ways_view c.push.new.self.items) c.index-files-number.result (told_views made.items)
    (slice_get_read c.args.files.now (length c.args.files.now) c.loop-number.number c.index-files-number.result refl
    c.loop-number-test.true c.index-files-number.is)
    (ap ways_view c.in_ok-push.ensures.items
    ∙ map-append (λ told. told_views told.items) c.loop-number.ways.items (made ∷ []))
    c.in_ok-file_faults.ensures c.loop-number.invariant

pub returns : goal.returns
returns c = λ fs tell.
    let size : length c.args.files.now ≡ c.loop-number.number =
    omega (arith, c.loop-number.auto.number-end, c.loop-number-test.false) in
    all_told (known_calls c.args.calls) c.args.files.now c.loop-number.number (ways_view c.loop-number.ways.items) size
    c.loop-number.invariant fs tell
