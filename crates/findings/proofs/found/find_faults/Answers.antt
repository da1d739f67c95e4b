use Rattle.std.proofs.Common.{◌+◌, ◌<◌, [], length, refl, sym, drop, subst, arith}
use Rattle.std.proofs.lemmas.List.{drop_all}
use Rattle.std.proofs.lemmas.Option.{slice_get_read}
use Rattle.path_faults.proofs.Places.{element_at}
use Rattle.findings.proofs.FoundParts.{AddsOn, IsFoundFrom, adds_next, adds_all, first_file, no_files, all_found}
use Rattle.calls_flags.specs.KnownCalls.{known_calls}
use Rattle.meaning_reports.specs.PackageReports.{IsFileFinding}
use Rattle.findings.proofs.found.find_faults.Goals as goal

pub loop-number-init : goal.loop-number-init
loop-number-init c = λ fs tell.
    subst (λ ds. AddsOn [] ds (IsFoundFrom (known_calls c.args.calls) 0 fs) (IsFoundFrom (known_calls c.args.calls) 0 fs))
    (sym c.new-diagnostics.ensures.items) (λ after adds. adds)

pub loop-number-preserved : goal.loop-number-preserved
loop-number-preserved c = λ fs tell.
    let calls = known_calls c.args.calls in
    let n = c.loop-number.number in
    let within : c.loop-number.number < length fs =
    (let same = tell.are_as_many in omega (arith, same, c.loop-number-test.true)) in
    let f = element_at fs n within in
    let told = tell.each n f.0 c.index-files-number.result f.2
    (slice_get_read c.args.files.now (length c.args.files.now) n c.index-files-number.result refl c.loop-number-test.true
    c.index-files-number.is) in
    adds_next [] c.loop-number.diagnostics.items (IsFileFinding calls n f.0)
    (IsFoundFrom calls (n + 1) (drop (n + 1) fs)) (IsFoundFrom calls n (drop n fs)) (IsFoundFrom calls 0 fs)
    (first_file calls n f.0 (drop (n + 1) fs) (drop n fs) f.1)
    c.add_file.new.diagnostics.items (c.in_ok-add_file.ensures f.0 told) (c.loop-number.invariant fs tell)

pub returns : goal.returns
returns c = λ fs tell.
    all_found (known_calls c.args.calls) fs [] c.loop-number.diagnostics.items refl
    (adds_all [] c.loop-number.diagnostics.items _ _
    (no_files (known_calls c.args.calls) c.loop-number.number (drop c.loop-number.number fs)
    (drop_all c.loop-number.number fs (let same = tell.are_as_many in omega (arith, same, c.loop-number-test.false))))
    (c.loop-number.invariant fs tell))
