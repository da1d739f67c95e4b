use Rattle.std.proofs.Common.{◌+◌, ◌<◌, length, map, refl, drop, ap, arith}
use Rattle.std.proofs.lemmas.List.{drop_all}
use Rattle.std.proofs.lemmas.Option.{slice_get_read}
use Rattle.all_certificates.proofs.AddedEntries.{files_first, files_next, files_all, rest_from}
use Rattle.calls_flags.specs.KnownCalls.{known_calls}
use Rattle.certificate_json.specs.Certificates.{body_of}
use Rattle.path_faults.proofs.Places.{element_at}
use Rattle.all_certificates.proofs.files.entries_of_files.Goals as goal

pub loop-file-init : goal.loop-file-init
loop-file-init c = λ fs tell.
    files_first (known_calls c.args.calls) fs (map body_of c.new-entries.result.items)
    (ap (map body_of) c.new-entries.ensures.items)

pub loop-file-preserved : goal.loop-file-preserved
loop-file-preserved c = λ fs tell.
    let n = c.loop-file.file-index in
    let within : c.loop-file.file-index < length fs =
    (let same = tell.are_as_many in omega (arith, same, c.loop-file-test.true)) in
    let f = element_at fs n within in
    let file = c.file-item.result in
    let told = tell.each n f.0 file f.2
    (slice_get_read c.args.files.now (length c.args.files.now) n file refl c.loop-file-test.true c.file-item.is) in
    files_next (known_calls c.args.calls) fs n f.0 (drop (n + 1) fs) (drop n fs) (map body_of c.loop-file.entries.items)
    (map body_of c.add_file.new.entries.items) (rest_from fs n f.0 f.2) (c.in_ok-add_file.ensures n f.0 told)
    (c.loop-file.invariant fs tell)

pub returns : goal.returns
returns c = λ fs tell.
    files_all (known_calls c.args.calls) fs c.loop-file.file-index (drop c.loop-file.file-index fs)
    (map body_of c.loop-file.entries.items)
    (drop_all c.loop-file.file-index fs (let same = tell.are_as_many in omega (arith, same, c.loop-file-test.false)))
    (c.loop-file.invariant fs tell)
