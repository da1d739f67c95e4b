use Rattle.std.proofs.Common.{slice_get}
use Rattle.report.specs.Entries.{entry_of}
use Rattle.report_json.proofs.JsonPieces.{end_found, none_found}
use Rattle.report_json.proofs.json_report.end_from.Goals as goal

pub returns-in-Some : goal.returns-in-Some
returns-in-Some c =
    let d = c.args.diagnostic.now in
    end_found c.args.wording (slice_get c.args.sources.now d.file) (entry_of d) _ _ _ c.told_end.ensures c.in-Some.is c.moved.ensures.line c.moved.ensures.column

pub returns-in-None : goal.returns-in-None
returns-in-None c =
    let d = c.args.diagnostic.now in
    none_found c.args.wording (slice_get c.args.sources.now d.file) (entry_of d) _ c.told_end.ensures c.in-None.is
