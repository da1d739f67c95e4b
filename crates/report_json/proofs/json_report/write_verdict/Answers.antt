use Rattle.std.proofs.Common.{true, ap}
use Rattle.report.specs.Entries.{texts_of}
use Rattle.report_json.specs.JsonText.{verdict_members}
use Rattle.format_parts.specs.Pieces.{members_listed}
use Rattle.report_json.proofs.JsonPieces.{accepted_is, no_is}
use Rattle.format_parts.proofs.Steps.{written_as}
use Rattle.report_json.proofs.json_report.write_verdict.Goals as goal

pub returns-in-Yes-clause-taken : goal.returns-in-Yes-clause-taken
returns-in-Yes-clause-taken g c =
    written_as _ _ _ _ (ap (λ v. members_listed true (verdict_members v (texts_of c.args.keeping.now))) c.in-Yes.is) _ c.write_yes.ensures.taken

pub returns-in-Accepted-clause-taken : goal.returns-in-Accepted-clause-taken
returns-in-Accepted-clause-taken g c =
    written_as _ _ _ _ (accepted_is _ (texts_of c.args.keeping.now) c.in-Accepted.is) _ c.put_all.ensures.taken

pub returns-in-No-clause-taken : goal.returns-in-No-clause-taken
returns-in-No-clause-taken g c =
    written_as _ _ _ _ (no_is _ (texts_of c.args.keeping.now) c.in-No.is) _ c.put_all-in-No.ensures.taken
