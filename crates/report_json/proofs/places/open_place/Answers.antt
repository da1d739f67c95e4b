use Rattle.report_json.proofs.JsonPieces.{place_is}
use Rattle.format_parts.proofs.Steps.{written_as}
use Rattle.report_json.proofs.places.open_place.Goals as goal

pub returns-clause-taken : goal.returns-clause-taken
returns-clause-taken g c =
    let parts = place_is c.args.is_later c.args.file.now c.args.place.line c.args.place.column _ c.comma.ensures in
    written_as _ _ _ _ parts _ c.put_each.ensures.taken
