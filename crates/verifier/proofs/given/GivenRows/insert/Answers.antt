use Rattle.std.proofs.Common.{◌&&◌, refl, ap, ◌∙◌, option_map}
use Rattle.std.specs.Prelude.{◌==◌}
use Rattle.certificate_json.specs.Certificates.{rows_of}
use Rattle.facts.proofs.FactParts.{on_ok}
use Rattle.indexmap.specs.IndexMap.{get_by}
use Rattle.verifier.proofs.GivenMaps.{kept_so}
use Rattle.verifier.proofs.given.GivenRows.insert.Goals as goal

pub returns : goal.returns
returns c =
    on_ok c.keep_first.result
    (λ kept number at.
    ap (option_map (λ rows. rows_of rows.now)) (kept (record { file = number; at = at }))
    ∙ kept_so (λ rows. rows_of rows.now)
    (get_by (λ place. (number == place.file) && (at == place.at)) c.args.self.now.bodies)
    ((c.args.body.now.file == number) && (c.args.body.now.at == at)) _
    (rows_of c.args.body.now.states) refl)
    c.keep_first.ensures
