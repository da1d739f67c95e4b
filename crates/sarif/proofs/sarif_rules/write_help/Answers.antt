use Rattle.sarif.proofs.SarifPieces.{help_is}
use Rattle.format_parts.proofs.Steps.{written_as}
use Rattle.sarif.proofs.sarif_rules.write_help.Goals as goal

pub returns-clause-taken : goal.returns-clause-taken
returns-clause-taken g c =
    let parts = help_is c.args.code _ _ _ _ _ c.meaning.ensures c.help_text.ensures c.help_markdown.ensures c.level.ensures c.topic.ensures in
    written_as _ _ _ _ parts _ c.put_each.ensures.taken
