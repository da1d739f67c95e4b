use Rattle.std.proofs.Common.{ap, ◌∙◌}
use Rattle.tree.specs.View.{expressions_syntax}
use Rattle.meaning.specs.StatementCode.{is_default}
use Rattle.body_code.proofs.CaseLists.{is_default-length}
use Rattle.body_code.proofs.clauses.is_default.Goals as goal

pub returns : goal.returns
returns c =
    c.is_empty.ensures ∙ is_default-length c.as_slice.result.now
    ∙ ap (λ l. is_default (expressions_syntax l)) c.as_slice.ensures.value
