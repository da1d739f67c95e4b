use Rattle.parser_parts.proofs.NamedItems.{named-stays, several-stay, unnamed-settles, alone-fails}
use Rattle.parser_parts.proofs.signatures.with_name.Goals as goal

pub returns-in-Named : goal.returns-in-Named
returns-in-Named c = λ after ends. named-stays _ after _ _ _ _ c.in-Named.is c.named_parameter.ensures

pub returns-then-has_ellipsis : goal.returns-then-has_ellipsis
returns-then-has_ellipsis c = λ after ends. several-stay _ after _ _ _ c.in-Unnamed.is c.if-has_ellipsis.true c.unnamed_parameter.ensures

pub returns-else-has_ellipsis : goal.returns-else-has_ellipsis
returns-else-has_ellipsis c =
    λ after ends. unnamed-settles _ after c.without_name.result _ _ _ c.in-Unnamed.is c.if-has_ellipsis.false ends c.without_name.ensures

pub returns-in-NameAlone : goal.returns-in-NameAlone
returns-in-NameAlone c = λ after ends. alone-fails _ after _ c.in-NameAlone.is
