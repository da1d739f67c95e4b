use Rattle.parser_parts.proofs.NamedItems.{name-last, name-before, no-name}
use Rattle.parser_parts.proofs.signatures.without_name.Goals as goal

pub returns-then-is_last : goal.returns-then-is_last
returns-then-is_last c = λ more ends. name-last _ _ _ _ more ends _ c.in-Name.is c.if-is_last.true

pub returns-else-is_last : goal.returns-else-is_last
returns-else-is_last c =
    λ more ends. name-before _ _ _ _ more ends c.in-Name.text _ _ c.in-Name.is c.if-is_last.false c.in-Name.text-is (c.name_alone.ensures more)

pub returns-in_default : goal.returns-in_default
returns-in_default c = λ more ends. no-name _ _ _ _ more ends _ c.in_default.not-Name (c.unnamed_parameter.ensures more)
