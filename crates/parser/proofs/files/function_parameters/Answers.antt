use Rattle.meaning.specs.declared.TheConstants.{MOST_DEPTH}
use Rattle.parser_base.specs.Places.{cursor, go_text}
use Rattle.parser.proofs.TypeParameters.{none_of_methods}
use Rattle.parser.proofs.files.function_parameters.Goals as goal

pub returns-in-Some : goal.returns-in-Some
returns-in-Some g c =
    rw (c.in-Some.is, c.new.ensures.items)
    (none_of_methods (go_text c.args.source) MOST_DEPTH _ (cursor c.args.source c.args.place))
