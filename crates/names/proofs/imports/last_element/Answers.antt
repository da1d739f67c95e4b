use Rattle.std.proofs.Common.{Some, None, ◌∙◌, arith}
use Rattle.std.proofs.lemmas.Str.Pattern.{rfind_char}
use Rattle.names.proofs.ImportNames.{last_whole, last_from}
use Rattle.names.proofs.imports.last_element.Goals as goal

pub returns-in-Some : goal.returns-in-Some
returns-in-Some c =
    let found = rfind_char 47 c.args.path.now (Some c.in-Some.at) c.in-Some.ensures.cases (omega arith) in
    c.range_from.ensures.value ∙ last_from c.args.path.now c.in-Some.at found.0 found.1 found.2

pub returns-in-None : goal.returns-in-None
returns-in-None c = last_whole c.args.path.now (rfind_char 47 c.args.path.now None c.in-None.ensures.cases (omega arith))
