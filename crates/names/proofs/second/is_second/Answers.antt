use Rattle.tree.specs.View.{function_syntax}
use Rattle.meaning.specs.OuterBlocks.{can_be_meant}
use Rattle.names.proofs.SecondFunctions.{name_added}
use Rattle.names.proofs.second.is_second.Goals as goal

pub returns-clause-seen : goal.returns-clause-seen
returns-clause-seen c =
    let f = c.args.function.now in
    name_added c.args.seen.now c.insert.new.self _ c.as_str.result.now f.name.text c.can_be_meant.result (can_be_meant (function_syntax f))
    c.if-not-can_be_meant.false c.can_be_meant.ensures c.as_str.ensures c.in_ok-old.ensures.updates
