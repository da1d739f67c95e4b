use Rattle.tree.specs.View.{statements_syntax}
use Rattle.meaning.specs.Jumps.{parts_of}
use Rattle.body_parts.proofs.AddedParts.{if_ok, jumps_alone}
use Rattle.body_parts.proofs.jumps.jumps_in.Goals as goal

pub returns : goal.returns
returns c =
    if_ok c.jumps_among.result
    (λ v h. jumps_alone v.items _ _ _ (parts_of (statements_syntax c.args.list.now)) c.new-parts.ensures.items
    c.in_ok-add_statements.ensures c.deref.ensures.value h)
    c.jumps_among.ensures
