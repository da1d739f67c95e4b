use Rattle.std.proofs.lemmas.Result.{IfOk-weaker}
use Rattle.load.proofs.Unparsed.{parsed_without_tree, unparsed}
use Rattle.load.proofs.source.read_source.Goals as goal

pub returns-in-Ok : goal.returns-in-Ok
returns-in-Ok c =
    parsed_without_tree c.args.edition c.args.source.now.bytes.items c.without_tree.result c.parsed_without_tree.result
    (IfOk-weaker c.without_tree.result _ _ (λ reading is.
    unparsed c.args.edition c.args.source.now.bytes.items c.in-Ok.tokens.items c.in-Err-parse.fault reading c.in-Ok.ensures.ok
    (rw c.deref.ensures.value at c.in-Err-parse.ensures.no_tree) (rw c.deref.ensures.value at c.in-Err-parse.ensures.offset)
    is) c.without_tree.ensures.ok)
    c.parsed_without_tree.ensures
