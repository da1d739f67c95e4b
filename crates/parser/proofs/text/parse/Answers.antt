use Rattle.parser.proofs.TextTrees.{parsed_tree, parsed_fault}
use Rattle.parser.proofs.TokenWords.{tokens_have_words}
use Rattle.parser.proofs.text.parse.Goals as goal

pub invariant_of-source-clause-words : goal.invariant_of-source-clause-words
invariant_of-source-clause-words c = tokens_have_words c.args.text.now c.args.tokens.now c.requires

pub returns-in-Ok : goal.returns-in-Ok
returns-in-Ok c = parsed_tree c.args.edition c.args.text.now c.args.tokens.now c.requires c.in-Ok.tree _ c.in-Ok.ensures

pub returns-in-Err : goal.returns-in-Err
returns-in-Err c = parsed_fault c.args.edition c.args.text.now c.args.tokens.now c.requires c.in-Err.fault c.in-Err.ensures
