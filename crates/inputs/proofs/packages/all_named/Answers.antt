use Rattle.std.proofs.Common.{ap, drop}
use Rattle.std.proofs.lemmas.List.{drop_all}
use Rattle.command_line.specs.Words.{texts_of}
use Rattle.inputs.specs.Packages.{IsNamed}
use Rattle.load.proofs.ZippedLists.{zips_all}
use Rattle.inputs.proofs.packages.all_named.Goals as goal

pub returns-clause-named : goal.returns-clause-named
returns-clause-named c =
    let words = c.args.words.now in
    let at = c.loop-word.word-index in
    zips_all IsNamed (texts_of words) (texts_of (drop at words)) c.loop-word.packages.items
    (ap texts_of (drop_all at words c.loop-word-test.false)) c.loop-word.invariant.0
