use Rattle.std.proofs.Common.{map}
use Rattle.std.proofs.lemmas.Result.{IfOk-weaker}
use Rattle.cause_mentions.proofs.SameMentions.{same_mentions}
use Rattle.cause_mentions.proofs.mentioned.trees_mention.Goals as goal
use Rattle.meaning.specs.Declarations.{declaration_of_use}
use Rattle.names.specs.Answers.{declared_at, names_by_path}
use Rattle.tree.specs.View.{file_syntax}

pub returns : goal.returns
returns c =
    let trees = map file_syntax c.args.files.now in
    IfOk-weaker c.files_mention.result _ _
    (λ does is.
    same_mentions (declared_at c.in_ok-names.names) (declaration_of_use trees (names_by_path c.args.packages.now)) trees
    does c.in_ok-names.ensures is)
    c.files_mention.ensures
