use Rattle.meaning.specs.Cursor.{read_in}
use Rattle.tree_reader.proofs.Sound.{file_within-sound}
use Rattle.tree_reader.proofs.reads_what_is_spelled.Goals as goal

pub returns : goal.returns
returns c = λ edition. file_within-sound (read_in edition c.args.text.now)
