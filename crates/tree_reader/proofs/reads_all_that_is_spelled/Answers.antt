use Rattle.meaning.specs.Cursor.{read_in}
use Rattle.tree_reader.proofs.CompleteFile.{read_file_within-complete}
use Rattle.tree_reader.proofs.reads_all_that_is_spelled.Goals as goal

pub returns : goal.returns
returns c = λ edition most. read_file_within-complete (read_in edition c.args.text.now) most
