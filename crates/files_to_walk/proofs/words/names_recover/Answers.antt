use Rattle.std.proofs.Common.{codes}
use Rattle.files_to_walk.proofs.SkippedFiles.{lacks_one}
use Rattle.files_to_walk.proofs.words.names_recover.Goals as goal

pub returns : goal.returns
returns c = lacks_one (codes "recover") c.args.source.now.bytes.items c.names_one.result c.names_one.ensures.lacks
