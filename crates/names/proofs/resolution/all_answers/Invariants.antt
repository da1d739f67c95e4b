use Rattle.std.proofs.Common.{map, take}
use Rattle.tree.specs.View.{file_syntax}
use Rattle.names.specs.Answers.{names_by_path}
use Rattle.names.proofs.PackageAnswers.{AreAnswers}
use Rattle.names.proofs.resolution.all_answers.Given as goal

-- the files so far have their answers
abbrev pub invariant-loop-file : goal.invariant-loop-file
invariant-loop-file l = AreAnswers (map file_syntax l.files) (names_by_path l.packages) l.answers.items (take l.file-index l.files)
