use Rattle.std.proofs.Common.{map}
use Rattle.tree.specs.View.{file_syntax}
use Rattle.names.specs.Answers.{at_name, names_by_path}
use Rattle.names.proofs.PackageAnswers.{no_answers, more_answers, all_answered}
use Rattle.names.proofs.resolution.all_answers.Goals as goal

pub loop-file-init : goal.loop-file-init
loop-file-init c =
    no_answers (map file_syntax c.args.files.now) (names_by_path c.args.packages.now) c.new-answers.result.items c.new-answers.ensures.items

pub loop-file-preserved : goal.loop-file-preserved
loop-file-preserved c =
    let all = c.args.files.now in
    let packages = names_by_path c.args.packages.now in
    let block = at_name c.in_ok-package.package in
    more_answers (map file_syntax all) packages block c.loop-file.answers.items c.push.new.self.items c.in_ok-file_answers.field-0
    all c.loop-file.file-index c.file-item.result c.loop-file-test.true c.file-item.is c.in_ok-push.ensures.items
    c.in_ok-package.ensures c.in_ok-file_answers.ensures c.loop-file.invariant

pub returns : goal.returns
returns c =
    all_answered (names_by_path c.args.packages.now) c.loop-file.answers.items c.args.files.now c.loop-file.file-index
    c.loop-file-test.false c.loop-file.invariant
