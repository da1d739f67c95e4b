use Rattle.std.proofs.Common.{◌≡◌, map, option_map, subst}
use Rattle.command_line.specs.VetViews.{call_of}
use Rattle.command_line.specs.VetWords.{vet_call}
use Rattle.driver.proofs.CallFaults.{words_fail}
use Rattle.driver.proofs.program.answer.Goals as goal

pub returns-in-None-clause-fails : goal.returns-in-None-clause-fails
returns-in-None-clause-fails g c =
    let words = map g.S.AsStr.text c.args.words.now in
    let old = g.W.Write.contents c.args.out.now in
    let new = g.W.Write.contents c.answer_words.new.out in
    let said = c.answer_words.ensures in
    words_fail c.answer_words.result words old new
    (subst (λ asked. option_map call_of asked ≡ vet_call words) c.in-None.is c.vet_words.ensures)
    said.fault said.unwritten said.begun said.whole
