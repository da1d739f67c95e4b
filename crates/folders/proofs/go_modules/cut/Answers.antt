use Rattle.std.proofs.Common.{◌≡◌, ◌∙◌, length, rules}
use Rattle.folders.proofs.Cuts.{after_is, dropped_none}
use Rattle.folders.specs.CutLines.{stops}
use Rattle.folders.proofs.go_modules.cut.Goals as goal

pub returns-then-is_empty-clause-behind : goal.returns-then-is_empty-clause-behind
returns-then-is_empty-clause-behind c =
    let rest = c.split_at.result.1.now in
    let none : length rest ≡ 0 = search rules in
    dropped_none rest none
    ∙ after_is (stops c.args.stop) c.args.bytes.now rest c.first_stop.result c.first_stop.ensures.place c.split_at.ensures.back

pub returns-clause-behind : goal.returns-clause-behind
returns-clause-behind c =
    c.split_at-2.ensures.back
    ∙ after_is (stops c.args.stop) c.args.bytes.now c.split_at.result.1.now c.first_stop.result c.first_stop.ensures.place c.split_at.ensures.back
