use Rattle.std.proofs.Common.{arith}
use Rattle.all_packages.specs.Progress.{slots_in}
use Rattle.all_packages.proofs.AllPackages.{all_ready, through_none, through_one, through_all}
use Rattle.all_packages.proofs.packages.judge_rest.Goals as goal

pub loop-place-init : goal.loop-place-init
loop-place-init g c = λ declared ps given distinct rank ranked order are.
    through_none (g.R.FileRules.rules c.args.by.now.rules.now declared) ps c.args.given.now.packages.now ranked (slots_in c.args.progress.now) are

pub loop-place-preserved : goal.loop-place-preserved
loop-place-preserved g c = λ declared ps given distinct rank ranked order are.
    let rules = g.R.FileRules.rules c.args.by.now.rules.now declared in
    let kept = c.args.given.now.packages.now in
    let place = c.loop-place.place in
    let before = slots_in c.loop-place.progress in
    let on = c.loop-place.invariant declared ps given distinct rank ranked order are in
    through_one rules ps kept ranked place before (slots_in c.judge_next.new.progress) on
    (c.in_ok-judge_next.ensures declared ps given distinct (all_ready rules ps kept rank ranked order place before on.ranked_judged)
    on.are_right)

pub returns : goal.returns
returns g c = λ declared ps given distinct rank ranked order are.
    let past = c.loop-place-test.false in
    let same = given.tell.are_as_many in
    through_all (g.R.FileRules.rules c.args.by.now.rules.now declared) ps c.args.given.now.packages.now ranked c.loop-place.place (slots_in c.loop-place.progress) (omega (arith, past, same))
    (c.loop-place.invariant declared ps given distinct rank ranked order are)
