use Rattle.std.proofs.Common.{◌≡◌, ◌∷◌, ◌+◌, get_or, drop}
use Rattle.std.proofs.lemmas.List.{drop_all, drop_more}
use Rattle.all_packages.specs.Progress.{slots_in}
use Rattle.all_packages.proofs.AllPackages.{begins, all_done, ready, one_more}
use Rattle.all_packages.proofs.packages.judge_ranked.Goals as goal

pub loop-place-init : goal.loop-place-init
loop-place-init g c = λ declared ps given distinct rank order right.
    begins (g.R.FileRules.rules c.args.by.now.rules.now declared) ps c.args.given.now.packages.now c.args.ranked.now (slots_in c.args.progress.now) right

pub loop-place-preserved : goal.loop-place-preserved
loop-place-preserved g c = λ declared ps given distinct rank order right.
    let rules = g.R.FileRules.rules c.args.by.now.rules.now declared in
    let kept = c.args.given.now.packages.now in
    let ranked = c.args.ranked.now in
    let at = c.loop-place.place-index in
    let place = get_or ranked at 0 in
    let left = drop (at + 1) ranked in
    let before = slots_in c.loop-place.progress in
    let is : drop at ranked ≡ place ∷ left =
    drop_more ranked at 0 c.loop-place-test.true in
    let on = c.loop-place.invariant declared ps given distinct rank order right in
    one_more rules ps kept rank ranked order place left (drop at ranked) before (slots_in c.judge_next.new.progress) is on
    (c.in_ok-judge_next.ensures declared ps given distinct (ready rules ps kept rank ranked order place left (drop at ranked) before is on)
    on.are_right)

pub returns : goal.returns
returns g c = λ declared ps given distinct rank order right.
    all_done (g.R.FileRules.rules c.args.by.now.rules.now declared) ps c.args.given.now.packages.now c.args.ranked.now (drop c.loop-place.place-index c.args.ranked.now)
    (slots_in c.loop-place.progress)
    (drop_all c.loop-place.place-index c.args.ranked.now c.loop-place-test.false)
    (c.loop-place.invariant declared ps given distinct rank order right)
