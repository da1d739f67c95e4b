use Rattle.std.proofs.Common.{ap, sym, subst}
use Rattle.std.proofs.lemmas.Result.{IfOk-weaker}
use Rattle.whole_packages.specs.WholeEntries.{is_set}
use Rattle.one_package.specs.Judgments.{is_picked, AreNotYes}
use Rattle.given_packages.specs.Neighbours.{nearby_view}
use Rattle.one_package.proofs.FollowsSo.{if_both, said_so}
use Rattle.one_package.proofs.ImportedTables.{tables_by_told}
use Rattle.one_package.proofs.ImportsNotYes.{not_yes_so}
use Rattle.one_package.proofs.judging.judge_beside.Goals as goal

pub returns-clause-follows : goal.returns-clause-follows
returns-clause-follows g c =
    IfOk-weaker c.judge.result _ _
    (λ judged both declared ps i p told near is_p tells knows are tables have.
    let rules = g.R.FileRules.rules c.args.by.now.rules.now declared in
    let same = c.are_determined.ensures.declared declared in
    said_so rules ps tables i p c.args.loaded.now judged tells both.0
    (both.1 declared ps tables i p is_p tells
    (c.around_beside.ensures.known declared ps tables p told near knows
    (tables_by_told ps i p is_p (nearby_view c.args.near) declared near told tables rules same are have) are.are_marked)
    (λ none. subst (λ n. AreNotYes rules ps tables i (is_picked n)) (sym c.around_beside.ensures.not_yes)
    (not_yes_so rules ps i p is_p none told are tables have (is_picked c.args.imports.now.not_yes)
    (λ path. ap is_set (knows.are_not_yes path))))))
    (if_both _ _ c.judge.result c.judge.ensures.told c.judge.ensures.judged)

pub returns-clause-certified : goal.returns-clause-certified
returns-clause-certified g c =
    IfOk-weaker c.judge.result _ _
    (λ judged certified declared ps i p told near is_p tells knows are tables have.
    certified ps tables i p is_p tells
    (c.around_beside.ensures.known declared ps tables p told near knows
    (tables_by_told ps i p is_p (nearby_view c.args.near) declared near told tables
    (g.R.FileRules.rules c.args.by.now.rules.now declared) (c.are_determined.ensures.declared declared) are have) are.are_marked))
    c.judge.ensures.certified
