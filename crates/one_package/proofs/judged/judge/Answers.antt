use Rattle.std.proofs.Common.{map, subst}
use Rattle.std.proofs.lemmas.Result.{IfOk-weaker}
use Rattle.report.specs.Entries.{entry_of}
use Rattle.one_package.specs.ToldPackages.{AreGrounds, AreMarkedGrounds}
use Rattle.one_package.proofs.WholeOnly.{only_whole}
use Rattle.one_package.proofs.judged.judge.Goals as goal

pub returns-in-WholeFaults-clause-judged : goal.returns-in-WholeFaults-clause-judged
returns-in-WholeFaults-clause-judged g c = λ declared ps tables i p is_p tells around not_yes.
    let are = subst (AreGrounds ps tables i p c.tells_all.result) c.in-WholeFaults.is
    (c.in_ok-faults.ensures.grounds ps tables i p is_p tells around) in
    only_whole (g.R.FileRules.rules c.args.by.now.rules.now declared) ps tables i p c.whole_only.result
    (map entry_of c.in-WholeFaults.faults.items) c.whole_only.ensures.only are.each are.one.0 are.one.1

pub returns-in-Told-clause-told : goal.returns-in-Told-clause-told
returns-in-Told-clause-told g c =
    IfOk-weaker c.judge_told.result _ _
    (λ judged told. told (subst AreMarkedGrounds c.in-Told.is c.in_ok-faults.ensures.marked))
    c.judge_told.ensures.told

pub returns-in-Told-clause-judged : goal.returns-in-Told-clause-judged
returns-in-Told-clause-judged g c =
    IfOk-weaker c.judge_told.result _ _
    (λ judged judgment declared ps tables i p is_p tells around not_yes.
    let told = subst (AreGrounds ps tables i p (g.R.FileRules.tells_all c.args.by.now.rules.now)) c.in-Told.is
    (subst (λ all. AreGrounds ps tables i p all c.in_ok-faults.field-0) c.tells_all.ensures
    (c.in_ok-faults.ensures.grounds ps tables i p is_p tells around)) in
    judgment declared ps tables i p is_p tells around (not_yes told.0) told.0 told.1)
    c.judge_told.ensures.judged

pub returns-in-WholeFaults-clause-certified : goal.returns-in-WholeFaults-clause-certified
returns-in-WholeFaults-clause-certified g c = λ ps tables i p is_p tells around.
    let are = subst (AreGrounds ps tables i p c.tells_all.result) c.in-WholeFaults.is
    (c.in_ok-faults.ensures.grounds ps tables i p is_p tells around) in
    record {
      of_bodies = λ no_fault. absurd (no_fault are.one.0 are.one.1);
      are_none = λ x fault. c.whole_only.ensures.certified;
    }

pub returns-in-Told-clause-certified : goal.returns-in-Told-clause-certified
returns-in-Told-clause-certified g c =
    IfOk-weaker c.judge_told.result _ _
    (λ judged certified ps tables i p is_p tells around.
    let told = subst (AreGrounds ps tables i p (g.R.FileRules.tells_all c.args.by.now.rules.now)) c.in-Told.is
    (subst (λ all. AreGrounds ps tables i p all c.in_ok-faults.field-0) c.tells_all.ensures
    (c.in_ok-faults.ensures.grounds ps tables i p is_p tells around)) in
    certified ps tables i p is_p tells around told.0 told.1)
    c.judge_told.ensures.certified
