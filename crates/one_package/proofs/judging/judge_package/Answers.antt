use Rattle.std.proofs.Common.{sym, subst}
use Rattle.std.proofs.lemmas.Result.{IfOk-weaker}
use Rattle.gathering.specs.Results.{FollowsFromTold}
use Rattle.meaning_reports.specs.Loaded.{imported_paths}
use Rattle.one_package.specs.Certified.{CertificatesFollowTold}
use Rattle.one_package.specs.Judgments.{said_view}
use Rattle.given_packages.specs.Neighbours.{TellsNearby}
use Rattle.one_package.specs.Results.{told_by, KnowsAll}
use Rattle.given_packages.proofs.NearGiven.{near_given}
use Rattle.one_package.proofs.ToldImports.{judged_are_told, same_tellings}
use Rattle.one_package.proofs.judging.judge_package.Goals as goal

pub returns-clause-follows : goal.returns-clause-follows
returns-clause-follows g c =
    IfOk-weaker c.judge_beside.result _ _
    (λ judged follows declared ps i p js given is_p tells knows are.
    let same = sym c.neighbours.ensures in
    let rules = g.R.FileRules.rules c.args.by.now.rules.now declared in
    subst (λ told. FollowsFromTold rules ps i p told (said_view judged)) (same_tellings ps js)
    (follows declared ps i p (told_by js)
    (subst (TellsNearby declared ps p) same (near_given declared ps c.args.given.now given p)) is_p tells
    (subst (λ near. KnowsAll near (imported_paths p) (told_by js) c.args.imports.now) same knows) (judged_are_told ps i js are)))
    c.judge_beside.ensures.follows

pub returns-clause-certified : goal.returns-clause-certified
returns-clause-certified g c =
    IfOk-weaker c.judge_beside.result _ _
    (λ judged certified declared ps i p js given is_p tells knows are.
    let same = sym c.neighbours.ensures in
    let rules = g.R.FileRules.rules c.args.by.now.rules.now declared in
    let rule = g.R.FileRules.certificates c.args.by.now.rules.now in
    subst (λ told. CertificatesFollowTold rules rule ps i p told judged) (same_tellings ps js)
    (certified declared ps i p (told_by js)
    (subst (TellsNearby declared ps p) same (near_given declared ps c.args.given.now given p)) is_p tells
    (subst (λ near. KnowsAll near (imported_paths p) (told_by js) c.args.imports.now) same knows) (judged_are_told ps i js are)))
    c.judge_beside.ensures.certified
