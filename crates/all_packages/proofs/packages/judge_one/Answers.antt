use Rattle.std.proofs.Common.{filter_map, ap, subst, ◌∙◌}
use Rattle.std.proofs.lemmas.Result.{IfOk-weaker}
use Rattle.imports.specs.Views.{text_views}
use Rattle.all_packages.specs.Progress.{judged_in}
use Rattle.one_package.specs.Results.{KnowsImports}
use Rattle.all_packages.proofs.packages.judge_one.Goals as goal

pub returns-clause-follows : goal.returns-clause-follows
returns-clause-follows g c =
    IfOk-weaker c.judge_package.result _ _
    (λ judged follows declared ps i p given is_p tells names are.
    let js = filter_map (judged_in c.args.progress.now) c.args.importer.places.now in
    follows declared ps i p js given is_p tells
    (subst (λ paths. KnowsImports c.args.given.now paths js c.in_ok-imports.imports)
    (ap text_views c.deref.ensures.value ∙ names) c.in_ok-imports.ensures) are)
    c.judge_package.ensures.follows

pub returns-clause-certified : goal.returns-clause-certified
returns-clause-certified g c =
    IfOk-weaker c.judge_package.result _ _
    (λ judged follows declared ps i p given is_p tells names are.
    let js = filter_map (judged_in c.args.progress.now) c.args.importer.places.now in
    follows declared ps i p js given is_p tells
    (subst (λ paths. KnowsImports c.args.given.now paths js c.in_ok-imports.imports)
    (ap text_views c.deref.ensures.value ∙ names) c.in_ok-imports.ensures) are)
    c.judge_package.ensures.certified
