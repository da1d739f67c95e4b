use Rattle.std.proofs.Common.{sym, subst}
use Rattle.imports.specs.Ranks.{IsOrder}
use Rattle.imports.specs.Views.{rank_of, ranked_of}
use Rattle.meaning_reports.specs.Loaded.{import_list}
use Rattle.all_packages.specs.Progress.{slots_in, AreRankedJudged}
use Rattle.all_packages.proofs.packages.judge_all.Goals as goal

pub returns : goal.returns
returns g c = λ declared ps given distinct right.
    let rules = g.R.FileRules.rules c.args.by.now.rules.now declared in
    let rule = g.R.FileRules.certificates c.args.by.now.rules.now in
    let own = c.args.given.now in
    let packages = own.packages.now in
    let rank = rank_of own.order in
    c.in_ok-judge_rest.ensures declared ps given distinct rank (ranked_of own.order) given.is_ranked
    (subst (λ ranked. AreRankedJudged rules rule ps packages ranked (slots_in c.judge_ranked.new.progress)) c.ranked.ensures
    (c.in_ok-judge_ranked.ensures declared ps given distinct rank
    (subst (IsOrder (import_list ps) rank) (sym c.ranked.ensures) given.is_ranked) right))
