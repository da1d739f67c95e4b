use Rattle.std.proofs.Common.{◌++◌, [], sym, subst}
use Rattle.std.proofs.lemmas.List.{append-nil}
use Rattle.std.proofs.lemmas.Option.{slice_get_past}
use Rattle.std.specs.List.{cons_option}
use Rattle.one_package.specs.Results.{KnowsJudged}
use Rattle.explanations.proofs.known.add_import.Goals as goal

pub returns-in-None : goal.returns-in-None
returns-in-None c js knows =
    let none = slice_get_past c.args.judged.now c.args.place c.in-None.ensures.lookup.3 in
    subst (λ o. KnowsJudged (js ++ cons_option o []) c.args.known.now) (sym none)
    (subst (λ all. KnowsJudged all c.args.known.now) (sym (append-nil js)) knows)
