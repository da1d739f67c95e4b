use Rattle.std.proofs.Common.{◌++◌, sym, ap, ◌∙◌}
use Rattle.std.proofs.lemmas.List.{append-nil}
use Rattle.tree.specs.View.{statements_syntax}
use Rattle.meaning.specs.StatementCode.{last_falls}
use Rattle.body_code.specs.FallViews.{at_most_one}
use Rattle.body_code.proofs.falls.add_fall.Goals as goal

pub returns-in_ok-push-in-Some : goal.returns-in_ok-push-in-Some
returns-in_ok-push-in-Some c =
    c.in_ok-push-in-Some.ensures.items
    ∙ ap (λ l. c.args.falls.now.items ++ l)
    (ap at_most_one (sym c.in-Some.is) ∙ c.last_falls.ensures ∙ ap (λ l. last_falls (statements_syntax l)) c.deref.ensures.value)

pub returns-in-None : goal.returns-in-None
returns-in-None c =
    sym (append-nil c.args.falls.now.items)
    ∙ ap (λ l. c.args.falls.now.items ++ l)
    (ap at_most_one (sym c.in-None.is) ∙ c.last_falls.ensures ∙ ap (λ l. last_falls (statements_syntax l)) c.deref.ensures.value)
