use Rattle.std.proofs.Common.{refl, sym, ◌∙◌}
use Rattle.meaning.specs.Uses.{goes_off}
use Rattle.mentions.specs.MarkViews.{use_view}
use Rattle.credits.proofs.ReliedOn.{asked, unasked}
use Rattle.credits.proofs.relied.may_come_back.Goals as goal

pub returns-then-not-asks_return : goal.returns-then-not-asks_return
returns-then-not-asks_return g c = λ b tells v there.
    let none = unasked c.args.edition (goes_off (use_view c.args.literal)) b
    (sym c.asks_return.ensures ∙ c.if-not-asks_return.true) in
    (λ e. none, λ h. refl)

pub returns : goal.returns
returns g c = λ b tells v there.
    asked c.args.edition (goes_off (use_view c.args.literal)) b c.comes_back.result
    (sym c.asks_return.ensures ∙ c.if-not-asks_return.false)
    (c.comes_back.ensures b tells.is_graph tells.are_variables tells.classifies v there)
