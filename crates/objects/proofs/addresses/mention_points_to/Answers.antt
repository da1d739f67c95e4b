use Rattle.std.proofs.Common.{sym, ap, ◌∙◌}
use Rattle.meaning.specs.Tracked.{is_variable}
use Rattle.objects.proofs.Literals.{only_first, not_second}
use Rattle.objects.proofs.addresses.mention_points_to.Goals as goal

pub returns-then-is_address : goal.returns-then-is_address
returns-then-is_address c =
    only_first _ _ _ (sym c.if-is_address.true ∙ c.is_address.ensures)
    (c.is_variable.ensures ∙ ap (λ v. is_variable v c.args.number) c.variable_of.ensures)

pub returns : goal.returns
returns c = not_second _ _ (sym c.if-is_address.false ∙ c.is_address.ensures)
