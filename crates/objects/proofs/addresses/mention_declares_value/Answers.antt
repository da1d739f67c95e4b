use Rattle.std.proofs.Common.{sym, ap, ◌∙◌}
use Rattle.meaning.specs.Tracked.{is_variable}
use Rattle.objects.proofs.Literals.{only_first, not_second}
use Rattle.objects.proofs.addresses.mention_declares_value.Goals as goal

pub returns-then-is_value : goal.returns-then-is_value
returns-then-is_value c =
    only_first _ _ _ (sym c.if-is_value.true ∙ c.is_value.ensures)
    (c.is_variable.ensures ∙ ap (λ v. is_variable v c.args.number) c.declared_by.ensures)

pub returns : goal.returns
returns c = not_second _ _ (sym c.if-is_value.false ∙ c.is_value.ensures)
