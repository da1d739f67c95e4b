use Rattle.std.proofs.Common.{ap, sym, ◌∙◌}
use Rattle.std.proofs.lemmas.Result.{on_ok_weaker}
use Rattle.meaning.specs.OuterBlocks.{or_else}
use Rattle.names.proofs.Adding.{or_else-none}
use Rattle.use_reasons.specs.ReasonViews.{reason_in}
use Rattle.use_reasons.specs.UseReasons.{only_of}
use Rattle.use_reasons.proofs.pointers.add_name.Goals as goal

pub returns : goal.returns
returns c =
    on_ok_weaker c.add.result
    (λ adds n. adds n ∙ ap (or_else (reason_in c.args.pointers.now n))
    (ap (λ r. only_of c.args.name.now.span.start r n) c.pointing.ensures ∙ sym (or_else-none _)))
    c.add.ensures
