use Rattle.std.proofs.Common.{ap, ◌∙◌}
use Rattle.std.proofs.lemmas.Result.{on_ok_weaker}
use Rattle.meaning.specs.OuterBlocks.{or_else}
use Rattle.use_reasons.specs.ReasonViews.{reason_in}
use Rattle.use_reasons.specs.UseReasons.{only_of}
use Rattle.use_reasons.proofs.uses.add_mention.Goals as goal

pub returns : goal.returns
returns c =
    let at = c.args.mention.named.at in
    let told = c.args.told.now in
    on_ok_weaker c.add_capture.result
    (λ adds. record {
      compared = c.in_ok-add_compared.ensures;
      cancels = λ n.
          c.in_ok-add.ensures n
          ∙ ap (λ r. or_else (reason_in told.cancels n) (only_of at r n)) c.cancel_told-of_cancel.ensures;
      groups = λ n.
          c.in_ok-add-2.ensures n
          ∙ ap (λ r. or_else (reason_in told.groups n) (only_of at r n)) c.group_told-of_group.ensures;
      pointers = adds;
    })
    c.add_capture.ensures
