use Rattle.std.proofs.Common.{refl, ap, ◌∙◌}
use Rattle.std.proofs.lemmas.Result.{on_ok_weaker}
use Rattle.meaning.specs.OuterBlocks.{or_else}
use Rattle.meaning.specs.Scopes.{parameters_named}
use Rattle.tree.specs.View.{parameters_syntax}
use Rattle.use_reasons.specs.ReasonViews.{reason_in}
use Rattle.use_reasons.specs.UseReasons.{result_named}
use Rattle.use_reasons.proofs.FirstReasons.{adds_none}
use Rattle.use_reasons.proofs.uses.add_mark.Goals as goal

pub returns-in-Mentions : goal.returns-in-Mentions
returns-in-Mentions c = rw c.in-Mentions.is c.add_mention.ensures

pub returns-in-Opens : goal.returns-in-Opens
returns-in-Opens c =
    rw c.in-Opens.is
    (on_ok_weaker c.add_results.result
    (λ adds. record {
      compared = adds_none (reason_in c.args.told.now.compared) _ (λ n. refl);
      cancels = adds_none (reason_in c.args.told.now.cancels) _ (λ n. refl);
      groups = adds_none (reason_in c.args.told.now.groups) _ (λ n. refl);
      pointers = λ n.
          adds n
          ∙ ap
          (λ ps. or_else (reason_in c.args.told.now.pointers n) (result_named n (parameters_named (parameters_syntax ps))))
          c.deref.ensures.value;
    })
    c.add_results.ensures)

pub returns-in-OfFields : goal.returns-in-OfFields
returns-in-OfFields c =
    rw c.in-OfFields.is
    (record {
      compared = adds_none (reason_in c.args.told.now.compared) _ (λ n. refl);
      cancels = adds_none (reason_in c.args.told.now.cancels) _ (λ n. refl);
      groups = adds_none (reason_in c.args.told.now.groups) _ (λ n. refl);
      pointers = adds_none (reason_in c.args.told.now.pointers) _ (λ n. refl);
    })

pub returns-in-RunsLiteral : goal.returns-in-RunsLiteral
returns-in-RunsLiteral c =
    rw c.in-RunsLiteral.is
    (record {
      compared = adds_none (reason_in c.args.told.now.compared) _ (λ n. refl);
      cancels = adds_none (reason_in c.args.told.now.cancels) _ (λ n. refl);
      groups = adds_none (reason_in c.args.told.now.groups) _ (λ n. refl);
      pointers = adds_none (reason_in c.args.told.now.pointers) _ (λ n. refl);
    })

pub returns-in-Returns : goal.returns-in-Returns
returns-in-Returns c =
    rw c.in-Returns.is
    (record {
      compared = adds_none (reason_in c.args.told.now.compared) _ (λ n. refl);
      cancels = adds_none (reason_in c.args.told.now.cancels) _ (λ n. refl);
      groups = adds_none (reason_in c.args.told.now.groups) _ (λ n. refl);
      pointers = adds_none (reason_in c.args.told.now.pointers) _ (λ n. refl);
    })

pub returns-in-Closes : goal.returns-in-Closes
returns-in-Closes c =
    rw c.in-Closes.is
    (record {
      compared = adds_none (reason_in c.args.told.now.compared) _ (λ n. refl);
      cancels = adds_none (reason_in c.args.told.now.cancels) _ (λ n. refl);
      groups = adds_none (reason_in c.args.told.now.groups) _ (λ n. refl);
      pointers = adds_none (reason_in c.args.told.now.pointers) _ (λ n. refl);
    })
