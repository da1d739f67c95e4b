use Rattle.std.proofs.Common.{◌∙◌}
use Rattle.std.specs.Prelude.{nat_eq}
use Rattle.indexmap.specs.IndexSet.{contains}
use Rattle.code.proofs.Codes.{on_ok}
use Rattle.flow.specs.GraphViews.{exits_view}
use Rattle.flow.proofs.Falls.{entered_falls}
use Rattle.flow.proofs.exits.Exits.enter_falls.Goals as goal

pub returns : goal.returns
returns c =
    on_ok c.enter_ways.result
    (λ h. record {
      view = (λ i way. h.view way i)
          ∙ entered_falls c.args.falls.now c.args.next.now (contains nat_eq c.in_ok-set.set)
          (exits_view c.args.self.now.entries.items) c.in_ok-set.ensures;
      others = h.others;
    })
    c.enter_ways.ensures
