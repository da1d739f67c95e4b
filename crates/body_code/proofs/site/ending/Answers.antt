use Rattle.std.proofs.Common.{None, ap, ◌∙◌}
use Rattle.meaning.specs.StatementCode.{stuck}
use Rattle.code.specs.CodeViews.{one_of, codes_view}
use Rattle.code.proofs.Codes.{code_view-Choice}
use Rattle.body_code.proofs.site.ending.Goals as goal

pub returns : goal.returns
returns g c =
    c.then.ensures _ stuck c.site-events.ensures
    (code_view-Choice _ ∙ ap (λ l. one_of (codes_view l) None) c.new.ensures.items)
