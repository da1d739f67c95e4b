use Rattle.body_code.specs.SiteViews.{sites_view}
use Rattle.code.proofs.Codes.{code_view-Does, same_code}
use Rattle.body_code.proofs.Bodies.{whole_body}
use Rattle.body_code.proofs.body.body_code.Goals as goal

pub returns : goal.returns
returns g c =
    same_code c.then-2.result _ _
    (whole_body (sites_view c.args.sites.now) c.args.braces c.last_brace.result c.other.result c.returns.result _
    c.last_brace.ensures c.other.ensures c.returns.ensures)
    (c.then-2.ensures _ _ (code_view-Does _) (c.then.ensures _ _ c.block-inner.ensures (code_view-Does _)))
