use Rattle.std.proofs.Common.{if◌then◌else◌, ap}
use Rattle.meaning.specs.Code.{then_code}
use Rattle.meaning.specs.StatementCode.{stuck, site}
use Rattle.body_code.specs.SiteViews.{sites_view}
use Rattle.code.proofs.Codes.{same_code}
use Rattle.body_code.proofs.body.expression_statement.Goals as goal

pub returns-then-panics_at : goal.returns-then-panics_at
returns-then-panics_at g c =
    let code = site (sites_view c.args.sites.now) c.args.at in
    same_code c.ending.result (then_code code stuck) _
    (ap (λ b. if b then then_code code stuck else code) c.if-panics_at.ensures) c.ending.ensures
