use Rattle.std.proofs.Common.{arith}
use Rattle.tree.specs.View.{statements_syntax}
use Rattle.body_code.specs.SiteViews.{sites_view}
use Rattle.code.proofs.Codes.{same_code}
use Rattle.body_code.proofs.Parts.{in_their_order, in_any_order}
use Rattle.body_code.proofs.FallingClauses.{none_there, some_there}
use Rattle.body_code.proofs.body.block.Goals as goal

pub returns-then-is_empty : goal.returns-then-is_empty
returns-then-is_empty g c =
    same_code c.statements.result _ _
    (in_their_order (sites_view c.args.sites.now) (statements_syntax c.args.list.now) c.in_ok-jumps.jumps.items c.in_ok-jumps.ensures
    (none_there c.in_ok-jumps.jumps.items _ (omega (arith, c.in_ok-jumps.jumps.ok.0, c.in_ok-jumps.jumps.ok.1)) c.if-is_empty.ensures))
    c.statements.ensures

pub returns : goal.returns
returns g c =
    same_code c.jumping.result _ _
    (in_any_order (sites_view c.args.sites.now) (statements_syntax c.args.list.now) c.in_ok-jumps.jumps.items c.in_ok-jumps.ensures
    (some_there c.in_ok-jumps.jumps.items _ (omega (arith, c.in_ok-jumps.jumps.ok.0, c.in_ok-jumps.jumps.ok.1)) c.if-is_empty.ensures))
    c.jumping.ensures
