use Rattle.std.proofs.Common.{map, ap}
use Rattle.meaning.specs.Code.{skip}
use Rattle.meaning.specs.StatementCode.{one_of, jumping_code}
use Rattle.body_parts.specs.PartViews.{part_view}
use Rattle.body_code.specs.SiteViews.{sites_view}
use Rattle.code.proofs.Codes.{code_view-Skip, same_code}
use Rattle.body_code.proofs.jumping.jumping.Goals as goal

pub returns : goal.returns
returns g c =
    same_code c.turns.result _ _ (ap (jumping_code (sites_view c.args.sites.now)) c.in_ok-parts.ensures)
    (c.turns.ensures skip _ code_view-Skip (c.one_turn.ensures _ skip
    (same_code c.one_part-once.result _ _ (ap (λ l. one_of (sites_view c.args.sites.now) (map part_view l)) c.deref.ensures.value)
    c.one_part-once.ensures) code_view-Skip))
