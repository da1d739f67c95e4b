use Rattle.std.proofs.Common.{◌≡◌, ◌++◌, drop, map}
use Rattle.code.specs.CodeViews.{codes_view}
use Rattle.body_parts.specs.PartViews.{part_view}
use Rattle.body_code.specs.SiteViews.{sites_view}
use Rattle.body_code.proofs.Parts.{part_codes}
use Rattle.body_code.proofs.jumping.one_part.Given as goal

-- what was added with what the rest adds is the whole
abbrev pub invariant-loop-part : goal.invariant-loop-part
invariant-loop-part g l =
    codes_view l.codes.items ++ part_codes (sites_view l.sites) (map part_view (drop l.part-index l.parts))
    ≡ part_codes (sites_view l.sites) (map part_view l.parts)
