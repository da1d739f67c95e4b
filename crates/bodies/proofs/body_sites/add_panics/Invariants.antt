use Rattle.std.proofs.Common.{drop}
use Rattle.body_code.specs.SiteViews.{sites_view}
use Rattle.bodies.proofs.SitesAdded.{PanicsLeft}
use Rattle.bodies.proofs.body_sites.add_panics.Given as goal

-- what was added, with what is left, is the whole
abbrev pub invariant-loop-site : goal.invariant-loop-site
invariant-loop-site l =
    PanicsLeft (drop l.site-index l.panics) l.panics (sites_view l.initial.sites) (sites_view l.sites)
