use Rattle.std.proofs.Common.{◌≡◌, ◌++◌, drop}
use Rattle.tree.specs.View.{specs_syntax}
use Rattle.meaning.specs.StatementCode.{spec_events}
use Rattle.body_code.specs.SiteViews.{sites_view}
use Rattle.body_code.proofs.site.spec_events.Given as goal

-- what was added with what the rest adds is the whole
abbrev pub invariant-loop-spec : goal.invariant-loop-spec
invariant-loop-spec g l =
    l.events.items ++ spec_events (sites_view l.sites) (specs_syntax (drop l.spec-index l.specs))
    ≡ spec_events (sites_view l.sites) (specs_syntax l.specs)
