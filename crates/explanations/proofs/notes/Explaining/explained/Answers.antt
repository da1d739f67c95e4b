use Rattle.std.proofs.Common.{◌≡◌, ℕ, List, map, ap, ◌∙◌}
use Rattle.std.specs.declared.alloc.Global.{Global}
use Rattle.std.specs.declared.vec.Vec.{Vec}
use Rattle.std.proofs.lemmas.List.{get_or_default}
use Rattle.body_ways.specs.declared.told.ToldFault.{ToldFault}
use Rattle.report.specs.Entries.{Entry}
use Rattle.explanations.proofs.Noted.{more_explained}
use Rattle.explanations.specs.Found.{offsets_by_ways}
use Rattle.explanations.specs.KeptUses.{uses_view}
use Rattle.explanations.specs.ToldViews.{ways_view}
use Rattle.explanations.proofs.notes.Explaining.explained.Goals as goal

same_ways : {ws vs : List (Vec ToldFault Global)} (e : Entry) (o : List ℕ)
    → o ≡ offsets_by_ways (ways_view ws) e → ws ≡ vs → o ≡ offsets_by_ways (ways_view vs) e
same_ways e o is same = is ∙ ap (λ ways. offsets_by_ways (ways_view ways) e) same

pub loop-diagnostic-preserved : goal.loop-diagnostic-preserved
loop-diagnostic-preserved c =
    let own = c.args.self.now in
    let all = c.args.diagnostics.now in
    let i = c.loop-diagnostic.diagnostic-index in
    more_explained own.sources.now (ways_view own.reasons.ways.items) (map uses_view own.reasons.uses.items) all i _ c.in_ok-notes.notes
    c.in_ok-way.way c.loop-diagnostic.explained.items c.push.new.self.items c.loop-diagnostic-test.true
    (get_or_default all i _ _ c.loop-diagnostic-test.true) c.in_ok-push.ensures.items c.loop-diagnostic.invariant
    c.in_ok-notes.ensures.ways (same_ways _ _ c.in_ok-way.ensures c.deref.ensures.value)
    c.in_ok-notes.ensures.uses
