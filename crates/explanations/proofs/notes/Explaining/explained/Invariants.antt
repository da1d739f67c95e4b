use Rattle.std.proofs.Common.{◌≡◌, ◌++◌, drop, map}
use Rattle.explanations.specs.Found.{AreNotesByWays}
use Rattle.explanations.specs.KeptUses.{uses_view, AreNotesByUses}
use Rattle.report.specs.Notes.{plain_of}
use Rattle.explanations.specs.ToldViews.{ways_view}
use Rattle.explanations.proofs.notes.Explaining.explained.Given as goal

-- what was explained, with what is left, is the whole, and has its notes
abbrev pub invariant-loop-diagnostic : goal.invariant-loop-diagnostic
invariant-loop-diagnostic l =
    (plain_of l.explained.items ++ drop l.diagnostic-index l.diagnostics ≡ l.diagnostics)
    × (AreNotesByWays l.self.sources.now (ways_view l.self.reasons.ways.items) l.explained.items
    × AreNotesByUses l.self.sources.now (map uses_view l.self.reasons.uses.items) l.explained.items)
