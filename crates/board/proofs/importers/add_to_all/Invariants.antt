use Rattle.std.proofs.Common.{List, ℕ, drop}
use Rattle.imports.specs.Views.{rows_view}
use Rattle.board.specs.Importers.{AddsImporter}
use Rattle.board.proofs.importers.add_to_all.Given as goal

abbrev pub invariant-loop-import : goal.invariant-loop-import
invariant-loop-import l =
    (end : List (List ℕ))
    → AddsImporter (drop l.import-index l.imports) l.importer (rows_view l.importers.items) end
    → AddsImporter l.imports l.importer (rows_view l.initial.importers.items) end
