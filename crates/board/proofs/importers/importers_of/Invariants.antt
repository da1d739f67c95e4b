use Rattle.imports.specs.Views.{rows_view}
use Rattle.board.proofs.ImportersAdded.{ImportersBefore}
use Rattle.board.proofs.importers.importers_of.Given as goal

abbrev pub invariant-loop-place : goal.invariant-loop-place
invariant-loop-place l = ImportersBefore (rows_view l.imports) l.place (rows_view l.importers.items)
