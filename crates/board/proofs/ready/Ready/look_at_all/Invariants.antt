use Rattle.std.proofs.Common.{drop}
use Rattle.imports.specs.Views.{rank_of, rows_view}
use Rattle.board.specs.Ready.{Stands, ready_view}
use Rattle.board.proofs.ready.Ready.look_at_all.Given as goal

abbrev pub invariant-loop-index : goal.invariant-loop-index
invariant-loop-index l =
    Stands (rows_view l.imports) (rank_of l.order) l.phases (drop l.index l.places) (ready_view l.self)
