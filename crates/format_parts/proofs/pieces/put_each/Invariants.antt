use Rattle.std.proofs.Common.{◌≡◌, ◌++◌, flat_map, take}
use Rattle.format_parts.specs.Pieces.{piece_text}
use Rattle.format_parts.proofs.pieces.put_each.Given as goal

abbrev pub invariant-loop-piece : goal.invariant-loop-piece
invariant-loop-piece g l =
    (g.S.Sink.taken l.sink ≡ g.S.Sink.taken l.initial.sink ++ flat_map piece_text (take l.piece-index l.pieces))
    × (g.S.Sink.refusals l.sink ≡ g.S.Sink.refusals l.initial.sink)
