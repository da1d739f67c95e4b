use Rattle.std.proofs.Common.{◌≡◌, None, option_map, drop}
use Rattle.meaning.specs.Mentions.{last_row}
use Rattle.mentions.specs.MarkViews.{row_view}
use Rattle.tree.specs.View.{specs_syntax}
use Rattle.marks.proofs.rows.last_row.Given as goal

-- the row of the rest, or else the last so far
abbrev pub invariant-loop-spec : goal.invariant-loop-spec
invariant-loop-spec l =
    last_row l.keyword l.at (option_map row_view l.row) (specs_syntax (drop l.spec-index l.specs))
    ≡ last_row l.keyword l.at None (specs_syntax l.specs)
