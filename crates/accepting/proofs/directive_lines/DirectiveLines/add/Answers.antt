use Rattle.std.proofs.Common.{◌∙◌, ◌≡◌, None, ap, option_map, sym}
use Rattle.std.specs.Prelude.{◌==◌, ◌&&◌}
use Rattle.directives.specs.Directives.{directive_view}
use Rattle.indexmap.specs.IndexMap.{get}
use Rattle.accepting.specs.LinesKept.{is_line, line_in, lines_of}
use Rattle.accepting.proofs.KeptLines.{is_some_seen, line_added, line_there, none_seen, seen_if}
use Rattle.accepting.proofs.directive_lines.DirectiveLines.add.Goals as goal

pub returns-in_ok-insert : goal.returns-in_ok-insert
returns-in_ok-insert c =
    let file = c.args.file in
    let d = c.args.directive in
    let kept = c.args.self.now.directives in
    let none : lines_of c.args.self.now c.args.file c.args.directive.line ≡ None =
    none_seen (get is_line kept (line_in file d.line)) (sym c.if-not-contains_key.ensures) in
    line_added (lines_of c.args.self.now) (lines_of record { directives = c.insert.new.self }) file (directive_view d) none
    (λ other n. ap (option_map directive_view) (c.in_ok-insert.ensures.updates.0 (line_in other n))
    ∙ seen_if ((file == other) && (d.line == n)) d (get is_line kept (line_in other n)))

pub returns-else-not-contains_key : goal.returns-else-not-contains_key
returns-else-not-contains_key c =
    let key = line_in c.args.file c.args.directive.line in
    line_there (lines_of c.args.self.now) c.args.file (directive_view c.args.directive)
    (is_some_seen (get is_line c.args.self.now.directives key) ∙ sym c.if-not-contains_key.ensures)
