use Rattle.std.proofs.Common.{◌∙◌, ap, map}
use Rattle.directives.specs.Directives.{directive_view}
use Rattle.accepting.specs.ByLines.{all_directives, on_line}
use Rattle.accepting.specs.LinesKept.{lines_of}
use Rattle.accepting.proofs.KeptLines.{file_lines}
use Rattle.accepting.proofs.directive_lines.directive_lines.Goals as goal

pub loop-file-preserved : goal.loop-file-preserved
loop-file-preserved c = λ other n.
    file_lines c.loop-file.file other n (lines_of c.loop-file.lines other n) (lines_of c.add_all.new.self other n)
    (on_line (all_directives c.args.sources.now) other n)
    c.args.sources.now c.index-sources-file.result c.deref.result.now c.deref-in-loop-file.result.now
    c.loop-file-test.true c.index-sources-file.is c.deref.ensures.value
    (ap (map directive_view) c.deref-in-loop-file.ensures.value ∙ c.in_ok-found.ensures)
    (c.in_ok-add_all.ensures other n) (c.loop-file.invariant other n)
