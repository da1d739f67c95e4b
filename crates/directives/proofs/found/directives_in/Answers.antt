use Rattle.std.proofs.Common.{◌∙◌, ap, map, sym}
use Rattle.directives.specs.Directives.{directive_view}
use Rattle.directives.proofs.Lines.{none_without}
use Rattle.directives.proofs.found.directives_in.Goals as goal

pub returns : goal.returns
returns c =
    ap (map directive_view) c.new.ensures.items ∙ sym (none_without c.args.text.now _ c.new-finder.ensures c.in-None.ensures)
