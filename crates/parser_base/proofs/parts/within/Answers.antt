use Rattle.std.proofs.Common.{sym, ap, ◌∙◌}
use Rattle.std.specs.Prelude.{nat_le}
use Rattle.tree.specs.Depth.{expression_depth}
use Rattle.tree.specs.View.{expression_syntax}
use Rattle.parser_base.specs.Places.{go_text}
use Rattle.parser_base.proofs.Places.{most_of}
use Rattle.parser_base.proofs.parts.within.Goals as goal

pub returns : goal.returns
returns c =
    c.fits.ensures ∙ ap (nat_le (expression_depth (expression_syntax c.args.expression.now))) (sym (most_of (go_text c.args.source) c.args.source.below))
