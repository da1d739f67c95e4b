use Rattle.std.proofs.Common.{map, ap, ◌∙◌}
use Rattle.std.specs.List.{list_any}
use Rattle.kept_forms.specs.FormViews.{gift_view}
use Rattle.tracked_rows.specs.RowViews.{known_view}
use Rattle.tree.specs.View.{expression_syntax}
use Rattle.keeping.specs.PlainFiles.{gift_may_put}
use Rattle.keeping.proofs.PlainFiles.{bare_never}
use Rattle.keeping.proofs.may_put.given_may_put.Goals as goal

pub returns-then-is_bare : goal.returns-then-is_bare
returns-then-is_bare c =
    bare_never (known_view c.args.known) c.args.numbers.now (expression_syntax c.args.value.now) c.if-is_bare.ensures

pub returns : goal.returns
returns c =
    c.gifts_may_put.ensures
    ∙ ap (list_any (gift_may_put (known_view c.args.known) c.args.numbers.now))
    (ap (map gift_view) c.deref.ensures.value ∙ c.in_ok-given.ensures)
