use Rattle.std.proofs.Common.{map, ap, ◌∙◌}
use Rattle.std.specs.Prelude.{◌==◌}
use Rattle.std.specs.List.{filter}
use Rattle.kept.specs.KeptViews.{keep_view, write_view}
use Rattle.kept.proofs.sides.by_sides.Goals as goal

pub returns : goal.returns
returns c = record {
  by_variable = λ n. c.in_ok-variables.ensures n
      ∙ ap (λ ks. filter (λ k. k.variable == n) (map keep_view ks)) c.deref.ensures.value;
  by_object = λ n. c.in_ok-objects.ensures n
      ∙ ap (λ ks. filter (λ k. k.object == n) (map keep_view ks)) c.deref-2.ensures.value;
  writes = λ n. c.in_ok-writes.ensures n
      ∙ ap (λ ws. filter (λ w. w.object == n) (map write_view ws)) c.deref-3.ensures.value;
}
