use Rattle.std.proofs.Common.{ap, ◌∙◌}
use Rattle.imports.specs.Settling.{place_from}
use Rattle.imports.specs.Views.{packages_view}
use Rattle.given_packages.proofs.told_neighbours.ToldNeighbours.of.Goals as goal

pub returns : goal.returns
returns c = record {
  are_places = λ path.
      c.in_ok-places.ensures path
      ∙ ap (λ ls. place_from path ls 0) (ap packages_view c.deref.ensures.value ∙ c.in_ok-lists.ensures);
  are_counted = c.in_ok-counted.ensures;
  are_names = c.in_ok-names.ensures;
}
