use Rattle.std.proofs.Common.{[], sym, ◌∙◌, subst}
use Rattle.first_values.specs.ValuesByName.{value_of}
use Rattle.given_packages.specs.Neighbours.{TellsNearby}
use Rattle.given_packages.proofs.ToldNear.{told_near}
use Rattle.given_packages.proofs.told_neighbours.ToldNeighbours.beside.Goals as goal

pub returns : goal.returns
returns c = λ tables ps i p imported keeps is_p rank are declared marked.
    let others = value_of c.args.declared.now.packages in
    let counted = c.deref.ensures.value ∙ keeps.are_counted in
    subst (TellsNearby tables ps p) (λ j. record {
      places = λ path. sym (keeps.are_places path) j;
      unranked = [];
      counted = sym counted j;
      names = λ path. sym (keeps.are_names path) j;
      declared = others;
    }) (told_near ps i p is_p rank imported are tables others declared marked)
