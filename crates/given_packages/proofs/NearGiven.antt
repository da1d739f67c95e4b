-- What is known of all given packages is right about what each of them imports.
use Rattle.std.proofs.Common.{List, is_some, ap}
use Rattle.meaning_reports.specs.Loaded.{LoadedPackage, Tables}
use Rattle.given_packages.specs.declared.given.Given.{Given}
use Rattle.given_packages.specs.Given.{TellsGiven}
use Rattle.given_packages.specs.Neighbours.{nearby_in, TellsNearby}

pub near_given : (declared : Tables) (ps : List LoadedPackage) (given : Given) → TellsGiven declared ps given
    → (p : LoadedPackage) → TellsNearby declared ps p (nearby_in given)
near_given declared ps given tells p = record {
  are_given = λ path names. ap is_some (tells.are_places path);
  are_unranked = λ path names. tells.are_unranked path;
  are_counted = λ path j names place. tells.are_counted path j place;
  are_names = λ path names. tells.are_names path;
  are_declared = tells.are_declared;
  are_marked = tells.are_marked;
}
