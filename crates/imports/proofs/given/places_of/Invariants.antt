use Rattle.std.proofs.Common.{◌≡◌, ◌++◌, drop, filter_map}
use Rattle.imports.specs.Views.{at_path, text_views}
use Rattle.imports.proofs.given.places_of.Given as goal

abbrev pub invariant-loop-path : goal.invariant-loop-path
invariant-loop-path l =
    l.found.items ++ filter_map (at_path l.places) (text_views (drop l.path-index l.paths))
    ≡ filter_map (at_path l.places) (text_views l.paths)
