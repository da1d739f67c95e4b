use Rattle.std.proofs.Common.{◌≡◌, ℕ, List, drop, option_map}
use Rattle.called_parameters.specs.Called.{called_by_path}
use Rattle.facts.specs.FactViews.{table_by_path}
use Rattle.imports.specs.Views.{text_views}
use Rattle.meaning.specs.OuterBlocks.{or_else}
use Rattle.files_to_walk.specs.Signs.{signs_by_path}
use Rattle.given_packages.specs.Neighbours.{nearby_view}
use Rattle.one_package.specs.Results.{declared_among, signs_in}
use Rattle.one_package.proofs.known_imports.add_all_declared.Given as goal

-- what was added, with what is declared of the paths that are left, is the whole
abbrev pub invariant-loop-path : goal.invariant-loop-path
invariant-loop-path l =
    let left = text_views (drop l.path-index l.paths) in
    let all = text_views l.paths in
    ((path : List ℕ)
    → or_else (table_by_path l.signatures path) (option_map (λ t. t.signatures) (declared_among (nearby_view l.near) left path))
    ≡ or_else (table_by_path l.initial.signatures path) (option_map (λ t. t.signatures) (declared_among (nearby_view l.near) all path)))
    × ((path : List ℕ)
    → or_else (called_by_path l.calls path) (option_map (λ t. t.called) (declared_among (nearby_view l.near) left path))
    ≡ or_else (called_by_path l.initial.calls path) (option_map (λ t. t.called) (declared_among (nearby_view l.near) all path)))
    × ((path : List ℕ)
    → or_else (signs_by_path l.signs path) (option_map signs_in (declared_among (nearby_view l.near) left path))
    ≡ or_else (signs_by_path l.initial.signs path) (option_map signs_in (declared_among (nearby_view l.near) all path)))
