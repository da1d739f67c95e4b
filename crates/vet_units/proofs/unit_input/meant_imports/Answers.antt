use Rattle.std.proofs.Common.{◌≡◌, ◌∙◌, ◌++◌, ◌∷◌, ℕ, Bor, List, [], ap, drop, map, refl, sym}
use Rattle.std.proofs.lemmas.List.{append-nil, drop_all}
use Rattle.load.specs.MeantPaths.{MeantPath, meant_of}
use Rattle.unit_config.specs.UnitValues.{unit_of}
use Rattle.vet_units.specs.UnitsRead.{meant_path_of}
use Rattle.vet_units.proofs.unit_input.meant_imports.Goals as goal

by_values : (f : List ℕ → MeantPath) (ks : List (Bor (List ℕ))) → map (λ k. f k.now) ks ≡ map f (map (λ k. k.now) ks)
by_values f [] = refl
by_values f (k ∷ ks) = ap (λ xs. f k.now ∷ xs) (by_values f ks)

pub returns : goal.returns
returns c =
    let said : List ℕ → MeantPath = meant_path_of (unit_of c.args.unit.now) in
    let paths = c.deref-path-items.result.now in
    let made = map meant_of c.loop-path.imports.items in
    let none : drop c.loop-path.path-index paths ≡ [] = drop_all c.loop-path.path-index paths c.loop-path-test.false in (
      map (λ (k : Bor (List ℕ)). k.now) c.in_ok-paths.paths.items,
      c.in_ok-paths.ensures,
      sym (append-nil made)
          ∙ (ap (λ (ks : List (Bor (List ℕ))). made ++ map (λ k. said k.now) ks) (sym none)
          ∙ (c.loop-path.invariant
          ∙ (ap (λ (ks : List (Bor (List ℕ))). map (λ k. said k.now) ks) c.deref-path-items.ensures.value
          ∙ by_values said c.in_ok-paths.paths.items))),
    )
