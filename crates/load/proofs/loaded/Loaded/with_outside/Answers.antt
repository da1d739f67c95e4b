use Rattle.std.proofs.Common.{map, sym, ◌∙◌}
use Rattle.declared_json.specs.DeclaredPackages.{package_of, packages_of}
use Rattle.load.specs.LoadedBeside.{first_place, kept_path}
use Rattle.load.proofs.FirstGiven.{none_there, path_there}
use Rattle.load.proofs.loaded.Loaded.with_outside.Goals as goal

pub returns-in-Some-clause-fault : goal.returns-in-Some-clause-fault
returns-in-Some-clause-fault c =
    let packages = c.deref.ensures.value in
    let declared = c.deref-2.ensures.value in
    let is = c.in-Some.ensures.place ∙ λ i. first_place 0 (map kept_path (packages i)) (map package_of (declared i)) in
    path_there (map kept_path c.args.self.packages.items) c.args.outside.packages.items c.in-Some.place
    c.swap_remove-path.result (sym is) c.swap_remove-path.ensures.value

pub returns-in-None-clause-apart : goal.returns-in-None-clause-apart
returns-in-None-clause-apart c =
    let packages = c.deref.ensures.value in
    let declared = c.deref-2.ensures.value in
    let is = c.in-None.ensures.place ∙ λ i. first_place 0 (map kept_path (packages i)) (map package_of (declared i)) in
    none_there 0 (map kept_path c.args.self.packages.items) (packages_of c.args.outside) (sym is)
