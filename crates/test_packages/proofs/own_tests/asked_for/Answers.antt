use Rattle.std.proofs.Common.{◌≡◌, ◌&&◌, ◌||◌, ◌+◌, ◌∷◌, drop, map, bytes_eq, not, refl, rules, ap, sym, ◌∙◌}
use Rattle.std.proofs.lemmas.List.{drop_all, drop_more}
use Rattle.package_list.specs.ListedValues.{package_of}
use Rattle.test_packages.specs.KnownPaths.{knows}
use Rattle.test_packages.specs.ReadPackages.{own_path, asks_for}
use Rattle.test_packages.specs.TestPaths.{is_of_own_tests}
use Rattle.test_packages.proofs.KnownMore.{none_more, told_on}
use Rattle.test_packages.proofs.own_tests.asked_for.Goals as goal

pub loop-listed-init : goal.loop-listed-init
loop-listed-init c = λ path. ap (λ b. b || asks_for (map package_of c.args.packages.now) path) (c.new-paths.ensures path)

pub loop-listed-preserved : goal.loop-listed-preserved
loop-listed-preserved c = λ path.
    let packages = c.args.packages.now in
    let at = c.loop-listed.listed-index in
    let listed = c.listed-item.result in
    told_on (λ es. asks_for es path) _ (knows c.loop-listed.paths path) _
    (not listed.dep_only && bytes_eq (own_path (package_of listed)) path)
    (map package_of (drop at packages)) (map package_of (drop (at + 1) packages)) (package_of listed)
    (ap (map package_of) (drop_more packages at listed c.loop-listed-test.true ∙ ap (λ n. n ∷ drop (at + 1) packages) (sym c.listed-item.is)))
    (search rules) refl (c.loop-listed.invariant path)

pub returns : goal.returns
returns c = λ path.
    sym (none_more (knows c.loop-listed.paths path))
    ∙ ap (λ es. knows c.loop-listed.paths path || asks_for (map package_of es) path)
    (sym (drop_all c.loop-listed.listed-index c.args.packages.now c.loop-listed-test.false))
    ∙ c.loop-listed.invariant path
