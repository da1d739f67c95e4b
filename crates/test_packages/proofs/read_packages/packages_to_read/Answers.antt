use Rattle.std.proofs.Common.{◌≡◌, ◌+◌, ◌∷◌, ◌++◌, [], drop, map, option_map, refl, rules, ap, subst, sym, ◌∙◌}
use Rattle.std.proofs.lemmas.List.{append-nil, drop_all, drop_more}
use Rattle.package_list.specs.ListedValues.{package_of}
use Rattle.test_packages.specs.KnownPaths.{firsts_of, knows}
use Rattle.test_packages.specs.ReadPackages.{asks_for, entry_of, has_own_tests, none_yet, read_from}
use Rattle.test_packages.proofs.KnownMore.{reads_on}
use Rattle.test_packages.proofs.read_packages.packages_to_read.Goals as goal

pub loop-listed-init : goal.loop-listed-init
loop-listed-init c =
    ap (λ read. map entry_of read
    ++ read_from (knows c.in_ok-own_tests.own_tests) (knows c.in_ok-asked.asked) (firsts_of c.new-firsts.result) (map package_of c.args.packages.now))
    c.new-read.ensures.items
    ∙ λ i. read_from (knows c.in_ok-own_tests.own_tests) (knows c.in_ok-asked.asked)
    (λ path. ap (option_map (λ listed. package_of listed.now)) (c.new-firsts.ensures path) i) (map package_of c.args.packages.now)

pub loop-listed-preserved : goal.loop-listed-preserved
loop-listed-preserved c =
    let packages = c.args.packages.now in
    let at = c.loop-listed.listed-index in
    let listed = c.listed-item.result in
    reads_on (knows c.in_ok-own_tests.own_tests) (knows c.in_ok-asked.asked) (firsts_of c.loop-listed.firsts) (package_of listed)
    (map package_of (drop (at + 1) packages)) (map entry_of c.loop-listed.read.items) _ _ (map package_of (drop at packages)) _
    (option_map entry_of c.read_one-one.result) c.in_ok-is_counted.is_counted
    (ap (map package_of) (drop_more packages at listed c.loop-listed-test.true ∙ ap (λ n. n ∷ drop (at + 1) packages) (sym c.listed-item.is)))
    (search rules) (search rules) (search rules) (search rules) c.loop-listed.invariant

pub returns : goal.returns
returns c =
    let packages = c.args.packages.now in
    sym (append-nil (map entry_of c.loop-listed.read.items))
    ∙ ap (λ es. map entry_of c.loop-listed.read.items
    ++ read_from (knows c.in_ok-own_tests.own_tests) (knows c.in_ok-asked.asked) (firsts_of c.loop-listed.firsts) (map package_of es))
    (sym (drop_all c.loop-listed.listed-index packages c.loop-listed-test.false))
    ∙ c.loop-listed.invariant
    ∙ λ i. read_from (λ path. c.in_ok-own_tests.ensures path i) (λ path. c.in_ok-asked.ensures path i) none_yet (map package_of packages)
