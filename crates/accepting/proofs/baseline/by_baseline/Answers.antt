use Rattle.std.proofs.Common.{◌≡◌, ◌<◌, ◌≤◌, ◌^◌, [], ◌∷◌, length, map, sym, ap, ◌∙◌, rules, arith}
use Rattle.std.proofs.lemmas.Bool.Decides.{Decides-eqb}
use Rattle.std.proofs.lemmas.List.{length-map, map-append, nil_from_length}
use Rattle.std.specs.Vec.Iter.{into_iter_items}
use Rattle.baseline_json.specs.BaselineValues.{entry_of}
use Rattle.accepting.specs.ByBaseline.{baseline_keys, by_baseline, key_in}
use Rattle.accepting.specs.Findings.{found_view}
use Rattle.accepting.specs.KeptKeys.{most}
use Rattle.accepting.proofs.ToldByBaseline.{packages_next, same_packages}
use Rattle.accepting.proofs.baseline.by_baseline.Goals as goal

pub returns-then-is_empty : goal.returns-then-is_empty
returns-then-is_empty c =
    let ps = map found_view c.args.packages.items in
    let bs = c.args.baseline.now in
    let none : bs ≡ [] =
    nil_from_length bs ((Decides-eqb (length bs) 0).0 (sym c.is_empty.ensures ∙ c.if-is_empty.true)) in
    sym (ap (λ xs. by_baseline (baseline_keys xs) [] ps) none ∙ same_packages [] ps)

pub loop-one-preserved : goal.loop-one-preserved
loop-one-preserved c =
    let at = c.loop-one in
    let told = at.told.items in
    let one = c.in_ok-tell_package.field-0 in
    let known = c.args.baseline.now in
    let size : length known < 2 ^ 64 = search rules in
    let same = length-map known (λ f. key_in (entry_of f)) in
    let fits : length (baseline_keys known) ≤ most = omega arith in
    packages_next (baseline_keys known) (map found_view c.args.packages.items)
    (map found_view (into_iter_items at.one-iterator)) (map found_view (into_iter_items c.next.new.self))
    (map found_view told) (map found_view c.push.new.self.items) (found_view c.in-Some.one) (found_view one) at.counts
    c.tell_package.new.counts (ap (map found_view) c.in-Some.ensures.steps.0)
    (ap (map found_view) c.in_ok-push.ensures.items ∙ map-append found_view told (one ∷ []))
    (λ stood are. c.in_ok-tell_package.ensures (baseline_keys known) stood fits are)
    at.invariant
