use Rattle.std.proofs.Common.{◌≡◌, ◌+◌, ◌∷◌, ℕ, List, Contains, Option, true, false, drop, map, option_map, refl, rules, ◌∙◌, ap, subst, sym}
use Rattle.std.proofs.lemmas.List.{drop_all, drop_more}
use Rattle.std.specs.Prelude.{flat_map}
use Rattle.folders.proofs.HandedOn.{handed_on}
use Rattle.folders.proofs.ReadFaults.{read_among}
use Rattle.folders.specs.ReadFaults.{IsReadFaultOf}
use Rattle.test_packages.specs.ReadPackages.{entry_of}
use Rattle.inputs.specs.Packages.{has_files, shown_files}
use Rattle.inputs.proofs.FaultsRead.{in_flat}
use Rattle.inputs.proofs.ListedPackages.{adds_all, adds_next, adds_no_package, adds_none, AddsSo}
use Rattle.inputs.proofs.listed_packages.add_listed.Goals as goal
use Rattle.inputs.proofs.listed_packages.add_listed.Goals.{then-has_files+in_ok-read_listed+in_ok-push, else-has_files+in_ok-note_empty}

pub loop-read-init : goal.loop-read-init
loop-read-init g c =
    adds_none c.args.edition (option_map (λ h. h.now) c.as_deref-here.result) (map entry_of c.args.packages.now) c.args.given.now.items
    c.args.given.now.items (map entry_of c.args.packages.now) refl refl

pub loop-read-preserved : goal.loop-read-preserved
loop-read-preserved g c =
    let edition = c.args.edition in
    let here = option_map (λ h. h.now) c.as_deref-here.result in
    let packages = c.args.packages.now in
    let all = map entry_of packages in
    let before = c.args.given.now.items in
    let at = c.loop-read.read-index in
    let read = c.read-item.result in
    let old = map entry_of (drop at packages) in
    let left = map entry_of (drop (at + 1) packages) in
    let now = c.loop-read.given.items in
    let is : old ≡ entry_of read ∷ left
    = ap (map entry_of) (drop_more packages at read c.loop-read-test.true ∙ ap (λ n. n ∷ drop (at + 1) packages) (sym c.read-item.is)) in
    elim c.if-has_files.branch [
      | then-has_files+in_ok-read_listed+in_ok-push w ↦
          (let some : has_files (entry_of read) ≡ true = search rules in
          adds_next edition here all before now c.if-has_files.given.items old left (entry_of read) w.in_ok-read_listed.field-0 is some
          w.in_ok-read_listed.ensures.read (search rules) c.loop-read.invariant)
      | else-has_files+in_ok-note_empty w ↦
          (let none : has_files (entry_of read) ≡ false = search rules in
          let same : now ≡ c.if-has_files.given.items = search rules in
          subst (λ given. AddsSo edition here all before given left) same
          (adds_no_package edition here all before now old left (entry_of read) is none c.loop-read.invariant))
    ]

pub returns-clause-added : goal.returns-clause-added
returns-clause-added g c =
    adds_all c.args.edition (option_map (λ h. h.now) c.as_deref-here.result) (map entry_of c.args.packages.now) c.args.given.now.items
    c.loop-read.given.items (map entry_of (drop c.loop-read.read-index c.args.packages.now))
    (ap (map entry_of) (drop_all c.loop-read.read-index c.args.packages.now c.loop-read-test.false)) c.loop-read.invariant

pub returns-in_err-read_listed-clause-fault : goal.returns-in_err-read_listed-clause-fault
returns-in_err-read_listed-clause-fault g c =
    let here = option_map (λ h. h.now) c.as_deref-here.result in
    let packages = c.args.packages.now in
    let read = c.read-item.result in
    let at = c.loop-read.read-index in
    let fault = c.in_err-read_listed.field-0.0 in
    handed_on c.from_residual-in_err-read_listed.result fault
    (IsReadFaultOf (λ name. (x : Option (List ℕ)) × Contains (flat_map (shown_files x) (map entry_of packages)) name))
    c.from_residual-in_err-read_listed.ensures.1
    (read_among (Contains (shown_files here (entry_of read)))
    (λ name. (x : Option (List ℕ)) × Contains (flat_map (shown_files x) (map entry_of packages)) name) fault
    (λ name is. (here, in_flat here packages read name at c.loop-read-test.true (sym c.read-item.is) is))
    c.in_err-read_listed.ensures.fault)
