use Rattle.std.proofs.Common.{map, sym, ap, ◌∙◌}
use Rattle.declared_json.specs.declared.fault.DeclaredFault.TheVariants.{WrongShape, Reserved}
use Rattle.declared_json.specs.DeclaredPackages.{first_reserved, package_of}
use Rattle.declared_json.proofs.DeclaredLaws.{in_order, newer_again, no_other, only_memory}
use Rattle.declared_json.proofs.PackagesRead.{no_whole, whole_read}
use Rattle.declared_json.proofs.read.from_json.Goals as goal

pub returns-in_default-clause-only_memory : goal.returns-in_default-clause-only_memory
returns-in_default-clause-only_memory c =
    let text = c.args.text.now in
    let read = c.in_ok-packages.ensures.ok in
    only_memory text WrongShape (
      read.0,
      read.1,
      no_whole read.0 c.in_ok-packages.field-0 read.2 c.in_default.is
          (newer_again text c.in_ok-known_version.field-0 read.0 c.in-Newer.is c.in_ok-known_version.ensures.ok read.1),
    )

pub returns-in-Some-first_reserved-clause-only_memory : goal.returns-in-Some-first_reserved-clause-only_memory
returns-in-Some-first_reserved-clause-only_memory c =
    let text = c.args.text.now in
    let read = c.in_ok-packages.ensures.ok in
    only_memory text (Reserved c.in-Some-first_reserved.path) (
      read.0,
      read.1,
      (
        map package_of c.in-Some.packages.items,
        whole_read read.0 c.in_ok-packages.field-0 c.in-Some.packages read.2 c.in-Some.is
            (newer_again text c.in_ok-known_version.field-0 read.0 c.in-Newer.is c.in_ok-known_version.ensures.ok read.1),
        sym (ap (λ ps. first_reserved (map package_of ps)) c.deref.ensures.value)
            ∙ (sym c.first_reserved.ensures ∙ c.in-Some-first_reserved.is),
      ),
    )

pub returns-in-None-clause-in_order : goal.returns-in-None-clause-in_order
returns-in-None-clause-in_order c =
    let text = c.args.text.now in
    let read = c.in_ok-packages.ensures.ok in
    in_order read.0 (map package_of c.in-Some.packages.items)
    (whole_read read.0 c.in_ok-packages.field-0 c.in-Some.packages read.2 c.in-Some.is
    (newer_again text c.in_ok-known_version.field-0 read.0 c.in-Newer.is c.in_ok-known_version.ensures.ok read.1))
    (sym (ap (λ ps. first_reserved (map package_of ps)) c.deref.ensures.value)
    ∙ (sym c.first_reserved.ensures ∙ c.in-None.is))

pub returns-in-None-clause-no_other : goal.returns-in-None-clause-no_other
returns-in-None-clause-no_other c = λ other.
    let text = c.args.text.now in
    let read = c.in_ok-packages.ensures.ok in
    no_other text read.0 (map package_of c.in-Some.packages.items) other read.1
    (whole_read read.0 c.in_ok-packages.field-0 c.in-Some.packages read.2 c.in-Some.is
    (newer_again text c.in_ok-known_version.field-0 read.0 c.in-Newer.is c.in_ok-known_version.ensures.ok read.1))
