use Rattle.std.proofs.Common.{◌≡◌, map, true≢false, sym, subst, ◌∙◌, rules}
use Rattle.declared_json.specs.DeclaredPackages.{package_of, AreApart}
use Rattle.declared_json.proofs.PackagesRead.{none_read, not_apart, packages_read}
use Rattle.declared_json.proofs.packages.read_packages.Goals as goal

pub returns-in_default-clause-ok : goal.returns-in_default-clause-ok
returns-in_default-clause-ok c =
    let read = c.in_ok-packages.ensures.ok in
    (read.0, read.1, none_read read.0 c.in_ok-packages.field-0 read.2 c.in_default.is)

pub returns-then-branch-clause-ok : goal.returns-then-branch-clause-ok
returns-then-branch-clause-ok c =
    let read = c.in_ok-packages.ensures.ok in
    let same : c.deref.result.now ≡ c.in-Some.packages.items = search rules in (
      read.0,
      read.1,
      packages_read read.0 c.in_ok-packages.field-0 read.2 c.in-Some.packages c.in-Some.is
          (subst (λ ps. AreApart (map package_of ps)) same (c.in_ok-are_apart.ensures.0 c.if-branch.true)),
    )

pub returns-else-branch-clause-ok : goal.returns-else-branch-clause-ok
returns-else-branch-clause-ok c =
    let read = c.in_ok-packages.ensures.ok in
    let same : c.deref.result.now ≡ c.in-Some.packages.items = search rules in (
      read.0,
      read.1,
      not_apart read.0 c.in_ok-packages.field-0 read.2 c.in-Some.packages c.in-Some.is
          (λ apart. true≢false
          (sym (c.in_ok-are_apart.ensures.1
          (subst (λ ps. AreApart (map package_of ps)) (sym same) apart))
          ∙ c.if-branch.false)),
    )
