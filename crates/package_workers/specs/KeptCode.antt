-- By what proofs tell values of `Kept` apart. What is said (`Judged`) holds maps, for which no code is found by itself,
-- and names a lifetime, on which its code does not depend.
use Rattle.std.specs.Prelude.{ℕ, [], refl}
use Rattle.std.specs.Coded.{Coded, code_by, coded×, coded_ℕ}
use Rattle.one_package.specs.contracts.judged.Judged.{the_row}
use Rattle.one_package.specs.declared.judged.Judged.{Judged}
use Rattle.package_workers.specs.Results.{Kept}
use mir.Syntax.{named}

abbrev pub judged_code : Coded Judged
judged_code = (the_row (record { mir = named 0; lft = [] })).coded

abbrev pub kept_code : Coded Kept
kept_code =
    code_by (ℕ × Judged) (coded× coded_ℕ judged_code) (λ k. (k.place, k.judged))
    (λ p. record { place = p.0; judged = p.1 }) (λ _. refl)
