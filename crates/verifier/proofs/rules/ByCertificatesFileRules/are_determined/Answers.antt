use Rattle.std.proofs.Common.{refl}
use Rattle.verifier.specs.GivenViews.{given_by}
use Rattle.verifier.proofs.OneVerified.{flags_are_determined}
use Rattle.verifier.proofs.rules.ByCertificatesFileRules.are_determined.Goals as goal

pub returns-clause-flags : goal.returns-clause-flags
returns-clause-flags c = λ declared. flags_are_determined (given_by c.args.self.now)

pub returns-clause-declared : goal.returns-clause-declared
returns-clause-declared c = λ declared. refl
