-- The laws of the crates below on which the agreement rests.
use Rattle.certificates.specs.LeastLaws.{LeastHolds, LeastSettles}
use Rattle.checker.specs.CheckerLaws.{KeepsClaims}
use Rattle.verifier.specs.VerifierLaws.{CreditsAreFair, NothingIsFound}

pub record LowerLaws : Type 0 where
  pub least_holds : LeastHolds
  pub least_settles : LeastSettles
  pub keeps_claims : KeepsClaims
  pub credits_are_fair : CreditsAreFair
  pub nothing_is_found : NothingIsFound
