-- The rule of a code has its number.
use Rattle.std.proofs.Common.{◌≡◌, Some, slice_get, refl}
use Rattle.std.specs.Prelude.{option_map}
use Rattle.report.specs.declared.codes.DiagnosticCode.{DiagnosticCode}
use Rattle.report.specs.declared.codes.DiagnosticCode.TheVariants.{Unreadable, LeftOut, Discarded, Overwritten, NotCalled, CancelMisused, GroupIsLive, GroupOverwritten, GroupMisused, LeftToLiveGroup, BoundAgain, TooMany, ImportIsNotYes, ImportHasNoRank, TwoFunctions, NoCertificate, AcceptsNothing}
use Rattle.report.specs.declared.codes.Wording.TheVariants.{Second}
use Rattle.report.specs.Codes.{code_number}
use Rattle.sarif.specs.SarifCodes.{rule_codes, rule_index}

pub its_rule : (code : DiagnosticCode)
    → option_map code_number (slice_get (rule_codes Second) (rule_index code)) ≡ Some (code_number code)
its_rule (Unreadable why) = refl
its_rule (LeftOut why) = refl
its_rule Discarded = refl
its_rule Overwritten = refl
its_rule NotCalled = refl
its_rule CancelMisused = refl
its_rule GroupIsLive = refl
its_rule GroupOverwritten = refl
its_rule GroupMisused = refl
its_rule LeftToLiveGroup = refl
its_rule BoundAgain = refl
its_rule TooMany = refl
its_rule ImportIsNotYes = refl
its_rule ImportHasNoRank = refl
its_rule TwoFunctions = refl
its_rule NoCertificate = refl
its_rule AcceptsNothing = refl
