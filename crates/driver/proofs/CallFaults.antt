-- How words fail that are no call of the go command.
use Rattle.std.proofs.Common.{◌≡◌, ℕ, List, Option, None, IfErr, Result, Ok, Err, subst}
use Rattle.command_line.specs.VetWords.{vet_call}
use Rattle.folders.specs.declared.fault.Fault.{Fault}
use Rattle.driver.specs.Faults.{IsRunFault, LeavesUnwritten}
use Rattle.driver.specs.WrittenReport.{FailsBy, LeavesBegun, LeavesWhole}

-- what is said of the fault of such words, put together
pub words_fail : {T : Type 0} (r : Result T Fault) (words : List (List ℕ)) (old new : Option (List ℕ))
    → None ≡ vet_call words
    → IfErr r (IsRunFault words)
    → IfErr r (λ fault. LeavesUnwritten fault old new)
    → IfErr r (λ fault. LeavesBegun words fault old new)
    → IfErr r (λ fault. LeavesWhole words fault old new)
    → IfErr r (FailsBy (vet_call words) words old new)
words_fail (Ok x) words old new none is unwritten begun whole = tt
words_fail (Err fault) words old new none is unwritten begun whole =
    subst (λ call. FailsBy call words old new fault) none
    (record { is_fault = is; unwritten = unwritten; begun = begun; whole = whole })
