-- Files that were read ahead.
use Rattle.std.proofs.Common.{◌≡◌, List, [], ◌∷◌, Option, map, Result, Ok, IfOk, subst}
use Rattle.workers.specs.Outcomes.{AreOutcomes}
use Rattle.load.specs.Ahead.{file_view, AreReadAhead}
use Rattle.load.specs.declared.ahead.FileToRead.{FileToRead}
use Rattle.load.specs.Readings.{IsParsed, Parsed}

-- what came of the files is what was read ahead of them
pub of_outcomes : (files : List FileToRead) (read : List (Option Parsed))
    → AreOutcomes (λ file parsed. IsParsed file.edition file.source.now parsed) files read
    → AreReadAhead (map file_view files) read
of_outcomes [] [] are = tt
of_outcomes [] (t ∷ ts) are = absurd are
of_outcomes (f ∷ fs) [] are = absurd are
of_outcomes (f ∷ fs) (t ∷ ts) are = (are.0, of_outcomes fs ts are.1)

-- what holds of a value if there is one, holds of the one that there is
pub of_ok : {A E : Type 0} (P : A → Type 0) (result : Result A E) (x : A) → result ≡ Ok x → IfOk result P → P x
of_ok P result x is holds = subst (λ r. IfOk r P) is holds
