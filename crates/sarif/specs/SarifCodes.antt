-- What SARIF says of codes: the rules, one for each number, and how grave a code is.
use Rattle.std.specs.Prelude.{ℕ, Bool, true, false, List, [], ◌∷◌, codes}
use Rattle.report.specs.Codes.{code_words}
use Rattle.report.specs.declared.codes.DiagnosticCode.{DiagnosticCode}
use Rattle.report.specs.declared.codes.DiagnosticCode.TheVariants.{Unreadable, LeftOut, Discarded, Overwritten, NotCalled, CancelMisused, GroupIsLive, GroupOverwritten, GroupMisused, LeftToLiveGroup, BoundAgain, TooMany, ImportIsNotYes, ImportHasNoRank, TwoFunctions, NoCertificate, AcceptsNothing}
use Rattle.report.specs.declared.codes.Wording.{Wording}
use Rattle.report.specs.declared.codes.Wording.TheVariants.{First, Second}
use Rattle.report.specs.declared.codes.TextFault.TheVariants.{NotUtf8}
use Rattle.report.specs.declared.codes.TreeFault.TheVariants.{UnexpectedToken}

-- a code for each rule, in the order of their numbers; by the first edition of the rules no line accepts anything
abbrev pub first_codes : List DiagnosticCode
first_codes =
    Unreadable NotUtf8 ∷ LeftOut UnexpectedToken ∷ Discarded ∷ Overwritten ∷ NotCalled ∷ CancelMisused ∷ GroupIsLive
    ∷ GroupOverwritten ∷ GroupMisused ∷ LeftToLiveGroup ∷ BoundAgain ∷ TooMany ∷ ImportIsNotYes ∷ ImportHasNoRank
    ∷ TwoFunctions ∷ NoCertificate ∷ []

abbrev pub second_codes : List DiagnosticCode
second_codes =
    Unreadable NotUtf8 ∷ LeftOut UnexpectedToken ∷ Discarded ∷ Overwritten ∷ NotCalled ∷ CancelMisused ∷ GroupIsLive
    ∷ GroupOverwritten ∷ GroupMisused ∷ LeftToLiveGroup ∷ BoundAgain ∷ TooMany ∷ ImportIsNotYes ∷ ImportHasNoRank
    ∷ TwoFunctions ∷ NoCertificate ∷ AcceptsNothing ∷ []

abbrev pub rule_codes : Wording → List DiagnosticCode
rule_codes First = first_codes
rule_codes Second = second_codes

-- the place of a code's rule among the rules, from 0
abbrev pub rule_index : DiagnosticCode → ℕ
rule_index (Unreadable why) = 0
rule_index (LeftOut why) = 1
rule_index Discarded = 2
rule_index Overwritten = 3
rule_index NotCalled = 4
rule_index CancelMisused = 5
rule_index GroupIsLive = 6
rule_index GroupOverwritten = 7
rule_index GroupMisused = 8
rule_index LeftToLiveGroup = 9
rule_index BoundAgain = 10
rule_index TooMany = 11
rule_index ImportIsNotYes = 12
rule_index ImportHasNoRank = 13
rule_index TwoFunctions = 14
rule_index NoCertificate = 15
rule_index AcceptsNothing = 16

-- what a rule says: the code's text, and of the two that have several texts one for all
abbrev pub rule_text : Wording → DiagnosticCode → List ℕ
rule_text wording (Unreadable why) = codes "file has no tokens"
rule_text wording (LeftOut why) = codes "no tree, or a form that is left out"
rule_text wording code = code_words wording code

-- a cancel function or a group that the body mishandles is an error; the rest could not be followed
abbrev pub level : DiagnosticCode → List ℕ
level Discarded = codes "error"
level Overwritten = codes "error"
level NotCalled = codes "error"
level GroupIsLive = codes "error"
level GroupOverwritten = codes "error"
level LeftToLiveGroup = codes "error"
level code = codes "warning"

-- what a code is about
abbrev pub topic : DiagnosticCode → List ℕ
topic Discarded = codes "context"
topic Overwritten = codes "context"
topic NotCalled = codes "context"
topic CancelMisused = codes "context"
topic LeftToLiveGroup = codes "context"
topic GroupIsLive = codes "errgroup"
topic GroupOverwritten = codes "errgroup"
topic GroupMisused = codes "errgroup"
topic code = codes "ctxvet"

-- the notes of such a diagnostic are the places of a way through a body
abbrev pub tells_way : DiagnosticCode → Bool
tells_way Overwritten = true
tells_way NotCalled = true
tells_way GroupIsLive = true
tells_way GroupOverwritten = true
tells_way LeftToLiveGroup = true
tells_way code = false
