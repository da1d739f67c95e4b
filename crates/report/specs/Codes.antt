-- The codes of diagnostics: their order, and what the report prints of them.
use Rattle.std.specs.Prelude.{ℕ, List, codes}
use Rattle.report.specs.declared.codes.DiagnosticCode.{DiagnosticCode}
use Rattle.report.specs.declared.codes.DiagnosticCode.TheVariants.{Unreadable, LeftOut, Discarded, Overwritten, NotCalled, CancelMisused, GroupIsLive, GroupOverwritten, GroupMisused, LeftToLiveGroup, BoundAgain, TooMany, ImportIsNotYes, ImportHasNoRank, TwoFunctions, NoCertificate, AcceptsNothing}
use Rattle.report.specs.declared.codes.TextFault.{TextFault}
use Rattle.report.specs.declared.codes.TextFault.TheVariants.{NotUtf8, Nul, UnclosedString, UnclosedComment, UnclosedRune, UnknownCharacter, TooLong}
use Rattle.report.specs.declared.codes.TreeFault.{TreeFault}
use Rattle.report.specs.declared.codes.TreeFault.TheVariants.{UnexpectedToken, TypeParameters, Goto, Fallthrough, DotImport, Recover, TooDeep}
use Rattle.report.specs.declared.codes.Wording.{Wording}
use Rattle.report.specs.declared.codes.Wording.TheVariants.{First, Second}

-- a code's place in the order of the codes, which is the order of the diagnostics at one place
abbrev pub code_rank : DiagnosticCode → ℕ
code_rank (Unreadable NotUtf8) = 0
code_rank (Unreadable Nul) = 1
code_rank (Unreadable UnclosedString) = 2
code_rank (Unreadable UnclosedComment) = 3
code_rank (Unreadable UnclosedRune) = 4
code_rank (Unreadable UnknownCharacter) = 5
code_rank (Unreadable TooLong) = 6
code_rank (LeftOut UnexpectedToken) = 7
code_rank (LeftOut TypeParameters) = 8
code_rank (LeftOut Goto) = 9
code_rank (LeftOut Fallthrough) = 10
code_rank (LeftOut DotImport) = 11
code_rank (LeftOut Recover) = 12
code_rank (LeftOut TooDeep) = 13
code_rank Discarded = 14
code_rank Overwritten = 15
code_rank NotCalled = 16
code_rank CancelMisused = 17
code_rank GroupIsLive = 18
code_rank GroupOverwritten = 19
code_rank GroupMisused = 20
code_rank LeftToLiveGroup = 21
code_rank BoundAgain = 22
code_rank TooMany = 23
code_rank ImportIsNotYes = 24
code_rank ImportHasNoRank = 25
code_rank TwoFunctions = 26
code_rank NoCertificate = 27
code_rank AcceptsNothing = 28

-- the number of a code, as the report prints it
abbrev pub code_number : DiagnosticCode → List ℕ
code_number (Unreadable why) = codes "LC01"
code_number (LeftOut why) = codes "LC02"
code_number Discarded = codes "LC03"
code_number Overwritten = codes "LC04"
code_number NotCalled = codes "LC05"
code_number CancelMisused = codes "LC06"
code_number GroupIsLive = codes "LC07"
code_number GroupOverwritten = codes "LC08"
code_number GroupMisused = codes "LC09"
code_number LeftToLiveGroup = codes "LC10"
code_number BoundAgain = codes "LC11"
code_number TooMany = codes "LC12"
code_number ImportIsNotYes = codes "LC13"
code_number ImportHasNoRank = codes "LC14"
code_number TwoFunctions = codes "LC15"
code_number NoCertificate = codes "LC16"
code_number AcceptsNothing = codes "LC18"

-- why a file has no tokens
abbrev pub text_fault_text : TextFault → List ℕ
text_fault_text NotUtf8 = codes "not UTF-8"
text_fault_text Nul = codes "NUL byte"
text_fault_text UnclosedString = codes "string not ended"
text_fault_text UnclosedComment = codes "comment not ended"
text_fault_text UnclosedRune = codes "rune not ended"
text_fault_text UnknownCharacter = codes "character of no token"
text_fault_text TooLong = codes "file over 1 MiB"

-- why a file has no tree, or is left out
abbrev pub tree_fault_text : TreeFault → List ℕ
tree_fault_text UnexpectedToken = codes "unexpected token"
tree_fault_text TypeParameters = codes "left out: type parameters"
tree_fault_text Goto = codes "left out: goto"
tree_fault_text Fallthrough = codes "left out: fallthrough"
tree_fault_text DotImport = codes "left out: dot import"
tree_fault_text Recover = codes "left out: recover"
tree_fault_text TooDeep = codes "deeper than 200"

-- what a code says, in the words of the first edition of the rules
abbrev pub code_text : DiagnosticCode → List ℕ
code_text (Unreadable why) = text_fault_text why
code_text (LeftOut why) = tree_fault_text why
code_text Discarded = codes "cancel function discarded"
code_text Overwritten = codes "overwritten before it is called"
code_text NotCalled = codes "may not have been called at this return"
code_text CancelMisused = codes "cancel function used in another way"
code_text GroupIsLive = codes "group may be live at this return"
code_text GroupOverwritten = codes "overwritten before Wait"
code_text GroupMisused = codes "group used in another way"
code_text LeftToLiveGroup = codes "left to a group that may be live at this return"
code_text BoundAgain = codes "named result or captured variable bound again"
code_text TooMany = codes "too many tracked variables"
code_text ImportIsNotYes = codes "import is not yes"
code_text ImportHasNoRank = codes "import has no rank"
code_text TwoFunctions = codes "two functions of one name"
code_text NoCertificate = codes "certificate missing or not holding"
code_text AcceptsNothing = codes "accepts nothing"

-- what it says in these words: those of the second edition say seven codes otherwise
abbrev pub code_words : Wording → DiagnosticCode → List ℕ
code_words First code = code_text code
code_words Second NotCalled = codes "is not called on every path to this return"
code_words Second CancelMisused = codes "is used in a way that is not followed"
code_words Second GroupIsLive = codes "is not waited for on every path to this return"
code_words Second GroupMisused = codes "is used in a way that is not followed"
code_words Second LeftToLiveGroup = codes "is left to a group that is not waited for on every path to this return"
code_words Second ImportIsNotYes = codes "import has findings"
code_words Second ImportHasNoRank = codes "import cycle"
code_words Second code = code_text code
