-- What is said of the rule of a code beside its text: what its findings say, and what to do about them. The texts are
-- constants of the code, which are written from docs/CODES.md.
use Rattle.std.specs.Prelude.{ℕ, List}
use Rattle.report.specs.declared.codes.DiagnosticCode.{DiagnosticCode}
use Rattle.report.specs.declared.codes.DiagnosticCode.TheVariants.{Unreadable, LeftOut, Discarded, Overwritten, NotCalled, CancelMisused, GroupIsLive, GroupOverwritten, GroupMisused, LeftToLiveGroup, BoundAgain, TooMany, ImportIsNotYes, ImportHasNoRank, TwoFunctions, NoCertificate, AcceptsNothing}
use Rattle.sarif.specs.declared.help.TheConstants as help

-- in a sentence
abbrev pub meaning : DiagnosticCode → List ℕ
meaning (Unreadable why) = help.LC01_MEANING.now
meaning (LeftOut why) = help.LC02_MEANING.now
meaning Discarded = help.LC03_MEANING.now
meaning Overwritten = help.LC04_MEANING.now
meaning NotCalled = help.LC05_MEANING.now
meaning CancelMisused = help.LC06_MEANING.now
meaning GroupIsLive = help.LC07_MEANING.now
meaning GroupOverwritten = help.LC08_MEANING.now
meaning GroupMisused = help.LC09_MEANING.now
meaning LeftToLiveGroup = help.LC10_MEANING.now
meaning BoundAgain = help.LC11_MEANING.now
meaning TooMany = help.LC12_MEANING.now
meaning ImportIsNotYes = help.LC13_MEANING.now
meaning ImportHasNoRank = help.LC14_MEANING.now
meaning TwoFunctions = help.LC15_MEANING.now
meaning NoCertificate = help.LC16_MEANING.now
meaning AcceptsNothing = help.LC18_MEANING.now

-- at length, with the usual repair
abbrev pub help_text : DiagnosticCode → List ℕ
help_text (Unreadable why) = help.LC01_TEXT.now
help_text (LeftOut why) = help.LC02_TEXT.now
help_text Discarded = help.LC03_TEXT.now
help_text Overwritten = help.LC04_TEXT.now
help_text NotCalled = help.LC05_TEXT.now
help_text CancelMisused = help.LC06_TEXT.now
help_text GroupIsLive = help.LC07_TEXT.now
help_text GroupOverwritten = help.LC08_TEXT.now
help_text GroupMisused = help.LC09_TEXT.now
help_text LeftToLiveGroup = help.LC10_TEXT.now
help_text BoundAgain = help.LC11_TEXT.now
help_text TooMany = help.LC12_TEXT.now
help_text ImportIsNotYes = help.LC13_TEXT.now
help_text ImportHasNoRank = help.LC14_TEXT.now
help_text TwoFunctions = help.LC15_TEXT.now
help_text NoCertificate = help.LC16_TEXT.now
help_text AcceptsNothing = help.LC18_TEXT.now

-- the same in Markdown
abbrev pub help_markdown : DiagnosticCode → List ℕ
help_markdown (Unreadable why) = help.LC01_MARKDOWN.now
help_markdown (LeftOut why) = help.LC02_MARKDOWN.now
help_markdown Discarded = help.LC03_MARKDOWN.now
help_markdown Overwritten = help.LC04_MARKDOWN.now
help_markdown NotCalled = help.LC05_MARKDOWN.now
help_markdown CancelMisused = help.LC06_MARKDOWN.now
help_markdown GroupIsLive = help.LC07_MARKDOWN.now
help_markdown GroupOverwritten = help.LC08_MARKDOWN.now
help_markdown GroupMisused = help.LC09_MARKDOWN.now
help_markdown LeftToLiveGroup = help.LC10_MARKDOWN.now
help_markdown BoundAgain = help.LC11_MARKDOWN.now
help_markdown TooMany = help.LC12_MARKDOWN.now
help_markdown ImportIsNotYes = help.LC13_MARKDOWN.now
help_markdown ImportHasNoRank = help.LC14_MARKDOWN.now
help_markdown TwoFunctions = help.LC15_MARKDOWN.now
help_markdown NoCertificate = help.LC16_MARKDOWN.now
help_markdown AcceptsNothing = help.LC18_MARKDOWN.now
