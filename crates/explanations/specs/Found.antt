-- How the notes of a diagnostic are found.
use Rattle.std.specs.Prelude.{ℕ, ◌≡◌, ◌==◌, ◌&&◌, Bool, true, if◌then◌else◌, List, [], ◌∷◌, map, Option, None, Some, option_map, is_some, slice_get, Contains}
use Rattle.std.specs.List.{list_any}
use Rattle.std.specs.Str.{bytes_eq}
use Rattle.body_ways.specs.BodyWays.{ToldWay}
use Rattle.lexer.specs.declared.source.Source.{Source}
use Rattle.meaning_packages.specs.PathFaults.{PathFault, PathCode, overwritten, not_called, group_is_live, group_overwritten, left_to_live_group, passed_on}
use Rattle.reasons.specs.Words.{word_text}
use Rattle.report.specs.Entries.{Entry, entry_of}
use Rattle.report.specs.declared.diagnostics.Diagnostic.{Diagnostic}
use Rattle.report.specs.declared.codes.DiagnosticCode.{DiagnosticCode}
use Rattle.report.specs.declared.codes.DiagnosticCode.TheVariants.{Unreadable, LeftOut, Discarded, Overwritten, NotCalled, CancelMisused, GroupIsLive, GroupOverwritten, GroupMisused, LeftToLiveGroup, BoundAgain, TooMany, ImportIsNotYes, ImportHasNoRank, TwoFunctions, NoCertificate, AcceptsNothing}
use Rattle.report.specs.Notes.{note_text}
use Rattle.report.specs.declared.notes.ExplainedDiagnostic.{ExplainedDiagnostic}
use Rattle.report.specs.declared.notes.Note.{Note}
use Rattle.way_notes.specs.Notes.{Note as WayNote}

-- what a note says, and of which place
pub record Shown : Type 0 where
  pub sources : List Source
  pub file : ℕ
  pub offset : ℕ
  pub text : List ℕ

abbrev pub shown : Note → Shown
shown n = record { sources = n.sources.now; file = n.file; offset = n.offset; text = note_text n.text }

-- Ways

-- the code of a fault of a path, by that of its diagnostic
abbrev pub path_code_of : DiagnosticCode → Option PathCode
path_code_of (Unreadable why) = None
path_code_of (LeftOut why) = None
path_code_of Discarded = None
path_code_of Overwritten = Some overwritten
path_code_of NotCalled = Some not_called
path_code_of CancelMisused = None
path_code_of GroupIsLive = Some group_is_live
path_code_of GroupOverwritten = Some group_overwritten
path_code_of GroupMisused = None
path_code_of LeftToLiveGroup = Some left_to_live_group
path_code_of BoundAgain = None
path_code_of TooMany = None
path_code_of ImportIsNotYes = None
path_code_of ImportHasNoRank = None
path_code_of TwoFunctions = None
path_code_of NoCertificate = None
path_code_of AcceptsNothing = None

abbrev pub fault_with : Entry → PathCode → PathFault
fault_with x code = record { at = x.offset; code = code; name = x.name }

-- the fault of a path of which the diagnostic tells
abbrev pub fault_of : Entry → Option PathFault
fault_of x = option_map (fault_with x) (path_code_of x.code)

-- no two codes have one number
abbrev pub code_number : PathCode → ℕ
code_number overwritten = 0
code_number not_called = 1
code_number group_is_live = 2
code_number group_overwritten = 3
code_number left_to_live_group = 4
code_number passed_on = 5

abbrev pub is_same_fault : PathFault → PathFault → Bool
is_same_fault f g = ((f.at == g.at) && (code_number f.code == code_number g.code)) && bytes_eq f.name g.name

-- the first that is told of the fault
abbrev pub first_told : PathFault → List ToldWay → Option ToldWay
first_told f [] = None
first_told f (t ∷ ts) = if is_same_fault t.fault f then Some t else first_told f ts

-- a note of a way in the file of that number
abbrev pub way_note : List Source → ℕ → WayNote → Shown
way_note sources file n = record { sources = sources; file = file; offset = n.at; text = word_text n.word }

abbrev pub notes_told : List Source → ℕ → Option ToldWay → List Shown
notes_told sources file None = []
notes_told sources file (Some t) = map (way_note sources file) t.notes

abbrev pub told_in : Option PathFault → Option (List ToldWay) → Option ToldWay
told_in None o = None
told_in (Some f) None = None
told_in (Some f) (Some told) = first_told f told

-- the notes of a diagnostic by what is told of each file
abbrev pub notes_by_ways : List Source → List (List ToldWay) → Entry → List Shown
notes_by_ways sources ways x = notes_told sources x.file (told_in (fault_of x) (slice_get ways x.file))

abbrev pub offsets_told : Option ToldWay → List ℕ
offsets_told None = []
offsets_told (Some t) = t.offsets

-- and the offsets of its way
abbrev pub offsets_by_ways : List (List ToldWay) → Entry → List ℕ
offsets_by_ways ways x = offsets_told (told_in (fault_of x) (slice_get ways x.file))

-- one of the diagnostics tells of the fault of a path
abbrev pub any_of_path : List Diagnostic → Bool
any_of_path = list_any (λ d. is_some (path_code_of d.code))

abbrev pub HasWayNotes : List Source → List (List ToldWay) → Diagnostic → List Note → Type 0
HasWayNotes sources ways d notes = map shown notes ≡ notes_by_ways sources ways (entry_of d)

abbrev pub HasWay : List (List ToldWay) → ExplainedDiagnostic → Type 0
HasWay ways d = d.way.items ≡ offsets_by_ways ways (entry_of d.diagnostic)

-- those that tell of one have these notes and this way
abbrev pub AreNotesByWays : List Source → List (List ToldWay) → List ExplainedDiagnostic → Type 0
AreNotesByWays sources ways explained = (d : ExplainedDiagnostic)
    → Contains explained d
    → is_some (path_code_of d.diagnostic.code) ≡ true
    → HasWayNotes sources ways d.diagnostic d.notes.items × HasWay ways d
