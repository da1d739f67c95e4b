-- The note of a use, and diagnostics of uses in a report.
use Rattle.std.proofs.Common.{◌≡◌, ℕ, true, List, map, Contains, Option, None, Some, option_map, is_some, refl, ap, ◌∙◌, subst}
use Rattle.std.specs.Prelude.{option_to_list}
use Rattle.std.proofs.lemmas.Bool.{false≢true}
use Rattle.explanations.specs.Found.{path_code_of, shown}
use Rattle.explanations.specs.KeptUses.{AreNotesByUses, FileReasons, HaveReasons}
use Rattle.explanations.specs.Uses.{asked_of, reason_note, HaveUseNotes}
use Rattle.lexer.specs.declared.source.Source.{Source}
use Rattle.meaning.proofs.Membership.{contains_map}
use Rattle.meaning_reports.specs.Loaded.{LoadedPackage, Tables}
use Rattle.meaning_reports.specs.PackageReports.{AreFindingsBy, IsFindingBy, of_whole, of_import, of_dot, of_files, by_paths}
use Rattle.meaning_reports.specs.WholeFaults.{HasNoWholeFault, IsWholeFault, has_no_tokens, has_no_tree, has_two_functions, has_no_rank}
use Rattle.report.specs.Entries.{Entry, entry_of}
use Rattle.report.specs.declared.codes.DiagnosticCode.{DiagnosticCode}
use Rattle.report.specs.declared.codes.DiagnosticCode.TheVariants.{Unreadable, LeftOut, Discarded, Overwritten, NotCalled, CancelMisused, GroupIsLive, GroupOverwritten, GroupMisused, LeftToLiveGroup, BoundAgain, TooMany, ImportIsNotYes, ImportHasNoRank, TwoFunctions, NoCertificate, AcceptsNothing}
use Rattle.report.specs.declared.diagnostics.Diagnostic.{Diagnostic}
use Rattle.report.specs.Notes.{plain_of}
use Rattle.report.specs.declared.notes.ExplainedDiagnostic.{ExplainedDiagnostic}
use Rattle.report.specs.declared.notes.Note.{Note}
use Rattle.use_reasons.specs.UseReasons.{UseReason}

-- Codes

-- no diagnostic of a path is one of a use
pub not_both : (c : DiagnosticCode) → is_some (path_code_of c) ≡ true → is_some (asked_of c) ≡ true → ⊥
not_both (Unreadable why) of_path of_use = false≢true of_path
not_both (LeftOut why) of_path of_use = false≢true of_path
not_both Discarded of_path of_use = false≢true of_path
not_both Overwritten of_path of_use = false≢true of_use
not_both NotCalled of_path of_use = false≢true of_use
not_both CancelMisused of_path of_use = false≢true of_path
not_both GroupIsLive of_path of_use = false≢true of_use
not_both GroupOverwritten of_path of_use = false≢true of_use
not_both GroupMisused of_path of_use = false≢true of_path
not_both LeftToLiveGroup of_path of_use = false≢true of_use
not_both BoundAgain of_path of_use = false≢true of_path
not_both TooMany of_path of_use = false≢true of_path
not_both ImportIsNotYes of_path of_use = false≢true of_path
not_both ImportHasNoRank of_path of_use = false≢true of_path
not_both TwoFunctions of_path of_use = false≢true of_path
not_both NoCertificate of_path of_use = false≢true of_path
not_both AcceptsNothing of_path of_use = false≢true of_path

no_whole : (ps : List LoadedPackage) (i : ℕ) (x : Entry) → IsWholeFault ps i x → is_some (asked_of x.code) ≡ true → ⊥
no_whole ps i x (has_no_tokens p file at why is is_file) e = false≢true e
no_whole ps i x (has_no_tree p file at why is is_file) e = false≢true e
no_whole ps i x (has_two_functions p f tree is second is_tree) e = false≢true e
no_whole ps i x (has_no_rank j file spec none none_either imports) e = false≢true e

-- a package of which a diagnostic of a use is right has no fault as a whole
says_use : (declared : Tables) (ps : List LoadedPackage) (tables : Tables) (i : ℕ) (x : Entry)
    → IsFindingBy (by_paths declared) ps tables i x
    → is_some (asked_of x.code) ≡ true
    → HasNoWholeFault ps i
says_use declared ps tables i x (of_whole fault) e = absurd (no_whole ps i x fault e)
says_use declared ps tables i x (of_import j number spec y none im needed finding) e = absurd (false≢true e)
says_use declared ps tables i x (of_dot file dot none out) e = absurd (false≢true e)
says_use declared ps tables i x (of_files none says) e = none

-- Notes

module _ (sources : List Source) (file : ℕ) where
  one_listed : (r : Option UseReason)
      → option_to_list (option_map (reason_note sources file) r) ≡ map (reason_note sources file) (option_to_list r)
  one_listed None = refl
  one_listed (Some r) = refl

  -- the note of the reason is the only one
  pub only_note : (notes : List Note) (one : Option Note) (r : Option UseReason)
      → map shown notes ≡ option_to_list (option_map shown one)
      → option_map shown one ≡ option_map (reason_note sources file) r
      → map shown notes ≡ map (reason_note sources file) (option_to_list r)
  only_note notes one r listed is = listed ∙ (ap option_to_list is ∙ one_listed r)

-- the diagnostics of a report, with notes by what is kept of uses
pub have_use_notes : (declared : Tables) (ps : List LoadedPackage) (tables : Tables) (i : ℕ) (p : LoadedPackage)
    (sources : List Source) (uses : List FileReasons) (diagnostics : List Diagnostic)
    (explained : List ExplainedDiagnostic)
    → (HasNoWholeFault ps i → HaveReasons ps tables p diagnostics uses)
    → AreFindingsBy (by_paths declared) ps tables i (map entry_of diagnostics)
    → plain_of explained ≡ diagnostics
    → AreNotesByUses sources uses explained
    → HaveUseNotes ps tables p sources explained
have_use_notes declared ps tables i p sources uses diagnostics explained so found same noted d is_d of_use =
    let there = subst (λ ds. Contains ds d.diagnostic) same
    (contains_map (λ (e : ExplainedDiagnostic). e.diagnostic) explained d is_d) in
    let none = says_use declared ps tables i (entry_of d.diagnostic)
    ((found.each (entry_of d.diagnostic)).0 (contains_map entry_of diagnostics d.diagnostic there)) of_use in
    noted d is_d of_use
    ∙ ap (λ r. map (reason_note sources d.diagnostic.file) (option_to_list r)) (so none d.diagnostic there)
