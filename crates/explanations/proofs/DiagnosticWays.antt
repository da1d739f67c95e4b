-- A diagnostic of a path that is right in a report has a way among those of its package.
use Rattle.std.proofs.Common.{◌≡◌, ℕ, Bool, true, List, [], map, length, Contains, Some, is_some, option_map, refl, sym, ap, ◌∙◌, subst, arith}
use Rattle.std.specs.Prelude.{slice_get}
use Rattle.std.proofs.lemmas.Bool.{false≢true}
use Rattle.std.proofs.lemmas.Option.{same_Some, slice_get_within}
use Rattle.body_ways.specs.BodyWays.{ToldWay}
use Rattle.explanations.proofs.FirstTold.{IsFirst, first_is}
use Rattle.explanations.proofs.ToldBodies.{variable_of_fault}
use Rattle.explanations.specs.Explained.{TellsWay}
use Rattle.explanations.specs.Found.{fault_of, fault_with, first_told, notes_by_ways, notes_told, offsets_by_ways, offsets_told, path_code_of, shown, told_in, way_note, HasWay}
use Rattle.explanations.specs.Ways.{ArePackageWays, IsToldOf}
use Rattle.findings.specs.FoundEntries.{known_paths}
use Rattle.lexer.specs.declared.source.Source.{Source}
use Rattle.meaning.specs.BodyEvents.{bodies_of, unfollowed_faults}
use Rattle.meaning.specs.Mentions.{BodyPlace}
use Rattle.meaning.specs.Uses.{Callee, UseCode, recover_used, goto_used, cancel_discarded, cancel_used_otherwise, group_used_otherwise, bound_again, too_many_variables}
use Rattle.meaning_packages.specs.CallsFlags.{FileWithCredits, Flags, calls_by}
use Rattle.meaning_packages.specs.PathFaults.{Paths, PathCode, PathFault, overwritten, not_called, group_is_live, group_overwritten, left_to_live_group, passed_on, IsPathFault, IsPassFault, passes_on, of_a_pass, of_a_path}
use Rattle.meaning_reports.specs.Loaded.{LoadedPackage, Tables, imported_flags}
use Rattle.meaning_reports.specs.PackageReports.{IsFileFinding, IsFileOf, outside_bodies, of_use, of_path, IsFindingBy, of_whole, of_import, of_dot, of_files, SaysByPaths, by_paths, path_code, path_entry, use_code}
use Rattle.meaning_reports.specs.WholeFaults.{HasNoWholeFault, IsWholeFault, has_no_tokens, has_no_tree, has_two_functions, has_no_rank}
use Rattle.path_faults.proofs.Places.{element_at}
use Rattle.report.specs.Entries.{Entry, entry_of}
use Rattle.silent_files.proofs.WalkedFiles.{walks_are_enough}
use Rattle.report.specs.declared.notes.ExplainedDiagnostic.{ExplainedDiagnostic}

abbrev IsOfPath : Entry → Type 0
IsOfPath x = is_some (path_code_of x.code) ≡ true

-- Codes

no_use : (c : UseCode) → is_some (path_code_of (use_code c)) ≡ true → ⊥
no_use recover_used e = false≢true e
no_use goto_used e = false≢true e
no_use cancel_discarded e = false≢true e
no_use cancel_used_otherwise e = false≢true e
no_use group_used_otherwise e = false≢true e
no_use bound_again e = false≢true e
no_use too_many_variables e = false≢true e

code_of_path : (c : PathCode) → is_some (path_code_of (path_code c)) ≡ true → path_code_of (path_code c) ≡ Some c
code_of_path overwritten e = refl
code_of_path not_called e = refl
code_of_path group_is_live e = refl
code_of_path group_overwritten e = refl
code_of_path left_to_live_group e = refl
code_of_path passed_on e = absurd (false≢true e)

no_pass : (b : Paths) (f : PathFault) → IsPassFault b f → is_some (path_code_of (path_code f.code)) ≡ true → ⊥
no_pass b f (passes_on v u at e first is_there is_cancel is_event is_passed same) h = false≢true h

no_whole : (ps : List LoadedPackage) (i : ℕ) (x : Entry) → IsWholeFault ps i x → IsOfPath x → ⊥
no_whole ps i x (has_no_tokens p file at why is is_file) e = false≢true e
no_whole ps i x (has_no_tree p file at why is is_file) e = false≢true e
no_whole ps i x (has_two_functions p f tree is second is_tree) e = false≢true e
no_whole ps i x (has_no_rank j file spec none none_either imports) e = false≢true e

-- What the report says of a path it says of the package's files.

pub says_path : (declared : Tables) (ps : List LoadedPackage) (tables : Tables) (i : ℕ) (x : Entry)
    → IsFindingBy (by_paths declared) ps tables i x
    → IsOfPath x
    → HasNoWholeFault ps i × SaysByPaths ps tables i x
says_path declared ps tables i x (of_whole fault) e = absurd (no_whole ps i x fault e)
says_path declared ps tables i x (of_import j number spec y none im needed finding) e = absurd (false≢true e)
says_path declared ps tables i x (of_dot file dot none out) e = absurd (false≢true e)
says_path declared ps tables i x (of_files none says) e = (none, says)

-- A fault of a path of one of the bodies of a file

record IsOfBody (calls : Callee → ℕ → Bool) (number : ℕ) (file : FileWithCredits) (x : Entry) : Type 0 where
  body : BodyPlace
  fault : PathFault
  is_body : Contains (bodies_of file.seen) body
  is_followed : unfollowed_faults file.seen body ≡ []
  is_fault : IsPathFault (known_paths calls file body) fault
  is_entry : x ≡ path_entry number fault

of_body : (calls : Callee → ℕ → Bool) (number : ℕ) (file : FileWithCredits) (x : Entry)
    → IsFileFinding calls number file x
    → IsOfPath x
    → IsOfBody calls number file x
of_body calls number file x (outside_bodies f h) e = absurd (no_use f.code e)
of_body calls number file x (of_use b f is_body h) e = absurd (no_use f.code e)
of_body calls number file x (of_path b f is_body (of_a_pass g pass)) e =
    absurd (no_pass (known_paths calls file b) g pass e)
of_body calls number file x (of_path b f is_body (of_a_path g followed fault)) e =
    record { body = b; fault = g; is_body = is_body; is_followed = followed; is_fault = fault; is_entry = refl }

told_file : (ways : List (List ToldWay)) (files : List FileWithCredits) (number : ℕ) (file : FileWithCredits)
    → length ways ≡ length files
    → slice_get files number ≡ Some file
    → (told : List ToldWay) × (slice_get ways number ≡ Some told)
told_file ways files number file size is =
    let l = slice_get_within files number file is in
    let w = element_at ways number (omega (arith, l, size)) in
    (w.0, w.2)

-- what is told of it are the notes of the first way that is told of its fault
told_notes : (sources : List Source) (ways : List (List ToldWay)) (x : Entry) (number : ℕ) (fault : PathFault)
    (told : List ToldWay) (t : ToldWay)
    → x ≡ path_entry number fault
    → IsOfPath x
    → slice_get ways number ≡ Some told
    → first_told fault told ≡ Some t
    → notes_by_ways sources ways x ≡ map (way_note sources number) t.notes
told_notes sources ways x number fault told t is_entry e is_told is_first =
    let y = path_entry number fault in
    let is_fault : fault_of y ≡ Some fault =
    ap (option_map (fault_with y)) (code_of_path fault.code (subst IsOfPath is_entry e)) in
    ap (notes_by_ways sources ways) is_entry
    ∙ ap (notes_told sources number)
    (ap (λ o. told_in o (slice_get ways number)) is_fault ∙ (ap (told_in (Some fault)) is_told ∙ is_first))

-- and the offsets of its way
told_offsets : (ways : List (List ToldWay)) (x : Entry) (number : ℕ) (fault : PathFault) (told : List ToldWay)
    (t : ToldWay)
    → x ≡ path_entry number fault
    → IsOfPath x
    → slice_get ways number ≡ Some told
    → first_told fault told ≡ Some t
    → offsets_by_ways ways x ≡ t.offsets
told_offsets ways x number fault told t is_entry e is_told is_first =
    let y = path_entry number fault in
    let is_fault : fault_of y ≡ Some fault =
    ap (option_map (fault_with y)) (code_of_path fault.code (subst IsOfPath is_entry e)) in
    ap (offsets_by_ways ways) is_entry
    ∙ ap offsets_told (ap (λ o. told_in o (slice_get ways number)) is_fault ∙ (ap (told_in (Some fault)) is_told ∙ is_first))

-- so it tells this way, if that is one of its file
tells_first : (ps : List LoadedPackage) (tables : Tables) (i : ℕ) (sources : List Source) (ways : List (List ToldWay))
    (d : ExplainedDiagnostic) (flags : Flags) (number : ℕ) (file : FileWithCredits) (fault : PathFault)
    (told : List ToldWay) (own : IsFileOf ps tables i flags number file) (first : IsFirst fault told)
    → IsToldOf (calls_by flags (imported_flags own.loaded tables)) file (bodies_of file.seen) first.way
    → entry_of d.diagnostic ≡ path_entry number fault
    → IsOfPath (entry_of d.diagnostic)
    → slice_get ways number ≡ Some told
    → map shown d.notes.items ≡ notes_by_ways sources ways (entry_of d.diagnostic)
    → HasWay ways d
    → TellsWay ps tables i sources d
tells_first ps tables i sources ways d flags number file fault told own first way is_entry e is_told notes goes = record {
  flags = flags;
  number = number;
  file = file;
  is_of = own;
  body = way.body;
  is_body = way.is_body;
  told = first.way;
  is_told = way.is_told;
  is_entry = is_entry ∙ ap (path_entry number) (sym first.is_of);
  are_notes = notes
      ∙ told_notes sources ways (entry_of d.diagnostic) number fault told first.way is_entry e is_told first.is_first;
  are_offsets = goes
      ∙ told_offsets ways (entry_of d.diagnostic) number fault told first.way is_entry e is_told first.is_first;
}

-- Such a diagnostic has the notes of a way.

pub tells_way : (ps : List LoadedPackage) (tables : Tables) (i : ℕ) (sources : List Source)
    (ways : List (List ToldWay)) (d : ExplainedDiagnostic)
    → ArePackageWays ps tables i ways
    → SaysByPaths ps tables i (entry_of d.diagnostic)
    → IsOfPath (entry_of d.diagnostic)
    → map shown d.notes.items ≡ notes_by_ways sources ways (entry_of d.diagnostic)
    → HasWay ways d
    → TellsWay ps tables i sources d
tells_way ps tables i sources ways d are says e notes goes =
    let x = entry_of d.diagnostic in
    let said = (walks_are_enough.says ps tables i are.loaded are.walked are.files are.flags are.are_walked x).1 says in
    let calls = calls_by are.flags (imported_flags are.loaded tables) in
    let at = of_body calls said.number said.file x said.is_finding e in
    let told = told_file ways are.files said.number said.file are.are_ways.are_as_many said.is_file in
    let here = are.are_ways.each said.number said.file told.0 said.is_file told.1 in
    let first = first_is at.fault told.0 (here.all at.body at.fault at.is_body at.is_followed at.is_fault) in
    let v = variable_of_fault (known_paths calls said.file at.body) at.fault at.is_fault in
    let own = walks_are_enough.own ps tables i are.loaded are.walked are.files are.flags are.are_walked said.number
    said.file at.body.at v.0 said.is_file v.1 in
    let same : are.loaded ≡ own.loaded =
    same_Some are.loaded own.loaded (sym are.are_walked.is_package ∙ own.is_judged.is_package) in
    tells_first ps tables i sources ways d are.flags said.number said.file at.fault told.0 own first
    (subst (λ (l : LoadedPackage). IsToldOf (calls_by are.flags (imported_flags l tables)) said.file
    (bodies_of said.file.seen) first.way) same (here.each first.way first.is_there))
    at.is_entry e told.1 notes goes
