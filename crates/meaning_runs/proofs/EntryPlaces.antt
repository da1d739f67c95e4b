-- Each entry of a report lies in a file of its package: the use faults of a file, and the faults of its bodies' paths and
-- passes, stand in its text, as do faults of the whole package and what is said of imports.
use Rattle.std.proofs.Common.{◌≡◌, ℕ, zero, suc, ◌+◌, ◌≤◌, Bool, inl, inr, List, [], ◌∷◌, ◌++◌, map, length, Some, Contains, refl, sym, ap, ◌∙◌, subst, arith}
use Rattle.std.specs.Prelude.{slice_get}
use Rattle.std.proofs.lemmas.Bool.{eq-eqb}
use Rattle.std.proofs.lemmas.Option.{none-some, same_Some}
use Rattle.std.proofs.lemmas.List.Elements.{Contains-append_cases, Contains-append_left, Contains-append_right}
use Rattle.tree.specs.Syntax.{SourceFile}
use Rattle.meaning.specs.Code.{Occurrence, Code, repeats}
use Rattle.meaning.specs.Lists.{Exit, stopped, Lists, Reaches, not_begun, skipped, done, just_done, left, ends_in_first, goes_on, in_first, in_second, ends_in_turn, turns_again, arrives, passes}
use Rattle.meaning.specs.Mentions.{BodyPlace, Mention, Mark, mentions, runs_literal, returns, opens, closes, file_marks, marks_by, of_fields}
use Rattle.meaning.specs.Tracked.{Known, placed, some_keep}
use Rattle.meaning.specs.Uses.{Callee, Event, Seen}
use Rattle.meaning.specs.BodyEvents.{opened_in, bodies_of, sites_of, seen_file}
use Rattle.meaning.specs.Classes.{Promises}
use Rattle.meaning.proofs.Membership.{contains_nil, contains_here}
use Rattle.meaning_packages.specs.PathFaults.{paths_of}
use Rattle.meaning_packages.specs.Credits.{promises_in}
use Rattle.meaning_packages.specs.CallsFlags.{FileWithCredits}
use Rattle.report.specs.Entries.{Entry}
use Rattle.meaning_reports.specs.MeantImports.{IsTreeButForImports}
use Rattle.meaning_reports.specs.Loaded.{Reading, has_tree, has_text_fault, has_tree_fault, LoadedPackage, NumberedTree, Tables, trees_from, trees_of, known_in, seen_from, seen_files}
use Rattle.meaning_reports.specs.WholeFaults.{HasNoWholeFault, has_no_tokens, has_no_tree}
use Rattle.meaning_reports.specs.PackageTables.{AreCredited, no_file, file_and}
use Rattle.meaning_reports.specs.PackageReports.{IsFileFinding, outside_bodies, of_use, of_path, Rules, IsFindingBy, of_whole, of_import, of_dot, of_files, SaysByPaths, by_paths}
use Rattle.meaning_runs.specs.FilePlaces.{AreTextsOf, StandsIn}
use Rattle.meaning_runs.specs.EntryPlaces.{LieInFiles, EntriesLieInFilesBy, EntriesLieInFiles}
use Rattle.meaning_runs.specs.OccurrencePlaces.{occurrences}
use Rattle.meaning_runs.proofs.LeftSides.{is_placed}
use Rattle.meaning_packages.proofs.BodyPlaces.{placed_only}
use Rattle.meaning_runs.proofs.BodyOffsets.{are_sited, opens_one}
use Rattle.meaning_runs.proofs.OccurrencePlaces.{occurrences_lie_in_texts}
use Rattle.meaning_runs.proofs.PartSites.{jump_is_asked}
use Rattle.meaning_runs.proofs.FilePlaces.{dot_in, whole_places_lie_in_files}
use Rattle.meaning_runs.proofs.NamePlaces.{names_lie_in_texts}
use Rattle.meaning_runs.proofs.FaultPlaces.{MarkStandsWithin, MarksStandWithin, FileStandsWithin, all_locals_lie, outer_faults_lie, body_faults_lie, fault_lies}
use Rattle.meaning_runs.proofs.EditionMarks.{among_all, placed_among}

-- Occurrences

-- what stands in a list of a code is an occurrence of it
list_there : {E : Type 0} (c : Code E) (t : List (Occurrence E)) (x : Exit) → Lists c t x → (o : Occurrence E) → Contains t o
    → Contains (occurrences c) o
list_there c t x not_begun o h = absurd (contains_nil o h)
list_there c t x skipped o h = absurd (contains_nil o h)
list_there c t x done o h = h
list_there c t x just_done o h = h
list_there c t x left o h = absurd (contains_nil o h)
list_there c t x (ends_in_first {a} {b} l n) o h =
    Contains-append_right (occurrences b) (occurrences a) o (list_there a t x l o h)
list_there {E} c t x (goes_on {a} {b} {t = s} {u = u} {x = y} l k e) o h =
    elim (Contains-append_cases s u o (subst (λ (r : List (Occurrence E)). Contains r o) e h)) [
      | inl first ↦ Contains-append_right (occurrences b) (occurrences a) o (list_there a s _ l o first)
      | inr later ↦ Contains-append_left (occurrences b) (occurrences a) o (list_there b u x k o later)
    ]
list_there c t x (in_first {a} {b} l) o h =
    Contains-append_right (occurrences b) (occurrences a) o (list_there a t x l o h)
list_there c t x (in_second {a} {b} l) o h =
    Contains-append_left (occurrences b) (occurrences a) o (list_there b t x l o h)
list_there c t x (ends_in_turn {a} l n) o h = list_there a t x l o h
list_there {E} c t x (turns_again {a} {t = s} {u = u} l k e) o h =
    elim (Contains-append_cases s u o (subst (λ (r : List (Occurrence E)). Contains r o) e h)) [
      | inl first ↦ list_there a s _ l o first
      | inr later ↦ list_there (repeats a) u x k o later
    ]
list_there c t x (arrives {w} {a} l) o h = list_there a t _ l o h
list_there c t x (passes {w} {a} l n) o h = list_there a t x l o h

-- A file

-- what is said of the file stands there, and its bodies begin there
pub record Stands (n : ℕ) (seen : Seen) : Type 0 where
  pub lies : FileStandsWithin n seen
  pub begun : (b : BodyPlace) → Contains (bodies_of seen) b → b.at ≤ n
  pub reached : (promises : Promises) (b : BodyPlace) (t : List (Occurrence Event)) (o : Occurrence Event)
      → Contains (bodies_of seen) b
      → Reaches (paths_of seen promises b).code t o
      → o.at ≤ n

module _ (text : List ℕ) (tree : SourceFile) (known : Known) (is : IsTreeButForImports known.edition text tree) where
  site_in : (m : Mention) → Contains (file_marks tree) (mentions m) → m.site ≤ length text
  site_in m among =
      let file = are_sited known.edition text tree is in
      let end = file.in_text in
      elim (file.sited.sites (mentions m) m.site among (eq-eqb m.site m.site refl)) [
        | inl none ↦ absurd none
        | inr within ↦ let low = within.1 in omega (arith, low, end)
      ]

  mark_in : (mark : Mark) → Contains (file_marks tree) mark → MarkStandsWithin (length text) mark
  mark_in (mentions m) among = (site_in m among, names_lie_in_texts known.edition text tree (mentions m) is among)
  mark_in (of_fields site m) among = names_lie_in_texts known.edition text tree (of_fields site m) is among
  mark_in (runs_literal moment site at) among = tt
  mark_in (returns at es) among = tt
  mark_in (opens b) among = (
    names_lie_in_texts known.edition text tree (opens b) is among,
    λ at jump.
        let file = are_sited known.edition text tree is in
        let end = file.in_text in
        let low = (file.sited.asked at (inr record { body = b; opened = among; among = jump_is_asked b.statements at jump })).1 in
        omega (arith, low, end),
  )
  mark_in closes among = tt

  marks_in : MarksStandWithin (length text) (placed [] (marks_by known.edition (some_keep known.fields) (file_marks tree)))
  marks_in = record {
    each = λ p among.
        mark_in p.mark (is_placed [] (file_marks tree) p (placed_among known.edition (some_keep known.fields) (file_marks tree) p among));
  }

  file_stands : Stands (length text) (seen_file known tree)
  file_stands = record {
    lies = record { marks = marks_in; locals = all_locals_lie (length text) known (placed [] (marks_by known.edition (some_keep known.fields) (file_marks tree))) marks_in };
    begun = λ b among.
        let file = are_sited known.edition text tree is in
        let marks = marks_by known.edition (some_keep known.fields) (file_marks tree) in
        let there = opens_one marks b (placed_only (opened_in (placed [] marks)) b among) in
        let low = file.begun b (among_all known.edition (some_keep known.fields) (file_marks tree) (opens b) there) in
        let end = file.in_text in
        omega (arith, low, end);
    reached = λ promises b t o among reaches.
        let there = list_there (paths_of (seen_file known tree) promises b).code (t ++ o ∷ []) stopped reaches o
        (Contains-append_right t (o ∷ []) o (contains_here o [])) in
        let low = occurrences_lie_in_texts Event text tree known b (sites_of (seen_file known tree) b.at) o is among there in
        omega (arith, low);
  }

-- a finding of the file is of its number, and stands there
pub finding_in : (n : ℕ) (calls : Callee → ℕ → Bool) (number : ℕ) (file : FileWithCredits) (x : Entry) → Stands n file.seen
    → IsFileFinding calls number file x
    → (x.file ≡ number) × (x.offset ≤ n)
finding_in n calls number file x h (outside_bodies f among) = (refl, (outer_faults_lie n file.seen h.lies).each f among)
finding_in n calls number file x h (of_use b f is among) = (refl, (body_faults_lie n file.seen h.lies b.at).each f among)
finding_in n calls number file x h (of_path b f is fault) = (
  refl,
  fault_lies n file.seen h.lies (promises_in calls file.credits b.at) b
      (λ t o. h.reached (promises_in calls file.credits b.at) b t o is) f fault,
)

-- The files of a package

pub seen_there : (seens : List Seen) (files : List FileWithCredits) → AreCredited seens files
    → (i : ℕ) (file : FileWithCredits)
    → slice_get files i ≡ Some file
    → slice_get seens i ≡ Some file.seen
seen_there seens files no_file zero file is = let bad : _ ≡ Some file = is in cc
seen_there seens files no_file (suc i) file is = let bad : _ ≡ Some file = is in cc
seen_there seens files (file_and {seen} {rest} {file = first} {files = others} same full credited) zero file is =
    ap Some (sym same ∙ ap (λ (f : FileWithCredits). f.seen) (same_Some first file is))
seen_there seens files (file_and {seen} {rest} {file = first} {files = others} same full credited) (suc i) file is =
    seen_there rest others credited i file is

-- the tree of the file at that place, where the first one has the number n
pub tree_seen : (known : ℕ → Known) (n : ℕ) (trees : List SourceFile) (i : ℕ) (seen : Seen)
    → slice_get (seen_from known n trees) i ≡ Some seen
    → (tree : SourceFile) × (slice_get trees i ≡ Some tree) × (seen_file (known (n + i)) tree ≡ seen)
tree_seen known n [] i seen is = absurd (none-some seen is)
tree_seen known n (tree ∷ trees) zero seen is =
    let same : n ≡ n + 0 = omega arith in
    (tree, refl, subst (λ k. seen_file (known k) tree ≡ seen) same (same_Some (seen_file (known n) tree) seen is))
tree_seen known n (tree ∷ trees) (suc i) seen is =
    let w = tree_seen known (n + 1) trees i seen is in
    let same : (n + 1) + i ≡ n + suc i = omega arith in
    (w.0, w.1, subst (λ k. seen_file (known k) w.0 ≡ seen) same w.2)

abbrev HasTree : Reading → Type 0
HasTree (has_tree tree) = Unit {0}
HasTree (has_text_fault at why) = ⊥
HasTree (has_tree_fault at why) = ⊥

-- where each file has a tree, the trees have the numbers of the files
tree_there : (k : ℕ) (rs : List Reading) → ((i : ℕ) (r : Reading) → slice_get rs i ≡ Some r → HasTree r)
    → (i : ℕ) (tree : SourceFile)
    → slice_get (map (λ (t : NumberedTree). t.tree) (trees_from k rs)) i ≡ Some tree
    → slice_get rs i ≡ Some (has_tree tree)
tree_there k [] all zero tree is = let bad : _ ≡ Some tree = is in cc
tree_there k [] all (suc i) tree is = let bad : _ ≡ Some tree = is in cc
tree_there k (has_tree first ∷ rs) all zero tree is = ap (λ (t : SourceFile). Some (has_tree t)) (same_Some first tree is)
tree_there k (has_tree first ∷ rs) all (suc i) tree is =
    tree_there (k + 1) rs (λ j r there. all (suc j) r there) i tree is
tree_there k (has_text_fault at why ∷ rs) all i tree is = absurd (all 0 (has_text_fault at why) refl)
tree_there k (has_tree_fault at why ∷ rs) all i tree is = absurd (all 0 (has_tree_fault at why) refl)

all_trees : (ps : List LoadedPackage) (i : ℕ) (p : LoadedPackage) → slice_get ps i ≡ Some p → HasNoWholeFault ps i
    → (j : ℕ) (r : Reading)
    → slice_get p.files j ≡ Some r
    → HasTree r
all_trees ps i p is none j (has_tree tree) there = tt
all_trees ps i p is none j (has_text_fault at why) there = none _ (has_no_tokens p j at why is there)
all_trees ps i p is none j (has_tree_fault at why) there = none _ (has_no_tree p j at why is there)

-- the text of a file of a package in which each file has a tree
pub seen_stands : (ps : List LoadedPackage) (tables : Tables) (i : ℕ) (p : LoadedPackage) (texts : List (List ℕ))
    → slice_get ps i ≡ Some p
    → AreTextsOf texts p
    → HasNoWholeFault ps i
    → (number : ℕ) (seen : Seen) → slice_get (seen_files ps tables p) number ≡ Some seen
    → (text : List ℕ) × (slice_get texts number ≡ Some text) × Stands (length text) seen
seen_stands ps tables i p texts is are none number seen there =
    let of = tree_seen (known_in ps tables p) 0 (trees_of p) number seen there in
    let text = are.each number (has_tree of.0) (tree_there 0 p.files (all_trees ps i p is none) number of.0 of.1) in
    (text.0, text.1, subst (Stands (length text.0)) of.2 (file_stands text.0 of.0 (known_in ps tables p (0 + number)) text.2))

-- Entries by any rules

module _ (rules : Rules) (each : LieInFiles rules.says) where
  stands : (ps : List LoadedPackage) (tables : Tables) (i : ℕ) (p : LoadedPackage) (texts : List (List ℕ))
      → slice_get ps i ≡ Some p
      → AreTextsOf texts p
      → (x : Entry) → IsFindingBy rules ps tables i x
      → StandsIn texts x
  stands ps tables i p texts is are x (of_whole fault) = whole_places_lie_in_files.of_whole ps i p texts x is are fault
  stands ps tables i p texts is are x (of_import j number spec y none im needed found) =
      whole_places_lie_in_files.of_import ps i j number spec _ p texts is are im
  stands ps tables i p texts is are x (of_dot file dot none out) = dot_in ps i p texts is are tables file dot out
  stands ps tables i p texts is are x (of_files none said) = each ps i p texts is are tables x none said

  pub entries_lie_in_files_by : EntriesLieInFilesBy rules
  entries_lie_in_files_by ps report p said texts x is_report of are among =
      let w = is_report.of_package of.place p said of.is_package of.is_said in
      stands ps is_report.tables of.place p texts of.is_package are x ((w.are_findings.each x).0 among)

-- Entries by paths

path_sayings_lie : LieInFiles SaysByPaths
path_sayings_lie ps i p texts is are tables x none said =
    let h = said.is_of in
    let judged = h.is_judged in
    let file = said.file in
    let same : h.loaded ≡ p = same_Some h.loaded p (sym judged.is_package ∙ is) in
    let credited = subst (λ (q : LoadedPackage). AreCredited (seen_files ps tables q) h.files) same judged.are_files in
    let seen = seen_there (seen_files ps tables p) h.files credited said.number file h.is_file in
    let text = seen_stands ps tables i p texts is are none said.number file.seen seen in
    let low = finding_in (length text.0) _ said.number file x text.2 said.is_finding in
    record { text = text.0; is_file = ap (slice_get texts) low.0 ∙ text.1; within = low.1 }

pub entries_lie_in_files : EntriesLieInFiles
entries_lie_in_files declared = entries_lie_in_files_by (by_paths declared) path_sayings_lie
