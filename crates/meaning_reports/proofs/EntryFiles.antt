-- Each entry of a report is of a file of its package.
use Rattle.std.proofs.Common.{◌≡◌, ℕ, suc, ◌+◌, ◌<◌, ◌≤◌, Bool, List, [], ◌∷◌, length, Some, Contains, refl, sym, ap, ◌∙◌, subst, arith}
use Rattle.std.specs.Prelude.{slice_get}
use Rattle.std.proofs.lemmas.List.{length-map}
use Rattle.std.proofs.lemmas.Option.{same_Some, slice_get_within, get_or_from_slice_get}
use Rattle.tree.specs.Syntax.{Identifier, ImportSpec, SourceFile}
use Rattle.meaning.specs.Uses.{Callee, Seen}
use Rattle.meaning_packages.specs.CallsFlags.{FileWithCredits}
use Rattle.report.specs.Entries.{Entry}
use Rattle.meaning_reports.specs.Loaded.{Reading, has_tree, has_text_fault, has_tree_fault, LoadedPackage, NumberedTree, Tables, trees_from, numbered_trees, trees_of, known_in, seen_from, seen_files}
use Rattle.meaning.specs.Tracked.{Known}
use Rattle.meaning_reports.specs.WholeFaults.{ImportsAt, IsWholeFault, has_no_tokens, has_no_tree, has_two_functions, has_no_rank}
use Rattle.meaning_reports.specs.DotImports.{IsLeftOut}
use Rattle.meaning_reports.specs.PackageTables.{AreCredited, no_file, file_and}
use Rattle.meaning_reports.specs.PackageReports.{IsFileFinding, outside_bodies, of_use, of_path, Rules, IsFindingBy, of_whole, of_import, of_dot, of_files, SaysByPaths, by_paths}
use Rattle.meaning_reports.proofs.NumberedTrees.{file_of}
use Rattle.meaning_reports.specs.EntryFiles.{IsOfFile, AreSaidOfFiles, EntriesAreOfFilesBy, EntriesAreOfFiles}

-- Numbers of trees

of_numbered : (p : LoadedPackage) (t : NumberedTree) → Contains (numbered_trees p) t → t.file < length p.files
of_numbered p t h = slice_get_within p.files t.file (has_tree t.tree) (file_of p t h)

fewer_trees : (n : ℕ) (rs : List Reading) → length (trees_from n rs) ≤ length rs
fewer_trees n [] = omega arith
fewer_trees n (has_tree tree ∷ rs) = let l = fewer_trees (n + 1) rs in omega (arith, l)
fewer_trees n (has_text_fault at why ∷ rs) = let l = fewer_trees (n + 1) rs in omega (arith, l)
fewer_trees n (has_tree_fault at why ∷ rs) = let l = fewer_trees (n + 1) rs in omega (arith, l)

as_many_seen : (known : ℕ → Known) (n : ℕ) (trees : List SourceFile) → length (seen_from known n trees) ≡ length trees
as_many_seen known n [] = refl
as_many_seen known n (tree ∷ trees) = ap suc (as_many_seen known (n + 1) trees)

as_many_credited : {seens : List Seen} {files : List FileWithCredits} → AreCredited seens files → length files ≡ length seens
as_many_credited no_file = refl
as_many_credited (file_and same full credited) = ap suc (as_many_credited credited)

its_number : (calls : Callee → ℕ → Bool) (number : ℕ) (file : FileWithCredits) (x : Entry) → IsFileFinding calls number file x
    → x.file ≡ number
its_number calls number file x (outside_bodies f among) = refl
its_number calls number file x (of_use b f among found) = refl
its_number calls number file x (of_path b f among found) = refl

-- Entries

module _ (ps : List LoadedPackage) (i : ℕ) (p : LoadedPackage) (is : slice_get ps i ≡ Some p) where
  of_this : (q : LoadedPackage) (n : ℕ) → slice_get ps i ≡ Some q → n < length q.files → n < length p.files
  of_this q n that l = subst (λ (r : LoadedPackage). n < length r.files) (same_Some q p (sym that ∙ is)) l

  of_spec : (j file : ℕ) (spec : ImportSpec) → (im : ImportsAt ps i j file spec) → file < length p.files
  of_spec j file spec im =
      of_this im.importer file im.is_importer
      (subst (λ (n : ℕ). n < length im.importer.files) im.is_file (of_numbered im.importer im.tree im.is_tree))

  of_dotted : (tables : Tables) (file : ℕ) (dot : Identifier) → (h : IsLeftOut ps tables i file dot) → file < length p.files
  of_dotted tables file dot h =
      of_this h.importer file h.is_importer
      (subst (λ (n : ℕ). n < length h.importer.files) h.is_file (of_numbered h.importer h.tree h.is_tree))

  whole_within : (x : Entry) → IsWholeFault ps i x → x.file < length p.files
  whole_within x (has_no_tokens q file at why that there) = of_this q file that (slice_get_within q.files file (has_text_fault at why) there)
  whole_within x (has_no_tree q file at why that there) = of_this q file that (slice_get_within q.files file (has_tree_fault at why) there)
  whole_within x (has_two_functions q f tree that second there) =
      let among : Contains (numbered_trees q) tree = (f.file, slice_get_within (numbered_trees q) f.file tree there, get_or_from_slice_get (numbered_trees q) f.file tree tree there) in
      of_this q tree.file that (of_numbered q tree among)
  whole_within x (has_no_rank j file spec none_above none im) = of_spec j file spec im

-- By any rules

module _ (rules : Rules) (each : AreSaidOfFiles rules.says) where
  finding_within : (ps : List LoadedPackage) (tables : Tables) (i : ℕ) (x : Entry) → IsFindingBy rules ps tables i x → IsOfFile ps i x
  finding_within ps tables i x (of_whole fault) p is = whole_within ps i p is x fault
  finding_within ps tables i x (of_import j number spec y none im needed found) p is = of_spec ps i p is j number spec im
  finding_within ps tables i x (of_dot file dot none out) p is = of_dotted ps i p is tables file dot out
  finding_within ps tables i x (of_files none said) p is = each ps tables i x none said p is

  pub entries_are_of_files_by : EntriesAreOfFilesBy rules
  entries_are_of_files_by ps report p said x is_report of among =
      let w = is_report.of_package of.place p said of.is_package of.is_said in
      finding_within ps is_report.tables of.place x ((w.are_findings.each x).0 among) p of.is_package

-- By paths

path_sayings : AreSaidOfFiles SaysByPaths
path_sayings ps tables i x none said p is =
    let h = said.is_of in
    let judged = h.is_judged in
    let own : said.number < length h.files = slice_get_within h.files said.number said.file h.is_file in
    let seen = as_many_credited judged.are_files in
    let trees : length (seen_files ps tables h.loaded) ≡ length (trees_of h.loaded) = as_many_seen (known_in ps tables h.loaded) 0 (trees_of h.loaded) in
    let numbered : length (trees_of h.loaded) ≡ length (numbered_trees h.loaded) = length-map (numbered_trees h.loaded) (λ (t : NumberedTree). t.tree) in
    let fewer = fewer_trees 0 h.loaded.files in
    let its = its_number _ said.number said.file x said.is_finding in
    of_this ps i p is h.loaded x.file judged.is_package (omega (arith, own, seen, trees, numbered, fewer, its))

pub entries_are_of_files : EntriesAreOfFiles
entries_are_of_files declared = entries_are_of_files_by (by_paths declared) path_sayings
