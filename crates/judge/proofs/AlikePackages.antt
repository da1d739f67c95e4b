-- Packages that were loaded twice of the same files are alike: they are equal but for the reasons why trees are missing,
-- which no contract tells. What `verify` says of one of them says nothing exactly where it does of the other.
use Rattle.std.proofs.Common.{◌≡◌, ℕ, zero, suc, ◌+◌, ◌⊎◌, inl, inr, Bool, true, false, List, [], ◌∷◌, map, Some, None, Contains, refl, sym, ap, ◌∙◌, subst}
use Rattle.std.specs.Prelude.{◌&&◌, not, is_some, if◌then◌else◌, flat_map, slice_get, string_bytes}
use Rattle.std.specs.List.{list_all, list_any}
use Rattle.std.specs.Str.{bytes_eq}
use Rattle.std.proofs.lemmas.Option.{none-some, same_Some}
use Rattle.imports.specs.Ranks.{Package, Imports, HasRank}
use Rattle.judge.proofs.OneLoad.{HasTreeFault, one_reading}
use Rattle.lexer.specs.declared.source.Source.{Source}
use Rattle.load.proofs.OneOrder.{by_name_is_one}
use Rattle.load.specs.GivenPackages.{PathAndFiles, paths_of, AreLoaded}
use Rattle.load.specs.MeantPaths.{MeantPath}
use Rattle.load.specs.Readings.{AreReadingsOf, IsLoadedAs}
use Rattle.meaning.specs.Declarations.{declaration_of_use}
use Rattle.meaning.specs.FunctionFacts.{package_facts}
use Rattle.meaning.specs.OuterBlocks.{PackageNames}
use Rattle.meaning.specs.Tracked.{Fields, each_field}
use Rattle.meaning.specs.TwoFunctions.{FunctionName, function_names_from, second_function}
use Rattle.meaning.specs.Uses.{Seen}
use Rattle.meaning_packages.specs.CallsFlags.{Flags, FileWithCredits, calls_by}
use Rattle.meaning_reports.specs.Loaded.{Reading, has_tree, has_text_fault, has_tree_fault, LoadedPackage, is_read, counts, counts_as_given, counts_by, NumberedTree, Tables, no_table, trees_from, numbered_trees, trees_of, imports_of, import_list, name_in, name_of, package_at, package_names, imported_flags, imported_tables, signatures_of, seen_from, fields_by, seen_files}
use Rattle.meaning_reports.specs.DotImports.{SaysSomething, as_library, by_table, IsLeftOut}
use Rattle.meaning_reports.specs.UsedImports.{IsUsed, IsNeeded, in_first, is_used}
use Rattle.meaning_reports.specs.PackageReports.{IsFindingBy, of_whole, of_import, of_dot, of_files, IsYesBy}
use Rattle.meaning_reports.specs.PackageTables.{tells, tells_of, IsEmpty, IsTableBy, empty, full, AreTablesBy}
use Rattle.meaning_reports.specs.WholeFaults.{ImportsAt, IsWholeFault, has_no_tokens, has_no_tree, has_two_functions, has_no_rank, HasNoWholeFault}
use Rattle.report.specs.Entries.{Entry}
use Rattle.tree.specs.declared.edition.Edition.{Edition}
use Rattle.tree.specs.Syntax.{Identifier, ImportSpec, SourceFile}
use Rattle.verifier.specs.Rules.{GivenByPath, IsVerified, AreFlagsByCertificates, SaysByCertificates, by_certificates}
use Rattle.verifier.specs.Verified.{AreClaimed, AreGivenCredits, IsSaid}
use Rattle.whole_packages.specs.declared.loaded_package.LoadedPackage.{LoadedPackage as KeptPackage}

-- Files

-- the same became of the file, or both times it has no tree
abbrev IsLikeReading : Reading → Reading → Type 0
IsLikeReading r s = (r ≡ s) ⊎ (HasTreeFault r × HasTreeFault s)

-- file by file
abbrev pub AreLike : List Reading → List Reading → Type 0
AreLike [] [] = Unit {0}
AreLike [] (s ∷ ss) = ⊥
AreLike (r ∷ rs) [] = ⊥
AreLike (r ∷ rs) (s ∷ ss) = IsLikeReading r s × AreLike rs ss

turned : (r s : Reading) → IsLikeReading r s → IsLikeReading s r
turned r s (inl same) = inl (sym same)
turned r s (inr both) = inr (both.1, both.0)

all_turned : (rs ss : List Reading) → AreLike rs ss → AreLike ss rs
all_turned [] [] h = tt
all_turned [] (s ∷ ss) h = absurd h
all_turned (r ∷ rs) [] h = absurd h
all_turned (r ∷ rs) (s ∷ ss) h = (turned r s h.0, all_turned rs ss h.1)

reading_there : (rs ss : List Reading) → AreLike rs ss → (n : ℕ) (r : Reading) → slice_get rs n ≡ Some r
    → (s : Reading) × (slice_get ss n ≡ Some s) × IsLikeReading r s
reading_there [] ss h n r e = absurd (none-some r e)
reading_there (q ∷ rs) [] h n r e = absurd h
reading_there (q ∷ rs) (s ∷ ss) h zero r e =
    (s, refl, subst (λ (x : Reading). IsLikeReading x s) (same_Some q r e) h.0)
reading_there (q ∷ rs) (s ∷ ss) h (suc n) r e = reading_there rs ss h.1 n r e

rest_same : (n : ℕ) (r : Reading) (rs ss : List Reading) → trees_from (n + 1) rs ≡ trees_from (n + 1) ss
    → trees_from n (r ∷ rs) ≡ trees_from n (r ∷ ss)
rest_same n (has_tree t) rs ss e = λ j. record { file = n; tree = t } ∷ e j
rest_same n (has_text_fault at why) rs ss e = e
rest_same n (has_tree_fault at why) rs ss e = e

first_same : (n : ℕ) (r s : Reading) (ss : List Reading) → IsLikeReading r s
    → trees_from n (r ∷ ss) ≡ trees_from n (s ∷ ss)
first_same n r s ss (inl same) = ap (λ (x : Reading). trees_from n (x ∷ ss)) same
first_same n (has_tree t) s ss (inr both) = absurd both.0
first_same n (has_text_fault at why) s ss (inr both) = absurd both.0
first_same n (has_tree_fault at why) (has_tree t) ss (inr both) = absurd both.1
first_same n (has_tree_fault at why) (has_text_fault place reason) ss (inr both) = absurd both.1
first_same n (has_tree_fault at why) (has_tree_fault place reason) ss (inr both) = refl

same_trees : (n : ℕ) (rs ss : List Reading) → AreLike rs ss → trees_from n rs ≡ trees_from n ss
same_trees n [] [] h = refl
same_trees n [] (s ∷ ss) h = absurd h
same_trees n (r ∷ rs) [] h = absurd h
same_trees n (r ∷ rs) (s ∷ ss) h = rest_same n r rs ss (same_trees (n + 1) rs ss h.1) ∙ first_same n r s ss h.0

like_readings : (edition : Edition) (paths : List MeantPath) (sources : List Source) (rs ss : List Reading)
    → AreReadingsOf edition paths sources rs
    → AreReadingsOf edition paths sources ss
    → AreLike rs ss
like_readings edition paths [] [] [] h k = tt
like_readings edition paths [] [] (s ∷ ss) h k = absurd k
like_readings edition paths [] (r ∷ rs) ss h k = absurd h
like_readings edition paths (x ∷ xs) [] ss h k = absurd h
like_readings edition paths (x ∷ xs) (r ∷ rs) [] h k = absurd k
like_readings edition paths (x ∷ xs) (r ∷ rs) (s ∷ ss) h k =
    (one_reading edition paths x.bytes.items r s h.0 k.0, like_readings edition paths xs rs ss h.1 k.1)

-- Packages

pub record IsLike (p q : LoadedPackage) : Type 0 where
  pub is_path : p.path ≡ q.path
  pub is_edition : p.edition ≡ q.edition
  pub are_files : AreLike p.files q.files

-- package by package
abbrev pub AreAlike : List LoadedPackage → List LoadedPackage → Type 0
AreAlike [] [] = Unit {0}
AreAlike [] (q ∷ qs) = ⊥
AreAlike (p ∷ ps) [] = ⊥
AreAlike (p ∷ ps) (q ∷ qs) = IsLike p q × AreAlike ps qs

turned_package : (p q : LoadedPackage) → IsLike p q → IsLike q p
turned_package p q h = record {
  is_path = sym h.is_path;
  is_edition = sym h.is_edition;
  are_files = all_turned p.files q.files h.are_files;
}

pub turned_packages : (ps qs : List LoadedPackage) → AreAlike ps qs → AreAlike qs ps
turned_packages [] [] h = tt
turned_packages [] (q ∷ qs) h = absurd h
turned_packages (p ∷ ps) [] h = absurd h
turned_packages (p ∷ ps) (q ∷ qs) h = (turned_package p q h.0, turned_packages ps qs h.1)

like_package : (edition : Edition) (path : List ℕ) (paths : List MeantPath) (sources : List Source)
    (p q : LoadedPackage) (k l : KeptPackage)
    → IsLoadedAs edition path paths sources p k
    → IsLoadedAs edition path paths sources q l
    → IsLike p q
like_package edition path paths sources p q k l h m =
    let same : k.sources.items ≡ l.sources.items =
    by_name_is_one sources k.sources.items l.sources.items h.by_name m.by_name in
    record {
      is_path = h.is_path ∙ sym m.is_path;
      is_edition = h.is_edition ∙ sym m.is_edition;
      are_files = like_readings edition paths k.sources.items p.files q.files h.are_files
          (subst (λ (s : List Source). AreReadingsOf edition paths s q.files) (sym same) m.are_files);
    }

pub loaded_alike : (es : List PathAndFiles) (ps qs : List LoadedPackage) (ks ls : List KeptPackage)
    → AreLoaded es ps ks
    → AreLoaded es qs ls
    → AreAlike ps qs
loaded_alike [] [] [] ks ls h m = tt
loaded_alike [] [] (q ∷ qs) ks ls h m = absurd m
loaded_alike [] (p ∷ ps) qs ks ls h m = absurd h
loaded_alike (e ∷ es) [] qs ks ls h m = absurd h
loaded_alike (e ∷ es) (p ∷ ps) [] ks ls h m = absurd m
loaded_alike (e ∷ es) (p ∷ ps) (q ∷ qs) [] ls h m = absurd h
loaded_alike (e ∷ es) (p ∷ ps) (q ∷ qs) (k ∷ ks) [] h m = absurd m
loaded_alike (e ∷ es) (p ∷ ps) (q ∷ qs) (k ∷ ks) (l ∷ ls) h m = (
  like_package e.1.edition (string_bytes e.0) (paths_of e.1.imports) e.1.sources.items p q k l h.0 m.0,
  loaded_alike es ps qs ks ls h.1 m.1,
)

pub package_there : (ps qs : List LoadedPackage) → AreAlike ps qs → (i : ℕ) (p : LoadedPackage) → slice_get ps i ≡ Some p
    → (q : LoadedPackage) × (slice_get qs i ≡ Some q) × IsLike p q
package_there [] qs h i p e = absurd (none-some p e)
package_there (x ∷ ps) [] h i p e = absurd h
package_there (x ∷ ps) (q ∷ qs) h zero p e = (q, refl, subst (λ (y : LoadedPackage). IsLike y q) (same_Some x p e) h.0)
package_there (x ∷ ps) (q ∷ qs) h (suc i) p e = package_there ps qs h.1 i p e

-- What is known of them

numbered_same : (p q : LoadedPackage) → IsLike p q → numbered_trees p ≡ numbered_trees q
numbered_same p q h = same_trees 0 p.files q.files h.are_files

trees_same : (p q : LoadedPackage) → IsLike p q → trees_of p ≡ trees_of q
trees_same p q h = ap (map (λ (t : NumberedTree). t.tree)) (numbered_same p q h)

-- Whether they count as given

read_same : (r s : Reading) → IsLikeReading r s → is_read r ≡ is_read s
read_same r s (inl same) = ap is_read same
read_same (has_tree t) s (inr both) = absurd both.0
read_same (has_text_fault at why) s (inr both) = absurd both.0
read_same (has_tree_fault at why) (has_tree t) (inr both) = absurd both.1
read_same (has_tree_fault at why) (has_text_fault place reason) (inr both) = absurd both.1
read_same (has_tree_fault at why) (has_tree_fault place reason) (inr both) = refl

all_read_same : (rs ss : List Reading) → AreLike rs ss → list_all is_read rs ≡ list_all is_read ss
all_read_same [] [] h = refl
all_read_same [] (s ∷ ss) h = absurd h
all_read_same (r ∷ rs) [] h = absurd h
all_read_same (r ∷ rs) (s ∷ ss) h = λ j. read_same r s h.0 j && all_read_same rs ss h.1 j

counts_same : (p q : LoadedPackage) → IsLike p q → counts_as_given p ≡ counts_as_given q
counts_same p q h = λ j.
    counts_by (h.is_edition j)
    (all_read_same p.files q.files h.are_files j && not (is_some (second_function (trees_same p q h j))))

counted_there : (ps qs : List LoadedPackage) → AreAlike ps qs → (j : ℕ) → counts (slice_get ps j) ≡ counts (slice_get qs j)
counted_there [] [] h j = refl
counted_there [] (q ∷ qs) h j = absurd h
counted_there (p ∷ ps) [] h j = absurd h
counted_there (p ∷ ps) (q ∷ qs) h zero = counts_same p q h.0
counted_there (p ∷ ps) (q ∷ qs) h (suc j) = counted_there ps qs h.1 j

abbrev paths_in : List SourceFile → List (List ℕ)
paths_in trees = flat_map (λ tree. map (λ s. s.path) (imports_of tree)) trees

abbrev list_item : List ℕ → List SourceFile → Package
list_item path trees = record { path = path; imports = paths_in trees }

pub lists_same : (ps qs : List LoadedPackage) → AreAlike ps qs → import_list ps ≡ import_list qs
lists_same [] [] h = refl
lists_same [] (q ∷ qs) h = absurd h
lists_same (p ∷ ps) [] h = absurd h
lists_same (p ∷ ps) (q ∷ qs) h =
    let rest = lists_same ps qs h.1 in
    λ j. list_item (h.0.is_path j) (trees_same p q h.0 j) ∷ rest j

names_same : (ps qs : List LoadedPackage) → AreAlike ps qs → (path : List ℕ)
    → package_names ps path ≡ package_names qs path
names_same [] [] h path = refl
names_same [] (q ∷ qs) h path = absurd h
names_same (p ∷ ps) [] h path = absurd h
names_same (p ∷ ps) (q ∷ qs) h path =
    ap (λ (x : List ℕ). name_of (if bytes_eq x path then Some p else package_at path ps)) h.0.is_path
    ∙ by (bytes_eq q.path path) (names_same ps qs h.1 path)
  where
    by : (b : Bool) → name_of (package_at path ps) ≡ name_of (package_at path qs)
        → name_of (if b then Some p else package_at path ps) ≡ name_of (if b then Some q else package_at path qs)
    by true rest = λ j. if counts_same p q h.0 j then name_in (trees_same p q h.0 j) else None
    by false rest = rest

-- by their edition, their trees and the names of packages alone
abbrev seen_where : Fields → Edition → List SourceFile → PackageNames → Tables → List Seen
seen_where fields edition trees names tables =
    seen_from (λ number. record {
      edition = edition;
      means = declaration_of_use trees names number;
      fields = fields;
      object_lefts = λ at. None;
      functions = package_facts edition (λ n. declaration_of_use trees names n) trees;
      imported = λ path. (if list_any (λ r. bytes_eq r path) (paths_in trees) then tables path else no_table).signatures;
    }) 0 trees

abbrev seen_with : Edition → List SourceFile → PackageNames → Tables → List Seen
seen_with edition trees names tables =
    seen_where (fields_by edition (seen_where each_field edition trees names tables)) edition trees names tables

abbrev table_with : List SourceFile → Tables → Tables
table_with trees tables path = if list_any (λ r. bytes_eq r path) (paths_in trees) then tables path else no_table

abbrev flags_with : List SourceFile → Tables → List ℕ → Flags
flags_with trees tables path = (table_with trees tables path).calls

module _ (ps qs : List LoadedPackage) (alike : AreAlike ps qs) where
  all_names : package_names ps ≡ package_names qs
  all_names = λ j path. names_same ps qs alike path j

  seen_same : (tables : Tables) (p q : LoadedPackage) → IsLike p q → seen_files ps tables p ≡ seen_files qs tables q
  seen_same tables p q h = λ j. seen_with (h.is_edition j) (trees_same p q h j) (all_names j) tables

  tells_same : (p q : LoadedPackage) → IsLike p q → tells_of ps p ≡ tells_of qs q
  tells_same p q h = λ j.
      list_any (λ (f : FunctionName). tells (package_facts (h.is_edition j) (λ n. declaration_of_use (trees_same p q h j) (all_names j) n) (trees_same p q h j) f.name.text))
      (function_names_from 0 (trees_same p q h j))

  signatures_same : (p q : LoadedPackage) → IsLike p q → (name : List ℕ)
      → signatures_of ps p name ≡ signatures_of qs q name
  signatures_same p q h name =
      λ j. package_facts (h.is_edition j) (λ n. declaration_of_use (trees_same p q h j) (all_names j) n) (trees_same p q h j) name

  -- Faults of whole packages

  imports_too : (i j number : ℕ) (spec : ImportSpec) → ImportsAt ps i j number spec → ImportsAt qs i j number spec
  imports_too i j number spec h =
      let importer = package_there ps qs alike i h.importer h.is_importer in
      let imported = package_there ps qs alike j h.imported h.is_imported in
      record {
        importer = importer.0;
        imported = imported.0;
        tree = h.tree;
        is_importer = importer.1;
        is_imported = imported.1;
        imports = subst (λ (l : List Package). Imports l i j) (lists_same ps qs alike) h.imports;
        is_tree =
            subst (λ (ts : List NumberedTree). Contains ts h.tree) (numbered_same h.importer importer.0 importer.2)
            h.is_tree;
        is_file = h.is_file;
        is_spec = h.is_spec;
        is_path = h.is_path ∙ imported.2.is_path;
      }

  whole_too : (i : ℕ) (x : Entry) → IsWholeFault ps i x → (y : Entry) × IsWholeFault qs i y
  whole_too i x (has_no_tokens p file at why is is_file) =
      let q = package_there ps qs alike i p is in
      let s = reading_there p.files q.0.files q.2.are_files file (has_text_fault at why) is_file in
      elim s.2 [
        | inl same ↦ (_, has_no_tokens q.0 file at why q.1 (s.1 ∙ ap Some (sym same)))
        | inr both ↦ absurd both.0
      ]
  whole_too i x (has_no_tree p file at why is is_file) =
      let q = package_there ps qs alike i p is in
      let s = reading_there p.files q.0.files q.2.are_files file (has_tree_fault at why) is_file in
      elim s.2 [
        | inl same ↦ (_, has_no_tree q.0 file at why q.1 (s.1 ∙ ap Some (sym same)))
        | inr both ↦ by q.0 q.1 s.0 s.1 both.1
      ]
    where
      by : (q : LoadedPackage) → slice_get qs i ≡ Some q → (s : Reading) → slice_get q.files file ≡ Some s → HasTreeFault s
          → (y : Entry) × IsWholeFault qs i y
      by q is_q (has_tree t) there fault = absurd fault
      by q is_q (has_text_fault place reason) there fault = absurd fault
      by q is_q (has_tree_fault place reason) there fault = (_, has_no_tree q file place reason is_q there)
  whole_too i x (has_two_functions p f tree is second there) =
      let q = package_there ps qs alike i p is in
      let numbered = numbered_same p q.0 q.2 in (
        _,
        has_two_functions q.0 f tree q.1 (ap second_function (sym (trees_same p q.0 q.2)) ∙ second)
            (ap (λ (ts : List NumberedTree). slice_get ts f.file) (sym numbered) ∙ there),
      )
  whole_too i x (has_no_rank j file spec none other im) =
      let lists = lists_same ps qs alike in (
        _,
        has_no_rank j file spec
            (subst (λ (l : List Package). HasRank l i → ⊥) lists none)
            (subst (λ (l : List Package). HasRank l j → ⊥) lists other)
            (imports_too i j file spec im),
      )

module _ (ps qs : List LoadedPackage) (alike : AreAlike ps qs) (given : GivenByPath) (declared tables : Tables) where
  none_too : (i : ℕ) → HasNoWholeFault ps i → HasNoWholeFault qs i
  none_too i none x fault = let w = whole_too qs ps (turned_packages ps qs alike) i x fault in none w.0 w.1

  -- Imports with a dot

  says_too_of : (path : List ℕ) (p q : LoadedPackage) → IsLike p q → SaysSomething (imported_tables p tables) path
      → SaysSomething (imported_tables q tables) path
  says_too_of path p q h (as_library library) = as_library library
  says_too_of path p q h (by_table told) =
      by_table (ap (λ (trees : List SourceFile). (table_with trees tables path).is_told) (sym (trees_same p q h)) ∙ told)

  dots_too : (i file : ℕ) (dot : Identifier) → IsLeftOut ps tables i file dot → IsLeftOut qs tables i file dot
  dots_too i file dot h =
      let importer = package_there ps qs alike i h.importer h.is_importer in
      record {
        importer = importer.0;
        tree = h.tree;
        spec = h.spec;
        is_importer = importer.1;
        is_tree =
            subst (λ (ts : List NumberedTree). Contains ts h.tree) (numbered_same h.importer importer.0 importer.2)
            h.is_tree;
        is_file = h.is_file;
        is_spec = h.is_spec;
        is_its = h.is_its;
        is_dot = h.is_dot;
        says_something = says_too_of h.spec.path h.importer importer.0 importer.2 h.says_something;
      }

  -- Imports that are needed

  used_too : (i : ℕ) (path : List ℕ) → IsUsed ps tables i path → IsUsed qs tables i path
  used_too i path h =
      let user = package_there ps qs alike i h.user h.is_user in
      record {
        user = user.0;
        file = h.file;
        callee = h.callee;
        is_user = user.1;
        is_file =
            subst (λ (files : List Seen). Contains files h.file) (seen_same ps qs alike tables h.user user.0 user.2)
            h.is_file;
        is_of_path = h.is_of_path;
        hands = h.hands;
      }

  needed_too : (i j : ℕ) (path : List ℕ) → IsNeeded ps tables i j path → IsNeeded qs tables i j path
  needed_too i j path (in_first {importer = p} is first) =
      let q = package_there ps qs alike i p is in in_first q.1 (sym q.2.is_edition ∙ first)
  needed_too i j path (is_used counted h) = is_used (sym (counted_there ps qs alike j) ∙ counted) (used_too i path h)

  -- What `verify` says

  pub verified_too : (i : ℕ) (p q : LoadedPackage) (files : List FileWithCredits) (flags : Flags) → IsLike p q
      → slice_get qs i ≡ Some q
      → IsVerified given ps tables i p files flags
      → IsVerified given qs tables i q files flags
  verified_too i p q files flags h is v = record {
    is_package = is;
    are_seen = v.are_seen ∙ seen_same ps qs alike tables p q h;
    are_flags = subst (λ (path : List ℕ). AreClaimed files (given path) flags) h.is_path v.are_flags;
    are_credits = λ number file there.
        subst (λ (path : List ℕ). AreGivenCredits (given path) flags (calls_by flags (imported_flags q tables)) number file)
        h.is_path
        (subst (λ (trees : List SourceFile).
        AreGivenCredits (given p.path) flags (calls_by flags (flags_with trees tables)) number file)
        (trees_same p q h) (v.are_credits number file there));
  }

  says_too : (i : ℕ) (x : Entry) → SaysByCertificates given ps tables i x → SaysByCertificates given qs tables i x
  says_too i x s =
      let p = s.loaded in
      let w = package_there ps qs alike i p s.is_verified.is_package in
      let q = w.0 in
      record {
        loaded = q;
        files = s.files;
        flags = s.flags;
        is_verified = verified_too i p q s.files s.flags w.2 w.1 s.is_verified;
        number = s.number;
        file = s.file;
        is_file = s.is_file;
        is_said =
            subst (λ (path : List ℕ). IsSaid (given path) s.flags (calls_by s.flags (imported_flags q tables)) s.number s.file x)
            w.2.is_path
            (subst (λ (trees : List SourceFile).
            IsSaid (given p.path) s.flags (calls_by s.flags (flags_with trees tables)) s.number s.file x)
            (trees_same p q w.2) s.is_said);
      }

  finding_too : (i : ℕ) (x : Entry) → IsFindingBy (by_certificates given declared) ps tables i x
      → (y : Entry) × IsFindingBy (by_certificates given declared) qs tables i y
  finding_too i x (of_whole fault) = let w = whole_too ps qs alike i x fault in (w.0, of_whole w.1)
  finding_too i x (of_import j number spec y none im needed finding) =
      let w = finding_too j y finding in (
        _,
        of_import j number spec w.0 (none_too i none) (imports_too ps qs alike i j number spec im)
            (needed_too i j spec.path needed) w.1,
      )
  finding_too i x (of_dot file dot none out) = (_, of_dot file dot (none_too i none) (dots_too i file dot out))
  finding_too i x (of_files none said) = (x, of_files (none_too i none) (says_too i x said))

  table_too : (i : ℕ) (p q : LoadedPackage) → IsLike p q → slice_get qs i ≡ Some q
      → IsTableBy (AreFlagsByCertificates given) ps tables i p (tables p.path)
      → IsTableBy (AreFlagsByCertificates given) qs tables i q (tables q.path)
  table_too i p q h is (empty x fault nothing) =
      let w = whole_too ps qs alike i x fault in
      empty w.0 w.1 (subst (λ (path : List ℕ). IsEmpty (tables path)) h.is_path nothing)
  table_too i p q h is (full flags none its signatures calls told) =
      full flags (none_too i none) (record {
        files = its.files;
        is_verified = verified_too i p q its.files flags h is its.is_verified;
      })
      (λ name. ap (λ (path : List ℕ). (tables path).signatures name) (sym h.is_path)
      ∙ (signatures name ∙ signatures_same ps qs alike p q h name))
      (λ name k. ap (λ (path : List ℕ). (tables path).calls name k) (sym h.is_path) ∙ calls name k)
      (ap (λ (path : List ℕ). (tables path).is_told) (sym h.is_path) ∙ (told ∙ tells_same ps qs alike p q h))

module _ (ps qs : List LoadedPackage) (alike : AreAlike ps qs) (given : GivenByPath) (declared tables : Tables) where
  pub yes_too : (i : ℕ) → IsYesBy (by_certificates given declared) ps tables i
      → IsYesBy (by_certificates given declared) qs tables i
  yes_too i said_none x finding =
      let w = finding_too qs ps (turned_packages ps qs alike) given declared tables i x finding in said_none w.0 w.1

  pub tables_too : AreTablesBy (AreFlagsByCertificates given) declared ps tables
      → AreTablesBy (AreFlagsByCertificates given) declared qs tables
  tables_too are = record {
    of_package = λ i q is.
        let w = package_there qs ps (turned_packages ps qs alike) i q is in
        table_too ps qs alike given declared tables i w.0 q (turned_package q w.0 w.2) is (are.of_package i w.0 w.1);
    of_others = λ path none. are.of_others path λ i p is its.
        let w = package_there ps qs alike i p is in none i w.0 w.1 (sym w.2.is_path ∙ its);
  }
