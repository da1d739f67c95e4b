-- The files of a package, one after the other.
use Rattle.std.proofs.Common.{◌≡◌, ℕ, zero, suc, ◌+◌, List, [], ◌∷◌, ◌++◌, map, length, slice_get, Some, None, string_bytes, refl, sym, ap, ◌∙◌, subst, arith}
use Rattle.std.proofs.lemmas.Option.{same_Some}
use Rattle.std.proofs.lemmas.List.{append-nil, append_assoc, map-append, length-append}
use Rattle.lexer.specs.declared.source.Source.{Source}
use Rattle.tree.specs.declared.edition.Edition.{Edition}
use Rattle.tree.specs.Syntax.{SourceFile}
use Rattle.tree.specs.View.{file_syntax}
use Rattle.tree.specs.declared.file.File.{File}
use Rattle.meaning_reports.specs.Loaded.{Reading, has_tree, has_text_fault, has_tree_fault, NumberedTree, trees_from}
use Rattle.whole_packages.specs.declared.loaded_package.Reading.{Reading as KeptReading}
use Rattle.whole_packages.specs.LoadedViews.{readings_of}
use Rattle.whole_packages.specs.declared.loaded_package.Reading.TheVariants.{Tree, NoTokens, NoTree}
use Rattle.whole_packages.specs.declared.loaded_package.LoadedPackage.{LoadedPackage as KeptPackage}
use Rattle.load.specs.declared.packages.GivenPackage.{GivenPackage}
use Rattle.load.specs.GivenPackages.{paths_of, IsReadAs}
use Rattle.load.specs.MeantPaths.{MeantPath}
use Rattle.load.specs.Readings.{reading_of, trees_of, AreReadingsOf, IsMeantWith, IsReadingOf, Parsed}
use Rattle.load.proofs.MeantTrees.{of_meant}

abbrev trees_in : ℕ → List Reading → List SourceFile
trees_in n files = map (λ (t : NumberedTree). t.tree) (trees_from n files)

-- these are the files so far in that edition, what is left completes them, and this is kept of them
pub record LoadsSo (edition : Edition) (paths : List MeantPath) (all left : List Source) (readings : List KeptReading) (trees : List File)
    : Type 0 where
  pub files : List Reading
  pub goes_on : (more : List Reading) → AreReadingsOf edition paths left more → AreReadingsOf edition paths all (files ++ more)
  pub completes : (more : List KeptReading) (rest : List SourceFile)
      → readings_of (readings ++ more) (map file_syntax trees ++ rest) ≡ files ++ readings_of more rest
  pub are_trees : (n : ℕ) → trees_in n files ≡ map file_syntax trees
  pub are_as_many : length files ≡ length readings

pub none_loaded : (edition : Edition) (paths : List MeantPath) (all : List Source) (readings : List KeptReading) (trees : List File)
    → readings ≡ []
    → trees ≡ []
    → LoadsSo edition paths all all readings trees
none_loaded edition paths all readings trees no_readings no_trees = record {
  files = [];
  goes_on = λ more are. are;
  completes = λ more rest i. readings_of (no_readings i ++ more) (map file_syntax (no_trees i) ++ rest);
  are_trees = λ n. ap (map file_syntax) (sym no_trees);
  are_as_many = ap length (sym no_readings);
}

-- one more file: what became of it, and its trees
record IsOne (edition : Edition) (paths : List MeantPath) (text : List ℕ) (reading : KeptReading) (added : List File) : Type 0 where
  pub meant : Reading
  pub is : IsReadingOf edition paths text meant
  pub completes : (more : List KeptReading) (rest : List SourceFile)
      → readings_of (reading ∷ more) (map file_syntax added ++ rest) ≡ meant ∷ readings_of more rest
  pub are_trees : (n : ℕ) → trees_in n (meant ∷ []) ≡ map file_syntax added

is_one : (edition : Edition) (paths : List MeantPath) (text : List ℕ) (reading : KeptReading) (added : List File)
    → IsMeantWith edition paths text reading added
    → IsOne edition paths text reading added
is_one edition paths text Tree [] h = absurd h
is_one edition paths text Tree (tree ∷ []) h = record {
  meant = has_tree (file_syntax tree);
  is = h;
  completes = λ more rest. refl;
  are_trees = λ n. refl;
}
is_one edition paths text Tree (tree ∷ next ∷ trees) h = absurd h
is_one edition paths text (NoTokens at why) [] h = record {
  meant = has_text_fault at why;
  is = h;
  completes = λ more rest. refl;
  are_trees = λ n. refl;
}
is_one edition paths text (NoTokens at why) (tree ∷ trees) h = absurd h
is_one edition paths text (NoTree at why) [] h = record {
  meant = has_tree_fault at why;
  is = h;
  completes = λ more rest. refl;
  are_trees = λ n. refl;
}
is_one edition paths text (NoTree at why) (tree ∷ trees) h = absurd h

trees_after : (n : ℕ) (files : List Reading) (last : Reading) (trees : List SourceFile)
    → ((k : ℕ) → trees_in k (last ∷ []) ≡ trees)
    → trees_in n (files ++ last ∷ []) ≡ trees_in n files ++ trees
trees_after n [] last trees are = are n
trees_after n (has_tree t ∷ fs) last trees are = ap (λ ts. t ∷ ts) (trees_after (n + 1) fs last trees are)
trees_after n (has_text_fault at why ∷ fs) last trees are = trees_after (n + 1) fs last trees are
trees_after n (has_tree_fault at why ∷ fs) last trees are = trees_after (n + 1) fs last trees are

pub one_loaded : (edition : Edition) (paths : List MeantPath) (all left before : List Source) (source : Source) → before ≡ source ∷ left
    → (parsed : Parsed) (readings next_readings : List KeptReading) (trees next_trees : List File)
    → IsMeantWith edition paths source.bytes.items (reading_of parsed) (trees_of parsed)
    → next_readings ≡ readings ++ reading_of parsed ∷ []
    → next_trees ≡ trees ++ trees_of parsed
    → LoadsSo edition paths all before readings trees
    → LoadsSo edition paths all left next_readings next_trees
one_loaded edition paths all left before source is parsed readings next_readings trees next_trees is_parsed are_readings joined so =
    let reading = reading_of parsed in
    let added = trees_of parsed in
    let one = is_one edition paths source.bytes.items reading added is_parsed in
    record {
      files = so.files ++ one.meant ∷ [];
      goes_on = λ more are.
          subst (AreReadingsOf edition paths all) (sym (append_assoc so.files (one.meant ∷ []) more))
          (so.goes_on (one.meant ∷ more) (subst (λ ss. AreReadingsOf edition paths ss (one.meant ∷ more)) (sym is) (one.is, are)));
      completes = λ more rest.
          (λ i. readings_of (are_readings i ++ more) (map file_syntax (joined i) ++ rest))
          ∙ ((λ i. readings_of (append_assoc readings (reading ∷ []) more i)
          ((ap (λ ts. ts ++ rest) (map-append file_syntax trees added)
          ∙ append_assoc (map file_syntax trees) (map file_syntax added) rest) i))
          ∙ (so.completes (reading ∷ more) (map file_syntax added ++ rest)
          ∙ (ap (λ rs. so.files ++ rs) (one.completes more rest)
          ∙ sym (append_assoc so.files (one.meant ∷ []) (readings_of more rest)))));
      are_trees = λ n.
          trees_after n so.files one.meant (map file_syntax added) one.are_trees
          ∙ (ap (λ ts. ts ++ map file_syntax added) (so.are_trees n)
          ∙ (sym (map-append file_syntax trees added) ∙ ap (map file_syntax) (sym joined)));
      are_as_many =
          let so_far = so.are_as_many in
          let files = length-append so.files (one.meant ∷ []) in
          let kept = length-append readings (reading ∷ []) in
          let next = ap length are_readings in
          omega (arith, so_far, files, kept, next);
    }

-- all files
pub all_files : (edition : Edition) (paths : List MeantPath) (all left : List Source) (readings : List KeptReading) (trees : List File) → left ≡ []
    → (so : LoadsSo edition paths all left readings trees)
    → AreReadingsOf edition paths all so.files
all_files edition paths all left readings trees none so =
    subst (AreReadingsOf edition paths all) (append-nil so.files) (so.goes_on [] (subst (λ ss. AreReadingsOf edition paths ss []) (sym none) tt))

pub are_files : (edition : Edition) (paths : List MeantPath) (all left : List Source) (readings : List KeptReading) (trees : List File)
    → (so : LoadsSo edition paths all left readings trees)
    → so.files ≡ readings_of readings (map file_syntax trees)
are_files edition paths all left readings trees so =
    sym (append-nil so.files)
    ∙ (sym (so.completes [] [])
    ∙ λ i. readings_of (append-nil readings i) (append-nil (map file_syntax trees) i))

-- what became of a file, by its place
reading_at : (edition : Edition) (paths : List MeantPath) (sources : List Source) (files : List Reading) → AreReadingsOf edition paths sources files
    → (i : ℕ) (s : Source) (r : Reading)
    → slice_get sources i ≡ Some s
    → slice_get files i ≡ Some r
    → IsReadingOf edition paths s.bytes.items r
reading_at edition paths [] files are i s r is_source is_file = let bad : None ≡ Some s = is_source in cc
reading_at edition paths (x ∷ sources) [] are i s r is_source is_file = absurd are
reading_at edition paths (x ∷ sources) (f ∷ files) are zero s r is_source is_file =
    subst (λ (y : Source). IsReadingOf edition paths y.bytes.items r) (same_Some x s is_source)
    (subst (IsReadingOf edition paths x.bytes.items) (same_Some f r is_file) are.0)
reading_at edition paths (x ∷ sources) (f ∷ files) are (suc i) s r is_source is_file =
    reading_at edition paths sources files are.1 i s r is_source is_file

-- so that is kept of the package
pub is_read : (given : GivenPackage) (kept : KeptPackage) (sources left : List Source)
    → sources ≡ given.sources.items
    → kept.sources.items ≡ given.sources.items
    → kept.path ≡ given.path
    → kept.edition ≡ given.edition
    → left ≡ []
    → LoadsSo given.edition (paths_of given.imports) sources left kept.readings.items kept.trees.items
    → IsReadAs given kept
is_read given kept sources left lent same is_path is_edition none so =
    let edition = given.edition in
    let paths = paths_of given.imports in
    let read = subst (λ ss. AreReadingsOf edition paths ss so.files) lent
    (all_files edition paths sources left kept.readings.items kept.trees.items none so) in
    record {
      meant = record { path = string_bytes given.path; edition = edition; files = so.files };
      tells = record {
        is_path = ap string_bytes (sym is_path);
        is_edition = sym is_edition;
        are_files = are_files edition paths sources left kept.readings.items kept.trees.items so;
        are_trees = so.are_trees 0;
        are_readings = so.are_as_many;
        are_of_texts = λ i s tree is_source is_file.
            of_meant edition paths s.bytes.items tree
            (reading_at edition paths kept.sources.items so.files (subst (λ ss. AreReadingsOf edition paths ss so.files) (sym same) read)
            i s (has_tree tree) is_source is_file);
      };
      is_path = refl;
      is_edition = refl;
      same_files = same;
      are_files = read;
    }
