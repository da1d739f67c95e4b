-- What is read of the packages that one imports which is judged by itself is what is told of them.
use Rattle.std.proofs.Common.{◌≡◌, ℕ, ◌+◌, Bool, true, false, ◌||◌, if◌then◌else◌, inl, inr, List, [], ◌∷◌, ◌++◌, map, Contains, Option, Some, None, option_map, is_some, bytes_eq, refl, sym, ap, ◌∙◌, subst}
use Rattle.std.specs.Prelude.{slice_get}
use Rattle.std.specs.List.{AllZip}
use Rattle.std.proofs.lemmas.Bool.{false≢true}
use Rattle.std.proofs.lemmas.List.{append_assoc, append-nil}
use Rattle.std.proofs.lemmas.Option.{none-some, same_Some}
use Rattle.std.proofs.lemmas.Slice.Eq.{bytes_eq-Decides}
use Rattle.declared_tables.specs.declared.tables.PackageTable.{PackageTable as KeptTable}
use Rattle.declared_tables.specs.MarkedGivers.{MarksGivers}
use Rattle.first_values.specs.ValuesByName.{only_at}
use Rattle.explanations.specs.Units.{NotesFollow}
use Rattle.gathering.specs.Results.{Told, FollowsFromTold, HaveTold}
use Rattle.imports.proofs.GivenImports.{first_there, there_first}
use Rattle.imports.specs.Ranks.{Package, Imports}
use Rattle.imports.specs.Settling.{place_from}
use Rattle.unit_reports.specs.Units.{kept_of, told_by_vetx, told_of_path, told_of_package, tellings_in, IsRightlyTold, AreImportsTold}
use Rattle.unit_reports.specs.UnitParts.{IsReadOf, is_named, named_among, AreReadSoFar, package_in, told_in, told_by_read, KnowsReadSoFar}
use Rattle.unit_reports.specs.declared.units.ImportedUnit.{ImportedUnit}
use Rattle.unit_reports.specs.declared.units.ReadImport.{ReadImport}
use Rattle.meaning.proofs.Membership.{contains_nil, contains_here, contains_there, contains_cases, contains_unmap}
use Rattle.meaning.specs.OuterBlocks.{or_else}
use Rattle.meaning_reports.proofs.ImportsOf.{given_in_lists, in_lists, list_item, names_first}
use Rattle.meaning_reports.specs.Loaded.{LoadedPackage, Tables, import_list, imported_paths, package_names}
use Rattle.meaning_reports.specs.PackageReports.{Rules, Said, by_paths}
use Rattle.names.proofs.Adding.{or_else-assoc}
use Rattle.given_packages.proofs.ImportedNames.{import_path}
use Rattle.one_package.proofs.ToldImports.{map_else}
use Rattle.one_package.specs.Judgments.{IsOfImport}
use Rattle.one_package.specs.Results.{KeptTold, told_view, told_and, ToldImports, tellings_by_path, tables_told, told_at, AreTold, KnowsTold}
use Rattle.given_packages.specs.ToldNeighbours.{item_of, AreImportsOf, IsRightAbout}
use Rattle.one_package.specs.declared.known_imports.KnownImports.{KnownImports}
use Rattle.report.specs.declared.notes.ExplainedPackage.{ExplainedPackage}

-- One after the other

read_before : (xs : List ImportedUnit) (x : ImportedUnit) (rs : List ReadImport) (r : ReadImport) → AllZip IsReadOf xs rs
    → IsReadOf x r
    → AllZip IsReadOf (xs ++ x ∷ []) (rs ++ r ∷ [])
read_before [] x [] r are is = (is, tt)
read_before [] x (s ∷ rs) r are is = absurd are
read_before (y ∷ xs) x [] r are is = absurd are
read_before (y ∷ xs) x (s ∷ rs) r are is = (are.0, read_before xs x rs r are.1 is)

module _ (paths : List (List ℕ)) (all : List ImportedUnit) where
  among : (one : ImportedUnit) (left : List ImportedUnit) (b : Bool) → is_named paths one.path.now ≡ b
      → named_among paths (one ∷ left) ≡ (if b then one ∷ named_among paths left else named_among paths left)
  among one left b e = ap (λ c. if c then one ∷ named_among paths left else named_among paths left) e

  pub read_one : (one : ImportedUnit) (before left : List ImportedUnit) (rs : List ReadImport) (r : ReadImport)
      → before ≡ one ∷ left
      → is_named paths one.path.now ≡ true
      → IsReadOf one r
      → AreReadSoFar paths before all rs
      → AreReadSoFar paths left all (rs ++ r ∷ [])
  read_one one before left rs r is named its so_far = record {
    done = so_far.done ++ one ∷ [];
    complete = append_assoc so_far.done (one ∷ []) (named_among paths left)
        ∙ (ap (λ xs. so_far.done ++ xs) (sym (among one left true named))
        ∙ (ap (λ xs. so_far.done ++ named_among paths xs) (sym is) ∙ so_far.complete));
    are_read = read_before so_far.done one rs r so_far.are_read its;
  }

  pub read_none : (one : ImportedUnit) (before left : List ImportedUnit) (rs : List ReadImport) → before ≡ one ∷ left
      → is_named paths one.path.now ≡ false
      → AreReadSoFar paths before all rs
      → AreReadSoFar paths left all rs
  read_none one before left rs is named so_far = record {
    done = so_far.done;
    complete = ap (λ xs. so_far.done ++ xs) (sym (among one left false named))
        ∙ (ap (λ xs. so_far.done ++ named_among paths xs) (sym is) ∙ so_far.complete);
    are_read = so_far.are_read;
  }

  pub read_all : (left : List ImportedUnit) (rs : List ReadImport) → left ≡ [] → AreReadSoFar paths left all rs
      → AllZip IsReadOf (named_among paths all) rs
  read_all left rs none so_far =
      subst (λ xs. AllZip IsReadOf xs rs)
      (sym (append-nil so_far.done) ∙ (ap (λ xs. so_far.done ++ named_among paths xs) (sym none) ∙ so_far.complete))
      so_far.are_read

module _ (all : List ReadImport) where
  pub knows_one : (one : ReadImport) (before left : List ReadImport) (now next : KnownImports) → before ≡ one ∷ left
      → ((told : ToldImports) → KnowsTold told now → KnowsTold (told_and told one.imported.path.now (told_in one)) next)
      → KnowsReadSoFar before all now
      → KnowsReadSoFar left all next
  knows_one one before left now next is added so_far = record {
    told = told_and so_far.told one.imported.path.now (told_in one);
    complete = λ path.
        or_else-assoc (so_far.told path) (only_at one.imported.path.now (told_in one) path) (told_by_read left path)
        ∙ (ap (λ rs. or_else (so_far.told path) (told_by_read rs path)) (sym is) ∙ so_far.complete path);
    knows = added so_far.told so_far.knows;
  }

  pub knows_all : (left : List ReadImport) (known : KnownImports) → left ≡ [] → KnowsReadSoFar left all known
      → KnowsTold (told_by_read all) known
  knows_all left known none so_far = subst (λ told. KnowsTold told known) (λ i path. same path i) so_far.knows
    where
      nothing : (o : Option KeptTold) → o ≡ or_else o None
      nothing None = refl
      nothing (Some x) = refl

      same : (path : List ℕ) → so_far.told path ≡ told_by_read all path
      same path =
          nothing (so_far.told path)
          ∙ (ap (λ rs. or_else (so_far.told path) (told_by_read rs path)) (sym none) ∙ so_far.complete path)

-- By paths

map_only : {A B : Type 0} (f : A → B) (b : Bool) (one : A)
    → option_map f (if b then Some one else None) ≡ (if b then Some (f one) else None)
map_only f true one = refl
map_only f false one = refl

same_told : (one : ImportedUnit) (r : ReadImport) → IsReadOf one r → told_view (told_in r) ≡ told_by_vetx (kept_of one)
same_told one r is i = record { table = is.is_table i; is_yes = is.is_yes i }

-- what is told by those that were read is what is told of these
read_tells : (xs : List ImportedUnit) (rs : List ReadImport) → AllZip IsReadOf xs rs → (path : List ℕ)
    → option_map told_view (told_by_read rs path) ≡ told_of_path xs path
read_tells [] [] are path = refl
read_tells [] (r ∷ rs) are path = absurd are
read_tells (x ∷ xs) [] are path = absurd are
read_tells (x ∷ xs) (r ∷ rs) are path =
    map_else told_view (only_at r.imported.path.now (told_in r) path) (told_by_read rs path)
    ∙ (ap (λ o. or_else o (option_map told_view (told_by_read rs path)))
    (map_only told_view (bytes_eq r.imported.path.now path) (told_in r)
    ∙ ap (λ t. if bytes_eq r.imported.path.now path then Some t else None) (same_told x r are.0)
    ∙ ap (λ q. only_at q (told_by_vetx (kept_of x)) path) are.0.is_path)
    ∙ ap (or_else (only_at x.path.now (told_by_vetx (kept_of x)) path)) (read_tells xs rs are.1 path))

-- those of other paths play no part
named_tell : (paths : List (List ℕ)) (path : List ℕ) → is_named paths path ≡ true → (told : List ImportedUnit)
    → told_of_path (named_among paths told) path ≡ told_of_path told path
named_tell paths path named [] = refl
named_tell paths path named (one ∷ rest) = by (is_named paths one.path.now) refl (named_tell paths path named rest)
  where
    first : Option Told
    first = only_at one.path.now (told_by_vetx (kept_of one)) path

    other : (b : Bool) → bytes_eq one.path.now path ≡ b → is_named paths one.path.now ≡ false
        → told_of_path rest path ≡ or_else (if b then Some (told_by_vetx (kept_of one)) else None) (told_of_path rest path)
    other false e none = refl
    other true e none =
        absurd (false≢true (sym none ∙ (ap (is_named paths) ((bytes_eq-Decides one.path.now path).0 e) ∙ named)))

    by : (b : Bool) → is_named paths one.path.now ≡ b
        → told_of_path (named_among paths rest) path ≡ told_of_path rest path
        → told_of_path (if b then one ∷ named_among paths rest else named_among paths rest) path
        ≡ or_else first (told_of_path rest path)
    by true e later = ap (or_else first) later
    by false e later = later ∙ other (bytes_eq one.path.now path) refl e

-- each that was read is one of those of these paths
named_is_told : (paths : List (List ℕ)) (told : List ImportedUnit) (one : ImportedUnit)
    → Contains (named_among paths told) one
    → Contains told one × (is_named paths one.path.now ≡ true)
named_is_told paths [] one h = absurd (contains_nil one h)
named_is_told paths (x ∷ rest) one h = by (is_named paths x.path.now) refl h (named_is_told paths rest one)
  where
    by : (b : Bool) → is_named paths x.path.now ≡ b
        → Contains (if b then x ∷ named_among paths rest else named_among paths rest) one
        → (Contains (named_among paths rest) one → Contains rest one × (is_named paths one.path.now ≡ true))
        → Contains (x ∷ rest) one × (is_named paths one.path.now ≡ true)
    by true e among later = elim (contains_cases x one (named_among paths rest) among) [
      | inl same ↦
          (subst (Contains (x ∷ rest)) same (contains_here x rest), ap (λ (y : ImportedUnit). is_named paths y.path.now) (sym same) ∙ e)
      | inr there ↦ let w = later there in (contains_there x one rest w.0, w.1)
    ]
    by false e among later = let w = later among in (contains_there x one rest w.0, w.1)

-- what was read is of one of these
read_is : (xs : List ImportedUnit) (rs : List ReadImport) → AllZip IsReadOf xs rs → (r : ReadImport) → Contains rs r
    → (x : ImportedUnit) × Contains xs x × IsReadOf x r
read_is [] [] are r h = absurd (contains_nil r h)
read_is [] (s ∷ rs) are r h = absurd are
read_is (x ∷ xs) [] are r h = absurd are
read_is (x ∷ xs) (s ∷ rs) are r h = elim (contains_cases s r rs h) [
  | inl same ↦ (x, contains_here x xs, subst (IsReadOf x) same are.0)
  | inr later ↦ let w = read_is xs rs are.1 r later in (w.0, contains_there x w.0 xs w.1, w.2)
]

-- what is told of a path is of one of these
read_at : (rs : List ReadImport) (path : List ℕ) (t : KeptTold) → told_by_read rs path ≡ Some t
    → (r : ReadImport) × Contains rs r × (r.imported.path.now ≡ path) × (told_in r ≡ t)
read_at [] path t e = absurd (none-some t e)
read_at (r ∷ rs) path t e = by (bytes_eq r.imported.path.now path) refl (read_at rs path t) e
  where
    by : (b : Bool) → bytes_eq r.imported.path.now path ≡ b
        → (told_by_read rs path ≡ Some t
        → (s : ReadImport) × Contains rs s × (s.imported.path.now ≡ path) × (told_in s ≡ t))
        → or_else (if b then Some (told_in r) else None) (told_by_read rs path) ≡ Some t
        → (s : ReadImport) × Contains (r ∷ rs) s × (s.imported.path.now ≡ path) × (told_in s ≡ t)
    by true same rest is = (r, contains_here r rs, (bytes_eq-Decides r.imported.path.now path).0 same, same_Some (told_in r) t is)
    by false same rest is = let w = rest is in (w.0, contains_there r w.0 rs w.1, w.2, w.3)

-- where something is told of a path, one of them has it
placed : (rs : List ReadImport) (path : List ℕ) (n : ℕ) → is_some (told_by_read rs path) ≡ true
    → is_some (place_from path (map item_of (map package_in rs)) n) ≡ true
placed [] path n e = absurd (false≢true e)
placed (r ∷ rs) path n e = by (bytes_eq r.imported.path.now path) e (placed rs path (n + 1))
  where
    by : (b : Bool) → is_some (or_else (if b then Some (told_in r) else None) (told_by_read rs path)) ≡ true
        → (is_some (told_by_read rs path) ≡ true → is_some (place_from path (map item_of (map package_in rs)) (n + 1)) ≡ true)
        → is_some (if b then Some n else place_from path (map item_of (map package_in rs)) (n + 1)) ≡ true
    by true some rest = refl
    by false some rest = rest some

some_of_map : {A B : Type 0} (f : A → B) (o : Option A) → is_some (option_map f o) ≡ is_some o
some_of_map f None = refl
some_of_map f (Some a) = refl

-- a path is among others exactly where they contain it
is_among : (paths : List (List ℕ)) (path : List ℕ) → Contains paths path → is_named paths path ≡ true
is_among [] path h = absurd (contains_nil path h)
is_among (q ∷ qs) path h = by (bytes_eq q path) refl (is_among qs path)
  where
    by : (b : Bool) → bytes_eq q path ≡ b → (Contains qs path → is_named qs path ≡ true) → (b || is_named qs path) ≡ true
    by true e rest = refl
    by false e rest = elim (contains_cases q path qs h) [
      | inl same ↦ absurd (false≢true (sym e ∙ (bytes_eq-Decides q path).1 same))
      | inr later ↦ rest later
    ]

among_is : (paths : List (List ℕ)) (path : List ℕ) → is_named paths path ≡ true → Contains paths path
among_is [] path e = absurd (false≢true e)
among_is (q ∷ qs) path e = by (bytes_eq q path) refl (among_is qs path) e
  where
    by : (b : Bool) → bytes_eq q path ≡ b → (is_named qs path ≡ true → Contains qs path) → (b || is_named qs path) ≡ true → Contains (q ∷ qs) path
    by true same rest some = subst (Contains (q ∷ qs)) ((bytes_eq-Decides q path).0 same) (contains_here q qs)
    by false same rest some = contains_there q path qs (rest some)

-- Of given packages

module _ (ps : List LoadedPackage) (i : ℕ) (p : LoadedPackage) (is_p : slice_get ps i ≡ Some p)
    (told : List ImportedUnit) (rs : List ReadImport) (are : AreImportsTold ps p told)
    (read : AllZip IsReadOf (named_among (imported_paths p) told) rs) where
  -- by those that were read as by all
  tells : (path : List ℕ) → Contains (imported_paths p) path
      → option_map told_view (told_by_read rs path) ≡ told_of_path told path
  tells path names =
      read_tells (named_among (imported_paths p) told) rs read path
      ∙ named_tell (imported_paths p) path (is_among (imported_paths p) path names) told

  -- each of them is right about a package that is imported
  record IsOfTold (r : ReadImport) : Type 0 where
    one : ImportedUnit
    is_read : IsReadOf one r
    names : Contains (imported_paths p) one.path.now
    right : IsRightlyTold ps one

  of_told : (r : ReadImport) → Contains rs r → IsOfTold r
  of_told r h =
      let w = read_is (named_among (imported_paths p) told) rs read r h in
      let there = named_is_told (imported_paths p) told w.0 w.1 in
      let names = among_is (imported_paths p) w.0.path.now there.1 in
      record { one = w.0; is_read = w.2; names = names; right = are.are_right w.0 there.0 names }

  right_about : (r : ReadImport) → Contains rs r → IsRightAbout ps (package_in r)
  right_about r h =
      let t = of_told r h in
      let right = t.right in
      record {
        place = right.place;
        is_place = ap (λ q. place_from q (import_list ps) 0) t.is_read.is_path ∙ right.is_place;
        is_name = t.is_read.is_name ∙ (right.is_name ∙ ap (package_names ps) (sym t.is_read.is_path));
        is_counted = t.is_read.is_counted ∙ right.is_counted;
      }

  some_told : (path : List ℕ) → Contains (imported_paths p) path
      → is_some (place_from path (import_list ps) 0) ≡ true
      → is_some (told_by_read rs path) ≡ true
  some_told path names given =
      sym (some_of_map told_view (told_by_read rs path)) ∙ (ap is_some (tells path names) ∙ are.are_all path names given)

  pub imports_of_read : AreImportsOf ps p (map package_in rs)
  imports_of_read = record {
    are_right = λ one h.
        let w = contains_unmap package_in rs one h in subst (IsRightAbout ps) w.2 (right_about w.0 w.1);
    are_all = λ path names given. placed rs path 0 (some_told path names given);
  }

  of_import : (path : List ℕ) (t : KeptTold) → told_by_read rs path ≡ Some t → IsOfImport ps i path
  of_import path t e =
      let w = read_at rs path t e in
      let its = of_told w.0 w.1 in
      let same : its.one.path.now ≡ path = sym its.is_read.is_path ∙ w.2 in
      let first = first_there (import_list ps) its.one.path.now its.right.place its.right.is_place in
      let q = given_in_lists ps its.right.place first.found first.is_found in
      record {
        place = its.right.place;
        imported = q.0;
        is_there = q.1;
        imports = names_first ps i p is_p its.one.path.now its.right.place its.names first;
        is_path = sym same ∙ (sym first.same ∙ ap (λ l. l.path) (sym q.2));
      }

  marked : (path : List ℕ) (t : KeptTable) → tables_told (told_by_read rs) path ≡ Some t → MarksGivers t
  marked path t e = by (told_by_read rs path) refl e
    where
      by : (o : Option KeptTold) → told_by_read rs path ≡ o → option_map (λ (k : KeptTold). k.table) o ≡ Some t → MarksGivers t
      by None is bad = absurd (none-some t bad)
      by (Some k) is same =
          let w = read_at rs path k is in
          subst MarksGivers (ap (λ (x : KeptTold). x.table) w.3 ∙ same_Some k.table t same) (of_told w.0 w.1).is_read.is_marked

  given_place : (k : ℕ) (q : LoadedPackage) → Imports (import_list ps) i k → slice_get ps k ≡ Some q
      → is_some (place_from q.path (import_list ps) 0) ≡ true
  given_place k q im is =
      let same : im.imported ≡ list_item ps q = same_Some im.imported (list_item ps q) (sym im.is_imported ∙ in_lists ps k q is) in
      let path : im.imported.path ≡ q.path = ap (λ (r : Package). r.path) same in
      ap is_some (there_first (import_list ps) q.path k (record {
        found = im.imported;
        is_found = im.is_imported;
        same = path;
        first = λ m r there e. im.is_first m r there (e ∙ sym path);
      }))

  pub are_told : AreTold ps i (told_by_read rs)
  are_told = record {
    of_imports = of_import;
    are_all = λ k q im is rank. some_told q.path (import_path ps i k p q is_p is im) (given_place k q im is);
    are_marked = marked;
  }

  -- tables that have what is told have what was read
  have_too : (rules : Rules) (tables : Tables) → HaveTold rules ps tables i (tellings_in ps told)
      → HaveTold rules ps tables i (tellings_by_path ps (told_by_read rs))
  have_too rules tables have = record {
    of_told = λ j q one im is found.
        have.of_told j q one im is
        (ap (told_of_package told) is ∙ (sym (tells q.path (import_path ps i j p q is_p is im))
        ∙ (sym (ap (told_at (told_by_read rs)) is) ∙ found)));
    of_unranked = have.of_unranked;
    of_others = have.of_others;
  }

  -- what follows from what was read follows from what is told
  pub follows_too : (rules : Rules) (said : Said)
      → FollowsFromTold rules ps i p (tellings_by_path ps (told_by_read rs)) said
      → FollowsFromTold rules ps i p (tellings_in ps told) said
  follows_too rules said follows tables have = follows tables (have_too rules tables have)

  -- and so do notes
  pub notes_too : (declared : Tables) (explained : ExplainedPackage)
      → NotesFollow declared ps i p (tellings_by_path ps (told_by_read rs)) explained
      → NotesFollow declared ps i p (tellings_in ps told) explained
  notes_too declared explained follow tables have = follow tables (have_too (by_paths declared) tables have)
