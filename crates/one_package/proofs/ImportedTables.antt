-- What is known of a package's imports by what is told of them.
use Rattle.std.proofs.Common.{◌≡◌, ℕ, inl, inr, Bool, true, false, ◌||◌, if◌then◌else◌, List, [], ◌∷◌, Contains, Option, Some, None, option_map, is_some, bytes_eq, refl, sym, ap, ◌∙◌, subst}
use Rattle.std.specs.Prelude.{slice_get}
use Rattle.std.specs.List.{list_any}
use Rattle.std.proofs.lemmas.Bool.{false≢true}
use Rattle.std.proofs.lemmas.Option.{none-some, same_Some}
use Rattle.std.proofs.lemmas.Slice.Eq.{bytes_eq-Decides}
use Rattle.meaning.proofs.Membership.{contains_nil, contains_cases}
use Rattle.meaning.specs.OuterBlocks.{or_else}
use Rattle.facts.specs.FactViews.{facts_in_table, facts_by_path}
use Rattle.imports.specs.Ranks.{Package, Imports}
use Rattle.imports.specs.Settling.{place_from}
use Rattle.imports.proofs.GivenImports.{first_there}
use Rattle.called_parameters.specs.Called.{is_called_in, flags_by_path}
use Rattle.declared_tables.specs.declared.tables.PackageTable.{PackageTable as KeptTable}
use Rattle.declared_tables.specs.DeclaredTables.{table_if_any, table_view as kept_view}
use Rattle.declared_tables.specs.MarkedGivers.{MarksGivers}
use Rattle.whole_packages.specs.WholeEntries.{is_marked, is_set}
use Rattle.meaning_reports.proofs.ImportsOf.{has_path, no_place, names_first, list_item, in_lists, given_in_lists}
use Rattle.meaning_reports.specs.Loaded.{LoadedPackage, PackageTable, Tables, import_list, imported_paths, no_table, is_imported, imported_tables, imported_signatures, imported_flags}
use Rattle.meaning_reports.specs.PackageReports.{Rules}
use Rattle.gathering.specs.Results.{IsNotGiven, HaveTold}
use Rattle.silent_files.specs.SilentPackages.{GiveNone}
use Rattle.files_to_walk.specs.Signs.{is_told, may_give, signs_by_path}
use Rattle.files_to_walk.specs.declared.signs.Signs.{Signs}
use Rattle.one_package.specs.declared.known_imports.KnownImports.{KnownImports}
use Rattle.one_package.specs.Judgments.{KnownAround, IsOfImport}
use Rattle.given_packages.specs.Neighbours.{Nearby, TellsNearby}
use Rattle.one_package.specs.Results.{KeptTold, ToldImports, told_view, told_at, tellings_by_path, tables_told, declared_among, declared_outside, known_tables, signs_in, AreMarkedTables, AreTold, HaveTheirTables, KnowsAll}
use Rattle.one_package.proofs.DeclaredImports.{among_is, is_outside, was_given}
use Rattle.given_packages.proofs.ImportedNames.{import_path}

path_any : (paths : List (List ℕ)) (path : List ℕ) → Contains paths path → list_any (λ q. bytes_eq q path) paths ≡ true
path_any [] path h = absurd (contains_nil path h)
path_any (q ∷ qs) path h = elim (contains_cases q path qs h) [
  | inl same ↦ ap (λ b. b || list_any (λ r. bytes_eq r path) qs) ((bytes_eq-Decides q path).1 same)
  | inr later ↦ by (bytes_eq q path) (path_any qs path later)
]
  where
    by : (b : Bool) → list_any (λ r. bytes_eq r path) qs ≡ true → (b || list_any (λ r. bytes_eq r path) qs) ≡ true
    by true rest = refl
    by false rest = rest

-- Their tables

module _ (ps : List LoadedPackage) (i : ℕ) (p : LoadedPackage) (is_p : slice_get ps i ≡ Some p) where
  abbrev lists : List Package
  lists = import_list ps

  -- the path of an import is one that the package names
  is_named : (path : List ℕ) → IsOfImport ps i path → is_imported p path ≡ true
  is_named path it =
      path_any (imported_paths p) path
      (subst (Contains (imported_paths p)) (sym it.is_path)
      (import_path ps i it.place p it.imported is_p it.is_there it.imports))

  module _ (near : Nearby) (declared : Tables) (tells : TellsNearby declared ps p near) (told : ToldImports)
      (tables : Tables) where
    -- these have the tables that are told of them, the other imports have none, and what isn't given has what is declared
    pub tables_so : ((path : List ℕ) (one : KeptTold) → told path ≡ Some one → IsOfImport ps i path)
        → ((k : ℕ) (q : LoadedPackage) (one : KeptTold) → Imports lists i k → slice_get ps k ≡ Some q
        → told q.path ≡ Some one → tables q.path ≡ kept_view one.table)
        → ((k : ℕ) (q : LoadedPackage) → Imports lists i k → slice_get ps k ≡ Some q
        → told q.path ≡ None → tables q.path ≡ no_table)
        → ((path : List ℕ) → IsNotGiven ps path → tables path ≡ declared path)
        → HaveTheirTables near p tables told
    tables_so of_imports of_found of_none of_others path = by (told path) refl (is_imported p path) refl
      where
        outside : told path ≡ None → is_imported p path ≡ true → (o : Option ℕ) → place_from path lists 0 ≡ o
            → table_if_any (declared_outside near path) ≡ tables path
        outside none names None e =
            let given = tells.are_given path (has_path (imported_paths p) path names) in
            ap table_if_any (is_outside near path (given ∙ ap is_some e))
            ∙ (tells.are_declared path
            ∙ sym (of_others path λ k q is its. no_place path lists 0 e k (list_item ps q) (in_lists ps k q is) its))
        outside none names (Some k) e =
            let given = tells.are_given path (has_path (imported_paths p) path names) in
            let first = first_there lists path k e in
            let q = given_in_lists ps k first.found first.is_found in
            let same : q.0.path ≡ path = ap (λ (r : Package). r.path) q.2 ∙ first.same in
            let im = names_first ps i p is_p path k (has_path (imported_paths p) path names) first in
            ap table_if_any (was_given near path (given ∙ ap is_some e))
            ∙ sym (subst (λ r. tables r ≡ no_table) same (of_none k q.0 im q.1 (ap told same ∙ none)))

        by : (o : Option KeptTold) → told path ≡ o → (b : Bool) → is_imported p path ≡ b
            → table_if_any (or_else (option_map (λ (one : KeptTold). one.table) o) (if b then declared_outside near path else None))
            ≡ (if b then tables path else no_table)
        by None none true names = outside none names (place_from path lists 0) refl
        by None none false names = refl
        by (Some one) e true names =
            let it = of_imports path one e in
            sym (ap tables it.is_path ∙ of_found it.place it.imported one it.imports it.is_there (ap told (sym it.is_path) ∙ e))
        by (Some one) e false names = absurd (false≢true (sym names ∙ is_named path (of_imports path one e)))

    pub tables_by_told : (rules : Rules) → rules.declared ≡ declared → AreTold ps i told
        → HaveTold rules ps tables i (tellings_by_path ps told)
        → HaveTheirTables near p tables told
    tables_by_told rules is are have =
        tables_so are.of_imports
        (λ k q one im is_q e.
        (have.of_told k q (told_view one) im is_q (ap (told_at told) is_q ∙ ap (option_map told_view) e)).is_table)
        (λ k q im is_q e.
        have.of_unranked k q im is_q λ rank. false≢true (sym (ap is_some e) ∙ are.are_all k q im is_q rank))
        (λ path none. have.of_others path none ∙ ap (λ (d : Tables). d path) is)

-- All that is known around the package

module _ (ps : List LoadedPackage) (tables : Tables) (p : LoadedPackage) (declared : Tables) (near : Nearby)
    (tells : TellsNearby declared ps p near) (told : ToldImports) (have : HaveTheirTables near p tables told) where
  -- the table that is known of a path
  abbrev found : List ℕ → Option KeptTable
  found = known_tables near (imported_paths p) told

  signatures_so : (path name : List ℕ)
      → facts_in_table (option_map (λ (t : KeptTable). t.signatures) (found path)) name ≡ imported_signatures p tables path name
  signatures_so path name = seen (found path) ∙ ap (λ (t : PackageTable). t.signatures name) (have path)
    where
      seen : (o : Option KeptTable)
          → facts_in_table (option_map (λ (t : KeptTable). t.signatures) o) name ≡ (table_if_any o).signatures name
      seen None = refl
      seen (Some t) = refl

  calls_so : (path name : List ℕ) (k : ℕ)
      → is_called_in (option_map (λ (t : KeptTable). t.called) (found path)) name k ≡ imported_flags p tables path name k
  calls_so path name k = seen (found path) ∙ ap (λ (t : PackageTable). t.calls name k) (have path)
    where
      seen : (o : Option KeptTable)
          → is_called_in (option_map (λ (t : KeptTable). t.called) o) name k ≡ (table_if_any o).calls name k
      seen None = refl
      seen (Some t) = refl

  -- the tables that are told of are marked, and those that are declared
  found_marked : AreMarkedTables (tables_told told) → AreMarkedTables found
  found_marked marked path t = by (tables_told told path) refl
    where
      by : (o : Option KeptTable) → tables_told told path ≡ o → or_else o (declared_among near (imported_paths p) path) ≡ Some t
          → MarksGivers t
      by (Some u) e is = subst MarksGivers (same_Some u t is) (marked path u e)
      by None e is = tells.are_marked path t (among_is near (imported_paths p) path t is)

  module _ (signs : List ℕ → Option Signs) (are : (path : List ℕ) → signs path ≡ option_map signs_in (found path)) where
    -- where no sign says so, no function of that path gives
    givers_so : AreMarkedTables (tables_told told) → (path : List ℕ)
        → is_set (option_map (λ s. s.gives) (signs path)) ≡ false
        → GiveNone (imported_signatures p tables path)
    givers_so marked path none =
        subst (λ (t : PackageTable). GiveNone t.signatures) (have path)
        (by (found path) refl (ap (λ o. is_set (option_map (λ (s : Signs). s.gives) o)) (sym (are path)) ∙ none))
      where
        by : (o : Option KeptTable) → found path ≡ o
            → is_set (option_map (λ (s : Signs). s.gives) (option_map signs_in o)) ≡ false
            → GiveNone (table_if_any o).signatures
        by (Some t) e off = found_marked marked path t e off
        by None e off = λ name f none_there. absurd (none-some f none_there)

    -- they say so where the table tells of something
    told_so : (path : List ℕ) → is_set (option_map (λ s. s.is_told) (signs path)) ≡ (imported_tables p tables path).is_told
    told_so path =
        ap (λ o. is_set (option_map (λ (s : Signs). s.is_told) o)) (are path)
        ∙ (seen (found path) ∙ ap (λ (t : PackageTable). t.is_told) (have path))
      where
        seen : (o : Option KeptTable)
            → is_set (option_map (λ (s : Signs). s.is_told) (option_map signs_in o)) ≡ (table_if_any o).is_told
        seen None = refl
        seen (Some t) = refl

  pub around_so : (known : KnownImports) → KnowsAll near (imported_paths p) told known
      → AreMarkedTables (tables_told told)
      → KnownAround ps tables p (record {
        names = near.names;
        signatures = facts_by_path known.signatures;
        calls = flags_by_path known.calls;
        givers = may_give known.signs;
        told = is_told known.signs;
        unranked = is_marked near.places near.unranked;
        counted = is_marked near.places near.counted;
      })
  around_so known knows marked = record {
    are_names = tells.are_names;
    are_signatures = λ path name. ap (λ t. facts_in_table t name) (knows.are_signatures path) ∙ signatures_so path name;
    are_calls = λ path name k. ap (λ t. is_called_in t name k) (knows.are_calls path) ∙ calls_so path name k;
    are_givers = givers_so (signs_by_path known.signs) knows.are_signs marked;
    are_told = told_so (signs_by_path known.signs) knows.are_signs;
    are_unranked = tells.are_unranked;
    are_counted = tells.are_counted;
  }
