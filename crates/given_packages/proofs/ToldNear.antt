-- What a package that is judged by itself is told of its imports is right, where each unit told what it found.
use Rattle.std.proofs.Common.{◌≡◌, ℕ, ◌+◌, Bool, true, false, if◌then◌else◌, List, [], ◌∷◌, map, Contains, Option, Some, None, option_map, is_some, bytes_eq, refl, sym, ap, ◌∙◌, subst}
use Rattle.std.specs.Prelude.{slice_get}
use Rattle.std.proofs.lemmas.Bool.{false≢true}
use Rattle.std.proofs.lemmas.Option.{none-some, same_Some, slice_get-map}
use Rattle.std.proofs.lemmas.Slice.Eq.{bytes_eq-Decides}
use Rattle.imports.specs.Ranks.{Package, HasRank}
use Rattle.imports.specs.Settling.{place_from}
use Rattle.imports.proofs.GivenImports.{first_there}
use Rattle.meaning.proofs.Membership.{contains_here, contains_there}
use Rattle.meaning.specs.OuterBlocks.{or_else}
use Rattle.declared_tables.specs.declared.tables.PackageTable.{PackageTable as KeptTable}
use Rattle.declared_tables.specs.DeclaredTables.{table_if_any}
use Rattle.declared_tables.specs.MarkedGivers.{MarksGivers}
use Rattle.whole_packages.specs.WholeEntries.{is_marked, is_set, is_set_at, IsUnranked}
use Rattle.meaning_reports.proofs.ImportsOf.{names_first, no_rank_above}
use Rattle.meaning_reports.specs.Loaded.{LoadedPackage, Tables, counts, import_list, imported_paths, name_of, package_at, package_names}
use Rattle.given_packages.specs.Neighbours.{TellsNearby}
use Rattle.given_packages.specs.ToldNeighbours.{item_of, name_told, AreImportsOf, IsRightAbout}
use Rattle.given_packages.specs.declared.told_neighbours.ImportedPackage.{ImportedPackage}
use Rattle.given_packages.proofs.ImportedNames.{some_from}
use Rattle.given_packages.proofs.ImportedNames.{contains_at}

-- a path without a place has no name
no_name : (path : List ℕ) (ps : List LoadedPackage) (n : ℕ) → place_from path (import_list ps) n ≡ None
    → package_names ps path ≡ None
no_name path [] n e = refl
no_name path (p ∷ ps) n e = by (bytes_eq p.path path) e (no_name path ps (n + 1))
  where
    by : (b : Bool) → (if b then Some n else place_from path (import_list ps) (n + 1)) ≡ None
        → (place_from path (import_list ps) (n + 1) ≡ None → package_names ps path ≡ None)
        → name_of (if b then Some p else package_at path ps) ≡ None
    by true none rest = absurd (none-some n (sym none))
    by false none rest = rest none

-- where each of that path has this name, it is what is told of the path, if any is of it or it is none
named_so : (path : List ℕ) (name : Option (List ℕ)) (told : List ImportedPackage) (n : ℕ)
    → ((one : ImportedPackage) → Contains told one → one.path.now ≡ path → option_map (λ n. n.now) one.name ≡ name)
    → (place_from path (map item_of told) n ≡ None → name ≡ None)
    → name_told told path ≡ name
named_so path name [] n same none = sym (none refl)
named_so path name (one ∷ told) n same none =
    by (bytes_eq one.path.now path) refl none
    (λ later. named_so path name told (n + 1) (λ x h. same x (contains_there one x told h)) later)
  where
    given : (o : Option (List ℕ)) → name ≡ o
        → ((place_from path (map item_of told) (n + 1) ≡ None → name ≡ None) → name_told told path ≡ name)
        → or_else o (name_told told path) ≡ o
    given (Some text) e rest = refl
    given None e rest = rest (λ h. e) ∙ e

    by : (b : Bool) → bytes_eq one.path.now path ≡ b
        → ((if b then Some n else place_from path (map item_of told) (n + 1)) ≡ None → name ≡ None)
        → ((place_from path (map item_of told) (n + 1) ≡ None → name ≡ None) → name_told told path ≡ name)
        → or_else (if b then option_map (λ n. n.now) one.name else None) (name_told told path) ≡ name
    by true e nothing rest =
        let its = same one (contains_here one told) ((bytes_eq-Decides one.path.now path).0 e) in
        ap (λ o. or_else o (name_told told path)) its ∙ given name refl rest
    by false e nothing rest = rest nothing

module _ (ps : List LoadedPackage) (i : ℕ) (p : LoadedPackage) (is_p : slice_get ps i ≡ Some p)
    (rank : HasRank (import_list ps) i) (told : List ImportedPackage) (are : AreImportsOf ps p told) where
  abbrev lists : List Package
  lists = import_list ps

  abbrev place_in : List ℕ → Option ℕ
  place_in path = place_from path (map item_of told) 0

  record IsTold (path : List ℕ) (k : ℕ) : Type 0 where
    one : ImportedPackage
    is_there : slice_get told k ≡ Some one
    same : one.path.now ≡ path
    right : IsRightAbout ps one

  told_there : (path : List ℕ) (k : ℕ) → place_in path ≡ Some k → IsTold path k
  told_there path k e =
      let first = first_there (map item_of told) path k e in
      by (slice_get told k) refl first.found (sym (slice_get-map item_of told k) ∙ first.is_found) first.same
    where
      by : (o : Option ImportedPackage) → slice_get told k ≡ o → (found : Package) → option_map item_of o ≡ Some found
          → found.path ≡ path
          → IsTold path k
      by None is found bad same = absurd (none-some found bad)
      by (Some one) is found its same = record {
        one = one;
        is_there = is;
        same = ap (λ (q : Package). q.path) (same_Some (item_of one) found its) ∙ same;
        right = are.are_right one (contains_at told k one is);
      }

  -- its place among the given packages
  place_there : (path : List ℕ) (k : ℕ) (t : IsTold path k) → place_from path lists 0 ≡ Some t.right.place
  place_there path k t = subst (λ r. place_from r lists 0 ≡ Some t.right.place) t.same t.right.is_place

  given_so : (path : List ℕ) → Contains (imported_paths p) path
      → is_some (place_in path) ≡ is_some (place_from path lists 0)
  given_so path names = by (place_in path) refl (place_from path lists 0) refl
    where
      by : (o : Option ℕ) → place_in path ≡ o → (q : Option ℕ) → place_from path lists 0 ≡ q → is_some o ≡ is_some q
      by None e None f = refl
      by (Some k) e (Some j) f = refl
      by None e (Some j) f = sym (ap is_some e) ∙ are.are_all path names (ap is_some f)
      by (Some k) e None f = absurd (none-some _ (sym f ∙ place_there path k (told_there path k e)))

  unranked_none : (path : List ℕ) → is_marked place_in [] path ≡ true → IsUnranked ps path
  unranked_none path = by (place_in path)
    where
      by : (o : Option ℕ) → is_set_at o [] ≡ true → IsUnranked ps path
      by None e = absurd (false≢true e)
      by (Some k) e = absurd (false≢true e)

  none_unranked : (path : List ℕ) → Contains (imported_paths p) path → IsUnranked ps path → is_marked place_in [] path ≡ true
  none_unranked path names h =
      let im = names_first ps i p is_p path h.place names (first_there lists path h.place h.is_place) in
      absurd (no_rank_above ps i p is_p h.place im h.no_rank rank)

  counted_told : (path : List ℕ) (j : ℕ) → Contains (imported_paths p) path → place_from path lists 0 ≡ Some j
      → is_marked place_in (map (λ (one : ImportedPackage). one.is_counted) told) path ≡ counts (slice_get ps j)
  counted_told path j names place =
      let k = some_from (place_in path) (are.are_all path names (ap is_some place)) in
      let t = told_there path k.0 k.1 in
      let same = same_Some t.right.place j (sym (place_there path k.0 t) ∙ place) in
      ap (λ o. is_set_at o (map (λ (one : ImportedPackage). one.is_counted) told)) k.1
      ∙ (ap is_set (slice_get-map (λ (one : ImportedPackage). one.is_counted) told k.0
      ∙ ap (option_map (λ (one : ImportedPackage). one.is_counted)) t.is_there)
      ∙ (t.right.is_counted ∙ ap (λ n. counts (slice_get ps n)) same))

  names_so : (path : List ℕ) → Contains (imported_paths p) path → name_told told path ≡ package_names ps path
  names_so path names =
      named_so path (package_names ps path) told 0
      (λ one h same. (are.are_right one h).is_name ∙ ap (package_names ps) same)
      (λ none. no_name path ps 0 (not_given (place_from path lists 0) refl none))
    where
      not_given : (o : Option ℕ) → place_from path lists 0 ≡ o → place_in path ≡ None → o ≡ None
      not_given None e none = refl
      not_given (Some j) e none =
          absurd (false≢true (sym (ap is_some none) ∙ are.are_all path names (ap is_some e)))

  pub told_near : (tables : Tables) (declared : List ℕ → Option KeptTable)
      → ((path : List ℕ) → table_if_any (declared path) ≡ tables path)
      → ((path : List ℕ) (t : KeptTable) → declared path ≡ Some t → MarksGivers t)
      → TellsNearby tables ps p (record {
        places = place_in;
        unranked = [];
        counted = map (λ (one : ImportedPackage). one.is_counted) told;
        names = name_told told;
        declared = declared;
      })
  told_near tables declared are_declared are_marked = record {
    are_given = given_so;
    are_unranked = λ path names. (unranked_none path, none_unranked path names);
    are_counted = counted_told;
    are_names = names_so;
    are_declared = are_declared;
    are_marked = are_marked;
  }
