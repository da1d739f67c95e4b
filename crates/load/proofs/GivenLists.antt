-- Packages that are given, one after another, and those that are read of them.
use Rattle.std.proofs.Common.{◌≡◌, ℕ, zero, suc, Bool, true, false, cond, ◌||◌, if◌then◌else◌, List, [], ◌∷◌, ◌++◌, map, Option, Some, None, is_some, string_bytes, string_eq, true≢false, refl, sym, ap, ◌∙◌, subst}
use Rattle.std.proofs.lemmas.List.{append-nil, append_assoc, map-append}
use Rattle.std.proofs.lemmas.Slice.Eq.{bytes_eq-Decides}
use Rattle.std.specs.Prelude.{slice_get}
use Rattle.std.specs.List.{list_any, AllByRecursion, AllZip, IsDistinct}
use Rattle.std.specs.Map.{keys_of, lookup}
use Rattle.meaning_reports.specs.Loaded.{LoadedPackage}
use Rattle.whole_packages.specs.declared.loaded_package.LoadedPackage.{LoadedPackage as KeptPackage}
use Rattle.whole_packages.specs.LoadedViews.{HaveDistinctPaths}
use Rattle.load.specs.declared.packages.GivenPackage.{GivenPackage}
use Rattle.load.specs.FilesByName.{AreByName}
use Rattle.load.specs.Readings.{AreReadingsOf, IsLoadedAs}
use Rattle.load.specs.GivenPackages.{Text, PathAndFiles, entry_of, path_of, paths_of, first_repeated, AreInOrder, AreLoaded, IsByName, IsLoadOf, IsReadAs}

-- Paths that come again

-- these entries, with those of the packages that are left, are those of all
pub record GivesOn (given : List GivenPackage) (entries : List PathAndFiles) (left : List GivenPackage) : Type 0 where
  pub whole : entries ++ map entry_of left ≡ map entry_of given
  pub first : first_repeated (keys_of entries) (map path_of left) ≡ first_repeated [] (map path_of given)

pub gives_none : (given left : List GivenPackage) (entries : List PathAndFiles) → entries ≡ [] → left ≡ given
    → GivesOn given entries left
gives_none given left entries none same = record {
  whole = λ i. none i ++ map entry_of (same i);
  first = λ i. first_repeated (keys_of (none i)) (map path_of (same i));
}

among_keys : (test : Text → Bool) (entries : List PathAndFiles)
    → list_any test (keys_of entries) ≡ is_some (lookup test entries)
among_keys test [] = refl
among_keys test (e ∷ es) = by (test e.0) (among_keys test es)
  where
    by : (b : Bool) → list_any test (keys_of es) ≡ is_some (lookup test es)
        → (b || list_any test (keys_of es)) ≡ is_some (cond b (Some e.1) (lookup test es))
    by true rest = refl
    by false rest = rest

-- the next path, by whether it came before
next_path : (before : List Text) (p : Text) (ps : List Text) (b : Bool) → list_any (string_eq p) before ≡ b
    → first_repeated before (p ∷ ps) ≡ (if b then Some p else first_repeated (before ++ p ∷ []) ps)
next_path before p ps b is = ap (λ t. if t then Some p else first_repeated (before ++ p ∷ []) ps) is

pub repeated_now : (given left before : List GivenPackage) (entries : List PathAndFiles) (g : GivenPackage) (b : Bool)
    → before ≡ g ∷ left
    → b ≡ is_some (lookup (string_eq g.path) entries)
    → b ≡ true
    → GivesOn given entries before
    → first_repeated [] (map path_of given) ≡ Some g.path
repeated_now given left before entries g b is found there so =
    sym so.first
    ∙ ((λ i. first_repeated (keys_of entries) (map path_of (is i)))
    ∙ next_path (keys_of entries) g.path (map path_of left) true
    (among_keys (string_eq g.path) entries ∙ (sym found ∙ there)))

pub gives_next : (given left before : List GivenPackage) (entries next : List PathAndFiles) (g : GivenPackage) (b : Bool)
    → before ≡ g ∷ left
    → b ≡ is_some (lookup (string_eq g.path) entries)
    → b ≡ false
    → next ≡ entries ++ entry_of g ∷ []
    → GivesOn given entries before
    → GivesOn given next left
gives_next given left before entries next g b is found there grown so = record {
  whole =
      (λ i. grown i ++ map entry_of left)
      ∙ (append_assoc entries (entry_of g ∷ []) (map entry_of left)
      ∙ ((λ i. entries ++ map entry_of (sym is i)) ∙ so.whole));
  first =
      (λ i. first_repeated (keys_of (grown i)) (map path_of left))
      ∙ ((λ i. first_repeated (map-append (λ (e : PathAndFiles). e.0) entries (entry_of g ∷ []) i) (map path_of left))
      ∙ (sym (next_path (keys_of entries) g.path (map path_of left) false
      (among_keys (string_eq g.path) entries ∙ (sym found ∙ there)))
      ∙ ((λ i. first_repeated (keys_of entries) (map path_of (sym is i))) ∙ so.first)));
}

-- all packages are given, and no path came again
pub gives_all : (given left : List GivenPackage) (entries : List PathAndFiles) → left ≡ [] → GivesOn given entries left
    → (entries ≡ map entry_of given) × (first_repeated [] (map path_of given) ≡ None)
gives_all given left entries none so = (
  sym (append-nil entries) ∙ ((λ i. entries ++ map entry_of (sym none i)) ∙ so.whole),
  sym so.first ∙ (λ i. first_repeated (keys_of entries) (map path_of (none i))),
)

-- What is read

-- this is kept of the package of that path and edition with these files
pub record IsRead (entry : PathAndFiles) (kept : KeptPackage) : Type 0 where
  pub meant : LoadedPackage
  pub loaded : IsLoadedAs entry.1.edition (string_bytes entry.0) (paths_of entry.1.imports) entry.1.sources.items meant kept

abbrev pub AreRead : List PathAndFiles → List KeptPackage → Type 0
AreRead = AllZip IsRead

is_read : (entry : PathAndFiles) (given : GivenPackage) (kept : KeptPackage) → IsByName entry given → IsReadAs given kept
    → IsRead entry kept
is_read entry given kept ordered read = record {
  meant = read.meant;
  loaded = record {
    tells = read.tells;
    is_path = read.is_path ∙ ap string_bytes ordered.is_path;
    is_edition = read.is_edition ∙ ordered.is_edition;
    by_name = subst (AreByName entry.1.sources.items) (sym read.same_files) ordered.by_name;
    are_files =
        subst (λ e. AreReadingsOf e (paths_of entry.1.imports) kept.sources.items read.meant.files) ordered.is_edition
        (subst (λ ps. AreReadingsOf given.edition (paths_of ps) kept.sources.items read.meant.files) ordered.are_imports
        (subst (λ ss. AreReadingsOf given.edition (paths_of given.imports) ss read.meant.files) (sym read.same_files)
        read.are_files));
  };
}

-- packages in the order of their files' names, and what is read of them
are_read : (entries : List PathAndFiles) (given : List GivenPackage) (kept : List KeptPackage)
    → AllZip IsByName entries given
    → AllZip IsReadAs given kept
    → AreRead entries kept
are_read [] [] [] ordered read = tt
are_read [] [] (k ∷ ks) ordered read = absurd read
are_read [] (g ∷ gs) ks ordered read = absurd ordered
are_read (e ∷ es) [] ks ordered read = absurd ordered
are_read (e ∷ es) (g ∷ gs) [] ordered read = absurd read
are_read (e ∷ es) (g ∷ gs) (k ∷ ks) ordered read = (is_read e g k ordered.0 read.0, are_read es gs ks ordered.1 read.1)

pub meant_of : (es : List PathAndFiles) (ks : List KeptPackage) → AreRead es ks → List LoadedPackage
meant_of [] [] h = []
meant_of [] (k ∷ ks) h = []
meant_of (e ∷ es) [] h = []
meant_of (e ∷ es) (k ∷ ks) h = h.0.meant ∷ meant_of es ks h.1

pub are_loaded : (es : List PathAndFiles) (ks : List KeptPackage) (h : AreRead es ks)
    → AreLoaded es (meant_of es ks h) ks
unfolding meant_of
are_loaded [] [] h = tt
are_loaded [] (k ∷ ks) h = absurd h
are_loaded (e ∷ es) [] h = absurd h
are_loaded (e ∷ es) (k ∷ ks) h = (h.0.loaded, are_loaded es ks h.1)

same_text : (x y : Text) → string_bytes x ≡ string_bytes y → string_eq x y ≡ true
same_text x y same = (bytes_eq-Decides (string_bytes x) (string_bytes y)).1 same

-- a path that differs from those of all is that of none
not_there : (x : Text) (es : List PathAndFiles) (ks : List KeptPackage) (h : AreRead es ks)
    → AllByRecursion (λ y. string_eq x y ≡ false) (keys_of es)
    → (j : ℕ) (q : LoadedPackage)
    → slice_get (meant_of es ks h) j ≡ Some q
    → string_bytes x ≡ q.path
    → ⊥
unfolding meant_of
not_there x [] [] h differ j q is same = by j is
  where
    by : (n : ℕ) → slice_get {X = LoadedPackage} [] n ≡ Some q → ⊥
    by zero e = cc
    by (suc n) e = cc
not_there x [] (k ∷ ks) h differ j q is same = absurd h
not_there x (e ∷ es) [] h differ j q is same = absurd h
not_there x (e ∷ es) (k ∷ ks) h differ zero q is same =
    let is_q : h.0.meant ≡ q = cc in
    true≢false (sym (same_text x e.0 (same ∙ (ap (λ p. p.path) (sym is_q) ∙ h.0.loaded.is_path))) ∙ differ.0)
not_there x (e ∷ es) (k ∷ ks) h differ (suc j) q is same = not_there x es ks h.1 differ.1 j q is same

pub distinct : (es : List PathAndFiles) (ks : List KeptPackage) (h : AreRead es ks) → IsDistinct string_eq (keys_of es)
    → HaveDistinctPaths (meant_of es ks h)
unfolding IsDistinct meant_of
distinct es ks h differ = record { same = same_place es ks h differ }
  where
    same_place : (es : List PathAndFiles) (ks : List KeptPackage) (h : AreRead es ks) → IsDistinct string_eq (keys_of es)
        → (i j : ℕ) (p q : LoadedPackage)
        → slice_get (meant_of es ks h) i ≡ Some p
        → slice_get (meant_of es ks h) j ≡ Some q
        → p.path ≡ q.path
        → i ≡ j
    same_place [] [] h differ i j p q is_p is_q e = absurd (none i is_p)
      where
        none : (n : ℕ) → slice_get {X = LoadedPackage} [] n ≡ Some p → ⊥
        none zero e = cc
        none (suc n) e = cc
    same_place [] (k ∷ ks) h differ i j p q is_p is_q e = absurd h
    same_place (e ∷ es) [] h differ i j p q is_p is_q same = absurd h
    same_place (e ∷ es) (k ∷ ks) h differ zero zero p q is_p is_q same = refl
    same_place (e ∷ es) (k ∷ ks) h differ zero (suc j) p q is_p is_q same =
        let is_first : h.0.meant ≡ p = cc in
        absurd (not_there e.0 es ks h.1 differ.0 j q is_q (sym h.0.loaded.is_path ∙ (ap (λ m. m.path) is_first ∙ same)))
    same_place (e ∷ es) (k ∷ ks) h differ (suc i) zero p q is_p is_q same =
        let is_first : h.0.meant ≡ q = cc in
        absurd (not_there e.0 es ks h.1 differ.0 i p is_p (sym h.0.loaded.is_path ∙ (ap (λ m. m.path) is_first ∙ sym same)))
    same_place (e ∷ es) (k ∷ ks) h differ (suc i) (suc j) p q is_p is_q same =
        ap suc (same_place es ks h.1 differ.1 i j p q is_p is_q same)

pub no_value : {X : Type 0} (b : Bool) (o : Option X) → b ≡ is_some o → b ≡ false → o ≡ None
no_value b None is none = refl
no_value b (Some x) is none = absurd (true≢false (sym is ∙ none))

-- what was read of packages in order is the load
pub is_load : (entries : List PathAndFiles) (given : List GivenPackage) (ks : List KeptPackage) → AreInOrder entries given
    → AllZip IsReadAs given ks
    → IsLoadOf entries ks
is_load entries given ks ordered kept =
    let read = are_read ordered.in_order given ks ordered.by_name kept in
    record {
      in_order = ordered.in_order;
      same = ordered.same;
      sorted = ordered.sorted;
      meant = meant_of ordered.in_order ks read;
      are_loaded = are_loaded ordered.in_order ks read;
      distinct = distinct ordered.in_order ks read ordered.distinct;
    }
