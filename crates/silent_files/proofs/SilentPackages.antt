-- Where a file in which nothing is to be found stands for another, flags and findings stay.
use Rattle.std.proofs.Common.{◌≡◌, ℕ, Bool, true, false, inl, inr, List, [], ◌∷◌, Option, Some, None, Contains, refl, sym, ap, ◌∙◌, subst}
use Rattle.std.specs.Prelude.{◌++◌, not, ◌&&◌, ◌||◌, if◌then◌else◌, option_map, slice_get}
use Rattle.std.specs.List.{list_any, filter, AllZip}
use Rattle.std.specs.Str.{bytes_eq}
use Rattle.std.proofs.lemmas.Option.{same_Some}
use Rattle.tree.specs.declared.edition.Edition.{Edition}
use Rattle.tree.specs.declared.edition.Edition.TheVariants.{First, Second}
use Rattle.tree.specs.Syntax.{ImportSpec, SourceFile}
use Rattle.meaning.specs.OuterBlocks.{PackageNames, PackageLevel, is_first_path, any_path, is_called, import_name_of, import_among, import_meant, or_else, specs_of, package_block, package_meant}
use Rattle.meaning.specs.Scopes.{LocalName, file_names}
use Rattle.meaning.specs.Declarations.{Meaning, local_name, import_name, function_name, package_name, universe_name, Use, use_at, uses_of, local_meant, locals_of, package_or_universe, import_or_around, local_or_around, meaning_of, meaning_at}
use Rattle.meaning.specs.FunctionFacts.{FunctionFacts, context_path, errgroup_path}
use Rattle.meaning.specs.Mentions.{Named, BodyPlace, Mark, is_found, is_of_fields, marks_by, file_marks}
use Rattle.meaning.specs.Tracked.{Fields, some_keep, Known, facts_of, facts_meant, facts_giving, is_empty}
use Rattle.meaning.specs.Uses.{Callee, Seen, UseFault}
use Rattle.meaning.specs.BodyEvents.{Variable, variables_of, too_many_faults, body_faults}
use Rattle.meaning.proofs.Membership.{contains_nil, contains_here, contains_there, contains_cases}
use Rattle.meaning_packages.specs.PathFaults.{Paths, PathFault, paths_of, IsPathFault, loses_cancel, loses_group, returns_live, returns_open, returns_kept, returns_pending, IsPassFault, passes_on, IsFaultOf, of_a_pass, of_a_path}
use Rattle.meaning_packages.specs.Credits.{Credits, promises_in, IsCredited}
use Rattle.meaning_packages.specs.CallsFlags.{Flags, FileWithCredits, IsKept, AreConsistent}
use Rattle.meaning_reports.specs.Loaded.{LoadedPackage, Tables, trees_of, imports_of, package_names, imported_signatures, known_in, known_with, keeping_in}
use Rattle.meaning_reports.specs.PackageReports.{IsFileFinding, outside_bodies, of_use, of_path}
use Rattle.report.specs.Entries.{Entry}
use Rattle.silent_files.specs.SilentFiles.{GivesNothing, GivesByContext, mark_tells, names_recover, IsSilent}
use Rattle.silent_files.specs.SilentPackages.{imports_first, imports_group, GiveNone, NamesNoGiver, StandsFor, itself, silent}
use Rattle.silent_files.specs.SilentLaws.{SkippedFilesAreSilent, ImportsTell, SilentFilesChangeNothing}
use Rattle.silent_files.proofs.SilentFiles.{neither_first, neither_second, none_of, no_mark_tells, tells_the_same, without_makers}
use Rattle.std.proofs.lemmas.Bool.{false≢true}

-- Nothing of a silent file

none_there : {A : Type 0} (xs : List A) (x : A) → xs ≡ [] → Contains xs x → ⊥
none_there xs x e h = contains_nil x (subst (λ ys. Contains ys x) e h)

module _ (seen : Seen) (quiet : IsSilent seen) where
  pub no_variable_of : (body : ℕ) (v : Variable) → Contains (variables_of seen body) v → ⊥
  no_variable_of body v h = none_there (variables_of seen body) v (quiet.no_variable body) h

  no_use_fault : (body : ℕ) (f : UseFault) → Contains (body_faults seen body) f → ⊥
  no_use_fault body f h =
      none_there _ f (λ i. quiet.inside body i ++ too_many_faults (quiet.no_variable body i)) h

  no_path_fault : (b : Paths) → ((v : Variable) → Contains b.variables v → ⊥) → (f : PathFault) → IsPathFault b f → ⊥
  no_path_fault b none _ (loses_cancel v u t o is_of kind reaches binds same lost) = none v is_of
  no_path_fault b none _ (loses_group g u state t o reaches made same live) = none g live.is_of_body
  no_path_fault b none _ (returns_live g handed t o comes declared live) = none g live.is_of_body
  no_path_fault b none _ (returns_open v handed t o comes owes opened) = none v owes.is_of_body
  no_path_fault b none _ (returns_kept v handed t o comes owes kept elsewhere) = none v owes.is_of_body
  no_path_fault b none _ (returns_pending v handed t o comes owes left) = none v owes.is_of_body

  no_pass_fault : (b : Paths) → ((v : Variable) → Contains b.variables v → ⊥) → (f : PathFault) → IsPassFault b f → ⊥
  no_pass_fault b none _ (passes_on v u at e first is_of kind there not_called same) = none v is_of

  no_fault_of : (calls : Callee → ℕ → Bool) (credits : Credits) (b : BodyPlace) (f : PathFault)
      → IsFaultOf seen (promises_in calls credits b.at) b f
      → ⊥
  no_fault_of calls credits b f (of_a_pass _ fault) =
      no_pass_fault (paths_of seen (promises_in calls credits b.at) b) (no_variable_of b.at) f fault
  no_fault_of calls credits b f (of_a_path _ few fault) =
      no_path_fault (paths_of seen (promises_in calls credits b.at) b) (no_variable_of b.at) f fault

no_finding : (calls : Callee → ℕ → Bool) (number : ℕ) (f : FileWithCredits) (x : Entry) → IsSilent f.seen
    → IsFileFinding calls number f x
    → ⊥
no_finding calls number f x quiet (outside_bodies fault h) = none_there _ fault quiet.outside h
no_finding calls number f x quiet (of_use b fault is_body h) = no_use_fault f.seen quiet b.at fault h
no_finding calls number f x quiet (of_path b fault is_body h) = no_fault_of f.seen quiet calls f.credits b fault h

-- Files that stand for others

stands_back : (f g : FileWithCredits) → StandsFor f g → StandsFor g f
stands_back f g itself = itself
stands_back f g (silent one other) = silent other one

pub all_back : (fs gs : List FileWithCredits) → AllZip StandsFor fs gs → AllZip StandsFor gs fs
all_back [] [] h = tt
all_back [] (g ∷ gs) h = absurd h
all_back (f ∷ fs) [] h = absurd h
all_back (f ∷ fs) (g ∷ gs) h = (stands_back f g h.0, all_back fs gs h.1)

one_for : (fs gs : List FileWithCredits) → AllZip StandsFor fs gs → (f : FileWithCredits) → Contains fs f
    → (g : FileWithCredits) × Contains gs g × StandsFor f g
one_for [] gs h f among = absurd (contains_nil f among)
one_for (x ∷ fs) [] h f among = absurd h
one_for (x ∷ fs) (g ∷ gs) h f among =
    elim (contains_cases x f fs among) [
      | inl same ↦ (g, contains_here g gs, subst (λ y. StandsFor y g) same h.0)
      | inr later ↦
          let found = one_for fs gs h.1 f later in
          (found.0, contains_there g found.0 gs found.1, found.2)
    ]

kept_by : (files others : List FileWithCredits) (imported : List ℕ → Flags) (flags : Flags)
    → AllZip StandsFor files others
    → (name : List ℕ) (k : ℕ) → IsKept files imported flags name k
    → IsKept others imported flags name k
kept_by files others imported flags stand name k kept =
    let found = one_for files others stand kept.file kept.is_of_package in by found.0 found.1 found.2 kept refl
  where
    by : (g : FileWithCredits) → Contains others g → {f : FileWithCredits} → StandsFor f g
        → (kept : IsKept files imported flags name k)
        → kept.file ≡ f
        → IsKept others imported flags name k
    by g there itself kept same = record {
      file = kept.file;
      body = kept.body;
      variable = kept.variable;
      is_of_package = subst (λ y. Contains others y) (sym same) there;
      is_claim = kept.is_claim;
      comes_back = kept.comes_back;
      keeps = kept.keeps;
    }
    by g there (silent one other) kept same =
        absurd (no_variable_of kept.file.seen (subst (λ (y : FileWithCredits). IsSilent y.seen) (sym same) one)
        kept.body.at kept.variable kept.is_claim.is_of_body)

consistent_too : (files others : List FileWithCredits) (imported : List ℕ → Flags) (flags : Flags)
    → AllZip StandsFor files others
    → AreConsistent files imported flags
    → AreConsistent others imported flags
consistent_too files others imported flags stand h = record {
  each = λ name k e. kept_by files others imported flags stand name k (h.each name k e);
}

pub nothing_changes : SilentFilesChangeNothing
nothing_changes = record {
  flags = λ files others imported flags stand most. record {
    are_consistent = consistent_too files others imported flags stand most.are_consistent;
    include = λ more consistent. most.include more
        (consistent_too others files imported more (all_back files others stand) consistent);
  };
  findings = found;
  credits = λ seen credits quiet none. record {
    each = λ literal number. (
      λ e. let bad : false ≡ true = sym (none literal number) ∙ e in absurd (false≢true bad),
      λ (c : IsCredited seen credits literal number).
          absurd (no_variable_of seen quiet literal c.variable c.is_of_body),
    );
  };
}
  where
    found : (calls : Callee → ℕ → Bool) (number : ℕ) (f g : FileWithCredits) (x : Entry) → StandsFor f g
        → IsFileFinding calls number f x
        → IsFileFinding calls number g x
    found calls number f g x itself h = h
    found calls number f g x (silent one other) h = absurd (no_finding calls number f x one h)

-- A file of a package

-- an import is meant only by a spec of the file
pub record IsSpecOf (specs : List ImportSpec) (path : List ℕ) : Type 0 where
  pub spec : ImportSpec
  pub is_there : Contains specs spec
  pub is_path : spec.path ≡ path

among_specs : (is_path : List ℕ → Bool) (packages : PackageNames) (name : List ℕ) (specs : List ImportSpec)
    (path : List ℕ)
    → import_among is_path packages name specs ≡ Some path
    → IsSpecOf specs path
among_specs is_path packages name [] path e = let bad : None ≡ Some path = e in cc
among_specs is_path packages name (s ∷ ss) path e =
    by (is_path s.path && is_called name (import_name_of packages s.name s.path))
    (among_specs is_path packages name ss path) e
  where
    by : (t : Bool) → (import_among is_path packages name ss ≡ Some path → IsSpecOf ss path)
        → (if t then Some s.path else import_among is_path packages name ss) ≡ Some path
        → IsSpecOf (s ∷ ss) path
    by true later is = record { spec = s; is_there = contains_here s ss; is_path = same_Some s.path path is }
    by false later is =
        let found = later is in
        record { spec = found.spec; is_there = contains_there s found.spec ss found.is_there; is_path = found.is_path }

import_spec_of : (packages : PackageNames) (specs : List ImportSpec) (name path : List ℕ)
    → import_meant packages specs name ≡ Some path
    → IsSpecOf specs path
import_spec_of packages specs name path e = by (import_among is_first_path packages name specs) refl e
  where
    by : (o : Option (List ℕ)) → import_among is_first_path packages name specs ≡ o
        → or_else o (import_among any_path packages name specs) ≡ Some path
        → IsSpecOf specs path
    by None same is = among_specs any_path packages name specs path is
    by (Some q) same is = among_specs is_first_path packages name specs path (same ∙ is)

-- what a meaning is, if it is that of an import
abbrev import_of : Meaning → Option (List ℕ)
import_of (local_name number kind) = None
import_of (import_name path) = Some path
import_of function_name = None
import_of package_name = None
import_of universe_name = None

no_package_import : (o : Option PackageLevel) → import_of (package_or_universe o) ≡ None
no_package_import None = refl
no_package_import (Some d) = by d.is_function
  where
    by : (t : Bool) → import_of (if t then function_name else package_name) ≡ None
    by true = refl
    by false = refl

module _ (files : List SourceFile) (packages : PackageNames) (tree : SourceFile) where
  meant_by_spec : (u : Use) (path : List ℕ) → meaning_of files packages tree u ≡ import_name path
      → IsSpecOf (specs_of tree.imports) path
  meant_by_spec u path e =
      by (local_meant (locals_of (file_names tree)) u.name u.at)
      (import_meant packages (specs_of tree.imports) u.name) refl
      (ap import_of e)
    where
      by : (l : Option LocalName) (o : Option (List ℕ)) → import_meant packages (specs_of tree.imports) u.name ≡ o
          → import_of (local_or_around l
          (import_or_around o (package_or_universe (package_meant (package_block files) u.name))))
          ≡ Some path
          → IsSpecOf (specs_of tree.imports) path
      by (Some l) o same is = let bad : None ≡ Some path = is in cc
      by None (Some q) same is = import_spec_of packages (specs_of tree.imports) u.name path (same ∙ is)
      by None None same is =
          let bad : None ≡ Some path = sym (no_package_import (package_meant (package_block files) u.name)) ∙ is in cc

  pub meant_there : (o : Option SourceFile) (at : ℕ) (path : List ℕ) → o ≡ Some tree
      → meaning_at files packages o at ≡ Some (import_name path)
      → IsSpecOf (specs_of tree.imports) path
  meant_there o at path is e =
      by (use_at at (uses_of (file_names tree))) (sym (ap (λ p. meaning_at files packages p at) is) ∙ e)
    where
      by : (u : Option Use) → option_map (meaning_of files packages tree) u ≡ Some (import_name path)
          → IsSpecOf (specs_of tree.imports) path
      by None f = let bad : None ≡ Some (import_name path) = f in cc
      by (Some u) f = meant_by_spec u path (same_Some _ _ f)

pub none_among : {A : Type 0} (f : A → Bool) (xs : List A) (x : A) → list_any f xs ≡ false → Contains xs x → f x ≡ false
none_among f [] x e h = absurd (contains_nil x h)
none_among f (y ∷ ys) x e h =
    elim (contains_cases y x ys h) [
      | inl same ↦ subst (λ z. f z ≡ false) same (neither_first _ _ e)
      | inr later ↦ none_among f ys x (neither_second (f y) _ e) later
    ]

gives_none : (o : Option FunctionFacts) → ((f : FunctionFacts) → o ≡ Some f → f.gives ≡ []) → facts_giving o ≡ None
gives_none None h = refl
gives_none (Some f) h =
    ap (λ gs. if is_empty gs then None else Some record { gives = f.gives; results = f.results }) (h f refl)

module _ (ps : List LoadedPackage) (tables : Tables) (p : LoadedPackage) (number : ℕ) (tree : SourceFile)
    (may : NamesNoGiver ps tables p number tree) (fields : Fields) where
  abbrev known : Known
  known = known_with fields ps tables p number

  spec_meant : (at : ℕ) (path : List ℕ) → known.means at ≡ Some (import_name path) → IsSpecOf (imports_of tree) path
  spec_meant at path e =
      meant_there (trees_of p) (package_names ps) tree (slice_get (trees_of p) number) at path may.is_tree e

  no_giver_named : (n : Named) → facts_giving (facts_of known n) ≡ None
  no_giver_named n = by n.selected (known.means n.at) refl
    where
      by : (selected : Option (List ℕ)) (m : Option Meaning) → known.means n.at ≡ m
          → facts_giving (facts_meant known n.name selected m) ≡ None
      by None None e = refl
      by None (Some (local_name number kind)) e = refl
      by None (Some (import_name path)) e = refl
      by None (Some function_name) e = gives_none (known.functions n.name) (may.own_give_none n.name)
      by None (Some package_name) e = refl
      by None (Some universe_name) e = refl
      by (Some m) None e = refl
      by (Some m) (Some (local_name number kind)) e = refl
      by (Some m) (Some (import_name path)) e =
          let s = spec_meant n.at path e in
          gives_none (known.imported path m)
          (subst (λ q. GiveNone (imported_signatures p tables q)) s.is_path
          (may.imported_give_none s.spec s.is_there) m)
      by (Some m) (Some function_name) e = refl
      by (Some m) (Some package_name) e = refl
      by (Some m) (Some universe_name) e = refl

  gives_nothing : imports_first tree ≡ false → GivesNothing known
  gives_nothing no_first = record {
    no_maker = λ at path e.
        let s = spec_meant at path e in
        subst (λ q. is_first_path q ≡ false) s.is_path
        (none_among (λ (r : ImportSpec). is_first_path r.path) (imports_of tree) s.spec no_first s.is_there);
    no_giver = no_giver_named;
  }

  pub gives_by_context : imports_group tree ≡ false → GivesByContext known
  gives_by_context no_group = record {
    no_group = λ at path e.
        let s = spec_meant at path e in
        subst (λ q. bytes_eq q errgroup_path ≡ false) s.is_path
        (none_among (λ (r : ImportSpec). bytes_eq r.path errgroup_path) (imports_of tree) s.spec no_group s.is_there);
    no_giver = no_giver_named;
  }

no_second : (specs : List ImportSpec) → list_any (λ (s : ImportSpec). is_first_path s.path) specs ≡ false
    → list_any (λ (s : ImportSpec). bytes_eq s.path errgroup_path) specs ≡ false
no_second [] h = refl
no_second (s ∷ ss) h =
    ap (λ b. b || list_any (λ (r : ImportSpec). bytes_eq r.path errgroup_path) ss)
    (neither_second (bytes_eq s.path context_path) _ (neither_first (is_first_path s.path) _ h))
    ∙ no_second ss (neither_second (is_first_path s.path) _ h)

-- what no mark of a file has, none has that counts in an edition
none_kept : (f g : Mark → Bool) (ms : List Mark) → list_any f ms ≡ false → list_any f (filter g ms) ≡ false
none_kept f g [] h = refl
none_kept f g (m ∷ ms) h =
    by (g m) (neither_first (f m) _ h) (none_kept f g ms (neither_second (f m) _ h))
  where
    by : (t : Bool) → f m ≡ false → list_any f (filter g ms) ≡ false
        → list_any f (if t then m ∷ filter g ms else filter g ms) ≡ false
    by true here rest = ap (λ b. b || list_any f (filter g ms)) here ∙ rest
    by false here rest = rest

pub none_by : (edition : Edition) (keep : Bool) (f : Mark → Bool) (ms : List Mark) → list_any f ms ≡ false
    → list_any f (marks_by edition keep ms) ≡ false
none_by First keep f ms h = none_kept f (λ m. not (is_found m || is_of_fields m)) ms h
none_by Second false f ms h = none_kept f (λ m. not (is_of_fields m)) ms h
none_by Second true f ms h = h

-- which fields keep is no matter
pub all_tell : (fields other : Fields) (ps : List LoadedPackage) (tables : Tables) (p : LoadedPackage) (number : ℕ)
    (ms : List Mark)
    → list_any (mark_tells (known_with fields ps tables p number)) ms
    ≡ list_any (mark_tells (known_with other ps tables p number)) ms
all_tell fields other ps tables p number [] = refl
all_tell fields other ps tables p number (m ∷ ms) = λ i.
    tells_the_same (known_with fields ps tables p number) (known_with other ps tables p number) refl m i
    || all_tell fields other ps tables p number ms i

pub skipped_so : SkippedFilesAreSilent
skipped_so fields ps tables p number tree may =
    let known = known_with fields ps tables p number in
    let keep = some_keep fields in
    without_makers known (marks_by p.edition keep (file_marks tree))
    (gives_by_context ps tables p number tree may.names_no_giver fields may.no_group_import)
    (none_by p.edition keep (mark_tells known) (file_marks tree)
    (all_tell fields (keeping_in ps tables p) ps tables p number (file_marks tree) ∙ may.none_tells))
    (none_by p.edition keep names_recover (file_marks tree) may.no_recover)

pub imports_tell : ImportsTell
imports_tell ps tables p number tree names no_first no_recover = record {
  names_no_giver = names;
  no_group_import = no_second (imports_of tree) no_first;
  none_tells =
      none_of _ (no_mark_tells (known_in ps tables p number)
      (gives_nothing ps tables p number tree names (keeping_in ps tables p) no_first)) (file_marks tree);
  no_recover = no_recover;
}
