-- What is told of imports, one after the other, and by what was judged of them.
use Rattle.std.proofs.Common.{◌≡◌, ℕ, Bool, true, false, if◌then◌else◌, List, [], ◌∷◌, ◌++◌, map, Option, Some, None, option_map, is_some, bytes_eq, refl, sym, ap, ◌∙◌, subst}
use Rattle.std.specs.Prelude.{not, slice_get}
use Rattle.std.proofs.lemmas.Option.{none-some, same_Some}
use Rattle.meaning.specs.OuterBlocks.{or_else, has_any}
use Rattle.first_values.specs.ValuesByName.{only_at}
use Rattle.declared_tables.specs.declared.tables.PackageTable.{PackageTable as KeptTable}
use Rattle.declared_tables.specs.MarkedGivers.{MarksGivers}
use Rattle.report.specs.Entries.{entry_of}
use Rattle.report.specs.declared.diagnostics.Diagnostic.{Diagnostic}
use Rattle.meaning_reports.specs.Loaded.{LoadedPackage}
use Rattle.gathering.specs.Results.{told_of, tellings_of}
use Rattle.one_package.specs.declared.judged.Judged.{Judged}
use Rattle.one_package.specs.Judgments.{IsOfImport, says_nothing, said_view}
use Rattle.one_package.specs.Results.{KeptTold, told_view, told_and, told_at, ToldImports, tellings_by_path, tables_told, AreTold, kept_told, judged_at, told_by, said_at, results_by_path, AreImported}
use Rattle.one_package.proofs.FirstJudged.{found_at, judged_more}

-- One after the other

-- what is made of what is told, with what is made of one more
pub map_or : {A B : Type 0} (f : A → B) (o : Option A) (path : List ℕ) (one : A) (other : List ℕ)
    → or_else (option_map f o) (only_at path (f one) other) ≡ option_map f (or_else o (only_at path one other))
map_or f (Some a) path one other = refl
map_or f None path one other = by (bytes_eq path other)
  where
    by : (b : Bool) → (if b then Some (f one) else None) ≡ option_map f (if b then Some one else None)
    by true = refl
    by false = refl

-- what is made of tables that are told, with what is made of one more
pub tables_more : {V : Type 0} (f : KeptTable → V) (told : ToldImports) (path : List ℕ) (one : KeptTold) (other : List ℕ)
    → or_else (option_map f (tables_told told other)) (only_at path (f one.table) other)
    ≡ option_map f (tables_told (told_and told path one) other)
tables_more f told path one other =
    map_or f (tables_told told other) path one.table other
    ∙ ap (option_map f) (map_or (λ (k : KeptTold). k.table) (told other) path one other)

pub map_else : {A B : Type 0} (f : A → B) (o other : Option A)
    → option_map f (or_else o other) ≡ or_else (option_map f o) (option_map f other)
map_else f (Some a) other = refl
map_else f None other = refl

-- what was judged at last is told at last
pub told_more : (js : List Judged) (j : Judged)
    → told_and (told_by js) j.report.path.now (kept_told j) ≡ told_by (js ++ j ∷ [])
told_more js j = λ i path. at path i
  where
    at : (path : List ℕ) → told_and (told_by js) j.report.path.now (kept_told j) path ≡ told_by (js ++ j ∷ []) path
    at path =
        map_or kept_told (judged_at js path) j.report.path.now j path
        ∙ ap (option_map kept_told) (sym (judged_more js j path))

-- By what was judged

same_verdict : (ds : List Diagnostic) → says_nothing ds ≡ not (has_any (map entry_of ds))
same_verdict [] = refl
same_verdict (d ∷ ds) = refl

-- what is kept of a package tells what is said of it
same_told : (j : Judged) → told_view (kept_told j) ≡ told_of (said_view j)
same_told j i = record { table = (said_view j).table; is_yes = same_verdict j.report.diagnostics.items i }

pub same_tellings : (ps : List LoadedPackage) (js : List Judged)
    → tellings_by_path ps (told_by js) ≡ tellings_of (results_by_path ps js)
same_tellings ps js i place = at (slice_get ps place) i
  where
    one : (o : Option Judged) → option_map told_view (option_map kept_told o) ≡ option_map told_of (option_map said_view o)
    one None = refl
    one (Some j) = ap Some (same_told j)

    at : (o : Option LoadedPackage) → told_at (told_by js) o ≡ option_map told_of (said_at js o)
    at None = refl
    at (Some p) = one (judged_at js p.path)

-- what is told of a path was judged of it
pub was_judged : (o : Option Judged) (one : KeptTold) → option_map kept_told o ≡ Some one
    → (j : Judged) × (o ≡ Some j) × (kept_told j ≡ one)
was_judged None one e = absurd (none-some one e)
was_judged (Some j) one e = (j, refl, same_Some (kept_told j) one e)

-- what was judged is told
pub is_told : (o : Option Judged) → is_some o ≡ true → is_some (option_map kept_told o) ≡ true
is_told (Some j) e = refl
is_told None e = e

pub judged_are_told : (ps : List LoadedPackage) (i : ℕ) (js : List Judged) → AreImported ps i js → AreTold ps i (told_by js)
judged_are_told ps i js are = record {
  of_imports = λ path one e.
      let w = was_judged (judged_at js path) one e in
      let j = found_at js path w.0 w.1 in
      subst (IsOfImport ps i) j.1 (are.of_imports w.0 j.0);
  are_all = λ k q im is rank. is_told (judged_at js q.path) (are.are_all k q im is rank);
  are_marked = λ path t e.
      let w = tabled (judged_at js path) t e in
      subst MarksGivers w.2 (are.are_marked w.0 (found_at js path w.0 w.1).0);
}
  where
    tabled : (o : Option Judged) (t : KeptTable) → option_map (λ (one : KeptTold). one.table) (option_map kept_told o) ≡ Some t
        → (j : Judged) × (o ≡ Some j) × (j.table ≡ t)
    tabled None t e = absurd (none-some t e)
    tabled (Some j) t e = (j, refl, same_Some j.table t e)
