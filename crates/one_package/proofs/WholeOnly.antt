-- A package with a fault as a whole: nothing else is to be said of it.
use Rattle.std.proofs.Common.{◌≡◌, ℕ, ◌+◌, ◌<◌, inl, inr, Bool, true, false, if◌then◌else◌, List, [], ◌∷◌, map, length, get_or, Contains, Option, Some, None, refl, sym, ap, ◌∙◌, subst, arith}
use Rattle.std.specs.Prelude.{◌↔◌, ◌==◌, slice_get}
use Rattle.std.proofs.lemmas.Bool.{false≢true}
use Rattle.std.proofs.lemmas.Bool.Decides.{Decides-eqb}
use Rattle.std.proofs.lemmas.List.{length-map}
use Rattle.std.proofs.lemmas.List.Elements.{Contains-append_cases}
use Rattle.std.proofs.lemmas.Option.{none-some, same_Some, slice_get-get_or}
use Rattle.tree.specs.Syntax.{TopLevelDeclaration, function_declaration, general_declaration, SourceFile}
use Rattle.meaning.proofs.Membership.{contains_nil, contains_here, contains_there, contains_cases}
use Rattle.meaning.specs.OuterBlocks.{can_be_meant}
use Rattle.meaning.specs.TwoFunctions.{FunctionName, function_names_in, function_names_from, is_called_before, second_after, second_function}
use Rattle.report.specs.Entries.{Entry}
use Rattle.meaning_reports.specs.Loaded.{LoadedPackage, NumberedTree, Tables, numbered_trees, trees_of}
use Rattle.meaning_reports.specs.WholeFaults.{IsWholeFault, HasNoWholeFault, has_two_functions}
use Rattle.meaning_reports.specs.PackageTables.{empty}
use Rattle.meaning_reports.specs.PackageReports.{Rules, IsFindingBy, of_whole, of_import, of_dot, of_files, AreFieldsToTell, of_no}
use Rattle.one_package.specs.declared.judged.Judged.{Judged}
use Rattle.one_package.specs.Judgments.{IsJudgment, IsWholeOnly, entries_of, keeping_of}

-- The second function of a name is one of the trees'

in_tree : (n : ℕ) (ds : List TopLevelDeclaration) (f : FunctionName) → Contains (function_names_in n ds) f → f.file ≡ n
in_tree n [] f h = absurd (contains_nil f h)
in_tree n (function_declaration g ∷ ds) f h = by (can_be_meant g) (in_tree n ds f) h
  where
    by : (t : Bool) → (Contains (function_names_in n ds) f → f.file ≡ n)
        → Contains (if t then record { file = n; name = g.name } ∷ function_names_in n ds else function_names_in n ds) f
        → f.file ≡ n
    by true rest k = elim (contains_cases (record { file = n; name = g.name }) f (function_names_in n ds) k) [
      | inl same ↦ ap (λ (x : FunctionName). x.file) (sym same)
      | inr later ↦ rest later
    ]
    by false rest k = rest k
in_tree n (general_declaration d ∷ ds) f h = in_tree n ds f h

in_trees : (n : ℕ) (fs : List SourceFile) (f : FunctionName) → Contains (function_names_from n fs) f
    → f.file < n + length fs
in_trees n [] f h = absurd (contains_nil f h)
in_trees n (t ∷ ts) f h =
    elim (Contains-append_cases (function_names_in n t.declarations) (function_names_from (n + 1) ts) f h) [
      | inl here ↦ let same = in_tree n t.declarations f here in omega (arith, same)
      | inr later ↦ let l = in_trees (n + 1) ts f later in omega (arith, l)
    ]

second_among : (earlier fs : List FunctionName) (f : FunctionName) → second_after earlier fs ≡ Some f → Contains fs f
second_among earlier [] f e = absurd (none-some f e)
second_among earlier (g ∷ gs) f e = by (is_called_before g earlier) (second_among (g ∷ earlier) gs f) e
  where
    by : (t : Bool) → (second_after (g ∷ earlier) gs ≡ Some f → Contains gs f)
        → (if t then Some g else second_after (g ∷ earlier) gs) ≡ Some f
        → Contains (g ∷ gs) f
    by true later is = subst (Contains (g ∷ gs)) (same_Some g f is) (contains_here g gs)
    by false later is = contains_there g f gs (later is)

is_there : {A : Type 0} (xs : List A) (k : ℕ) → k < length xs → slice_get xs k ≡ None → ⊥
is_there [] k l e = omega (arith, l)
is_there (x ∷ xs) k l e = none-some (get_or (x ∷ xs) k x) (sym e ∙ slice_get-get_or (x ∷ xs) k x l)

module _ (rules : Rules) (ps : List LoadedPackage) (tables : Tables) (i : ℕ) (p : LoadedPackage) where
  whole_of : (y : Entry) → IsWholeFault ps i y → (x : Entry) → IsFindingBy rules ps tables i x → IsWholeFault ps i x
  whole_of y fault x (of_whole w) = w
  whole_of y fault x (of_import j number spec z none imports needed finding) = absurd (none y fault)
  whole_of y fault x (of_dot file dot none out) = absurd (none y fault)
  whole_of y fault x (of_files none said) = absurd (none y fault)

  -- no field is told of where there is something to say
  none_told : (entries : List Entry) (fields : List (List ℕ)) (y : Entry) → Contains entries y → fields ≡ []
      → AreFieldsToTell ps tables p entries fields
  none_told [] fields y h none = absurd (contains_nil y h)
  none_told (x ∷ xs) fields y h none = subst (AreFieldsToTell ps tables p (x ∷ xs)) (sym none) of_no

  pub only_whole : (judged : Judged) (entries : List Entry) → IsWholeOnly entries judged
      → ((x : Entry) → Contains entries x ↔ IsWholeFault ps i x)
      → (y : Entry) → IsWholeFault ps i y
      → IsJudgment rules ps tables i p judged
  only_whole judged entries only are y fault = record {
    is_table = empty y fault only.is_empty;
    are_findings = record {
      in_order = only.in_order;
      each = λ x. (
        λ h. of_whole ((are x).0 ((only.each x).0 h)),
        λ h. (only.each x).1 ((are x).1 (whole_of y fault x h)),
      );
    };
    are_fields =
        none_told (entries_of judged) (keeping_of judged) y ((only.each y).1 ((are y).1 fault)) only.no_fields;
  }

module _ (ps : List LoadedPackage) (i : ℕ) (p : LoadedPackage) where
  -- where a function has the name of an earlier one, there is such a fault
  pub second_is_fault : slice_get ps i ≡ Some p → (f : FunctionName) → second_function (trees_of p) ≡ Some f
      → (y : Entry) × IsWholeFault ps i y
  second_is_fault is_p f e = by (slice_get (numbered_trees p) f.file) refl
    where
      within : f.file < length (numbered_trees p)
      within =
          let l = in_trees 0 (trees_of p) f (second_among [] _ f e) in
          let size = length-map (numbered_trees p) (λ t. t.tree) in
          omega (arith, l, size)

      by : (o : Option NumberedTree) → slice_get (numbered_trees p) f.file ≡ o → (y : Entry) × IsWholeFault ps i y
      by None none = absurd (is_there (numbered_trees p) f.file within none)
      by (Some tree) is = (_, has_two_functions p f tree is_p e is)

pub some_entry : (entries : List Entry) → (entries ≡ [] → ⊥) → (y : Entry) × Contains entries y
some_entry [] none = absurd (none refl)
some_entry (y ∷ ys) none = (y, contains_here y ys)

pub none_whole : (ps : List LoadedPackage) (i : ℕ) (entries : List Entry)
    → ((x : Entry) → Contains entries x ↔ IsWholeFault ps i x)
    → entries ≡ []
    → HasNoWholeFault ps i
none_whole ps i entries are none x fault =
    contains_nil x (subst (λ es. Contains es x) none ((are x).1 fault))

-- no diagnostic, no entry
module _ {A B : Type 0} (f : A → B) where
  pub not_empty : (xs : List A) (len : ℕ) → length xs ≡ len → false ≡ (len == 0) → map f xs ≡ [] → ⊥
  not_empty [] len l e same = absurd (false≢true (e ∙ (Decides-eqb len 0).1 (sym l)))
  not_empty (x ∷ xs) len l e same = cc

  pub is_empty : (xs : List A) (len : ℕ) → length xs ≡ len → true ≡ (len == 0) → map f xs ≡ []
  is_empty [] len l e = refl
  is_empty (x ∷ xs) len l e = absurd (let none = (Decides-eqb len 0).0 (sym e) in omega (arith, l, none))
