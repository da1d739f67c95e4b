-- Which packages have a fault as a whole, by the list of what is to be said of them as a whole.
use Rattle.std.proofs.Common.{◌≡◌, ℕ, Bool, true, List, [], ◌∷◌, map, length, Contains, Option, Some, refl, sym, ap, ◌∙◌, arith}
use Rattle.std.specs.Prelude.{◌↔◌, ◌==◌, not, slice_get}
use Rattle.std.proofs.lemmas.Bool.{false≢true, ne_eqb}
use Rattle.tree.specs.View.{file_syntax}
use Rattle.meaning.proofs.Membership.{contains_nil, contains_here}
use Rattle.meaning.specs.OuterBlocks.{has_any}
use Rattle.meaning.specs.TwoFunctions.{second_function}
use Rattle.report.specs.Entries.{Entry}
use Rattle.meaning_reports.specs.Loaded.{LoadedPackage, trees_from}
use Rattle.meaning_reports.specs.WholeFaults.{IsWholeFault}
use Rattle.whole_packages.specs.declared.loaded_package.LoadedPackage.{LoadedPackage as KeptPackage}
use Rattle.whole_packages.specs.LoadedViews.{TellsPackage}
use Rattle.whole_packages.specs.WholeEntries.{is_faulty, is_marked, whole_entries, PicksUnranked}
use Rattle.whole_packages.proofs.WholeOf.{made_of, whole_are}

some_of : (xs : List Entry) → has_any xs ≡ true → (y : Entry) × Contains xs y
some_of [] e = absurd (false≢true e)
some_of (x ∷ xs) e = (x, contains_here x xs)

any_of : (xs : List Entry) (y : Entry) → Contains xs y → has_any xs ≡ true
any_of [] y h = absurd (contains_nil y h)
any_of (x ∷ xs) y h = refl

-- there is an item where the list is not empty
any_not_empty : {A : Type 0} (f : A → Entry) (xs : List A) → not (length xs == 0) ≡ has_any (map f xs)
any_not_empty f [] = refl
any_not_empty f (x ∷ xs) = ap not (ne_eqb (length (x ∷ xs)) 0 (λ e. omega (arith, e)))

pub any_if_not_empty : {A : Type 0} (f : A → Entry) (xs : List A) (size : ℕ) (is_empty : Bool)
    → is_empty ≡ (size == 0)
    → length xs ≡ size
    → not is_empty ≡ has_any (map f xs)
any_if_not_empty f xs size is_empty e same = ap not (e ∙ ap (λ n. n == 0) (sym same)) ∙ any_not_empty f xs

module _ (ps : List LoadedPackage) (i : ℕ) (p : LoadedPackage) (is_p : slice_get ps i ≡ Some p)
    (places : List ℕ → Option ℕ) (marks : List Bool) (told : PicksUnranked ps p (is_marked places marks)) (k : KeptPackage)
    (tells : TellsPackage p k) where
  abbrev entries : List Entry
  entries = whole_entries places marks (second_function (map file_syntax k.trees.items)) k

  entries_are : (x : Entry) → Contains entries x ↔ IsWholeFault ps i x
  entries_are =
      whole_are ps i p is_p places marks told k.readings.items (map file_syntax k.trees.items) tells.are_files
      tells.are_readings entries
      (made_of ps i p is_p places marks told k.readings.items (map file_syntax k.trees.items) tells.are_files
      tells.are_readings [] _ _ entries _ _ refl refl refl refl (ap (trees_from 0) (sym tells.are_files))
      (ap second_function (sym tells.are_trees)))

  pub faulty_is : (is_faulty places marks k ≡ true) ↔ ((x : Entry) × IsWholeFault ps i x)
  faulty_is = (
    λ e. let y = some_of entries e in (y.0, (entries_are y.0).0 y.1),
    λ h. any_of entries h.0 ((entries_are h.0).1 h.1),
  )
