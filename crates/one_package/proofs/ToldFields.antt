-- The fields of which a verdict tells, in whatever order it is known that there is nothing to say.
use Rattle.std.proofs.Common.{◌≡◌, ℕ, List, [], ◌∷◌, Bool, Contains, refl, sym, subst}
use Rattle.std.specs.Prelude.{◌↔◌}
use Rattle.std.specs.List.{AllPairs}
use Rattle.meaning.proofs.Membership.{contains_nil, contains_here}
use Rattle.meaning_reports.specs.Loaded.{LoadedPackage, Tables}
use Rattle.meaning_reports.specs.PackageReports.{AreFieldsToTell, of_no, of_yes}
use Rattle.report.specs.Entries.{Entry, TextPrecedes}
use Rattle.silent_files.specs.WalkedFiles.{IsKeptAmong, walked_files}
use Rattle.silent_files.proofs.WalkedFiles.{walks_are_enough}
use Rattle.one_package.specs.ToldPackages.{IsToldPackage}
use Rattle.one_package.specs.declared.told_package.ToldPackage.{ToldPackage}

module _ (ps : List LoadedPackage) (tables : Tables) (p : LoadedPackage) where
  -- the same entries in another order
  pub told_again : (found said : List Entry) (fields same : List (List ℕ))
      → ((x : Entry) → Contains said x ↔ Contains found x)
      → fields ≡ same
      → AreFieldsToTell ps tables p found fields
      → AreFieldsToTell ps tables p said same
  told_again found said fields same each are told =
      subst (AreFieldsToTell ps tables p said) are (by found said each told)
    where
      by : (xs ys : List Entry) {fs : List (List ℕ)} → ((x : Entry) → Contains ys x ↔ Contains xs x)
          → AreFieldsToTell ps tables p xs fs
          → AreFieldsToTell ps tables p ys fs
      by (x ∷ xs) [] each of_no = absurd (contains_nil x ((each x).1 (contains_here x xs)))
      by (x ∷ xs) (y ∷ ys) each of_no = of_no
      by [] [] each (of_yes sorted all) = of_yes sorted all
      by [] (y ∷ ys) each (of_yes sorted all) = absurd (contains_nil y ((each y).0 (contains_here y ys)))

  -- what walked files keep is told of where nothing is found
  pub fields_of_yes : (all : Bool) (told : ToldPackage) (found : List Entry) (fields : List (List ℕ)) → found ≡ []
      → (is : IsToldPackage ps tables p all told)
      → AllPairs TextPrecedes fields
      → ((field : List ℕ) → Contains fields field ↔ IsKeptAmong (walked_files ps tables p is.walked) field)
      → AreFieldsToTell ps tables p found fields
  fields_of_yes all told found fields none is sorted each =
      subst (λ es. AreFieldsToTell ps tables p es fields) (sym none) (of_yes sorted λ field.
      let kept = walks_are_enough.keeping ps tables p is.walked field is.skip_silent in (
        λ h. kept.0 ((each field).0 h),
        λ h. (each field).1 (kept.1 h),
      ))

  pub fields_of_no : (found : List Entry) (fields : List (List ℕ)) → (found ≡ [] → ⊥) → fields ≡ []
      → AreFieldsToTell ps tables p found fields
  fields_of_no [] fields some none = absurd (some refl)
  fields_of_no (x ∷ xs) fields some none = subst (AreFieldsToTell ps tables p (x ∷ xs)) (sym none) of_no
