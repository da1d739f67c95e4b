-- Paths that are taken in, and packages that are kept as first ones.
use Rattle.std.proofs.Common.{◌≡◌, ◌&&◌, ◌||◌, ℕ, ◌+◌, suc, length, ◌++◌, ◌∷◌, [], Bool, true, false, if◌then◌else◌, List, Option, Some, None, is_some, option_map, bytes_eq, refl, sym, ap, ◌∙◌}
use Rattle.std.proofs.lemmas.List.{append_assoc}
use Rattle.std.specs.Option.{option_or}
use Rattle.package_list.specs.ListedValues.{PackageEntry}
use Rattle.test_packages.specs.ReadPackages.{Firsts, counts, kept_first, option_list, read_from, read_one, same_names}

-- a path is known that was, or that was taken in
pub known_more : {V : Type 0} (o : Option V) (value : V) (same : Bool)
    → is_some (option_or o (if same then Some value else None)) ≡ (is_some o || same)
known_more None value true = refl
known_more None value false = refl
known_more (Some v) value same = refl

pub known_as_before : (b : Bool) → b ≡ (b || false)
known_as_before true = refl
known_as_before false = refl

pub grouped : (a b c : Bool) → ((a || b) || c) ≡ (a || (b || c))
grouped true b c = refl
grouped false b c = refl

-- what is known so far, or told by those that are left, is what all tell
pub told_on : (says : List PackageEntry → Bool) (all before now is : Bool) (old left : List PackageEntry) (entry : PackageEntry)
    → old ≡ entry ∷ left
    → now ≡ (before || is)
    → says (entry ∷ left) ≡ (is || says left)
    → (before || says old) ≡ all
    → (now || says left) ≡ all
told_on says all before now is old left entry split known step so =
    ap (λ b. b || says left) known
    ∙ grouped before is (says left)
    ∙ ap (λ b. before || b) (sym step ∙ ap says (sym split))
    ∙ so

pub none_more : (b : Bool) → (b || false) ≡ b
none_more true = refl
none_more false = refl

pub first_more : {V W : Type 0} (f : V → W) (o : Option V) (value : V) (same : Bool)
    → option_map f (option_or o (if same then Some value else None))
    ≡ option_or (option_map f o) (if same then Some (f value) else None)
first_more f None value true = refl
first_more f None value false = refl
first_more f (Some v) value same = refl

module _ (has_tests asked : List ℕ → Bool) (firsts : Firsts) (entry : PackageEntry) (left : List PackageEntry) where
  -- one package was read behind others
  pub reads_on : (done next all old : List PackageEntry) (more : Firsts) (found : Option PackageEntry) (is_counted : Bool)
      → old ≡ entry ∷ left
      → is_counted ≡ counts has_tests entry
      → found ≡ read_one asked firsts is_counted entry
      → ((path : List ℕ) → more path ≡ kept_first is_counted firsts entry path)
      → next ≡ done ++ option_list found
      → done ++ read_from has_tests asked firsts old ≡ all
      → next ++ read_from has_tests asked more left ≡ all
  reads_on done next all old more found is_counted is counted one kept grown so =
      (λ i. grown i ++ read_from has_tests asked (λ path. kept path i) left)
      ∙ append_assoc done (option_list found) (read_from has_tests asked (kept_first is_counted firsts entry) left)
      ∙ (λ i. done ++ (option_list (one i) ++ read_from has_tests asked (kept_first is_counted firsts entry) left))
      ∙ (λ i. done ++ (option_list (read_one asked firsts (counted i) entry)
      ++ read_from has_tests asked (kept_first (counted i) firsts entry) left))
      ∙ ap (λ entries. done ++ read_from has_tests asked firsts entries) (sym is)
      ∙ so

-- names of another number are others
pub other_number : (as_are others : List (List ℕ)) → (length as_are ≡ length others → ⊥) → false ≡ same_names as_are others
other_number [] [] apart = absurd (apart refl)
other_number [] (b ∷ bs) apart = refl
other_number (a ∷ more) [] apart = refl
other_number (a ∷ more) (b ∷ bs) apart = by (bytes_eq a b) (other_number more bs (λ e. apart (ap suc e))) where
  by : (same : Bool) → false ≡ same_names more bs → false ≡ (same && same_names more bs)
  by true e = e
  by false e = refl
