-- Words that are split at their first `=`.
use Rattle.std.proofs.Common.{◌≡◌, ◌≢◌, ◌↔◌, ℕ, ◌<◌, Bool, true, false, IsTrue, ◌==◌, List, length, Some, None, Option, Bor, ◌∙◌, subst, sym, rules}
use Rattle.std.proofs.lemmas.List.Elements.{All-get_or, All-from_get_or}
use Rattle.std.proofs.lemmas.Str.Pattern.{IsSplitOnceResult, split_after, split_parts}
use Rattle.folders.specs.Names.{IsPrintable}
use Rattle.folders.specs.Packages.{IsPackageWord}

-- a word without `=` names no package
pub no_package : (word : List ℕ) (r : Option (Bor (List ℕ) × Bor (List ℕ))) → IsSplitOnceResult 61 word r → r ≡ None → (path folder : List ℕ) → IsPackageWord word path folder → ⊥
no_package word r h e path folder is =
    let after = split_after 61 word path folder r h (search rules) is.parts (λ i low. All-get_or (λ b. b ≢ 61) path i 0 low is.first) in
    rw e at after

-- its parts are those of the split
pub same_parts : (word : List ℕ) (r : Option (Bor (List ℕ) × Bor (List ℕ))) (x y : Bor (List ℕ)) → IsSplitOnceResult 61 word r → r ≡ Some (x, y) → (path folder : List ℕ) → IsPackageWord word path folder → (x.now ≡ path) × (y.now ≡ folder)
same_parts word r x y h e path folder is =
    let after = split_after 61 word path folder r h (search rules) is.parts (λ i low. All-get_or (λ b. b ≢ 61) path i 0 low is.first) in
    rw e at after

-- a text that is not printable is no path
pub not_printed : (t : Bool) (bytes x path : List ℕ) → (IsTrue t ↔ IsPrintable bytes) → t ≡ false → bytes ≡ x → x ≡ path → IsPrintable path → ⊥
not_printed t bytes x path test e lent same printable =
    let passed : IsTrue t = test.1 (subst IsPrintable (sym (lent ∙ same)) printable) in search rules

pub not_empty : (n m : ℕ) → true ≡ (n == 0) → n ≡ m → 0 < m → ⊥
not_empty n m e same some = search rules

-- what is split into two parts, neither of them empty, names a package
pub package_of : (word : List ℕ) (r : Option (Bor (List ℕ) × Bor (List ℕ))) (x y : Bor (List ℕ)) → IsSplitOnceResult 61 word r → r ≡ Some (x, y) → 0 < length x.now → 0 < length y.now → IsPrintable x.now → IsPackageWord word x.now y.now
package_of word r x y h e has_path has_folder printable =
    let split = split_parts 61 word r h (search rules) in
    let parts = rw e at split in
    record { parts = parts.0; first = All-from_get_or (λ b. b ≢ 61) x.now 0 parts.1; has_path = has_path; has_folder = has_folder; printable = printable }
