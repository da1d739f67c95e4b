-- Where no tree is left, no file has one.
use Rattle.std.proofs.Common.{◌≡◌, ℕ, ◌+◌, List, [], ◌∷◌, map, length, refl, sym, ap, ◌∙◌, arith}
use Rattle.tree.specs.declared.file.File.{File}
use Rattle.tree.specs.View.{file_syntax}
use Rattle.meaning_reports.specs.Loaded.{trees_from}
use Rattle.whole_packages.specs.declared.loaded_package.Reading.{Reading}
use Rattle.whole_packages.specs.declared.loaded_package.Reading.TheVariants.{Tree, NoTokens, NoTree}
use Rattle.whole_packages.specs.LoadedViews.{readings_of}

none_left : (n : ℕ) (rs : List Reading) → trees_from n (readings_of rs []) ≡ []
none_left n [] = refl
none_left n (Tree ∷ rs) = none_left n rs
none_left n (NoTokens at why ∷ rs) = none_left (n + 1) rs
none_left n (NoTree at why ∷ rs) = none_left (n + 1) rs

no_item : {A : Type 0} (xs : List A) → length xs ≡ 0 → xs ≡ []
no_item [] e = refl
no_item (x ∷ xs) e = absurd (omega (arith, e))

pub goes_on_without : (n : ℕ) (r : Reading) (rs : List Reading) (ts : List File) → Tree ≡ r → length ts ≡ 0
    → trees_from (n + 1) (readings_of rs (map file_syntax ts)) ≡ trees_from n (readings_of (r ∷ rs) (map file_syntax ts))
goes_on_without n r rs ts is empty =
    let none = no_item ts empty in
    ap (λ us. trees_from (n + 1) (readings_of rs (map file_syntax us))) none
    ∙ (none_left (n + 1) rs ∙ sym (none_left n rs))
    ∙ λ i. trees_from n (readings_of (is i ∷ rs) (map file_syntax (sym none i)))
