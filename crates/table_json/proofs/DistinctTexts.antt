-- Texts that were sorted, of which none comes twice.
use Rattle.std.proofs.Common.{◌≡◌, ℕ, Bool, true, false, List, map, refl, Bor, IsPermutation}
use Rattle.std.proofs.lemmas.Cmp.{eq_by_cmp_equiv, nat_list_cmp_total}
use Rattle.std.proofs.lemmas.List.Sorted.{IsPermutation-map}
use Rattle.std.proofs.lemmas.Map.Keys.{IsDistinct-IsPermutation}
use Rattle.std.specs.Prelude.{Decides}
use Rattle.std.specs.List.{IsDistinct}
use Rattle.std.specs.Ordering.{eq_by_cmp}
use Rattle.table_json.specs.Tables.{by_bytes}

pub decides : {P : Type 0} (r : Bool) → (r ≡ true → P) → (r ≡ false → ¬ P) → Decides r P
decides true holds fails = (holds, λ p. refl)
decides false holds fails = (holds, λ p. absurd (fails refl p))

abbrev pub text_of : Bor (List ℕ) → List ℕ
text_of text = text.now

pub still_distinct : (xs ys : List (Bor (List ℕ))) → IsPermutation xs ys
    → IsDistinct (eq_by_cmp by_bytes) (map text_of xs)
    → IsDistinct (eq_by_cmp by_bytes) (map text_of ys)
still_distinct xs ys same =
    IsDistinct-IsPermutation (eq_by_cmp by_bytes) (eq_by_cmp_equiv nat_list_cmp_total).symm (map text_of xs) (map text_of ys)
    (IsPermutation-map text_of xs ys same)
