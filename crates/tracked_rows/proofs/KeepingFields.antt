-- Fields that keep: a field of that name is one only where there is one.
use Rattle.std.proofs.Common.{◌≡◌, ℕ, Bool, true, false, true≢false, List, [], ◌∷◌, length, map, Bor, refl, sym, ap, ◌∙◌}
use Rattle.std.specs.Prelude.{◌==◌, not}
use Rattle.std.proofs.Math.Dec.{eqb-suc-zero}
use Rattle.meaning.specs.OuterBlocks.{has_any}
use Rattle.meaning.specs.Tracked.{Fields, each_field, these_fields, has_field, some_keep}

pub some_names : (names : List (Bor (List ℕ))) (is_empty : Bool) → is_empty ≡ (length names == 0)
    → not is_empty ≡ has_any (map (λ (f : Bor (List ℕ)). f.now) names)
some_names [] is_empty e = ap not e
some_names (n ∷ ns) is_empty e = ap not (e ∙ eqb-suc-zero (length ns))

pub has_field-some_keep : (fields : Fields) (name : List ℕ) → has_field fields name ≡ true → some_keep fields ≡ true
has_field-some_keep each_field name has = refl
has_field-some_keep (these_fields [] filled) name has = absurd (true≢false (sym has))
has_field-some_keep (these_fields (f ∷ fs) filled) name has = refl

pub none_keep : (fields : Fields) → some_keep fields ≡ false → (name : List ℕ) → has_field fields name ≡ false
none_keep each_field none name = absurd (true≢false none)
none_keep (these_fields [] filled) none name = refl
none_keep (these_fields (f ∷ fs) filled) none name = absurd (true≢false none)
