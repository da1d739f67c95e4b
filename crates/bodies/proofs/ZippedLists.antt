-- A list that grows by one for each element of another.
use Rattle.std.proofs.Common.{◌≡◌, ℕ, ◌+◌, ◌<◌, ◌≤◌, List, [], ◌∷◌, ◌++◌, length, get_or, drop, map, sym, subst, ◌∙◌}
use Rattle.std.proofs.lemmas.List.{append-nil, append_assoc, drop_all}
use Rattle.std.specs.List.{AllZip}
use Rattle.tree.proofs.Depths.{drop_item}

module _ {A B : Type 0} (R : A → B → Type 0) where
  -- what stands for those from the index on completes what stands for all
  abbrev pub Zips : List A → ℕ → List B → Type 0
  Zips all i done = (rest : List B) → AllZip R (drop i all) rest → AllZip R all (done ++ rest)

  pub zips_none : (all : List A) → Zips all 0 []
  zips_none all rest h = h

  pub zips_next : (all : List A) (i : ℕ) (x : A) → i < length all → x ≡ get_or all i x
      → (done next : List B) (y : B) → R x y → next ≡ done ++ y ∷ []
      → Zips all i done
      → Zips all (i + 1) next
  zips_next all i x within is done next y holds grown so rest h =
      subst (AllZip R all) (sym (append_assoc done (y ∷ []) rest) ∙ λ j. sym grown j ++ rest)
      (so (y ∷ rest) (subst (λ xs. AllZip R xs (y ∷ rest)) (sym (drop_item all i x within is)) (holds, h)))

  pub zips_all : (all : List A) (i : ℕ) (done : List B) → length all ≤ i → Zips all i done → AllZip R all done
  zips_all all i done past so =
      subst (AllZip R all) (append-nil done) (so [] (subst (λ xs. AllZip R xs []) (sym (drop_all i all past)) tt))

-- the same of what the elements stand for
pub zipped_views : {A B C : Type 0} (R : C → B → Type 0) (view : A → C) (xs : List A) (ys : List B)
    → AllZip (λ x y. R (view x) y) xs ys
    → AllZip R (map view xs) ys
zipped_views R view [] [] h = h
zipped_views R view [] (y ∷ ys) h = h
zipped_views R view (x ∷ xs) [] h = h
zipped_views R view (x ∷ xs) (y ∷ ys) h = (h.0, zipped_views R view xs ys h.1)

-- and of what they tell at an argument
pub zipped_at : {A B : Type 0} (R S : A → B → Type 0) → ((x : A) (y : B) → R x y → S x y) → (xs : List A) (ys : List B)
    → AllZip R xs ys
    → AllZip S xs ys
zipped_at R S so [] [] h = h
zipped_at R S so [] (y ∷ ys) h = h
zipped_at R S so (x ∷ xs) [] h = h
zipped_at R S so (x ∷ xs) (y ∷ ys) h = (so x y h.0, zipped_at R S so xs ys h.1)
