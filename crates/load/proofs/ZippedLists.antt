-- A list that grows by one for each element of another.
use Rattle.std.proofs.Common.{◌≡◌, List, [], ◌∷◌, ◌++◌, sym, subst, ◌∙◌}
use Rattle.std.proofs.lemmas.List.{append-nil, append_assoc}
use Rattle.std.specs.List.{AllZip}

module _ {A B : Type 0} (R : A → B → Type 0) where
  -- what stands for those that are left completes what stands for all
  abbrev pub Zips : List A → List A → List B → Type 0
  Zips all left done = (rest : List B) → AllZip R left rest → AllZip R all (done ++ rest)

  pub zips_none : (all left : List A) (done : List B) → left ≡ all → done ≡ [] → Zips all left done
  zips_none all left done same none rest h =
      subst (λ ys. AllZip R all (ys ++ rest)) (sym none) (subst (λ xs. AllZip R xs rest) same h)

  pub zips_next : (all left before : List A) (x : A) (done next : List B) (y : B) → before ≡ x ∷ left → R x y
      → next ≡ done ++ y ∷ []
      → Zips all before done
      → Zips all left next
  zips_next all left before x done next y is holds grown so rest h =
      subst (AllZip R all) (sym (append_assoc done (y ∷ []) rest) ∙ λ i. sym grown i ++ rest)
      (so (y ∷ rest) (subst (λ xs. AllZip R xs (y ∷ rest)) (sym is) (holds, h)))

  pub zips_all : (all left : List A) (done : List B) → left ≡ [] → Zips all left done → AllZip R all done
  zips_all all left done none so = subst (AllZip R all) (append-nil done) (so [] (subst (λ xs. AllZip R xs []) (sym none) tt))
