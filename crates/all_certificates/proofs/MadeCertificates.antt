-- Certificates that are made of packages that were judged, one after the other, and whose these are.
use Rattle.std.proofs.Common.{◌≡◌, ℕ, zero, suc, ◌+◌, List, [], ◌∷◌, ◌++◌, length, Some, refl, sym, ap, ◌∙◌, subst, arith}
use Rattle.std.specs.Prelude.{slice_get}
use Rattle.std.proofs.lemmas.List.{append-nil, append_assoc, length-append}
use Rattle.std.proofs.lemmas.Option.{none-some, same_Some}
use Rattle.one_package.specs.declared.judged.Judged.{Judged}
use Rattle.certificate_json.specs.Certificates.{PackageEntry}
use Rattle.whole_packages.specs.declared.loaded_package.LoadedPackage.{LoadedPackage as KeptPackage}
use Rattle.all_certificates.specs.KeptCertificates.{AddsPackage, AreMadeFrom, IsMadeAt}

module _ (kept : List KeptPackage) where
  -- those of the packages that are left complete those of all
  abbrev pub MadeOn : List Judged → List Judged → List PackageEntry → Type 0
  MadeOn all left done = (rest : List PackageEntry) → AreMadeFrom kept (length done) left rest
      → AreMadeFrom kept 0 all (done ++ rest)

  pub made_first : (all left : List Judged) (done : List PackageEntry) → left ≡ all → done ≡ [] → MadeOn all left done
  made_first all left done same none rest h =
      subst (λ es. AreMadeFrom kept 0 all (es ++ rest)) (sym none)
      (subst (λ js. AreMadeFrom kept 0 js rest) same
      (subst (λ n. AreMadeFrom kept n left rest) (ap length none) h))

  pub made_next : (all left before : List Judged) (j : Judged) (done next : List PackageEntry) → before ≡ j ∷ left
      → AddsPackage kept j done next
      → MadeOn all before done
      → MadeOn all left next
  made_next all left before j done next is adds on rest h =
      let long : length next ≡ length done + 1 = ap length adds.is_sum ∙ length-append done (adds.added ∷ []) in
      subst (AreMadeFrom kept 0 all) (sym (append_assoc done (adds.added ∷ []) rest) ∙ ap (λ es. es ++ rest) (sym adds.is_sum))
      (on (adds.added ∷ rest)
      (subst (λ js. AreMadeFrom kept (length done) js (adds.added ∷ rest)) (sym is)
      (adds.is_made, subst (λ n. AreMadeFrom kept n left rest) long h)))

  pub made_all : (all left : List Judged) (done : List PackageEntry) → left ≡ [] → MadeOn all left done
      → AreMadeFrom kept 0 all done
  made_all all left done none on =
      subst (AreMadeFrom kept 0 all) (append-nil done)
      (on [] (subst (λ js. AreMadeFrom kept (length done) js []) (sym none) tt))

  pub as_many : (n : ℕ) (js : List Judged) (es : List PackageEntry) → AreMadeFrom kept n js es → length es ≡ length js
  as_many n [] [] h = refl
  as_many n [] (e ∷ es) h = absurd h
  as_many n (j ∷ js) [] h = absurd h
  as_many n (j ∷ js) (e ∷ es) h = ap suc (as_many (n + 1) js es h.1)

  -- it stands at the place of its package
  pub record IsMadeThere (n i : ℕ) (js : List Judged) (e : PackageEntry) : Type 0 where
    pub judged : Judged
    pub is_there : slice_get js i ≡ Some judged
    pub is_made : IsMadeAt kept (i + n) judged e

  pub made_there : (n : ℕ) (js : List Judged) (es : List PackageEntry) → AreMadeFrom kept n js es
      → (i : ℕ) (e : PackageEntry)
      → slice_get es i ≡ Some e
      → IsMadeThere n i js e
  made_there n [] [] h i e is = absurd (none-some e is)
  made_there n [] (x ∷ es) h i e is = absurd h
  made_there n (j ∷ js) [] h i e is = absurd (none-some e is)
  made_there n (j ∷ js) (x ∷ es) h zero e is = record {
    judged = j;
    is_there = refl;
    is_made =
        subst (λ m. IsMadeAt kept m j e) (let e : n ≡ 0 + n = omega arith in e)
        (subst (IsMadeAt kept n j) (same_Some x e is) h.0);
  }
  made_there n (j ∷ js) (x ∷ es) h (suc i) e is =
      let there = made_there (n + 1) js es h.1 i e is in
      record {
        judged = there.judged;
        is_there = there.is_there;
        is_made =
            subst (λ m. IsMadeAt kept m there.judged e) (let e : i + (n + 1) ≡ suc i + n = omega arith in e) there.is_made;
      }
