-- What is known of a package's imports by results of these, one after the other.
use Rattle.std.proofs.Common.{◌≡◌, ℕ, ◌+◌, ◌<◌, inl, inr, List, [], ◌∷◌, ◌++◌, map, take, length, get_or, Contains, sym, ap, ◌∙◌, subst}
use Rattle.std.proofs.lemmas.List.{map-append, take_more}
use Rattle.std.proofs.lemmas.List.Elements.{Contains-push_cases}
use Rattle.one_package.specs.declared.judged.Judged.{Judged}
use Rattle.one_package.specs.declared.known_imports.KnownImports.{KnownImports}
use Rattle.one_package.specs.Results.{KnowsJudged}
use Rattle.package_workers.specs.Results.{Kept, judged_of}

-- each of them is told so
abbrev pub AreTold : (ℕ → Judged → Type 0) → List Kept → Type 0
AreTold told ks = (k : Kept) → Contains ks k → told k.place k.judged

module _ (ks : List Kept) (i : ℕ) (k : Kept) (low : i < length ks) (at : k ≡ get_or ks i k) where
  taken : take (i + 1) ks ≡ take i ks ++ k ∷ []
  taken = take_more ks i k low ∙ ap (λ (x : Kept). take i ks ++ x ∷ []) (sym at)

  -- one more is known
  pub knows_more : (before after : KnownImports) (j : Judged)
      → j ≡ k.judged
      → ((js : List Judged) → KnowsJudged js before → KnowsJudged (js ++ j ∷ []) after)
      → KnowsJudged (map judged_of (take i ks)) before
      → KnowsJudged (map judged_of (take (i + 1) ks)) after
  knows_more before after j same adds knows =
      let front : map judged_of (take (i + 1) ks) ≡ map judged_of (take i ks) ++ j ∷ [] =
      ap (map judged_of) taken
      ∙ (map-append judged_of (take i ks) (k ∷ []) ∙ ap (λ (x : Judged). map judged_of (take i ks) ++ x ∷ []) (sym same)) in
      subst (λ js. KnowsJudged js after) (sym front) (adds (map judged_of (take i ks)) knows)

  -- and is told so
  pub told_more : (told : ℕ → Judged → Type 0)
      → AreTold told (take i ks)
      → told k.place k.judged
      → AreTold told (take (i + 1) ks)
  told_more told are own m h = elim (Contains-push_cases (take i ks) k m (subst (λ l. Contains l m) taken h)) [
    | inl before ↦ are m before
    | inr here ↦ subst (λ (x : Kept). told x.place x.judged) here own
  ]
