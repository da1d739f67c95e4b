-- One more package is judged.
use Rattle.std.proofs.Common.{◌≡◌, ℕ, ◌⊎◌, inl, inr, List, Option, Some, None, option_map, is_some, Bor, refl, sym, ap, ◌∙◌, subst, arith, get_or-set_same, get_or-set_other}
use Rattle.std.specs.Prelude.{slice_get, slice_set}
use Rattle.std.proofs.lemmas.Bool.{cases_eq}
use Rattle.std.proofs.lemmas.List.{length-set}
use Rattle.std.proofs.lemmas.Option.{same_Some, none-some, slice_get_within}
use Rattle.whole_packages.specs.declared.loaded_package.LoadedPackage.{LoadedPackage as KeptPackage}
use Rattle.meaning_reports.specs.Loaded.{LoadedPackage}
use Rattle.meaning_reports.specs.PackageReports.{Rules, Said}
use Rattle.gathering.specs.Results.{IsResult}
use Rattle.one_package.specs.declared.judged.Judged.{Judged}
use Rattle.one_package.specs.Certified.{CertificateRule, AreCertified}
use Rattle.one_package.specs.Judgments.{TellsSources, said_view}
use Rattle.all_packages.specs.Progress.{Slots, slot_at, AreRight, WasJudged, IsNext}

-- what is there is there when it is lent
pub seen_some : (o : Option (Bor Judged)) (m : Option Judged) → option_map (λ j. j.now) o ≡ m → is_some o ≡ is_some m
seen_some None m same = ap is_some same
seen_some (Some j) m same = ap is_some same

-- a package that was judged already
pub stays : (rules : Rules) {rule : CertificateRule} (ps : List LoadedPackage) (kept : List KeptPackage) (slots : Slots)
    (i : ℕ)
    → AreRight rules rule ps kept slots
    → WasJudged ps slots i
    → IsNext rules rule ps kept slots slots i
stays rules ps kept slots i right was = record { are_right = right; is_judged = was; were_judged = λ n e. e }

module _ (rules : Rules) {rule : CertificateRule} (ps : List LoadedPackage) (kept : List KeptPackage) (before : Slots)
    (right : AreRight rules rule ps kept before) (i : ℕ) (p : LoadedPackage) (k : KeptPackage)
    (is_p : slice_get ps i ≡ Some p) (is_k : slice_get kept i ≡ Some k) (j : Judged) (told : TellsSources k j)
    (result : IsResult rules ps i p (said_view j)) (certified : AreCertified rules rule ps i p j) where
  abbrev after : Slots
  after = slice_set before i (Some j)

  here : slot_at after i ≡ Some j
  here =
      let l = slice_get_within ps i p is_p in
      let same = right.are_as_many in
      get_or-set_same before i (Some j) None (omega (arith, l, same))

  others : (n : ℕ) → (n ≡ i → ⊥) → slot_at after n ≡ slot_at before n
  others n other = get_or-set_other before i n (Some j) None other

  -- it is the new one, or was there before
  came : (n : ℕ) (m : Judged) → slot_at after n ≡ Some m → ((i ≡ n) × (j ≡ m)) ⊎ (slot_at before n ≡ Some m)
  came n m e = elim (cases_eq n i) [
    | inl same ↦ inl (sym same, same_Some j m (sym here ∙ (ap (slot_at after) (sym same) ∙ e)))
    | inr other ↦ inr (sym (others n other) ∙ e)
  ]

  result_there : (n : ℕ) (q : LoadedPackage) (said : Said) → slice_get ps n ≡ Some q
      → (o : Option Judged) → slot_at after n ≡ o
      → option_map said_view o ≡ Some said
      → IsResult rules ps n q said
  result_there n q said is None e found = absurd (none-some said found)
  result_there n q said is (Some m) e found = elim (came n m e) [
    | inl own ↦
        let same : p ≡ q = same_Some p q (sym is_p ∙ (ap (slice_get ps) own.0 ∙ is)) in
        subst (IsResult rules ps n q) (ap said_view own.1 ∙ same_Some (said_view m) said found)
        (subst (λ l. IsResult rules ps l q (said_view j)) own.0
        (subst (λ r. IsResult rules ps i r (said_view j)) same result))
    | inr was ↦ right.are_results n q said is (ap (option_map said_view) was ∙ found)
  ]

  now_right : AreRight rules rule ps kept after
  now_right = record {
    are_results = λ n q said is found. result_there n q said is (slot_at after n) refl found;
    are_told = λ n q o m is is_o e. elim (came n m e) [
      | inl own ↦
          let same : k ≡ o = same_Some k o (sym is_k ∙ (ap (slice_get kept) own.0 ∙ is_o)) in
          subst (TellsSources o) own.1 (subst (λ l. TellsSources l j) same told)
      | inr was ↦ right.are_told n q o m is is_o was
    ];
    are_certified = λ n q m is e. elim (came n m e) [
      | inl own ↦
          let same : p ≡ q = same_Some p q (sym is_p ∙ (ap (slice_get ps) own.0 ∙ is)) in
          subst (AreCertified rules rule ps n q) own.1
          (subst (λ l. AreCertified rules rule ps l q j) own.0
          (subst (λ r. AreCertified rules rule ps i r j) same certified))
      | inr was ↦ right.are_certified n q m is was
    ];
    are_as_many = length-set before i (Some j) ∙ right.are_as_many;
  }

  pub goes_next : IsNext rules rule ps kept before after i
  goes_next = record {
    are_right = now_right;
    is_judged = λ q is. ap is_some here;
    were_judged = λ n e. elim (cases_eq n i) [
      | inl same ↦ ap is_some (ap (slot_at after) same ∙ here)
      | inr other ↦ ap is_some (others n other) ∙ e
    ];
  }
