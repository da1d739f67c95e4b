-- Findings and packages that are told by a baseline, one after the other, while counts of its keys go down.
use Rattle.std.proofs.Common.{◌≡◌, cond, ◌≤◌, Bool, true, false, ◌&&◌, List, [], ◌∷◌, ◌++◌, length, map, refl, sym, ap, ◌∙◌, subst, arith}
use Rattle.std.specs.Prelude.{count_by, filter, nat_lt}
use Rattle.std.proofs.lemmas.Bool.{le-ltb}
use Rattle.std.proofs.lemmas.List.{append-nil, append_assoc}
use Rattle.lexer.specs.declared.source.Source.{Source}
use Rattle.accepting.specs.declared.keys.KeyCounts.{KeyCounts}
use Rattle.accepting.specs.ByBaseline.{Key, is_key, key_of, is_open, open_keys, has_more, accepted_if, findings_by_baseline, by_baseline}
use Rattle.accepting.specs.Findings.{FindingEntry, FoundEntry}
use Rattle.accepting.specs.KeptKeys.{left_of, left_after, most, one_less, AreLeft, IsTold, AreTold, IsPackageTold}
use Rattle.accepting.proofs.KeyCounts.{stood_next, has_left}

-- the keys of findings that are open, of one behind others
module _ (sources : List Source) where
  abbrev key_if : FindingEntry → Bool → List Key
  key_if f t = map (key_of sources) (cond t (f ∷ []) [])

  open_first : (f : FindingEntry) (fs : List FindingEntry)
      → open_keys sources (f ∷ fs) ≡ open_keys sources (f ∷ []) ++ open_keys sources fs
  open_first f fs = by (is_open f)
    where
      by : (t : Bool)
          → map (key_of sources) (cond t (f ∷ filter is_open fs) (filter is_open fs))
          ≡ map (key_of sources) (cond t (f ∷ []) []) ++ open_keys sources fs
      by true = refl
      by false = refl

-- One finding

module _ (known before : List Key) (sources : List Source) (f : FindingEntry) where
  -- one that is not open stays as it is
  pub not_open : (counts : KeyCounts) → is_open f ≡ false → AreLeft known before counts
      → IsTold known before sources f f counts
  not_open counts shut so = record {
    is_told = sym (ap (λ t. accepted_if (t && has_more known before (key_of sources f)) f) shut);
    left =
        subst (λ ks. AreLeft known ks counts)
        (sym (ap (λ t. before ++ key_if sources f t) shut ∙ append-nil before))
        so;
  }

  -- and of one that is open a key is taken
  pub open_told : (told : FindingEntry) (stands : Bool) (old new : KeyCounts) → is_open f ≡ true
      → stands ≡ nat_lt 0 (left_of old (key_of sources f))
      → ((k : Key) → left_of new k ≡ left_after one_less old (key_of sources f) k)
      → told ≡ accepted_if stands f
      → length known ≤ most
      → AreLeft known before old
      → IsTold known before sources f told new
  open_told told stands old new opens was takes is fits so = record {
    is_told =
        is
        ∙ (ap (λ t. accepted_if t f) (was ∙ has_left known before old (key_of sources f) fits so)
        ∙ sym (ap (λ t. accepted_if (t && has_more known before (key_of sources f)) f) opens));
    left =
        subst (λ ks. AreLeft known ks new) (sym (ap (λ t. before ++ key_if sources f t) opens))
        (stood_next known before (key_of sources f) old new takes so);
  }

-- Findings

-- what those that are left give completes what all give
pub record FindingsGoOn
    (known before : List Key) (sources : List Source) (all left told : List FindingEntry) (counts : KeyCounts)
    : Type 0 where
  pub stood : List Key
  pub are_left : AreLeft known stood counts
  pub are_all : told ++ findings_by_baseline known stood sources left ≡ findings_by_baseline known before sources all
  pub are_keys : stood ++ open_keys sources left ≡ before ++ open_keys sources all

module _ (known before : List Key) (sources : List Source) (all : List FindingEntry) where
  pub findings_first : (left told : List FindingEntry) (counts : KeyCounts) → left ≡ all → told ≡ []
      → AreLeft known before counts
      → FindingsGoOn known before sources all left told counts
  findings_first left told counts same none so = record {
    stood = before;
    are_left = so;
    are_all = λ i. none i ++ findings_by_baseline known before sources (same i);
    are_keys = λ i. before ++ open_keys sources (same i);
  }

  pub findings_next : (left after told next : List FindingEntry) (f one : FindingEntry) (old new : KeyCounts)
      → left ≡ f ∷ after
      → next ≡ told ++ one ∷ []
      → ((stood : List Key) → AreLeft known stood old → IsTold known stood sources f one new)
      → FindingsGoOn known before sources all left told old
      → FindingsGoOn known before sources all after next new
  findings_next left after told next f one old new is adds tells on =
      let step = tells on.stood on.are_left in
      let behind = on.stood ++ open_keys sources (f ∷ []) in
      record {
        stood = behind;
        are_left = step.left;
        are_all =
            ap (λ xs. xs ++ findings_by_baseline known behind sources after) adds
            ∙ (append_assoc told (one ∷ []) (findings_by_baseline known behind sources after)
            ∙ (ap (λ x. told ++ x ∷ findings_by_baseline known behind sources after) step.is_told
            ∙ (ap (λ fs. told ++ findings_by_baseline known on.stood sources fs) (sym is) ∙ on.are_all)));
        are_keys =
            append_assoc on.stood (open_keys sources (f ∷ [])) (open_keys sources after)
            ∙ (ap (λ ks. on.stood ++ ks) (sym (open_first sources f after))
            ∙ (ap (λ fs. on.stood ++ open_keys sources fs) (sym is) ∙ on.are_keys));
      }

  pub findings_all : (left told : List FindingEntry) (counts : KeyCounts) → left ≡ []
      → FindingsGoOn known before sources all left told counts
      → AreTold known before sources all told counts
  findings_all left told counts none on = record {
    are_told =
        sym (append-nil told)
        ∙ (ap (λ fs. told ++ findings_by_baseline known on.stood sources fs) (sym none) ∙ on.are_all);
    left =
        subst (λ ks. AreLeft known ks counts)
        (sym (append-nil on.stood) ∙ (ap (λ fs. on.stood ++ open_keys sources fs) (sym none) ∙ on.are_keys))
        on.are_left;
  }

-- Packages

pub record PackagesGoOn (known : List Key) (all left told : List FoundEntry) (counts : KeyCounts) : Type 0 where
  pub stood : List Key
  pub are_left : AreLeft known stood counts
  pub are_all : told ++ by_baseline known stood left ≡ by_baseline known [] all

module _ (known : List Key) (all : List FoundEntry) where
  pub packages_first : (left told : List FoundEntry) (counts : KeyCounts) → left ≡ all → told ≡ []
      → AreLeft known [] counts
      → PackagesGoOn known all left told counts
  packages_first left told counts same none so = record {
    stood = [];
    are_left = so;
    are_all = λ i. none i ++ by_baseline known [] (same i);
  }

  pub packages_next : (left after told next : List FoundEntry) (p one : FoundEntry) (old new : KeyCounts)
      → left ≡ p ∷ after
      → next ≡ told ++ one ∷ []
      → ((stood : List Key) → AreLeft known stood old → IsPackageTold known stood p one new)
      → PackagesGoOn known all left told old
      → PackagesGoOn known all after next new
  packages_next left after told next p one old new is adds tells on =
      let step = tells on.stood on.are_left in
      let behind = on.stood ++ open_keys p.sources p.findings in
      record {
        stood = behind;
        are_left = step.left;
        are_all =
            ap (λ xs. xs ++ by_baseline known behind after) adds
            ∙ (append_assoc told (one ∷ []) (by_baseline known behind after)
            ∙ (ap (λ x. told ++ x ∷ by_baseline known behind after) step.is_told
            ∙ (ap (λ ps. told ++ by_baseline known on.stood ps) (sym is) ∙ on.are_all)));
      }

  pub packages_all : (left told : List FoundEntry) (counts : KeyCounts) → left ≡ []
      → PackagesGoOn known all left told counts
      → told ≡ by_baseline known [] all
  packages_all left told counts none on =
      sym (append-nil told) ∙ (ap (λ ps. told ++ by_baseline known on.stood ps) (sym none) ∙ on.are_all)

-- by no baseline nothing is accepted

none_more : (before : List Key) (t : Bool) (key : Key) → (t && has_more [] before key) ≡ false
none_more before true key = le-ltb (count_by (is_key key) before) 0 (omega arith)
none_more before false key = refl

same_findings : (before : List Key) (sources : List Source) (fs : List FindingEntry)
    → findings_by_baseline [] before sources fs ≡ fs
same_findings before sources [] = refl
same_findings before sources (f ∷ fs) =
    λ i. accepted_if (none_more before (is_open f) (key_of sources f) i) f
    ∷ same_findings (before ++ open_keys sources (f ∷ [])) sources fs i

pub same_packages : (before : List Key) (ps : List FoundEntry) → by_baseline [] before ps ≡ ps
same_packages before [] = refl
same_packages before (p ∷ ps) =
    λ i. record p { findings = same_findings before p.sources p.findings i }
    ∷ same_packages (before ++ open_keys p.sources p.findings) ps i
