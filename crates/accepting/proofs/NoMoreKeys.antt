-- The baseline accepts no more findings of a key than it has: each takes one, in order.
use Rattle.std.proofs.Common.{◌≡◌, ◌∙◌, cond, ℕ, ◌+◌, ◌-◌, ◌<◌, ◌≤◌, Bool, true, false, ◌&&◌, List, [], ◌∷◌, ◌++◌, map, refl, sym, ap, subst, arith}
use Rattle.std.specs.Prelude.{count_by, filter, flat_map}
use Rattle.std.specs.List.{All}
use Rattle.std.proofs.lemmas.Bool.{ltb-true}
use Rattle.std.proofs.lemmas.List.Elements.{All-head, All-tail}
use Rattle.std.proofs.lemmas.List.Sums.{sum_by-append, sum_by-cons}
use Rattle.lexer.specs.declared.source.Source.{Source}
use Rattle.accepting.specs.ByBaseline.{Key, accepted_if, by_baseline, findings_by_baseline, has_more, is_key, is_open, key_of, open_keys}
use Rattle.accepting.specs.Findings.{FindingEntry, FoundEntry}
use Rattle.accepting.specs.Laws.{BaselineAcceptsNoMore, IsNotOfBaseline, is_by_baseline, keys_by_baseline}
use Rattle.accepting.proofs.KeyCounts.{is_sound}

abbrev one_if : Bool → ℕ
one_if t = cond t 1 0

zero_plus : (n : ℕ) → n ≡ 0 + n
zero_plus n = omega arith

-- of findings with one key: how many the baseline accepts, how many are open, how many stood before these, and how many
-- the baseline has
record AreFew (accepted opened before known : ℕ) : Type 0 where
  in_all : accepted ≤ opened
  of_known : accepted ≤ known - before

-- one finding before others, which is open or not, of which the baseline has more or not, and which has the key or not
few_next : (opens has is : Bool) (all accepted all_open opened behind before known : ℕ)
    → all ≡ one_if ((opens && has) && is) + accepted
    → all_open ≡ one_if (opens && is) + opened
    → behind ≡ before + one_if (opens && is)
    → (has ≡ true → is ≡ true → before < known)
    → accepted ≤ opened
    → accepted ≤ known - behind
    → AreFew all all_open before known
few_next true true true all accepted all_open opened behind before known a o b more few left =
    let less = more refl refl in record { in_all = omega arith; of_known = omega arith }
few_next true true false all accepted all_open opened behind before known a o b more few left =
    record { in_all = omega arith; of_known = omega arith }
few_next true false true all accepted all_open opened behind before known a o b more few left =
    record { in_all = omega arith; of_known = omega arith }
few_next true false false all accepted all_open opened behind before known a o b more few left =
    record { in_all = omega arith; of_known = omega arith }
few_next false has is all accepted all_open opened behind before known a o b more few left =
    record { in_all = omega arith; of_known = omega arith }

more_plus : (n a b c : ℕ) → n ≡ a + b → b ≡ c + 0 → n ≡ a + c
more_plus n a b c is one = omega arith

sum_fits : (all here rest opened behind before known : ℕ) → all ≡ here + rest → behind ≡ before + opened
    → here ≤ opened
    → here ≤ known - before
    → rest ≤ known - behind
    → all ≤ known - before
sum_fits all here rest opened behind before known adds moves few left fits = omega arith

none_fits : (n : ℕ) → 0 ≤ n
none_fits n = omega arith

from_none : (m n : ℕ) → m ≤ n - 0 → m ≤ n
from_none m n is = omega arith

module _ (known : List Key) (key : Key) where
  abbrev count : List Key → ℕ
  count ks = count_by (is_key key) ks

  count_next : (k : Key) (ks : List Key) → count (k ∷ ks) ≡ one_if (is_key key k) + count ks
  count_next k ks = sum_by-cons (λ x. cond (is_key key x) 1 0) k ks

  count_all : (ks more : List Key) → count (ks ++ more) ≡ count ks + count more
  count_all ks more = sum_by-append (λ x. cond (is_key key x) 1 0) ks more

  count_if : (t : Bool) (k : Key) (ks : List Key)
      → count (cond t (k ∷ ks) ks) ≡ one_if (t && is_key key k) + count ks
  count_if true k ks = count_next k ks
  count_if false k ks = zero_plus (count ks)

  module _ (sources : List Source) where
    abbrev accepted_of : List FindingEntry → List FindingEntry
    accepted_of fs = filter (λ f. is_by_baseline f.accepted) fs

    abbrev accepted_keys : List FindingEntry → List Key
    accepted_keys fs = map (key_of sources) (accepted_of fs)

    map_if : (t : Bool) (f : FindingEntry) (fs : List FindingEntry)
        → map (key_of sources) (cond t (f ∷ fs) fs)
        ≡ cond t (key_of sources f ∷ map (key_of sources) fs) (map (key_of sources) fs)
    map_if true f fs = refl
    map_if false f fs = refl

    accepted_first : (t : Bool) (f : FindingEntry) (fs : List FindingEntry) → is_by_baseline f.accepted ≡ false
        → accepted_keys (accepted_if t f ∷ fs) ≡ cond t (key_of sources f ∷ accepted_keys fs) (accepted_keys fs)
    accepted_first true f fs none = refl
    accepted_first false f fs none =
        ap (λ t. map (key_of sources) (cond t (f ∷ accepted_of fs) (accepted_of fs))) none

    accepted_count : (t : Bool) (f : FindingEntry) (fs : List FindingEntry) → is_by_baseline f.accepted ≡ false
        → count (accepted_keys (accepted_if t f ∷ fs))
        ≡ one_if (t && is_key key (key_of sources f)) + count (accepted_keys fs)
    accepted_count t f fs none =
        ap count (accepted_first t f fs none) ∙ count_if t (key_of sources f) (accepted_keys fs)

    open_count : (f : FindingEntry) (fs : List FindingEntry)
        → count (open_keys sources (f ∷ fs))
        ≡ one_if (is_open f && is_key key (key_of sources f)) + count (open_keys sources fs)
    open_count f fs =
        ap count (map_if (is_open f) f (filter is_open fs))
        ∙ count_if (is_open f) (key_of sources f) (open_keys sources fs)

    before_count : (before : List Key) (f : FindingEntry)
        → count (before ++ open_keys sources (f ∷ []))
        ≡ count before + one_if (is_open f && is_key key (key_of sources f))
    before_count before f =
        more_plus (count (before ++ open_keys sources (f ∷ []))) (count before) (count (open_keys sources (f ∷ [])))
        (one_if (is_open f && is_key key (key_of sources f)))
        (count_all before (open_keys sources (f ∷ []))) (open_count f [])

    has_room : (before : List Key) (f : FindingEntry) → has_more known before (key_of sources f) ≡ true
        → is_key key (key_of sources f) ≡ true
        → count before < count known
    has_room before f has is =
        subst (λ k. count_by (is_key k) before < count_by (is_key k) known)
        (sym (is_sound key (key_of sources f) is))
        (ltb-true (count_by (is_key (key_of sources f)) before) (count_by (is_key (key_of sources f)) known) has)

    few_of : (before : List Key) (fs : List FindingEntry) → All (λ f. is_by_baseline f.accepted ≡ false) fs
        → AreFew (count (accepted_keys (findings_by_baseline known before sources fs))) (count (open_keys sources fs))
        (count before) (count known)
    few_of before [] each = record { in_all = none_fits 0; of_known = none_fits (count known - count before) }
    few_of before (f ∷ fs) each =
        let behind = before ++ open_keys sources (f ∷ []) in
        let told = findings_by_baseline known behind sources fs in
        let later = few_of behind fs (All-tail (λ f. is_by_baseline f.accepted ≡ false) f fs each) in
        let none = All-head (λ f. is_by_baseline f.accepted ≡ false) f fs each in
        let has = has_more known before (key_of sources f) in
        few_next (is_open f) has (is_key key (key_of sources f))
        (count (accepted_keys (accepted_if (is_open f && has) f ∷ told))) (count (accepted_keys told))
        (count (open_keys sources (f ∷ fs))) (count (open_keys sources fs)) (count behind) (count before) (count known)
        (accepted_count (is_open f && has) f told none) (open_count f fs) (before_count before f) (has_room before f)
        later.in_all later.of_known

  few_in : (before : List Key) (ps : List FoundEntry) → All IsNotOfBaseline ps
      → count (flat_map keys_by_baseline (by_baseline known before ps)) ≤ count known - count before
  few_in before [] each = none_fits (count known - count before)
  few_in before (p ∷ ps) each =
      let behind = before ++ open_keys p.sources p.findings in
      let here = few_of p.sources before p.findings (All-head IsNotOfBaseline p ps each) in
      let told = findings_by_baseline known before p.sources p.findings in
      let rest = flat_map keys_by_baseline (by_baseline known behind ps) in
      sum_fits (count (accepted_keys p.sources told ++ rest)) (count (accepted_keys p.sources told)) (count rest)
      (count (open_keys p.sources p.findings)) (count behind) (count before) (count known)
      (count_all (accepted_keys p.sources told) rest) (count_all before (open_keys p.sources p.findings)) here.in_all
      here.of_known (few_in behind ps (All-tail IsNotOfBaseline p ps each))

pub no_more : BaselineAcceptsNoMore
no_more known packages key each =
    from_none (count_by (is_key key) (flat_map keys_by_baseline (by_baseline known [] packages)))
    (count_by (is_key key) known) (few_in known key [] packages each)
