-- Keys of a run that are counted, and findings of a baseline that are looked for among them, one after the other.
use Rattle.std.proofs.Common.{◌≡◌, cond, ℕ, ◌+◌, ◌<◌, ◌≤◌, Bool, true, false, ◌&&◌, if◌then◌else◌, List, [], ◌∷◌, ◌++◌, length, get_or, take, drop, map, refl, sym, ap, ◌∙◌, subst, arith}
use Rattle.std.specs.Prelude.{filter, nat_lt, not}
use Rattle.std.specs.Int.{from_bool}
use Rattle.std.proofs.lemmas.Grind.{flat_map-append}
use Rattle.std.proofs.lemmas.List.{append-nil, append_assoc, drop_more, length-map, length-take-le, map-append, take_more, drop_all}
use Rattle.std.proofs.lemmas.List.Elements.{filter-append}
use Rattle.baseline_json.specs.BaselineValues.{BaselineEntry, entry_of}
use Rattle.baseline_json.specs.declared.baseline.BaselineFinding.{BaselineFinding}
use Rattle.lexer.specs.declared.source.Source.{Source}
use Rattle.accepting.specs.declared.keys.KeyCounts.{KeyCounts}
use Rattle.accepting.specs.ByBaseline.{Key, baseline_keys, key_in, key_of}
use Rattle.accepting.specs.Findings.{FindingEntry, FoundEntry}
use Rattle.accepting.specs.Gone.{is_of_run, keys_of_findings, keys_of_run, was_open, is_gone, gone_behind}
use Rattle.accepting.specs.KeptKeys.{left_of, left_after, most, one_less, one_more, AreLeft, IsGoneBy}
use Rattle.accepting.proofs.KeyCounts.{known_next, stood_next, has_left_behind}

-- what is seen of the elements so far, and of one more
pub seen_next : {A B : Type 0} (view : A → B) (xs : List A) (i : ℕ) (x : A) → i < length xs → x ≡ get_or xs i x
    → map view (take (i + 1) xs) ≡ map view (take i xs) ++ view x ∷ []
seen_next view xs i x h is =
    ap (map view) (take_more xs i x h)
    ∙ (map-append view (take i xs) (get_or xs i x ∷ []) ∙ ap (λ y. map view (take i xs) ++ view y ∷ []) (sym is))

-- Of the run

module _ (sources : List Source) where
  abbrev key_if : FindingEntry → Bool → List Key
  key_if f t = map (key_of sources) (cond t (f ∷ []) [])

  keys_next : (fs : List FindingEntry) (f : FindingEntry)
      → keys_of_findings sources (fs ++ f ∷ []) ≡ keys_of_findings sources fs ++ keys_of_findings sources (f ∷ [])
  keys_next fs f =
      ap (map (key_of sources)) (filter-append is_of_run fs (f ∷ []))
      ∙ map-append (key_of sources) (filter is_of_run fs) (filter is_of_run (f ∷ []))

  -- a finding that is not counted, and one that is
  pub not_counted : (run : List Key) (f : FindingEntry) (counts : KeyCounts) → is_of_run f ≡ false
      → AreLeft run [] counts
      → AreLeft (run ++ keys_of_findings sources (f ∷ [])) [] counts
  not_counted run f counts shut so =
      subst (λ ks. AreLeft ks [] counts) (sym (ap (λ t. run ++ key_if f t) shut ∙ append-nil run)) so

  pub counted : (run : List Key) (f : FindingEntry) (old new : KeyCounts) → is_of_run f ≡ true
      → ((k : Key) → left_of new k ≡ left_after one_more old (key_of sources f) k)
      → AreLeft run [] old
      → AreLeft (run ++ keys_of_findings sources (f ∷ [])) [] new
  counted run f old new opens adds so =
      subst (λ ks. AreLeft ks [] new) (sym (ap (λ t. run ++ key_if f t) opens))
      (known_next run (key_of sources f) old new adds so)

  -- one more after others
  pub finding_next : (run : List Key) (fs next : List FindingEntry) (f : FindingEntry) (old new : KeyCounts)
      → next ≡ fs ++ f ∷ []
      → ((ks : List Key) → AreLeft ks [] old → AreLeft (ks ++ keys_of_findings sources (f ∷ [])) [] new)
      → AreLeft (run ++ keys_of_findings sources fs) [] old
      → AreLeft (run ++ keys_of_findings sources next) [] new
  finding_next run fs next f old new is adds so =
      subst (λ ks. AreLeft ks [] new)
      (append_assoc run (keys_of_findings sources fs) (keys_of_findings sources (f ∷ []))
      ∙ ap (λ ks. run ++ ks) (sym (ap (keys_of_findings sources) is ∙ keys_next fs f)))
      (adds (run ++ keys_of_findings sources fs) so)

-- a package after others
pub package_next : (ps next : List FoundEntry) (p : FoundEntry) (old new : KeyCounts) → next ≡ ps ++ p ∷ []
    → ((ks : List Key) → AreLeft ks [] old → AreLeft (ks ++ keys_of_findings p.sources p.findings) [] new)
    → AreLeft (keys_of_run ps) [] old
    → AreLeft (keys_of_run next) [] new
package_next ps next p old new is adds so =
    let keys_in : FoundEntry → List Key = λ q. keys_of_findings q.sources q.findings in
    subst (λ ks. AreLeft ks [] new)
    (sym (ap keys_of_run is
    ∙ (flat_map-append keys_in ps (p ∷ []) ∙ ap (λ ks. keys_of_run ps ++ ks) (append-nil (keys_in p)))))
    (adds (keys_of_run ps) so)

-- Of the baseline

pub judged : (run before : List Key) (e : BaselineEntry) (met is : Bool) (old new : KeyCounts) → length before < most
    → met ≡ nat_lt 0 (left_of old (key_in e))
    → ((k : Key) → left_of new k ≡ left_after one_less old (key_in e) k)
    → is ≡ (not met && was_open e)
    → AreLeft run before old
    → IsGoneBy run before e is new
judged run before e met is old new fits was takes so left = record {
  is_so = so ∙ ap (λ t. not t && was_open e) (was ∙ has_left_behind run before old (key_in e) fits left);
  left = stood_next run before (key_in e) old new takes left;
}

-- what is gone of those so far, with what is gone of those that are left, is gone of all
pub record GoneSoFar
    (run : List Key) (baseline : List BaselineFinding) (i count : ℕ) (counts : KeyCounts)
    : Type 0 where
  pub left : AreLeft run (baseline_keys (take i baseline)) counts
  pub are_all : count + gone_behind run (baseline_keys (take i baseline)) (map entry_of (drop i baseline))
      ≡ gone_behind run [] (map entry_of baseline)
  pub fits : count ≤ i

one_if : (t : Bool) → from_bool t ≡ (if t then 1 else 0)
one_if true = refl
one_if false = refl

pub is_small : (t : Bool) → from_bool t ≤ 1
is_small true = omega arith
is_small false = omega arith

zero_plus : (n : ℕ) → 0 + n ≡ n
zero_plus n = omega arith

joined : (n count is one left_here left_there whole all : ℕ) → left_here ≡ left_there → whole ≡ one + left_there
    → n ≡ count + is
    → is ≡ one
    → count + whole ≡ all
    → n + left_here ≡ all
joined n count is one left_here left_there whole all same splits grows tells on = omega arith

module _ (run : List Key) (baseline : List BaselineFinding) where
  abbrev key_at : BaselineFinding → Key
  key_at f = key_in (entry_of f)

  pub gone_first : (counts : KeyCounts) → AreLeft run [] counts → GoneSoFar run baseline 0 0 counts
  gone_first counts so = record {
    left = so;
    are_all = zero_plus (gone_behind run [] (map entry_of baseline));
    fits = omega arith;
  }

  pub gone_next : (i count n : ℕ) (f : BaselineFinding) (is : Bool) (old new : KeyCounts) → i < length baseline
      → f ≡ get_or baseline i f
      → n ≡ count + from_bool is
      → ((before : List Key) → length before ≡ i → AreLeft run before old → IsGoneBy run before (entry_of f) is new)
      → GoneSoFar run baseline i count old
      → GoneSoFar run baseline (i + 1) n new
  gone_next i count n f is old new h there grows tells on =
      let before = map key_at (take i baseline) in
      let after = map entry_of (drop (i + 1) baseline) in
      let long : length before ≡ i = length-map (take i baseline) key_at ∙ length-take-le i baseline (omega arith) in
      let told = tells before long on.left in
      let taken : map key_at (take (i + 1) baseline) ≡ before ++ key_at f ∷ [] =
      seen_next key_at baseline i f h there in
      let small : from_bool is ≤ 1 = is_small is in
      record {
        left = subst (λ ks. AreLeft run ks new) (sym taken) told.left;
        are_all =
            joined n count (from_bool is) (if is_gone run before (entry_of f) then 1 else 0)
            (gone_behind run (map key_at (take (i + 1) baseline)) after)
            (gone_behind run (before ++ key_at f ∷ []) after)
            (gone_behind run before (map entry_of (drop i baseline)))
            (gone_behind run [] (map entry_of baseline))
            (ap (λ ks. gone_behind run ks after) taken)
            (ap (λ fs. gone_behind run before (map entry_of fs)) (drop_more baseline i f h)
            ∙ ap (λ x. gone_behind run before (entry_of x ∷ after)) (sym there))
            grows
            (ap from_bool told.is_so ∙ one_if (is_gone run before (entry_of f)))
            on.are_all;
        fits = (let less : count ≤ i = on.fits in omega arith);
      }

  pub gone_all : (i count : ℕ) (counts : KeyCounts) → length baseline ≤ i → GoneSoFar run baseline i count counts
      → count ≡ gone_behind run [] (map entry_of baseline)
  gone_all i count counts h on =
      let none : map entry_of (drop i baseline) ≡ [] = ap (map entry_of) (drop_all i baseline h) in
      let last : count + 0 ≡ gone_behind run [] (map entry_of baseline) =
      ap (λ es. count + gone_behind run (map key_at (take i baseline)) es) (sym none) ∙ on.are_all in
      (let e : count ≡ count + 0 = omega arith in e) ∙ last
