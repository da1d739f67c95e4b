-- Bindings of which findings tell, one finding after the other.
use Rattle.std.proofs.Common.{◌≡◌, ℕ, ◌+◌, ◌<◌, ◌≤◌, Bool, true, false, if◌then◌else◌, List, [], ◌∷◌, ◌++◌, length, get_or, drop, take, map, refl, sym, ap, ◌∙◌}
use Rattle.std.proofs.lemmas.List.{drop_all, drop_more, map-append, take_more}
use Rattle.accepting.specs.Findings.{FindingEntry, finding_view}
use Rattle.accepting.specs.declared.findings.Finding.{Finding}
use Rattle.format_parts.specs.declared.style.Style.{Style}
use Rattle.report_json.specs.Causes.{count_after, count_from, is_same_binding, number_from, one_more}

module _ (style : Style) (count : ℕ) (fs : List Finding) (i : ℕ) (f : Finding) (inside : i < length fs) (there : f ≡ get_or fs i f) where
  -- with one more finding behind those before
  before_more : map finding_view (take (i + 1) fs) ≡ map finding_view (take i fs) ++ (finding_view f ∷ [])
  before_more =
      ap (map finding_view) (take_more fs i f inside)
      ∙ (map-append finding_view (take i fs) (get_or fs i f ∷ [])
      ∙ ap (λ (x : Finding). map finding_view (take i fs) ++ (finding_view x ∷ [])) (sym there))

  left_more : map finding_view (drop i fs) ≡ finding_view f ∷ map finding_view (drop (i + 1) fs)
  left_more =
      ap (map finding_view) (drop_more fs i f inside)
      ∙ ap (λ (x : Finding). finding_view x ∷ map finding_view (drop (i + 1) fs)) (sym there)

  pub count_on : (after : ℕ) (before : List Finding) → before ≡ take i fs → after ≡ count_after style count (map finding_view before) (finding_view f)
      → count_from style after (map finding_view (take (i + 1) fs)) (map finding_view (drop (i + 1) fs)) ≡ count_from style count (map finding_view (take i fs)) (map finding_view (drop i fs))
  count_on after before b is =
      let now : after ≡ count_after style count (map finding_view (take i fs)) (finding_view f) = is ∙ ap (λ (l : List Finding). count_after style count (map finding_view l) (finding_view f)) b in
      (λ k. count_from style (now k) (before_more k) (map finding_view (drop (i + 1) fs)))
      ∙ sym (ap (count_from style count (map finding_view (take i fs))) left_more)

  module _ (asked : FindingEntry) where
    number_more : (same : Bool) → is_same_binding style asked (finding_view f) ≡ same
        → number_from style count (map finding_view (take i fs)) (map finding_view (drop i fs)) asked
        ≡ (if same then one_more count else number_from style (count_after style count (map finding_view (take i fs)) (finding_view f)) (map finding_view (take i fs) ++ (finding_view f ∷ [])) (map finding_view (drop (i + 1) fs)) asked)
    number_more same test =
        ap (λ l. number_from style count (map finding_view (take i fs)) l asked) left_more
        ∙ ap (λ (t : Bool). if t then one_more count else number_from style (count_after style count (map finding_view (take i fs)) (finding_view f)) (map finding_view (take i fs) ++ (finding_view f ∷ [])) (map finding_view (drop (i + 1) fs)) asked) test

    pub number_here : is_same_binding style asked (finding_view f) ≡ true
        → number_from style count (map finding_view (take i fs)) (map finding_view (drop i fs)) asked ≡ one_more count
    number_here test = number_more true test

    pub number_on : (after : ℕ) (before : List Finding) → before ≡ take i fs → is_same_binding style asked (finding_view f) ≡ false
        → after ≡ count_after style count (map finding_view before) (finding_view f)
        → number_from style after (map finding_view (take (i + 1) fs)) (map finding_view (drop (i + 1) fs)) asked
        ≡ number_from style count (map finding_view (take i fs)) (map finding_view (drop i fs)) asked
    number_on after before b test is =
        let now : after ≡ count_after style count (map finding_view (take i fs)) (finding_view f) = is ∙ ap (λ (l : List Finding). count_after style count (map finding_view l) (finding_view f)) b in
        (λ k. number_from style (now k) (before_more k) (map finding_view (drop (i + 1) fs)) asked) ∙ sym (number_more false test)

module _ (style : Style) (count : ℕ) (fs : List Finding) (i : ℕ) (over : length fs ≤ i) where
  pub counted : count_from style count (map finding_view (take i fs)) (map finding_view (drop i fs)) ≡ count
  counted = ap (λ (l : List Finding). count_from style count (map finding_view (take i fs)) (map finding_view l)) (drop_all i fs over)

  pub number_last : (asked : FindingEntry) → number_from style count (map finding_view (take i fs)) (map finding_view (drop i fs)) asked ≡ one_more count
  number_last asked = ap (λ (l : List Finding). number_from style count (map finding_view (take i fs)) (map finding_view l) asked) (drop_all i fs over)
