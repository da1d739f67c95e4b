-- The first edition leaves what conditions find out, and what is marked of fields, out of the marks of a file; the second
-- leaves the latter out where no field keeps. All other marks stand there as they are, with the same bodies around them.
use Rattle.std.proofs.Common.{◌≡◌, Bool, true, false, inl, inr, List, [], ◌∷◌, ◌++◌, Contains, cond, filter, refl, sym, ap, ◌∙◌, subst, ℕ}
use Rattle.std.specs.Prelude.{not, ◌&&◌, ◌||◌}
use Rattle.std.proofs.lemmas.List.Elements.{filter-append}
use Rattle.tree.specs.declared.edition.Edition.{Edition}
use Rattle.tree.specs.declared.edition.Edition.TheVariants.{First, Second}
use Rattle.tree.specs.Syntax.{SourceFile}
use Rattle.meaning.specs.Mentions.{BodyPlace, Mark, mentions, runs_literal, returns, opens, closes, in_body, is_found, marks_by, file_marks, mention, called, of_fields, is_of_fields}
use Rattle.meaning.specs.Tracked.{Placed, placed, outer}
use Rattle.meaning.specs.BodyEvents.{opened_in}
use Rattle.meaning.proofs.Membership.{contains_nil, contains_here, contains_there, contains_cases}
use Rattle.meaning_runs.proofs.FieldMarks.{FieldsOnly, no_more, and_one, Any}
use Rattle.meaning_runs.proofs.SitesWithin.{ReturnsEnd}
use Rattle.meaning_runs.proofs.MarkForms.{AreMade, no_mark, both_parts, a_mention, a_field, a_call, a_call_with, a_return, a_body, a_run_body, of_file}

-- `without_found`: what conditions find out is left out too
abbrev stays : Bool → Mark → Bool
stays without_found (mentions m) = not (is_found (mentions m) && without_found)
stays without_found (of_fields site m) = false
stays without_found (runs_literal moment site at) = true
stays without_found (returns at es) = true
stays without_found (opens b) = true
stays without_found closes = true

abbrev kept : Bool → List Mark → List Mark
kept w ms = filter (stays w) ms

first_mention : (x : Bool) → not (x || false) ≡ not (x && true)
first_mention true = refl
first_mention false = refl

first_stays : (m : Mark) → not (is_found m || is_of_fields m) ≡ stays true m
first_stays (mentions m) = first_mention (is_found (mentions m))
first_stays (of_fields site m) = refl
first_stays (runs_literal moment site at) = refl
first_stays (returns at es) = refl
first_stays (opens b) = refl
first_stays closes = refl

second_mention : (x : Bool) → true ≡ not (x && false)
second_mention true = refl
second_mention false = refl

second_stays : (m : Mark) → not (is_of_fields m) ≡ stays false m
second_stays (mentions m) = second_mention (is_found (mentions m))
second_stays (of_fields site m) = refl
second_stays (runs_literal moment site at) = refl
second_stays (returns at es) = refl
second_stays (opens b) = refl
second_stays closes = refl

-- the marks by an edition are all, or those that stay
by_marks : (P : List Mark → Type 0) (edition : Edition) (some_keep : Bool) (ms : List Mark) → P ms
    → ((w : Bool) → P (kept w ms))
    → P (marks_by edition some_keep ms)
by_marks P First some_keep ms h k = subst P (λ j. filter (λ m. sym (first_stays m) j) ms) (k true)
by_marks P Second false ms h k = subst P (λ j. filter (λ m. sym (second_stays m) j) ms) (k false)
by_marks P Second true ms h k = h

-- Members

one_more : {X : Type 0} (b : Bool) (y : X) (xs ys : List X) (x : X)
    → (Contains xs x → Contains ys x)
    → Contains (cond b (y ∷ xs) xs) x
    → Contains (y ∷ ys) x
one_more {X} true y xs ys x f h = elim (contains_cases y x xs h) [
  | inl e ↦ subst (λ (z : X). Contains (y ∷ ys) z) e (contains_here y ys)
  | inr r ↦ contains_there y x ys (f r)
]
one_more false y xs ys x f h = contains_there y x ys (f h)

kept_among : (w : Bool) (ms : List Mark) (m : Mark) → Contains (kept w ms) m → Contains ms m
kept_among w [] m h = absurd (contains_nil m h)
kept_among w (n ∷ ms) m h = one_more (stays w n) n (kept w ms) ms m (kept_among w ms m) h

pub among_all : (edition : Edition) (some_keep : Bool) (ms : List Mark) (m : Mark)
    → Contains (marks_by edition some_keep ms) m
    → Contains ms m
among_all edition some_keep ms m =
    by_marks (λ (l : List Mark). Contains l m → Contains ms m) edition some_keep ms (λ h. h) (λ w h. kept_among w ms m h)

-- Places

kept_placed : (w : Bool) (bodies : List BodyPlace) (ms : List Mark) (p : Placed)
    → Contains (placed bodies (kept w ms)) p
    → Contains (placed bodies ms) p
unfolding placed
kept_placed w bodies [] p h = absurd (contains_nil p h)
kept_placed w bodies (mentions m ∷ ms) p h = by (stays w (mentions m)) h (kept_placed w bodies ms p)
  where
    by : (b : Bool) → Contains (placed bodies (cond b (mentions m ∷ kept w ms) (kept w ms))) p
        → (Contains (placed bodies (kept w ms)) p → Contains (placed bodies ms) p)
        → Contains (placed bodies (mentions m ∷ ms)) p
    by true k rest = one_more true _ (placed bodies (kept w ms)) (placed bodies ms) p rest k
    by false k rest = contains_there _ p (placed bodies ms) (rest k)
kept_placed w bodies (of_fields site m ∷ ms) p h = contains_there _ p (placed bodies ms) (kept_placed w bodies ms p h)
kept_placed w bodies (runs_literal moment site at ∷ ms) p h =
    one_more true _ (placed bodies (kept w ms)) (placed bodies ms) p (kept_placed w bodies ms p) h
kept_placed w bodies (returns at es ∷ ms) p h =
    one_more true _ (placed bodies (kept w ms)) (placed bodies ms) p (kept_placed w bodies ms p) h
kept_placed w bodies (opens b ∷ ms) p h =
    one_more true _ (placed (b ∷ bodies) (kept w ms)) (placed (b ∷ bodies) ms) p (kept_placed w (b ∷ bodies) ms p) h
kept_placed w bodies (closes ∷ ms) p h = kept_placed w (outer bodies) ms p h

pub placed_among : (edition : Edition) (some_keep : Bool) (ms : List Mark) (p : Placed)
    → Contains (placed [] (marks_by edition some_keep ms)) p
    → Contains (placed [] ms) p
placed_among edition some_keep ms p =
    by_marks (λ (l : List Mark). Contains (placed [] l) p → Contains (placed [] ms) p) edition some_keep ms (λ h. h)
    (λ w h. kept_placed w [] ms p h)

kept_opened : (w : Bool) (bodies : List BodyPlace) (ms : List Mark)
    → opened_in (placed bodies (kept w ms)) ≡ opened_in (placed bodies ms)
unfolding placed
kept_opened w bodies [] = refl
kept_opened w bodies (mentions m ∷ ms) = by (stays w (mentions m)) (kept_opened w bodies ms)
  where
    by : (b : Bool) → opened_in (placed bodies (kept w ms)) ≡ opened_in (placed bodies ms)
        → opened_in (placed bodies (cond b (mentions m ∷ kept w ms) (kept w ms)))
        ≡ opened_in (placed bodies (mentions m ∷ ms))
    by true rest = rest
    by false rest = rest
kept_opened w bodies (of_fields site m ∷ ms) = kept_opened w bodies ms
kept_opened w bodies (runs_literal moment site at ∷ ms) = kept_opened w bodies ms
kept_opened w bodies (returns at es ∷ ms) = kept_opened w bodies ms
kept_opened w bodies (opens b ∷ ms) = ap (λ (bs : List BodyPlace). b ∷ bs) (kept_opened w (b ∷ bodies) ms)
kept_opened w bodies (closes ∷ ms) = kept_opened w (outer bodies) ms

pub same_opened : (edition : Edition) (some_keep : Bool) (ms : List Mark)
    → opened_in (placed [] (marks_by edition some_keep ms)) ≡ opened_in (placed [] ms)
same_opened edition some_keep ms =
    by_marks (λ (l : List Mark). opened_in (placed [] l) ≡ opened_in (placed [] ms)) edition some_keep ms refl
    (λ w. kept_opened w [] ms)

-- Returns

kept_ends : (w : Bool) (ms : List Mark) → ReturnsEnd ms → ReturnsEnd (kept w ms)
kept_ends w [] h = tt
kept_ends w (m ∷ ms) h = by (stays w m) (kept_ends w ms h.1)
  where
    by : (b : Bool) → ReturnsEnd (kept w ms) → ReturnsEnd (cond b (m ∷ kept w ms) (kept w ms))
    by true rest = (λ n among. h.0 n (kept_among w ms n among), rest)
    by false rest = rest

pub returns_end : (edition : Edition) (some_keep : Bool) (ms : List Mark) → ReturnsEnd ms
    → ReturnsEnd (marks_by edition some_keep ms)
returns_end edition some_keep ms h = by_marks ReturnsEnd edition some_keep ms h (λ w. kept_ends w ms h)

-- Forms

kept_body : (w : Bool) (b : BodyPlace) (ms : List Mark) → kept w (in_body b ms) ≡ in_body b (kept w ms)
kept_body w b ms = ap (λ (ns : List Mark). opens b ∷ ns) (filter-append (stays w) ms (closes ∷ []))

no_fields : (w : Bool) {site : ℕ} (fs : List Mark) → FieldsOnly Any site fs → kept w fs ≡ []
no_fields w fs no_more = refl
no_fields w fs (and_one {ms = rest} m p h) = no_fields w rest h

kept_made : (w : Bool) {i : Bool} {ms : List Mark} → AreMade i ms → AreMade i (kept w ms)
kept_made w no_mark = no_mark
kept_made w (both_parts {xs = xs} {ys = ys} h k e) =
    both_parts (kept_made w h) (kept_made w k) (ap (kept w) e ∙ filter-append (stays w) xs ys)
kept_made w {i = i} (a_mention m none) = by (stays w (mentions m))
  where
    by : (b : Bool) → AreMade i (cond b (mentions m ∷ []) [])
    by true = a_mention m none
    by false = no_mark
kept_made w (a_field site m) = no_mark
kept_made w (a_call site c none placed) = a_call site c none placed
kept_made w {i = i} (a_call_with {ms = ms} {fs = fs} site c b is used name placed h k) =
    let callee = mention site (called c) c.callee ∷ [] in
    subst (AreMade i)
    (sym (filter-append (stays w) (in_body b ms) (fs ++ callee)
    ∙ ap (λ (ns : List Mark). ns ++ kept w (fs ++ callee)) (kept_body w b ms)
    ∙ ap (λ (ns : List Mark). in_body b (kept w ms) ++ ns)
    (filter-append (stays w) fs callee ∙ ap (λ (ns : List Mark). ns ++ callee) (no_fields w fs k))))
    (a_call_with {fs = []} site c b is used name placed (kept_made w h) no_more)
kept_made w (a_return at es) = a_return at es
kept_made w {i = i} (a_body {ms = ms} b not_started not_deferred h) =
    subst (AreMade i) (sym (kept_body w b ms)) (a_body b not_started not_deferred (kept_made w h))
kept_made w (a_run_body {ms = ms} moment b site is h) =
    subst (AreMade true)
    (sym (filter-append (stays w) (in_body b ms) (runs_literal moment site b.at ∷ [])
    ∙ ap (λ (ns : List Mark). ns ++ runs_literal moment site b.at ∷ []) (kept_body w b ms)))
    (a_run_body moment b site is (kept_made w h))

pub file_made : (edition : Edition) (some_keep : Bool) (file : SourceFile)
    → AreMade false (marks_by edition some_keep (file_marks file))
file_made edition some_keep file =
    by_marks (AreMade false) edition some_keep (file_marks file) (of_file file) (λ w. kept_made w (of_file file))
