-- The directives of a text stand in it, each on its line, and their lines rise.
use Rattle.std.proofs.Common.{◌≡◌, ℕ, ◌+◌, ◌<◌, ◌≤◌, Bool, true, false, cond, List, [], ◌∷◌, ◌++◌, Option, Some, None, length, take, option_map, refl, sym, ap, ◌∙◌, subst, arith, ⊎_elim, length-append}
use Rattle.std.proofs.lemmas.Bool.{and_parts, cases_Bool}
use Rattle.std.proofs.lemmas.List.{append-nil, append_assoc, take-append-le}
use Rattle.std.proofs.lemmas.List.Elements.{All-cons, All-nil}
use Rattle.std.proofs.lemmas.List.Kept.{AllPairs-cons}
use Rattle.std.proofs.lemmas.List.Splits.{join_with_byte-slice_split, slice_split-cons_no, slice_split-cons_yes}
use Rattle.std.proofs.lemmas.List.Sums.{sum_by-append, sum_by-cons, sum_by-take-le}
use Rattle.std.proofs.Math.Seq.{take-append-add}
use Rattle.std.specs.List.{All, AllByRecursion, cons_option, count_by, join_with_byte, onto_first}
use Rattle.lexer.specs.Place.{is_newline, line_of}
use Rattle.memchr.proofs.lemmas.MatchLemmas.{OccursAt-true}
use Rattle.directives.specs.Directives.{DirectiveView, directive_at, directives_from, directives_of, lines_of}
use Rattle.directives.specs.Laws.{LinesRise, StandsIn}
use Rattle.directives.specs.Marks.{mark, place_in, stands_at}
use Rattle.directives.proofs.Places.{passes_among, stands_first, stands_later}

-- no newline stands in the line
abbrev pub IsQuiet : List ℕ → Type 0
IsQuiet line = count_by is_newline line ≡ 0

counts_none : (test : Bool) → test ≡ false → (n : ℕ) → n ≡ 0 → cond test 1 0 + n ≡ 0
counts_none true no_is n none = absurd (cc)
counts_none false no_is n none = omega arith

put_before : (b : ℕ) (parts : List (List ℕ)) → is_newline b ≡ false → AllByRecursion IsQuiet parts → AllByRecursion IsQuiet (onto_first b parts)
put_before b [] none quiet =
    (sum_by-cons (λ x. cond (is_newline x) 1 0) b [] ∙ counts_none (is_newline b) none 0 refl, tt)
put_before b (part ∷ parts) none quiet =
    (sum_by-cons (λ x. cond (is_newline x) 1 0) b part ∙ counts_none (is_newline b) none _ quiet.0, quiet.1)

are_quiet : (text : List ℕ) → AllByRecursion IsQuiet (lines_of text)
are_quiet [] = (refl, tt)
are_quiet (b ∷ bs) =
    ⊎_elim
    (λ ends. subst (AllByRecursion IsQuiet) (sym (slice_split-cons_yes is_newline b bs ends)) (refl, are_quiet bs))
    (λ goes. subst (AllByRecursion IsQuiet) (sym (slice_split-cons_no is_newline b bs goes)) (put_before b (lines_of bs) goes (are_quiet bs)))
    (cases_Bool (is_newline b))

-- the directive of a line that stands in a text
module _ (front line rest : List ℕ) (number : ℕ) (quiet : IsQuiet line) (is_number : number ≡ 1 + count_by is_newline front) (k : ℕ) (is : place_in line ≡ Some k) where
  lines_before : line_of (front ++ (line ++ rest)) (length front + k) ≡ number
  lines_before =
      let there = passes_among (stands_at line) 0 (length line) k is in
      let below = there.1 in
      let cut = take-append-add front (line ++ rest) k ∙ ap (λ l. front ++ l) (take-append-le k line rest (omega arith)) in
      let counted = ap (count_by is_newline) cut ∙ sum_by-append (λ x. cond (is_newline x) 1 0) front (take k line) in
      let few = sum_by-take-le (λ x. cond (is_newline x) 1 0) line k in
      omega (arith, counted, few, quiet, is_number)

  pub stands_here : StandsIn (front ++ (line ++ rest)) (directive_at number (length front) line k)
  stands_here =
      let there = passes_among (stands_at line) 0 (length line) k is in
      let occurs = OccursAt-true line mark k (and_parts _ _ there.0).0 in
      record {
        inside = omega (arith, there.1, length-append front (line ++ rest), length-append line rest);
        on_line = lines_before;
        begins = stands_later (line ++ rest) mark front k (stands_first line mark rest k occurs);
      }

adds : (P : DirectiveView → Type 0) (f : ℕ → DirectiveView) (place : Option ℕ) (ds : List DirectiveView)
    → ((k : ℕ) → place ≡ Some k → P (f k)) → All P ds → All P (cons_option (option_map f place) ds)
adds P f None ds here later = later
adds P f (Some k) ds here later = All-cons P (f k) ds (here k refl) later

stand_from : (lines : List (List ℕ)) (front : List ℕ) (number : ℕ) → AllByRecursion IsQuiet lines
    → number ≡ 1 + count_by is_newline front
    → All (StandsIn (front ++ join_with_byte 10 lines)) (directives_from number (length front) lines)
stand_from [] front number quiet is_number = All-nil _
stand_from (line ∷ []) front number quiet is_number =
    let P = StandsIn (front ++ line) in
    adds P (directive_at number (length front) line) (place_in line) []
    (λ k is. subst (λ t. StandsIn (front ++ t) (directive_at number (length front) line k)) (append-nil line) (stands_here front line [] number quiet.0 is_number k is))
    (All-nil P)
stand_from (line ∷ next ∷ lines) front number quiet is_number =
    let rest = join_with_byte 10 (next ∷ lines) in
    let P = StandsIn (front ++ (line ++ (10 ∷ rest))) in
    let before = front ++ (line ++ (10 ∷ [])) in
    let size : length before ≡ length front + length line + 1 = omega (arith, length-append front (line ++ (10 ∷ [])), length-append line (10 ∷ [])) in
    let counted = sum_by-append (λ x. cond (is_newline x) 1 0) front (line ++ (10 ∷ [])) in
    let ended = sum_by-append (λ x. cond (is_newline x) 1 0) line (10 ∷ []) in
    let quiet_here = quiet.0 in
    let is_next : number + 1 ≡ 1 + count_by is_newline before = omega (arith, counted, ended, quiet_here, is_number) in
    let same : before ++ rest ≡ front ++ (line ++ (10 ∷ rest))
    = append_assoc front (line ++ (10 ∷ [])) rest ∙ ap (λ l. front ++ l) (append_assoc line (10 ∷ []) rest) in
    let later = stand_from (next ∷ lines) before (number + 1) quiet.1 is_next in
    let moved = subst (λ n. All (StandsIn (before ++ rest)) (directives_from (number + 1) n (next ∷ lines))) size later in
    let placed = subst (λ t. All (StandsIn t) (directives_from (number + 1) (length front + length line + 1) (next ∷ lines))) same moved in
    adds P (directive_at number (length front) line) (place_in line) _
    (λ k is. stands_here front line (10 ∷ rest) number quiet.0 is_number k is) placed

pub stand_in : (text : List ℕ) → All (StandsIn text) (directives_of text)
stand_in text =
    subst (λ t. All (StandsIn t) (directives_of text)) (join_with_byte-slice_split 10 text)
    (stand_from (lines_of text) [] 1 (are_quiet text) refl)

-- what stands on lines from this one on, each on a line of its own
abbrev pub RiseFrom : ℕ → List DirectiveView → Type 0
RiseFrom number ds = All (λ d. number ≤ d.line) ds × LinesRise ds

rise_with : (place : Option ℕ) (f : ℕ → DirectiveView) (number : ℕ) → ((k : ℕ) → (f k).line ≡ number)
    → (ds : List DirectiveView) → RiseFrom (number + 1) ds → RiseFrom number (cons_option (option_map f place) ds)
rise_with None f number is ds later = (λ k d inside. omega (arith, later.0 k d inside), later.1)
rise_with (Some p) f number is ds later =
    let here = is p in (
      All-cons (λ d. number ≤ d.line) (f p) ds (omega (arith, here)) (λ k d inside. omega (arith, later.0 k d inside)),
      AllPairs-cons (λ d after. d.line < after.line) (f p) ds (λ k d inside. omega (arith, here, later.0 k d inside)) later.1,
    )

rise_from : (lines : List (List ℕ)) (number start : ℕ) → RiseFrom number (directives_from number start lines)
rise_from [] number start = (All-nil _, λ i j d before inside. absurd (omega (arith, inside)))
rise_from (line ∷ lines) number start =
    rise_with (place_in line) (directive_at number start line) number (λ k. refl) _ (rise_from lines (number + 1) (start + length line + 1))

pub lines_rise : (text : List ℕ) → LinesRise (directives_of text)
lines_rise text = (rise_from (lines_of text) 1 0).1
