-- Of what is kept of a function its facts are made again.
use Rattle.std.proofs.Common.{◌≡◌, inl, inr, ℕ, suc, ◌+◌, ◌<◌, ◌≤◌, Bool, true, false, not, ◌&&◌, ◌||◌, List, [], ◌∷◌, ◌++◌, map, length, get_or, Contains, Some, None, is_some, option_map, refl, sym, ap, ◌∙◌, arith}
use Rattle.std.specs.Prelude.{◌==◌, ◌^◌, if◌then◌else◌, flat_map, nat_lt, take, drop}
use Rattle.std.specs.List.{list_all, list_any}
use Rattle.std.proofs.lemmas.Bool.{and_from, and_parts, false≢true, le-ltb, lt-ltb, or_cases, or_left, or_right}
use Rattle.std.proofs.lemmas.Bool.Decides.{Decides-eqb}
use Rattle.std.proofs.lemmas.List.{append_assoc}
use Rattle.std.proofs.lemmas.Option.{none-some, same_Some}
use Rattle.table_json.specs.declared.table.Parameter.{Parameter}
use Rattle.table_json.specs.TableValues.{if_fits}
use Rattle.table_json.specs.WrittenTables.{says_something}
use Rattle.meaning.proofs.Membership.{contains_here}
use Rattle.meaning.specs.FunctionFacts.{CancelType, plain, with_cause, is_same_type, TrackedType, cancel_type, group_type, cancel, TrackedParameter, CancelResult, Unless, FunctionFacts}
use Rattle.meaning.specs.OuterBlocks.{has_any}
use Rattle.meaning.specs.Uses.{has_kind_at}
use Rattle.declared_tables.specs.DeclaredTables.{is_called_at, parameter_of, results_of}
use Rattle.declared_tables.proofs.AddedCalls.{item_next}
use Rattle.plain_tables.specs.Tables.{as_list, entry_told, is_none_of, parameter_kept, parameter_told, position_told, result_told}
use Rattle.plain_tables.proofs.FactOrder.{AreRising, RiseFrom, none_or_some, place_of_result, told_behind}
use Rattle.vetx_tables.specs.KeptTables.{count_below, facts_again, facts_fit, fits, function_kept, parameter_fits, result_fits, results_by_position, unless_again, unless_fits, unless_kept}

pub fit_so : (n k : ℕ) → if_fits n ≡ Some k → (k ≡ n) × (fits n ≡ true)
fit_so n k e = (by (nat_lt n (2 ^ 32)) e, ap is_some e)
  where
    by : (b : Bool) → (if b then Some n else None) ≡ Some k → k ≡ n
    by true h = sym (same_Some n k h)
    by false h = absurd (none-some k h)

pub fits_is : (n : ℕ) → fits n ≡ true → if_fits n ≡ Some n
fits_is n e = by (nat_lt n (2 ^ 32)) e
  where
    by : (b : Bool) → is_some (if b then Some n else None) ≡ true → (if b then Some n else None) ≡ Some n
    by true h = refl
    by false h = absurd (false≢true h)

-- Parameters

abbrev told : (ℕ → Bool) → List TrackedParameter → List Parameter
told calls ps = flat_map (λ p. as_list (parameter_told calls p)) ps

kept_again : (calls : ℕ → Bool) (p : TrackedParameter) (t : TrackedType) (at : ℕ)
    → parameter_of (parameter_kept calls p t at) ≡ record { position = at; typed = t }
kept_again calls p (cancel_type plain) at = refl
kept_again calls p (cancel_type with_cause) at = refl
kept_again calls p group_type at = refl

told_one : (calls : ℕ → Bool) (p : TrackedParameter) → parameter_fits p ≡ true
    → as_list (parameter_told calls p) ≡ parameter_kept calls p p.typed p.position ∷ []
told_one calls p fit = ap (λ o. as_list (option_map (parameter_kept calls p p.typed) o)) (fits_is p.position fit)

told_more : (calls : ℕ → Bool) (p : TrackedParameter) (ps : List TrackedParameter) → parameter_fits p ≡ true
    → told calls (p ∷ ps) ≡ parameter_kept calls p p.typed p.position ∷ told calls ps
told_more calls p ps fit = ap (λ l. l ++ told calls ps) (told_one calls p fit)

parameters_again : (calls : ℕ → Bool) (ps : List TrackedParameter) → list_all parameter_fits ps ≡ true
    → map parameter_of (told calls ps) ≡ ps
parameters_again calls [] e = refl
parameters_again calls (p ∷ ps) e =
    let parts = and_parts (parameter_fits p) (list_all parameter_fits ps) e in
    ap (map parameter_of) (told_more calls p ps parts.0)
    ∙ (λ i. kept_again calls p p.typed p.position i ∷ parameters_again calls ps parts.1 i)

-- Results

abbrev of_type : CancelType → List CancelResult → List ℕ
of_type t rs = flat_map (result_told t) rs

-- the position, where the type is the one that is wanted
abbrev told_at : CancelType → CancelType → ℕ → List ℕ
told_at wanted t n = if is_same_type wanted t then position_told n else []

plain_first : (m : ℕ) (gives causes : List ℕ) → ((x : ℕ) → Contains causes x → m < x)
    → results_by_position (m ∷ gives) causes ≡ record { position = m; type = plain } ∷ results_by_position gives causes
plain_first m gives [] below = refl
plain_first m gives (c ∷ causes) below =
    let more : 1 + count_below c gives ≡ suc (count_below c gives) = omega arith in
    ap (λ b. by_count (if b then 1 + count_below c gives else 0)) (lt-ltb m c (below c (contains_here c causes)))
    ∙ ap by_count more
  where
    by_count : ℕ → List CancelResult
    by_count k =
        results_of plain (take k (m ∷ gives))
        ++ record { position = c; type = with_cause } ∷ results_by_position (drop k (m ∷ gives)) causes

none_below : (m : ℕ) (gives : List ℕ) → ((x : ℕ) → Contains gives x → m < x) → count_below m gives ≡ 0
none_below m [] above = refl
none_below m (x ∷ gives) above =
    let low = above x (contains_here x gives) in
    ap (λ b. if b then 1 + count_below m gives else 0) (le-ltb x m (omega (arith, low)))

cause_first : (m : ℕ) (gives causes : List ℕ) → ((x : ℕ) → Contains gives x → m < x)
    → results_by_position gives (m ∷ causes)
    ≡ record { position = m; type = with_cause } ∷ results_by_position gives causes
cause_first m gives causes above =
    ap (λ k.
    results_of plain (take k gives)
    ++ record { position = m; type = with_cause } ∷ results_by_position (drop k gives) causes) (none_below m gives above)

results_again : (n : ℕ) (rs : List CancelResult) → RiseFrom place_of_result n rs → list_all result_fits rs ≡ true
    → results_by_position (of_type plain rs) (of_type with_cause rs) ≡ rs
results_again n [] rise e = refl
results_again n (r ∷ rs) rise e = by r.type (fits_is r.position parts.0) (results_again (r.position + 1) rs rise.1 parts.1)
  where
    parts : (result_fits r ≡ true) × (list_all result_fits rs ≡ true)
    parts = and_parts (result_fits r) (list_all result_fits rs) e

    later : (t : CancelType) (x : ℕ) → Contains (of_type t rs) x → r.position < x
    later t x there = let low = told_behind t (r.position + 1) rs x rise.1 there in omega (arith, low)

    by : (t : CancelType) → if_fits r.position ≡ Some r.position
        → results_by_position (of_type plain rs) (of_type with_cause rs) ≡ rs
        → results_by_position (told_at plain t r.position ++ of_type plain rs)
        (told_at with_cause t r.position ++ of_type with_cause rs)
        ≡ record { position = r.position; type = t } ∷ rs
    by plain fit again =
        ap (λ o. results_by_position (as_list o ++ of_type plain rs) (of_type with_cause rs)) fit
        ∙ (plain_first r.position (of_type plain rs) (of_type with_cause rs) (later with_cause)
        ∙ ap (λ l. record { position = r.position; type = plain } ∷ l) again)
    by with_cause fit again =
        ap (λ o. results_by_position (of_type plain rs) (as_list o ++ of_type with_cause rs)) fit
        ∙ (cause_first r.position (of_type plain rs) (of_type with_cause rs) (later plain)
        ∙ ap (λ l. record { position = r.position; type = with_cause } ∷ l) again)

-- What is given unless there is an error

all_unless_again : (us : List Unless) → map unless_again (map unless_kept us) ≡ us
all_unless_again [] = refl
all_unless_again (u ∷ us) = λ i. u ∷ all_unless_again us i

-- All facts

pub parameters_fit : (facts : FunctionFacts) → facts_fit facts ≡ true → list_all parameter_fits facts.parameters ≡ true
parameters_fit facts fit =
    (and_parts (list_all parameter_fits facts.parameters)
    (list_all result_fits facts.gives && (fits facts.results && list_all unless_fits facts.unless)) fit).0

gives_fit : (facts : FunctionFacts) → facts_fit facts ≡ true → list_all result_fits facts.gives ≡ true
gives_fit facts fit =
    (and_parts (list_all result_fits facts.gives) (fits facts.results && list_all unless_fits facts.unless)
    (and_parts (list_all parameter_fits facts.parameters)
    (list_all result_fits facts.gives && (fits facts.results && list_all unless_fits facts.unless)) fit).1).0

pub facts_same : (calls : ℕ → Bool) (name : List ℕ) (facts : FunctionFacts) → facts_fit facts ≡ true → AreRising facts
    → facts_again (function_kept calls name facts) ≡ facts
facts_same calls name facts fit rise =
    λ i. record {
      parameters = parameters_again calls facts.parameters (parameters_fit facts fit) i;
      gives = results_again 0 facts.gives rise.of_results (gives_fit facts fit) i;
      results = facts.results;
      unless = all_unless_again facts.unless i;
    }

-- Calls

both_so : (calls : ℕ → Bool) (k n : ℕ) → (calls n && (k == n)) ≡ true → calls k ≡ true
both_so calls k n e =
    let parts = and_parts (calls n) (k == n) e in
    ap calls ((Decides-eqb k n).0 parts.1) ∙ parts.0

at_place : (calls : ℕ → Bool) (k n : ℕ) → calls k ≡ true → (n == k) ≡ true → (calls n && (k == n)) ≡ true
at_place calls k n known e =
    let same = (Decides-eqb n k).0 e in
    and_from (calls n) (k == n) (ap calls same ∙ known) ((Decides-eqb k n).1 (sym same))

called_one : (calls : ℕ → Bool) (k : ℕ) (p : TrackedParameter) (t : TrackedType)
    → is_called_at k (parameter_kept calls p t p.position) ≡ true
    → calls k ≡ true
called_one calls k p (cancel_type plain) e = both_so calls k p.position e
called_one calls k p (cancel_type with_cause) e = both_so calls k p.position e
called_one calls k p group_type e = absurd (false≢true e)

pub called_again : (calls : ℕ → Bool) (k : ℕ) (ps : List TrackedParameter) → list_all parameter_fits ps ≡ true
    → list_any (is_called_at k) (told calls ps) ≡ true
    → calls k ≡ true
called_again calls k [] e h = absurd (false≢true h)
called_again calls k (p ∷ ps) e h =
    let parts = and_parts (parameter_fits p) (list_all parameter_fits ps) e in
    let more = sym (ap (list_any (is_called_at k)) (told_more calls p ps parts.0)) ∙ h in
    elim (or_cases (is_called_at k (parameter_kept calls p p.typed p.position)) (list_any (is_called_at k) (told calls ps)) more) [
      | inl here ↦ called_one calls k p p.typed here
      | inr later ↦ called_again calls k ps parts.1 later
    ]

taken_one : (calls : ℕ → Bool) (k : ℕ) (p : TrackedParameter) (t : TrackedType) → calls k ≡ true
    → has_kind_at cancel k record { position = p.position; typed = t } ≡ true
    → is_called_at k (parameter_kept calls p t p.position) ≡ true
taken_one calls k p (cancel_type plain) known e = at_place calls k p.position known e
taken_one calls k p (cancel_type with_cause) known e = at_place calls k p.position known e
taken_one calls k p group_type known e = absurd (false≢true e)

pub called_there : (calls : ℕ → Bool) (k : ℕ) (ps : List TrackedParameter) → list_all parameter_fits ps ≡ true
    → calls k ≡ true
    → list_any (has_kind_at cancel k) ps ≡ true
    → list_any (is_called_at k) (told calls ps) ≡ true
called_there calls k [] e known h = absurd (false≢true h)
called_there calls k (p ∷ ps) e known h =
    let parts = and_parts (parameter_fits p) (list_all parameter_fits ps) e in
    let first = is_called_at k (parameter_kept calls p p.typed p.position) in
    let rest = list_any (is_called_at k) (told calls ps) in
    ap (list_any (is_called_at k)) (told_more calls p ps parts.0)
    ∙ elim (or_cases (has_kind_at cancel k p) (list_any (has_kind_at cancel k) ps) h) [
      | inl here ↦ or_left first rest (taken_one calls k p p.typed known here)
      | inr later ↦ or_right first rest (called_there calls k ps parts.1 known later)
    ]

-- What is tracked

abbrev says : List ℕ → List ℕ → List Parameter → Bool
says gives causes params = not ((is_none_of gives && is_none_of causes) && is_none_of params)

says_by_parts : (calls : ℕ → Bool) (name : List ℕ) (facts : FunctionFacts)
    → says_something (entry_told calls name facts)
    ≡ says (of_type plain facts.gives) (of_type with_cause facts.gives) (told calls facts.parameters)
says_by_parts calls name facts = λ i.
    not ((none_or_some (of_type plain facts.gives) i && none_or_some (of_type with_cause facts.gives) i)
    && none_or_some (told calls facts.parameters) i)

told_of_lists : (calls : ℕ → Bool) (ps : List TrackedParameter) (rs : List CancelResult)
    → says (of_type plain rs) (of_type with_cause rs) (told calls ps) ≡ true
    → (has_any ps || has_any rs) ≡ true
told_of_lists calls [] [] e = absurd (false≢true e)
told_of_lists calls (p ∷ ps) rs e = refl
told_of_lists calls [] (r ∷ rs) e = refl

pub tracked_if_told : (calls : ℕ → Bool) (name : List ℕ) (facts : FunctionFacts)
    → says_something (entry_told calls name facts) ≡ true
    → (has_any facts.parameters || has_any facts.gives) ≡ true
tracked_if_told calls name facts e =
    told_of_lists calls facts.parameters facts.gives (sym (says_by_parts calls name facts) ∙ e)

last_so : (a : Bool) → not (a && false) ≡ true
last_so true = refl
last_so false = refl

second_so : (a b : Bool) → not ((a && false) && b) ≡ true
second_so true b = refl
second_so false b = refl

says_of_lists : (calls : ℕ → Bool) (ps : List TrackedParameter) (rs : List CancelResult)
    → list_all parameter_fits ps ≡ true
    → list_all result_fits rs ≡ true
    → (has_any ps || has_any rs) ≡ true
    → says (of_type plain rs) (of_type with_cause rs) (told calls ps) ≡ true
says_of_lists calls [] [] e f h = absurd (false≢true h)
says_of_lists calls (p ∷ ps) rs e f h =
    let parts = and_parts (parameter_fits p) (list_all parameter_fits ps) e in
    ap (says (of_type plain rs) (of_type with_cause rs)) (told_more calls p ps parts.0)
    ∙ last_so (is_none_of (of_type plain rs) && is_none_of (of_type with_cause rs))
says_of_lists calls [] (r ∷ rs) e f h =
    by r.type (fits_is r.position (and_parts (result_fits r) (list_all result_fits rs) f).0)
  where
    by : (t : CancelType) → if_fits r.position ≡ Some r.position
        → says (told_at plain t r.position ++ of_type plain rs) (told_at with_cause t r.position ++ of_type with_cause rs) []
        ≡ true
    by plain fit = ap (λ o. says (as_list o ++ of_type plain rs) (of_type with_cause rs) []) fit
    by with_cause fit =
        ap (λ o. says (of_type plain rs) (as_list o ++ of_type with_cause rs) []) fit
        ∙ second_so (is_none_of (of_type plain rs)) true

pub told_if_tracked : (calls : ℕ → Bool) (name : List ℕ) (facts : FunctionFacts) → facts_fit facts ≡ true
    → (has_any facts.parameters || has_any facts.gives) ≡ true
    → says_something (entry_told calls name facts) ≡ true
told_if_tracked calls name facts fit e =
    says_by_parts calls name facts
    ∙ says_of_lists calls facts.parameters facts.gives (parameters_fit facts fit) (gives_fit facts fit) e

-- Positions below one

pub count_within : (n : ℕ) (ms : List ℕ) → count_below n ms ≤ length ms
count_within n [] = omega arith
count_within n (m ∷ ms) = by (nat_lt m n) (count_within n ms)
  where
    by : (b : Bool) → count_below n ms ≤ length ms → (if b then 1 + count_below n ms else 0) ≤ length (m ∷ ms)
    by true h = omega (arith, h)
    by false h = omega arith

-- a position of a cause, and those of what is given that are below it, were added
pub results_next : (gives causes : List ℕ) (i n : ℕ) → i < length causes → n ≡ get_or causes i n
    → (before after whole : List CancelResult) (k : ℕ) → k ≡ count_below n gives
    → after ≡ (before ++ results_of plain (take k gives)) ++ record { position = n; type = with_cause } ∷ []
    → before ++ results_by_position gives (drop i causes) ≡ whole
    → after ++ results_by_position (drop k gives) (drop (i + 1) causes) ≡ whole
results_next gives causes i n within is before after whole k counted added so_far =
    let rest = results_by_position (drop k gives) (drop (i + 1) causes) in
    let below = results_of plain (take k gives) in
    let one : CancelResult = record { position = n; type = with_cause } in
    ap (λ rs. rs ++ rest) added
    ∙ (append_assoc (before ++ below) (one ∷ []) rest
    ∙ (append_assoc before below (one ∷ rest)
    ∙ (ap (λ m.
    before ++ (results_of plain (take m gives) ++ one ∷ results_by_position (drop m gives) (drop (i + 1) causes))) counted
    ∙ (ap (λ cs. before ++ results_by_position gives cs) (sym (item_next causes i n within is)) ∙ so_far))))
