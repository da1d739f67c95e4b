-- The variables of each body, by the sightings of each local.
use Rattle.std.proofs.Common.{◌≡◌, ℕ, ◌+◌, zero, suc, nat_eq, Bool, true, false, true≢false, not, ◌&&◌, ◌||◌, if◌then◌else◌, List, [], ◌∷◌, ◌++◌, drop, Option, Some, None, is_some, refl, sym, ap, ◌∙◌, append_assoc, arith}
use Rattle.std.specs.Prelude.{◌==◌, slice_get}
use Rattle.std.specs.List.{list_any, AllByRecursion, IsDistinct}
use Rattle.std.specs.Map.{lookup, keys_of}
use Rattle.std.proofs.lemmas.List.{append-nil}
use Rattle.std.proofs.lemmas.Bool.Decides.{Decides-eqb}
use Rattle.indexmap.specs.IndexMap.{IndexMap, get}
use Rattle.lists.specs.declared.Lists.{Lists}
use Rattle.events.specs.ToldViews.{if_there}
use Rattle.events.proofs.Grown.{grows}
use Rattle.tracked.proofs.Numbers.{either_way}
use Rattle.meaning.specs.FunctionFacts.{VariableKind}
use Rattle.meaning.specs.Tracked.{Local, find_local}
use Rattle.meaning.specs.Uses.{Seen, found, tracked_kind, kind_of, is_tracked, may_be_tracked}
use Rattle.meaning.specs.BodyEvents.{captured, Variable, role_in_own, first_in, is_captured_there, variable_there, variable_found}
use Rattle.events.specs.declared.sightings.Sighting.{Sighting}
use Rattle.events.specs.declared.variable.Variable.{Variable as KeptVariable}
use Rattle.events.specs.VariableViews.{tracked_local, sightings_of, merged_of, Merges, first_of, own_variable, captured_variable, captured_in, captured_entry, captured_among, captured_by, own_in, variables_in, AddsVariables, AddsOwn, AddsCaptured, AddsLocal}
use Rattle.events.proofs.Sighted.{Tells, is_captured_of, sightings_tell}

-- One local in one body

module _ (s : Seen) (l : Local) (k : VariableKind) (ss : List Sighting) (body : ℕ) (tells : Tells s l ss body) where
  abbrev there : Bool → Bool → Option ℕ → List Variable
  there is_own is_captured first =
      if is_own || is_captured
      then
      record {
        number = l.number;
        name = l.name;
        kind = k;
        role = if is_own then role_in_own l.role else captured;
        first = first_in (if is_own then role_in_own l.role else captured) l first;
      }
      ∷ []
      else []

  abbrev captured_where : Bool → Option Sighting → List Variable
  captured_where is_own None = []
  captured_where is_own (Some x) = if_there (x.is_captured && not is_own) (captured_variable l k x.first ∷ [])

  same_captured : (o : Option Sighting) → captured_by l k body o ≡ captured_where (l.body == body) o
  same_captured None = refl
  same_captured (Some x) = refl

  none_captured : (o : Option Sighting) → captured_where true o ≡ []
  none_captured None = refl
  none_captured (Some x) = by x.is_captured
    where
      by : (c : Bool) → if_there (c && false) (captured_variable l k x.first ∷ []) ≡ []
      by true = refl
      by false = refl

  if_captured : (x : Sighting) (c : Bool)
      → if_there (c && true) (captured_variable l k x.first ∷ []) ≡ there false c (Some x.first)
  if_captured x true = refl
  if_captured x false = refl

  captured_else : (o : Option Sighting) → captured_where false o ≡ there false (is_captured_of o) (first_of o)
  captured_else None = refl
  captured_else (Some x) = if_captured x x.is_captured

  by_body : (is_own : Bool) → (is_own ≡ true → l.body ≡ body)
      → if_there is_own (own_variable l k (merged_of l.body ss) ∷ []) ++ captured_where is_own (merged_of body ss)
      ≡ there is_own (is_captured_of (merged_of body ss)) (first_of (merged_of body ss))
  by_body true same =
      ap (λ vs. own_variable l k (merged_of l.body ss) ∷ vs) (none_captured (merged_of body ss))
      ∙ ap (λ b. own_variable l k (merged_of b ss) ∷ []) (same refl)
  by_body false same = captured_else (merged_of body ss)

  pub in_one_body : tracked_kind s (Some l) ≡ Some k
      → own_in l k body (merged_of l.body ss) ++ captured_by l k body (merged_of body ss) ≡ variable_found s body (Some l)
  in_one_body kind =
      let any : Bool = list_any (λ p. is_captured_there s.known body l p.bodies p.mark) s.marks in
      ap (λ vs. own_in l k body (merged_of l.body ss) ++ vs) (same_captured (merged_of body ss))
      ∙ by_body (l.body == body) (Decides-eqb l.body body).0
      ∙ ap (λ c. there (l.body == body) c (first_of (merged_of body ss))) tells.captured
      ∙ ap (there (l.body == body) any) tells.first
      ∙ sym
      (ap (λ o. if is_some o && ((l.body == body) || any) then variable_there s body l o else []) kind)

-- What is tracked

find_local-number : (ls : List Local) (n : ℕ) (l : Local) → find_local ls n ≡ Some l → l.number ≡ n
find_local-number [] n l e = cc
find_local-number (x ∷ xs) n l e =
    first (x.number == n) (Decides-eqb x.number n).0 (find_local-number xs n l) e
  where
    first : (t : Bool) → (t ≡ true → x.number ≡ n) → (find_local xs n ≡ Some l → l.number ≡ n)
        → (if t then Some x else find_local xs n) ≡ Some l → l.number ≡ n
    first true same rest is = let same_local : x ≡ l = cc in ap (λ y. y.number) (sym same_local) ∙ same refl
    first false same rest is = rest is

-- the local of a number is tracked as its kind
module _ (s : Seen) (n : ℕ) (l : Local) where
  pub is_found : tracked_local s (Some n) ≡ Some l → found s (Some n) ≡ Some l
  is_found h = by (is_tracked s (Some n)) h
    where
      by : (t : Bool) → (if t then found s (Some n) else None) ≡ Some l → found s (Some n) ≡ Some l
      by true e = e
      by false e = cc

  has_kind : (t : Bool) (k o : Option VariableKind) → is_some (if t then o else None) ≡ true → k ≡ o
      → (if t then o else None) ≡ k
  has_kind true k o e same = sym same
  has_kind false k o e same = absurd (true≢false (sym e))

  pub is_tracked_as : (k : VariableKind) → tracked_local s (Some n) ≡ Some l → Some k ≡ kind_of s (found s (Some n))
      → tracked_kind s (Some l) ≡ Some k
  is_tracked_as k h is =
      has_kind (may_be_tracked l.role) (Some k) (kind_of s (Some l))
      (sym (ap (λ o. is_some (tracked_kind s o)) (is_found h)) ∙ tracked (is_tracked s (Some n)) refl h)
      (is ∙ ap (kind_of s) (is_found h))
    where
      tracked : (t : Bool) → is_tracked s (Some n) ≡ t → (if t then found s (Some n) else None) ≡ Some l
          → is_tracked s (Some n) ≡ true
      tracked true same e = same
      tracked false same e = cc

  pub variables_found : (k : VariableKind) → tracked_local s (Some n) ≡ Some l → Some k ≡ kind_of s (found s (Some n))
      → (before after : Lists KeptVariable) (ss : List Sighting) → AddsLocal l k ss before after
      → ss ≡ sightings_of s n s.marks
      → AddsVariables before after (λ body. variable_found s body (found s (Some n)))
  variables_found k h is before after ss adds same = λ body.
      adds body
      ∙ ap (λ vs. variables_in before body ++ vs)
      (ap (λ x. own_in l k body (merged_of l.body x) ++ captured_by l k body (merged_of body x)) same
      ∙ in_one_body s l k (sightings_of s n s.marks) body
      (sightings_tell s n l h (find_local-number s.locals n l (is_found h)) body) (is_tracked_as k h is)
      ∙ ap (variable_found s body) (sym (is_found h)))

-- The map of the bodies

module _ (l : Local) (k : VariableKind) where
  none_among : (x : ℕ) (es : List (ℕ × Sighting)) → AllByRecursion (λ y. nat_eq x y ≡ false) (keys_of es)
      → captured_among l k x es ≡ []
  none_among x [] h = refl
  none_among x (e ∷ es) h = one (nat_eq e.0 x) (either_way e.0 x ∙ h.0) (none_among x es h.1)
    where
      one : (t : Bool) → t ≡ false → captured_among l k x es ≡ []
          → if_there t (captured_in l k e.0 e.1) ++ captured_among l k x es ≡ []
      one true is rest = absurd (true≢false is)
      one false is rest = rest

  among_distinct : (body : ℕ) (es : List (ℕ × Sighting)) → IsDistinct nat_eq (keys_of es)
      → captured_among l k body es ≡ captured_by l k body (lookup (nat_eq body) es)
  unfolding IsDistinct
  among_distinct body [] h = refl
  among_distinct body (e ∷ es) h =
      one (nat_eq e.0 body) (nat_eq body e.0) (either_way e.0 body) (Decides-eqb e.0 body).0 (among_distinct body es h.1)
    where
      one : (t u : Bool) → t ≡ u → (t ≡ true → e.0 ≡ body)
          → captured_among l k body es ≡ captured_by l k body (lookup (nat_eq body) es)
          → if_there t (captured_in l k e.0 e.1) ++ captured_among l k body es
          ≡ captured_by l k body (if u then Some e.1 else lookup (nat_eq body) es)
      one true true is same rest =
          ap (λ vs. captured_in l k e.0 e.1 ++ vs)
          (ap (λ b. captured_among l k b es) (sym (same refl)) ∙ none_among e.0 es h.0)
          ∙ append-nil (captured_in l k e.0 e.1) ∙ ap (λ b. captured_in l k b e.1) (same refl)
      one false false is same rest = rest
      one true false is same rest = absurd (true≢false is)
      one false true is same rest = absurd (true≢false (sym is))

  pub adds_local : {S : Type 0} (bodies : IndexMap ℕ Sighting S) (ss : List Sighting) → Merges bodies ss
      → (a b c : Lists KeptVariable) → AddsOwn l k (get nat_eq bodies l.body) a b → AddsCaptured l k bodies.entries b c
      → AddsLocal l k ss a c
  adds_local bodies ss merges a b c own others = λ body.
      others body
      ∙ ap (λ vs. vs ++ captured_among l k body bodies.entries) (own body)
      ∙ append_assoc (variables_in a body) (own_in l k body (get nat_eq bodies l.body)) (captured_among l k body bodies.entries)
      ∙ ap (λ o. variables_in a body ++ (own_in l k body o ++ captured_among l k body bodies.entries)) (merges.merged l.body)
      ∙ ap (λ vs. variables_in a body ++ (own_in l k body (merged_of l.body ss) ++ vs))
      (among_distinct body bodies.entries merges.unique ∙ ap (captured_by l k body) (merges.merged body))

-- one entry, and then the rest
module _ (l : Local) (k : VariableKind) (body : ℕ) where
  entry_there : (es : List (ℕ × Sighting)) (i : ℕ)
      → captured_among l k body (drop i es) ≡ captured_entry l k body (slice_get es i) ++ captured_among l k body (drop (suc i) es)
  entry_there [] zero = refl
  entry_there [] (suc i) = refl
  entry_there (e ∷ es) zero = refl
  entry_there (e ∷ es) (suc i) = entry_there es i

  pub entry_next : (es : List (ℕ × Sighting)) (i : ℕ) (before after whole : List Variable)
      → after ≡ before ++ captured_entry l k body (slice_get es i)
      → before ++ captured_among l k body (drop i es) ≡ whole
      → after ++ captured_among l k body (drop (i + 1) es) ≡ whole
  entry_next es i before after whole adds so_far =
      let same : suc i ≡ i + 1 = omega arith in
      grows before after (captured_entry l k body (slice_get es i)) (captured_among l k body (drop i es))
      (captured_among l k body (drop (i + 1) es)) whole adds
      (entry_there es i ∙ ap (λ j. captured_entry l k body (slice_get es i) ++ captured_among l k body (drop j es)) same) so_far
