-- What `go` statements give: a function that is started gets own variables of the body alone, by one event; and a
-- literal that a statement runs has one event at most.
use Rattle.std.proofs.Common.{◌≡◌, ℕ, ◌≤◌, Bool, true, false, inl, inr, List, [], ◌∷◌, Option, Some, None, Contains, refl, sym, ap, subst, ◌∙◌, arith}
use Rattle.std.specs.Prelude.{◌&&◌, ◌+◌, if◌then◌else◌}
use Rattle.std.proofs.lemmas.Bool.{and_parts}
use Rattle.std.proofs.lemmas.List.Elements.{Contains-append_cases}
use Rattle.tree.specs.declared.edition.Edition.{Edition}
use Rattle.tree.specs.declared.edition.Edition.TheVariants.{First, Second}
use Rattle.tree.specs.Syntax.{Expressions, no_expression, expression_and}
use Rattle.meaning.specs.FunctionFacts.{cancel_type}
use Rattle.meaning.specs.Mentions.{as_bare, Call, Role, elsewhere, as_key, exposed, pointed_to, found_nil, found_error, called, called_in_brackets, argument, returned, left, names_type, new_literal, parameter_pointer, Mention, BodyPlace, Moment, at_return, in_goroutine, is_none_left}
use Rattle.meaning.specs.Tracked.{LocalRole, parameter, receiver, variadic, result, in_block, Local}
use Rattle.meaning.specs.Uses.{Seen, found, tracked_kind, cancel_type_of, is_cancel, is_own, is_under_go, takes, Callee, callee_of, Sent, go_pass, go_literal, Event, defer_literal, go}
use Rattle.meaning.specs.BodyEvents.{is_in_block, is_sent, sent_there, sent_from, function_sent, sent_in_role, sent_events, literal_events, item_variable}
use Rattle.meaning.proofs.Membership.{contains_cases, contains_nil}
use Rattle.meaning_runs.specs.CallSteps.{AreApart}
use Rattle.meaning_runs.proofs.KeptEvents.{IsOwnLocal, is_cancel_kind}
use Rattle.meaning_runs.proofs.OwnVariables.{found_is}

-- the mention is of a function that a `go` statement starts, which gets these
pub record IsSentOut (seen : Seen) (bodies : List BodyPlace) (m : Mention) (e : Event) : Type 0 where
  pub call : Call
  pub sent : List Sent
  pub is_second : seen.known.edition ≡ Second
  pub is_called : m.role ≡ called call
  pub is_under : is_under_go call.place ≡ true
  pub is_event : e ≡ go (go_pass (callee_of seen.known call.callee) sent)
  pub are_own : (x : Sent) → Contains sent x → IsOwnLocal seen bodies x.number
  pub are_apart : AreApart sent

block_role : (r : LocalRole) → is_in_block r ≡ true → r ≡ in_block
block_role (parameter k) e = let bad : false ≡ true = e in cc
block_role receiver e = let bad : false ≡ true = e in cc
block_role variadic e = let bad : false ≡ true = e in cc
block_role result e = let bad : false ≡ true = e in cc
block_role in_block e = refl

pub only_one : {X : Type 0} (x y : X) → Contains (x ∷ []) y → x ≡ y
only_one x y h = elim (contains_cases x y [] h) [ inl same ↦ same | inr none ↦ absurd (contains_nil y none) ]

unless : {X : Type 0} (b : Bool) (xs : List X) (x : X) → Contains (if b then [] else xs) x → Contains xs x
unless true xs x h = absurd (contains_nil x h)
unless false xs x h = h

module _ (seen : Seen) (bodies : List BodyPlace) (c : Call) where
  there_is_own : (k : ℕ) (v : Option ℕ) (f : Option Local) → found seen v ≡ f → (x : Sent)
      → Contains (sent_there seen bodies c k f) x
      → IsOwnLocal seen bodies x.number
  there_is_own k v None e x h = absurd (contains_nil x h)
  there_is_own k v (Some l) e x h = by (is_sent seen bodies c k l) refl h
    where
      by : (b : Bool) → is_sent seen bodies c k l ≡ b
          → Contains (if b then record { number = l.number; position = k } ∷ [] else []) x
          → IsOwnLocal seen bodies x.number
      by false t i = absurd (contains_nil x i)
      by true t i =
          let same : l.number ≡ x.number = ap (λ (y : Sent). y.number) (only_one record { number = l.number; position = k } x i) in
          let one = and_parts (is_own l bodies && is_in_block l.role)
          (is_cancel (tracked_kind seen (Some l)) && takes seen.known c (cancel_type (cancel_type_of seen l)) k) t in
          let two = and_parts (is_own l bodies) (is_in_block l.role) one.0 in
          let three = and_parts (is_cancel (tracked_kind seen (Some l)))
          (takes seen.known c (cancel_type (cancel_type_of seen l)) k) one.1 in
          record {
            local = l;
            is_found = ap (λ n. found seen (Some n)) (sym same) ∙ (found_is seen v l e).0;
            is_it = same;
            is_cancel_variable = is_cancel_kind (tracked_kind seen (Some l)) three.0;
            is_own_there = two.0;
            is_in_block = block_role l.role two.1;
          }

  from_are_own : (k : ℕ) (es : Expressions) (x : Sent) → Contains (sent_from seen bodies c k es) x
      → IsOwnLocal seen bodies x.number
  from_are_own k no_expression x h = absurd (contains_nil x h)
  from_are_own k (expression_and e es) x h =
      let v = item_variable seen.known (as_bare e) in
      let here = sent_there seen bodies c k (found seen v) in
      let last = is_none_left es && c.has_ellipsis in
      elim (Contains-append_cases (if last then [] else here) (sent_from seen bodies c (k + 1) es) x h) [
        | inl i ↦ there_is_own k v (found seen v) refl x (unless last here x i)
        | inr more ↦ from_are_own (k + 1) es x more
      ]

  -- each position once
  there_is_one : (k : ℕ) (f : Option Local) (x y : Sent) → Contains (sent_there seen bodies c k f) x
      → Contains (sent_there seen bodies c k f) y
      → (x.position ≡ k) × (x.number ≡ y.number)
  there_is_one k None x y h i = absurd (contains_nil x h)
  there_is_one k (Some l) x y h i = by (is_sent seen bodies c k l) h i
    where
      by : (b : Bool) → Contains (if b then record { number = l.number; position = k } ∷ [] else []) x
          → Contains (if b then record { number = l.number; position = k } ∷ [] else []) y
          → (x.position ≡ k) × (x.number ≡ y.number)
      by false j m = absurd (contains_nil x j)
      by true j m =
          let one = only_one record { number = l.number; position = k } x j in
          let other_one = only_one record { number = l.number; position = k } y m in
          (ap (λ (z : Sent). z.position) (sym one), ap (λ (z : Sent). z.number) (sym one ∙ other_one))

  from_is_behind : (k : ℕ) (es : Expressions) (x : Sent) → Contains (sent_from seen bodies c k es) x → k ≤ x.position
  from_is_behind k no_expression x h = absurd (contains_nil x h)
  from_is_behind k (expression_and e es) x h =
      let here = sent_there seen bodies c k (found seen (item_variable seen.known (as_bare e))) in
      let last = is_none_left es && c.has_ellipsis in
      elim (Contains-append_cases (if last then [] else here) (sent_from seen bodies c (k + 1) es) x h) [
        | inl i ↦
            let its = unless last here x i in
            let same = (there_is_one k (found seen (item_variable seen.known (as_bare e))) x x its its).0 in
            omega (arith, same)
        | inr more ↦ let behind = from_is_behind (k + 1) es x more in omega (arith, behind)
      ]

  from_are_apart : (k : ℕ) (es : Expressions) → AreApart (sent_from seen bodies c k es)
  from_are_apart k no_expression x y h i e = absurd (contains_nil x h)
  from_are_apart k (expression_and a es) x y h i e =
      let found_there = found seen (item_variable seen.known (as_bare a)) in
      let here = sent_there seen bodies c k found_there in
      let last = is_none_left es && c.has_ellipsis in
      let rest = sent_from seen bodies c (k + 1) es in
      elim (Contains-append_cases (if last then [] else here) rest x h) [
        | inl one ↦
            let its = unless last here x one in
            let at = (there_is_one k found_there x x its its).0 in
            elim (Contains-append_cases (if last then [] else here) rest y i) [
              | inl two ↦ (there_is_one k found_there x y its (unless last here y two)).1
              | inr more ↦ let behind = from_is_behind (k + 1) es y more in absurd (omega (arith, at, behind, e))
            ]
        | inr one ↦ elim (Contains-append_cases (if last then [] else here) rest y i) [
          | inl two ↦
              let its = unless last here y two in
              let at = (there_is_one k found_there y y its its).0 in
              let behind = from_is_behind (k + 1) es x one in
              absurd (omega (arith, at, behind, e))
          | inr more ↦ from_are_apart (k + 1) es x y one more e
        ]
      ]

function_is_sent : (f : Callee) (xs : List Sent) (e : Event) → Contains (function_sent f xs) e → e ≡ go (go_pass f xs)
function_is_sent f [] e h = absurd (contains_nil e h)
function_is_sent f (x ∷ xs) e h = sym (only_one (go (go_pass f (x ∷ xs))) e h)

pub sent_events_are : (seen : Seen) (bodies : List BodyPlace) (m : Mention) (e : Event)
    → Contains (sent_events seen.known.edition seen bodies m) e
    → IsSentOut seen bodies m e
sent_events_are seen bodies m e h = by_edition seen.known.edition refl h
  where
    by_role : seen.known.edition ≡ Second → (r : Role) → m.role ≡ r → Contains (sent_in_role seen bodies r) e
        → IsSentOut seen bodies m e
    by_role second (called c) is i = by (is_under_go c.place) refl i
      where
        by : (b : Bool) → is_under_go c.place ≡ b
            → Contains (if b then function_sent (callee_of seen.known c.callee) (sent_from seen bodies c 0 c.arguments) else []) e
            → IsSentOut seen bodies m e
        by false t j = absurd (contains_nil e j)
        by true t j = record {
          call = c;
          sent = sent_from seen bodies c 0 c.arguments;
          is_second = second;
          is_called = is;
          is_under = t;
          is_event = function_is_sent (callee_of seen.known c.callee) (sent_from seen bodies c 0 c.arguments) e j;
          are_own = from_are_own seen bodies c 0 c.arguments;
          are_apart = from_are_apart seen bodies c 0 c.arguments;
        }
    by_role second elsewhere is i = absurd (contains_nil e i)
    by_role second as_key is i = absurd (contains_nil e i)
    by_role second exposed is i = absurd (contains_nil e i)
    by_role second pointed_to is i = absurd (contains_nil e i)
    by_role second (found_nil nil) is i = absurd (contains_nil e i)
    by_role second (found_error nil row) is i = absurd (contains_nil e i)
    by_role second called_in_brackets is i = absurd (contains_nil e i)
    by_role second (argument k b c) is i = absurd (contains_nil e i)
    by_role second (returned k) is i = absurd (contains_nil e i)
    by_role second (left k row) is i = absurd (contains_nil e i)
    by_role second (names_type row) is i = absurd (contains_nil e i)
    by_role second (new_literal row) is i = absurd (contains_nil e i)
    by_role second parameter_pointer is i = absurd (contains_nil e i)

    by_edition : (edition : Edition) → seen.known.edition ≡ edition → Contains (sent_events edition seen bodies m) e
        → IsSentOut seen bodies m e
    by_edition First first i = absurd (contains_nil e i)
    by_edition Second second i = by_role second m.role refl i

-- the event of a literal that runs then
abbrev pub run_event : Moment → ℕ → Event
run_event at_return at = defer_literal at
run_event in_goroutine at = go (go_literal at)

pub literal_events_are : (edition : Edition) (moment : Moment) (at : ℕ) (e : Event)
    → Contains (literal_events edition moment at) e
    → e ≡ run_event moment at
literal_events_are edition at_return at e h = sym (only_one (defer_literal at) e h)
literal_events_are First in_goroutine at e h = absurd (contains_nil e h)
literal_events_are Second in_goroutine at e h = sym (only_one (go (go_literal at)) e h)

-- what holds of both events that a literal may have holds of those that it has
pub literal_event_fits : (P : Event → Type 0) (edition : Edition) (moment : Moment) (at : ℕ)
    → P (defer_literal at)
    → P (go (go_literal at))
    → (e : Event)
    → Contains (literal_events edition moment at) e
    → P e
literal_event_fits P edition at_return at d g e h = subst P (only_one (defer_literal at) e h) d
literal_event_fits P First in_goroutine at d g e h = absurd (contains_nil e h)
literal_event_fits P Second in_goroutine at d g e h = subst P (only_one (go (go_literal at)) e h) g
