-- Rules that say where names stand: what is spelled within the first bytes of a text has its names there. One lemma a
-- way to put rules together.
use Rattle.std.proofs.Common.{◌≡◌, ℕ, ◌≤◌, inl, inr, Bool, true, false, List, [], ◌∷◌, ◌++◌, Option, Some, None, Contains, subst, arith}
use Rattle.std.proofs.lemmas.List.Elements.{Contains-append_cases}
use Rattle.lexer.specs.declared.token.Token.{Token}
use Rattle.lexer.specs.declared.token.TokenKind.{TokenKind}
use Rattle.lexer.specs.declared.token.TokenKind.TheVariants.{Semicolon}
use Rattle.tree.specs.declared.span.Span.{Span}
use Rattle.tree.specs.Syntax.{Identifier}
use Rattle.meaning.specs.Mentions.{Mark}
use Rattle.meaning.specs.Cursor.{GoText, Cursor, Rule, ◌⨾◌, ◌⇒◌, nothing, never, one_of, optional, chosen, only_if, token, string_token, not_before, semicolon, TakesSemicolon, Semicolons, no_semicolon, semicolon_and, semicolons, spanning, start_at, first_start, word, identifier, optional_identifier, more_identifiers, identifiers}
use Rattle.meaning.proofs.Membership.{contains_nil, contains_here, contains_there, contains_cases}
use Rattle.meaning_runs.specs.NamePlaces.{StandsWithin}

-- the tokens that are left stand at the offset or before, and so does the end of the last one that was taken
pub record IsInside (n : ℕ) (place : Cursor) : Type 0 where
  pub end : place.end ≤ n
  pub tokens : (t : Token) → Contains place.left t → (t.start ≤ n) × (t.end ≤ n)

-- so it is at the place where the part ends, and the fact holds
pub record Said (n : ℕ) (to : Cursor) (fact : Type 0) : Type 0 where
  pub inside : IsInside n to
  pub holds : fact

-- of what the rule spells there the fact holds
abbrev pub Says : ℕ → Type 0 → Rule → Type 0
Says n fact rule = (from to : Cursor) → IsInside n from → rule from to → Said n to fact

-- nothing is said of it
abbrev pub Keeps : ℕ → Rule → Type 0
Keeps n rule = Says n (Unit {0}) rule

-- all marks have their names there
pub record AllStandWithin (n : ℕ) (ms : List Mark) : Type 0 where
  pub each : (m : Mark) → Contains ms m → StandsWithin n m

pub none_lie : {n : ℕ} → AllStandWithin n []
none_lie = record { each = λ m h. absurd (contains_nil m h) }

pub lie_and : {n : ℕ} (x : Mark) (xs : List Mark) → StandsWithin n x → AllStandWithin n xs → AllStandWithin n (x ∷ xs)
lie_and {n} x xs s h = record {
  each = λ m among. elim (contains_cases x m xs among) [ inl q ↦ subst (StandsWithin n) q s | inr r ↦ h.each m r ];
}

pub one_lies : {n : ℕ} (x : Mark) → StandsWithin n x → AllStandWithin n (x ∷ [])
one_lies x s = lie_and x [] s none_lie

pub both_lie : {n : ℕ} {xs ys : List Mark} → AllStandWithin n xs → AllStandWithin n ys → AllStandWithin n (xs ++ ys)
both_lie {n} {xs} {ys} h k = record {
  each = λ m among. elim (Contains-append_cases xs ys m among) [ inl r ↦ h.each m r | inr r ↦ k.each m r ];
}

-- each of them begins there
abbrev pub EachIn : ℕ → List Identifier → Type 0
EachIn n [] = Unit {0}
EachIn n (name ∷ names) = (name.span.start ≤ n) × EachIn n names

-- Places

pub start_in : (n : ℕ) (from : Cursor) → IsInside n from → start_at from ≤ n
start_in n from k = by from.left k.tokens
  where
    by : (left : List Token) → ((t : Token) → Contains left t → (t.start ≤ n) × (t.end ≤ n)) → first_start from.end left ≤ n
    by [] h = k.end
    by (t ∷ ts) h = (h t (contains_here t ts)).0

-- Rules

module _ {n : ℕ} where
  pub says_nothing : {fact : Type 0} → fact → Says n fact nothing
  says_nothing h from to k s = record { inside = subst (IsInside n) s k; holds = h }

  pub keeps_nothing : Keeps n nothing
  keeps_nothing = says_nothing tt

  pub says_never : {fact : Type 0} → Says n fact never
  says_never from to k s = absurd s

  pub keeps_not_before : (test : TokenKind → Bool) → Keeps n (not_before test)
  keeps_not_before test from to k s = keeps_nothing from to k s.0

  pub keeps_token : (kind : TokenKind) → Keeps n (token kind)
  keeps_token kind from to k t =
      let first : Token = record { kind = kind; start = t.start; end = to.end } in
      let left = subst (λ (l : List Token). (x : Token) → Contains l x → (x.start ≤ n) × (x.end ≤ n)) t.taken k.tokens in
      record {
        inside = record {
          end = (left first (contains_here first to.left)).1;
          tokens = λ x among. left x (contains_there first x to.left among);
        };
        holds = tt;
      }

  module _ {fact more : Type 0} {first second : Rule} where
    pub says_both : Says n fact first → Says n more second → Says n (fact × more) (first ⨾ second)
    says_both h l from to k s =
        let a = h from s.0 k s.1 in
        let b = l s.0 to a.inside s.2 in
        record { inside = b.inside; holds = (a.holds, b.holds) }

    -- what is said of the second part
    pub behind : Says n more first → Says n fact second → Says n fact (first ⨾ second)
    behind h l from to k s = l s.0 to (h from s.0 k s.1).inside s.2

    -- what is said of the first part
    pub ending : Says n fact first → Says n more second → Says n fact (first ⨾ second)
    ending h l from to k s =
        let a = h from s.0 k s.1 in
        record { inside = (l s.0 to a.inside s.2).inside; holds = a.holds }

    -- what is said of the second part may rest on what is said of the first
    pub knowing : Says n fact first → (fact → Says n more second) → Says n more (first ⨾ second)
    knowing h l from to k s =
        let a = h from s.0 k s.1 in
        l a.holds s.0 to a.inside s.2

  -- what is said twice of one part
  pub says_too : {fact more : Type 0} {rule : Rule} → Says n fact rule → Says n more rule → Says n (fact × more) rule
  says_too h l from to k s =
      let a = h from to k s in
      record { inside = a.inside; holds = (a.holds, (l from to k s).holds) }

  module _ {fact : Type 0} {first second : Rule} where
    pub says_one : Says n fact first → Says n fact second → Says n fact (one_of first second)
    says_one h l from to k (inl s) = h from to k s
    says_one h l from to k (inr s) = l from to k s

    pub says_chosen : (b : Bool) → Says n fact first → Says n fact second → Says n fact (chosen b first second)
    says_chosen true h l = h
    says_chosen false h l = l

  module _ {fact : Type 0} {rule : Rule} where
    pub so : {more : Type 0} → (fact → more) → Says n fact rule → Says n more rule
    so f h from to k s =
        let a = h from to k s in
        record { inside = a.inside; holds = f a.holds }

    pub keeps : Says n fact rule → Keeps n rule
    keeps h from to k s = record { inside = (h from to k s).inside; holds = tt }

    pub given : {premise : Type 0} → Says n fact rule → Says n fact (premise ⇒ rule)
    given h from to k s = h from to k s.1

    pub spanned : {span : Span} → Says n fact rule → Says n fact (spanning span rule)
    spanned h from to k s = h from to k s.0

    -- where it is said that the part begins there
    pub spanned_at : {span : Span} → (span.start ≤ n → Says n fact rule) → Says n fact (spanning span rule)
    spanned_at {span} h from to k s =
        let low = start_in n from k in
        let here : span.start ≡ start_at from = s.1 in
        h (omega (arith, low, here)) from to k s.0

  pub keeps_optional : {fact : Type 0} {rule : Rule} → Says n fact rule → Keeps n (optional rule)
  keeps_optional h = says_one keeps_nothing (keeps h)

  pub keeps_only_if : (b : Bool) {fact : Type 0} {rule : Rule} → Says n fact rule → Keeps n (only_if b rule)
  keeps_only_if b h = says_chosen b (keeps h) keeps_nothing

  pub enclosed : (first last : TokenKind) {fact : Type 0} {inner : Rule} → Says n fact inner
      → Says n fact (token first ⨾ inner ⨾ token last)
  enclosed first last h = behind (keeps_token first) (ending h (keeps_token last))

  pub keeps_string : Keeps n string_token
  keeps_string = says_one (keeps_token _) (keeps_token _)

  keeps_takes_semicolon : (from to : Cursor) → IsInside n from → TakesSemicolon from to → IsInside n to
  keeps_takes_semicolon from to k t =
      let first : Token = record { kind = Semicolon; start = t.start; end = t.stop } in
      let left = subst (λ (l : List Token). (x : Token) → Contains l x → (x.start ≤ n) × (x.end ≤ n)) t.taken k.tokens in
      let same = t.stays in
      let end = k.end in
      record { end = omega (arith, same, end); tokens = λ x among. left x (contains_there first x to.left among) }

  pub keeps_semicolon : Keeps n semicolon
  keeps_semicolon from to k (inl t) = record { inside = keeps_takes_semicolon from to k t; holds = tt }
  keeps_semicolon from to k (inr s) = keeps_nothing from to k s.0

  keeps_each_semicolon : {from to : Cursor} → IsInside n from → Semicolons from to → IsInside n to
  keeps_each_semicolon k no_semicolon = k
  keeps_each_semicolon k (semicolon_and t more) = keeps_each_semicolon (keeps_takes_semicolon _ _ k t) more

  pub keeps_semicolons : Keeps n semicolons
  keeps_semicolons from to k s = record { inside = keeps_each_semicolon k s; holds = tt }

  module _ (text : GoText) where
    pub keeps_word : (name : List ℕ) → Keeps n (word text name)
    keeps_word name from to k s = keeps_token _ from to k s.0

    pub says_identifier : (name : Identifier) → Says n (name.span.start ≤ n) (identifier text name)
    says_identifier name = spanned_at λ low. so (λ w. low) (keeps_word name.text)

    pub keeps_optional_identifier : (name : Option Identifier) → Keeps n (optional_identifier text name)
    keeps_optional_identifier None = keeps_nothing
    keeps_optional_identifier (Some name) = keeps (says_identifier name)

    more_names : (names : List Identifier) → Says n (EachIn n names) (more_identifiers text names)
    more_names [] = says_nothing tt
    more_names (name ∷ names) = behind (keeps_token _) (says_both (says_identifier name) (more_names names))

    pub says_identifiers : (names : List Identifier) → Says n (EachIn n names) (identifiers text names)
    says_identifiers [] = says_never
    says_identifiers (name ∷ names) = says_both (says_identifier name) (more_names names)

  -- Marks

  module _ {ms ns : List Mark} {first second : Rule} where
    pub both : Says n (AllStandWithin n ms) first → Says n (AllStandWithin n ns) second → Says n (AllStandWithin n (ms ++ ns)) (first ⨾ second)
    both h l = so (λ w. both_lie w.0 w.1) (says_both h l)

    -- the marks of the second part stand before those of the first
    pub turned : Says n (AllStandWithin n ms) first → Says n (AllStandWithin n ns) second → Says n (AllStandWithin n (ns ++ ms)) (first ⨾ second)
    turned h l = so (λ w. both_lie w.1 w.0) (says_both h l)

  pub moved : {ms ns : List Mark} {rule : Rule} → ms ≡ ns → Says n (AllStandWithin n ms) rule → Says n (AllStandWithin n ns) rule
  moved {rule = rule} e h = subst (λ (l : List Mark). Says n (AllStandWithin n l) rule) e h

  pub no_marks : {rule : Rule} → Keeps n rule → Says n (AllStandWithin n []) rule
  no_marks h = so (λ w. none_lie) h
