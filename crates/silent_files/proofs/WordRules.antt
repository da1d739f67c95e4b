-- Rules that say which tokens names are: what is spelled by tokens of a text has the words of these as its names. One
-- lemma a way to put rules together.
use Rattle.std.proofs.Common.{◌≡◌, ℕ, inl, inr, Bool, true, false, List, [], ◌∷◌, ◌++◌, Option, Some, None, Contains, refl, sym, ap, ◌∙◌, subst}
use Rattle.std.specs.Prelude.{slice_range}
use Rattle.std.proofs.lemmas.List.Elements.{Contains-append_cases}
use Rattle.lexer.specs.declared.token.Token.{Token}
use Rattle.lexer.specs.declared.token.TokenKind.{TokenKind}
use Rattle.lexer.specs.declared.token.TokenKind.TheVariants.{Identifier as identifier_kind, Semicolon}
use Rattle.tree.specs.declared.edition.Edition.{Edition}
use Rattle.tree.specs.declared.span.Span.{Span}
use Rattle.tree.specs.Syntax.{Identifier}
use Rattle.meaning.specs.Mentions.{Mark}
use Rattle.meaning.specs.Cursor.{read_in, Cursor, Rule, ◌⨾◌, ◌⇒◌, nothing, never, one_of, optional, chosen, only_if, token, string_token, not_before, semicolon, TakesSemicolon, Semicolons, no_semicolon, semicolon_and, semicolons, spanning, start_at, first_start, word, identifier, optional_identifier, more_identifiers, identifiers}
use Rattle.meaning.proofs.Membership.{contains_nil, contains_here, contains_there, contains_cases}
use Rattle.silent_files.specs.NamedWords.{Lexed, IsWord, IsBound, HasWords}

-- the tokens that are left are of the text, and the last one that was taken ends at one of its bounds
pub record IsInside (source : Lexed) (place : Cursor) : Type 0 where
  pub end : IsBound source place.end
  pub tokens : (t : Token) → Contains place.left t → Contains source.tokens t

-- so it is at the place where the part ends, and the fact holds
pub record Said (source : Lexed) (to : Cursor) (fact : Type 0) : Type 0 where
  pub inside : IsInside source to
  pub holds : fact

-- of what the rule spells there the fact holds
abbrev pub Says : Lexed → Type 0 → Rule → Type 0
Says source fact rule = (from to : Cursor) → IsInside source from → rule from to → Said source to fact

-- nothing is said of it
abbrev pub Keeps : Lexed → Rule → Type 0
Keeps source rule = Says source (Unit {0}) rule

-- what each of the marks names are words
pub record AllHaveWords (source : Lexed) (ms : List Mark) : Type 0 where
  pub each : (m : Mark) → Contains ms m → HasWords source m

pub none_left : {source : Lexed} → AllHaveWords source []
none_left = record { each = λ m h. absurd (contains_nil m h) }

pub one_more : {source : Lexed} (x : Mark) (xs : List Mark) → HasWords source x → AllHaveWords source xs
    → AllHaveWords source (x ∷ xs)
one_more {source} x xs s h = record {
  each = λ m among. elim (contains_cases x m xs among) [ inl q ↦ subst (HasWords source) q s | inr r ↦ h.each m r ];
}

pub one_has : {source : Lexed} (x : Mark) → HasWords source x → AllHaveWords source (x ∷ [])
one_has x s = one_more x [] s none_left

pub both_have : {source : Lexed} {xs ys : List Mark} → AllHaveWords source xs → AllHaveWords source ys
    → AllHaveWords source (xs ++ ys)
both_have {source} {xs} {ys} h k = record {
  each = λ m among. elim (Contains-append_cases xs ys m among) [ inl r ↦ h.each m r | inr r ↦ k.each m r ];
}

-- the identifier is a word
abbrev pub IsName : Lexed → Identifier → Type 0
IsName source name = IsWord source name.text name.span.start

-- each of them is one
abbrev pub AreNames : Lexed → List Identifier → Type 0
AreNames source [] = Unit {0}
AreNames source (name ∷ names) = IsName source name × AreNames source names

-- Places

pub start_in : (source : Lexed) (from : Cursor) → IsInside source from → IsBound source (start_at from)
start_in source from k = by from.left k.tokens
  where
    by : (left : List Token) → ((t : Token) → Contains left t → Contains source.tokens t)
        → IsBound source (first_start from.end left)
    by [] h = k.end
    by (t ∷ ts) h = inr (t, h t (contains_here t ts), inl refl)

-- Rules

module _ {source : Lexed} where
  pub says_nothing : {fact : Type 0} → fact → Says source fact nothing
  says_nothing h from to k s = record { inside = subst (IsInside source) s k; holds = h }

  pub keeps_nothing : Keeps source nothing
  keeps_nothing = says_nothing tt

  pub says_never : {fact : Type 0} → Says source fact never
  says_never from to k s = absurd s

  pub keeps_not_before : (test : TokenKind → Bool) → Keeps source (not_before test)
  keeps_not_before test from to k s = keeps_nothing from to k s.0

  -- the tokens behind the first one
  behind_first : (first : Token) (from to : Cursor) → from.left ≡ first ∷ to.left → IsInside source from
      → (t : Token) → Contains (first ∷ to.left) t → Contains source.tokens t
  behind_first first from to taken k =
      subst (λ (left : List Token). (t : Token) → Contains left t → Contains source.tokens t) taken k.tokens

  pub keeps_token : (kind : TokenKind) → Keeps source (token kind)
  keeps_token kind from to k t =
      let first : Token = record { kind = kind; start = t.start; end = to.end } in
      let left = behind_first first from to t.taken k in
      record {
        inside = record {
          end = inr (first, left first (contains_here first to.left), inr refl);
          tokens = λ x among. left x (contains_there first x to.left among);
        };
        holds = tt;
      }

  module _ {fact more : Type 0} {first second : Rule} where
    pub says_both : Says source fact first → Says source more second → Says source (fact × more) (first ⨾ second)
    says_both h l from to k s =
        let a = h from s.0 k s.1 in
        let b = l s.0 to a.inside s.2 in
        record { inside = b.inside; holds = (a.holds, b.holds) }

    -- what is said of the second part
    pub behind : Says source more first → Says source fact second → Says source fact (first ⨾ second)
    behind h l from to k s = l s.0 to (h from s.0 k s.1).inside s.2

    -- what is said of the first part
    pub ending : Says source fact first → Says source more second → Says source fact (first ⨾ second)
    ending h l from to k s =
        let a = h from s.0 k s.1 in
        record { inside = (l s.0 to a.inside s.2).inside; holds = a.holds }

    -- what is said of the second part may rest on what is said of the first
    pub knowing : Says source fact first → (fact → Says source more second) → Says source more (first ⨾ second)
    knowing h l from to k s =
        let a = h from s.0 k s.1 in
        l a.holds s.0 to a.inside s.2

  module _ {fact : Type 0} {first second : Rule} where
    pub says_one : Says source fact first → Says source fact second → Says source fact (one_of first second)
    says_one h l from to k (inl s) = h from to k s
    says_one h l from to k (inr s) = l from to k s

    pub says_chosen : (b : Bool) → Says source fact first → Says source fact second
        → Says source fact (chosen b first second)
    says_chosen true h l = h
    says_chosen false h l = l

  module _ {fact : Type 0} {rule : Rule} where
    pub so : {more : Type 0} → (fact → more) → Says source fact rule → Says source more rule
    so f h from to k s =
        let a = h from to k s in
        record { inside = a.inside; holds = f a.holds }

    pub keeps : Says source fact rule → Keeps source rule
    keeps h from to k s = record { inside = (h from to k s).inside; holds = tt }

    pub given : {premise : Type 0} → Says source fact rule → Says source fact (premise ⇒ rule)
    given h from to k s = h from to k s.1

    pub spanned : {span : Span} → Says source fact rule → Says source fact (spanning span rule)
    spanned h from to k s = h from to k s.0

    -- where it is said that the part begins there
    pub spanned_at : {span : Span} → (IsBound source span.start → Says source fact rule)
        → Says source fact (spanning span rule)
    spanned_at {span} h from to k s = h (subst (IsBound source) (sym s.1) (start_in source from k)) from to k s.0

  pub keeps_optional : {fact : Type 0} {rule : Rule} → Says source fact rule → Keeps source (optional rule)
  keeps_optional h = says_one keeps_nothing (keeps h)

  pub keeps_only_if : (b : Bool) {fact : Type 0} {rule : Rule} → Says source fact rule → Keeps source (only_if b rule)
  keeps_only_if b h = says_chosen b (keeps h) keeps_nothing

  pub enclosed : (first last : TokenKind) {fact : Type 0} {inner : Rule} → Says source fact inner
      → Says source fact (token first ⨾ inner ⨾ token last)
  enclosed first last h = behind (keeps_token first) (ending h (keeps_token last))

  pub keeps_string : Keeps source string_token
  keeps_string = says_one (keeps_token _) (keeps_token _)

  keeps_takes_semicolon : (from to : Cursor) → IsInside source from → TakesSemicolon from to → IsInside source to
  keeps_takes_semicolon from to k t =
      let first : Token = record { kind = Semicolon; start = t.start; end = t.stop } in
      let left = behind_first first from to t.taken k in
      record {
        end = subst (IsBound source) (sym t.stays) k.end;
        tokens = λ x among. left x (contains_there first x to.left among);
      }

  pub keeps_semicolon : Keeps source semicolon
  keeps_semicolon from to k (inl t) = record { inside = keeps_takes_semicolon from to k t; holds = tt }
  keeps_semicolon from to k (inr s) = keeps_nothing from to k s.0

  keeps_each_semicolon : {from to : Cursor} → IsInside source from → Semicolons from to → IsInside source to
  keeps_each_semicolon k no_semicolon = k
  keeps_each_semicolon k (semicolon_and t more) = keeps_each_semicolon (keeps_takes_semicolon _ _ k t) more

  pub keeps_semicolons : Keeps source semicolons
  keeps_semicolons from to k s = record { inside = keeps_each_semicolon k s; holds = tt }

  -- Words

  says_word : (edition : Edition) (name : List ℕ) (from to : Cursor) → IsInside source from
      → word (read_in edition source.text) name from to
      → Said source to (IsWord source name (start_at from))
  says_word edition name from to k s =
      let t = s.0 in
      let first : Token = record { kind = identifier_kind; start = t.start; end = to.end } in
      let starts : start_at from ≡ t.start = ap (first_start from.end) t.taken in
      record {
        inside = (keeps_token _ from to k t).inside;
        holds = record {
          token = first;
          among = behind_first first from to t.taken k first (contains_here first to.left);
          kind = refl;
          starts = starts;
          spelled = s.1 ∙ ap (λ (at : ℕ). slice_range source.text at to.end) starts;
        };
      }

  -- a name with what ends it
  pub says_name : (edition : Edition) (name : List ℕ) (span : Span) {end : Rule} → Keeps source end
      → Says source (IsWord source name span.start) (spanning span (word (read_in edition source.text) name ⨾ end))
  says_name edition name span h from to k s =
      let a = says_word edition name from s.0.0 k s.0.1 in
      record {
        inside = (h s.0.0 to a.inside s.0.2).inside;
        holds = subst (IsWord source name) (sym s.1) a.holds;
      }

  pub says_identifier : (edition : Edition) (name : Identifier)
      → Says source (IsName source name) (identifier (read_in edition source.text) name)
  says_identifier edition name from to k s =
      let a = says_word edition name.text from to k s.0 in
      record { inside = a.inside; holds = subst (IsWord source name.text) (sym s.1) a.holds }

  pub keeps_optional_identifier : (edition : Edition) (name : Option Identifier)
      → Keeps source (optional_identifier (read_in edition source.text) name)
  keeps_optional_identifier edition None = keeps_nothing
  keeps_optional_identifier edition (Some name) = keeps (says_identifier edition name)

  more_names : (edition : Edition) (names : List Identifier)
      → Says source (AreNames source names) (more_identifiers (read_in edition source.text) names)
  more_names edition [] = says_nothing tt
  more_names edition (name ∷ names) =
      behind (keeps_token _) (says_both (says_identifier edition name) (more_names edition names))

  pub says_identifiers : (edition : Edition) (names : List Identifier)
      → Says source (AreNames source names) (identifiers (read_in edition source.text) names)
  says_identifiers edition [] = says_never
  says_identifiers edition (name ∷ names) = says_both (says_identifier edition name) (more_names edition names)

  -- Marks

  module _ {ms ns : List Mark} {first second : Rule} where
    pub both : Says source (AllHaveWords source ms) first → Says source (AllHaveWords source ns) second
        → Says source (AllHaveWords source (ms ++ ns)) (first ⨾ second)
    both h l = so (λ w. both_have w.0 w.1) (says_both h l)

  pub moved : {ms ns : List Mark} {rule : Rule} → ms ≡ ns → Says source (AllHaveWords source ms) rule
      → Says source (AllHaveWords source ns) rule
  moved {rule = rule} e h = subst (λ (l : List Mark). Says source (AllHaveWords source l) rule) e h

  pub no_marks : {rule : Rule} → Keeps source rule → Says source (AllHaveWords source []) rule
  no_marks h = so (λ w. none_left) h
