-- Rules that give marks: what is spelled between two places has its bodies and sites between them. One lemma a way to
-- put rules together.
use Rattle.std.specs.Prelude.{◌-◌}
use Rattle.std.proofs.Common.{◌≡◌, ℕ, ◌+◌, ◌<◌, ◌≤◌, inl, inr, Bool, true, false, List, [], ◌∷◌, ◌++◌, Option, Some, None, refl, sym, ap, ◌∙◌, subst, arith, append-nil, true≢false}
use Rattle.lexer.specs.declared.token.Token.{Token}
use Rattle.lexer.specs.declared.token.TokenKind.{TokenKind}
use Rattle.lexer.specs.declared.token.TokenKind.TheVariants.{FuncKeyword, ReturnKeyword, LeftBrace, RightBrace}
use Rattle.tree.specs.declared.span.Span.{Span}
use Rattle.tree.specs.Syntax.{Identifier, Expressions, StatementForm}
use Rattle.meaning.specs.Mentions.{BodyPlace, LiteralUse, other_use, deferred_call, started_by, deferral, Mark, mentions, runs_literal, returns, opens, closes, in_body, of_fields, Moment, at_return, in_goroutine, call_under_go}
use Rattle.meaning.specs.Cursor.{GoText, Cursor, Rule, ◌⨾◌, ◌⇒◌, nothing, never, one_of, optional, chosen, token, string_token, not_before, semicolon, TakesSemicolon, Semicolons, no_semicolon, semicolon_and, spanning, start_at, first_start, identifier, optional_identifier, more_identifiers, identifiers}
use Rattle.meaning.specs.Grammar.{statement_start}
use Rattle.meaning.proofs.Membership.{contains_nil, contains_here, contains_there}
use Rattle.meaning_runs.proofs.AskedSites.{CodeSite, asked_at, unasked_at, asked_body}
use Rattle.meaning_runs.proofs.BodyOffsetsWithin.{Within, IsPlain, no_marks, plain_and, wider, longer, both_within, turned_within, body_within}
use Rattle.meaning_runs.proofs.BodyOffsetsTokens.{is_solid, Ordered, first_ordered, none_ordered, from_first, AreUnder}
use Rattle.meaning_runs.proofs.SitesWithin.{Around, no_site, from_site, behind_site, Fits, still_fits, IsOwn, AreOwn, Sited, own_sited, wider_sited, longer_sited, both_sited, turned_sited, own_before, own_behind, foreign_sited, past_sited, unasked_sited, settled_sited, noted_sited, lone_sited, return_sited, body_sited, IsAskedMention, AreAskedMentions, mentions_before, IsMention, AreMentions, mention_is_own, mentions_are_own}

-- the next token stands where the tokens may begin that are left, or behind
abbrev pub IsNextBehind : Cursor → Type 0
IsNextBehind place = (low : ℕ) → Ordered low place.left → low ≤ start_at place

-- where no token ends behind an offset, neither does the part, and none of the tokens behind it
abbrev pub IsBounded : ℕ → ℕ → Cursor → Cursor → Type 0
IsBounded lo hi from to = (n : ℕ) → lo ≤ n → AreUnder n from.left → (hi ≤ n) × AreUnder n to.left

-- From an offset on up to a place stand these marks, with these sites that are asked for. Where the part takes bytes,
-- its first token begins before its end.
pub record Given (takes : Bool) (own : Around) (lo : ℕ) (from to : Cursor) (asks : List CodeSite)
    (ms : List Mark) : Type 0 where
  pub hi : ℕ
  pub left : Ordered hi to.left
  pub within : Within lo hi ms
  pub sited : Sited own lo hi asks ms
  pub has_bytes : takes ≡ true → IsNextBehind from × (start_at from < hi)
  pub bounded : IsBounded lo hi from to

-- what the rule spells is given so, wherever it stands
abbrev pub Gives : Bool → Around → List CodeSite → List Mark → Rule → Type 0
Gives takes own asks ms rule = (from to : Cursor) (lo : ℕ)
    → Fits own lo
    → Ordered lo from.left
    → rule from to
    → Given takes own lo from to asks ms

module _ {takes more : Bool} {own : Around} where
  pub both : {qs rs : List CodeSite} {ms ns : List Mark} {first second : Rule}
      → Gives takes own qs ms first
      → Gives more own rs ns second
      → Gives takes own (qs ++ rs) (ms ++ ns) (first ⨾ second)
  both {ms = ms} {ns = ns} h k from to lo f o s =
      let a = h from s.0 lo f o s.1 in
      let b = k s.0 to a.hi (still_fits own lo a.hi a.within.goes_up f) a.left s.2 in
      record {
        hi = b.hi;
        left = b.left;
        within = both_within a.within b.within;
        sited = both_sited a.within.goes_up b.within.goes_up a.sited b.sited;
        has_bytes = λ e. let x = a.has_bytes e in (x.0, omega (arith, x.1, b.within.goes_up));
        bounded = λ n l u. let x = a.bounded n l u in b.bounded n x.0 x.1;
      }

  -- the marks of the second part stand before those of the first
  pub turned : {qs rs : List CodeSite} {ms ns : List Mark} {first second : Rule}
      → Gives takes own qs ms first
      → Gives more own rs ns second
      → Gives takes own (rs ++ qs) (ns ++ ms) (first ⨾ second)
  turned {ms = ms} {ns = ns} h k from to lo f o s =
      let a = h from s.0 lo f o s.1 in
      let b = k s.0 to a.hi (still_fits own lo a.hi a.within.goes_up f) a.left s.2 in
      record {
        hi = b.hi;
        left = b.left;
        within = turned_within a.within b.within;
        sited = turned_sited a.within.goes_up b.within.goes_up a.sited b.sited;
        has_bytes = λ e. let x = a.has_bytes e in (x.0, omega (arith, x.1, b.within.goes_up));
        bounded = λ n l u. let x = a.bounded n l u in b.bounded n x.0 x.1;
      }

  -- the first part gives nothing
  pub behind : {asks : List CodeSite} {ms : List Mark} {first second : Rule}
      → Gives takes own [] [] first
      → Gives more own asks ms second
      → Gives takes own asks ms (first ⨾ second)
  behind h k from to lo f o s =
      let a = h from s.0 lo f o s.1 in
      let b = k s.0 to a.hi (still_fits own lo a.hi a.within.goes_up f) a.left s.2 in
      record {
        hi = b.hi;
        left = b.left;
        within = longer a.within.goes_up b.within;
        sited = longer_sited a.within.goes_up b.sited;
        has_bytes = λ e. let x = a.has_bytes e in (x.0, omega (arith, x.1, b.within.goes_up));
        bounded = λ n l u. let x = a.bounded n l u in b.bounded n x.0 x.1;
      }

  -- the last part gives nothing
  pub ending : {asks : List CodeSite} {ms : List Mark} {first second : Rule}
      → Gives takes own asks ms first
      → Gives more own [] [] second
      → Gives takes own asks ms (first ⨾ second)
  ending h k from to lo f o s =
      let a = h from s.0 lo f o s.1 in
      let b = k s.0 to a.hi (still_fits own lo a.hi a.within.goes_up f) a.left s.2 in
      record {
        hi = b.hi;
        left = b.left;
        within = wider b.within.goes_up a.within;
        sited = wider_sited b.within.goes_up a.sited;
        has_bytes = λ e. let x = a.has_bytes e in (x.0, omega (arith, x.1, b.within.goes_up));
        bounded = λ n l u. let x = a.bounded n l u in b.bounded n x.0 x.1;
      }

pub given : {takes : Bool} {own : Around} {asks : List CodeSite} {ms : List Mark} {fact : Type 0} {rule : Rule}
    → Gives takes own asks ms rule
    → Gives takes own asks ms (fact ⇒ rule)
given h from to lo f o s = h from to lo f o s.1

pub spanned : {takes : Bool} {own : Around} {asks : List CodeSite} {ms : List Mark} {span : Span} {rule : Rule}
    → Gives takes own asks ms rule
    → Gives takes own asks ms (spanning span rule)
spanned h from to lo f o s = h from to lo f o s.0

-- whether it takes bytes is not said
pub loosely : {takes : Bool} {own : Around} {asks : List CodeSite} {ms : List Mark} {rule : Rule}
    → Gives takes own asks ms rule
    → Gives false own asks ms rule
loosely h from to lo f o s =
    let a = h from to lo f o s in
    record {
      hi = a.hi;
      left = a.left;
      within = a.within;
      sited = a.sited;
      has_bytes = λ e. absurd (true≢false (sym e));
      bounded = a.bounded;
    }

pub first_under : (n : ℕ) (t : Token) (ts : List Token) → AreUnder n (t ∷ ts) → (t.end ≤ n) × AreUnder n ts
first_under n t ts u = (u t (contains_here t ts), λ k among. u k (contains_there t k ts among))

-- where there is a next token, it begins at such an offset or before
next_under : (from : Cursor) (n lo : ℕ) → Ordered lo from.left → IsNextBehind from → AreUnder n from.left → start_at from ≤ n
next_under from n lo o next u = by from.left o next u
  where
    by : (left : List Token) → Ordered lo left → ((low : ℕ) → Ordered low left → low ≤ first_start from.end left)
        → AreUnder n left
        → first_start from.end left ≤ n
    by [] k h v = let past = h (from.end + 1) (none_ordered (from.end + 1)) in absurd (omega (arith, past))
    by (t ∷ ts) k h v =
        let ends = (first_ordered lo t ts k).0.ends in
        let under = (first_under n t ts v).0 in
        omega (arith, ends, under)

pub gives_nothing : {own : Around} → Gives false own [] [] nothing
gives_nothing {own} from to lo f o p =
    record {
      hi = lo;
      left = subst (λ (place : Cursor). Ordered lo place.left) p o;
      within = no_marks (omega arith);
      sited = own_sited own lo lo [] tt;
      has_bytes = λ e. absurd (true≢false (sym e));
      bounded = λ n l u. (l, subst (λ (place : Cursor). AreUnder n place.left) p u);
    }

pub gives_never : {takes : Bool} {own : Around} {asks : List CodeSite} {ms : List Mark} → Gives takes own asks ms never
gives_never from to lo f o s = absurd s

pub gives_not_before : {own : Around} (test : TokenKind → Bool) → Gives false own [] [] (not_before test)
gives_not_before test from to lo f o s = gives_nothing from to lo f o s.0

pub gives_token : {own : Around} (kind : TokenKind) → Gives (is_solid kind) own [] [] (token kind)
gives_token {own} kind from to lo f o t =
    let first : Token = record { kind = kind; start = t.start; end = to.end } in
    let split = λ (low : ℕ) (k : Ordered low from.left).
    first_ordered low first to.left (subst (λ (l : List Token). Ordered low l) t.taken k) in
    let h = split lo o in
    let a : lo ≤ t.start = h.0.begins in
    let b : t.start ≤ to.end = h.0.ends in
    let here : start_at from ≡ t.start = ap (λ (l : List Token). first_start from.end l) t.taken in
    record {
      hi = to.end;
      left = h.1;
      within = no_marks (omega arith);
      sited = own_sited own lo to.end [] tt;
      has_bytes = λ e. let c : t.start < to.end = h.0.takes e in
          (λ low k. omega (arith, here, (split low k).0.begins), omega (arith, here, c));
      bounded = λ n l u. first_under n first to.left (subst (AreUnder n) t.taken u);
    }

pub gives_one : {takes : Bool} {own : Around} {asks : List CodeSite} {ms : List Mark} {first second : Rule}
    → Gives takes own asks ms first
    → Gives takes own asks ms second
    → Gives takes own asks ms (one_of first second)
gives_one h k from to lo f o (inl s) = h from to lo f o s
gives_one h k from to lo f o (inr s) = k from to lo f o s

pub gives_optional : {takes : Bool} {own : Around} {rule : Rule}
    → Gives takes own [] [] rule
    → Gives false own [] [] (optional rule)
gives_optional h = gives_one gives_nothing (loosely h)

pub gives_chosen : (b : Bool) {takes : Bool} {own : Around} {asks : List CodeSite} {ms : List Mark} {first second : Rule}
    → Gives takes own asks ms first
    → Gives takes own asks ms second
    → Gives takes own asks ms (chosen b first second)
gives_chosen true h k = h
gives_chosen false h k = k

pub gives_only_if : (b : Bool) {takes : Bool} {own : Around} {rule : Rule}
    → Gives takes own [] [] rule
    → Gives false own [] [] (chosen b rule nothing)
gives_only_if true h = loosely h
gives_only_if false h = gives_nothing

pub enclosed : (first last : TokenKind) {takes : Bool} {own : Around} {asks : List CodeSite} {ms : List Mark} {inner : Rule}
    → Gives takes own asks ms inner
    → Gives (is_solid first) own asks ms (token first ⨾ inner ⨾ token last)
enclosed first last h = behind (gives_token first) (ending h (gives_token last))

pub gives_string : {own : Around} → Gives true own [] [] string_token
gives_string = gives_one (gives_token _) (gives_token _)

gives_takes_semicolon : {own : Around} (from to : Cursor) (lo : ℕ)
    → Ordered lo from.left
    → TakesSemicolon from to
    → Given false own lo from to [] []
gives_takes_semicolon {own = own} from to lo o t =
    let h = first_ordered lo _ to.left (subst (λ (l : List Token). Ordered lo l) t.taken o) in
    let a : lo ≤ t.start = h.0.begins in
    let b : t.start ≤ t.stop = h.0.ends in
    record {
      hi = t.stop;
      left = h.1;
      within = no_marks (omega arith);
      sited = own_sited own lo t.stop [] tt;
      has_bytes = λ e. absurd (true≢false (sym e));
      bounded = λ n l u. first_under n _ to.left (subst (AreUnder n) t.taken u);
    }

pub gives_semicolon : {own : Around} → Gives false own [] [] semicolon
gives_semicolon from to lo f o (inl t) = gives_takes_semicolon from to lo o t
gives_semicolon from to lo f o (inr s) = gives_nothing from to lo f o s.0

pub gives_semicolons : {own : Around} {from to : Cursor} (lo : ℕ)
    → Ordered lo from.left
    → Semicolons from to
    → Given false own lo from to [] []
gives_semicolons {own} lo o no_semicolon =
    record {
      hi = lo;
      left = o;
      within = no_marks (omega arith);
      sited = own_sited own lo lo [] tt;
      has_bytes = λ e. absurd (true≢false (sym e));
      bounded = λ n l u. (l, u);
    }
gives_semicolons {own} lo o (semicolon_and t more) =
    let a = gives_takes_semicolon {own = own} _ _ lo o t in
    let b = gives_semicolons {own = own} a.hi a.left more in
    record {
      hi = b.hi;
      left = b.left;
      within = wider b.within.goes_up a.within;
      sited = own_sited own lo b.hi [] tt;
      has_bytes = λ e. absurd (true≢false (sym e));
      bounded = λ n l u. let x = a.bounded n l u in b.bounded n x.0 x.1;
    }

pub gives_identifier : {own : Around} (text : GoText) (n : Identifier) → Gives true own [] [] (identifier text n)
gives_identifier text n from to lo f o s = gives_token _ from to lo f o s.0.0

pub gives_optional_identifier : {own : Around} (text : GoText) (n : Option Identifier)
    → Gives false own [] [] (optional_identifier text n)
gives_optional_identifier text None = gives_nothing
gives_optional_identifier text (Some n) = loosely (gives_identifier text n)

gives_more_identifiers : {own : Around} (text : GoText) (ns : List Identifier)
    → Gives false own [] [] (more_identifiers text ns)
gives_more_identifiers text [] = gives_nothing
gives_more_identifiers text (n ∷ ns) =
    loosely (behind (gives_token _) (behind (gives_identifier text n) (gives_more_identifiers text ns)))

pub gives_identifiers : {own : Around} (text : GoText) (ns : List Identifier)
    → Gives true own [] [] (identifiers text ns)
gives_identifiers text [] = gives_never
gives_identifiers text (n ∷ ns) = behind (gives_identifier text n) (gives_more_identifiers text ns)

-- Marks that stand otherwise

pub moved : {takes : Bool} {own : Around} {asks : List CodeSite} {ms ns : List Mark} {rule : Rule}
    → ms ≡ ns
    → Gives takes own asks ms rule
    → Gives takes own asks ns rule
moved {takes} {own} {asks} {rule = rule} e h = subst (λ (l : List Mark). Gives takes own asks l rule) e h

pub asked_so : {takes : Bool} {own : Around} {qs rs : List CodeSite} {ms : List Mark} {rule : Rule}
    → qs ≡ rs
    → Gives takes own qs ms rule
    → Gives takes own rs ms rule
asked_so {takes} {own} {ms = ms} {rule = rule} e h = subst (λ (l : List CodeSite). Gives takes own l ms rule) e h

plain_own : (own : Around) (m : Mark) → IsOwn own m → IsPlain m
plain_own own (mentions m) h = tt
plain_own own (of_fields site m) h = tt
plain_own own (runs_literal moment site at) h = tt
plain_own own (returns site es) h = absurd h
plain_own own (opens b) h = absurd h
plain_own own closes h = absurd h

-- no body begins or ends at any of them
abbrev ArePlain : List Mark → Type 0
ArePlain [] = Unit {0}
ArePlain (m ∷ ms) = IsPlain m × ArePlain ms

all_plain : (own : Around) (ms : List Mark) → AreOwn own ms → ArePlain ms
all_plain own [] h = tt
all_plain own (m ∷ ms) h = (plain_own own m h.0, all_plain own ms h.1)

one_asked_plain : (asks : List CodeSite) (m : Mark) → IsAskedMention asks m → IsPlain m
one_asked_plain asks (mentions m) h = tt
one_asked_plain asks (of_fields site m) h = tt
one_asked_plain asks (runs_literal moment site at) h = absurd h
one_asked_plain asks (returns site es) h = absurd h
one_asked_plain asks (opens b) h = absurd h
one_asked_plain asks closes h = absurd h

asked_plain : (asks : List CodeSite) (ms : List Mark) → AreAskedMentions asks ms → ArePlain ms
asked_plain asks [] h = tt
asked_plain asks (m ∷ ms) h = (one_asked_plain asks m h.0, asked_plain asks ms h.1)

plain_within : {lo hi : ℕ} (ms : List Mark) → ArePlain ms → lo ≤ hi → Within lo hi ms
plain_within [] h up = no_marks up
plain_within (m ∷ ms) h up = plain_and m h.0 (plain_within ms h.1 up)

own_within : (own : Around) (lo hi : ℕ) (ms : List Mark) → AreOwn own ms → lo ≤ hi → Within lo hi ms
own_within own lo hi ms are up = plain_within ms (all_plain own ms are) up

-- one mention of the site around in place of them
pub replaced : (m : Mark) {takes : Bool} {own : Around} {asks : List CodeSite} {ms : List Mark} {rule : Rule}
    → IsMention own m
    → Gives takes own asks ms rule
    → Gives takes own [] (m ∷ []) rule
replaced m {own = own} is h from to lo f o s =
    let a = h from to lo f o s in
    record {
      hi = a.hi;
      left = a.left;
      within = plain_and m (plain_own own m (mention_is_own own m is)) (no_marks a.within.goes_up);
      sited = own_sited own lo a.hi (m ∷ []) (mention_is_own own m is, tt);
      has_bytes = a.has_bytes;
      bounded = a.bounded;
    }

-- mentions of the site around before the others, or behind them
pub plain_before : (ns : List Mark) {takes : Bool} {own : Around} {asks : List CodeSite} {ms : List Mark} {rule : Rule}
    → AreMentions own ns
    → Gives takes own asks ms rule
    → Gives takes own asks (ns ++ ms) rule
plain_before ns {own = own} {ms = ms} are h from to lo f o s =
    let a = h from to lo f o s in
    record {
      hi = a.hi;
      left = a.left;
      within = both_within (own_within own lo lo ns (mentions_are_own own ns are) (omega arith)) a.within;
      sited = own_before ns (mentions_are_own own ns are) a.within.goes_up a.sited;
      has_bytes = a.has_bytes;
      bounded = a.bounded;
    }

-- mentions at sites for which the part's code asks
pub asked_first : (ns : List Mark) {takes : Bool} {own : Around} {asks : List CodeSite} {ms : List Mark} {rule : Rule}
    → AreAskedMentions asks ns
    → Gives takes own asks ms rule
    → Gives takes own asks (ns ++ ms) rule
asked_first ns {asks = asks} {ms = ms} are h from to lo f o s =
    let a = h from to lo f o s in
    record {
      hi = a.hi;
      left = a.left;
      within = both_within (plain_within ns (asked_plain asks ns are) (omega arith)) a.within;
      sited = mentions_before ns are a.sited;
      has_bytes = a.has_bytes;
      bounded = a.bounded;
    }

pub plain_behind : (ns : List Mark) {takes : Bool} {own : Around} {ms : List Mark} {rule : Rule}
    → AreMentions own ns
    → Gives takes own [] ms rule
    → Gives takes own [] (ms ++ ns) rule
plain_behind ns {own = own} {ms = ms} are h from to lo f o s =
    let a = h from to lo f o s in
    record {
      hi = a.hi;
      left = a.left;
      within = both_within a.within (own_within own a.hi a.hi ns (mentions_are_own own ns are) (omega arith));
      sited = own_behind ns (mentions_are_own own ns are) a.within.goes_up a.sited;
      has_bytes = a.has_bytes;
      bounded = a.bounded;
    }

-- a literal that is called under `defer` or `go`
run_literal : (b : BodyPlace) (moment : Moment) (site : ℕ) (ms : List Mark) {takes : Bool} {rule : Rule}
    → Gives takes (from_site site) [] (in_body b ms) rule
    → Gives takes (from_site site) [] (in_body b ms ++ runs_literal moment site b.at ∷ []) rule
run_literal b moment site ms h = λ from to lo f o s.
    let a = h from to lo f o s in
    let last = runs_literal moment site b.at ∷ [] in
    record {
      hi = a.hi;
      left = a.left;
      within = both_within a.within (plain_within last (tt, tt) (omega arith));
      sited = own_behind last (refl, tt) a.within.goes_up a.sited;
      has_bytes = a.has_bytes;
      bounded = a.bounded;
    }

-- or not
pub whole_literal : (b : BodyPlace) (used : LiteralUse) (site : ℕ) (ms : List Mark) {takes : Bool} {rule : Rule}
    → Gives takes (from_site site) [] (in_body b ms) rule
    → Gives takes (from_site site) [] (in_body b ms ++ deferral used site b.at) rule
whole_literal b other_use site ms h = moved (sym (append-nil (in_body b ms))) h
whole_literal b (started_by n) site ms h = moved (sym (append-nil (in_body b ms))) h
whole_literal b deferred_call site ms h = run_literal b at_return site ms h
whole_literal b call_under_go site ms h = run_literal b in_goroutine site ms h

-- Statements

-- the part begins at the offset
abbrev pub beginning : ℕ → Rule → Rule
beginning at rule from to = rule from to × (at ≡ start_at from)

-- the statement of that form does
abbrev pub statement_at : ℕ → StatementForm → Rule → Rule
statement_at at form rule from to = rule from to × (at ≡ statement_start form from)

module _ {takes : Bool} {own : Around} {asks : List CodeSite} {ms : List Mark} {rule : Rule} where
  pub begun : {at : ℕ} → Gives takes own asks ms rule → Gives takes own asks ms (beginning at rule)
  begun h from to lo f o s = h from to lo f o s.0

  pub given_begun : {at : ℕ} {fact : Type 0}
      → Gives takes own asks ms (beginning at rule)
      → Gives takes own asks ms (beginning at (fact ⇒ rule))
  given_begun h from to lo f o s = h from to lo f o (s.0.1, s.1)

  pub spanned_begun : {span : Span}
      → Gives takes own asks ms (beginning span.start rule)
      → Gives takes own asks ms (spanning span rule)
  spanned_begun h from to lo f o s = h from to lo f o (s.0, s.1)

  pub unasked : Gives takes own asks ms rule → Gives takes own [] ms rule
  unasked h from to lo f o s =
      let a = h from to lo f o s in
      record {
        hi = a.hi;
        left = a.left;
        within = a.within;
        sited = unasked_sited a.sited;
        has_bytes = a.has_bytes;
        bounded = a.bounded;
      }

-- other statements behind the beginning of this one
pub foreign : {at : ℕ} {takes : Bool} {asks : List CodeSite} {ms : List Mark} {rule : Rule}
    → Gives takes no_site asks ms rule
    → Gives takes (behind_site at) asks ms rule
foreign h from to lo f o s =
    let a = h from to lo tt o s in
    record {
      hi = a.hi;
      left = a.left;
      within = a.within;
      sited = foreign_sited f a.sited;
      has_bytes = a.has_bytes;
      bounded = a.bounded;
    }

-- its own expressions behind its first token
pub past : {at : ℕ} {takes : Bool} {asks : List CodeSite} {ms : List Mark} {rule : Rule}
    → Gives takes (from_site at) asks ms rule
    → Gives takes (behind_site at) asks ms rule
past h from to lo f o s =
    let a = h from to lo (omega (arith, f)) o s in
    record {
      hi = a.hi;
      left = a.left;
      within = a.within;
      sited = past_sited a.sited;
      has_bytes = a.has_bytes;
      bounded = a.bounded;
    }

-- a statement that begins with an expression or a name
pub simple : {at : ℕ} {ms : List Mark} {rule : Rule}
    → Gives true (from_site at) [] ms rule
    → Gives true no_site (asked_at at ∷ []) ms (beginning at rule)
simple {at} h from to lo f o s =
    let first = from_first lo from.end from.left o in
    let here : at ≡ start_at from = s.1 in
    let a = h from to (start_at from) (omega (arith, here)) first s.0 in
    let x = a.has_bytes refl in
    let b = x.0 lo o in
    record {
      hi = a.hi;
      left = a.left;
      within = longer b a.within;
      sited = settled_sited (λ y e. e) refl (omega (arith, here, b)) (omega (arith, here, x.1)) b
          (λ t none e. absurd (contains_nil t none)) a.sited;
      has_bytes = λ e. x;
      bounded = λ n l u. a.bounded n (next_under from n lo o x.0 u) u;
    }

-- a statement or clause that begins with a token of its own
pub led : {at : ℕ} (kind : TokenKind) {takes : Bool} {asks : List CodeSite} {ms : List Mark} {rule : Rule}
    → is_solid kind ≡ true
    → Gives takes (behind_site at) asks ms rule
    → Gives true no_site (asked_at at ∷ asks) ms (beginning at (token kind ⨾ rule))
led {at} kind solid h from to lo f o s =
    let a = gives_token {own = no_site} kind from s.0.0 lo tt o s.0.1 in
    let x = a.has_bytes solid in
    let here : at ≡ start_at from = s.1 in
    let b = h s.0.0 to a.hi (omega (arith, here, x.1)) a.left s.0.2 in
    let up = b.within.goes_up in
    record {
      hi = b.hi;
      left = b.left;
      within = longer a.within.goes_up b.within;
      sited = settled_sited (λ y e. e) refl (omega (arith, here, x.0 lo o))
          (omega (arith, here, x.1, up)) a.within.goes_up
          (λ t k e. let y = b.sited.stands t k in omega (arith, here, x.1, y.0, e)) b.sited;
      has_bytes = λ e. (x.0, omega (arith, x.1, up));
      bounded = λ n l u. let x = a.bounded n l u in b.bounded n x.0 x.1;
    }

-- and one of that token alone
pub lone : {at : ℕ} (kind : TokenKind)
    → is_solid kind ≡ true
    → Gives true no_site (asked_at at ∷ []) [] (beginning at (token kind))
lone kind e from to lo f o s = led kind e gives_nothing from to lo f o ((to, s.0, refl), s.1)

-- what begins with a token whose place is a site of the code for which it does not ask
pub noted : {at : ℕ} (kind : TokenKind) {takes : Bool} {own : Around} {asks : List CodeSite} {ms : List Mark} {rule : Rule}
    → is_solid kind ≡ true
    → Gives takes own asks ms rule
    → Gives true own (unasked_at at ∷ asks) ms (beginning at (token kind ⨾ rule))
noted {at} kind {own = own} solid h from to lo f o s =
    let a = gives_token {own = own} kind from s.0.0 lo f o s.0.1 in
    let x = a.has_bytes solid in
    let here : at ≡ start_at from = s.1 in
    let b = h s.0.0 to a.hi (still_fits own lo a.hi a.within.goes_up f) a.left s.0.2 in
    let up = b.within.goes_up in
    record {
      hi = b.hi;
      left = b.left;
      within = longer a.within.goes_up b.within;
      sited = noted_sited (omega (arith, here, x.0 lo o)) (omega (arith, here, x.1)) (omega (arith, here, x.1, up)) b.sited;
      has_bytes = λ e. (x.0, omega (arith, x.1, up));
      bounded = λ n l u. let x = a.bounded n l u in b.bounded n x.0 x.1;
    }

-- a last token, whose last byte is such a site
abbrev closing_at : ℕ → TokenKind → Rule
closing_at last kind from to = token kind from to × (last ≡ to.end - 1)

closed : {last : ℕ} (kind : TokenKind) {own : Around}
    → is_solid kind ≡ true
    → Gives false own (unasked_at last ∷ []) [] (closing_at last kind)
closed {last} kind solid from to lo f o s =
    let first : Token = record { kind = kind; start = s.0.start; end = to.end } in
    let h = first_ordered lo first to.left (subst (λ (l : List Token). Ordered lo l) s.0.taken o) in
    let a : lo ≤ s.0.start = h.0.begins in
    let b : s.0.start < to.end = h.0.takes solid in
    let same : last ≡ to.end - 1 = s.1 in
    record {
      hi = to.end;
      left = h.1;
      within = no_marks (omega arith);
      sited = lone_sited (omega arith) (omega arith);
      has_bytes = λ e. absurd (true≢false (sym e));
      bounded = λ n l u. first_under n first to.left (subst (AreUnder n) s.0.taken u);
    }

-- a block of a body, whose braces are such sites
pub braced : {braces : Span} {takes : Bool} {asks : List CodeSite} {ms : List Mark} {inner : Rule}
    → Gives takes no_site asks ms inner
    → Gives true no_site (unasked_at braces.start ∷ (asks ++ unasked_at (braces.end - 1) ∷ [])) ms
    (spanning braces (token LeftBrace ⨾ inner ⨾ token RightBrace))
braced {ms = ms} h = λ from to lo f o s.
    noted LeftBrace refl (moved (append-nil ms) (both h (closed RightBrace refl))) from to lo f o
    ((s.0.0, s.0.1, (s.0.2.0, s.0.2.1, (s.0.2.2, ap (λ (n : ℕ). n - 1) s.2))), s.1)

-- a last token, for whose last byte these are asked
closed_asked : {last : ℕ} (ns : List Mark) (kind : TokenKind)
    → is_solid kind ≡ true
    → AreMentions (from_site last) ns
    → Gives false no_site (asked_at last ∷ []) ns (closing_at last kind)
closed_asked {last} ns kind solid are from to lo f o s =
    let first : Token = record { kind = kind; start = s.0.start; end = to.end } in
    let h = first_ordered lo first to.left (subst (λ (l : List Token). Ordered lo l) s.0.taken o) in
    let a : lo ≤ s.0.start = h.0.begins in
    let b : s.0.start < to.end = h.0.takes solid in
    let same : last ≡ to.end - 1 = s.1 in
    let own = mentions_are_own (from_site last) ns are in
    record {
      hi = to.end;
      left = h.1;
      within = own_within (from_site last) lo to.end ns own (omega arith);
      sited = settled_sited (λ y e. e) refl (omega arith) (omega arith) (omega arith)
          (λ t none e. absurd (contains_nil t none)) (own_sited (from_site last) lo to.end ns own);
      has_bytes = λ e. absurd (true≢false (sym e));
      bounded = λ n l u. first_under n first to.left (subst (AreUnder n) s.0.taken u);
    }

-- a block of a branch: for both its braces is asked
pub branched : {braces : Span} (ns ls : List Mark) {takes : Bool} {asks : List CodeSite} {ms : List Mark} {inner : Rule}
    → AreMentions (behind_site braces.start) ns
    → AreMentions (from_site (braces.end - 1)) ls
    → Gives takes no_site asks ms inner
    → Gives true no_site (asked_at braces.start ∷ (asks ++ asked_at (braces.end - 1) ∷ [])) (ns ++ (ms ++ ls))
    (spanning braces (token LeftBrace ⨾ inner ⨾ token RightBrace))
branched ns ls are last h = λ from to lo f o s.
    led LeftBrace refl (plain_before ns are (foreign (both h (closed_asked ls RightBrace refl last)))) from to lo f o
    ((s.0.0, s.0.1, (s.0.2.0, s.0.2.1, (s.0.2.2, ap (λ (n : ℕ). n - 1) s.2))), s.1)

pub returned : {at : ℕ} (es : Expressions) {takes : Bool} {ms : List Mark} {rule : Rule}
    → Gives takes (from_site at) [] ms rule
    → Gives true no_site (unasked_at at ∷ []) (ms ++ returns at es ∷ []) (beginning at (token ReturnKeyword ⨾ rule))
returned {at} es {ms = ms} h from to lo f o s =
    let a = gives_token {own = no_site} ReturnKeyword from s.0.0 lo tt o s.0.1 in
    let x = a.has_bytes refl in
    let here : at ≡ start_at from = s.1 in
    let b = h s.0.0 to a.hi (omega (arith, here, x.1)) a.left s.0.2 in
    let up = b.within.goes_up in
    record {
      hi = b.hi;
      left = b.left;
      within = longer a.within.goes_up (both_within b.within
          (plain_within (returns at es ∷ []) (tt, tt) (omega arith)));
      sited = longer_sited (omega (arith, here, x.0 lo o)) (return_sited es (omega (arith, here, x.1)) up b.sited);
      has_bytes = λ e. (x.0, omega (arith, x.1, up));
      bounded = λ n l u. let x = a.bounded n l u in b.bounded n x.0 x.1;
    }

-- a body that begins with `func`
pub bodied : (b : BodyPlace) {span : Span} {takes : Bool} {own : Around} {ms : List Mark} {rule : Rule}
    → b.at ≡ span.start
    → Gives takes (behind_site b.at) (asked_body b) ms rule
    → Gives true own [] (in_body b ms) (spanning span (token FuncKeyword ⨾ rule))
bodied b {span} {own = own} {ms = ms} same h from to lo f o s =
    let t = gives_token {own = no_site} FuncKeyword from s.0.0 lo tt o s.0.1 in
    let x = t.has_bytes refl in
    let here : b.at ≡ start_at from = same ∙ s.1 in
    let before : b.at < t.hi = omega (arith, here, x.1) in
    let least : lo ≤ b.at = omega (arith, here, x.0 lo o) in
    let a = h s.0.0 to t.hi before t.left s.0.2 in
    let up = a.within.goes_up in
    record {
      hi = a.hi;
      left = a.left;
      within = longer least (body_within b (longer (omega (arith, before)) a.within));
      sited = body_sited b f least before up a.sited;
      has_bytes = λ e. (x.0, omega (arith, x.1, up));
      bounded = λ n l u. let y = t.bounded n l u in a.bounded n y.0 y.1;
    }
