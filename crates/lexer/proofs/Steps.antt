-- How far the lexer has come in any text, and what that gives at the end and where nothing can begin.
use Rattle.std.proofs.Common.{◌≡◌, ◌==◌, ℕ, ◌+◌, ◌<◌, ◌≤◌, Bool, true, false, ◌&&◌, List, [], ◌∷◌, ◌++◌, length, get_or, drop, Option, None, refl, sym, ap, ◌∙◌, cond, arith, append_assoc}
use Rattle.std.specs.List.{sum_by}
use Rattle.std.specs.Char.{encode_utf8}
use Rattle.std.specs.Str.{IsUtf8, IsCharBoundary}
use Rattle.std.proofs.lemmas.Bool.{and_parts, eqb-true, or_from}
use Rattle.std.proofs.lemmas.List.{append-nil}
use Rattle.std.proofs.lemmas.List.Sums.{sum_by-append}
use Rattle.std.proofs.lemmas.Str.{IsCharBoundary-start, IsCharBoundary-from_drop, IsUtf8-past_char}
use Rattle.lexer.specs.declared.token.Token.{Token}
use Rattle.lexer.specs.declared.pieces.Piece.{Piece}
use Rattle.lexer.specs.declared.fault.LexFault.TheVariants.{UnclosedString, UnclosedComment, UnclosedRune, UnknownCharacter}
use Rattle.lexer.specs.Cut.{CanBegin, IsLongest, Cut, opens_comment}
use Rattle.lexer.specs.Semicolons.{tokens_from, tokens_at, due_after, semicolon}
use Rattle.lexer.specs.Tokens.{mark_size, IsTokens}
use Rattle.lexer.specs.Faults.{StopsAt, IsFault, stop_of, begins_string, begins_rune}
use Rattle.lexer.proofs.Cuts.{cut_more}

pub record IsReadFrom (start : ℕ) (text rest : List ℕ) (at : ℕ) (due : Option ℕ) (tokens : List Token) : Type 0 where
  pub pieces : List Piece
  pub cut : Cut text pieces rest
  pub place : at ≡ start + sum_by (λ p. p.size) pieces
  pub to_come : (qs : List Piece) → tokens_from start None (pieces ++ qs) ≡ tokens ++ tokens_from at due qs

pub from_none : (start : ℕ) (text : List ℕ) → IsReadFrom start text text start None []
unfolding Cut
from_none start text = record { pieces = []; cut = refl; place = omega arith; to_come = λ qs. refl }

pub from_more : (start : ℕ) (text rest : List ℕ) (at : ℕ) (due : Option ℕ) (tokens : List Token) (p : Piece) → IsReadFrom start text rest at due tokens → IsLongest p rest → IsReadFrom start text (drop p.size rest) (at + p.size) (due_after p.kind (at + p.size) due) (tokens ++ tokens_at p.kind at (at + p.size) due)
unfolding tokens_from
from_more start text rest at due tokens p r h =
    record {
      pieces = r.pieces ++ p ∷ [];
      cut = cut_more text r.pieces rest p r.cut h;
      place = omega (arith, r.place, sum_by-append (λ (q : Piece). q.size) r.pieces (p ∷ []));
      to_come = λ qs.
          let next = at + p.size in
          ap (tokens_from start None) (append_assoc r.pieces (p ∷ []) qs)
          ∙ (r.to_come (p ∷ qs) ∙ sym (append_assoc tokens (tokens_at p.kind at next due) (tokens_from next (due_after p.kind next due) qs)));
    }

abbrev pub NoNul : List ℕ → Type 0
NoNul text = (i : ℕ) → i < length text → get_or text i 0 ≡ 0 → ⊥

-- at the end of the text
pub from_all : (text : List ℕ) (at : ℕ) (due : Option ℕ) (tokens : List Token) → length text ≤ 1_048_576 → IsUtf8 text → NoNul text → IsReadFrom (mark_size text) (drop (mark_size text) text) [] at due tokens → IsTokens text (tokens ++ semicolon due)
unfolding tokens_from
from_all text at due tokens small utf8 no_nul r =
    record {
      small = small;
      utf8 = utf8;
      no_nul = no_nul;
      pieces = r.pieces;
      cut = r.cut;
      listed = sym (r.to_come []) ∙ ap (tokens_from (mark_size text) None) (append-nil r.pieces);
    }

-- where nothing can begin
module _ (text rest : List ℕ) (at : ℕ) (s : StopsAt text at rest) where
  by_comment : begins_string rest ≡ false → begins_rune rest ≡ false → (t : Bool) → opens_comment rest ≡ t → IsFault text (cond t (UnclosedComment at) (UnknownCharacter at))
  by_comment a b true e = (rest, s, e)
  by_comment a b false e = (rest, s, or_from _ _ (or_from _ _ a b) e)

  by_rune : begins_string rest ≡ false → (t : Bool) → begins_rune rest ≡ t → IsFault text (cond t (UnclosedRune at) (cond (opens_comment rest) (UnclosedComment at) (UnknownCharacter at)))
  by_rune a true e = (rest, s, e)
  by_rune a false e = by_comment a e (opens_comment rest) refl

  by_string : (t : Bool) → begins_string rest ≡ t → IsFault text (cond t (UnclosedString at) (cond (begins_rune rest) (UnclosedRune at) (cond (opens_comment rest) (UnclosedComment at) (UnknownCharacter at))))
  by_string true e = (rest, s, e)
  by_string false e = by_rune e (begins_rune rest) refl

  stops_fault : IsFault text (stop_of rest at)
  stops_fault = by_string (begins_string rest) refl

pub from_stop : (text rest : List ℕ) (at : ℕ) (due : Option ℕ) (tokens : List Token) → length text ≤ 1_048_576 → IsUtf8 text → NoNul text → IsReadFrom (mark_size text) (drop (mark_size text) text) rest at due tokens → 0 < length rest → ((p : Piece) → CanBegin p rest → ⊥) → IsFault text (stop_of rest at)
from_stop text rest at due tokens small utf8 no_nul r more nothing =
    stops_fault text rest at
    (record {
      small = small;
      utf8 = utf8;
      no_nul = no_nul;
      pieces = r.pieces;
      cut = r.cut;
      place = r.place;
      more = λ e. let none : length rest ≡ 0 = ap length e in absurd (omega arith);
      nothing = nothing;
    })

-- a text may be cut after its byte order mark
mark_bytes : (text : List ℕ) → get_or text 0 0 ≡ 239 → get_or text 1 0 ≡ 187 → get_or text 2 0 ≡ 191 → IsUtf8 text → IsCharBoundary text 3
unfolding encode_utf8
mark_bytes [] a b c utf8 = absurd (omega arith)
mark_bytes (x ∷ []) a b c utf8 = absurd (omega arith)
mark_bytes (x ∷ y ∷ []) a b c utf8 = absurd (omega arith)
mark_bytes (x ∷ y ∷ z ∷ rest) a b c utf8 =
    let whole : x ∷ y ∷ z ∷ rest ≡ encode_utf8 0xFEFF ++ rest = ap (λ v. v ∷ y ∷ z ∷ rest) a ∙ (ap (λ v. 239 ∷ v ∷ z ∷ rest) b ∙ ap (λ v. 239 ∷ 187 ∷ v ∷ rest) c) in
    IsCharBoundary-from_drop (x ∷ y ∷ z ∷ rest) 3 (omega arith) (IsUtf8-past_char (x ∷ y ∷ z ∷ rest) rest 0xFEFF utf8 whole)

mark_cut : (text : List ℕ) (t : Bool) → ((get_or text 0 0 == 239 && get_or text 1 0 == 187) && get_or text 2 0 == 191) ≡ t → IsUtf8 text → IsCharBoundary text (cond t 3 0)
mark_cut text true e utf8 =
    let p = and_parts (get_or text 0 0 == 239 && get_or text 1 0 == 187) (get_or text 2 0 == 191) e in
    let q = and_parts (get_or text 0 0 == 239) (get_or text 1 0 == 187) p.0 in
    mark_bytes text (eqb-true _ _ q.0) (eqb-true _ _ q.1) (eqb-true _ _ p.1) utf8
mark_cut text false e utf8 = IsCharBoundary-start text utf8

pub mark_boundary : (text : List ℕ) → IsUtf8 text → IsCharBoundary text (mark_size text)
mark_boundary text utf8 =
    mark_cut text ((get_or text 0 0 == 239 && get_or text 1 0 == 187) && get_or text 2 0 == 191) refl utf8
