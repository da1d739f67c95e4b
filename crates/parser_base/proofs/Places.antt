-- Steps from a place among tokens.
use Rattle.std.proofs.Common.{◌≡◌, ℕ, zero, suc, ◌<◌, true, false, List, [], ◌∷◌, length, refl, arith}
use Rattle.lexer.specs.declared.token.Token.{Token}
use Rattle.lexer.specs.declared.token.TokenKind.{TokenKind}
use Rattle.lexer.specs.declared.token.TokenKind.TheVariants.{Semicolon}
use Rattle.meaning.specs.Cursor.{GoText, Cursor}
use Rattle.tree_reader.specs.Reader.{readers}
use Rattle.tree_reader.specs.Reading.{stands, behind_semicolon, skip_semicolons, skip_from}

first-shorter : (kind : TokenKind) (tokens : List Token) (end : ℕ) → stands kind (record { left = tokens; end = end }) ≡ true → length (behind_semicolon record { left = tokens; end = end }).left < length tokens
unfolding stands
first-shorter kind [] end e = absurd cc
first-shorter kind (t ∷ rest) end e = omega arith

-- what was taken is gone
pub shorter : (kind : TokenKind) (from to : Cursor) → stands kind from ≡ true → to ≡ behind_semicolon from → length to.left < length from.left
shorter kind from to e same = rw same (first-shorter kind from.left from.end e)

skip-first : (end : ℕ) (tokens : List Token) → stands Semicolon (record { left = tokens; end = end }) ≡ true → skip_from end tokens ≡ skip_semicolons (behind_semicolon record { left = tokens; end = end })
unfolding stands skip_from
skip-first end [] e = absurd cc
skip-first end (t ∷ rest) e = rw e refl

pub skip-semicolon : (place : Cursor) → stands Semicolon place ≡ true → skip_semicolons place ≡ skip_semicolons (behind_semicolon place)
skip-semicolon place e = skip-first place.end place.left e

skip-none : (end : ℕ) (tokens : List Token) → stands Semicolon (record { left = tokens; end = end }) ≡ false → skip_from end tokens ≡ record { left = tokens; end = end }
unfolding stands skip_from
skip-none end [] e = refl
skip-none end (t ∷ rest) e = rw e refl

pub skip-done : (place : Cursor) → stands Semicolon place ≡ false → skip_semicolons place ≡ place
skip-done place e = skip-none place.end place.left e

-- how deep what is read may be
pub most_of : (text : GoText) (below : ℕ) → (readers text below).most ≡ below
unfolding readers
most_of text zero = refl
most_of text (suc below) = refl
