-- How to show that a tree is spelled, in the words of the rules: what else a rule asks for is there by computation.
use Rattle.std.proofs.Common.{◌≡◌, ℕ, false, List, [], ◌∷◌, refl}
use Rattle.lexer.specs.declared.token.Token.{Token}
use Rattle.lexer.specs.declared.token.TokenKind.{TokenKind}
use Rattle.lexer.specs.declared.token.TokenKind.TheVariants.{Semicolon}
use Rattle.tree.specs.declared.edition.Edition.{Edition}
use Rattle.tree.specs.declared.edition.Edition.TheVariants.{First, Second}
use Rattle.meaning.specs.Cursor.{Cursor, TakesToken, TakesSemicolon, first_is, is_next}
use Rattle.meaning.specs.OperatorTokens.{takes_arguments}
use Rattle.meaning.specs.WellFormed.{has_bare_literal, has_bare_literal_form}
use Rattle.meaning.specs.Grammar.{SpellsExpression, SpellsForm, SpellsExpressions, SpellsMore, SpellsOptional, SpellsSignature, SpellsResult, SpellsItems, SpellsTypeParameters, SpellsFields, SpellsStatement, SpellsStatementForm, SpellsOptionalStatement, SpellsElse, SpellsStatements, SpellsCases, SpellsCommunications, SpellsDeclaration, SpellsSpecs}

-- `unfolding spelling` opens the rules
unfoldable pub spelling : Unit {0}
unfolding SpellsExpression SpellsForm SpellsExpressions SpellsMore SpellsOptional SpellsSignature SpellsResult
    SpellsItems SpellsTypeParameters SpellsFields SpellsStatement SpellsStatementForm SpellsOptionalStatement SpellsElse SpellsStatements
    SpellsCases SpellsCommunications SpellsDeclaration SpellsSpecs has_bare_literal has_bare_literal_form
spelling = tt

-- a token is the first of those that are left
pub taken : {kind : TokenKind} {start end place : ℕ} {rest : List Token}
    → TakesToken kind
    record { left = record { kind = kind; start = start; end = end } ∷ rest; end = place }
    record { left = rest; end = end }
taken {kind} {start} = record { start = start; taken = refl }

pub semicolon_taken : {start stop place : ℕ} {rest : List Token}
    → TakesSemicolon
    record { left = record { kind = Semicolon; start = start; end = stop } ∷ rest; end = place }
    record { left = rest; end = place }
semicolon_taken {start} {stop} = record { start = start; stop = stop; taken = refl; stays = refl }

-- one part up to a place, and then the other
infixr 30 ◌by◌then◌
pub ◌by◌then◌ : {First Second : Cursor → Type 0} (between : Cursor)
    → First between
    → Second between
    → (between : Cursor) × First between × Second between
◌by◌then◌ between p q = (between, p, q)

-- the tree is as it must be, and its tokens are there
infixr 20 ◌and◌
pub ◌and◌ : {Fact Spelled : Type 0} → Fact → Spelled → Fact × Spelled
p and q = (p, q)

-- its span is that of its tokens
pub there : {Spelled : Type 0} {start end : ℕ} → Spelled → Spelled × (start ≡ start) × (end ≡ end)
there p = (p, refl, refl)

-- what does not go on a type's name in the second edition does not in the first
pub no_arguments : (edition : Edition) {place : Cursor}
    → is_next (takes_arguments Second) place ≡ false
    → (place ≡ place) × (is_next (takes_arguments edition) place ≡ false)
no_arguments Second {place} h = (refl, h)
no_arguments First {place} h = (refl, none place.left) where
  none : (left : List Token) → first_is (takes_arguments First) left ≡ false
  none [] = refl
  none (t ∷ rest) = refl
