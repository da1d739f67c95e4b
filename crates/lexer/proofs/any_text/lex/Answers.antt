use Rattle.std.proofs.Common.{List, ℕ, subst}
use Rattle.std.specs.Prelude.{◌≡◌, ◌≢◌, IfOk, IfErr, IsErr}
use Rattle.lexer.specs.declared.token.Token.{Token}
use Rattle.lexer.specs.declared.fault.LexFault.{LexFault}
use Rattle.lexer.specs.declared.fault.LexFault.TheVariants.{OutOfMemory}
use Rattle.lexer.specs.Tokens.{IsTokens}
use Rattle.lexer.specs.Faults.{IsFault}
use Rattle.lexer.proofs.Answered.{given_tokens, given_fault}
use Rattle.lexer.proofs.any_text.lex.Goals as goal

pub returns-clause-tokens : goal.returns-clause-tokens
returns-clause-tokens c =
    subst (λ (text : List ℕ). (ts : List Token) → IsTokens text ts → IfOk c.lex_bytes.result (λ v. v.items ≡ ts) × IfErr c.lex_bytes.result (λ f. f ≡ OutOfMemory)) c.deref.ensures.value (given_tokens (λ v. v.items) _ c.lex_bytes.result c.lex_bytes.ensures.ok c.lex_bytes.ensures.err)

pub returns-clause-fault : goal.returns-clause-fault
returns-clause-fault c =
    subst (λ (text : List ℕ). (g : LexFault) → IsFault text g → IsErr c.lex_bytes.result × IfErr c.lex_bytes.result (λ f. f ≢ OutOfMemory → f ≡ g)) c.deref.ensures.value (given_fault (λ v. v.items) _ c.lex_bytes.result c.lex_bytes.ensures.ok c.lex_bytes.ensures.err)
