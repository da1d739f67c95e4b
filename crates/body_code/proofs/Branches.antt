-- A block that begins at its first brace, and what is past it, at its last: a brace is a site only where it has events.
use Rattle.std.proofs.Common.{◌≡◌, ℕ, ◌-◌, Result, sym, ap, ◌∙◌}
use Rattle.tree.specs.declared.span.Span.{Span}
use Rattle.tree.specs.declared.statement.Block.{Block as KeptBlock, out-Block}
use Rattle.tree.specs.View.{block_braces}
use Rattle.tree.proofs.Views.{block_syntax-out}
use Rattle.meaning.specs.Code.{Code, then_code, either}
use Rattle.meaning.specs.StatementCode.{Sites, branch}
use Rattle.code.specs.declared.code.Code.{Code as KeptCode}
use Rattle.code.specs.CodeViews.{IsCode}
use Rattle.code.proofs.Codes.{same_code}

block_braces-out : (b : KeptBlock) → block_braces b ≡ (out-Block b).span
block_braces-out b = λ i. (block_syntax-out b i).braces

module _ {E : Type 0} (sites : Sites E) where
  -- the code of an `if` by the braces of its block in memory
  pub between_braces : {F : Type 0} (r : Result (KeptCode E) F) (b : KeptBlock) (last : ℕ) (first header block otherwise : Code E)
      → last ≡ (out-Block b).span.end - 1
      → IsCode r (then_code first (then_code header (either (branch sites (out-Block b).span.start block) (branch sites last otherwise))))
      → IsCode r (then_code first (then_code header
      (either (branch sites (block_braces b).start block) (branch sites ((block_braces b).end - 1) otherwise))))
  between_braces r b last first header block otherwise is_last =
      same_code r _ _
      (ap (λ n. then_code first (then_code header (either (branch sites (out-Block b).span.start block) (branch sites n otherwise)))) is_last
      ∙ ap (λ (s : Span). then_code first (then_code header (either (branch sites s.start block) (branch sites (s.end - 1) otherwise))))
      (sym (block_braces-out b)))
