-- A package mentions the same by names that mean the same.
use Rattle.std.proofs.Common.{◌≡◌, ◌∙◌, ℕ, Bool, List, ap}
use Rattle.cause_mentions.specs.CauseMentions.{files_mention}
use Rattle.meaning.specs.FunctionFacts.{Meanings}
use Rattle.tree.specs.Syntax.{SourceFile}

pub same_mentions : (a b : ℕ → Meanings) (trees : List SourceFile) (does : Bool)
    → ((file at : ℕ) → a file at ≡ b file at)
    → does ≡ files_mention a 0 trees
    → does ≡ files_mention b 0 trees
same_mentions a b trees does same is =
    let means : a ≡ b = λ i file at. same file at i in
    is ∙ ap (λ means. files_mention means 0 trees) means
