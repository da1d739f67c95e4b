use Rattle.tree.proofs.Views.{block_statements-out}
use Rattle.scopes.proofs.Adding.{three_adds, block_braces-out}
use Rattle.scopes.proofs.file.body.Goals as goal

pub returns-in_ok-declare_signature-in-Some : goal.returns-in_ok-declare_signature-in-Some
returns-in_ok-declare_signature-in-Some c =
    rw (c.in-Some.is, block_statements-out, block_braces-out, ← c.deref.ensures.value)
    (three_adds _ _ _ _ _ _ _ _ c.in_ok-declare_receiver-in-Some.ensures c.in_ok-declare_signature-in-Some.ensures c.statements.ensures)
