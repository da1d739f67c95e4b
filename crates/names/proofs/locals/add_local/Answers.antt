use Rattle.std.proofs.Common.{sym}
use Rattle.names.proofs.FirstLocals.{first_again, first_added}
use Rattle.names.proofs.locals.add_local.Goals as goal

pub returns-in_ok-insert : goal.returns-in_ok-insert
returns-in_ok-insert c = λ before all.
    first_added _ c.args.local.now before all _ (sym c.if-not-contains_key.ensures) c.in_ok-insert.ensures.entries

pub returns-else-not-contains_key : goal.returns-else-not-contains_key
returns-else-not-contains_key c = λ before all. first_again _ c.args.local.now before all (sym c.if-not-contains_key.ensures)
