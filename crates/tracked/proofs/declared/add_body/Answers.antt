use Rattle.meaning.specs.Tracked.{receiver_locals, receiver_items, signature_locals}
use Rattle.facts.proofs.FactParts.{on_ok}
use Rattle.mentions.specs.MarkViews.{body_view}
use Rattle.tracked_rows.specs.RowViews.{known_view}
use Rattle.tracked.proofs.Added.{adds_then}
use Rattle.tracked.proofs.declared.add_body.Goals as goal

pub returns : goal.returns
returns c =
    let known = known_view c.args.known in
    let body = body_view c.args.body in
    on_ok c.add_signature.result
    (adds_then c.args.locals.now c.add_receiver.new.locals c.add_signature.new.locals
    (receiver_locals known body (receiver_items body.receiver)) (signature_locals known body body.signature)
    c.in_ok-add_receiver.ensures)
    c.add_signature.ensures
