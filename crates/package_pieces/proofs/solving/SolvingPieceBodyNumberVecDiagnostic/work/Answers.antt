use Rattle.package_pieces.proofs.Joined.{only_added}
use Rattle.package_pieces.proofs.Kept.{told_by}
use Rattle.package_pieces.proofs.solving.SolvingPieceBodyNumberVecDiagnostic.work.Goals as goal

pub returns : goal.returns
returns c = λ fs tell f is_file b is_body.
    let told = told_by c.args.self.now.files.now c.args.item.now c.in-Some.file.now c.deref.result.now c.in-Some-get.body.now
    c.in-Some.ensures.lookup.3.0 c.in-Some.ensures.lookup.1 c.deref.ensures.value c.in-Some-get.ensures.lookup.3.0
    c.in-Some-get.ensures.lookup.1 fs tell f is_file b is_body in
    only_added c.new-found.result.items c.add_body.new.diagnostics.items _ c.new-found.ensures.items
    (c.in_ok-add_body.ensures c.args.item.now.file f told.0 b told.1)
