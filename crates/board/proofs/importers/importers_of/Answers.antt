use Rattle.std.proofs.Common.{◌≡◌, ◌∙◌, sym, ap, arith, length, List, [], ℕ}
use Rattle.std.specs.Prelude.{replicate}
use Rattle.std.proofs.lemmas.List.{length-map}
use Rattle.imports.specs.Views.{rows_view}
use Rattle.board.proofs.ImportersAdded.{none_before, next_before, all_before}
use Rattle.board.proofs.importers.importers_of.Goals as goal

pub loop-place-init : goal.loop-place-init
loop-place-init c =
    let same : length (rows_view c.args.imports.now) ≡ length c.args.imports.now = length-map c.args.imports.now _ in
    none_before (rows_view c.args.imports.now) (rows_view c.in_ok-importers.importers.items)
    (c.in_ok-importers.ensures ∙ ap (λ (n : ℕ). replicate {A = List ℕ} n []) (sym same))

pub loop-place-preserved : goal.loop-place-preserved
loop-place-preserved c =
    next_before (rows_view c.args.imports.now) (rows_view c.loop-place.importers.items)
    (rows_view c.add_to_all.new.importers.items) c.row_at.result.now c.loop-place.place
    c.loop-place.invariant c.row_at.ensures c.in_ok-add_to_all.ensures

pub returns : goal.returns
returns c =
    let same : length (rows_view c.args.imports.now) ≡ length c.args.imports.now = length-map c.args.imports.now _ in
    all_before (rows_view c.args.imports.now) (rows_view c.loop-place.importers.items) c.loop-place.place
    (omega (arith, same)) c.loop-place.invariant
