use Rattle.std.proofs.Common.{◌+◌, arith, sym, subst, get_or, drop, List, ℕ}
use Rattle.std.proofs.lemmas.List.{drop_more, drop_all}
use Rattle.imports.specs.Views.{rows_view}
use Rattle.board.specs.Importers.{AddsImporter}
use Rattle.board.proofs.ImportersAdded.{adds_none, adds_next}
use Rattle.board.proofs.importers.add_to_all.Goals as goal

pub loop-import-init : goal.loop-import-init
loop-import-init c end h = h

pub loop-import-preserved : goal.loop-import-preserved
loop-import-preserved c end h =
    let i = c.loop-import.import-index in
    let old = rows_view c.loop-import.importers.items in
    let P : List ℕ → Type 0 = λ l. AddsImporter l c.args.importer old end in
    c.loop-import.invariant end (
    subst P (sym (drop_more c.args.imports.now i 0 (omega arith))) (
    adds_next (get_or c.args.imports.now i 0) c.args.importer old (rows_view c.push_at.new.rows.items)
    c.in_ok-push_at.ensures.ok (drop (i + 1) c.args.imports.now) end h))

pub returns : goal.returns
returns c =
    let now = rows_view c.loop-import.importers.items in
    let P : List ℕ → Type 0 = λ l. AddsImporter l c.args.importer now now in
    c.loop-import.invariant now (
    subst P (sym (drop_all c.loop-import.import-index c.args.imports.now (omega arith))) (adds_none c.args.importer now))
