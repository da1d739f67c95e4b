use Rattle.std.proofs.Common.{map, sym, ap, ◌∙◌, arith}
use Rattle.std.specs.Prelude.{flat_map}
use Rattle.std.specs.List.{list_any}
use Rattle.meaning.specs.Tracked.{these_fields}
use Rattle.silent_files.specs.WalkedFiles.{is_walked}
use Rattle.tree.specs.View.{file_syntax}
use Rattle.keeping.specs.Keeping.{each_known}
use Rattle.noted_fields.specs.NotedFields.{filled_by, kept_by, note_view}
use Rattle.keeping.specs.ToldFiles.{told_notes, told_puts}
use Rattle.keeping.proofs.FilesNoted.{none_keep, none_in_all, some_in_all}
use Rattle.keeping.proofs.TextNames.{no_text, some_text}
use Rattle.keeping.proofs.fields.fields_in_second.Goals as goal

pub returns-then-not-some_told_puts : goal.returns-then-not-some_told_puts
returns-then-not-some_told_puts c = λ put.
    none_keep (is_walked c.args.walked.now) (each_known c.args.known) 0 (map file_syntax c.args.files.now)
    (sym c.in_ok-told.ensures.put ∙ ap (list_any told_puts) (sym c.deref.ensures.value)
    ∙ sym c.if-not-some_told_puts.ensures)
    put
    ∙ sym c.none.ensures

pub returns-then-is_empty : goal.returns-then-is_empty
returns-then-is_empty c = λ put.
    let size = c.in_ok-keeping.keeping.ok in
    let said = c.in_ok-notes.ensures ∙ ap (flat_map (told_notes (each_known c.args.known))) c.deref-2.ensures.value
    ∙ c.in_ok-told.ensures.notes in
    let kept = c.in_ok-keeping.ensures ∙ ap (λ ns. kept_by (map note_view ns)) c.deref-3.ensures.value
    ∙ ap kept_by said in
    none_in_all (each_known c.args.known) (map file_syntax c.args.files.now)
    (sym kept ∙ no_text c.in_ok-keeping.keeping.items _ (omega (arith, size.0, size.1)) c.if-is_empty.ensures)
    ∙ sym c.none-then-is_empty.ensures

pub returns : goal.returns
returns c = λ put.
    let size = c.in_ok-keeping.keeping.ok in
    let said = c.in_ok-notes.ensures ∙ ap (flat_map (told_notes (each_known c.args.known))) c.deref-2.ensures.value
    ∙ c.in_ok-told.ensures.notes in
    let kept = c.in_ok-keeping.ensures ∙ ap (λ ns. kept_by (map note_view ns)) c.deref-3.ensures.value
    ∙ ap kept_by said in
    let filled = c.in_ok-filled.ensures ∙ ap (λ ns. filled_by (map note_view ns)) c.deref-4.ensures.value
    ∙ ap filled_by said in
    some_in_all (each_known c.args.known) (map file_syntax c.args.files.now)
    (λ none. some_text c.in_ok-keeping.keeping.items _ (omega (arith, size.0, size.1)) c.if-is_empty.ensures (kept ∙ none))
    ∙ (λ i. these_fields (sym kept i) (sym filled i))
