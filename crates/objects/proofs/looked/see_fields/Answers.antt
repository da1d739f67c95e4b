use Rattle.std.proofs.Common.{◌≡◌, [], IfOk, map, subst, sym, ap, ◌∙◌}
use Rattle.meaning.specs.Objects.{object_rows, object_left}
use Rattle.meaning.specs.Tracked.{placed}
use Rattle.mentions.specs.MarkViews.{marks_view}
use Rattle.tracked.specs.LocalViews.{object_row_view, unbound_local, seen_view}
use Rattle.tracked_rows.specs.RowViews.{known_view, left_among}
use Rattle.objects.proofs.SeenSame.{seen_same, rows_still, lefts_still, objects_still}
use Rattle.objects.proofs.looked.see_fields.Goals as goal

pub object_rows-requires : goal.object_rows-requires
object_rows-requires c = λ n.
    c.in_ok-objects.ensures n
    ∙ ap (λ ms. unbound_local (known_view c.args.known) (placed [] (marks_view ms)) n) c.deref.ensures.value
    ∙ ap (λ ms. unbound_local (known_view c.args.known) (placed [] (marks_view ms)) n) (sym c.deref-2.ensures.value)

pub look-requires-clause-rows : goal.look-requires-clause-rows
look-requires-clause-rows c =
    let known = known_view c.args.known in
    let marks = placed [] (marks_view c.args.marks.items) in
    let rows = map object_row_view c.in_ok-rows.rows.items in
    ap (map object_row_view) c.deref-5.ensures.value
    ∙ rows_still known (known_view c.with_lefts.result) (left_among c.in_ok-kept.kept.now) c.with_lefts.ensures marks rows
    (c.in_ok-rows.ensures ∙ ap (λ ms. object_rows known (placed [] (marks_view ms))) c.deref-2.ensures.value)
    (λ at. ap (λ ls. left_among ls at) (c.in_ok-kept.ensures ∙ c.deref-4.ensures.value) ∙ c.in_ok-lefts.ensures at
    ∙ ap (λ rs. object_left (map object_row_view rs) (map object_row_view rs) at) c.deref-3.ensures.value)

pub look-requires-clause-lefts : goal.look-requires-clause-lefts
look-requires-clause-lefts c =
    let known = known_view c.args.known in
    let marks = placed [] (marks_view c.args.marks.items) in
    let rows = map object_row_view c.in_ok-rows.rows.items in
    lefts_still known (known_view c.with_lefts.result) (left_among c.in_ok-kept.kept.now) c.with_lefts.ensures marks rows
    (c.in_ok-rows.ensures ∙ ap (λ ms. object_rows known (placed [] (marks_view ms))) c.deref-2.ensures.value)
    (λ at. ap (λ ls. left_among ls at) (c.in_ok-kept.ensures ∙ c.deref-4.ensures.value) ∙ c.in_ok-lefts.ensures at
    ∙ ap (λ rs. object_left (map object_row_view rs) (map object_row_view rs) at) c.deref-3.ensures.value)

pub look-requires-clause-objects : goal.look-requires-clause-objects
look-requires-clause-objects c =
    let known = known_view c.args.known in
    let marks = placed [] (marks_view c.args.marks.items) in
    let rows = map object_row_view c.in_ok-rows.rows.items in
    objects_still known (known_view c.with_lefts.result) (left_among c.in_ok-kept.kept.now) c.with_lefts.ensures marks rows
    (c.in_ok-rows.ensures ∙ ap (λ ms. object_rows known (placed [] (marks_view ms))) c.deref-2.ensures.value)
    (λ at. ap (λ ls. left_among ls at) (c.in_ok-kept.ensures ∙ c.deref-4.ensures.value) ∙ c.in_ok-lefts.ensures at
    ∙ ap (λ rs. object_left (map object_row_view rs) (map object_row_view rs) at) c.deref-3.ensures.value)
    c.in_ok-objects.objects
    (λ n. c.in_ok-objects.ensures n
    ∙ ap (λ ms. unbound_local known (placed [] (marks_view ms)) n) c.deref.ensures.value)

pub returns-clause-view : goal.returns-clause-view
returns-clause-view c =
    let known = known_view c.args.known in
    let marks = placed [] (marks_view c.args.marks.items) in
    let rows = map object_row_view c.in_ok-rows.rows.items in
    subst (λ s. IfOk c.look.result (λ seen. seen_view seen ≡ s))
    (seen_same known (known_view c.with_lefts.result) (left_among c.in_ok-kept.kept.now) c.with_lefts.ensures marks rows
    (c.in_ok-rows.ensures ∙ ap (λ ms. object_rows known (placed [] (marks_view ms))) c.deref-2.ensures.value)
    (λ at. ap (λ ls. left_among ls at) (c.in_ok-kept.ensures ∙ c.deref-4.ensures.value) ∙ c.in_ok-lefts.ensures at
    ∙ ap (λ rs. object_left (map object_row_view rs) (map object_row_view rs) at) c.deref-3.ensures.value))
    c.look.ensures.view
