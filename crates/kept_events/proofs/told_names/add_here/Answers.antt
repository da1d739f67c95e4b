use Rattle.std.proofs.Common.{ℕ, List, ◌++◌, map, Bor}
use Rattle.mentions.specs.MarkViews.{body_view, mark_view}
use Rattle.tracked.specs.LocalViews.{seen_view}
use Rattle.meaning.specs.KeepingFields.{carried_fields, given_elements, kept_variables, obtained_fields}
use Rattle.kept_forms.proofs.AddedParts.{ok_then}
use Rattle.kept_events.proofs.told_names.add_here.Goals as goal

pub returns : goal.returns
returns c =
    let seen = seen_view c.args.here.around.seen.now in
    let bodies = map body_view c.args.here.around.bodies.now in
    let mark = mark_view c.args.mark.now in
    let names : List (Bor (List ℕ)) → List (List ℕ) = λ ns. map (λ (n : Bor (List ℕ)). n.now) ns in
    let carried : List (List ℕ) = carried_fields seen bodies (given_elements seen mark) in
    ok_then c.add_carried.result (names c.args.names.now.items) (names c.add_keeps.new.names.items)
    (names c.add_carried.new.names.items) (kept_variables seen bodies mark) (obtained_fields seen mark ++ carried)
    c.in_ok-add_keeps.ensures
    (ok_then c.add_carried.result (names c.add_keeps.new.names.items) (names c.add_obtained.new.names.items)
    (names c.add_carried.new.names.items) (obtained_fields seen mark) carried c.in_ok-add_obtained.ensures
    c.add_carried.ensures)
