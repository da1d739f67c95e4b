use Rattle.std.proofs.Common.{◌≡◌, List, [], ◌∷◌, ◌++◌, ap, flat_map, map, sym, ◌∙◌}
use Rattle.std.proofs.lemmas.List.Folds.{flat_map-map}
use Rattle.accepting.specs.Findings.{found_view}
use Rattle.accepting.specs.Found.{found_in}
use Rattle.format_parts.specs.Told.{style_of}
use Rattle.told_reports.specs.UnitTexts.{shape_text}
use Rattle.told_reports.proofs.unit.unit_text.Goals as goal

pub returns-in-Ok : goal.returns-in-Ok
returns-in-Ok c =
    let form = c.args.form in
    let style = style_of form.telling form.with_reasons in
    let shown = c.deref.result.now in
    let one : c.push.new.self.items ≡ c.args.unit ∷ [] =
    c.in_ok-push.ensures.items ∙ ap (λ xs. xs ++ c.args.unit ∷ []) c.new-one.ensures.items in
    c.in-Ok.ensures.taken
    ∙ ap (λ t. t ++ flat_map (λ p. shape_text form.shape form.telling.fixes.now c.style_of.result (found_view p)) shown) c.new.ensures.items
    ∙ ap (λ s. flat_map (λ p. shape_text form.shape form.telling.fixes.now s (found_view p)) shown) c.style_of.ensures
    ∙ ap (flat_map (λ p. shape_text form.shape form.telling.fixes.now style (found_view p))) c.deref.ensures.value
    ∙ sym (flat_map-map (shape_text form.shape form.telling.fixes.now style) found_view c.in_ok-told.told.items)
    ∙ ap (flat_map (shape_text form.shape form.telling.fixes.now style))
    (c.in_ok-told.ensures ∙ ap (λ ps. found_in form.telling (map found_view ps)) one)
