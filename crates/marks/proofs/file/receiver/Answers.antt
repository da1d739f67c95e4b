use Rattle.std.proofs.Common.{map, sym, ap, ◌∙◌}
use Rattle.meaning.specs.Mentions.{declared_elsewhere}
use Rattle.meaning.specs.Scopes.{named_in_types}
use Rattle.scopes.specs.Views.{bare_view}
use Rattle.tree.specs.View.{parameters_syntax}
use Rattle.marks.proofs.AddingBy.{elsewhere_kept, adds_kept, adds_same, then_adds}
use Rattle.marks.proofs.file.receiver.Goals as goal

pub returns-in_ok-declare_bare_names-in-Some : goal.returns-in_ok-declare_bare_names-in-Some
returns-in_ok-declare_bare_names-in-Some c =
    rw (c.in-Some.is, ← c.deref-in-Some-2.ensures.value)
    (then_adds _ _ _ _ _ _
    (adds_same _ _ _ _
    (ap (declared_elsewhere c.args.site)
    (ap (map bare_view) c.deref-in-Some.ensures.value ∙ c.in_ok-named-in-Some.ensures
    ∙ ap (λ l. named_in_types (parameters_syntax l)) (c.deref.ensures.value ∙ sym c.deref-in-Some-2.ensures.value)))
    (adds_kept _ c.declare_bare_names.new.marks _ (elsewhere_kept _ _) c.in_ok-declare_bare_names-in-Some.ensures))
    c.parameters.ensures)
