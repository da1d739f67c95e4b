use Rattle.std.proofs.Common.{ap, sym, ◌∙◌, refl}
use Rattle.tree.specs.View.{statements_syntax}
use Rattle.meaning.specs.Mentions.{statements_marks}
use Rattle.tree.proofs.Views.{block_statements-out}
use Rattle.marks.proofs.AddingBy.{alone_kept, adds_kept, adds_same}
use Rattle.marks.proofs.OuterMarks.{adds_function, braces_out, receiver_same, body_same}
use Rattle.marks.proofs.WalkLists.{opens_kept}
use Rattle.marks.proofs.file.function.Goals as goal

pub returns-in_ok-push-in-Some-2 : goal.returns-in_ok-push-in-Some-2
returns-in_ok-push-in-Some-2 c =
    rw (c.in-Some.is, block_statements-out, braces_out, ← c.deref.ensures.value)
    (adds_function _ _ _ _ _ _ _ _
    (opens_kept _ _ c.in_ok-place-in-Some.place _
    (c.in_ok-place-in-Some.ensures ∙ body_same _ _ _ _ _ _ _ (receiver_same _ _ c.as_deref.ensures.value))
    (adds_kept _ _ _ (alone_kept _ refl refl) c.in_ok-push-in-Some.ensures))
    c.in_ok-function_types-in-Some.ensures
    (adds_same _ _ _ _
    (ap (λ l. statements_marks (statements_syntax l)) (c.deref-in-Some.ensures.value ∙ sym c.deref.ensures.value))
    c.in_ok-statements-in-Some.ensures)
    (adds_kept _ _ _ (alone_kept _ refl refl) c.in_ok-push-in-Some-2.ensures))
