use Rattle.std.proofs.Common.{◌≡◌, ℕ, ◌+◌, ◌++◌, ap, ◌∙◌, subst, List, length, take}
use Rattle.std.specs.Prelude.{IfOk}
use Rattle.std.proofs.lemmas.List.{take-append-drop}
use Rattle.workers.specs.Pieces.{ComeOf}
use Rattle.workers.proofs.Parts.{comes_joined}
use Rattle.workers.proofs.helpers.+all_in.Goals as goal

pub returns-in-Ok-clause-all : goal.returns-in-Ok-clause-all
returns-in-Ok-clause-all g t c =
    let n = c.div_ceil.result in
    let items = c.args.part.items.now in
    let first = c.args.part.first in
    let gives = g.J.Piece.gives c.args.part.job.now in
    let front = c.split_at.result.0.now in
    let back = c.split_at.result.1.now in
    let whole : front ++ back ≡ items =
    ap (λ (l : List g.row.T.Denot). l ++ back) c.split_at.ensures.front
    ∙ ap (λ (l : List g.row.T.Denot). take n items ++ l) c.split_at.ensures.back
    ∙ take-append-drop n items in
    let P : List g.row.T.Denot → Type 0 = λ l. IfOk c.both.result (λ found. ComeOf gives first l found.items) in
    let kept = ap (λ p. IfOk c.join.result (λ found. ComeOf (g.J.Piece.gives p.job.now) p.first p.items.now found.items))
    c.in-Ok.ensures.ok in
    subst P whole (comes_joined gives (λ v. v.items) first front back c.join.result c.all_in-rest.result c.both.result
    (subst (λ (A : Type 0). A) kept c.join.ensures) c.all_in-rest.ensures.all c.both.ensures)
