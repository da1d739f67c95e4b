use Rattle.std.proofs.Common.{◌≡◌, ◌∙◌, refl, sym, ap, subst, arith, length, List, ℕ, Option, Some}
use Rattle.std.specs.Prelude.{replicate}
use Rattle.std.proofs.lemmas.List.{length-map}
use Rattle.imports.specs.Views.{rank_of, rows_view}
use Rattle.board.specs.Ready.{AreListed}
use Rattle.board.proofs.Listings.{starts}
use Rattle.board.proofs.ready.Ready.new.Goals as goal

pub look_at_all-requires : goal.look_at_all-requires
look_at_all-requires c =
    let same : length (rows_view c.args.imports.now) ≡ length c.args.imports.now = length-map c.args.imports.now _ in
    let P : List ℕ → Type 0 = λ l. AreListed (rank_of c.args.order.now) l in
    let exact = c.in_ok-listed.ensures.exact in
    starts (rows_view c.args.imports.now) (rank_of c.args.order.now) c.args.phases.now c.ranked.result.now _
    (subst P (sym c.ranked.ensures) c.requires.listed)
    (c.requires.many ∙ sym same)
    c.in_ok-listed.ensures.items refl
    (c.in_ok-known.ensures ∙ ap (λ (n : ℕ). replicate {A = Option ℕ} n (Some 0)) (sym same))
    (omega (arith, exact, same))
