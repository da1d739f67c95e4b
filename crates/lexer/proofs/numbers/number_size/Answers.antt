use Rattle.std.proofs.Common.{◌≡◌, ◌-◌, get_or, true, sym, ◌∙◌, subst, arith, ⊎_elim}
use Rattle.std.proofs.lemmas.Bool.{cases_eq}
use Rattle.lexer.specs.Pieces.{goes_on}
use Rattle.lexer.proofs.numbers.number_size.Goals as goal

pub loop-size-preserved : goal.loop-size-preserved
loop-size-preserved c =
    let old = c.loop-size.invariant in
    let hex = c.is_hexadecimal-hexadecimal.result in
    let text = c.args.text.now in
    let here : goes_on hex (get_or text (c.loop-size.size - 1) 0) (get_or text c.loop-size.size 0) ≡ true = sym c.goes_on.ensures ∙ c.if-goes_on.true in
    record {
      positive = omega arith;
      in_range = omega arith;
      number = λ i p l.
          ⊎_elim
          (λ e. subst (λ k. goes_on hex (get_or text (k - 1) 0) (get_or text k 0) ≡ true) (sym e) here)
          (λ ne. old.number i p (omega arith))
          (cases_eq i c.loop-size.size);
    }
