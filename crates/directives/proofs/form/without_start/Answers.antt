use Rattle.std.proofs.Common.{◌≡◌, ◌∙◌, ◌<◌, ap, arith, drop, false, get_or, length, length-drop, sym}
use Rattle.std.proofs.lemmas.List.{take_all}
use Rattle.std.proofs.lemmas.List.Sums.{prefix_len_is}
use Rattle.directives.specs.Forms.{is_white_space}
use Rattle.directives.proofs.form.without_start.Goals as goal
use Rattle.directives.proofs.form.without_start.Goals.{then-bytes-test+else-is_white_space, else-bytes-test}

pub returns : goal.returns
returns c =
    let bytes = c.args.bytes.now in
    let start = c.bytes.start in
    let stops : start < length bytes → is_white_space (get_or bytes start 0) ≡ false
    = elim c.bytes-test.branch [
      | then-bytes-test+else-is_white_space w ↦ λ below. sym w.is_white_space.ensures ∙ w.if-is_white_space.false
      | else-bytes-test w ↦ λ below. absurd (omega arith)
    ] in
    let is = prefix_len_is is_white_space bytes start 0 c.bytes.invariant.0 c.bytes.invariant.1 stops in
    take_all _ (drop start bytes) (omega (arith, length-drop start bytes)) ∙ ap (λ n. drop n bytes) (sym is)
