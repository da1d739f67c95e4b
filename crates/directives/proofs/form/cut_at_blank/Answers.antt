use Rattle.std.proofs.Common.{◌∙◌, ◌+◌, ap, arith, drop, le_refl, length, length-drop, sym, take}
use Rattle.std.proofs.lemmas.List.{drop_all, take_all}
use Rattle.std.specs.List.{position_or_len}
use Rattle.directives.specs.Forms.{is_space}
use Rattle.directives.proofs.Cuts.{first_nowhere, first_there}
use Rattle.directives.proofs.form.cut_at_blank.Goals as goal

pub returns-in-Some-clause-before : goal.returns-in-Some-clause-before
returns-in-Some-clause-before c =
    let form = c.args.form.now in
    sym (ap (λ n. take n form) (first_there is_space form c.in-Some.end c.in-Some.ensures))

pub returns-in-Some-clause-behind : goal.returns-in-Some-clause-behind
returns-in-Some-clause-behind c =
    let form = c.args.form.now in
    let end = c.in-Some.end in
    take_all _ (drop (end + 1) form) (omega (arith, length-drop (end + 1) form))
    ∙ sym (ap (λ n. drop (n + 1) form) (first_there is_space form end c.in-Some.ensures))

pub returns-in-None-clause-before : goal.returns-in-None-clause-before
returns-in-None-clause-before c =
    let form = c.args.form.now in
    sym (ap (λ n. take n form) (first_nowhere is_space form c.in-None.ensures) ∙ take_all (length form) form (le_refl _))

pub returns-in-None-clause-behind : goal.returns-in-None-clause-behind
returns-in-None-clause-behind c =
    let form = c.args.form.now in
    let none = first_nowhere is_space form c.in-None.ensures in
    sym (drop_all (position_or_len is_space form + 1) form (omega (arith, none)))
