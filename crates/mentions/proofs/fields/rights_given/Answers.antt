use Rattle.std.proofs.Common.{[], drop, ap, ◌∙◌, if◌then◌else◌}
use Rattle.std.specs.Prelude.{is_some}
use Rattle.tree.specs.View.{expression_syntax, expressions_syntax}
use Rattle.tree.proofs.Depths.{drop_item, drop_past}
use Rattle.meaning.specs.Mentions.{bare_within, is_one, right_given, rights_given}
use Rattle.mentions.proofs.Adding.{adds_next, adds_all, adds_same}
use Rattle.mentions.proofs.FieldForms.{none_left, none_right}
use Rattle.mentions.proofs.fields.rights_given.Goals as goal

pub loop-index-preserved : goal.loop-index-preserved
loop-index-preserved c =
    let l = c.index-lefts-index.result in
    let r = c.in-Some.right.now in
    let left = drop_item c.args.lefts.now c.loop-index.index l c.loop-index-test.true c.index-lefts-index.is in
    let right = drop_item c.args.rights.now c.loop-index.index r c.in-Some.ensures.lookup.3.0 c.in-Some.ensures.lookup.1 in
    let is_only = is_one (expressions_syntax c.args.rights.now) in
    adds_next _ _ _ _ _ _ c.loop-index.invariant
    (λ i. rights_given c.args.site is_only (expressions_syntax (left i)) (expressions_syntax (right i)))
    (adds_same _ _ _ _
    (ap (λ b. if is_some (bare_within (expression_syntax l)) then [] else right_given c.args.site b (expression_syntax r))
    c.is_one-is_only.ensures)
    c.in_ok-pair_given-in-Some.ensures)

pub returns-in-None : goal.returns-in-None
returns-in-None c =
    let nothing = drop_past c.args.rights.now c.loop-index.index c.in-None.ensures.lookup.3 in
    let is_only = is_one (expressions_syntax c.args.rights.now) in
    adds_all c.args.marks.now.list.items _ _ (rights_given c.args.site is_only (expressions_syntax c.args.lefts.now) (expressions_syntax c.args.rights.now))
    c.loop-index.invariant
    (ap (λ rs. rights_given c.args.site is_only (expressions_syntax (drop c.loop-index.index c.args.lefts.now)) (expressions_syntax rs)) nothing
    ∙ none_right c.args.site is_only (expressions_syntax (drop c.loop-index.index c.args.lefts.now)))

pub returns : goal.returns
returns c =
    let nothing = drop_past c.args.lefts.now c.loop-index.index c.loop-index-test.false in
    let is_only = is_one (expressions_syntax c.args.rights.now) in
    adds_all c.args.marks.now.list.items _ _ (rights_given c.args.site is_only (expressions_syntax c.args.lefts.now) (expressions_syntax c.args.rights.now))
    c.loop-index.invariant
    (ap (λ ls. rights_given c.args.site is_only (expressions_syntax ls) (expressions_syntax (drop c.loop-index.index c.args.rights.now))) nothing
    ∙ none_left c.args.site is_only (expressions_syntax (drop c.loop-index.index c.args.rights.now)))
