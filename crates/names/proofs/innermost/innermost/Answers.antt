use Rattle.std.proofs.Common.{sym, arith}
use Rattle.names.specs.Answers.{at_name}
use Rattle.names.specs.Ordered.{locals_view}
use Rattle.names.proofs.InnermostOf.{left-all, left-none}
use Rattle.names.proofs.KeptLocals.{links-within, run-within, run-found, kept-none, kept-link, kept-link_below, kept-last, kept-hit}
use Rattle.names.proofs.innermost.innermost.Goals as goal

pub returns-in_default : goal.returns-in_default
returns-in_default c =
    kept-none (locals_view c.args.ordered.now) c.args.name.now (at_name c.args.runs.now c.args.name.now) c.get.result
    (c.requires.runs.each c.args.name.now) c.get.ensures.value c.args.at c.in_default.is

pub number_before-end-requires-clause-within : goal.number_before-end-requires-clause-within
number_before-end-requires-clause-within c =
    run-within c.args.ordered.now c.args.name.now _
    (run-found (locals_view c.args.ordered.now) c.args.name.now (at_name c.args.runs.now c.args.name.now) c.get.result
    (c.requires.runs.each c.args.name.now) c.get.ensures.value _ c.in-Some.is)

pub number_before-end-requires-clause-ordered : goal.number_before-end-requires-clause-ordered
number_before-end-requires-clause-ordered c =
    let is =
    run-found (locals_view c.args.ordered.now) c.args.name.now (at_name c.args.runs.now c.args.name.now) c.get.result
    (c.requires.runs.each c.args.name.now) c.get.ensures.value _ c.in-Some.is in
    is.by_start

pub number_before-end-requires-clause-in_order : goal.number_before-end-requires-clause-in_order
number_before-end-requires-clause-in_order c =
    let is =
    run-found (locals_view c.args.ordered.now) c.args.name.now (at_name c.args.runs.now c.args.name.now) c.get.result
    (c.requires.runs.each c.args.name.now) c.get.ensures.value _ c.in-Some.is in
    is.in_order

pub loop-end-init : goal.loop-end-init
loop-end-init c =
    let is =
    run-found (locals_view c.args.ordered.now) c.args.name.now (at_name c.args.runs.now c.args.name.now) c.get.result
    (c.requires.runs.each c.args.name.now) c.get.ensures.value _ c.in-Some.is in
    let within = run-within c.args.ordered.now c.args.name.now _ is in
    let upto = c.number_before-end.ensures.within in
    let many = links-within c.args.ordered.now c.args.links.now c.requires.links in
    record {
      is = is;
      within = omega arith;
      linked = omega arith;
      left = left-all _ _ _ _ _ is c.number_before-end.ensures;
    }

pub loop-end-smaller-then-local-at : goal.loop-end-smaller-then-local-at
loop-end-smaller-then-local-at c =
    kept-link_below _ _ _ _ _ c.loop-end.invariant.is c.loop-end.invariant.left c.loop-end-test.true _ c.requires.links

pub loop-end-preserved-then-local-at : goal.loop-end-preserved-then-local-at
loop-end-preserved-then-local-at c =
    let below =
    kept-link_below _ _ _ _ _ c.loop-end.invariant.is c.loop-end.invariant.left c.loop-end-test.true _ c.requires.links in
    let within = c.loop-end.invariant.within in
    let linked = c.loop-end.invariant.linked in
    record {
      is = c.loop-end.invariant.is;
      within = omega arith;
      linked = omega arith;
      left = kept-link _ _ _ _ _ c.loop-end.invariant.is c.loop-end.invariant.left c.loop-end-test.true _ _ c.requires.links
          c.if-local-at.true;
    }

pub returns-then-local-at-2 : goal.returns-then-local-at-2
returns-then-local-at-2 c =
    kept-hit _ _ _ _ _ c.loop-end.invariant.is c.loop-end.invariant.left c.loop-end-test.true _ c.if-local-at-2.true
    c.if-local-at.false

pub loop-end-preserved : goal.loop-end-preserved
loop-end-preserved c =
    let within = c.loop-end.invariant.within in
    let linked = c.loop-end.invariant.linked in
    record {
      is = c.loop-end.invariant.is;
      within = omega arith;
      linked = omega arith;
      left = kept-last _ _ _ _ _ c.loop-end.invariant.is c.loop-end.invariant.left c.loop-end-test.true _
          c.if-local-at-2.false;
    }

pub returns : goal.returns
returns c =
    sym (left-none _ _ _ _ _ c.loop-end.invariant.is c.loop-end.invariant.left c.loop-end-test.false)
