use Rattle.std.proofs.Common.{◌-◌, ◌<◌, List, length, arith, ap, ◌∙◌, subst}
use Rattle.names.specs.Answers.{at_name, text_at, names_by_path}
use Rattle.names.specs.Ordered.{AreFirst}
use Rattle.names.specs.Uses.{meant, use_view}
use Rattle.meaning.specs.Scopes.{LocalName, Naming, file_names}
use Rattle.meaning.specs.Declarations.{Use, Meaning, locals_of}
use Rattle.scopes.specs.declared.naming.Naming.{Naming as KeptNaming}
use Rattle.scopes.specs.Views.{naming_view, namings_view}
use Rattle.tree.specs.Syntax.{SourceFile}
use Rattle.tree.specs.View.{file_syntax}
use Rattle.names.proofs.FirstAnswers.{none_known, at_no_use, at_use, all_known, meant_by_maps}
use Rattle.names.proofs.answers.file_answers.Goals as goal

pub loop-left-init : goal.loop-left-init
loop-left-init c =
    let file : SourceFile = file_syntax c.args.file.now in
    let items : List KeptNaming = c.in_ok-namings.namings.items in (
      c.in_ok-answers.ensures.numbered,
      omega (arith, c.len-left.ensures, c.in_ok-namings.namings.ok.0),
      λ at.
          none_known (meant (at_name c.args.block.now) (names_by_path c.args.packages.now) file)
          (locals_of (file_names file)) items c.len-left.result _ at
          (omega (arith, c.len-left.ensures, c.in_ok-namings.namings.ok.0)) (c.in_ok-answers.ensures.none at),
    )

pub loop-left-preserved-in-Continue-branch-8 : goal.loop-left-preserved-in-Continue-branch-8
loop-left-preserved-in-Continue-branch-8 c =
    let file : SourceFile = file_syntax c.args.file.now in
    let all : List LocalName = locals_of (file_names file) in
    let items : List KeptNaming = c.in_ok-namings.namings.items in
    let means : Use → Meaning = meant (at_name c.args.block.now) (names_by_path c.args.packages.now) file in
    let within : c.loop-left.left - 1 < length items = omega (arith, c.loop-left-test.true, c.loop-left.invariant.1) in
    let firsts : AreFirst c.in_ok-firsts.firsts all =
    subst (λ (ns : List Naming). AreFirst c.in_ok-firsts.firsts (locals_of ns))
    (ap namings_view c.deref.ensures.value ∙ c.in_ok-namings.ensures) c.in_ok-firsts.ensures in (
      c.in_ok-keep.ensures.numbered,
      omega (arith, within),
      λ at.
          at_use means all items (c.loop-left.left - 1) _ c.use_of.result within
          (c.use_of.ensures all firsts ∙ ap (λ (n : KeptNaming). use_view all (naming_view n)) c.index.ensures)
          c.in-Some.name c.in-Some.at c.meaning.result _ _ at c.loop-left.left c.in-Some.is
          (omega (arith, c.loop-left-test.true))
          (meant_by_maps (at_name c.args.block.now) (names_by_path c.args.packages.now) file c.in_ok-firsts.firsts
          c.in_ok-locals.locals.items c.deref-4.result.now (text_at c.in_ok-imports.imports) c.in-Some.name.now
          c.in-Some.at _ firsts c.in_ok-locals.ensures.same c.deref-4.ensures.value c.in_ok-imports.ensures
          c.meaning.ensures)
          (c.in_ok-keep.ensures.kept at) (c.loop-left.invariant.2 at),
    )

pub loop-left-preserved : goal.loop-left-preserved
loop-left-preserved c =
    let file : SourceFile = file_syntax c.args.file.now in
    let all : List LocalName = locals_of (file_names file) in
    let items : List KeptNaming = c.in_ok-namings.namings.items in
    let means : Use → Meaning = meant (at_name c.args.block.now) (names_by_path c.args.packages.now) file in
    let within : c.loop-left.left - 1 < length items = omega (arith, c.loop-left-test.true, c.loop-left.invariant.1) in
    let firsts : AreFirst c.in_ok-firsts.firsts all =
    subst (λ (ns : List Naming). AreFirst c.in_ok-firsts.firsts (locals_of ns))
    (ap namings_view c.deref.ensures.value ∙ c.in_ok-namings.ensures) c.in_ok-firsts.ensures in (
      c.loop-left.invariant.0,
      omega (arith, within),
      λ at.
          at_no_use means all items (c.loop-left.left - 1) _ c.use_of.result within
          (c.use_of.ensures all firsts ∙ ap (λ (n : KeptNaming). use_view all (naming_view n)) c.index.ensures)
          _ at c.loop-left.left c.in_default.is (omega (arith, c.loop-left-test.true)) (c.loop-left.invariant.2 at),
    )

pub returns : goal.returns
returns c =
    let file : SourceFile = file_syntax c.args.file.now in
    λ at.
    all_known (meant (at_name c.args.block.now) (names_by_path c.args.packages.now) file)
    (locals_of (file_names file)) c.in_ok-namings.namings.items (file_names file) c.loop-left.left _ at
    (omega (arith, c.loop-left-test.false)) c.in_ok-namings.ensures (c.loop-left.invariant.2 at)
