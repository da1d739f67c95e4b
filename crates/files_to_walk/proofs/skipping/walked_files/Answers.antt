use Rattle.std.proofs.Common.{true≢false, map, ap, sym, ◌∙◌, subst}
use Rattle.std.proofs.lemmas.Result.{IfOk-weaker}
use Rattle.silent_files.specs.WalkedFiles.{is_walked}
use Rattle.tree.specs.View.{file_syntax}
use Rattle.files_to_walk.specs.Signs.{may_give}
use Rattle.files_to_walk.specs.Skipping.{AreQuiet}
use Rattle.files_to_walk.proofs.SkippedFiles.{none_skipped, skips_so}
use Rattle.files_to_walk.proofs.skipping.walked_files.Goals as goal

pub returns-then-all-clause-skip : goal.returns-then-all-clause-skip
returns-then-all-clause-skip c = λ ps tables i p is_p tells none own imported.
    none_skipped ps tables p (is_walked c.new.result.items) (λ n. ap (λ ms. is_walked ms n) c.new.ensures.items)

pub returns-then-all-clause-all : goal.returns-then-all-clause-all
returns-then-all-clause-all c = λ is n. ap (λ ms. is_walked ms n) c.new.ensures.items

pub returns-clause-skip : goal.returns-clause-skip
returns-clause-skip c =
    IfOk-weaker c.marks_of.result _ _
    (λ marks are ps tables i p is_p tells none own imported.
    let givers = may_give c.args.known.now in
    let loaded = c.args.loaded.now in
    skips_so ps tables i p loaded is_p tells none givers (own c.if-all.false) imported marks.items
    (subst (λ sources. AreQuiet givers (map file_syntax loaded.trees.items) sources marks.items) c.deref-2.ensures.value
    (subst (λ trees. AreQuiet givers (map file_syntax trees) c.deref-2.result.now marks.items) c.deref.ensures.value are)))
    c.marks_of.ensures

pub returns-clause-all : goal.returns-clause-all
returns-clause-all c =
    IfOk-weaker c.marks_of.result _ _ (λ marks are is. absurd (true≢false (sym is ∙ c.if-all.false))) c.marks_of.ensures
