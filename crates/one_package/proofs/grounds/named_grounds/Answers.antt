use Rattle.std.proofs.Common.{ap, map, sym, ◌∙◌, arith}
use Rattle.meaning.specs.Declarations.{declaration_of_use}
use Rattle.names.specs.Answers.{names_by_path}
use Rattle.tree.specs.View.{file_syntax}
use Rattle.given_packages.proofs.ImportedNames.{means_so}
use Rattle.one_package.proofs.WholeOnly.{some_entry, none_whole, not_empty, is_empty}
use Rattle.report.specs.Entries.{entry_of}
use Rattle.one_package.proofs.grounds.named_grounds.Goals as goal

pub returns-then-not-is_empty-clause-grounds : goal.returns-then-not-is_empty-clause-grounds
returns-then-not-is_empty-clause-grounds g c = λ ps tables i p is_p tells around none.
    let are = c.in_ok-faults.ensures.faults ps i p is_p tells (sym none) around.are_unranked in
    let size = c.in_ok-faults.faults.ok in
    let one = some_entry (map entry_of c.in_ok-faults.faults.items)
    (not_empty entry_of c.in_ok-faults.faults.items _ (omega (arith, size.0, size.1)) c.if-not-is_empty.ensures) in
    record { each = are; one = (one.0, (are one.0).0 one.1) }

pub returns-clause-grounds : goal.returns-clause-grounds
returns-clause-grounds g c = λ ps tables i p is_p tells around none.
    let size = c.in_ok-faults.faults.ok in
    let whole = none_whole ps i (map entry_of c.in_ok-faults.faults.items)
    (c.in_ok-faults.ensures.faults ps i p is_p tells (sym none) around.are_unranked)
    (is_empty entry_of c.in_ok-faults.faults.items _ (omega (arith, size.0, size.1)) c.if-not-is_empty.ensures) in
    let names = names_by_path c.args.around.names.now in
    let trees = ap (map file_syntax) c.deref.ensures.value ∙ sym tells.are_trees in (
      whole,
      c.in_ok-told.ensures.told ps tables i p is_p tells around whole
          (λ file at. c.in_ok-names.ensures file at
          ∙ (ap (λ ts. declaration_of_use ts names file at) trees ∙ means_so ps p names around.are_names file at)),
    )
