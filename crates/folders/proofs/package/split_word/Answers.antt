use Rattle.std.proofs.Common.{length, ap, rules}
use Rattle.folders.proofs.Words.{no_package, not_empty, not_printed, same_parts, package_of}
use Rattle.folders.proofs.package.split_word.Goals as goal
use Rattle.folders.proofs.package.split_word.Goals.{then-is_empty-via-then-is_empty, then-is_empty-via-else-is_empty+then-is_empty-2, then-is_empty-via-else-is_empty+else-is_empty-2+then-not-is_printable}

pub returns-in_err-path-clause-none : goal.returns-in_err-path-clause-none
returns-in_err-path-clause-none c =
    rw c.from_residual.ensures (no_package c.args.word.now c.split_once.result c.split_once.ensures.cases c.in_err-path.was)

pub returns-then-is_empty-clause-none : goal.returns-then-is_empty-clause-none
returns-then-is_empty-clause-none c path folder is =
    let same = same_parts c.args.word.now c.split_once.result c.in_ok-path.path c.in_ok-path.folder c.split_once.ensures.cases c.in_ok-path.was path folder is in
    let path_length = ap length same.0 in
    let folder_length = ap length same.1 in
    elim c.then-is_empty.branch [
      | then-is_empty-via-then-is_empty w ↦ not_empty _ _ w.if-is_empty.ensures path_length is.has_path
      | then-is_empty-via-else-is_empty+then-is_empty-2 w ↦ not_empty _ _ w.if-is_empty-2.ensures folder_length is.has_folder
      | then-is_empty-via-else-is_empty+else-is_empty-2+then-not-is_printable w ↦ not_printed _ _ _ _ w.is_printable.ensures w.if-not-is_printable.true w.as_bytes.ensures.value same.0 is.printable
    ]

pub returns-clause-split : goal.returns-clause-split
returns-clause-split c =
    package_of c.args.word.now c.split_once.result c.in_ok-path.path c.in_ok-path.folder c.split_once.ensures.cases c.in_ok-path.was (search rules) (search rules) (search rules)
