use Rattle.std.proofs.Common.{inl, inr, rules}
use Rattle.command_line.proofs.RunFolders.{no_run_folder}
use Rattle.command_line.proofs.go_runs.run_folder.Goals as goal
use Rattle.command_line.proofs.go_runs.run_folder.Goals.{else-eq-via-then-eq+else-starts_with, else-eq-via-else-eq}

pub returns-else-eq : goal.returns-else-eq
returns-else-eq c =
    let none = no_run_folder c.args.file.now c.in_ok-unit.unit.now c.in_ok-unit.name.now c.in_ok-run.run'.now
    c.in_ok-run.field-0-1.now c.in_ok-run_name.field-0-0.now c.in_ok-run_name.run_name.now
    c.in_ok-unit.ensures c.in_ok-run.ensures c.in_ok-run_name.ensures in
    elim c.else-eq.branch [
      | else-eq-via-then-eq+else-starts_with w ↦ none (inr (search rules))
      | else-eq-via-else-eq w ↦ none (inl (search rules))
    ]
