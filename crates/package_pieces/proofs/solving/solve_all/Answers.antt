use denote.Param.Send.{sendable}
use Rattle.std.proofs.Common.{◌++◌, ap, ◌∙◌, map}
use Rattle.calls_flags.specs.KnownCalls.{known_calls}
use Rattle.path_faults.specs.FoundFaults.{each_from}
use Rattle.report.specs.Entries.{entry_of}
use Rattle.package_pieces.proofs.Joined.{found_joined}
use Rattle.package_pieces.proofs.SharedJobs.{solving_sync}
use Rattle.package_pieces.specs.Found.{outer_entries}
use Rattle.package_pieces.proofs.solving.solve_all.Goals as goal

pub work_all-requires-sync-J : goal.work_all-requires-sync-J
work_all-requires-sync-J g c κs within = search (sendable, solving_sync)

pub returns : goal.returns
returns g c = λ fs tell x.
    let files = c.args.files.now in
    found_joined (known_calls c.args.calls) files c.deref.result.now c.in_ok-lists.lists.items
    (c.deref.ensures.value ∙ c.in_ok-numbers.ensures) c.in_ok-lists.ensures.all fs tell x c.add_outer.new.found.items
    (c.in_ok-add_outer.ensures
    ∙ ap (λ ds. map entry_of ds ++ each_from outer_entries 0 files) c.in_ok-found.ensures)
