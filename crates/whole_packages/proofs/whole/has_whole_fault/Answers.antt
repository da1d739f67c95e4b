use Rattle.std.proofs.Common.{◌∙◌, ap, arith}
use Rattle.imports.specs.Views.{at_path}
use Rattle.meaning.specs.OuterBlocks.{has_any}
use Rattle.report.specs.Entries.{entry_of}
use Rattle.whole_packages.specs.WholeEntries.{whole_entries}
use Rattle.whole_packages.proofs.FaultyPackages.{any_if_not_empty}
use Rattle.whole_packages.proofs.whole.has_whole_fault.Goals as goal

pub returns : goal.returns
returns c = λ second.
    let faults = c.in_ok-faults.faults in
    any_if_not_empty entry_of faults.items _ c.is_empty.result c.is_empty.ensures (omega (arith, faults.ok.0, faults.ok.1))
    ∙ (ap has_any c.in_ok-faults.ensures.entries
    ∙ ap (λ o. has_any (whole_entries (at_path c.args.unranked.places.now) c.args.unranked.marks.now o c.args.loaded.now))
    second)
