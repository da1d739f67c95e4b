use Rattle.std.proofs.Common.{map, ap, ◌∙◌}
use Rattle.std.proofs.lemmas.List.{map-append}
use Rattle.report.specs.Entries.{entry_of}
use Rattle.whole_packages.specs.WholeEntries.{second_view}
use Rattle.whole_packages.proofs.SecondPlaces.{entries_there, entries_past, no_more}
use Rattle.whole_packages.proofs.whole.add_second_at.Goals as goal

pub returns-in_ok-push-in-Some : goal.returns-in_ok-push-in-Some
returns-in_ok-push-in-Some c =
    rw (
      entries_there c.args.trees.now (second_view c.args.second) c.in-Some.numbered.now c.in-Some.ensures.lookup.3.0
          c.in-Some.ensures.lookup.1,
      ← c.as_str.ensures,
    ) (ap (map entry_of) c.in_ok-push-in-Some.ensures.items ∙ map-append entry_of c.args.diagnostics.now.items _)

pub returns-in-None : goal.returns-in-None
returns-in-None c =
    no_more (map entry_of c.args.diagnostics.now.items) _
    (entries_past c.args.trees.now (second_view c.args.second) c.in-None.ensures.lookup.3)
