use Rattle.std.proofs.Common.{map, option_map, ap, ◌∙◌}
use Rattle.baseline_json.specs.BaselineValues.{entry_of}
use Rattle.baseline_json.proofs.ValuesRead.{package_more}
use Rattle.baseline_json.proofs.packages.AllFindingsAddItem.add_item.Goals as goal

pub returns-clause-ok : goal.returns-clause-ok
returns-clause-ok c =
    let read = c.in_ok-findings.ensures.ok in (
      read.0,
      read.1,
      λ added h. package_more added read.0 _ _ _
          (ap (option_map (λ list. map entry_of list.items)) c.take.ensures.value ∙ h) read.2 c.in_ok-self.ensures,
    )
