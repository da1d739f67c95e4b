use Rattle.std.proofs.Common.{◌∙◌, subst, sym}
use Rattle.folders.specs.Names.{IsPrintable}
use Rattle.package_list.specs.ListTexts.{IsListFault}
use Rattle.inputs.proofs.list_input.fault_of_list.Goals as goal

pub returns-in-Ok : goal.returns-in-Ok
returns-in-Ok c bytes is = record {
  path = c.in-Incomplete.path;
  is_first = subst (IsListFault bytes) c.in-Incomplete.is is;
  is_path = λ printable.
      c.in-Ok.ensures (subst IsPrintable (sym c.as_str.ensures.value) printable) ∙ c.as_str.ensures.value;
}
