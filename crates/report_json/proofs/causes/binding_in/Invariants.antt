use Rattle.std.proofs.Common.{◌≡◌, drop}
use Rattle.report_json.specs.Causes.{binding_in}
use Rattle.report_json.proofs.causes.binding_in.Given as goal

abbrev pub invariant-loop-note : goal.invariant-loop-note
invariant-loop-note l = binding_in (drop l.note-index l.notes) ≡ binding_in l.notes
