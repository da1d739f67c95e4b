use Rattle.std.proofs.Common.{sym, ◌∙◌}
use Rattle.files_to_walk.proofs.SkippedFiles.{not_true}
use Rattle.files_to_walk.proofs.skipping.is_quiet.Goals as goal

pub returns : goal.returns
returns c = λ is. record {
  no_group = sym c.imports_one.ensures ∙ c.if-imports_one.false;
  no_giver = sym c.imports_one-2.ensures ∙ c.if-imports_one-2.false;
  no_maker = c.may_name_makers.ensures c.if-may_name_makers.false;
  no_recover = c.in_ok-recovers.ensures (not_true c.in_ok-recovers.recovers is);
}
