use Rattle.std.proofs.Common.{◌∙◌}
use Rattle.folders.proofs.go_modules.module_at.Goals as goal

pub returns-in-Some-clause-said : goal.returns-in-Some-clause-said
returns-in-Some-clause-said g c = record {
  file = c.in-Some.file;
  is_named = (rw c.in-Some.is at c.in_ok-file.ensures.read) ∙ (c.as_str.ensures.value ∙ c.in_ok-name.ensures);
  is_path = c.in_ok-path_said-in-Some.ensures.path;
}
