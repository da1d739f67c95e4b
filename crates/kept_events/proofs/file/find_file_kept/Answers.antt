use Rattle.std.proofs.Common.{sym, ◌∙◌}
use Rattle.kept_events.proofs.file.find_file_kept.Goals as goal

pub find_kept-requires : goal.find_kept-requires
find_kept-requires c = record { sees = c.requires; some_keep = sym c.some_keep.ensures ∙ c.if-not-some_keep.false }

pub returns-then-not-some_keep : goal.returns-then-not-some_keep
returns-then-not-some_keep c = sym c.some_keep.ensures ∙ c.if-not-some_keep.true

pub returns : goal.returns
returns c = (sym c.some_keep.ensures ∙ c.if-not-some_keep.false, c.in_ok-kept.ensures)
