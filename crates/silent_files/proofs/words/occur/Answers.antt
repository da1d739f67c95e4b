use Rattle.std.proofs.Common.{sym, ◌∙◌}
use Rattle.silent_files.proofs.SoughtWords.{all_sought, next_sought}
use Rattle.silent_files.proofs.words.occur.Goals as goal

pub loop-words-preserved : goal.loop-words-preserved
loop-words-preserved c rest =
    c.loop-words.invariant
    (next_sought c.args.text.now c.loop-words.words.now _ _ c.find.result c.in-len1-up.len_at_least c.as_bytes.ensures.value
    c.find.ensures (sym c.is_some.ensures ∙ c.if-is_some.false) rest)

pub returns : goal.returns
returns c none = c.loop-words.invariant (all_sought c.args.text.now c.loop-words.words.now c.in_default.len_below)
