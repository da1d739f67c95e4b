use Rattle.std.proofs.Common.{ℕ, List, subst}
use Rattle.silent_files.proofs.SoughtWords.{none_is_word}
use Rattle.silent_files.specs.WordsSought.{bytes_of, NoneOccurs}
use Rattle.silent_files.proofs.words.occurs_one.Goals as goal

pub returns : goal.returns
returns c none =
    none_is_word (bytes_of c.args.words.now) c.args.source.now.bytes.items
    (subst (λ (text : List ℕ). NoneOccurs (bytes_of c.args.words.now) text) c.deref.ensures.value
    (c.occur.ensures none))
