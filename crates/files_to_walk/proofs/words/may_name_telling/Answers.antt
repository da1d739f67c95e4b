use Rattle.std.proofs.Common.{ℕ, List, subst}
use Rattle.silent_files.specs.NamedWords.{LacksEach}
use Rattle.files_to_walk.proofs.words.may_name_telling.Goals as goal

pub returns : goal.returns
returns c none =
    subst (λ (words : List (List ℕ)). LacksEach words c.args.source.now.bytes.items) c.telling_words.ensures
    (c.occurs_one.ensures none)
