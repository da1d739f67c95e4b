use Rattle.std.proofs.Common.{◌≡◌, false, ℕ, List, ◌∷◌, None, IfOk, subst, sym}
use Rattle.command_line.specs.KeptWords.{ends_options, IsKeptSo}
use Rattle.command_line.specs.Words.{named_after, Named}
use Rattle.command_line.proofs.kept.keep_next.Goals as goal

pub returns-in-None : goal.returns-in-None
returns-in-None c =
    let word = c.args.word.now in
    let old = c.args.kept.now in
    let new = c.keep_word.new.kept in
    subst
    (λ awaited. IfOk c.keep_word.result
    (λ next. ends_options awaited word ≡ false → (words : List (List ℕ)) (all : Named)
    → IsKeptSo old (named_after awaited (word ∷ words)) all
    → IsKeptSo new (named_after next words) all))
    (sym c.in-None.is) c.keep_word.ensures

pub returns-in_ok-keep_value-in-Some : goal.returns-in_ok-keep_value-in-Some
returns-in_ok-keep_value-in-Some c =
    let word = c.args.word.now in
    λ goes_on words all before.
    c.in_ok-keep_value-in-Some.ensures (named_after None words) all
    (subst (λ awaited. IsKeptSo c.args.kept.now (named_after awaited (word ∷ words)) all) c.in-Some.is before)
