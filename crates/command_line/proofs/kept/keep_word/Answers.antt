use Rattle.std.proofs.Common.{◌≡◌, ◌∷◌, false, Some, None, rules, refl, subst}
use Rattle.command_line.specs.KeptWords.{IsKeptSo}
use Rattle.command_line.specs.Words.{named_after, named_by, option_in, option_of, switch_of, with_switch, with_value}
use Rattle.command_line.proofs.kept.keep_word.Goals as goal

pub returns-in-Some-switch_of : goal.returns-in-Some-switch_of
returns-in-Some-switch_of c =
    let word = c.args.word.now in
    let switch = c.in-Some-switch_of.switch in
    let alone : option_of word ≡ None = search rules in
    let is : switch_of word ≡ Some switch = search rules in
    λ goes_on words all before.
    let same : named_by (word ∷ words) ≡ with_switch switch word (named_after None words)
    = rw (goes_on, alone, is) refl in
    c.in_ok-keep_switch.ensures (named_after None words) all (subst (λ n. IsKeptSo c.args.kept.now n all) same before)

pub returns-in-Some-option_in : goal.returns-in-Some-option_in
returns-in-Some-option_in c =
    let word = c.args.word.now in
    let option = c.in-Some-option_in.option in
    let value = c.in-Some-option_in.value.now in
    let alone : option_of word ≡ None = search rules in
    let no_switch : switch_of word ≡ None = search rules in
    let holds : option_in word ≡ Some (option, value) = search rules in
    λ goes_on words all before.
    let same : named_by (word ∷ words) ≡ with_value option value (named_after None words)
    = rw (goes_on, alone, no_switch, holds) refl in
    c.in_ok-keep_value.ensures (named_after None words) all (subst (λ n. IsKeptSo c.args.kept.now n all) same before)
