use Rattle.std.proofs.Common.{sym, ap, ◌∙◌, subst}
use Rattle.std.specs.Char.{is_ascii}
use Rattle.std.proofs.lemmas.Bool.{ltb-true}
use Rattle.lexer.specs.Letters.{is_ascii_letter}
use Rattle.lexer.proofs.Prefixes.{IsPrefix, letter_prefix, no_prefix, prefix_word, prefix_longest}
use Rattle.lexer.proofs.words.word_size.Goals as goal
use Rattle.lexer.proofs.words.word_size.Goals.{Then-is_ascii, Then-is_ascii-2}

letters : (c : Then-is_ascii) → IsPrefix c.args.text.now c.ascii_word_size-size.result
letters c =
    let size = c.ascii_word_size-size.result in
    let words = c.ascii_word_size-size.ensures in
    let letter = ap is_ascii_letter (sym c.byte_at-first.ensures) ∙ (sym c.is_ascii_letter.ensures ∙ c.if-is_ascii_letter.true) in
    let small = ltb-true _ _ (ap is_ascii (sym c.byte_at.ensures) ∙ (sym c.is_ascii.ensures ∙ c.if-is_ascii.true)) in
    subst (λ t. IsPrefix t size) c.as_bytes-bytes.ensures.value (letter_prefix c.as_bytes-bytes.result.now size words.nonempty words.in_range letter words.word small words.stops)

no_letter : (c : Then-is_ascii-2) → IsPrefix c.args.text.now 0
no_letter c =
    let small = ltb-true _ _ (ap is_ascii (sym c.byte_at-first.ensures) ∙ (sym c.is_ascii-else-is_ascii_letter.ensures ∙ c.if-is_ascii-2.true)) in
    let other = ap is_ascii_letter (sym c.byte_at-first.ensures) ∙ (sym c.is_ascii_letter.ensures ∙ c.if-is_ascii_letter.false) in
    subst (λ t. IsPrefix t 0) c.as_bytes-bytes.ensures.value (no_prefix c.as_bytes-bytes.result.now small other)

pub returns-then-is_ascii-clause-word : goal.returns-then-is_ascii-clause-word
returns-then-is_ascii-clause-word c = prefix_word c.args.text.now c.ascii_word_size-size.result (letters c)

pub returns-then-is_ascii-clause-longest : goal.returns-then-is_ascii-clause-longest
returns-then-is_ascii-clause-longest c = prefix_longest c.args.text.now c.ascii_word_size-size.result (letters c)

pub returns-then-is_ascii-2-clause-longest : goal.returns-then-is_ascii-2-clause-longest
returns-then-is_ascii-2-clause-longest c = prefix_longest c.args.text.now 0 (no_letter c)
