use Rattle.std.proofs.Common.{◌+◌, length, sym, ◌∙◌, subst, arith}
use Rattle.std.proofs.lemmas.Iterator.{YieldsList-from_chars}
use Rattle.std.proofs.lemmas.Iterator.Consumers.{YieldsList-turn, YieldsList-end}
use Rattle.std.proofs.lemmas.List.{length_push}
use Rattle.std.specs.Char.{len_utf8}
use Rattle.lexer.proofs.Names.{IsWordRead, fits_read, word_in_range, word_read, word_longest_end, word_longest_stop, word_more, word_none}
use Rattle.lexer.proofs.words.any_word_size.Goals as goal

pub loop-c-init : goal.loop-c-init
loop-c-init c = word_none c.args.text.now

pub returns-then-not-continues_word-clause-in_range : goal.returns-then-not-continues_word-clause-in_range
returns-then-not-continues_word-clause-in_range c =
    word_in_range c.args.text.now (length c.loop-c.yielded) c.loop-c.size c.utf8.text c.loop-c.invariant

pub returns-then-not-continues_word-clause-word : goal.returns-then-not-continues_word-clause-word
returns-then-not-continues_word-clause-word c =
    word_read c.args.text.now (length c.loop-c.yielded) c.loop-c.size c.utf8.text c.loop-c.invariant

pub returns-then-not-continues_word-clause-longest : goal.returns-then-not-continues_word-clause-longest
returns-then-not-continues_word-clause-longest c =
    let text = c.args.text.now in
    let t = YieldsList-turn (YieldsList-from_chars text c.utf8.text cc) c.loop-c.yielded _ c.loop-c.yielded_by _ _ c.in-Some.c c.in-Some.is c.next.ensures.steps in
    let fits = fits_read text (length c.loop-c.yielded) c.loop-c.size c.loop-c.invariant c.in-Some.c in
    word_longest_stop text (length c.loop-c.yielded) c.loop-c.size c.utf8.text c.loop-c.invariant c.in-Some.c t.0 t.1 (fits ∙ (sym c.continues_word.ensures ∙ c.if-not-continues_word.true))

pub returns-clause-in_range : goal.returns-clause-in_range
returns-clause-in_range c =
    word_in_range c.args.text.now (length c.loop-c.yielded) c.loop-c.size c.utf8.text c.loop-c.invariant

pub returns-clause-word : goal.returns-clause-word
returns-clause-word c =
    word_read c.args.text.now (length c.loop-c.yielded) c.loop-c.size c.utf8.text c.loop-c.invariant

pub returns-clause-longest : goal.returns-clause-longest
returns-clause-longest c =
    let text = c.args.text.now in
    let t = YieldsList-end (YieldsList-from_chars text c.utf8.text cc) c.loop-c.yielded _ c.loop-c.yielded_by _ _ c.in-None.is c.next.ensures.steps in
    λ n l _. word_longest_end text (length c.loop-c.yielded) c.loop-c.size c.utf8.text c.loop-c.invariant (omega (arith, t.1)) n l

pub loop-c-preserved : goal.loop-c-preserved
loop-c-preserved c =
    let text = c.args.text.now in
    let t = YieldsList-turn (YieldsList-from_chars text c.utf8.text cc) c.loop-c.yielded _ c.loop-c.yielded_by _ _ c.in-Some.c c.in-Some.is c.next.ensures.steps in
    let fits = fits_read text (length c.loop-c.yielded) c.loop-c.size c.loop-c.invariant c.in-Some.c in
    let more = word_more text (length c.loop-c.yielded) c.loop-c.size c.utf8.text c.loop-c.invariant c.in-Some.c t.0 t.1 (fits ∙ (sym c.continues_word.ensures ∙ c.if-not-continues_word.false)) in
    let size = c.loop-c.size in
    subst (λ k. IsWordRead text k (size + c.len_utf8-size.result)) (sym (length_push c.loop-c.yielded c.in-Some.c))
    (subst (λ s. IsWordRead text (length c.loop-c.yielded + 1) (size + s)) (sym c.len_utf8-size.ensures.value) more)

pub overflow_add-size : goal.overflow_add-size
overflow_add-size c =
    let text = c.args.text.now in
    let t = YieldsList-turn (YieldsList-from_chars text c.utf8.text cc) c.loop-c.yielded _ c.loop-c.yielded_by _ _ c.in-Some.c c.in-Some.is c.next.ensures.steps in
    let fits = fits_read text (length c.loop-c.yielded) c.loop-c.size c.loop-c.invariant c.in-Some.c in
    let more = word_more text (length c.loop-c.yielded) c.loop-c.size c.utf8.text c.loop-c.invariant c.in-Some.c t.0 t.1 (fits ∙ (sym c.continues_word.ensures ∙ c.if-not-continues_word.false)) in
    let range = word_in_range text (length c.loop-c.yielded + 1) (c.loop-c.size + len_utf8 c.in-Some.c) c.utf8.text more in
    let small = c.requires in
    omega (arith, range, c.len_utf8-size.ensures.value)
