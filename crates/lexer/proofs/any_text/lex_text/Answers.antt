use Rattle.std.proofs.Common.{◌≡◌, ◌+◌, ◌++◌, [], length, drop, None, sym, ap, ◌∙◌, subst, arith, rules, length-drop}
use Rattle.std.specs.Str.{IsUtf8, IsCharBoundary}
use Rattle.std.proofs.lemmas.List.{nil_from_length}
use Rattle.std.proofs.lemmas.Str.{IsUtf8-drop}
use Rattle.lexer.specs.Semicolons.{due_after, semicolon}
use Rattle.lexer.specs.Tokens.{mark_size, IsTokens}
use Rattle.lexer.specs.Faults.{IsFault, stop_of}
use Rattle.lexer.proofs.Literals.{positive_size}
use Rattle.lexer.proofs.Steps.{IsReadFrom, from_none, from_more, from_all, from_stop, mark_boundary}
use Rattle.lexer.proofs.any_text.lex_text.Goals as goal

pub split_at-requires : goal.split_at-requires
split_at-requires c =
    let mark = c.mark_size-mark.ensures ∙ ap mark_size c.as_bytes.ensures.value in
    subst (IsCharBoundary c.args.text.now) (sym mark) (mark_boundary c.args.text.now c.utf8.text)

pub loop-rest-init : goal.loop-rest-init
loop-rest-init c =
    let text = c.args.text.now in
    let m = c.mark_size-mark.result in
    let mark : m ≡ mark_size text = c.mark_size-mark.ensures ∙ ap mark_size c.as_bytes.ensures.value in
    let boundary : IsCharBoundary text m = subst (IsCharBoundary text) (sym mark) (mark_boundary text c.utf8.text) in
    let back = c.split_at.ensures.back in
    let within = boundary.0 in
    record {
      utf8 = subst IsUtf8 (sym back) (IsUtf8-drop text m c.utf8.text boundary);
      size = omega (arith, ap length back, length-drop m text);
      read = subst (λ l. IsReadFrom (mark_size text) (drop (mark_size text) text) c.split_at.result.1.now m None l) (sym c.new-tokens.ensures.items)
          (subst (λ r. IsReadFrom (mark_size text) (drop (mark_size text) text) r m None []) (sym back)
          (subst (λ k. IsReadFrom k (drop k text) (drop m text) m None []) mark (from_none m (drop m text))));
    }

pub returns-in_default-clause-err : goal.returns-in_default-clause-err
returns-in_default-clause-err c =
    let text = c.args.text.now in
    let rest = c.loop-rest.rest.now in
    let found = c.stop.ensures ∙ ap (λ t. stop_of t c.loop-rest.at) c.as_bytes-in_default.ensures.value in
    λ _. subst (IsFault text) (sym found) (from_stop text rest c.loop-rest.at c.loop-rest.due c.loop-rest.tokens.items c.requires.small c.utf8.text c.requires.no_nul c.loop-rest.invariant.read (search rules) (c.in_default.ensures).none)

pub loop-rest-smaller : goal.loop-rest-smaller
loop-rest-smaller c =
    let rest = c.loop-rest.rest.now in
    let longest = (c.in-Some.ensures).some.0 in
    let positive = positive_size c.in-Some.found rest longest.begins in
    let within = longest.begins.within in
    omega (arith, ap length c.split_at-in-loop-rest.ensures.back, length-drop c.in-Some.found.size rest)

pub loop-rest-preserved : goal.loop-rest-preserved
loop-rest-preserved c =
    let text = c.args.text.now in
    let rest = c.loop-rest.rest.now in
    let found = c.in-Some.found in
    let longest = (c.in-Some.ensures).some.0 in
    let boundary = (c.in-Some.ensures).some.1 in
    let within = longest.begins.within in
    let back = c.split_at-in-loop-rest.ensures.back in
    let end = c.loop-rest.at + found.size in
    let old = c.loop-rest.invariant in
    let start = mark_size text in
    let more = from_more start (drop start text) rest c.loop-rest.at c.loop-rest.due c.loop-rest.tokens.items found old.read longest in
    let due = (c.in-Ok.ensures).due in
    let tokens = (c.in-Ok.ensures).tokens in
    record {
      utf8 = subst IsUtf8 (sym back) (IsUtf8-drop rest found.size old.utf8 boundary);
      size = omega (arith, old.size, ap length back, length-drop found.size rest);
      read = subst (λ r. IsReadFrom start (drop start text) r end c.in-Ok.next c.add_tokens_of.new.tokens.items) (sym back)
          (subst (λ d. IsReadFrom start (drop start text) (drop found.size rest) end d c.add_tokens_of.new.tokens.items) (sym due)
          (subst (λ l. IsReadFrom start (drop start text) (drop found.size rest) end (due_after found.kind end c.loop-rest.due) l) (sym tokens) more));
    }

pub returns-clause-ok : goal.returns-clause-ok
returns-clause-ok c =
    let text = c.args.text.now in
    let rest = c.loop-rest.rest.now in
    let start = mark_size text in
    let over : length rest ≡ 0 = search rules in
    let empty : rest ≡ [] = nil_from_length rest over in
    let r : IsReadFrom start (drop start text) [] c.loop-rest.at c.loop-rest.due c.loop-rest.tokens.items = subst (λ l. IsReadFrom start (drop start text) l c.loop-rest.at c.loop-rest.due c.loop-rest.tokens.items) empty c.loop-rest.invariant.read in
    let pushed : c.end_line.new.tokens.items ≡ c.loop-rest.tokens.items ++ semicolon c.loop-rest.due = search rules in
    subst (IsTokens text) (sym pushed) (from_all text c.loop-rest.at c.loop-rest.due c.loop-rest.tokens.items c.requires.small c.utf8.text c.requires.no_nul r)
