use Rattle.std.proofs.Common.{◌∙◌, IsTrue, rules, sym}
use Rattle.accepting.proofs.NoDirectives.{package_without}
use Rattle.accepting.proofs.lines.by_lines.Goals as goal

pub returns-then-is_empty : goal.returns-then-is_empty
returns-then-is_empty c =
    let yes : IsTrue c.is_empty.result = search rules in
    package_without c.args.tells_stale c.args.package c.deref.result.now c.deref.ensures.value
    (sym c.has_whole_fault.ensures ∙ c.if-has_whole_fault.false)
    (λ file n. sym (c.in_ok-lines.ensures file n) ∙ c.is_empty.ensures yes file n)
