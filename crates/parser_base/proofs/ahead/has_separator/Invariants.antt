use Rattle.std.proofs.Common.{◌≡◌, ◌-◌, ◌≤◌, drop, length}
use Rattle.meaning.specs.TypeParameters.{has_separator}
use Rattle.parser_base.proofs.ahead.has_separator.Given as goal

abbrev pub invariant-loop-at : goal.invariant-loop-at
invariant-loop-at l = record {
  going : has_separator l.nesting (drop l.at l.source.tokens.now) ≡ has_separator 0 (drop l.fn.place.at l.source.tokens.now);
  few : l.nesting ≤ l.at;
}

abbrev pub decreases-loop-at : goal.decreases-loop-at
decreases-loop-at l = length l.source.tokens.now - l.at
