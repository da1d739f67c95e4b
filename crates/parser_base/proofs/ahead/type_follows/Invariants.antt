use Rattle.std.proofs.Common.{◌≡◌, ◌-◌, ◌≤◌, drop, length}
use Rattle.meaning.specs.TypeParameters.{type_follows}
use Rattle.parser_base.proofs.ahead.type_follows.Given as goal

abbrev pub invariant-loop-at : goal.invariant-loop-at
invariant-loop-at l = record {
  going : type_follows l.nesting (drop l.at l.source.tokens.now) ≡ type_follows 0 (drop l.fn.place.at l.source.tokens.now);
  few : l.nesting ≤ l.at;
}

abbrev pub decreases-loop-at : goal.decreases-loop-at
decreases-loop-at l = length l.source.tokens.now - l.at
