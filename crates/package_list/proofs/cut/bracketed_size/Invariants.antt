use Rattle.std.proofs.Common.{◌≡◌, ◌+◌, ◌-◌, ◌≤◌, drop, length}
use Rattle.package_list.specs.Pieces.{bracketed_size}
use Rattle.package_list.specs.declared.cut.Place.TheVariants.{Outside}
use Rattle.package_list.proofs.cut.bracketed_size.Given as goal

-- what was counted, with what is left, is the whole, and no more brackets are open than bytes were counted
abbrev pub invariant-loop-index : goal.invariant-loop-index
invariant-loop-index l = record {
  in_range : l.index ≤ length l.bytes;
  few_open : l.opened ≤ l.index;
  to_come : l.index + bracketed_size Outside l.opened (drop l.index l.bytes) ≡ bracketed_size Outside 0 l.bytes;
}

abbrev pub decreases-loop-index : goal.decreases-loop-index
decreases-loop-index l = length l.bytes - l.index
