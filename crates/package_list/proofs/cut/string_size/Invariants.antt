use Rattle.std.proofs.Common.{◌≡◌, ◌+◌, drop}
use Rattle.package_list.specs.StringSizes.{string_size}
use Rattle.package_list.specs.declared.cut.Place.TheVariants.{InString}
use Rattle.package_list.proofs.cut.string_size.Given as goal

-- what was counted, with what is left, is the whole
abbrev pub invariant-loop-index : goal.invariant-loop-index
invariant-loop-index l = l.index + string_size l.place (drop l.index l.bytes) ≡ string_size InString l.bytes
