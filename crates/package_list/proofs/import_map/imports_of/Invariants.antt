use Rattle.std.proofs.Common.{map}
use Rattle.package_list.specs.ListedValues.{import_of}
use Rattle.package_list.proofs.ImportsRead.{ToldSo}
use Rattle.package_list.proofs.import_map.imports_of.Given as goal

-- those so far, with those that are left, are all
abbrev pub invariant-loop-written : goal.invariant-loop-written
invariant-loop-written l = ToldSo l.fn.texts.entries (map import_of l.imports.items) l.written-iterator
