use Rattle.std.proofs.Common.{◌≡◌, ◌++◌, map}
use Rattle.tree.specs.View.{import_spec_syntax}
use Rattle.meaning_reports.specs.MeantImports.{meant_import}
use Rattle.load.specs.MeantPaths.{meant_of, meant_path}
use Rattle.load.proofs.meant.meant_specs.Given as goal

-- those so far, with those that are left, are all
abbrev pub invariant-loop-spec : goal.invariant-loop-spec
invariant-loop-spec l =
    map import_spec_syntax l.meant.items
    ++ map (meant_import (meant_path l.edition (map meant_of l.imports))) (map import_spec_syntax l.spec-iterator.rest.items)
    ≡ map (meant_import (meant_path l.edition (map meant_of l.imports))) (map import_spec_syntax l.fn.specs.items)
