use Rattle.std.proofs.Common.{◌≡◌, ◌++◌, map}
use Rattle.tree.specs.View.{import_syntax}
use Rattle.meaning_reports.specs.MeantImports.{meant_imports}
use Rattle.load.specs.MeantPaths.{meant_of, meant_path}
use Rattle.load.proofs.meant.meant_declarations.Given as goal

-- those so far, with those that are left, are all
abbrev pub invariant-loop-declaration : goal.invariant-loop-declaration
invariant-loop-declaration l =
    map import_syntax l.meant.items
    ++ map (meant_imports (meant_path l.edition (map meant_of l.imports))) (map import_syntax l.declaration-iterator.rest.items)
    ≡ map (meant_imports (meant_path l.edition (map meant_of l.imports))) (map import_syntax l.fn.declarations.items)
