use Rattle.std.proofs.Common.{bytes_eq, ap, map, sym, ◌∙◌}
use Rattle.facts.proofs.FactMaps.{seen_as}
use Rattle.first_values.specs.ValuesByName.{value_of}
use Rattle.declared_json.specs.DeclaredPackages.{function_of, package_of}
use Rattle.declared_tables.specs.DeclaredTables.{table_of, table_view}
use Rattle.declared_tables.proofs.Givers.{marked_next}
use Rattle.declared_tables.proofs.tables.add_package.Goals as goal

pub returns-clause-table : goal.returns-clause-table
returns-clause-table c =
    let p = package_of c.args.outside.now in
    seen_as table_view (value_of c.args.packages.now) (value_of c.insert.new.self) c.as_str.result.now c.in_ok-table.table
    c.in_ok-insert.ensures.ok p.path c.as_str.ensures.value (table_of p.functions)
    (c.in_ok-table.ensures.table ∙ ap (λ fs. table_of (map function_of fs)) c.deref.ensures.value)

pub returns-clause-marks : goal.returns-clause-marks
returns-clause-marks c = λ marks path t is.
    marked_next (value_of c.args.packages.now path) (bytes_eq c.as_str.result.now path) c.in_ok-table.table t
    (sym (c.in_ok-insert.ensures.ok path) ∙ is) (marks path t) c.in_ok-table.ensures.marks
