use Rattle.std.proofs.Common.{◌≡◌, ◌<◌, ◌≤◌, ap, drop, get_or, length, map, option_map, subst}
use Rattle.std.proofs.lemmas.List.{drop_all}
use Rattle.first_values.specs.ValuesByName.{value_of}
use Rattle.declared_json.specs.DeclaredPackages.{package_of, packages_of, table_at}
use Rattle.declared_tables.specs.DeclaredTables.{table_of, table_view}
use Rattle.declared_tables.proofs.AddedTables.{table_last, table_next}
use Rattle.declared_tables.proofs.tables.DeclaredTables.of.Goals as goal

pub loop-one-preserved : goal.loop-one-preserved
loop-one-preserved c = (
  λ path.
      let packages = c.args.outside.now.packages.items in
      let i = c.loop-one.one-index in
      let one = c.one-item.result in
      let same = c.deref-one-items.ensures.value in
      table_next packages i one (subst (λ xs. i < length xs) same c.loop-one-test.true)
      (subst (λ xs. one ≡ get_or xs i one) same c.one-item.is) path
      (option_map table_view (value_of c.loop-one.packages path)) (option_map table_view (value_of c.add_package.new.packages path))
      _ (c.in_ok-add_package.ensures.table path) (c.loop-one.invariant.0 path),
  c.in_ok-add_package.ensures.marks c.loop-one.invariant.1,
)

pub returns-clause-tables : goal.returns-clause-tables
returns-clause-tables c = λ path.
    let packages = c.args.outside.now.packages.items in
    let i = c.loop-one.one-index in
    table_last (value_of c.loop-one.packages path) (option_map table_of (table_at path (map package_of (drop i packages))))
    (table_at path (packages_of c.args.outside.now))
    (ap (λ xs. option_map table_of (table_at path (map package_of xs)))
    (drop_all i packages (subst (λ xs. length xs ≤ i) c.deref-one-items.ensures.value c.loop-one-test.false)))
    (c.loop-one.invariant.0 path)

pub returns-clause-marks : goal.returns-clause-marks
returns-clause-marks c = c.loop-one.invariant.1
