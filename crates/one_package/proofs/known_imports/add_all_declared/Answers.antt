use Rattle.std.proofs.Common.{option_map}
use Rattle.std.proofs.lemmas.List.{get_or_default}
use Rattle.called_parameters.specs.Called.{called_by_path}
use Rattle.declared_tables.specs.declared.tables.PackageTable.{PackageTable as KeptTable}
use Rattle.facts.specs.FactViews.{table_by_path}
use Rattle.imports.specs.Views.{text_views}
use Rattle.meaning.specs.OuterBlocks.{or_else}
use Rattle.files_to_walk.specs.Signs.{signs_by_path}
use Rattle.given_packages.specs.Neighbours.{nearby_view}
use Rattle.one_package.specs.Results.{declared_among, signs_in}
use Rattle.one_package.proofs.DeclaredImports.{one_more}
use Rattle.one_package.proofs.known_imports.add_all_declared.Goals as goal

pub loop-path-preserved : goal.loop-path-preserved
loop-path-preserved c =
    let near = nearby_view c.args.near in
    let paths = c.args.paths.now in
    let i = c.loop-path.path-index in
    let test = c.loop-path-test.true in
    let others = declared_among near (text_views paths) in (
      one_more near (λ (t : KeptTable). t.signatures) paths i _ test (get_or_default paths i _ _ test)
          (table_by_path c.loop-path.signatures) (table_by_path c.add_declared.new.signatures)
          (λ path. or_else (table_by_path c.args.signatures.now path) (option_map (λ t. t.signatures) (others path)))
          c.in_ok-add_declared.ensures.signatures c.loop-path.invariant.0,
      one_more near (λ (t : KeptTable). t.called) paths i _ test (get_or_default paths i _ _ test)
          (called_by_path c.loop-path.calls) (called_by_path c.add_declared.new.calls)
          (λ path. or_else (called_by_path c.args.calls.now path) (option_map (λ t. t.called) (others path)))
          c.in_ok-add_declared.ensures.calls c.loop-path.invariant.1,
      one_more near signs_in paths i _ test (get_or_default paths i _ _ test)
          (signs_by_path c.loop-path.signs) (signs_by_path c.add_declared.new.signs)
          (λ path. or_else (signs_by_path c.args.signs.now path) (option_map signs_in (others path)))
          c.in_ok-add_declared.ensures.signs c.loop-path.invariant.2,
    )
