use Rattle.std.proofs.Common.{sym, ap, ◌∙◌, option_map}
use Rattle.imports.specs.Views.{text_views}
use Rattle.meaning.specs.OuterBlocks.{or_else}
use Rattle.given_packages.specs.Neighbours.{nearby_view}
use Rattle.one_package.specs.Results.{declared_among, signs_in, tables_told}
use Rattle.one_package.proofs.ToldImports.{map_else}
use Rattle.one_package.proofs.known_imports.KnownImports.add_others.Goals as goal

pub returns : goal.returns
returns c = λ told knows.
    let others = declared_among (nearby_view c.args.near) (text_views c.args.paths.now) in
    let added = c.in_ok-add_all_declared.ensures in
    record {
      are_signatures = λ path.
          added.signatures path
          ∙ (ap (λ o. or_else o (option_map (λ t. t.signatures) (others path))) (knows.are_signatures path)
          ∙ sym (map_else (λ t. t.signatures) (tables_told told path) (others path)));
      are_calls = λ path.
          added.calls path
          ∙ (ap (λ o. or_else o (option_map (λ t. t.called) (others path))) (knows.are_calls path)
          ∙ sym (map_else (λ t. t.called) (tables_told told path) (others path)));
      are_signs = λ path.
          added.signs path
          ∙ (ap (λ o. or_else o (option_map signs_in (others path))) (knows.are_signs path)
          ∙ sym (map_else signs_in (tables_told told path) (others path)));
      are_not_yes = knows.are_not_yes;
    }
