use Rattle.std.proofs.Common.{ap, ◌∙◌}
use Rattle.std.specs.Prelude.{not}
use Rattle.meaning.specs.OuterBlocks.{or_else}
use Rattle.first_values.specs.ValuesByName.{only_at}
use Rattle.files_to_walk.specs.Signs.{signs_by_path}
use Rattle.one_package.specs.Results.{KeptTold, signs_in}
use Rattle.one_package.proofs.ToldImports.{map_or, tables_more}
use Rattle.one_package.proofs.known_imports.KnownImports.add_told.Goals as goal

pub returns : goal.returns
returns c = λ told knows.
    let table = c.args.table.now in
    let path = c.args.path.now in
    let one : KeptTold = record { table = table; is_yes = c.args.is_yes } in
    record {
      are_signatures = λ other.
          c.in_ok-insert.ensures.ok other
          ∙ (ap (λ o. or_else o (only_at path table.signatures other)) (knows.are_signatures other)
          ∙ tables_more (λ t. t.signatures) told path one other);
      are_calls = λ other.
          c.in_ok-insert-2.ensures.ok other
          ∙ (ap (λ o. or_else o (only_at path table.called other)) (knows.are_calls other)
          ∙ tables_more (λ t. t.called) told path one other);
      are_signs = λ other.
          c.in_ok-insert-3.ensures other
          ∙ (ap (λ s. or_else (signs_by_path c.args.self.now.signs other) (only_at path s other)) c.signs_in.ensures
          ∙ (ap (λ o. or_else o (only_at path (signs_in table) other)) (knows.are_signs other)
          ∙ tables_more signs_in told path one other));
      are_not_yes = λ other.
          c.in_ok-insert-4.ensures other
          ∙ (ap (λ o. or_else o (only_at path (not c.args.is_yes) other)) (knows.are_not_yes other)
          ∙ map_or (λ (k : KeptTold). not k.is_yes) (told other) path one other);
    }
