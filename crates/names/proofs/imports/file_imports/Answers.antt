use Rattle.std.proofs.Common.{◌≡◌, rules, None, true, false, map, ap, ◌∙◌}
use Rattle.meaning.specs.OuterBlocks.{or_else, import_among, specs_of}
use Rattle.names.specs.Answers.{names_by_path, text_at}
use Rattle.names.specs.Maps.{chosen_path}
use Rattle.tree.specs.View.{import_syntax}
use Rattle.names.proofs.ImportNames.{two_passes}
use Rattle.names.proofs.imports.file_imports.Goals as goal

pub returns : goal.returns
returns c = λ name.
    let none : text_at c.new-imports.result name ≡ None = search rules in
    two_passes _ _ _ _ _ none
    (c.in_ok-add_declarations.ensures name
    ∙ ap (λ l. or_else (text_at c.new-imports.result name)
    (import_among (chosen_path true) (names_by_path c.args.packages.now) name (specs_of (map import_syntax l)))) c.deref.ensures.value)
    (c.in_ok-add_declarations-2.ensures name
    ∙ ap (λ l. or_else (text_at c.add_declarations.new.imports name)
    (import_among (chosen_path false) (names_by_path c.args.packages.now) name (specs_of (map import_syntax l)))) c.deref-2.ensures.value)
