-- What is marked in a file doesn't depend on the paths of its imports.
use Rattle.std.proofs.Common.{◌≡◌, List, [], ◌∷◌, ◌++◌, map, refl, sym, ap, ◌∙◌, subst}
use Rattle.std.specs.Prelude.{if◌then◌else◌}
use Rattle.std.proofs.lemmas.List.{map-append}
use Rattle.tree.specs.Syntax.{ImportSpec, ImportDeclaration, SourceFile}
use Rattle.meaning.specs.Mentions.{Mark, of_fields, imports_all, is_dot, import_marks, top_levels_marks, file_marks}
use Rattle.meaning.specs.OuterBlocks.{specs_of}
use Rattle.meaning_reports.specs.MeantImports.{Meant, meant_import, meant_imports, with_meant_imports}

-- the imports, one after another
pub specs_meant : (meant : Meant) (ds : List ImportDeclaration)
    → specs_of (map (meant_imports meant) ds) ≡ map (meant_import meant) (specs_of ds)
specs_meant meant [] = refl
specs_meant meant (d ∷ ds) =
    ap (λ ss. map (meant_import meant) d.specs ++ ss) (specs_meant meant ds)
    ∙ sym (map-append (meant_import meant) d.specs (specs_of ds))

same_import_marks : (meant : Meant) (ss : List ImportSpec) → import_marks (map (meant_import meant) ss) ≡ import_marks ss
same_import_marks meant [] = refl
same_import_marks meant (s ∷ ss) =
    ap (λ (ms : List Mark). (if is_dot s.name then of_fields s.span.start imports_all ∷ [] else []) ++ ms)
    (same_import_marks meant ss)

pub same_marks : (meant : Meant) (file : SourceFile) → file_marks (with_meant_imports meant file) ≡ file_marks file
same_marks meant file =
    ap (λ (ms : List Mark). ms ++ top_levels_marks file.declarations)
    (ap import_marks (specs_meant meant file.imports) ∙ same_import_marks meant (specs_of file.imports))

-- so the marks of a file are those of the tree that is written
pub marks_there : (meant : Meant) (written tree : SourceFile) → with_meant_imports meant written ≡ tree
    → file_marks written ≡ file_marks tree
marks_there meant written tree same = sym (same_marks meant written) ∙ ap file_marks same
