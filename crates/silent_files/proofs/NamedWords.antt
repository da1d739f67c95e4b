-- In the tree of a text the names of its marks are words of the text.
use Rattle.std.proofs.Common.{ℕ, Bool, true, false, List, [], ◌∷◌, Option, Some, None, refl, ap, ◌∙◌, inl}
use Rattle.std.specs.Str.{bytes_eq}
use Rattle.lexer.specs.declared.token.Token.{Token}
use Rattle.tree.specs.declared.edition.Edition.{Edition}
use Rattle.tree.specs.declared.operator.DeclKeyword.{DeclKeyword}
use Rattle.tree.specs.Syntax.{Identifier, Parameters, Specs, no_spec, value_and, type_and, declaration_of, Block, Function, TopLevelDeclaration, function_declaration, general_declaration, ImportSpec, ImportDeclaration, SourceFile}
use Rattle.meaning.specs.Mentions.{of_fields, imports_all, part_of, expressions_marks, receiver_marks, type_parameters_marks, function_body, function_marks, outer_specs_marks, top_level_marks, top_levels_marks, is_dot, import_marks, file_marks}
use Rattle.meaning.specs.OuterBlocks.{specs_of}
use Rattle.meaning.specs.Scopes.{parameters_named, named_in_types}
use Rattle.meaning.specs.Cursor.{read_in}
use Rattle.meaning.specs.TreeOfText.{first_place}
use Rattle.meaning.specs.Grammar.{as_type, as_expression, IsSecond, IsNoMethod, type_parameters, import_name, SpellsTypeParameters, SpellsSpecs, SpellsDeclaration, SpellsImportSpec, SpellsImportSpecs, SpellsOneImport, SpellsImports, SpellsReceiver, SpellsFunction, SpellsTopLevel, SpellsTopLevels, SpellsFile}
use Rattle.silent_files.specs.NamedWords.{Lexed, ReceiverHasWords, NamesAreWords, LackedWordsAreNoNames}
use Rattle.silent_files.proofs.NoMarks.{no_expressions, no_outer_specs}
use Rattle.silent_files.proofs.WordRules.{IsInside, Says, Keeps, AllHaveWords, none_left, one_has, both_have, says_nothing, keeps_nothing, says_never, keeps_token, says_both, behind, ending, says_chosen, so, given, spanned, keeps_only_if, enclosed, keeps_string, keeps_semicolon, says_one, says_identifier, says_identifiers, both}
use Rattle.silent_files.proofs.WordParts.{either, elsewhere_have, says_type_parameters, says_after_type_name, body_has, says_perhaps, says_expressions}
use Rattle.silent_files.proofs.WordsSpelled.{no_parameters_have, of_type_parameters, says_last, of_expression, of_each, of_optional, of_signature, of_items, of_statements}

-- what imports say names nothing
imports_have : {source : Lexed} (is : List ImportSpec) → AllHaveWords source (import_marks is)
imports_have [] = none_left
imports_have (i ∷ is) =
    both_have (either (is_dot i.name) (one_has (of_fields i.span.start imports_all) tt) none_left) (imports_have is)

module _ (source : Lexed) (edition : Edition) where
  receiver : (site : ℕ) (ps : Option Parameters)
      → Says source (AllHaveWords source (receiver_marks site ps) × ReceiverHasWords source ps) (SpellsReceiver (read_in edition source.text) ps)
  receiver site None = says_nothing (none_left, tt)
  receiver site (Some ps) =
      given (so (λ w. (both_have (elsewhere_have site (named_in_types ps) w.1.1) w.0, w.1.0))
      (enclosed _ _ (of_items source edition true true site ps)))

  type_parameters_told : (allowed : Type 0) (site : ℕ) (ps : Parameters)
      → Says source (AllHaveWords source (type_parameters_marks site ps))
      (type_parameters allowed ps (SpellsTypeParameters (read_in edition source.text) true ps))
  type_parameters_told allowed site ps =
      so (λ w. both_have (elsewhere_have site (parameters_named ps) w.1) w.0)
      (says_type_parameters allowed ps (no_parameters_have source site ps) (of_type_parameters source edition true site ps))

  -- a function by its parts
  with_block : (f : Function) (b : Option Block)
      → Says source (AllHaveWords source (function_marks f b)) (SpellsFunction (read_in edition source.text) record f { body = b })
  with_block f None =
      spanned (behind (keeps_token _) (so (λ w. both_have w.0.0 (both_have w.1.0 w.1.1.0))
      (says_both (receiver f.span.start f.receiver) (behind (says_identifier edition f.name)
      (says_both (type_parameters_told (IsSecond edition × IsNoMethod f.receiver) f.span.start f.type_parameters)
      (ending (of_signature source edition f.span.start f.signature) keeps_nothing))))))
  with_block f (Some b) =
      spanned (behind (keeps_token _)
      (so (λ w. body_has (function_body f b) (w.0.1, w.1.1.0.1)
      (both_have (both_have w.0.0 (both_have w.1.0 w.1.1.0.0)) w.1.1.1))
      (says_both (receiver f.span.start f.receiver) (behind (says_identifier edition f.name)
      (says_both (type_parameters_told (IsSecond edition × IsNoMethod f.receiver) f.span.start f.type_parameters)
      (says_both (of_signature source edition f.span.start f.signature)
      (spanned (enclosed _ _ (of_statements source edition b.statements)))))))))

  outer_specs : (keyword : DeclKeyword) (is_grouped : Bool) (specs : Specs)
      → Says source (AllHaveWords source (outer_specs_marks specs)) (SpellsSpecs (read_in edition source.text) keyword is_grouped specs)
  unfolding SpellsSpecs
  outer_specs keyword is_grouped no_spec = says_chosen is_grouped (says_nothing none_left) says_never
  outer_specs keyword is_grouped (value_and names t es span specs) =
      given (so (λ w. both_have w.0.0 (both_have w.0.1 w.1))
      (says_both (spanned (behind (says_identifiers edition names)
      (says_both (of_optional source edition as_type span.start t)
      (says_perhaps es (expressions_marks (part_of span.start)) (no_expressions (part_of span.start))
      (behind (keeps_token _)
      (says_expressions source edition as_expression (part_of span.start) es tt (of_each source edition as_expression es)))))))
      (says_chosen is_grouped (behind keeps_semicolon (outer_specs keyword true specs))
      (says_last source (outer_specs_marks specs) specs (no_outer_specs specs)))))
  outer_specs keyword is_grouped (type_and name ps is_alias t span specs) =
      given (so (λ w. both_have (both_have (elsewhere_have span.start (parameters_named ps) w.0.0.1) w.0.0.0)
      (both_have w.0.1 w.1))
      (says_both (spanned (behind (says_identifier edition name)
      (says_both (says_after_type_name edition ps is_alias t (no_parameters_have source span.start ps)
      (of_type_parameters source edition true span.start ps))
      (behind (keeps_only_if is_alias (keeps_token _)) (of_expression source edition as_type (part_of span.start) t tt)))))
      (says_chosen is_grouped (behind keeps_semicolon (outer_specs keyword true specs))
      (says_last source (outer_specs_marks specs) specs (no_outer_specs specs)))))

  top_level : (d : TopLevelDeclaration) → Says source (AllHaveWords source (top_level_marks d)) (SpellsTopLevel (read_in edition source.text) d)
  unfolding SpellsDeclaration
  top_level (function_declaration f) = with_block f f.body
  top_level (general_declaration (declaration_of keyword specs is_grouped span)) =
      spanned (behind (keeps_token _)
      (says_chosen is_grouped (enclosed _ _ (outer_specs keyword true specs)) (outer_specs keyword false specs)))

  top_levels : (ds : List TopLevelDeclaration) → Says source (AllHaveWords source (top_levels_marks ds)) (SpellsTopLevels (read_in edition source.text) ds)
  top_levels [] = says_nothing none_left
  top_levels (d ∷ ds) = both (top_level d) (behind keeps_semicolon (top_levels ds))

  imported_as : (name : Option Identifier) → Keeps source (import_name (read_in edition source.text) name)
  imported_as None = keeps_nothing
  imported_as (Some name) =
      says_one (so (λ w. tt) (says_identifier edition name)) (given (given (spanned (keeps_token _))))

  import_spec : (i : ImportSpec) → Keeps source (SpellsImportSpec (read_in edition source.text) i)
  import_spec i = given (spanned (behind (imported_as i.name) (spanned keeps_string)))

  import_specs : (is : List ImportSpec) → Keeps source (SpellsImportSpecs (read_in edition source.text) is)
  import_specs [] = keeps_nothing
  import_specs (i ∷ is) = behind (import_spec i) (behind keeps_semicolon (import_specs is))

  one_import : (is : List ImportSpec) → Keeps source (SpellsOneImport (read_in edition source.text) is)
  one_import [] = says_never
  one_import (i ∷ []) = import_spec i
  one_import (i ∷ j ∷ is) = says_never

  imports : (ds : List ImportDeclaration) → Keeps source (SpellsImports (read_in edition source.text) ds)
  imports [] = keeps_nothing
  imports (d ∷ ds) =
      behind (spanned (behind (keeps_token _)
      (says_chosen d.is_grouped (enclosed _ _ (import_specs d.specs)) (one_import d.specs))))
      (behind keeps_semicolon (imports ds))

  whole_file : (file : SourceFile) → Says source (AllHaveWords source (file_marks file)) (SpellsFile (read_in edition source.text) file)
  whole_file file =
      spanned (behind (keeps_token _) (behind (says_identifier edition file.package_name) (behind keeps_semicolon
      (behind (imports file.imports)
      (so (λ w. both_have (imports_have (specs_of file.imports)) w) (top_levels file.declarations))))))

all_inside : (text : List ℕ) (tokens : List Token) → IsInside record { text = text; tokens = tokens } (first_place tokens)
all_inside text tokens = record { end = inl refl; tokens = λ t among. among }

pub names_are_words : NamesAreWords
names_are_words edition text tree m t among =
    (whole_file record { text = text; tokens = t.tokens } edition tree (first_place t.tokens) t.last (all_inside text t.tokens) t.spelled).holds.each m among

pub lacked_words_are_no_names : LackedWordsAreNoNames
lacked_words_are_no_names source lacked word at cut lacks w =
    ap (λ (name : List ℕ). bytes_eq name lacked) w.spelled ∙ lacks source.tokens w.token cut w.among w.kind
