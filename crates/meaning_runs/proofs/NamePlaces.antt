-- In the tree of a text the names of its marks stand in the text.
use Rattle.std.proofs.Common.{ℕ, ◌≤◌, Bool, true, false, List, [], ◌∷◌, length, Option, Some, None, Contains, subst, sym, inl, inr, arith}
use Rattle.std.specs.Prelude.{if◌then◌else◌}
use Rattle.lexer.specs.declared.token.Token.{Token}
use Rattle.tree.specs.declared.operator.DeclKeyword.{DeclKeyword}
use Rattle.tree.specs.Syntax.{Parameters, Specs, no_spec, value_and, type_and, declaration_of, Block, Function, TopLevelDeclaration, function_declaration, general_declaration, ImportSpec, ImportDeclaration, SourceFile}
use Rattle.tree.specs.declared.edition.Edition.{Edition}
use Rattle.meaning.specs.Cursor.{GoText, read_in}
use Rattle.meaning.specs.OuterBlocks.{specs_of}
use Rattle.meaning.specs.Scopes.{parameters_named, named_in_types}
use Rattle.meaning.specs.Mentions.{Mark, part_of, expressions_marks, type_parameters_marks, receiver_marks, function_body, function_marks, outer_specs_marks, top_level_marks, top_levels_marks, file_marks, of_fields, imports_all, is_dot, import_marks}
use Rattle.meaning.specs.TreeOfText.{first_place, IsTreeOf}
use Rattle.meaning.specs.Grammar.{as_type, as_expression, type_parameters, SpellsTypeParameters, SpellsSpecs, SpellsDeclaration, SpellsImportSpec, SpellsImportSpecs, SpellsOneImport, SpellsImports, SpellsReceiver, SpellsFunction, SpellsTopLevel, SpellsTopLevels, SpellsFile}
use Rattle.meaning.proofs.Membership.{contains_nil, contains_cases}
use Rattle.meaning_reports.proofs.MeantImports.{marks_there}
use Rattle.meaning_runs.specs.NamePlaces.{ReceiverStandsWithin, StandsWithin, NamesLieInTexts}
use Rattle.meaning_runs.proofs.BodyOffsetsTokens.{Ordered, first_ordered, tokens_ordered, tokens_under}
use Rattle.meaning_runs.proofs.BodyOffsetsSpelled.{no_expressions}
use Rattle.meaning_runs.proofs.BodyOffsets.{no_outer_specs}
use Rattle.meaning_runs.proofs.NameRules.{IsInside, Says, Keeps, AllStandWithin, none_lie, both_lie, says_nothing, keeps_nothing, says_never, keeps_token, says_both, behind, ending, says_chosen, so, given, spanned, keeps_only_if, enclosed, keeps_string, keeps_semicolon, says_identifier, says_identifiers, both, one_lies}
use Rattle.meaning_runs.proofs.NameParts.{elsewhere_lie, receiver_names_lie, body_lies, keeps_import_name, says_type_parameters, says_after_name, says_perhaps, says_expressions}
use Rattle.meaning_runs.proofs.NamesSpelled.{says_last, no_parameters_lie, of_expression, of_each, of_optional, of_signature, of_items, of_type_parameters, of_statements}

-- the marks of imports name nothing
import_lies : (n : ℕ) (b : Bool) (site : ℕ) → AllStandWithin n (if b then of_fields site imports_all ∷ [] else [])
import_lies n true site = one_lies (of_fields site imports_all) tt
import_lies n false site = none_lie

imports_lie : (n : ℕ) (specs : List ImportSpec) → AllStandWithin n (import_marks specs)
imports_lie n [] = none_lie
imports_lie n (s ∷ ss) = both_lie (import_lies n (is_dot s.name) s.span.start) (imports_lie n ss)

module _ (text : GoText) (n : ℕ) where
  receiver : (site : ℕ) (ps : Option Parameters)
      → Says n (AllStandWithin n (receiver_marks site ps) × ReceiverStandsWithin n ps) (SpellsReceiver text ps)
  receiver site None = says_nothing (none_lie, tt)
  receiver site (Some ps) =
      given (enclosed _ _
      (so (λ w. (both_lie (elsewhere_lie site (named_in_types ps) (receiver_names_lie site ps w.0)) w.0, w.1))
      (of_items text n true true site ps)))

  -- the type parameters of a function
  function_parameters : (allowed : Type 0) (site : ℕ) (ps : Parameters)
      → Says n (AllStandWithin n (type_parameters_marks site ps))
      (type_parameters allowed ps (SpellsTypeParameters text true ps))
  function_parameters allowed site ps =
      so (λ w. both_lie (elsewhere_lie site (parameters_named ps) w.1) w.0)
      (says_type_parameters allowed ps (no_parameters_lie n site ps) (of_type_parameters text n true site ps))

  -- a function by its parts
  with_block : (f : Function) (b : Option Block)
      → Says n (AllStandWithin n (function_marks f b)) (SpellsFunction text record f { body = b })
  with_block f None =
      spanned (behind (keeps_token _) (so (λ w. both_lie w.0.0 (both_lie w.1.0 w.1.1.0))
      (says_both (receiver f.span.start f.receiver) (behind (says_identifier text f.name)
      (says_both (function_parameters _ f.span.start f.type_parameters)
      (ending (of_signature text n f.span.start f.signature) keeps_nothing))))))
  with_block f (Some b) =
      spanned (behind (keeps_token _)
      (so (λ w. body_lies (function_body f b) (w.0.1, w.1.1.0.1)
      (both_lie (both_lie w.0.0 (both_lie w.1.0 w.1.1.0.0)) w.1.1.1))
      (says_both (receiver f.span.start f.receiver) (behind (says_identifier text f.name)
      (says_both (function_parameters _ f.span.start f.type_parameters)
      (says_both (of_signature text n f.span.start f.signature)
      (spanned (enclosed _ _ (of_statements text n b.statements)))))))))

  outer_specs : (keyword : DeclKeyword) (is_grouped : Bool) (specs : Specs)
      → Says n (AllStandWithin n (outer_specs_marks specs)) (SpellsSpecs text keyword is_grouped specs)
  unfolding SpellsSpecs
  outer_specs keyword is_grouped no_spec = says_chosen is_grouped (says_nothing none_lie) says_never
  outer_specs keyword is_grouped (value_and names t es span specs) =
      given (so (λ w. both_lie w.0.0 (both_lie w.0.1 w.1))
      (says_both (spanned (behind (says_identifiers text names)
      (says_both (of_optional text n as_type span.start t)
      (says_perhaps es (expressions_marks (part_of span.start)) (no_expressions (part_of span.start))
      (behind (keeps_token _)
      (says_expressions n text as_expression (part_of span.start) es tt (of_each text n as_expression es)))))))
      (says_chosen is_grouped (behind keeps_semicolon (outer_specs keyword true specs))
      (says_last n (outer_specs_marks specs) specs (no_outer_specs specs)))))
  outer_specs keyword is_grouped (type_and name ps is_alias t span specs) =
      given (so (λ w. both_lie (both_lie (elsewhere_lie span.start (parameters_named ps) w.0.0.1) w.0.0.0) (both_lie w.0.1 w.1))
      (says_both (spanned (behind (says_identifier text name)
      (says_both (says_after_name text.edition ps is_alias t (no_parameters_lie n span.start ps)
      (of_type_parameters text n true span.start ps))
      (behind (keeps_only_if is_alias (keeps_token _)) (of_expression text n as_type (part_of span.start) t tt)))))
      (says_chosen is_grouped (behind keeps_semicolon (outer_specs keyword true specs))
      (says_last n (outer_specs_marks specs) specs (no_outer_specs specs)))))

  top_level : (d : TopLevelDeclaration) → Says n (AllStandWithin n (top_level_marks d)) (SpellsTopLevel text d)
  unfolding SpellsDeclaration
  top_level (function_declaration f) = with_block f f.body
  top_level (general_declaration (declaration_of keyword specs is_grouped span)) =
      spanned (behind (keeps_token _)
      (says_chosen is_grouped (enclosed _ _ (outer_specs keyword true specs)) (outer_specs keyword false specs)))

  top_levels : (ds : List TopLevelDeclaration) → Says n (AllStandWithin n (top_levels_marks ds)) (SpellsTopLevels text ds)
  top_levels [] = says_nothing none_lie
  top_levels (d ∷ ds) = both (top_level d) (behind keeps_semicolon (top_levels ds))

  import_spec : (i : ImportSpec) → Keeps n (SpellsImportSpec text i)
  import_spec i = given (spanned (behind (keeps_import_name text i.name) (spanned keeps_string)))

  import_specs : (is : List ImportSpec) → Keeps n (SpellsImportSpecs text is)
  import_specs [] = keeps_nothing
  import_specs (i ∷ is) = behind (import_spec i) (behind keeps_semicolon (import_specs is))

  one_import : (is : List ImportSpec) → Keeps n (SpellsOneImport text is)
  one_import [] = says_never
  one_import (i ∷ []) = import_spec i
  one_import (i ∷ j ∷ is) = says_never

  imports : (ds : List ImportDeclaration) → Keeps n (SpellsImports text ds)
  imports [] = keeps_nothing
  imports (d ∷ ds) =
      behind (spanned (behind (keeps_token _)
      (says_chosen d.is_grouped (enclosed _ _ (import_specs d.specs)) (one_import d.specs))))
      (behind keeps_semicolon (imports ds))

  whole_file : (file : SourceFile) → Says n (AllStandWithin n (file_marks file)) (SpellsFile text file)
  whole_file file =
      so (λ w. both_lie (imports_lie n (specs_of file.imports)) w)
      (spanned (behind (keeps_token _) (behind (says_identifier text file.package_name) (behind keeps_semicolon
      (behind (imports file.imports) (top_levels file.declarations))))))

-- a token begins before it ends
begins_first : (lo : ℕ) (ts : List Token) → Ordered lo ts → (t : Token) → Contains ts t → t.start ≤ t.end
begins_first lo [] h t none = absurd (contains_nil t none)
begins_first lo (x ∷ ts) h t among =
    let k = first_ordered lo x ts h in
    elim (contains_cases x t ts among) [
      | inl same ↦ subst (λ (y : Token). y.start ≤ y.end) same k.0.ends
      | inr later ↦ begins_first x.end ts k.1 t later
    ]

all_inside : (edition : Edition) (text : List ℕ) (tree : SourceFile) → (t : IsTreeOf edition text tree) → IsInside (length text) (first_place t.tokens)
all_inside edition text tree t = record {
  end = omega arith;
  tokens = λ x among.
      let begins = begins_first 0 t.tokens (tokens_ordered text t.tokens t.cut) x among in
      let under = tokens_under text t.tokens t.cut x among in
      (omega (arith, begins, under), under);
}

marks_lie : (edition : Edition) (text : List ℕ) (tree : SourceFile) (m : Mark) → IsTreeOf edition text tree
    → Contains (file_marks tree) m
    → StandsWithin (length text) m
marks_lie edition text tree m t among =
    (whole_file (read_in edition text) (length text) tree (first_place t.tokens) t.last (all_inside edition text tree t) t.spelled).holds.each m among

pub names_lie_in_texts : NamesLieInTexts
names_lie_in_texts edition text tree m t among =
    let same = marks_there t.meant t.written tree t.same in
    marks_lie edition text t.written m t.is_tree (subst (λ (ms : List Mark). Contains ms m) (sym same) among)
