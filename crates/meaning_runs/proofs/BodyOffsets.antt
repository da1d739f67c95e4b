-- In the tree of a text no two bodies begin at one offset, and a body that stands in another begins behind it.
use Rattle.std.proofs.Common.{◌≡◌, ℕ, ◌<◌, ◌≤◌, length, arith, inl, inr, Bool, true, false, List, [], ◌∷◌, ◌++◌, Option, Some, None, Contains, refl, sym, ap, subst, append_assoc, ◌∙◌, append-nil}
use Rattle.std.specs.Prelude.{◌-◌, if◌then◌else◌}
use Rattle.std.proofs.lemmas.List.Elements.{Contains-append_cases}
use Rattle.tree.specs.declared.operator.DeclKeyword.{DeclKeyword}
use Rattle.tree.specs.declared.span.Span.{Span}
use Rattle.tree.specs.Syntax.{Identifier, Parameters, Specs, no_spec, value_and, type_and, declaration_of, Block, Function, TopLevelDeclaration, function_declaration, general_declaration, ImportSpec, ImportDeclaration, SourceFile}
use Rattle.meaning.specs.Mentions.{BodyPlace, Mark, mentions, returns, opens, closes, part_of, expressions_marks, expression_marks, optional_marks, signature_marks, statements_marks, declared_elsewhere, type_parameters_marks, receiver_marks, function_body, function_marks, outer_specs_marks, top_level_marks, top_levels_marks, marks_by, file_marks, of_fields, imports_all, is_dot, import_marks, runs_literal}
use Rattle.meaning.specs.Tracked.{Placed, outer, placed}
use Rattle.tree.specs.declared.edition.Edition.{Edition}
use Rattle.meaning.specs.Cursor.{GoText, read_in, ◌⨾◌, spanning, string_token}
use Rattle.meaning.specs.OuterBlocks.{specs_of}
use Rattle.meaning.specs.Scopes.{parameters_named, named_in_types}
use Rattle.meaning.specs.TreeOfText.{first_place, IsTreeOf}
use Rattle.meaning.specs.Grammar.{as_type, as_expression, IsLast, type_parameters, SpellsTypeParameters, SpellsSpecs, SpellsDeclaration, SpellsImportSpec, SpellsImportSpecs, SpellsOneImport, SpellsImports, SpellsReceiver, SpellsBody, SpellsFunction, SpellsTopLevel, SpellsTopLevels, SpellsFile, import_name}
use Rattle.meaning.proofs.Membership.{contains_nil, contains_here, contains_there, contains_cases}
use Rattle.meaning.specs.BodyEvents.{opened_by, opened_in}
use Rattle.meaning_reports.specs.MeantImports.{IsTreeButForImports}
use Rattle.meaning_reports.proofs.MeantImports.{marks_there}
use Rattle.meaning_runs.specs.BodyOffsets.{AreApart, BodiesAreApart, BeginOnce, BodiesBeginOnce}
use Rattle.meaning_runs.proofs.LeftSides.{is_placed}
use Rattle.meaning_runs.proofs.BodyOffsetsWithin.{AllBefore, OpenOnce}
use Rattle.meaning_runs.proofs.BodyOffsetsTokens.{tokens_ordered, tokens_under}
use Rattle.meaning_runs.proofs.AskedSites.{CodeSite, unasked_at, asked_statements}
use Rattle.meaning_runs.proofs.SitesWithin.{Sited, no_site, from_site, AreMentions}
use Rattle.meaning_runs.proofs.BodyOffsetsRules.{Gives, both, behind, ending, given, spanned, loosely, gives_nothing, gives_never, gives_token, gives_chosen, gives_only_if, enclosed, gives_string, gives_semicolon, gives_identifier, gives_identifiers, moved, plain_before, spanned_begun, unasked, foreign, past, simple, led, braced, bodied}
use Rattle.meaning_runs.proofs.BodyOffsetsParts.{names_around, gives_perhaps, gives_type_parameters, gives_after_name, gives_expressions, gives_written_name}
use Rattle.meaning_runs.proofs.BodyOffsetsSpelled.{gives_keyword, no_parameters_marked, no_expressions, three_and_one, last_gives, of_expression, of_each, of_optional, of_signature, of_items, of_type_parameters, of_statements}
use Rattle.meaning_runs.proofs.EditionMarks.{placed_among, same_opened}

pub no_outer_specs : (specs : Specs) → IsLast specs → outer_specs_marks specs ≡ []
no_outer_specs no_spec h = refl
no_outer_specs (value_and ns t es span specs) h = absurd h
no_outer_specs (type_and n ps is_alias t span specs) h = absurd h

abbrev block_sites : Block → List CodeSite
block_sites b = unasked_at b.braces.start ∷ (asked_statements b.statements ++ unasked_at (b.braces.end - 1) ∷ [])

abbrev import_mark : Bool → ℕ → List Mark
import_mark b site = if b then of_fields site imports_all ∷ [] else []

import_around : (b : Bool) (site : ℕ) → AreMentions (from_site site) (import_mark b site)
import_around true site = (refl, tt)
import_around false site = tt

of_both_imports : (ss ts : List ImportSpec) → import_marks (ss ++ ts) ≡ import_marks ss ++ import_marks ts
of_both_imports [] ts = refl
of_both_imports (s ∷ ss) ts =
    let first = import_mark (is_dot s.name) s.span.start in
    ap (λ (l : List Mark). first ++ l) (of_both_imports ss ts)
    ∙ sym (append_assoc first (import_marks ss) (import_marks ts))

module _ (text : GoText) where
  outer_specs : (keyword : DeclKeyword) (is_grouped : Bool) (specs : Specs)
      → Gives false no_site [] (outer_specs_marks specs) (SpellsSpecs text keyword is_grouped specs)
  unfolding SpellsSpecs
  outer_specs keyword is_grouped no_spec = gives_chosen is_grouped gives_nothing gives_never
  outer_specs keyword is_grouped (value_and ns t es span specs) =
      moved (append_assoc (optional_marks span.start t) (expressions_marks (part_of span.start) es) (outer_specs_marks specs))
      (given (loosely (both (spanned_begun (unasked (simple (behind (gives_identifiers text ns)
      (both (of_optional text as_type span.start t)
      (gives_perhaps es (expressions_marks (part_of span.start)) (no_expressions (part_of span.start))
      (behind (gives_token _)
      (gives_expressions text as_expression (part_of span.start) es (of_each text as_expression es)))))))))
      (gives_chosen is_grouped (behind gives_semicolon (outer_specs keyword true specs))
      (last_gives [] (outer_specs_marks specs) specs (λ h. refl) (no_outer_specs specs))))))
  outer_specs keyword is_grouped (type_and n ps is_alias t span specs) =
      moved (append_assoc (type_parameters_marks span.start ps) (expression_marks (part_of span.start) t) (outer_specs_marks specs))
      (given (loosely (both (spanned_begun (unasked (simple (behind (gives_identifier text n)
      (both (plain_before (declared_elsewhere span.start (parameters_named ps)) (names_around span.start (parameters_named ps))
      (gives_after_name text.edition ps is_alias t (no_parameters_marked span.start ps) (of_type_parameters text true span.start ps)))
      (behind (gives_only_if is_alias (gives_token _))
      (of_expression text as_type (part_of span.start) t)))))))
      (gives_chosen is_grouped (behind gives_semicolon (outer_specs keyword true specs))
      (last_gives [] (outer_specs_marks specs) specs (λ h. refl) (no_outer_specs specs))))))

  -- the type parameters of a function
  function_parameters : (allowed : Type 0) (site : ℕ) (ps : Parameters)
      → Gives false (from_site site) [] (type_parameters_marks site ps)
      (type_parameters allowed ps (SpellsTypeParameters text true ps))
  function_parameters allowed site ps =
      plain_before (declared_elsewhere site (parameters_named ps)) (names_around site (parameters_named ps))
      (gives_type_parameters allowed ps (no_parameters_marked site ps) (of_type_parameters text true site ps))

  pub receiver : (site : ℕ) (ps : Option Parameters)
      → Gives false (from_site site) [] (receiver_marks site ps) (SpellsReceiver text ps)
  receiver site None = gives_nothing
  receiver site (Some ps) =
      given (plain_before (declared_elsewhere site (named_in_types ps)) (names_around site (named_in_types ps))
      (loosely (enclosed _ _ (of_items text true true site ps))))

  block : (b : Block)
      → Gives true no_site (block_sites b) (statements_marks b.statements) (SpellsBody text (Some b))
  block b = braced (of_statements text b.statements)

  -- a function by its parts
  with_block : (f : Function) (b : Option Block)
      → Gives true no_site [] (function_marks f b) (SpellsFunction text record f { body = b })
  with_block f None =
      spanned_begun (unasked (led _ refl (past (both (receiver f.span.start f.receiver)
      (behind (gives_identifier text f.name)
      (both (function_parameters _ f.span.start f.type_parameters)
      (ending (of_signature text f.span.start f.signature) gives_nothing)))))))
  with_block f (Some b) =
      bodied (function_body f b) refl
      (moved (sym (three_and_one (receiver_marks f.span.start f.receiver) (type_parameters_marks f.span.start f.type_parameters)
      (signature_marks f.span.start f.signature) (statements_marks b.statements)))
      (both (past (receiver f.span.start f.receiver))
      (behind (gives_identifier text f.name)
      (both (past (function_parameters _ f.span.start f.type_parameters))
      (both (past (of_signature text f.span.start f.signature)) (foreign (block b)))))))

  pub top_level : (d : TopLevelDeclaration) → Gives false no_site [] (top_level_marks d) (SpellsTopLevel text d)
  unfolding SpellsDeclaration
  top_level (function_declaration f) = loosely (with_block f f.body)
  top_level (general_declaration (declaration_of keyword specs is_grouped span)) =
      spanned (loosely (behind (gives_keyword keyword)
      (gives_chosen is_grouped (loosely (enclosed _ _ (outer_specs keyword true specs)))
      (outer_specs keyword false specs))))

  top_levels : (ds : List TopLevelDeclaration) → Gives false no_site [] (top_levels_marks ds) (SpellsTopLevels text ds)
  top_levels [] = gives_nothing
  top_levels (d ∷ ds) = both (top_level d) (behind gives_semicolon (top_levels ds))

  -- a spec by its name: the mark of one with a dot stands where the spec does
  named_import : (span path : Span) (name : Option Identifier)
      → Gives false no_site [] (import_mark (is_dot name) span.start)
      (spanning span (import_name text name ⨾ spanning path string_token))
  named_import span path None = spanned (behind gives_nothing (spanned gives_string))
  named_import span path (Some n) =
      let ms = import_mark (is_dot (Some n)) span.start in
      loosely (spanned_begun (unasked (simple (moved (append-nil ms)
      (plain_before ms (import_around (is_dot (Some n)) span.start)
      (behind (gives_written_name text n) (spanned gives_string)))))))

  pub import_spec : (i : ImportSpec)
      → Gives false no_site [] (import_mark (is_dot i.name) i.span.start) (SpellsImportSpec text i)
  import_spec i = given (named_import i.span i.path_span i.name)

  import_specs : (is : List ImportSpec) → Gives false no_site [] (import_marks is) (SpellsImportSpecs text is)
  import_specs [] = gives_nothing
  import_specs (i ∷ is) = both (import_spec i) (behind gives_semicolon (import_specs is))

  one_import : (is : List ImportSpec) → Gives false no_site [] (import_marks is) (SpellsOneImport text is)
  one_import [] = gives_never
  one_import (i ∷ []) = moved (sym (append-nil (import_mark (is_dot i.name) i.span.start))) (import_spec i)
  one_import (i ∷ j ∷ is) = gives_never

  pub imports : (ds : List ImportDeclaration)
      → Gives false no_site [] (import_marks (specs_of ds)) (SpellsImports text ds)
  imports [] = gives_nothing
  imports (d ∷ ds) =
      moved (sym (of_both_imports d.specs (specs_of ds)))
      (loosely (both (spanned (behind (gives_token _)
      (gives_chosen d.is_grouped (loosely (enclosed _ _ (import_specs d.specs))) (one_import d.specs))))
      (behind gives_semicolon (imports ds))))

  whole_file : (file : SourceFile) → Gives true no_site [] (file_marks file) (SpellsFile text file)
  whole_file file =
      spanned (behind (gives_token _) (behind (gives_identifier text file.package_name) (behind gives_semicolon
      (both (imports file.imports) (top_levels file.declarations)))))

-- the bodies that placed marks open
opened_here : (m : Mark) (b : BodyPlace) → Contains (opened_by m) b → m ≡ opens b
opened_here (mentions m) b h = absurd (contains_nil b h)
opened_here (of_fields site m) b h = absurd (contains_nil b h)
opened_here (runs_literal moment site at) b h = absurd (contains_nil b h)
opened_here (returns at es) b h = absurd (contains_nil b h)
opened_here (opens c) b h = elim (contains_cases c b [] h) [
  | inl e ↦ ap opens e
  | inr none ↦ absurd (contains_nil b none)
]
opened_here closes b h = absurd (contains_nil b h)

pub opened_there : (ps : List Placed) (b : BodyPlace) → Contains (opened_in ps) b → (p : Placed) × Contains ps p × (p.mark ≡ opens b)
opened_there [] b h = absurd (contains_nil b h)
opened_there (p ∷ ps) b h = elim (Contains-append_cases (opened_by p.mark) (opened_in ps) b h) [
  | inl here ↦ (p, contains_here p ps, opened_here p.mark b here)
  | inr rest ↦ let w = opened_there ps b rest in (w.0, contains_there p w.0 ps w.1, w.2)
]

pub opens_one : (ms : List Mark) (b : BodyPlace) → Contains (opened_in (placed [] ms)) b → Contains ms (opens b)
opens_one ms b h =
    let w = opened_there (placed [] ms) b h in
    subst (λ (m : Mark). Contains ms m) w.2 (is_placed [] ms w.0 w.1)

no_bodies_before : AllBefore 0 []
no_bodies_before c h = absurd (contains_nil c h)

apart_as_written : (edition : Edition) (some_keep : Bool) (text : List ℕ) (tree : SourceFile) → IsTreeOf edition text tree
    → AreApart (placed [] (marks_by edition some_keep (file_marks tree)))
apart_as_written edition some_keep text tree t =
    let g = whole_file (read_in edition text) tree (first_place t.tokens) t.last 0 tt (tokens_ordered text t.tokens t.cut) t.spelled in
    let w = g.within in
    let marks = file_marks tree in
    let same_bodies = same_opened edition some_keep marks in
    record {
      falling = λ p among. w.falls [] tt no_bodies_before p (placed_among edition some_keep marks p among);
      one_each = λ b c first second same.
          let opens_b = opens_one marks b (subst (λ (bs : List BodyPlace). Contains bs b) same_bodies first) in
          let opens_c = opens_one marks c (subst (λ (bs : List BodyPlace). Contains bs c) same_bodies second) in
          w.one_each b c opens_b opens_c same;
    }

pub bodies_are_apart : BodiesAreApart
bodies_are_apart edition some_keep text tree t =
    subst (λ (ms : List Mark). AreApart (placed [] (marks_by edition some_keep ms))) (marks_there t.meant t.written tree t.same)
    (apart_as_written edition some_keep text t.written t.is_tree)

-- the bodies that the marks open, wherever these stand
begin_once : (bodies : List BodyPlace) (ms : List Mark) → OpenOnce ms → BeginOnce (opened_in (placed bodies ms))
unfolding placed
begin_once bodies [] h = tt
begin_once bodies (mentions m ∷ ms) h = begin_once bodies ms h.1
begin_once bodies (of_fields site m ∷ ms) h = begin_once bodies ms h.1
begin_once bodies (runs_literal moment site at ∷ ms) h = begin_once bodies ms h.1
begin_once bodies (returns at es ∷ ms) h = begin_once bodies ms h.1
begin_once bodies (opens b ∷ ms) h = (
  λ c among same.
      let w = opened_there (placed (b ∷ bodies) ms) c among in
      let m = subst (λ (m : Mark). Contains ms m) w.2 (is_placed (b ∷ bodies) ms w.0 w.1) in
      h.0 (opens c) m b c refl refl same,
  begin_once (b ∷ bodies) ms h.1,
)
begin_once bodies (closes ∷ ms) h = begin_once (outer bodies) ms h.1

once_as_written : (edition : Edition) (some_keep : Bool) (text : List ℕ) (tree : SourceFile) → IsTreeOf edition text tree
    → BeginOnce (opened_in (placed [] (marks_by edition some_keep (file_marks tree))))
once_as_written edition some_keep text tree t =
    let g = whole_file (read_in edition text) tree (first_place t.tokens) t.last 0 tt (tokens_ordered text t.tokens t.cut) t.spelled in
    subst BeginOnce (sym (same_opened edition some_keep (file_marks tree))) (begin_once [] (file_marks tree) g.within.once)

pub bodies_begin_once : BodiesBeginOnce
bodies_begin_once edition some_keep text tree t =
    subst (λ (ms : List Mark). BeginOnce (opened_in (placed [] (marks_by edition some_keep ms))))
    (marks_there t.meant t.written tree t.same)
    (once_as_written edition some_keep text t.written t.is_tree)

-- the sites of a file whose tree has these marks and is the tree of a text
pub record AreSited (text : List ℕ) (marks : List Mark) : Type 0 where
  pub end : ℕ
  pub in_text : end ≤ length text
  pub sited : Sited no_site 0 end [] marks
  pub begun : (b : BodyPlace) → Contains marks (opens b) → b.at < end

sited_as_written : (edition : Edition) (text : List ℕ) (tree : SourceFile) → IsTreeOf edition text tree
    → AreSited text (file_marks tree)
sited_as_written edition text tree t =
    let g = whole_file (read_in edition text) tree (first_place t.tokens) t.last 0 tt (tokens_ordered text t.tokens t.cut) t.spelled in
    let bounded = g.bounded (length text) (omega arith) (tokens_under text t.tokens t.cut) in
    record {
      end = g.hi;
      in_text = bounded.0;
      sited = g.sited;
      begun = λ b among. (g.within.inside b among).1;
    }

pub are_sited : (edition : Edition) (text : List ℕ) (tree : SourceFile) → IsTreeButForImports edition text tree
    → AreSited text (file_marks tree)
are_sited edition text tree t =
    subst (AreSited text) (marks_there t.meant t.written tree t.same) (sited_as_written edition text t.written t.is_tree)
