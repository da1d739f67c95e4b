-- What declarations outside all functions add to the marks.
use Rattle.std.proofs.Common.{◌≡◌, ℕ, Bool, true, false, if◌then◌else◌, List, [], ◌∷◌, ◌++◌, Option, Some, None, option_map, refl, sym, ap, ◌∙◌}
use Rattle.std.specs.Borrow.{Bor}
use Rattle.std.specs.declared.alloc.Global.{Global}
use Rattle.std.specs.declared.vec.Vec.{Vec}
use Rattle.tree.specs.declared.declaration.Spec.{Spec, Value', Type'}
use Rattle.tree.specs.declared.expression.Param.{Param}
use Rattle.tree.specs.declared.statement.Block.{Block, out-Block}
use Rattle.tree.specs.declared.span.Span.{Span}
use Rattle.tree.specs.Syntax.{Identifier, ImportSpec, Signature, Parameters, expression_node, Specs, no_spec, Statements}
use Rattle.tree.specs.View.{block_braces, expression_form, row_expressions, held_expression, row_parameters, parameters_syntax, spec_and}
use Rattle.tree.proofs.Views.{block_syntax-out}
use Rattle.marks.specs.declared.by_edition.Told.{Told}
use Rattle.marks.specs.declared.by_edition.Walk.{Walk}
use Rattle.marks.specs.WalkViews.{AddsBy, marks_told}
use Rattle.mentions.proofs.Adding.{two_parts}
use Rattle.std.proofs.lemmas.List.{append_assoc, append-nil}
use Rattle.tree.specs.declared.edition.Edition.{Edition}
use Rattle.mentions.specs.MarkViews.{marks_view}
use Rattle.marks.proofs.AddingBy.{told_nothing, told_both, adds_then}
use Rattle.meaning.specs.Mentions.{BodyPlace, Mark, of_fields, imports_all, is_dot, import_marks, opens, closes, in_body, other_use, part_of, expression_marks, expressions_marks, optional_marks, type_parameters_marks, outer_specs_marks}

pub outer_specs_more : (s : Spec) (ss : Specs) → outer_specs_marks (spec_and s ss) ≡ outer_specs_marks (spec_and s no_spec) ++ outer_specs_marks ss
unfolding spec_and
outer_specs_more (Value' ns t shape es span) ss =
    two_parts (optional_marks span.start (held_expression t)) (expressions_marks (part_of span.start) (row_expressions es))
    (outer_specs_marks ss)
outer_specs_more (Type' n shape ps alias p t t_span span) ss =
    two_parts (type_parameters_marks span.start (row_parameters ps))
    (expression_marks (part_of span.start) (expression_node (expression_form t) t_span)) (outer_specs_marks ss)

-- a function's block, from the mark that opens it to the one that closes it
pub adds_function : (body : BodyPlace) (a b c d e : Walk) (types rest : List Mark)
    → AddsBy a b (opens body ∷ [])
    → AddsBy b c types
    → AddsBy c d rest
    → AddsBy d e (closes ∷ [])
    → AddsBy a e (in_body body (types ++ rest))
adds_function body a b c d e types rest first second third last =
    adds_then a b e (opens body ∷ []) ((types ++ rest) ++ closes ∷ []) first
    (adds_then b d e (types ++ rest) (closes ∷ []) (adds_then b c d types rest second third) last)

pub braces_out : (b : Block) → block_braces b ≡ (out-Block b).span
braces_out b = λ i. (block_syntax-out b i).braces

-- the receiver, which the code reads as a slice
pub receiver_same : (lent : Option (Bor (List Param))) (kept : Option (Vec Param Global))
    → option_map (λ (s : Bor (List Param)). s.now) lent ≡ option_map (λ (ps : Vec Param Global). ps.items) kept
    → option_map (λ (s : Bor (List Param)). parameters_syntax s.now) lent
    ≡ option_map (λ (ps : Vec Param Global). parameters_syntax ps.items) kept
receiver_same None None same = refl
receiver_same None (Some kept) same = ap (option_map parameters_syntax) same
receiver_same (Some lent) None same = ap (option_map parameters_syntax) same
receiver_same (Some lent) (Some kept) same = ap (option_map parameters_syntax) same

abbrev pub body_of : ℕ → Option Identifier → Option Parameters → Signature → Statements → Span → BodyPlace
body_of at name receiver signature ss braces = record {
  at = at;
  name = name;
  receiver = receiver;
  signature = signature;
  statements = ss;
  braces = braces;
  literal = other_use;
}

pub body_same : (at : ℕ) (name : Option Identifier) (lent kept : Option Parameters) (signature : Signature) (ss : Statements) (braces : Span)
    → lent ≡ kept
    → body_of at name lent signature ss braces ≡ body_of at name kept signature ss braces
body_same at name lent kept signature ss braces same = ap (λ ps. body_of at name ps signature ss braces) same

-- A loop over the declarations of a file keeps that what was added with what the rest adds is the whole.

abbrev pub told_by : Edition → Bool → Told
told_by edition some_keep = record { edition = edition; some_keep = some_keep }

module _ (told : Told) where
  abbrev pub IsSoFar : Walk → List Mark → List Mark → Type 0
  IsSoFar now all whole = (now.told ≡ told) × (marks_view now.marks.list.items ++ marks_told told all ≡ whole)

  pub file_next : (now next : Walk) (all marks rest whole : List Mark)
      → IsSoFar now all whole
      → all ≡ marks ++ rest
      → AddsBy now next marks
      → IsSoFar next rest whole
  file_next now next all marks rest whole so_far parts added =
      let before = marks_view now.marks.list.items in (
        added.keeps ∙ so_far.0,
        ap (λ l. l ++ marks_told told rest) (added.adds ∙ ap (λ t. before ++ marks_told t marks) so_far.0)
            ∙ (append_assoc before (marks_told told marks) (marks_told told rest)
            ∙ (ap (λ l. before ++ l) (sym (ap (marks_told told) parts ∙ told_both told marks rest)) ∙ so_far.1)),
      )

  pub file_all : (end : Walk) (all whole : List Mark) → IsSoFar end all whole → all ≡ [] → marks_view end.marks.list.items ≡ whole
  file_all end all whole so_far nothing =
      let after = marks_view end.marks.list.items in
      sym (append-nil after) ∙ (ap (λ l. after ++ l) (sym (ap (marks_told told) nothing ∙ told_nothing told)) ∙ so_far.1)

-- what is marked is what the walk was told to mark
pub told_marks : (start end : Walk) (told : Told) (xs ys : List Mark)
    → start.told ≡ told
    → start.marks.list.items ≡ []
    → xs ≡ ys
    → AddsBy start end xs
    → marks_view end.marks.list.items ≡ marks_told told ys
told_marks start end told xs ys is none same added =
    added.adds ∙ (λ i. marks_view (none i) ++ marks_told (is i) (same i))

-- Imports that bring names which aren't written

pub dot_marks : (s : ImportSpec) → true ≡ is_dot s.name → of_fields s.span.start imports_all ∷ [] ≡ import_marks (s ∷ [])
dot_marks s dot = ap (λ b. (if b then of_fields s.span.start imports_all ∷ [] else []) ++ []) dot

pub no_dot_marks : (s : ImportSpec) → false ≡ is_dot s.name → [] ≡ import_marks (s ∷ [])
no_dot_marks s dot = ap (λ b. (if b then of_fields s.span.start imports_all ∷ [] else []) ++ []) dot

pub imports_more : (s : ImportSpec) (ss : List ImportSpec)
    → import_marks (s ∷ ss) ≡ import_marks (s ∷ []) ++ import_marks ss
imports_more s ss =
    ap (λ ms. ms ++ import_marks ss) (sym (append-nil (if is_dot s.name then of_fields s.span.start imports_all ∷ [] else [])))

pub imports_joined : (xs ys : List ImportSpec) → import_marks (xs ++ ys) ≡ import_marks xs ++ import_marks ys
imports_joined [] ys = refl
imports_joined (x ∷ xs) ys =
    let first = if is_dot x.name then of_fields x.span.start imports_all ∷ [] else [] in
    ap (λ ms. first ++ ms) (imports_joined xs ys) ∙ sym (append_assoc first (import_marks xs) (import_marks ys))

-- the declarations come behind the imports
pub file_first : (told : Told) (start now : Walk) (imports rest : List Mark)
    → start.told ≡ told
    → start.marks.list.items ≡ []
    → AddsBy start now imports
    → IsSoFar told now rest (marks_told told (imports ++ rest))
file_first told start now imports rest is none added = (
  added.keeps ∙ is,
  ap (λ l. l ++ marks_told told rest) (added.adds ∙ (λ i. marks_view (none i) ++ marks_told (is i) imports))
      ∙ sym (told_both told imports rest),
)
