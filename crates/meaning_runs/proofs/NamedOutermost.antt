-- A body of a function's name stands in no other body: in a file, what stands in a body and begins one is a literal, which
-- has no name.
use Rattle.std.proofs.Common.{◌≡◌, ℕ, Bool, true, inl, inr, List, [], ◌∷◌, ◌++◌, Option, Some, None, Contains, sym, ap, ◌∙◌, subst}
use Rattle.std.proofs.lemmas.List.Elements.{Contains-append_cases}
use Rattle.tree.specs.Syntax.{Block, Function, TopLevelDeclaration, function_declaration, general_declaration, declaration_of, SourceFile}
use Rattle.meaning.specs.OuterBlocks.{specs_of}
use Rattle.meaning.specs.Mentions.{BodyPlace, Mark, opens, closes, function_body, function_types_marks, function_marks, statements_marks, outer_specs_marks, top_level_marks, top_levels_marks, marks_by, file_marks, import_marks}
use Rattle.meaning.specs.Tracked.{Placed, placed, outer, some_keep}
use Rattle.meaning.specs.Uses.{Seen}
use Rattle.meaning.specs.BodyEvents.{opened_in}
use Rattle.meaning.proofs.Membership.{contains_cases, contains_nil}
use Rattle.meaning_packages.specs.CallsFlags.{is_function}
use Rattle.meaning_packages.proofs.BodyPlaces.{placed_only}
use Rattle.meaning_reports.specs.Loaded.{LoadedPackage, known_in, trees_of}
use Rattle.meaning_runs.specs.Bodies.{Program, Body, IsOf, IsOutermost}
use Rattle.meaning_runs.proofs.BodyOffsets.{opened_there}
use Rattle.meaning_runs.proofs.BodyOffsetsWithin.{placed_nil, opened_placed}
use Rattle.meaning_runs.proofs.EditionMarks.{placed_among}
use Rattle.meaning_runs.proofs.LeftSides.{of_types, of_block, of_outer_specs, is_placed, of_imports}
use Rattle.meaning_runs.proofs.MarkForms.{of_top_level, of_imports as imports_made}
use Rattle.meaning_runs.proofs.MarksBeside.{splits}
use Rattle.meaning_runs.proofs.NamedBodies.{named_so, opens_one}
use Rattle.meaning_runs.proofs.TrackedBindings.{of_number}

module _ (b : BodyPlace) (named : b.name ≡ None → ⊥) where
  -- where one of these marks opens the body, no other is around it
  abbrev StandsAlone : List Mark → Type 0
  StandsAlone ms = (p : Placed) → Contains (placed [] ms) p → p.mark ≡ opens b → p.bodies ≡ b ∷ []

  -- the mark is among those that are placed
  opens_it : (bodies : List BodyPlace) (ms : List Mark) (p : Placed) → Contains (placed bodies ms) p → p.mark ≡ opens b
      → Contains ms (opens b)
  opens_it bodies ms p h e = subst (λ (m : Mark). Contains ms m) e (is_placed bodies ms p h)

  of_function : (f : Function) (o : Option Block) → StandsAlone (function_marks f o)
  of_function f None p h e = absurd (named ((of_types f).each (opens b) (opens_it [] (function_types_marks f) p h e)))
  of_function f (Some block) p h e =
      let its = function_body f block in
      let inside = (function_types_marks f ++ statements_marks block.statements) ++ closes ∷ [] in
      let opening : Placed = record { mark = opens its; bodies = its ∷ [] } in
      elim (contains_cases opening p (placed (its ∷ []) inside) (subst (λ (l : List Placed). Contains l p) (opened_placed its [] inside) h)) [
        | inl same ↦
            let one : its ≡ b = opens_one its b (ap (λ (q : Placed). q.mark) same ∙ e) in
            sym (ap (λ (q : Placed). q.bodies) same) ∙ ap (λ (c : BodyPlace). c ∷ []) one
        | inr r ↦ absurd (named ((of_block f block).each (opens b) (opens_it (its ∷ []) inside p r e)))
      ]

  of_top_level_one : (d : TopLevelDeclaration) → StandsAlone (top_level_marks d)
  of_top_level_one (function_declaration f) p h e = of_function f f.body p h e
  of_top_level_one (general_declaration (declaration_of keyword specs is_grouped span)) p h e =
      absurd (named ((of_outer_specs specs).each (opens b) (opens_it [] (outer_specs_marks specs) p h e)))

  of_top_levels : (ds : List TopLevelDeclaration) → StandsAlone (top_levels_marks ds)
  of_top_levels [] p h e = absurd (contains_nil p (subst (λ (l : List Placed). Contains l p) (placed_nil []) h))
  of_top_levels (d ∷ ds) p h e =
      let first = placed [] (top_level_marks d) in
      let second = placed [] (top_levels_marks ds) in
      let whole = splits (top_level_marks d) (of_top_level d) [] (top_levels_marks ds) in
      elim (Contains-append_cases first second p (subst (λ (l : List Placed). Contains l p) whole h)) [
        | inl l ↦ of_top_level_one d p l e
        | inr r ↦ of_top_levels ds p r e
      ]

  -- imports begin no body
  of_file : (file : SourceFile) → StandsAlone (file_marks file)
  of_file file p h e =
      let imports = import_marks (specs_of file.imports) in
      let first = placed [] imports in
      let second = placed [] (top_levels_marks file.declarations) in
      let whole = splits imports (imports_made (specs_of file.imports)) [] (top_levels_marks file.declarations) in
      elim (Contains-append_cases first second p (subst (λ (l : List Placed). Contains l p) whole h)) [
        | inl l ↦ absurd (named ((of_imports (specs_of file.imports)).each (opens b) (opens_it [] imports p l e)))
        | inr r ↦ of_top_levels file.declarations p r e
      ]

-- some field keeps, by what is known where the file of that number is seen
abbrev pub keeps_in : Program → LoadedPackage → ℕ → Bool
keeps_in p loaded n = some_keep (known_in p.packages p.tables loaded n).fields

pub named_is_outermost : (p : Program) (b : Body) (of : IsOf p b) (name : List ℕ) → is_function name b.place ≡ true
    → IsOutermost b
named_is_outermost p b of name is =
    let w = of_number (known_in p.packages p.tables of.loaded) 0 (trees_of of.loaded) b.file of.is_file in
    let m = opened_there b.file.marks b.place (placed_only (opened_in b.file.marks) b.place of.is_body) in
    let here : Contains (placed [] (marks_by of.loaded.edition (keeps_in p of.loaded w.0) (file_marks w.1))) m.0 =
    subst (λ (s : Seen). Contains s.marks m.0) (sym w.2) m.1 in
    let alone = of_file b.place (named_so name b.place is) w.1 m.0
    (placed_among of.loaded.edition (keeps_in p of.loaded w.0) (file_marks w.1) m.0 here) m.2 in
    record { mark = m.0; is_of_file = m.1; opens_it = m.2; stands_in_none = ap outer alone }
