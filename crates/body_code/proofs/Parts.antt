-- The parts of a body, one of which comes: the last way is past them.
use Rattle.std.proofs.Common.{◌≡◌, ◌≢◌, ℕ, List, [], ◌∷◌, ◌++◌, map, refl, sym, ap, ◌∙◌}
use Rattle.std.proofs.lemmas.List.{map-append}
use Rattle.tree.specs.Syntax.{Statements}
use Rattle.meaning.specs.Code.{Code, skip, either}
use Rattle.meaning.specs.Jumps.{Part, parts_of, jumps_in}
use Rattle.meaning.specs.StatementCode.{Sites, part_code, one_of, jumping_or, jumping_code, statements_code, block_code}
use Rattle.code.specs.declared.code.Code.{Code as KeptCode, Skip}
use Rattle.code.specs.CodeViews.{choice, code_view, codes_view}
use Rattle.code.proofs.Codes.{code_view-Skip}

module _ {E : Type 0} where
  abbrev pub part_codes : Sites E → List Part → List (Code E)
  part_codes sites ps = map (part_code sites) ps

  or_past_all : (sites : Sites E) (ps : List Part) → choice (part_codes sites ps ++ skip ∷ []) ≡ one_of sites ps
  or_past_all sites [] = refl
  or_past_all sites (p ∷ []) = refl
  or_past_all sites (p ∷ (q ∷ ps)) = ap (either (part_code sites p)) (or_past_all sites (q ∷ ps))

  pub chosen_part : (sites : Sites E) (ps : List Part) (kept codes : List (KeptCode E)) (x : Code E)
      → codes_view kept ≡ part_codes sites ps → codes ≡ kept ++ Skip ∷ [] → x ≡ choice (codes_view codes)
      → x ≡ one_of sites ps
  chosen_part sites ps kept codes x are pushed is =
      is ∙ ap (λ l. choice (codes_view l)) pushed
      ∙ ap choice (map-append code_view kept (Skip ∷ []) ∙ (λ i. are i ++ code_view-Skip i ∷ []))
      ∙ or_past_all sites ps

  -- The statements of a body, by the list of their `goto`s that was found

  pub in_their_order : (sites : Sites E) (ss : Statements) (found : List ℕ) → found ≡ jumps_in ss → found ≡ []
      → statements_code sites ss ≡ block_code sites ss
  in_their_order sites ss found same none =
      ap (λ l. jumping_or l (jumping_code sites (parts_of ss)) (statements_code sites ss)) (sym none ∙ same)

  jumps : (found : List ℕ) (x y : Code E) → found ≢ [] → x ≡ jumping_or found x y
  jumps [] x y some = absurd (some refl)
  jumps (at ∷ ats) x y some = refl

  pub in_any_order : (sites : Sites E) (ss : Statements) (found : List ℕ) → found ≡ jumps_in ss → found ≢ []
      → jumping_code sites (parts_of ss) ≡ block_code sites ss
  in_any_order sites ss found same some =
      jumps found (jumping_code sites (parts_of ss)) (statements_code sites ss) some
      ∙ ap (λ l. jumping_or l (jumping_code sites (parts_of ss)) (statements_code sites ss)) same
