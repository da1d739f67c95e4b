-- Lists of codes that grow: what there was, then one more, then the rest, is the whole.
use Rattle.std.proofs.Common.{◌≡◌, ℕ, ◌+◌, List, [], ◌∷◌, ◌++◌, refl, sym, ap, ◌∙◌, append_assoc}
use Rattle.std.proofs.lemmas.List.{map-append, append-nil}
use Rattle.code.specs.declared.code.Code.{Code as KeptCode}
use Rattle.meaning.specs.Code.{Code, does, then_code}
use Rattle.meaning.specs.StatementCode.{Sites, in_order}
use Rattle.code.specs.CodeViews.{sequence, event_codes, code_view, codes_view}

module _ {E : Type 0} where
  pub pushed : (before after : List (KeptCode E)) (c : KeptCode E) (x : Code E) (all rest whole : List (Code E))
      → after ≡ before ++ c ∷ [] → code_view c ≡ x → all ≡ x ∷ rest
      → codes_view before ++ all ≡ whole → codes_view after ++ rest ≡ whole
  pushed before after c x all rest whole added is split so_far =
      ap (λ l. codes_view l ++ rest) added
      ∙ ap (λ l. l ++ rest) (map-append code_view before (c ∷ []))
      ∙ append_assoc (codes_view before) (code_view c ∷ []) rest
      ∙ ap (λ y. codes_view before ++ y ∷ rest) is
      ∙ ap (λ l. codes_view before ++ l) (sym split)
      ∙ so_far

  pub all_pushed : (codes : List (KeptCode E)) (rest whole : List (Code E)) → rest ≡ []
      → codes_view codes ++ rest ≡ whole → codes_view codes ≡ whole
  all_pushed codes rest whole none so_far =
      sym (append-nil (codes_view codes)) ∙ ap (λ l. codes_view codes ++ l) (sym none) ∙ so_far

  pub sequence-events : (sites : Sites E) (at order : ℕ) (es : List E) → sequence (event_codes at order es) ≡ in_order sites at order es
  sequence-events sites at order [] = refl
  sequence-events sites at order (e ∷ es) =
      ap (then_code (does record { at = at; order = order; event = e })) (sequence-events sites at (order + 1) es)
