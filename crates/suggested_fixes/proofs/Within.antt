-- One more fix whose edits lie within a text.
use Rattle.std.proofs.Common.{◌≡◌, ℕ, Bool, true, ◌&&◌, List, [], ◌∷◌, ◌++◌, sym, ap, ◌∙◌}
use Rattle.std.proofs.lemmas.Bool.{and_parts}
use Rattle.suggested_fixes.specs.Edits.{are_within, lie_within}
use Rattle.suggested_fixes.specs.declared.edits.Edit.{Edit}
use Rattle.suggested_fixes.specs.declared.edits.Fix.{Fix}

one_more : (size : ℕ) (fixes : List Fix) (fix : Fix) → lie_within size fixes ≡ true → are_within size fix.edits.items ≡ true
    → lie_within size (fixes ++ fix ∷ []) ≡ true
one_more size [] fix h t = ap (λ (b : Bool). b && true) t
one_more size (x ∷ xs) fix h t =
    let both = and_parts _ _ h in
    let rest = one_more size xs fix both.1 t in
    λ i. both.0 i && rest i

pub more : (size : ℕ) (fixes new : List Fix) (fix : Fix) (edits : List Edit) (told : Bool) → new ≡ fixes ++ fix ∷ []
    → edits ≡ fix.edits.items → told ≡ are_within size edits → told ≡ true → lie_within size fixes ≡ true
    → lie_within size new ≡ true
more size fixes new fix edits told n e t test h =
    rw n (one_more size fixes fix h (ap (are_within size) (sym e) ∙ (sym t ∙ test)))
