-- Nothing is to be said of a package where there is no diagnostic.
use Rattle.std.proofs.Common.{◌≡◌, ◌↔◌, Bool, true, false, IsTrue, List, [], ◌∷◌, map, true≢false, refl, sym}
use Rattle.report.specs.Entries.{entry_of}
use Rattle.report.specs.declared.diagnostics.Diagnostic.{Diagnostic}
use Rattle.one_package.specs.Judgments.{says_nothing}

pub says_is : (b : Bool) (ds : List Diagnostic) → (IsTrue b ↔ (ds ≡ [])) → b ≡ says_nothing ds
says_is true [] h = refl
says_is false [] h = absurd (true≢false (sym (h.1 refl)))
says_is true (d ∷ ds) h = let none : d ∷ ds ≡ [] = h.0 refl in cc
says_is false (d ∷ ds) h = refl

pub no_entry : (ds : List Diagnostic) → says_nothing ds ≡ true → map entry_of ds ≡ []
no_entry [] e = refl
no_entry (d ∷ ds) e = let bad : false ≡ true = e in cc
