-- The last element of a path, and what each import declares.
use Rattle.std.proofs.Common.{◌≡◌, ℕ, suc, ◌+◌, ◌<◌, Bool, true, false, ◌&&◌, ◌||◌, ◌==◌, if◌then◌else◌, List, [], ◌∷◌, ◌++◌, length, get_or, take, drop, Option, None, refl, sym, ap, ◌∙◌, ◌≢◌, arith}
use Rattle.std.proofs.lemmas.Bool.{ne_eqb}
use Rattle.std.proofs.lemmas.List.{take-append-drop, drop_more, get_or-drop, length-drop}
use Rattle.std.proofs.Math.Bool.{or-true}
use Rattle.lexer.specs.Bytes.{slash}
use Rattle.tree.specs.Syntax.{ImportSpec}
use Rattle.meaning.specs.OuterBlocks.{PackageNames, has_slash, last_element, import_name_of, is_called, import_among, or_else}
use Rattle.names.proofs.Adding.{first_of}

-- The last element

abbrev Lacks : List ℕ → Type 0
Lacks bs = (i : ℕ) → i < length bs → get_or bs i 0 ≢ slash

no_slash : (bs : List ℕ) → Lacks bs → has_slash bs ≡ false
no_slash [] h = refl
no_slash (b ∷ bs) h =
    ap (λ c. c || has_slash bs) (ne_eqb b slash (h 0 (omega arith))) ∙ no_slash bs (λ i l. h (suc i) (omega arith))

has : (front back : List ℕ) → has_slash (front ++ slash ∷ back) ≡ true
has [] back = refl
has (b ∷ bs) back = ap (λ c. (b == slash) || c) (has bs back) ∙ or-true (b == slash)

pub last_whole : (bs : List ℕ) → Lacks bs → bs ≡ last_element bs
last_whole [] h = refl
last_whole (b ∷ bs) h = sym (ap (λ c. if c then last_element bs else b ∷ bs) (no_slash (b ∷ bs) h))

last_after : (front back : List ℕ) → Lacks back → last_element (front ++ slash ∷ back) ≡ back
last_after [] back h = sym (last_whole back h)
last_after (b ∷ bs) back h =
    ap (λ c. if c then last_element (bs ++ slash ∷ back) else b ∷ (bs ++ slash ∷ back)) (has (b ∷ bs) back)
    ∙ last_after bs back h

-- the last slash stands at that index
pub last_from : (path : List ℕ) (at : ℕ) → at < length path → get_or path at 0 ≡ slash
    → ((i : ℕ) → at < i → i < length path → get_or path i 0 ≢ slash) → drop (at + 1) path ≡ last_element path
last_from path at h here later =
    let after : Lacks (drop (at + 1) path) = λ i l e.
    later (at + 1 + i) (omega arith) (omega (arith, length-drop (at + 1) path)) (sym (get_or-drop (at + 1) path i 0) ∙ e) in
    let split : take at path ++ slash ∷ drop (at + 1) path ≡ path =
    ap (λ b. take at path ++ b ∷ drop (at + 1) path) (sym here)
    ∙ ap (λ l. take at path ++ l) (sym (drop_more path at 0 h)) ∙ take-append-drop at path in
    sym (last_after (take at path) (drop (at + 1) path) after) ∙ ap last_element split

-- Imports

pub import_among-append : (is_path : List ℕ → Bool) (packages : PackageNames) (name : List ℕ) (ss ts : List ImportSpec)
    → import_among is_path packages name (ss ++ ts)
    ≡ or_else (import_among is_path packages name ss) (import_among is_path packages name ts)
import_among-append is_path packages name [] ts = refl
import_among-append is_path packages name (s ∷ ss) ts =
    first_of (is_path s.path && is_called name (import_name_of packages s.name s.path)) s.path _ _ _
    (import_among-append is_path packages name ss ts)

-- one pass over the imports after the other
pub two_passes : (start first second ones others : Option (List ℕ))
    → start ≡ None → first ≡ or_else start ones → second ≡ or_else first others → second ≡ or_else ones others
two_passes start first second ones others e f g = g ∙ ap (λ o. or_else o others) (f ∙ ap (λ o. or_else o ones) e)
