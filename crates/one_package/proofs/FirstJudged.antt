-- The first of several that were judged that is of a path.
use Rattle.std.proofs.Common.{◌≡◌, ℕ, Bool, true, false, if◌then◌else◌, inl, inr, List, [], ◌∷◌, ◌++◌, Contains, Option, Some, None, is_some, bytes_eq, refl, sym, ap, ◌∙◌, subst}
use Rattle.std.proofs.lemmas.Bool.{false≢true}
use Rattle.std.proofs.lemmas.Option.{none-some, same_Some}
use Rattle.std.proofs.lemmas.Slice.Eq.{bytes_eq-Decides}
use Rattle.meaning.proofs.Membership.{contains_nil, contains_here, contains_there, contains_cases}
use Rattle.meaning.specs.OuterBlocks.{or_else}
use Rattle.first_values.specs.ValuesByName.{only_at}
use Rattle.names.proofs.Adding.{or_else-none, or_else-assoc}
use Rattle.one_package.specs.declared.judged.Judged.{Judged}
use Rattle.one_package.specs.Results.{judged_at}

-- one more comes after these
pub judged_more : (js : List Judged) (j : Judged) (path : List ℕ)
    → judged_at (js ++ j ∷ []) path ≡ or_else (judged_at js path) (only_at j.report.path.now j path)
judged_more [] j path = or_else-none (only_at j.report.path.now j path)
judged_more (k ∷ js) j path =
    let first = only_at k.report.path.now k path in
    ap (or_else first) (judged_more js j path)
    ∙ sym (or_else-assoc first (judged_at js path) (only_at j.report.path.now j path))

-- it is one of them, of that path
pub found_at : (js : List Judged) (path : List ℕ) (j : Judged) → judged_at js path ≡ Some j
    → Contains js j × (j.report.path.now ≡ path)
found_at [] path j e = absurd (none-some j e)
found_at (k ∷ js) path j e = by (bytes_eq k.report.path.now path) refl (found_at js path j) e
  where
    by : (b : Bool) → bytes_eq k.report.path.now path ≡ b
        → (judged_at js path ≡ Some j → Contains js j × (j.report.path.now ≡ path))
        → or_else (if b then Some k else None) (judged_at js path) ≡ Some j
        → Contains (k ∷ js) j × (j.report.path.now ≡ path)
    by true same rest is =
        let own = same_Some k j is in (
          subst (Contains (k ∷ js)) own (contains_here k js),
          ap (λ (m : Judged). m.report.path.now) (sym own) ∙ (bytes_eq-Decides k.report.path.now path).0 same,
        )
    by false same rest is = let w = rest is in (contains_there k j js w.0, w.1)

-- one of that path is found
pub is_found : (js : List Judged) (j : Judged) → Contains js j → (path : List ℕ) → j.report.path.now ≡ path
    → is_some (judged_at js path) ≡ true
is_found [] j h path same = absurd (contains_nil j h)
is_found (k ∷ js) j h path same = by (bytes_eq k.report.path.now path) refl λ later. is_found js j later path same
  where
    by : (b : Bool) → bytes_eq k.report.path.now path ≡ b
        → (Contains js j → is_some (judged_at js path) ≡ true)
        → is_some (or_else (if b then Some k else None) (judged_at js path)) ≡ true
    by true e rest = refl
    by false e rest = elim (contains_cases k j js h) [
      | inl here ↦
          absurd (false≢true (sym e ∙ (bytes_eq-Decides k.report.path.now path).1
          (ap (λ (m : Judged). m.report.path.now) here ∙ same)))
      | inr later ↦ rest later
    ]
