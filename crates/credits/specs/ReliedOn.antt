-- For which variables a literal is relied on that settles them.
use Rattle.std.specs.Prelude.{ℕ, ◌≡◌, Bool, true, false, not, if◌then◌else◌, List, [], ◌∷◌}
use Rattle.tree.specs.declared.edition.Edition.{Edition}
use Rattle.tree.specs.declared.edition.Edition.TheVariants.{First, Second}
use Rattle.credits.specs.CreditViews.{is_among}

-- in the second edition some return of a literal under `go` must be reached
abbrev pub asks_return : Edition → Bool → Bool
asks_return First goes_off = false
asks_return Second goes_off = goes_off

-- the number is none of these
abbrev pub is_unbound : List ℕ → ℕ → Bool
is_unbound bound number = not (is_among bound number)

abbrev pub unbound_number : List ℕ → ℕ → List ℕ
unbound_number bound number = if is_among bound number then [] else number ∷ []
