-- What locals are to bodies, by what is known of those that are bound in their declarations alone.
use Rattle.std.proofs.Common.{◌≡◌, ℕ, Bool, true, false, true≢false, not, ◌&&◌, if◌then◌else◌, List, [], ◌∷◌, Option, Some, None, is_some, refl, sym, ap, ◌∙◌}
use Rattle.std.specs.Prelude.{◌==◌}
use Rattle.std.proofs.lemmas.Bool.Decides.{Decides-eqb}
use Rattle.meaning.specs.Mentions.{BodyPlace}
use Rattle.meaning.specs.Tracked.{Known, Placed, Local, locals_of, find_local}
use Rattle.meaning.specs.Objects.{kind_by_role, points_in, is_bound_again, object_kind, object_in}
use Rattle.tracked.specs.LocalViews.{unbound_local}
use Rattle.objects.specs.ObjectViews.{kind_of_unbound, kind_there, unbound_at}

-- the number of a local, if there is one
abbrev number_or : Option Local → ℕ → ℕ
number_or None n = n
number_or (Some l) n = l.number

-- a local that was found has the number
found_number : (ls : List Local) (n : ℕ) (l : Local) → find_local ls n ≡ Some l → l.number ≡ n
found_number [] n l e = absurd (true≢false (sym (ap is_some e)))
found_number (k ∷ ks) n l e = by (k.number == n) (Decides-eqb k.number n).0 (found_number ks n l) e
  where
    by : (t : Bool) → (t ≡ true → k.number ≡ n) → (find_local ks n ≡ Some l → l.number ≡ n)
        → (if t then Some k else find_local ks n) ≡ Some l → l.number ≡ n
    by true same others e = ap (λ (o : Option Local). number_or o n) (sym e) ∙ same refl
    by false same others e = others e

module _ (known : Known) (marks : List Placed) where
  one_kind : (b : BodyPlace) (l : Local) (again : Bool)
      → kind_of_unbound b (if again then None else Some l)
      ≡ (if (l.body == b.at) && not again then kind_by_role l.role (points_in b l.number) else None)
  one_kind b l true = by (l.body == b.at)
    where
      by : (t : Bool) → None ≡ (if t && false then kind_by_role l.role (points_in b l.number) else None)
      by true = refl
      by false = refl
  one_kind b l false = by (l.body == b.at)
    where
      by : (t : Bool)
          → (if t then kind_by_role l.role (points_in b l.number) else None)
          ≡ (if t && true then kind_by_role l.role (points_in b l.number) else None)
      by true = refl
      by false = refl

  no_kind : (b : BodyPlace) (again : Bool) → kind_of_unbound b (if again then None else None) ≡ None
  no_kind b true = refl
  no_kind b false = refl

  local_kind : (b : BodyPlace) (n : ℕ) (o : Option Local) → find_local (locals_of known marks) n ≡ o
      → kind_of_unbound b (if is_bound_again known marks n then None else o) ≡ object_kind known marks b o
  local_kind b n None is = no_kind b (is_bound_again known marks n)
  local_kind b n (Some l) is =
      ap (λ k. kind_of_unbound b (if is_bound_again known marks k then None else Some l))
      (sym (found_number (locals_of known marks) n l is))
      ∙ one_kind b l (is_bound_again known marks l.number)

  pub kind-there : (bodies : List BodyPlace) (number : Option ℕ)
      → kind_there bodies (unbound_at (unbound_local known marks) number) ≡ object_in known marks bodies number
  kind-there [] number = refl
  kind-there (b ∷ bs) None = refl
  kind-there (b ∷ bs) (Some n) = local_kind b n (find_local (locals_of known marks) n) refl
