-- What is added to maps in which the first value of a name counts: by one declaration, and by a loop over many.
use Rattle.std.proofs.Common.{◌≡◌, ℕ, ◌+◌, ◌<◌, Bool, true, false, if◌then◌else◌, List, [], ◌∷◌, ◌++◌, drop, length, get_or, Option, Some, None, option_map, Result, Ok, Err, OnOk, bytes_eq, Bor, refl, sym, ap, ◌∙◌}
use Rattle.std.proofs.lemmas.List.{drop_more}
use Rattle.std.specs.Option.{option_or}
use Rattle.indexmap.specs.IndexMap.{IndexMap, Updates}
pub use Rattle.first_values.proofs.Inserted.{none_from}
use Rattle.first_values.proofs.Inserted as firsts
use Rattle.meaning.specs.OuterBlocks.{or_else, PackageLevel, package_meant}
use Rattle.names.specs.Answers.{at_name}
use Rattle.names.specs.Maps.{Adds, only_at, is_function_in}

module _ {A : Type 0} where
  -- what std calls `or` is the same
  pub or_else-is : (a b : Option A) → option_or a b ≡ or_else a b
  or_else-is None b = refl
  or_else-is (Some a) b = refl

  pub or_else-none : (o : Option A) → or_else o None ≡ o
  or_else-none None = refl
  or_else-none (Some a) = refl

  pub or_else-assoc : (a b c : Option A) → or_else (or_else a b) c ≡ or_else a (or_else b c)
  or_else-assoc None b c = refl
  or_else-assoc (Some a) b c = refl

  -- one that is looked at before the others
  pub first_of : (b : Bool) (x : A) (all some others : Option A) → all ≡ or_else some others
      → (if b then Some x else all) ≡ or_else (if b then Some x else some) others
  first_of true x all some others e = refl
  first_of false x all some others e = e

pub map-or_else : {A B : Type 0} (f : A → B) (a b : Option A)
    → option_map f (or_else a b) ≡ or_else (option_map f a) (option_map f b)
map-or_else f None b = refl
map-or_else f (Some a) b = refl

-- a name that had no value was inserted
module _ {V S : Type 0} (before after : IndexMap (Bor (List ℕ)) V S) (key : Bor (List ℕ)) (value : V) where
  pub inserted :
      at_name before key.now ≡ None
      → Updates (λ x y. bytes_eq x.now y.now) before after key (Some value)
      → (name : List ℕ) → at_name after name ≡ or_else (at_name before name) (only_at key.now value name)
  inserted none updates name =
      firsts.inserted before after key value none updates name
      ∙ or_else-is (at_name before name) (only_at key.now value name)

-- the same is added, in other words
module _ {T E : Type 0} where
  pub adds_as : {V S : Type 0} (before after : IndexMap (Bor (List ℕ)) V S) (f g : List ℕ → Option V)
      → ((name : List ℕ) → f name ≡ g name) → (r : Result T E) → OnOk r (Adds before after f) → OnOk r (Adds before after g)
  adds_as before after f g same (Ok t) h = λ name. h name ∙ ap (or_else (at_name before name)) (same name)
  adds_as before after f g same (Err e) h = h

-- a loop over a list: what was found so far, and then by the rest, is the whole
module _ {X V : Type 0} (f : List X → Option V) where
  pub goes_on :
      (g : Option V) (xs : List X) (i : ℕ) (x : X) → i < length xs → x ≡ get_or xs i x
      → f (x ∷ drop (i + 1) xs) ≡ or_else g (f (drop (i + 1) xs))
      → (before after whole : Option V) → after ≡ or_else before g
      → or_else before (f (drop i xs)) ≡ whole
      → or_else after (f (drop (i + 1) xs)) ≡ whole
  goes_on g xs i x h is more before after whole added so_far =
      ap (λ o. or_else o (f (drop (i + 1) xs))) added ∙ or_else-assoc before g (f (drop (i + 1) xs))
      ∙ sym (ap (or_else before) (ap f (drop_more xs i x h ∙ ap (λ y. y ∷ drop (i + 1) xs) (sym is)) ∙ more)) ∙ so_far

-- of two lists of declarations the first counts before the second
pub package_meant-append : (ds es : List PackageLevel) (name : List ℕ)
    → package_meant (ds ++ es) name ≡ or_else (package_meant ds name) (package_meant es name)
package_meant-append [] es name = refl
package_meant-append (d ∷ ds) es name =
    first_of (bytes_eq d.name name) d _ _ _ (package_meant-append ds es name)

pub is_function_in-append : (ds es : List PackageLevel) (name : List ℕ)
    → is_function_in (ds ++ es) name ≡ or_else (is_function_in ds name) (is_function_in es name)
is_function_in-append ds es name =
    ap (option_map (λ d. d.is_function)) (package_meant-append ds es name)
    ∙ map-or_else _ (package_meant ds name) (package_meant es name)
