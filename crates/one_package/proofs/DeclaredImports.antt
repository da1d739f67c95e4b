-- What is declared of imports that were not given.
use Rattle.std.proofs.Common.{◌≡◌, ℕ, ◌+◌, ◌<◌, Bool, true, false, ◌||◌, if◌then◌else◌, List, ◌∷◌, drop, get_or, length, Bor, Option, Some, None, option_map, is_some, bytes_eq, refl, sym, ap, ◌∙◌}
use Rattle.std.specs.List.{list_any}
use Rattle.std.proofs.lemmas.List.{drop_more}
use Rattle.std.proofs.lemmas.Option.{none-some}
use Rattle.std.proofs.lemmas.Slice.Eq.{bytes_eq-Decides}
use Rattle.imports.specs.Views.{text_views}
use Rattle.meaning.specs.OuterBlocks.{or_else}
use Rattle.first_values.specs.ValuesByName.{only_at}
use Rattle.names.proofs.Adding.{or_else-none}
use Rattle.declared_tables.specs.declared.tables.PackageTable.{PackageTable as KeptTable}
use Rattle.given_packages.specs.Neighbours.{Nearby}
use Rattle.one_package.specs.Results.{declared_among, declared_if, declared_outside}

module _ (near : Nearby) where
  -- a path that a package has
  pub was_given : (path : List ℕ) → is_some (near.places path) ≡ true → declared_outside near path ≡ None
  was_given path is = ap (λ b. if b then None else near.declared path) is

  -- one that none has
  pub is_outside : (path : List ℕ) → is_some (near.places path) ≡ false
      → declared_outside near path ≡ near.declared path
  is_outside path is = ap (λ b. if b then None else near.declared path) is

  seen_if : (path : List ℕ) (found : Option KeptTable) → declared_outside near path ≡ found → (other : List ℕ)
      → declared_if near path other ≡ (if bytes_eq path other then found else None)
  seen_if path found is other = by (bytes_eq path other) refl
    where
      by : (b : Bool) → bytes_eq path other ≡ b
          → (if b then declared_outside near other else None) ≡ (if b then found else None)
      by true same = ap (declared_outside near) (sym ((bytes_eq-Decides path other).0 same)) ∙ is
      by false same = refl

  -- what is declared of one of these paths is declared
  pub among_is : (paths : List (List ℕ)) (path : List ℕ) (t : KeptTable) → declared_among near paths path ≡ Some t
      → near.declared path ≡ Some t
  among_is paths path t = by (list_any (λ q. bytes_eq q path) paths) (is_some (near.places path))
    where
      by : (among was : Bool)
          → (if among then (if was then None else near.declared path) else None) ≡ Some t
          → near.declared path ≡ Some t
      by true false e = e
      by true true e = absurd (none-some t e)
      by false was e = absurd (none-some t e)

  module _ {V : Type 0} (f : KeptTable → V) where
    -- One path

    pub adds_nothing : (path : List ℕ) → declared_outside near path ≡ None → (now : Option V) (other : List ℕ)
        → now ≡ or_else now (option_map f (declared_if near path other))
    adds_nothing path none now other =
        sym (or_else-none now)
        ∙ ap (or_else now) (sym (ap (option_map f) (seen_if path None none other) ∙ nothing (bytes_eq path other)))
      where
        nothing : (b : Bool) → option_map f (if b then None else None) ≡ None
        nothing true = refl
        nothing false = refl

    pub adds_it : (path : List ℕ) (table : KeptTable) → declared_outside near path ≡ Some table
        → (now : Option V) (other : List ℕ)
        → or_else now (only_at path (f table) other) ≡ or_else now (option_map f (declared_if near path other))
    adds_it path table is now other =
        ap (or_else now) (sym (ap (option_map f) (seen_if path (Some table) is other) ∙ seen (bytes_eq path other)))
      where
        seen : (b : Bool) → option_map f (if b then Some table else None) ≡ (if b then Some (f table) else None)
        seen true = refl
        seen false = refl

    -- Paths one after the other

    again : (b : Bool) (o : Option KeptTable)
        → or_else (option_map f o) (option_map f (if b then o else None)) ≡ option_map f o
    again b (Some t) = refl
    again true None = refl
    again false None = refl

    both : (now : Option V) (o : Option KeptTable) (here later : Bool)
        → or_else (or_else now (option_map f (if here then o else None))) (option_map f (if later then o else None))
        ≡ or_else now (option_map f (if here || later then o else None))
    both (Some v) o here later = refl
    both None o true later = again later o
    both None o false later = refl

    pub one_more : (paths : List (Bor (List ℕ))) (i : ℕ) (x : Bor (List ℕ)) → i < length paths → x ≡ get_or paths i x
        → (now next whole : List ℕ → Option V)
        → ((path : List ℕ) → next path ≡ or_else (now path) (option_map f (declared_if near x.now path)))
        → ((path : List ℕ)
        → or_else (now path) (option_map f (declared_among near (text_views (drop i paths)) path)) ≡ whole path)
        → (path : List ℕ)
        → or_else (next path) (option_map f (declared_among near (text_views (drop (i + 1) paths)) path)) ≡ whole path
    one_more paths i x within is now next whole added so_far path =
        let left = text_views (drop (i + 1) paths) in
        let split = drop_more paths i x within ∙ ap (λ y. y ∷ drop (i + 1) paths) (sym is) in
        ap (λ n. or_else n (option_map f (declared_among near left path))) (added path)
        ∙ (both (now path) (declared_outside near path) (bytes_eq x.now path) (list_any (λ r. bytes_eq r path) left)
        ∙ (ap (λ xs. or_else (now path) (option_map f (declared_among near (text_views xs) path))) (sym split)
        ∙ so_far path))
