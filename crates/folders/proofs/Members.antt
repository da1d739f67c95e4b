-- Membership of a mapped list.
use Rattle.std.proofs.Common.{◌≡◌, ◌<◌, List, [], ◌∷◌, get_or, map, Contains, ap, ◌∙◌, subst, sym, arith}
use Rattle.std.proofs.lemmas.List.{length-map, get_or-map, get_or_default}

module _ {X Y : Type 0} (f : X → Y) where
  pub contains_map : (xs : List X) (x : X) → Contains xs x → Contains (map f xs) (f x)
  contains_map xs x h =
      (h.0, subst (λ n. h.0 < n) (sym (length-map xs f)) h.1, get_or-map f xs h.0 x (f x) h.1 ∙ ap f h.2)

  pub contains_unmap : (xs : List X) (z : Y) → Contains (map f xs) z → (x : X) × Contains xs x × (f x ≡ z)
  contains_unmap [] z h = absurd (omega (arith, h.1))
  contains_unmap (y ∷ ys) z h =
      let xs = y ∷ ys in
      let lt = subst (λ n. h.0 < n) (length-map xs f) h.1 in
      let x = get_or xs h.0 y in
      (x, (h.0, lt, get_or_default xs h.0 x y lt), sym (get_or-map f xs h.0 y z lt) ∙ h.2)
