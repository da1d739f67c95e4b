-- What is reached in a graph whose events were changed.
use Rattle.std.proofs.Common.{◌≡◌, ℕ, ◌<◌, Bool, List, Option, Some, None, option_map, refl, sym, ap, ◌∙◌, subst}
use Rattle.std.proofs.lemmas.List.{length-map}
use Rattle.std.proofs.lemmas.Option.{slice_get-map, same_Some, none-some}
use Rattle.std.specs.Prelude.{slice_get}
use Rattle.flow.specs.Walks.{Graph}
use Rattle.bodies.specs.Carried.{IsReached, starts, goes, TellsReached}
use Rattle.bodies.specs.NodeEvents.{changed, changed_graph}

pub unmapped : {A B : Type 0} (f : A → B) (o : Option A) (y : B)
    → option_map f o ≡ Some y
    → (x : A) × (o ≡ Some x) × (f x ≡ y)
unmapped f None y e = absurd (none-some y e)
unmapped f (Some x) y e = (x, refl, same_Some (f x) y e)

module _ {E F : Type 0} (f : E → F) (g : Graph E) (step : F → ℕ → ℕ) (entries : List ℕ) where
  there : (n i : ℕ) → IsReached g (λ e. step (f e)) entries n i → IsReached (changed_graph f g) step entries n i
  there n i (starts a b) = starts a b
  there n i (goes {n = m} {k = j} {o = o} {ms = ms} r a b c) =
      goes {o = changed f o} (there m j r) (slice_get-map (changed f) g.nodes m ∙ ap (option_map (changed f)) a) b c

  back : (n i : ℕ) → IsReached (changed_graph f g) step entries n i → IsReached g (λ e. step (f e)) entries n i
  back n i (starts a b) = starts a b
  back n i (goes {n = m} {k = j} {o = o} {ms = ms} r a b c) =
      let was = unmapped (changed f) (slice_get g.nodes m) o (sym (slice_get-map (changed f) g.nodes m) ∙ a) in
      subst (λ q. IsReached g (λ e. step (f e)) entries n (step q.event j)) was.2
      (goes {o = was.0} (back m j r) was.1 b c)

  pub tells_changed : (width : ℕ) (has : ℕ → ℕ → Bool)
      → TellsReached g (λ e. step (f e)) width entries has
      → TellsReached (changed_graph f g) step width entries has
  tells_changed width has told = record {
    at = λ n i l w.
        let it = told.at n i (subst (λ k. n < k) (length-map g.nodes (changed f)) l) w in
        (λ e. there n i (it.0 e), λ r. it.1 (back n i r));
  }
