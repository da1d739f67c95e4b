-- The graph of a code with other events is the same graph with those events.
use Rattle.std.proofs.Common.{◌≡◌, ℕ, ◌+◌, List, [], ◌++◌, map, refl, sym, ap, ◌∙◌}
use Rattle.std.proofs.lemmas.List.{map-append}
use Rattle.meaning.specs.Code.{Way, Code, skip, does, leave, then_code, either, repeats, up_to}
use Rattle.flow.specs.GraphOfCode.{arriving, no_exit, size, nodes, firsts, links}
use Rattle.flow.specs.Walks.{graph_of}
use Rattle.bodies.specs.NodeEvents.{changed, changed_graph}
use Rattle.bodies.proofs.ChangedCode.{changed_code}

module _ {E F : Type 0} (f : E → F) where
  same_size : (c : Code E) → size (changed_code f c) ≡ size c
  same_size skip = refl
  same_size (does o) = refl
  same_size (leave w) = refl
  same_size (then_code a b) = λ i. same_size a i + same_size b i
  same_size (either a b) = λ i. same_size a i + same_size b i
  same_size (repeats a) = same_size a
  same_size (up_to w a) = same_size a

  changed_nodes : (c : Code E) → nodes (changed_code f c) ≡ map (changed f) (nodes c)
  changed_nodes skip = refl
  changed_nodes (does o) = refl
  changed_nodes (leave w) = refl
  changed_nodes (then_code a b) =
      (λ i. changed_nodes b i ++ changed_nodes a i) ∙ sym (map-append (changed f) (nodes b) (nodes a))
  changed_nodes (either a b) =
      (λ i. changed_nodes b i ++ changed_nodes a i) ∙ sym (map-append (changed f) (nodes b) (nodes a))
  changed_nodes (repeats a) = changed_nodes a
  changed_nodes (up_to w a) = changed_nodes a

  same_firsts : (n : ℕ) (c : Code E) (next : List ℕ) (exits : Way → List ℕ)
      → firsts n (changed_code f c) next exits ≡ firsts n c next exits
  same_firsts n skip next exits = refl
  same_firsts n (does o) next exits = refl
  same_firsts n (leave w) next exits = refl
  same_firsts n (then_code a b) next exits =
      (λ i. firsts (n + same_size b i) (changed_code f a) (same_firsts n b next exits i) exits)
      ∙ same_firsts (n + size b) a (firsts n b next exits) exits
  same_firsts n (either a b) next exits =
      (λ i. firsts (n + same_size b i) (changed_code f a) next exits ++ same_firsts n b next exits i)
      ∙ ap (λ l. l ++ firsts n b next exits) (same_firsts (n + size b) a next exits)
  same_firsts n (repeats a) next exits = same_firsts n a [] exits
  same_firsts n (up_to w a) next exits = same_firsts n a next (arriving w next exits)

  same_links : (n : ℕ) (c : Code E) (next : List ℕ) (exits : Way → List ℕ)
      → links n (changed_code f c) next exits ≡ links n c next exits
  same_links n skip next exits = refl
  same_links n (does o) next exits = refl
  same_links n (leave w) next exits = refl
  same_links n (then_code a b) next exits =
      (λ i. same_links n b next exits i
      ++ links (n + same_size b i) (changed_code f a) (same_firsts n b next exits i) exits)
      ∙ ap (λ l. links n b next exits ++ l) (same_links (n + size b) a (firsts n b next exits) exits)
  same_links n (either a b) next exits =
      (λ i. same_links n b next exits i ++ links (n + same_size b i) (changed_code f a) next exits)
      ∙ ap (λ l. links n b next exits ++ l) (same_links (n + size b) a next exits)
  same_links n (repeats a) next exits =
      (λ i. links n (changed_code f a) (same_firsts n a [] exits i) exits)
      ∙ same_links n a (firsts n a [] exits) exits
  same_links n (up_to w a) next exits = same_links n a next (arriving w next exits)

  pub changed_graph_of : (c : Code E) → graph_of (changed_code f c) ≡ changed_graph f (graph_of c)
  changed_graph_of c = λ i. record {
    nodes = changed_nodes c i;
    next = same_links 0 c [] no_exit i;
    starts = same_firsts 0 c [] no_exit i;
  }
