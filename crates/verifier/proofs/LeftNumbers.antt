-- Of the numbers that a certificate settles, those for which the body is relied on.
use Rattle.std.proofs.Common.{◌≡◌, ℕ, Bool, true, false, ◌&&◌, List, [], ◌∷◌, length, Some, None, IsTrue, refl, sym, ap, ◌∙◌, subst}
use Rattle.std.specs.Prelude.{◌↔◌, ◌==◌, not, is_some, slice_get}
use Rattle.std.specs.List.{filter}
use Rattle.std.proofs.lemmas.Bool.{false≢true, and_parts, and_from, not-true, not_from_false}
use Rattle.std.proofs.lemmas.Option.{none-some}
use Rattle.bodies.specs.Bodies.{TellsBody, has_paths}
use Rattle.bodies.specs.declared.body.Body.{Body as KeptBody}
use Rattle.bodies.specs.declared.graph.BodyGraph.{BodyGraph as KeptGraph}
use Rattle.credits.proofs.ReliedOn.{among_filtered}
use Rattle.credits.specs.CreditViews.{is_among}
use Rattle.credits.specs.ReliedOn.{is_unbound}
use Rattle.meaning.specs.BodyEvents.{Variable, variables_of, unfollowed_faults}
use Rattle.meaning.specs.Mentions.{BodyPlace}
use Rattle.meaning.specs.Uses.{Seen, goes_off}
use Rattle.meaning_packages.specs.Credits.{MayComeBack}
use Rattle.meaning_packages.specs.PathFaults.{paths_of}
use Rattle.verifier.specs.ReliedOn.{AreLeft}
use Rattle.verifier.specs.Verified.{nothing_known}

-- a body with a graph has a variable
pub has_first : (file : ℕ) (seen : Seen) (b : BodyPlace) (body : KeptBody) → TellsBody file seen b body
    → (kept : KeptGraph) → body.graph ≡ Some kept
    → (v : Variable) × (slice_get (variables_of seen b.at) 0 ≡ Some v)
has_first file seen b body tells kept is = by (variables_of seen b.at) (sym tells.has_graph ∙ ap is_some is)
  where
    by : (vs : List Variable) → (not (length vs == 0) && (length (unfollowed_faults seen b) == 0)) ≡ true
        → (v : Variable) × (slice_get vs 0 ≡ Some v)
    by [] e = absurd (false≢true e)
    by (v ∷ vs) e = (v, refl)

module _ (seen : Seen) (b : BodyPlace) where
  -- nothing is left of nothing
  pub none_of_none : (left : List ℕ) → left ≡ [] → AreLeft seen b left left
  none_of_none left none variable = (
    λ e. absurd (false≢true (ap (λ ns. is_among ns variable) (sym none) ∙ e)),
    λ h. h.is_one,
  )

  module _ (comes : Bool)
      (comes_so : IsTrue comes ↔ MayComeBack seen.known.edition (goes_off b.literal) (paths_of seen nothing_known b)) where
    pub none_left : comes ≡ false → (numbers : List ℕ) → AreLeft seen b numbers []
    none_left none numbers variable = (
      λ e. absurd (false≢true e),
      λ h. absurd (false≢true (sym none ∙ comes_so.1 h.comes_back)),
    )

    pub some_left : comes ≡ true → (file : ℕ) (body : KeptBody) → TellsBody file seen b body
        → (numbers left : List ℕ) → left ≡ filter (is_unbound body.bound.now) numbers
        → AreLeft seen b numbers left
    some_left sure file body tells numbers left is variable = (
      λ e.
          let parts = and_parts (is_among numbers variable) (is_unbound body.bound.now variable) (sym same ∙ e) in
          record {
            is_one = parts.0;
            binds_none = sym (tells.binds variable) ∙ not-true (is_among body.bound.now variable) parts.1;
            comes_back = comes_so.0 sure;
          },
      λ h.
          same
          ∙ and_from (is_among numbers variable) (is_unbound body.bound.now variable) h.is_one
          (not_from_false (is_among body.bound.now variable) (tells.binds variable ∙ h.binds_none)),
    )
      where
        same : is_among left variable ≡ (is_among numbers variable && is_unbound body.bound.now variable)
        same = ap (λ ns. is_among ns variable) is ∙ among_filtered body.bound.now variable numbers
