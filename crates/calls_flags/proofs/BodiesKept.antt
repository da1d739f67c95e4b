-- Whether a claim is kept, by the body of which it is.
use Rattle.std.proofs.Common.{◌≡◌, ℕ, ◌<◌, ◌≤◌, Bool, false, List, [], length, get_or, Some, None, IsTrue, refl, sym, ap, ◌∙◌, subst, arith}
use Rattle.std.specs.Prelude.{◌↔◌, is_some, slice_get}
use Rattle.std.proofs.lemmas.Bool.{false≢true}
use Rattle.std.proofs.lemmas.Option.{slice_get_read, slice_get_within}
use Rattle.std.proofs.lemmas.Slice.Zip.{AllZip-long}
use Rattle.std.proofs.lemmas.Option.{same_Some}
use Rattle.bodies.specs.Bodies.{TellsBody}
use Rattle.bodies.specs.declared.body.Body.{Body as KeptBody}
use Rattle.credits.proofs.PairedLists.{pair_at}
use Rattle.credits.proofs.SettledBodies.{paths_there}
use Rattle.credits.specs.CreditViews.{has}
use Rattle.meaning.specs.BodyEvents.{Variable, bodies_of, variables_of, unfollowed_faults}
use Rattle.meaning.specs.FunctionFacts.{cancel}
use Rattle.meaning.specs.Mentions.{BodyPlace}
use Rattle.meaning.specs.Uses.{Seen}
use Rattle.meaning_packages.specs.CallsFlags.{FileWithCredits}
use Rattle.meaning_packages.specs.Credits.{Credits}
use Rattle.path_faults.proofs.Places.{contains_at}
use Rattle.calls_flags.specs.FilesBodies.{TellsWithCredits}
use Rattle.calls_flags.specs.declared.file_bodies.FileBodies.{FileBodies}

-- a body with a variable whose paths are followed has a graph
pub no_graph : (file : ℕ) (seen : Seen) (b : BodyPlace) (body : KeptBody) → TellsBody file seen b body
    → body.graph ≡ None
    → unfollowed_faults seen b ≡ []
    → (place : ℕ) (v : Variable) → slice_get (variables_of seen b.at) place ≡ Some v → ⊥
no_graph file seen b body tells none few place v is_there =
    false≢true
    (ap is_some (sym none) ∙ tells.has_graph
    ∙ paths_there seen b v (contains_at (variables_of seen b.at) place v is_there) few)

module _ (kept : FileBodies) (Holds : Seen → Credits → BodyPlace → Variable → Type 0) (at place : ℕ) (bodies : List KeptBody)
    (same : bodies ≡ kept.bodies.items) where
  pub kept_by : (body : KeptBody) → at < length bodies → body ≡ get_or bodies at body
      → (is : Bool)
      → ((file : ℕ) (seen : Seen) (b : BodyPlace) → TellsBody file seen b body
      → unfollowed_faults seen b ≡ []
      → (v : Variable) → slice_get (variables_of seen b.at) place ≡ Some v → v.kind ≡ cancel
      → IsTrue is ↔ Holds seen (has kept.credits) b v)
      → (number : ℕ) (f : FileWithCredits) → TellsWithCredits number f kept
      → (b : BodyPlace) → slice_get (bodies_of f.seen) at ≡ Some b
      → unfollowed_faults f.seen b ≡ []
      → (v : Variable) → slice_get (variables_of f.seen b.at) place ≡ Some v → v.kind ≡ cancel
      → IsTrue is ↔ Holds f.seen f.credits b v
  kept_by body within there is by_body number f tells b is_b few v is_v is_cancel =
      let read = ap (λ bs. slice_get bs at) (sym same) ∙ slice_get_read bodies (length bodies) at body refl within there in
      let w = pair_at (TellsBody number f.seen) (bodies_of f.seen) kept.bodies.items tells.are_bodies at body read in
      let told = subst (λ x. TellsBody number f.seen x body) (same_Some w.first b (sym w.is_there ∙ is_b)) w.is_so in
      subst (λ credits. IsTrue is ↔ Holds f.seen credits b v) (sym tells.are_credits)
      (by_body number f.seen b told few v is_v is_cancel)

  pub no_body : length bodies ≤ at
      → (number : ℕ) (f : FileWithCredits) → TellsWithCredits number f kept
      → (b : BodyPlace) → slice_get (bodies_of f.seen) at ≡ Some b
      → unfollowed_faults f.seen b ≡ []
      → (v : Variable) → slice_get (variables_of f.seen b.at) place ≡ Some v → v.kind ≡ cancel
      → IsTrue false ↔ Holds f.seen f.credits b v
  no_body past number f tells b is_b few v is_v is_cancel =
      absurd
      (let size = AllZip-long (TellsBody number f.seen) (bodies_of f.seen) kept.bodies.items tells.are_bodies in
      let within = slice_get_within (bodies_of f.seen) at b is_b in
      omega (arith, past, size, within, ap length same))
