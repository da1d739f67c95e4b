-- What a body settles where nothing is known of functions, it settles by all that is known: with more known a variable is
-- left as it was, or safe.
use Rattle.std.proofs.Common.{◌≡◌, ℕ, inl, inr, Bool, true, false, List, refl, sym, ap, ◌∙◌}
use Rattle.std.specs.Prelude.{not}
use Rattle.calls_flags.proofs.MoreCalls.{NoWorse, after_no_worse, same_group}
use Rattle.meaning.specs.BodyEvents.{Variable}
use Rattle.meaning.specs.Classes.{CancelClass, entry_cancel, cancel_after, entry_group}
use Rattle.meaning.specs.Code.{Occurrence}
use Rattle.meaning.specs.FunctionFacts.{VariableKind, cancel, group}
use Rattle.meaning.specs.Mentions.{BodyPlace}
use Rattle.meaning.specs.Uses.{Callee, Event, Seen}
use Rattle.meaning_packages.specs.Credits.{Credits, begun_after, promises_in, no_calls, is_safe, is_live, is_settled, Settles}
use Rattle.meaning_packages.specs.PathFaults.{paths_of}

still_safe : (k j : CancelClass) → NoWorse k j → is_safe k ≡ true → is_safe j ≡ true
still_safe k j (inl same) e = ap is_safe same ∙ e
still_safe k j (inr saved) e = ap is_safe saved

module _ (calls : Callee → ℕ → Bool) (seen : Seen) (credits : Credits) (b : BodyPlace) (v : Variable) where
  grows : (f : Callee) (k : ℕ) → no_calls f k ≡ true → calls f k ≡ true
  grows f k e = let bad : false ≡ true = e in cc

  settled_still : (t : List (Occurrence Event)) (kind : VariableKind)
      → is_settled (paths_of seen (promises_in no_calls credits b.at) b) v t kind ≡ true
      → is_settled (paths_of seen (promises_in calls credits b.at) b) v t kind ≡ true
  settled_still t cancel e =
      still_safe
      (cancel_after (promises_in no_calls credits b.at) v.number (entry_cancel v.role) t)
      (cancel_after (promises_in calls credits b.at) v.number (entry_cancel v.role) t)
      (after_no_worse no_calls calls grows (begun_after b.at credits) v.number (entry_cancel v.role) (entry_cancel v.role) t
      (inl refl))
      e
  settled_still t group e =
      ap (λ k. not (is_live k))
      (sym (same_group no_calls calls grows (begun_after b.at credits) v.number (entry_group v.role) t))
      ∙ e

  pub settles_still : Settles (paths_of seen (promises_in no_calls credits b.at) b) v
      → Settles (paths_of seen (promises_in calls credits b.at) b) v
  settles_still h = record {
    at_returns = λ handed t o comes.
        settled_still t v.kind
        (h.at_returns handed t o (record { reaches = comes.reaches; is_return = comes.is_return }));
  }
