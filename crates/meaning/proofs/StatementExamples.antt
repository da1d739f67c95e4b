-- The lists of the examples, step by step.
use Rattle.std.proofs.Common.{◌≢◌, ℕ, [], ◌∷◌, None, refl}
use Rattle.meaning.specs.Code.{Way, falling, breaking}
use Rattle.meaning.specs.Jumps.{parts_of}
use Rattle.meaning.specs.Lists.{falls, leaves, Lists, skipped, done, left, ends_in_first, goes_on, in_first, in_second, ends_in_turn, turns_again, arrives, passes}
use Rattle.meaning.specs.StatementCode.{site, statement_code}
use Rattle.meaning.specs.StatementExamples.{silent_sites, silent_at, FallingAndJumping}

falls≢leaves : (w : Way) → falls ≢ leaves w
falls≢leaves w e = cc

leaves≢falls : (w : Way) → leaves w ≢ falls
leaves≢falls w e = cc

breaks≢falls_through : leaves (breaking None) ≢ leaves (falling 17)
breaks≢falls_through e = cc

one_site : (at : ℕ) → Lists (site silent_sites at) (silent_at (at ∷ [])) falls
one_site at = goes_on done skipped refl

pub falling_and_jumping : FallingAndJumping
unfolding statement_code parts_of
falling_and_jumping = record {
  falls_again =
      goes_on skipped
      (arrives
      (turns_again
      (arrives (goes_on (one_site 0) (ends_in_first (in_first (goes_on (one_site 9) (ends_in_first (goes_on (one_site 17) left refl) (leaves≢falls _)) refl)) (leaves≢falls _)) refl))
      (turns_again
      (arrives (goes_on (one_site 0) (ends_in_first (in_first (goes_on (one_site 9) (ends_in_first (goes_on (one_site 17) left refl) (leaves≢falls _)) refl)) (leaves≢falls _)) refl))
      (ends_in_turn (passes (goes_on (one_site 0) (goes_on (in_second (goes_on (one_site 30) skipped refl)) left refl) refl) breaks≢falls_through) (leaves≢falls _))
      refl)
      refl))
      refl;
  jumps =
      arrives
      (turns_again (goes_on skipped (in_second (goes_on (passes (in_second (in_first (one_site 6))) (falls≢leaves _)) skipped refl)) refl)
      (turns_again (goes_on skipped (in_second (goes_on (passes (in_first (one_site 3)) (falls≢leaves _)) skipped refl)) refl)
      (turns_again (goes_on skipped (in_second (goes_on (passes (in_first (one_site 3)) (falls≢leaves _)) skipped refl)) refl)
      (turns_again (goes_on skipped (in_second (goes_on (passes (in_second (in_first (one_site 6))) (falls≢leaves _)) skipped refl)) refl)
      (ends_in_turn (goes_on skipped (in_first left) refl) (leaves≢falls _))
      refl) refl) refl) refl);
  jumps_past_all = arrives (ends_in_turn (goes_on skipped (in_first left) refl) (leaves≢falls _));
}
