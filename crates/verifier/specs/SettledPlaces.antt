-- The variables that a body captures and its certificate settles, as the program goes over them: place by place.
use Rattle.std.specs.Prelude.{ℕ, ◌≡◌, ◌<◌, List, Some, slice_get}
use Rattle.checker.specs.Certificates.{CheckedBody, SettlesIn}
use Rattle.meaning.specs.BodyEvents.{Variable, captured}

-- the variable at that place has this number, and the body captures and its certificate settles it
pub record SettlesPlace (b : CheckedBody) (states : List (List ℕ)) (place number : ℕ) : Type 0 where
  pub found : Variable
  pub is_there : slice_get b.variables place ≡ Some found
  pub is_captured : found.role ≡ captured
  pub is_it : found.number ≡ number
  pub settles : SettlesIn b states place found

-- so does one of the variables before that place
pub record SettlesBefore (b : CheckedBody) (states : List (List ℕ)) (places number : ℕ) : Type 0 where
  pub place : ℕ
  pub is_before : place < places
  pub settles : SettlesPlace b states place number

-- so does one of the variables
pub record SettlesSome (b : CheckedBody) (states : List (List ℕ)) (number : ℕ) : Type 0 where
  pub place : ℕ
  pub settles : SettlesPlace b states place number
