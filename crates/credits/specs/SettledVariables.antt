-- The variables that a body captures and settles, as the program goes over them: place by place.
use Rattle.std.specs.Prelude.{ℕ, ◌≡◌, ◌<◌, Bool, true, false, List, Some, slice_get, Contains}
use Rattle.std.specs.List.{list_any}
use Rattle.meaning.specs.BodyEvents.{Variable, VariableRole, own_parameter, own_receiver, declared_in_body, captured}
use Rattle.meaning_packages.specs.PathFaults.{Paths}
use Rattle.meaning_packages.specs.Credits.{Settles}

abbrev pub is_captured : VariableRole → Bool
is_captured (own_parameter k) = false
is_captured own_receiver = false
is_captured declared_in_body = false
is_captured captured = true

abbrev pub captures_any : List Variable → Bool
captures_any vs = list_any (λ v. is_captured v.role) vs

-- the variable at that place has this number, and the body captures and settles it
pub record SettlesAt (b : Paths) (place number : ℕ) : Type 0 where
  pub variable : Variable
  pub is_there : slice_get b.variables place ≡ Some variable
  pub is_captured : variable.role ≡ captured
  pub is_it : variable.number ≡ number
  pub settles : Settles b variable

-- so does one of the variables before that place
pub record SettlesBefore (b : Paths) (places number : ℕ) : Type 0 where
  pub place : ℕ
  pub is_before : place < places
  pub settles : SettlesAt b place number

-- the body captures a variable of that number, and settles it
pub record SettlesCaptured (b : Paths) (number : ℕ) : Type 0 where
  pub variable : Variable
  pub is_of_body : Contains b.variables variable
  pub is_captured : variable.role ≡ captured
  pub is_it : variable.number ≡ number
  pub settles : Settles b variable
