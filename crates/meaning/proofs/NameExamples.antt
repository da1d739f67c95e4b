-- What names mean in the small functions is computed.
use Rattle.std.proofs.Common.{refl}
use Rattle.meaning.specs.Scopes.{parameters_names}
use Rattle.meaning.specs.Declarations.{first_locals, innermost}
use Rattle.meaning.specs.NameExamples.{TypeParametersHide}

pub type_parameters_hide : TypeParametersHide
unfolding parameters_names innermost first_locals
type_parameters_hide = record {
  in_signature = refl;
  in_body = refl;
  without = refl;
  of_receiver = refl;
  base_is_outside = refl;
  is_no_use = refl;
}
