-- Small texts, and the values that they are cut into, where a reader may doubt it.
use Rattle.std.specs.Prelude.{◌≡◌, [], ◌∷◌, codes}
use Rattle.package_list.specs.Pieces.{pieces}

pub record CutExamples : Type 0 where
  pub none : pieces (codes " ") ≡ []
  pub touching : pieces (codes "{}{}") ≡ codes "{}" ∷ codes "{}" ∷ []
  pub with_blanks : pieces (codes "{} 1 [2] ") ≡ codes "{}" ∷ codes "1" ∷ codes "[2]" ∷ []
  pub nested : pieces (codes "[{}]null[]") ≡ codes "[{}]" ∷ codes "null" ∷ codes "[]" ∷ []
  pub brace_in_string : pieces (codes "{\"}\"}1") ≡ codes "{\"}\"}" ∷ codes "1" ∷ []
  pub quote_in_string : pieces (codes "\"\\\"\"\"\"") ≡ codes "\"\\\"\"" ∷ codes "\"\"" ∷ []
  pub taken_backslash : pieces (codes "\"\\\\\"{}") ≡ codes "\"\\\\\"" ∷ codes "{}" ∷ []
  pub comma_between : pieces (codes "1,{}") ≡ codes "1" ∷ codes "," ∷ codes "{}" ∷ []
  pub closed_twice : pieces (codes "{}}1") ≡ codes "{}" ∷ codes "}" ∷ codes "1" ∷ []
  pub cut_off : pieces (codes "{} {\"") ≡ codes "{}" ∷ codes "{\"" ∷ []
