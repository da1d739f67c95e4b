-- What serves the proofs: what is read of values.
use Rattle.std.specs.Prelude.{ℕ, Bool, List}
use Rattle.std.specs.List.{AllZip}
use Rattle.serde_json.specs.Data.{Data}
use Rattle.json_reading.specs.Keyed.{kept}
use Rattle.json_reading.specs.Standing.{Judges, Refutes, SomeIs}
use Rattle.table_json.specs.MembersRead.{IsListWith}
use Rattle.certificate_json.specs.Certificates.{BodyEntry}
use Rattle.certificate_json.specs.CertificateValues.{AreBodiesOf, AreMasks}

abbrev pub AreStates : Data → List (List ℕ) → Type 0
AreStates = IsListWith (AllZip AreMasks)

-- these are the rows of masks of values, where each is that of some
abbrev pub HasRows : Bool → List (List ℕ) → List Data → Type 0
HasRows are_rows rows values = Judges (AllZip AreMasks) (SomeIs (Refutes AreMasks)) values (kept are_rows rows)

abbrev pub AreBodiesIn : Data → List BodyEntry → Type 0
AreBodiesIn = IsListWith AreBodiesOf
