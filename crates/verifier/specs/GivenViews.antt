-- What certificates give for packages, wherever they are kept. Of several packages with one path, bodies at one place,
-- functions with one name, and parameters at one position the first counts; certificates that were read have no such.
use Rattle.std.specs.Prelude.{ℕ, ◌≡◌, ◌==◌, ◌&&◌, if◌then◌else◌, List, [], ◌∷◌, Option, Some, None, option_map}
use Rattle.std.specs.Str.{bytes_eq}
use Rattle.indexmap.specs.IndexMap.{get_by}
use Rattle.first_values.specs.ValuesByName.{value_of}
use Rattle.meaning.specs.FunctionFacts.{CancelType, plain, with_cause}
use Rattle.table_json.specs.declared.table.Parameter.{Parameter}
use Rattle.table_json.specs.declared.table.Parameter.TheVariants.{Cancel, Cause, Group}
use Rattle.table_json.specs.Tables.{Entry, position_of}
use Rattle.certificate_json.specs.Certificates.{BodyEntry, PackageEntry, package_of, rows_of}
use Rattle.verifier.specs.declared.by_certificates.ByCertificates.{ByCertificates}
use Rattle.verifier.specs.declared.given.GivenRows.{GivenRows}
use Rattle.verifier.specs.declared.given.GivenClaims.{GivenClaims}
use Rattle.verifier.specs.declared.given.GivenPackage.{GivenPackage}
use Rattle.verifier.specs.Rules.{GivenByPath}
use Rattle.verifier.specs.Verified.{Given}

-- Of a package

-- the rows of the first body at that place
abbrev pub only_rows : BodyEntry → ℕ → ℕ → Option (List (List ℕ))
only_rows b number at = if (b.file == number) && (b.at == at) then Some b.states else None

abbrev pub rows_in : List BodyEntry → ℕ → ℕ → Option (List (List ℕ))
rows_in [] number at = None
rows_in (b ∷ bs) number at = if (b.file == number) && (b.at == at) then Some b.states else rows_in bs number at

-- the type of the cancel function that the parameter is claimed to be, and to be called
abbrev pub claim_of : Parameter → Option CancelType
claim_of (Cancel at calls) = if calls then Some plain else None
claim_of (Cause at calls) = if calls then Some with_cause else None
claim_of (Group at) = None

abbrev pub claim_at : List Parameter → ℕ → Option CancelType
claim_at [] k = None
claim_at (p ∷ ps) k = if position_of p == k then claim_of p else claim_at ps k

-- the parameters of the first function of that name
abbrev pub first_params : List Entry → List ℕ → Option (List Parameter)
first_params [] name = None
first_params (f ∷ fs) name = if bytes_eq f.name name then Some f.params else first_params fs name

abbrev pub claim_in : Option (List Parameter) → ℕ → Option CancelType
claim_in None k = None
claim_in (Some ps) k = claim_at ps k

abbrev pub claims_in : List Entry → List ℕ → ℕ → Option CancelType
claims_in fs name k = claim_in (first_params fs name) k

-- where there is none, nothing is given
abbrev pub given_of : Option PackageEntry → Given
given_of None = record { rows = λ number at. None; claims = λ name k. None }
given_of (Some p) = record { rows = rows_in p.bodies; claims = claims_in p.facts }

-- Of packages

-- the first of that path
abbrev pub package_in : List PackageEntry → List ℕ → Option PackageEntry
package_in [] path = None
package_in (p ∷ ps) path = if bytes_eq p.path path then Some p else package_in ps path

abbrev pub package_by_path : ByCertificates → List ℕ → Option PackageEntry
package_by_path by path = option_map (λ p. package_of p.now) (value_of by.packages path)

abbrev pub given_by : ByCertificates → GivenByPath
given_by by path = given_of (package_by_path by path)

-- What the program keeps of a package

abbrev pub rows_at : GivenRows → ℕ → ℕ → Option (List (List ℕ))
rows_at given number at =
    option_map (λ rows. rows_of rows.now) (get_by (λ place. (number == place.file) && (at == place.at)) given.bodies)

abbrev pub params_at : GivenClaims → List ℕ → Option (List Parameter)
params_at given name = option_map (λ params. params.now) (value_of given.functions name)

pub record TellsGiven (given : Given) (kept : GivenPackage) : Type 0 where
  pub are_rows : (number at : ℕ) → rows_at kept.rows number at ≡ given.rows number at
  pub are_claims : (name : List ℕ) (k : ℕ) → claim_in (params_at kept.claims name) k ≡ given.claims name k
