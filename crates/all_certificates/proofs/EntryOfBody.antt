-- The entry of a body, by its rows.
use Rattle.std.proofs.Common.{◌≡◌, ℕ, Bool, true, false, List, Some, None, map, nat_lt, ap, sym, ◌∙◌, subst}
use Rattle.std.proofs.lemmas.Option.{none-some, same_Some}
use Rattle.std.specs.Prelude.{◌^◌, if◌then◌else◌}
use Rattle.all_certificates.specs.CertifiedBodies.{IsEntry}
use Rattle.bodies.specs.Bodies.{TellsBody}
use Rattle.bodies.specs.declared.body.Body.{Body as KeptBody}
use Rattle.certificate_json.specs.Certificates.{BodyEntry}
use Rattle.certificates.specs.BodyRows.{AreLeastRows}
use Rattle.certificates.specs.Least.{IsLeastOf}
use Rattle.certificates.specs.Rows.{Vec, rows_view}
use Rattle.meaning.specs.Mentions.{BodyPlace}
use Rattle.meaning.specs.Uses.{Callee, Seen}
use Rattle.meaning_packages.specs.Credits.{Credits, promises_in}
use Rattle.meaning_packages.specs.PathFaults.{paths_of}
use Rattle.table_json.specs.TableValues.{if_fits}

fits_as_it_is : (n m : ℕ) → if_fits n ≡ Some m → m ≡ n
fits_as_it_is n m e = by (nat_lt n (2 ^ 32)) e
  where
    by : (b : Bool) → (if b then Some n else None) ≡ Some m → m ≡ n
    by true e = sym (same_Some n m e)
    by false e = absurd (none-some m e)

pub entry_so : (calls : Callee → ℕ → Bool) (credits : Credits) (number : ℕ) (seen : Seen) (b : BodyPlace) (body : KeptBody)
    (file : ℕ) (states : List (List ℕ)) (rows : List (Vec ℕ))
    → TellsBody number seen b body
    → if_fits body.file ≡ Some file
    → AreLeastRows seen b (promises_in calls credits b.at) rows
    → states ≡ rows_view rows
    → IsEntry calls credits number seen b (record { file = file; at = body.place.at; states = states })
entry_so calls credits number seen b body file states rows tells fits least same = record {
  is_file = fits_as_it_is body.file file fits ∙ tells.is_file;
  is_place = ap (λ (p : BodyPlace). p.at) tells.is_place;
  is_followed = least.is_followed;
  is_least = subst (IsLeastOf (paths_of seen (promises_in calls credits b.at) b)) (sym same) least.is_least;
}
