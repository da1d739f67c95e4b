-- What is read of masks, of bodies and of lists of bodies.
use Rattle.std.proofs.Common.{ℕ, List, Option, Some, None, Vec, Global, option_map, codes, ◌∙◌, ap}
use Rattle.std.specs.Prelude.{⊤}
use Rattle.std.specs.List.{AllZip}
use Rattle.json.specs.Token.{Token}
use Rattle.serde_json.specs.Data.{Data, Members, object, put}
use Rattle.json_reading.specs.Made.{AreSome, IsAll, IsMadeWith, IsNoneWith, IsNoObjectOf, IsObjectOf}
use Rattle.json_reading.specs.Standing.{IsListOf, IsNoList, Judges, ReadsAs, Refutes}
use Rattle.json_reading.proofs.ItemsMade.{no_object_of, none_with, some_are}
use Rattle.table_json.specs.MembersRead.{IsPosition}
use Rattle.table_json.proofs.ValuesRead.{no_list, none_zip}
use Rattle.certificate_json.specs.CertificateValues.{AreMasks, IsBodyValue, IsMask}
use Rattle.certificate_json.specs.MembersRead.{AreStates}
use Rattle.certificate_json.proofs.BodyReadings.{parts_of, AreParts}

-- The masks of one node

masks_judged : (value : Data) (found : Option (Vec ℕ Global))
    → Judges (IsListOf IsMask) (IsNoList (Refutes IsMask)) value (option_map (λ list. list.items) found)
    → Judges (λ d masks. AreMasks d masks.items) (Refutes AreMasks) value found
masks_judged value None h = λ masks is.
    no_list IsMask (AllZip IsMask) (none_zip IsMask) value h masks (is.values, is.is_value, is.each)
masks_judged value (Some masks) h = record { values = h.0; is_value = h.1; each = h.2 }

pub masks_read : (standing : Option (Data × List Token)) (new : List Token) (found : Option (Vec ℕ Global))
    → ReadsAs (IsListOf IsMask) (IsNoList (Refutes IsMask)) standing new (option_map (λ list. list.items) found)
    → ReadsAs (λ d masks. AreMasks d masks.items) (Refutes AreMasks) standing new found
masks_read standing new found read =
    record { value = read.value; stands = read.stands; judged = masks_judged read.value found read.judged }

-- Bodies

abbrev NoneAre : Members → Type 0
NoneAre =
    IsNoneWith (codes "at") (Refutes IsPosition) (IsNoneWith (codes "file") (Refutes IsPosition) (IsNoneWith (codes "states") (Refutes AreStates) AreSome))

pub no_body : (value : Data) → IsNoObjectOf NoneAre value → Refutes IsBodyValue value
no_body value none b = λ is.
    no_object_of AreParts NoneAre
    (none_with _ _ _ _ _ (λ v no. no)
    (none_with _ _ _ _ _ (λ v no. no) (none_with _ _ _ _ _ (λ v no. no) some_are)))
    value none (b.at, (b.file, (b.states, tt))) (parts_of value b is)

-- the body of an object of which these were read
pub body_read : {S : Type 0} (rows : S → List (List ℕ)) (value : Data) (at file : ℕ) (states : S) (end : ⊤)
    → IsObjectOf (IsMadeWith (codes "at") IsPosition (IsMadeWith (codes "file") IsPosition (IsMadeWith (codes "states") (λ d s. AreStates d (rows s)) IsAll)))
    value (at, (file, (states, end)))
    → IsBodyValue value (record { file = file; at = at; states = rows states })
body_read rows value at file states end is =
    let first = is.2 in
    let second = first.are_others in
    let third = second.are_others in
    record {
      states = third.is_value.0;
      is_value =
          is.1
          ∙ ap object
          (first.are_members
          ∙ (λ i. put (codes "at") (first.is_value.0 i)
          ((second.are_members
          ∙ (λ j. put (codes "file") (second.is_value.0 j)
          ((third.are_members ∙ (λ k. put (codes "states") (third.is_value.1 k) (third.are_others k))) j))) i)));
      at_fits = first.is_value.1;
      file_fits = second.is_value.1;
      each = third.is_value.2;
    }
