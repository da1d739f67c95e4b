-- Masks and bodies: a value is that of one at most.
use Rattle.std.proofs.Common.{◌≡◌, ℕ, List, codes, option_and_then, refl, sym, ap, ◌∙◌}
use Rattle.std.proofs.lemmas.Cmp.{nat_cmp_total}
use Rattle.std.specs.Prelude.{⊤}
use Rattle.std.specs.Cmp.{IsTotalOrder, then_total, on_total}
use Rattle.serde_json.specs.Data.{Data, Members, no_members, put}
use Rattle.serde_json.specs.Find.{as_number, as_u64}
use Rattle.json_reading.specs.Made.{IsAll, IsMadeWith, IsObjectOf}
use Rattle.json_reading.proofs.ItemsMade.{made_with, one_all, one_object, one_with}
use Rattle.table_json.specs.MembersRead.{IsPosition}
use Rattle.table_json.specs.TableValues.{list, whole}
use Rattle.table_json.proofs.ListedRead.{one_listed}
use Rattle.table_json.proofs.ValueParts.{some_same}
use Rattle.certificate_json.specs.Certificates.{BodyEntry, by_place}
use Rattle.certificate_json.specs.CertificateValues.{AreMasks, IsBodyValue, IsMask}
use Rattle.certificate_json.specs.MembersRead.{AreStates}

-- Masks

one_number : (value : Data) (m n : ℕ) → value ≡ whole m → value ≡ whole n → m ≡ n
one_number value m n h k = some_same m n (ap (λ v. option_and_then as_u64 (as_number v)) (sym h ∙ k))

one_masks : (value : Data) (a b : List ℕ) → AreMasks value a → AreMasks value b → a ≡ b
one_masks value a b h k =
    one_listed IsMask (λ v m n f g. one_number v m n f.0 g.0) value a b (h.values, h.is_value, h.each)
    (k.values, k.is_value, k.each)

-- Bodies

-- the offset, the file and the states
abbrev pub AreParts : Members → ℕ × (ℕ × (List (List ℕ) × ⊤)) → Type 0
AreParts =
    IsMadeWith (codes "at") IsPosition (IsMadeWith (codes "file") IsPosition (IsMadeWith (codes "states") AreStates IsAll))

pub parts_of : (value : Data) (b : BodyEntry) → IsBodyValue value b
    → IsObjectOf AreParts value (b.at, (b.file, (b.states, tt)))
parts_of value b is =
    let states = put (codes "states") (list is.states) no_members in
    let file = put (codes "file") (whole b.file) states in (
      put (codes "at") (whole b.at) file,
      is.is_value,
      made_with _ _ _ (whole b.at) file _ _ refl (refl, is.at_fits)
          (made_with _ _ _ (whole b.file) states _ _ refl (refl, is.file_fits)
          (made_with _ _ _ (list is.states) no_members _ _ refl (is.states, refl, is.each) refl)),
    )

pub one_body : (value : Data) (b c : BodyEntry) → IsBodyValue value b → IsBodyValue value c → b ≡ c
one_body value b c h k =
    let one = λ (v : Data) (m n : ℕ) (f : IsPosition v m) (g : IsPosition v n). one_number v m n f.0 g.0 in
    let same =
    one_object AreParts
    (one_with _ _ _ one (one_with _ _ _ one (one_with _ _ _ (one_listed AreMasks one_masks) one_all)))
    value (b.at, (b.file, (b.states, tt))) (c.at, (c.file, (c.states, tt))) (parts_of value b h) (parts_of value c k) in
    λ i. record { file = (same i).1.0; at = (same i).0; states = (same i).1.1.0 }

-- The bodies of a package

pub place_total : IsTotalOrder by_place
place_total = then_total (on_total (λ p. p.0) nat_cmp_total) (on_total (λ p. p.1) nat_cmp_total)
