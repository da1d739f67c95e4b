-- Texts of an object with a version, and a list under one key.
use Rattle.std.proofs.Common.{◌≡◌, ℕ, List, Some, None, Vec, Global, map, codes, refl, sym, ap, subst, ◌∙◌}
use Rattle.std.specs.List.{AllZip}
use Rattle.serde_json.specs.Data.{Data, object, no_members, put}
use Rattle.serde_json.specs.Find.{get_member}
use Rattle.json_reading.specs.Made.{IsNotVersioned, IsVersioned}
use Rattle.json_reading.specs.Standing.{IsListOf, IsNoList, Refutes}
use Rattle.json_reading.proofs.ItemsMade.{not_versioned, one_versioned}
use Rattle.table_json.specs.MembersRead.{IsListWith}
use Rattle.table_json.specs.TableTexts.{version_of}
use Rattle.table_json.specs.TableValues.{list, whole}
use Rattle.table_json.proofs.OneList.{one_list}
use Rattle.table_json.proofs.TablesRead.{versioned_is, versioned_there}
use Rattle.table_json.proofs.ValuesRead.{array_same, no_list, none_zip, zip_seen}

-- this is the object with that version, and under the key are these
module _ {X : Type 0} (key : List ℕ) (Is : Data → X → Type 0) where
  pub record IsListed (version : ℕ) (value : Data) (xs : List X) : Type 0 where
    pub values : List Data
    pub is_value : value ≡ object (put key (list values) (put (codes "version") (whole version) no_members))
    pub each : AllZip Is values xs

-- a list of values is that of one list at most
pub one_listed : {X : Type 0} (Is : Data → X → Type 0) → ((value : Data) (x y : X) → Is value x → Is value y → x ≡ y)
    → (value : Data) (xs ys : List X)
    → IsListWith (AllZip Is) value xs
    → IsListWith (AllZip Is) value ys
    → xs ≡ ys
one_listed Is one value xs ys h k =
    one_list Is one k.0 xs ys (subst (λ vs. AllZip Is vs xs) (array_same h.0 k.0 (sym h.1 ∙ k.1)) h.2) k.2

module _ {X : Type 0} (key : List ℕ) (Is : Data → X → Type 0) (alone : (v : Data) → get_member key (put (codes "version") v no_members) ≡ None)
    (value : Data) where
  listed_there : (n : ℕ) (xs : List X) → IsListed key Is n value xs → IsVersioned key (IsListWith (AllZip Is)) value xs
  listed_there n xs is =
      versioned_there key (IsListWith (AllZip Is)) value xs (list is.values) (whole n) (alone (whole n)) is.is_value
      (is.values, refl, is.each)

  pub one_value : ((v : Data) (x y : X) → Is v x → Is v y → x ≡ y) → (m n : ℕ) (xs ys : List X)
      → IsListed key Is m value xs
      → IsListed key Is n value ys
      → xs ≡ ys
  one_value one m n xs ys h k =
      one_versioned key (IsListWith (AllZip Is)) (one_listed Is one) value xs ys (listed_there m xs h) (listed_there n ys k)

  -- what is not read as such an object is none
  pub no_listed : IsNotVersioned key (IsNoList (Refutes Is)) value → (n : ℕ) → Refutes (IsListed key Is n) value
  no_listed none n xs = λ is.
      not_versioned key (IsListWith (AllZip Is)) (IsNoList (Refutes Is)) (no_list Is (AllZip Is) (none_zip Is)) value none xs
      (listed_there n xs is)

  module _ {V : Type 0} (seen : V → X) (found : Vec V Global)
      (read : IsVersioned key (λ d vs. IsListOf (λ v x. Is v (seen x)) d vs.items) value found) where
    -- where the version is this number, what is read is listed
    pub is_listed : (n : ℕ) → version_of value ≡ Some n → IsListed key Is n value (map seen found.items)
    is_listed n at_version =
        let under = read.2.is_value in
        record {
          values = under.0;
          is_value =
              versioned_is key (λ d vs. IsListOf (λ v x. Is v (seen x)) d vs.items) value found read n at_version
              ∙ ap (λ v. object (put key v (put (codes "version") (whole n) no_members))) under.1;
          each = zip_seen Is seen under.0 found.items under.2;
        }

    seen_there : IsVersioned key (IsListWith (AllZip Is)) value (map seen found.items)
    seen_there =
        let under = read.2.is_value in (
          read.0,
          read.1,
          record {
            value = read.2.value;
            others = read.2.others;
            not_there = read.2.not_there;
            are_members = read.2.are_members;
            is_value = (under.0, under.1, zip_seen Is seen under.0 found.items under.2);
            are_others = read.2.are_others;
          },
        )

    -- and nothing else
    pub none_else : ((v : Data) (x y : X) → Is v x → Is v y → x ≡ y) → (n : ℕ) (xs : List X) → IsListed key Is n value xs
        → xs ≡ map seen found.items
    none_else one n xs is =
        one_versioned key (IsListWith (AllZip Is)) (one_listed Is one) value xs (map seen found.items)
        (listed_there n xs is) seen_there
