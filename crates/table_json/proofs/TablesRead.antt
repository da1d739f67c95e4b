-- What is read of a table's text.
use Rattle.std.proofs.Common.{◌≡◌, ℕ, List, Option, Some, None, Vec, Global, map, codes, refl, sym, ap, subst, ◌∙◌}
use Rattle.serde_json.specs.Data.{Data, object, no_members, put}
use Rattle.serde_json.specs.Find.{get_member}
use Rattle.serde_json.specs.Read.{read}
use Rattle.serde_json.proofs.Views.{get_member-put, get_member-put_other}
use Rattle.json_reading.specs.Made.{IsNotVersioned, IsVersioned}
use Rattle.json_reading.specs.Standing.{Judges, Refutes}
use Rattle.json_reading.proofs.ItemsMade.{not_versioned}
use Rattle.table_json.specs.declared.fault.TableFault.TheVariants.{WrongShape}
use Rattle.table_json.specs.declared.table.Function.{Function}
use Rattle.table_json.specs.declared.table.Version.{Version}
use Rattle.table_json.specs.MembersRead.{AreFunctionsIn}
use Rattle.table_json.specs.Tables.{Entry, entry_of}
use Rattle.table_json.specs.TableTexts.{version_of, HasWrongShape}
use Rattle.table_json.specs.TableValues.{list, number_of, whole, IsFunctionIn, IsTableIn, IsTableValue}
use Rattle.table_json.proofs.ParametersRead.{same_value}
use Rattle.table_json.proofs.Readings.{none_some, refused_table, table_in}
use Rattle.table_json.proofs.ValueParts.{of_version}

-- Objects with a version

module _ {X : Type 0} (key : List ℕ) (Is : Data → X → Type 0) (value : Data) (x : X) (is : IsVersioned key Is value x) where
  abbrev under : Data
  under = is.2.value

  abbrev version : Data
  version = is.2.are_others.value

  others_are : is.2.others ≡ put (codes "version") version no_members
  others_are = is.2.are_others.are_members ∙ ap (put (codes "version") version) is.2.are_others.are_others

  apart : codes "version" ≡ key → ⊥
  apart same =
      none_some (get_member key is.2.others) version is.2.not_there
      (ap (get_member key) others_are ∙ ap (λ q. get_member q (put (codes "version") version no_members)) (sym same)
      ∙ get_member-put (codes "version") version no_members)

  version_stands : get_member (codes "version") is.0 ≡ Some version
  version_stands =
      ap (get_member (codes "version")) is.2.are_members
      ∙ (get_member-put_other (codes "version") key under is.2.others apart
      ∙ (ap (get_member (codes "version")) others_are ∙ get_member-put (codes "version") version no_members))

  -- where the version is this number, the value is the object with that number
  pub versioned_is : (n : ℕ) → version_of value ≡ Some n
      → value ≡ object (put key under (put (codes "version") (whole n) no_members))
  versioned_is n at_version =
      let number = same_value (sym version_stands ∙ of_version is.0 n (ap version_of (sym is.1) ∙ at_version)) in
      is.1
      ∙ ap object
      (is.2.are_members ∙ ap (put key under) (others_are ∙ ap (λ v. put (codes "version") v no_members) number))

pub versioned_there : {X : Type 0} (key : List ℕ) (Is : Data → X → Type 0) (value : Data) (x : X) (under version : Data)
    → get_member key (put (codes "version") version no_members) ≡ None
    → value ≡ object (put key under (put (codes "version") version no_members))
    → Is under x
    → IsVersioned key Is value x
versioned_there key Is value x under version alone is_value is = (
  put key under (put (codes "version") version no_members),
  is_value,
  record {
    value = under;
    others = put (codes "version") version no_members;
    not_there = alone;
    are_members = refl;
    is_value = is;
    are_others = record {
      value = version;
      others = no_members;
      not_there = refl;
      are_members = refl;
      is_value = tt;
      are_others = refl;
    };
  },
)

-- The table of a text

-- the version of the text is that of its value, whoever reads it
pub version_again : (text : List ℕ) (version : Version) (v value : Data) → read text ≡ Some v
    → version_of v ≡ Some (number_of version)
    → read text ≡ Some value
    → version_of value ≡ Some (number_of version)
version_again text version v value e at_version h =
    subst (λ d. version_of d ≡ Some (number_of version)) (same_value (sym e ∙ h)) at_version

module _ (version : Version) where
  abbrev IsTableOf : Data → List Entry → Type 0
  IsTableOf = IsTableIn (number_of version) (IsFunctionIn version)

  abbrev IsRead : Data → Vec Function Global → Type 0
  IsRead = IsVersioned (codes "functions") (λ d functions. AreFunctionsIn version d (map entry_of functions.items))

  abbrev IsNotRead : Data → Type 0
  IsNotRead = IsNotVersioned (codes "functions") (Refutes (AreFunctionsIn version))

  table_read : (value : Data) (functions : Vec Function Global) → IsRead value functions
      → version_of value ≡ Some (number_of version)
      → IsTableOf value (map entry_of functions.items)
  table_read value functions is at_version =
      let found = is.2.is_value in
      record {
        functions = found.0;
        is_value =
            versioned_is (codes "functions") (λ d fs. AreFunctionsIn version d (map entry_of fs.items)) value functions is
            (number_of version) at_version
            ∙ ap (λ v. object (put (codes "functions") v (put (codes "version") (whole (number_of version)) no_members)))
            found.1;
        are_functions = found.2;
      }

  table_there : (value : Data) (table : List Entry) → IsTableOf value table
      → IsVersioned (codes "functions") (AreFunctionsIn version) value table
  table_there value table is =
      versioned_there (codes "functions") (AreFunctionsIn version) value table (list is.functions)
      (whole (number_of version)) refl is.is_value (is.functions, refl, is.are_functions)

  pub whole_table : (value : Data) (found : Option (Vec Function Global)) (functions : Vec Function Global)
      → Judges IsRead IsNotRead value found
      → found ≡ Some functions
      → version_of value ≡ Some (number_of version)
      → IsTableValue value (map entry_of functions.items)
  whole_table value found functions h some at_version =
      table_in version value (map entry_of functions.items)
      (table_read value functions (subst (Judges IsRead IsNotRead value) some h) at_version)

  pub no_whole_table : (value : Data) (found : Option (Vec Function Global)) → Judges IsRead IsNotRead value found
      → found ≡ None
      → version_of value ≡ Some (number_of version)
      → HasWrongShape value
  no_whole_table value found h none at_version =
      refused_table version value WrongShape at_version (λ table is.
      not_versioned (codes "functions") (AreFunctionsIn version) (Refutes (AreFunctionsIn version)) (λ v no. no) value
      (subst (Judges IsRead IsNotRead value) none h) table (table_there value table is))
