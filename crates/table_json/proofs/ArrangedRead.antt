-- Lists that were read one by one, and are kept in the order of their keys.
use Rattle.std.proofs.Common.{◌≡◌, List, Option, Some, None, IfSome, IfNone, Vec, Global, map, option_map, sym, subst, ◌∙◌}
use Rattle.std.specs.Cmp.{IsTotalOrder}
use Rattle.std.specs.declared.cmp.Ordering.{Ordering}
use Rattle.std.specs.List.{AllZip}
use Rattle.json.specs.Token.{Token}
use Rattle.serde_json.specs.Data.{Data}
use Rattle.json_reading.specs.Standing.{IsListOf, IsNoList, Judges, ReadsAs, Refutes}
use Rattle.table_json.specs.MembersRead.{IsListWith}
use Rattle.table_json.specs.Tables.{IsArranged}
use Rattle.table_json.specs.TableValues.{AreArrangedOf}
use Rattle.table_json.proofs.OneList.{none_arranged, one_arranged}
use Rattle.table_json.proofs.ValuesRead.{array_same, judged_as, list_kept, no_list, none_zip, zip_seen}

module _ {X K : Type 0} {cmp : K → K → Ordering} (total : IsTotalOrder cmp) (key : X → K) (Is : Data → X → Type 0)
    (one : (value : Data) (x y : X) → Is value x → Is value y → x ≡ y) where
  abbrev Are : List Data → List X → Type 0
  Are = AreArrangedOf Is cmp key

  -- a value is that of one list at most
  pub one_arranged_in : (value : Data) (a b : List X) → IsListWith Are value a → IsListWith Are value b → a ≡ b
  one_arranged_in value a b h k =
      one_arranged total key Is one k.0 a b (subst (λ vs. Are vs a) (array_same h.0 k.0 (sym h.1 ∙ k.1)) h.2) k.2

  ordered : (values : List Data) (given : List X) (found : Option (List X)) → AllZip Is values given
      → Judges (IsArranged cmp key) (Refutes (IsArranged cmp key)) given found
      → Judges Are (Refutes Are) values found
  ordered values given None each h = none_arranged total key Is one values given each h
  ordered values given (Some kept) each h = record { given = given; each = each; arranged = h }

  module _ {V : Type 0} (seen : V → X) (standing : Option (Data × List Token)) (new : List Token) where
    abbrev ReadsList : Option (Vec V Global) → Type 0
    ReadsList found =
        ReadsAs (IsListOf (λ d v. Is d (seen v))) (IsNoList (Refutes Is)) standing new (option_map (λ list. list.items) found)

    -- the list that was read is put in order, if no key comes twice
    pub list_arranged : (read : Option (Vec V Global)) (given : Vec V Global) (found : Option (Vec V Global))
        → read ≡ Some given
        → ReadsList read
        → IfSome found (λ list. IsArranged cmp key (map seen given.items) (map seen list.items))
        → IfNone found ((other : List X) → ¬ IsArranged cmp key (map seen given.items) other)
        → ReadsAs (IsListWith Are) (Refutes (IsListWith Are)) standing new (option_map (λ list. map seen list.items) found)
    list_arranged read given found is as_list some none =
        let of = subst ReadsList is as_list in
        let list = option_map (λ list. map seen list.items) found in
        record {
          value = of.value;
          stands = of.stands;
          judged =
              list_kept Is Are of.value of.judged.0 list of.judged.1
              (ordered of.judged.0 (map seen given.items) list (zip_seen Is seen of.judged.0 given.items of.judged.2)
              (judged_as (IsArranged cmp key) (λ list. map seen list.items) (map seen given.items) found some none));
        }

    pub no_list_arranged : (read : Option (Vec V Global)) → read ≡ None → ReadsList read
        → ReadsAs (IsListWith Are) (Refutes (IsListWith Are)) standing new None
    no_list_arranged read is as_list =
        let of = subst ReadsList is as_list in
        record {
          value = of.value;
          stands = of.stands;
          judged =
              no_list Is Are (λ values h kept are. none_zip Is values h are.given are.each) of.value of.judged;
        }
