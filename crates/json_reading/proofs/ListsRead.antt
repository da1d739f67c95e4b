-- Lists whose items are read one by one.
use Rattle.std.proofs.Common.{◌≡◌, inl, inr, ℕ, ◌∷◌, [], ◌++◌, Bool, true, false, List, Option, Some, None, refl, sym, ap, subst, ◌∙◌}
use Rattle.std.specs.List.{AllZip}
use Rattle.json.specs.Token.{Token}
use Rattle.json.specs.Json.{parse_map, after_end_array}
use Rattle.serde_json.specs.Data.{Data, array, Items, item, no_items}
use Rattle.serde_json.specs.View.{items_of}
use Rattle.json_reading.specs.Keyed.{kept}
use Rattle.json_reading.specs.Standing.{value_at, items_at, IsListOf, IsNoList, Judges, ReadsAs, ReadsItems, SomeIs}
use Rattle.json_reading.proofs.Turns.{item_next}

-- the items after those that were read
abbrev pub before : List Data → Items → Items
before [] rest = rest
before (d ∷ ds) rest = item d (before ds rest)

before_none : (ds : List Data) → before ds no_items ≡ items_of ds
before_none [] = refl
before_none (d ∷ ds) = ap (item d) (before_none ds)

before_more : (ds : List Data) (d : Data) (rest : Items) → before ds (item d rest) ≡ before (ds ++ d ∷ []) rest
before_more [] d rest = refl
before_more (e ∷ ds) d rest = ap (item e) (before_more ds d rest)

both_before : (ds : List Data) (d : Data) (o : Option (Items × List Token))
    → parse_map (before ds) (parse_map (item d) o) ≡ parse_map (before (ds ++ d ∷ [])) o
both_before ds d None = refl
both_before ds d (Some p) = ap (λ js. Some (js, p.1)) (before_more ds d p.0)

pub none_before : (o : Option (Items × List Token)) → o ≡ parse_map (before []) o
none_before None = refl
none_before (Some p) = refl

-- one item more: what is left after it is that of all
pub left_of : (depth : ℕ) (all : Option (Items × List Token)) (ts r : List Token) (ds : List Data) (d : Data)
    → after_end_array ts ≡ None
    → all ≡ parse_map (before ds) (items_at depth ts)
    → value_at depth ts ≡ Some (d, r)
    → all ≡ parse_map (before (ds ++ d ∷ [])) (items_at depth r)
left_of depth all ts r ds d going e stands =
    e ∙ ap (parse_map (before ds)) (item_next depth ts r d going stands) ∙ both_before ds d (items_at depth r)

-- no item more: these are all
pub all_of : (all left : Option (Items × List Token)) (new : List Token) (ds : List Data) → all ≡ parse_map (before ds) left
    → left ≡ Some (no_items, new)
    → all ≡ Some (items_of ds, new)
all_of all left new ds e over = e ∙ ap (parse_map (before ds)) over ∙ ap (λ js. Some (js, new)) (before_none ds)

-- of the items so far these were read, and what is left is that of all
pub record Keeps {X : Type 0} (Is : Data → X → Type 0) (IsNone : Data → Type 0) (all left : Option (Items × List Token)) (are_items : Bool) (found : List X)
    : Type 0 where
  pub so_far : List Data
  pub leaves : all ≡ parse_map (before so_far) left
  pub judged : Judges (AllZip Is) (SomeIs IsNone) so_far (kept are_items found)

module _ {X : Type 0} (Is : Data → X → Type 0) (IsNone : Data → Type 0) where
  one_more : (ds : List Data) (xs : List X) (d : Data) (x : X) → AllZip Is ds xs → Is d x
      → AllZip Is (ds ++ d ∷ []) (xs ++ x ∷ [])
  one_more [] [] d x h is = (is, tt)
  one_more [] (y ∷ xs) d x h is = absurd h
  one_more (e ∷ ds) [] d x h is = absurd h
  one_more (e ∷ ds) (y ∷ xs) d x h is = (h.0, one_more ds xs d x h.1 is)

  still_some : (ds : List Data) (d : Data) → SomeIs IsNone ds → SomeIs IsNone (ds ++ d ∷ [])
  still_some [] d h = absurd h
  still_some (e ∷ ds) d (inl h) = inl h
  still_some (e ∷ ds) d (inr h) = inr (still_some ds d h)

  pub last_is : (ds : List Data) (d : Data) → IsNone d → SomeIs IsNone (ds ++ d ∷ [])
  last_is [] d h = inl h
  last_is (e ∷ ds) d h = inr (last_is ds d h)

  pub judged_more : (ds : List Data) (are_items : Bool) (xs ys : List X) (d : Data) (x : X)
      → Judges (AllZip Is) (SomeIs IsNone) ds (kept are_items xs)
      → Is d x
      → ys ≡ xs ++ x ∷ []
      → Judges (AllZip Is) (SomeIs IsNone) (ds ++ d ∷ []) (kept are_items ys)
  judged_more ds true xs ys d x h is more =
      subst (AllZip Is (ds ++ d ∷ [])) (sym more) (one_more ds xs d x h is)
  judged_more ds false xs ys d x h is more = still_some ds d h

  module _ (depth : ℕ) (all : Option (Items × List Token)) (ts r : List Token) (going : after_end_array ts ≡ None) where
    pub keeps_item : (are_items : Bool) (xs ys : List X) (x : X) (found : Option X)
        → Keeps Is IsNone all (items_at depth ts) are_items xs
        → found ≡ Some x
        → ReadsAs Is IsNone (value_at depth ts) r found
        → ys ≡ xs ++ x ∷ []
        → Keeps Is IsNone all (items_at depth r) are_items ys
    keeps_item are_items xs ys x found h is read more = record {
      so_far = h.so_far ++ read.value ∷ [];
      leaves = left_of depth all ts r h.so_far read.value going h.leaves read.stands;
      judged =
          judged_more h.so_far are_items xs ys read.value x h.judged
          (subst (Judges Is IsNone read.value) is read.judged) more;
    }

    pub keeps_other : (are_items : Bool) (xs : List X) (found : Option X)
        → Keeps Is IsNone all (items_at depth ts) are_items xs
        → found ≡ None
        → ReadsAs Is IsNone (value_at depth ts) r found
        → Keeps Is IsNone all (items_at depth r) false xs
    keeps_other are_items xs found h is read = record {
      so_far = h.so_far ++ read.value ∷ [];
      leaves = left_of depth all ts r h.so_far read.value going h.leaves read.stands;
      judged = last_is h.so_far read.value (subst (Judges Is IsNone read.value) is read.judged);
    }

  pub keeps_all : (all left : Option (Items × List Token)) (are_items are : Bool) (xs : List X) (new : List Token)
      → Keeps Is IsNone all left are_items xs
      → are_items ≡ are
      → left ≡ Some (no_items, new)
      → ReadsItems Is IsNone all new (kept are xs)
  keeps_all all left are_items are xs new h same over = record {
    values = h.so_far;
    stands = all_of all left new h.so_far h.leaves over;
    judged = subst (λ b. Judges (AllZip Is) (SomeIs IsNone) h.so_far (kept b xs)) same h.judged;
  }

  -- a fault after some items is one of the whole
  pub none_left : (all left : Option (Items × List Token)) (are_items : Bool) (xs : List X)
      → Keeps Is IsNone all left are_items xs
      → left ≡ None
      → all ≡ None
  none_left all left are_items xs h none = h.leaves ∙ ap (parse_map (before h.so_far)) none

  list_judged : (ds : List Data) (found : Option (List X)) → Judges (AllZip Is) (SomeIs IsNone) ds found
      → Judges (IsListOf Is) (IsNoList IsNone) (array (items_of ds)) found
  list_judged ds None h = inr (ds, refl, h)
  list_judged ds (Some xs) h = (ds, refl, h)

  -- a list as a value
  pub list_as : (all : Option (Data × List Token)) (left : Option (Items × List Token)) (new : List Token) (found : Option (List X))
      → all ≡ parse_map array left
      → ReadsItems Is IsNone left new found
      → ReadsAs (IsListOf Is) (IsNoList IsNone) all new found
  list_as all left new found e h = record {
    value = array (items_of h.values);
    stands = e ∙ ap (parse_map array) h.stands;
    judged = list_judged h.values found h.judged;
  }
