-- What is made of an object's members, of which each is read by its key.
use Rattle.std.proofs.Common.{◌≡◌, ◌⊎◌, inl, inr, ℕ, Bool, true, false, List, Option, Some, None, option_map, codes, refl, sym, ap, ap₂, subst, ◌∙◌}
use Rattle.std.specs.Prelude.{⊤}
use Rattle.json.specs.Token.{Token}
use Rattle.serde_json.specs.Data.{Data, Members, object, no_members, put}
use Rattle.serde_json.specs.Find.{as_object, get_member}
use Rattle.serde_json.proofs.Views.{get_member-put, get_member-put_other}
use Rattle.json_reading.specs.Keyed.{members_in}
use Rattle.json_reading.specs.Made.{with_put, AreNone, AreSome, HasUnder, IsAll, IsAny, IsMadeWith, IsMissing, IsNoneWith, IsNoObjectOf, IsNotVersioned, IsObjectOf, IsRead, IsVersioned}
use Rattle.json_reading.specs.Standing.{Judges, ReadsAs, Refutes}
use Rattle.json_reading.proofs.ObjectKeys.{none_some}
use Rattle.json_reading.proofs.OneMore.{one_rest, put_again, put_either, some_same}

-- Putting one more member

module _ (key : List ℕ) where
  over : (under : Option Data) (others : Members) (value : Data)
      → put key value (with_put key under others) ≡ put key value others
  over None others value = refl
  over (Some w) others value = put_again key value w others

  beside : (under : Option Data) (others : Members) (k : List ℕ) (value : Data) → (k ≡ key → ⊥)
      → put k value (with_put key under others) ≡ with_put key under (put k value others)
  beside None others k value other = refl
  beside (Some w) others k value other = put_either k key value w others other

module _ {X : Type 0} (key : List ℕ) (Is : Data → X → Type 0) (IsNone : Data → Type 0) (HasOthers : Members → Type 0) where
  is_read_of : (value : Data) (found : Option X) → Judges Is IsNone value found → IsRead Is IsNone (Some value) found
  is_read_of value None none = inr (value, refl, none)
  is_read_of value (Some x) is = (value, refl, is)

  pub none_yet : (found : Option X) → found ≡ None → HasOthers no_members
      → HasUnder key Is IsNone HasOthers found no_members
  none_yet found none first = record {
    under = None;
    others = no_members;
    not_there = refl;
    are_members = refl;
    is_read = subst (IsRead Is IsNone None) (sym none) (inl refl);
    are_others = first;
  }

  module _ (found : Option X) (k : List ℕ) (value : Data) (ms : Members) (h : HasUnder key Is IsNone HasOthers found ms) where
    pub found_put : (read : Option X) → k ≡ key → Judges Is IsNone value read
        → HasUnder key Is IsNone HasOthers read (put k value ms)
    found_put read same judged = record {
      under = Some value;
      others = h.others;
      not_there = h.not_there;
      are_members = ap₂ (λ q m. put q value m) same h.are_members ∙ over key h.under h.others value;
      is_read = is_read_of value read judged;
      are_others = h.are_others;
    }

    pub others_put : (HasMore : Members → Type 0) → (k ≡ key → ⊥)
        → ((others : Members) → HasOthers others → HasMore (put k value others))
        → HasUnder key Is IsNone HasMore found (put k value ms)
    others_put HasMore other more = record {
      under = h.under;
      others = put k value h.others;
      not_there = get_member-put_other key k value h.others (λ e. other (sym e)) ∙ h.not_there;
      are_members = ap (put k value) h.are_members ∙ beside key h.under h.others k value other;
      is_read = h.is_read;
      are_others = more h.others h.are_others;
    }

-- a member was put, so there is one
pub one_put : (key : List ℕ) (value : Data) (ms : Members) → AreSome (put key value ms)
one_put key value ms = λ e.
    none_some (get_member key (put key value ms)) value (ap (get_member key) e) (get_member-put key value ms)

-- What is made of the members that were read

module _ {X Y : Type 0} (key : List ℕ) (Is : Data → X → Type 0) (IsNone : Data → Type 0) (HasOthers : Members → Type 0)
    (Are : Members → Y → Type 0) (NoneAre : Members → Type 0) (ms : Members) (found : Option X)
    (h : HasUnder key Is IsNone HasOthers found ms) where
  pub none_found : found ≡ None → IsNoneWith key IsNone NoneAre ms
  none_found none = record {
    under = h.under;
    others = h.others;
    not_there = h.not_there;
    are_members = h.are_members;
    is_none = inl (subst (IsRead Is IsNone h.under) none h.is_read);
  }

  pub none_made : (made : Option Y) → Judges Are NoneAre h.others made → made ≡ None → IsNoneWith key IsNone NoneAre ms
  none_made made judged none = record {
    under = h.under;
    others = h.others;
    not_there = h.not_there;
    are_members = h.are_members;
    is_none = inr (subst (Judges Are NoneAre h.others) none judged);
  }

  pub both_made : (x : X) (made : Option Y) (y : Y) → found ≡ Some x → Judges Are NoneAre h.others made → made ≡ Some y
      → IsMadeWith key Is Are ms (x, y)
  both_made x made y is judged some =
      let under = subst (IsRead Is IsNone h.under) is h.is_read in
      record {
        value = under.0;
        others = h.others;
        not_there = h.not_there;
        are_members = h.are_members ∙ ap (λ o. with_put key o h.others) under.1;
        is_value = under.2;
        are_others = subst (Judges Are NoneAre h.others) some judged;
      }

pub all_made : (are_none : Bool) (ms : Members) → AreNone are_none ms → are_none ≡ true → ms ≡ no_members
all_made true ms h is = h
all_made false ms h is = absurd (cc)

pub some_left : (are_none : Bool) (ms : Members) → AreNone are_none ms → are_none ≡ false → AreSome ms
some_left true ms h is = absurd (cc)
some_left false ms h is = h

pub object_made : {X : Type 0} (Are : Members → X → Type 0) (NoneAre : Members → Type 0) (ms : Members) (made : Option X)
    → Judges Are NoneAre ms made
    → Judges (IsObjectOf Are) (IsNoObjectOf NoneAre) (object ms) made
object_made Are NoneAre ms None h = inr (ms, refl, h)
object_made Are NoneAre ms (Some x) h = (ms, refl, h)

-- What an object is made of

pub made_with : {X Y : Type 0} (key : List ℕ) (Is : Data → X → Type 0) (Are : Members → Y → Type 0) (value : Data)
    (others : Members) (x : X) (y : Y)
    → get_member key others ≡ None
    → Is value x
    → Are others y
    → IsMadeWith key Is Are (put key value others) (x, y)
made_with key Is Are value others x y not_there is are =
    record { value = value; others = others; not_there = not_there; are_members = refl; is_value = is; are_others = are }

-- What is none is nothing, whatever it may be

module _ (key : List ℕ) where
  under_of : (under : Option Data) (others : Members) → get_member key others ≡ None
      → get_member key (with_put key under others) ≡ under
  under_of None others none = none
  under_of (Some value) others none = get_member-put key value others

  rest_of : (under : Option Data) (others rest : Members) (value : Data) → get_member key others ≡ None
      → get_member key rest ≡ None
      → with_put key under others ≡ put key value rest
      → others ≡ rest
  rest_of None others rest value none none_too same =
      absurd (none_some (get_member key others) value none
      (ap (get_member key) same ∙ get_member-put key value rest))
  rest_of (Some v) others rest value none none_too same = one_rest key v value others rest none none_too same

missing : {X : Type 0} (Is : Data → X → Type 0) (IsNone : Data → Type 0) (under : Option Data) (value : Data)
    → ((v : Data) → IsNone v → Refutes Is v)
    → IsMissing IsNone under
    → under ≡ Some value
    → Refutes Is value
missing Is IsNone under value refuted (inl none) there = absurd (none_some under value none there)
missing Is IsNone under value refuted (inr none) there =
    subst (Refutes Is) (some_same none.0 value (sym none.1 ∙ there)) (refuted none.0 none.2)

module _ {X Y : Type 0} (key : List ℕ) (Is : Data → X → Type 0) (IsNone : Data → Type 0) (Are : Members → Y → Type 0) (NoneAre : Members → Type 0)
    (refuted : (value : Data) → IsNone value → Refutes Is value) (refuted_too : (ms : Members) → NoneAre ms → Refutes Are ms) where
  module _ (ms : Members) (none : IsNoneWith key IsNone NoneAre ms) (item : X × Y) (is : IsMadeWith key Is Are ms item) where
    put_there : with_put key none.under none.others ≡ put key is.value is.others
    put_there = sym none.are_members ∙ is.are_members

    others_are : none.others ≡ is.others
    others_are = rest_of key none.under none.others is.others is.value none.not_there is.not_there put_there

    under_is : none.under ≡ Some is.value
    under_is =
        sym (under_of key none.under none.others none.not_there)
        ∙ (ap (get_member key) put_there ∙ get_member-put key is.value is.others)

    by : IsMissing IsNone none.under ⊎ NoneAre none.others → ⊥
    by (inl lacks) = missing Is IsNone none.under is.value refuted lacks under_is item.0 is.is_value
    by (inr lacks) = refuted_too is.others (subst NoneAre others_are lacks) item.1 is.are_others

  pub none_with : (ms : Members) → IsNoneWith key IsNone NoneAre ms → Refutes (IsMadeWith key Is Are) ms
  none_with ms none item = λ is. by ms none item is none.is_none

-- what one value stands for, one object does
module _ {X Y : Type 0} (key : List ℕ) (Is : Data → X → Type 0) (Are : Members → Y → Type 0)
    (one : (value : Data) (x y : X) → Is value x → Is value y → x ≡ y)
    (one_too : (ms : Members) (x y : Y) → Are ms x → Are ms y → x ≡ y) where
  pub one_with : (ms : Members) (a b : X × Y) → IsMadeWith key Is Are ms a → IsMadeWith key Is Are ms b → a ≡ b
  one_with ms a b h k =
      let same = sym h.are_members ∙ k.are_members in
      let value =
      some_same h.value k.value
      (sym (get_member-put key h.value h.others) ∙ (ap (get_member key) same ∙ get_member-put key k.value k.others)) in
      let others = one_rest key h.value k.value h.others k.others h.not_there k.not_there same in
      let first = one k.value a.0 b.0 (subst (λ v. Is v a.0) value h.is_value) k.is_value in
      let second = one_too k.others a.1 b.1 (subst (λ ms. Are ms a.1) others h.are_others) k.are_others in
      λ i. (first i, second i)

pub one_all : (ms : Members) (x y : ⊤) → IsAll ms x → IsAll ms y → x ≡ y
one_all ms x y h k = refl

pub one_object : {X : Type 0} (Are : Members → X → Type 0)
    → ((ms : Members) (x y : X) → Are ms x → Are ms y → x ≡ y)
    → (value : Data) (x y : X)
    → IsObjectOf Are value x
    → IsObjectOf Are value y
    → x ≡ y
one_object Are one value x y h k =
    one k.0 x y (subst (λ ms. Are ms x) (ap members_in (sym h.1 ∙ k.1)) h.2) k.2

pub one_versioned : {X : Type 0} (key : List ℕ) (Is : Data → X → Type 0)
    → ((value : Data) (x y : X) → Is value x → Is value y → x ≡ y)
    → (value : Data) (x y : X)
    → IsVersioned key Is value x
    → IsVersioned key Is value y
    → x ≡ y
one_versioned key Is one value x y h k =
    ap (λ item. item.0)
    (one_object (IsMadeWith key Is (IsMadeWith (codes "version") IsAny IsAll))
    (one_with key Is (IsMadeWith (codes "version") IsAny IsAll) one
    (one_with (codes "version") IsAny IsAll (λ v a b f g. refl) one_all))
    value (x, (tt, tt)) (y, (tt, tt)) h k)

pub some_are : (ms : Members) → AreSome ms → Refutes IsAll ms
some_are ms some x = λ is. some is

pub no_object_of : {X : Type 0} (Are : Members → X → Type 0) (NoneAre : Members → Type 0)
    → ((ms : Members) → NoneAre ms → Refutes Are ms)
    → (value : Data)
    → IsNoObjectOf NoneAre value
    → Refutes (IsObjectOf Are) value
no_object_of Are NoneAre refuted value (inl none) x = λ is. none_some (as_object value) is.0 none (ap as_object is.1)
no_object_of Are NoneAre refuted value (inr none) x = λ is.
    refuted is.0 (subst NoneAre (ap members_in (sym none.1 ∙ is.1)) none.2) x is.2

pub not_versioned : {X : Type 0} (key : List ℕ) (Is : Data → X → Type 0) (IsNone : Data → Type 0)
    → ((value : Data) → IsNone value → Refutes Is value)
    → (value : Data)
    → IsNotVersioned key IsNone value
    → Refutes (IsVersioned key Is) value
not_versioned key Is IsNone refuted value none x =
    no_object_of (IsMadeWith key Is (IsMadeWith (codes "version") IsAny IsAll))
    (IsNoneWith key IsNone (IsNoneWith (codes "version") (λ any. ⊥) AreSome))
    (none_with key Is IsNone (IsMadeWith (codes "version") IsAny IsAll) (IsNoneWith (codes "version") (λ any. ⊥) AreSome) refuted
    (none_with (codes "version") IsAny (λ any. ⊥) IsAll AreSome (λ any no. absurd no) some_are))
    value none (x, (tt, tt))

-- What was read, seen as something else

module _ {V X : Type 0} (Is : Data → X → Type 0) (seen : V → X) (IsNone : Data → Type 0) where
  judged_back : (value : Data) (found : Option V) → Judges Is IsNone value (option_map seen found)
      → Judges (λ d v. Is d (seen v)) IsNone value found
  judged_back value None h = h
  judged_back value (Some v) h = h

  pub read_back : (standing : Option (Data × List Token)) (new : List Token) (found : Option V)
      → ReadsAs Is IsNone standing new (option_map seen found)
      → ReadsAs (λ d v. Is d (seen v)) IsNone standing new found
  read_back standing new found read =
      record { value = read.value; stands = read.stands; judged = judged_back read.value found read.judged }

-- The item that was read, where one was

module _ {X : Type 0} (Is : Data → X → Type 0) (IsNone : Data → Type 0) (standing : Option (Data × List Token)) (new : List Token)
    (found : Option X) (read : ReadsAs Is IsNone standing new found) where
  pub item_read : (x : X) → found ≡ Some x → (value : Data) × (standing ≡ Some (value, new)) × Is value x
  item_read x is = (read.value, read.stands, subst (Judges Is IsNone read.value) is read.judged)

  pub no_item_read : found ≡ None → (value : Data) × (standing ≡ Some (value, new)) × IsNone value
  no_item_read none = (read.value, read.stands, subst (Judges Is IsNone read.value) none read.judged)
