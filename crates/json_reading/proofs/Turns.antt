-- One turn of a list or an object, and their ends.
use Rattle.std.proofs.Common.{◌≡◌, ℕ, zero, suc, ◌-◌, ◌<◌, ◌≤◌, List, [], ◌∷◌, length, Option, Some, None, option_map, option_and_then, refl, sym, ap, ◌∙◌, arith}
use Rattle.json.specs.Token.{Token}
use Rattle.json.specs.Json as json
use Rattle.json.specs.Json.{Parse, parse_map, after_end_array, read_key, items_step, items, members_step, members, value}
use Rattle.json.proofs.Grammar.{left, Takes, skip_value-shorter, read_key-shorter, value-begin_array, value-begin_object, items_end, items_more, members_end, members_no_key, members_more}
use Rattle.serde_json.specs.Data.{Data, array, object, no_items, item, Members, no_members, put}
use Rattle.serde_json.specs.Read.{of_json, of_items, of_members, converted}
use Rattle.json_reading.specs.Standing.{value_at, items_at, members_at}

-- What was converted

abbrev pick : {A : Type 0} → A → Option A → A
pick d None = d
pick d (Some a) = a

found : {A B : Type 0} (a : A) (r s : List Token) (x : Option B) (b : B)
    → option_map {U = B × List Token} (λ y. (y, r)) x ≡ Some (b, s)
    → (r ≡ s) × (x ≡ Some b)
found a r s None b e = absurd (cc)
found a r s (Some y) b e = let same = ap (pick (y, r)) e in (ap (λ p. p.1) same, ap (λ p. Some p.0) same)

pub converted_some : {A B : Type 0} (f : A → Option B) (o : Option (A × List Token)) (b : B) (r : List Token)
    → converted f o ≡ Some (b, r)
    → (a : A) × (o ≡ Some (a, r)) × (f a ≡ Some b)
converted_some f None b r e = absurd (cc)
converted_some f (Some p) b r e =
    let both = found p.0 p.1 r (f p.0) b e in (p.0, ap (λ s. Some (p.0, s)) both.0, both.1)

refused : {B : Type 0} (r : List Token) (x : Option B) → option_map {U = B × List Token} (λ y. (y, r)) x ≡ None
    → x ≡ None
refused r None e = refl
refused r (Some y) e = absurd (cc)

mapped_too : {A B : Type 0} (g : A → B) (r : List Token) (x : Option A)
    → option_map (λ b. (b, r)) (option_map g x) ≡ parse_map g (option_map (λ a. (a, r)) x)
mapped_too g r None = refl
mapped_too g r (Some a) = refl

pub converted_list : (o : Option (json.Items × List Token))
    → converted of_json (parse_map json.array o) ≡ parse_map array (converted of_items o)
converted_list None = refl
converted_list (Some p) = mapped_too array p.1 (of_items p.0)

pub converted_object : (o : Option (json.Members × List Token))
    → converted of_json (parse_map json.object o) ≡ parse_map object (converted (λ ms. of_members ms no_members) o)
converted_object None = refl
converted_object (Some p) = mapped_too object p.1 (of_members p.0 no_members)

with_item : (j : json.Json) (d : Data) → of_json j ≡ Some d → (o : Option (json.Items × List Token))
    → converted of_items (parse_map (json.item j) o) ≡ parse_map (item d) (converted of_items o)
with_item j d e None = refl
with_item j d e (Some p) = rw e (mapped_too (item d) p.1 (of_items p.0))

without_item : (j : json.Json) → of_json j ≡ None → (o : Option (json.Items × List Token))
    → converted of_items (parse_map (json.item j) o) ≡ None
without_item j e None = refl
without_item j e (Some p) = rw e

with_member : (k : List ℕ) (j : json.Json) (d : Data) (old : Members) → of_json j ≡ Some d
    → (o : Option (json.Members × List Token))
    → converted (λ ms. of_members ms old) (parse_map (json.member k j) o)
    ≡ converted (λ ms. of_members ms (put k d old)) o
with_member k j d old e None = refl
with_member k j d old e (Some p) = rw e

without_member : (k : List ℕ) (j : json.Json) (old : Members) → of_json j ≡ None
    → (o : Option (json.Members × List Token))
    → converted (λ ms. of_members ms old) (parse_map (json.member k j) o) ≡ None
without_member k j old e None = refl
without_member k j old e (Some p) = rw e

-- The number that bounds the turns plays no part, where it is enough

none_of : (p : Parse json.Json) → Takes p → (o : Option (json.Json × List Token)) → p [] ≡ o → p [] ≡ None
none_of p takes None e = e
none_of p takes (Some q) e = absurd (omega (arith, takes [] q.1 (ap left e)))

module _ (p : Parse json.Json) (takes : Takes p) where
  same_step : (more other : Parse json.Items) (ts : List Token) (o : Option (List Token))
      (v : Option (json.Json × List Token))
      → p ts ≡ v
      → ((r : List Token) → length r < length ts → more r ≡ other r)
      → items_step p more ts o ≡ items_step p other ts o
  same_step more other ts (Some r) v e same = refl
  same_step more other ts None None e same =
      ap (option_and_then (λ q. parse_map (json.item q.0) (more q.1))) e
      ∙ sym (ap (option_and_then (λ q. parse_map (json.item q.0) (other q.1))) e)
  same_step more other ts None (Some q) e same =
      ap (option_and_then (λ q. parse_map (json.item q.0) (more q.1))) e
      ∙ ap (parse_map (json.item q.0)) (same q.1 (takes ts q.1 (ap left e)))
      ∙ sym (ap (option_and_then (λ q. parse_map (json.item q.0) (other q.1))) e)

  no_tokens : (m : ℕ) → None ≡ items p m []
  unfolding items
  no_tokens zero = refl
  no_tokens (suc m) = sym (ap (option_and_then (λ q. parse_map (json.item q.0) (items p m q.1))) (none_of p takes (p []) refl))

  pub enough_items : (n m : ℕ) (ts : List Token) → length ts ≤ n → length ts ≤ m → items p n ts ≡ items p m ts
  unfolding items
  enough_items zero m [] h k = no_tokens m
  enough_items zero m (t ∷ ts) h k = absurd (omega (arith, h))
  enough_items (suc n) zero [] h k = sym (no_tokens (suc n))
  enough_items (suc n) zero (t ∷ ts) h k = absurd (omega (arith, k))
  enough_items (suc n) (suc m) ts h k =
      same_step (items p n) (items p m) ts (after_end_array ts) (p ts) refl
      (λ r less. enough_items n m r (omega (arith, less, h)) (omega (arith, less, k)))

  same_member : (more other : Parse json.Members) (k : List ℕ) (ts : List Token) (n : ℕ)
      (v : Option (json.Json × List Token))
      → p ts ≡ v
      → length ts < n
      → ((r : List Token) → length r < n → more r ≡ other r)
      → members_step p more (Some k) ts ≡ members_step p other (Some k) ts
  same_member more other k ts n None e less same =
      ap (option_and_then (λ q. parse_map (json.member k q.0) (more q.1))) e
      ∙ sym (ap (option_and_then (λ q. parse_map (json.member k q.0) (other q.1))) e)
  same_member more other k ts n (Some q) e less same =
      ap (option_and_then (λ q. parse_map (json.member k q.0) (more q.1))) e
      ∙ ap (parse_map (json.member k q.0)) (same q.1 (omega (arith, less, takes ts q.1 (ap left e))))
      ∙ sym (ap (option_and_then (λ q. parse_map (json.member k q.0) (other q.1))) e)

  same_members : (more other : Parse json.Members) (ts : List Token) (o : Option (Option (List ℕ) × List Token))
      → read_key ts ≡ o
      → ((r : List Token) → length r < length ts → more r ≡ other r)
      → option_and_then (λ q. members_step p more q.0 q.1) o ≡ option_and_then (λ q. members_step p other q.0 q.1) o
  same_members more other ts None e same = refl
  same_members more other ts (Some (None, s)) e same = refl
  same_members more other ts (Some (Some k, s)) e same =
      same_member more other k s (length ts) (p s) refl (read_key-shorter ts (Some k) s e) same

  no_members_of : (m : ℕ) → None ≡ members p m []
  unfolding members
  no_members_of zero = refl
  no_members_of (suc m) = refl

  pub enough_members : (n m : ℕ) (ts : List Token) → length ts ≤ n → length ts ≤ m → members p n ts ≡ members p m ts
  unfolding members
  enough_members zero m [] h k = no_members_of m
  enough_members zero m (t ∷ ts) h k = absurd (omega (arith, h))
  enough_members (suc n) zero [] h k = sym (no_members_of (suc n))
  enough_members (suc n) zero (t ∷ ts) h k = absurd (omega (arith, k))
  enough_members (suc n) (suc m) ts h k =
      same_members (members p n) (members p m) ts (read_key ts) refl
      (λ r less. enough_members n m r (omega (arith, less, h)) (omega (arith, less, k)))

-- A value

pub value_shorter : (depth : ℕ) (ts r : List Token) (d : Data) → value_at depth ts ≡ Some (d, r)
    → length r < length ts
value_shorter depth ts r d e =
    let j = converted_some of_json (value depth ts) d r e in skip_value-shorter depth ts r (ap left j.1)

pub list_there : (depth : ℕ) (ts : List Token) → 0 < depth
    → value_at depth (Token.begin_array ∷ ts) ≡ parse_map array (items_at (depth - 1) ts)
list_there depth ts some =
    ap (converted of_json) (value-begin_array depth ts some)
    ∙ converted_list (items (value (depth - 1)) (length ts) ts)

pub object_there : (depth : ℕ) (ts : List Token) → 0 < depth
    → value_at depth (Token.begin_object ∷ ts) ≡ parse_map object (members_at (depth - 1) no_members ts)
object_there depth ts some =
    ap (converted of_json) (value-begin_object depth ts some)
    ∙ converted_object (members (value (depth - 1)) (length ts) ts)

-- A list

module _ (depth : ℕ) where
  pub items_over : (ts r : List Token) → after_end_array ts ≡ Some r → items_at depth ts ≡ Some (no_items, r)
  items_over ts r e = ap (converted of_items) (items_end (value depth) (length ts) ts r (omega arith) e)

  pub item_next : (ts r : List Token) (d : Data) → after_end_array ts ≡ None → value_at depth ts ≡ Some (d, r)
      → items_at depth ts ≡ parse_map (item d) (items_at depth r)
  item_next ts r d going e =
      let j = converted_some of_json (value depth ts) d r e in
      let less = value_shorter depth ts r d e in
      ap (converted of_items) (items_more (value depth) (length ts) ts r j.0 (omega (arith, less)) going j.1)
      ∙ with_item j.0 d j.2 _
      ∙ ap (λ o. parse_map (item d) (converted of_items o))
      (enough_items (value depth) (skip_value-shorter depth) (length ts - 1) (length r) r (omega (arith, less))
      (omega arith))

  no_item : (more : Parse json.Items) (o : Option (json.Json × List Token)) → converted of_json o ≡ None
      → converted of_items (option_and_then (λ q. parse_map (json.item q.0) (more q.1)) o) ≡ None
  no_item more None e = refl
  no_item more (Some q) e = without_item q.0 (refused q.1 (of_json q.0) e) (more q.1)

  no_items_in : (n : ℕ) (ts : List Token) → after_end_array ts ≡ None → value_at depth ts ≡ None
      → converted of_items (items (value depth) n ts) ≡ None
  unfolding items
  no_items_in zero ts going e = refl
  no_items_in (suc n) ts going e =
      ap (λ o. converted of_items (items_step (value depth) (items (value depth) n) ts o)) going
      ∙ no_item (items (value depth) n) (value depth ts) e

  pub item_refused : (ts : List Token) → after_end_array ts ≡ None → value_at depth ts ≡ None
      → items_at depth ts ≡ None
  item_refused ts = no_items_in (length ts) ts

  -- An object

  module _ (old : Members) where
    pub members_over : (ts r : List Token) → read_key ts ≡ Some (None, r) → members_at depth old ts ≡ Some (old, r)
    members_over ts r e =
        ap (converted (λ ms. of_members ms old)) (members_end (value depth) (length ts) ts r (omega arith) e)

    pub key_refused : (ts : List Token) → read_key ts ≡ None → members_at depth old ts ≡ None
    key_refused ts e = ap (converted (λ ms. of_members ms old)) (members_no_key (value depth) (length ts) ts e)

    pub member_next : (k : List ℕ) (ts s r : List Token) (d : Data) → read_key ts ≡ Some (Some k, s)
        → value_at depth s ≡ Some (d, r)
        → members_at depth old ts ≡ members_at depth (put k d old) r
    member_next k ts s r d key e =
        let j = converted_some of_json (value depth s) d r e in
        let less = value_shorter depth s r d e in
        let fewer = read_key-shorter ts (Some k) s key in
        ap (converted (λ ms. of_members ms old))
        (members_more (value depth) (length ts) k ts s r j.0 (omega (arith, fewer)) key j.1)
        ∙ with_member k j.0 d old j.2 _
        ∙ ap (converted (λ ms. of_members ms (put k d old)))
        (enough_members (value depth) (skip_value-shorter depth) (length ts - 1) (length r) r
        (omega (arith, less, fewer)) (omega arith))

    no_member : (k : List ℕ) (more : Parse json.Members) (o : Option (json.Json × List Token))
        → converted of_json o ≡ None
        → converted (λ ms. of_members ms old) (option_and_then (λ q. parse_map (json.member k q.0) (more q.1)) o)
        ≡ None
    no_member k more None e = refl
    no_member k more (Some q) e = without_member k q.0 old (refused q.1 (of_json q.0) e) (more q.1)

    no_members_in : (n : ℕ) (k : List ℕ) (ts s : List Token) → read_key ts ≡ Some (Some k, s)
        → value_at depth s ≡ None
        → converted (λ ms. of_members ms old) (members (value depth) n ts) ≡ None
    unfolding members
    no_members_in zero k ts s key e = refl
    no_members_in (suc n) k ts s key e = rw key (no_member k (members (value depth) n) (value depth s) e)

    pub member_refused : (k : List ℕ) (ts s : List Token) → read_key ts ≡ Some (Some k, s)
        → value_at depth s ≡ None
        → members_at depth old ts ≡ None
    member_refused k ts s = no_members_in (length ts) k ts s
