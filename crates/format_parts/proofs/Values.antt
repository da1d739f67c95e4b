-- The text of a JSON value with what follows it, part by part.
use Rattle.std.proofs.Common.{◌≡◌, ℕ, ◌+◌, ◌<◌, ◌≤◌, List, [], ◌∷◌, ◌++◌, length, get_or, drop, map, flat_map, Bool, true, false, refl, sym, ap, ◌∙◌}
use Rattle.std.proofs.lemmas.List.{append_assoc, append-nil, drop_more, drop_all}
use Rattle.json.specs.Token.{Token}
use Rattle.json.specs.Print.{escape, quoted, token_text}
use Rattle.serde_json.specs.Data.{Data, null, boolean, number, string, array, object, Items, no_items, item, Members, no_members, member}
use Rattle.serde_json.specs.Written.{number_text, comma_if, compact_text, items_text, members_text}
use Rattle.format_parts.specs.Objects.{items_of, members_of, object_of}
use Rattle.format_parts.specs.Pieces.{listed, members_listed, opened, after_results}

-- texts one behind another, and then the rest
abbrev pub joined : List (List ℕ) → List ℕ → List ℕ
joined [] rest = rest
joined (t ∷ ts) rest = t ++ joined ts rest

pub joined_then : (ts : List (List ℕ)) (rest : List ℕ) → joined ts [] ++ rest ≡ joined ts rest
joined_then [] rest = refl
joined_then (t ∷ ts) rest = append_assoc t (joined ts []) rest ∙ ap (λ x. t ++ x) (joined_then ts rest)

-- the text of a value and the rest
abbrev mutual
  pub value_then : Data → List ℕ → List ℕ
  value_then null rest = token_text Token.null ++ rest
  value_then (boolean b) rest = token_text (Token.boolean b) ++ rest
  value_then (number n) rest = number_text n ++ rest
  value_then (string s) rest = 34 ∷ (escape s ++ 34 ∷ rest)
  value_then (array ds) rest = 91 ∷ items_then false ds rest
  value_then (object ms) rest = 123 ∷ members_then false ms rest

  pub items_then : Bool → Items → List ℕ → List ℕ
  items_then later no_items rest = 93 ∷ rest
  items_then later (item d ds) rest = comma_if later ++ value_then d (items_then true ds rest)

  pub members_then : Bool → Members → List ℕ → List ℕ
  members_then later no_members rest = 125 ∷ rest
  members_then later (member k d ms) rest = comma_if later ++ (34 ∷ (escape k ++ 34 ∷ 58 ∷ value_then d (members_then true ms rest)))

member_parts : (k c m rest : List ℕ) → (quoted k ++ 58 ∷ (c ++ m)) ++ rest ≡ 34 ∷ (escape k ++ 34 ∷ 58 ∷ (c ++ (m ++ rest)))
member_parts k c m rest =
    ap (λ t. 34 ∷ t)
    (append_assoc (escape k ++ 34 ∷ []) (58 ∷ (c ++ m)) rest
    ∙ (append_assoc (escape k) (34 ∷ []) (58 ∷ ((c ++ m) ++ rest)) ∙ ap (λ t. escape k ++ 34 ∷ 58 ∷ t) (append_assoc c m rest)))

mutual
  pub value_then_is : (d : Data) (rest : List ℕ) → compact_text d ++ rest ≡ value_then d rest
  value_then_is null rest = refl
  value_then_is (boolean b) rest = refl
  value_then_is (number n) rest = refl
  value_then_is (string s) rest = ap (λ t. 34 ∷ t) (append_assoc (escape s) (34 ∷ []) rest)
  value_then_is (array ds) rest = ap (λ t. 91 ∷ t) (items_then_is false ds rest)
  value_then_is (object ms) rest = ap (λ t. 123 ∷ t) (members_then_is false ms rest)

  items_then_is : (later : Bool) (ds : Items) (rest : List ℕ) → items_text later ds ++ rest ≡ items_then later ds rest
  items_then_is later no_items rest = refl
  items_then_is later (item d ds) rest =
      append_assoc (comma_if later) (compact_text d ++ items_text true ds) rest
      ∙ ap (λ t. comma_if later ++ t)
      (append_assoc (compact_text d) (items_text true ds) rest
      ∙ (value_then_is d (items_text true ds ++ rest) ∙ ap (value_then d) (items_then_is true ds rest)))

  pub members_then_is : (later : Bool) (ms : Members) (rest : List ℕ) → members_text later ms ++ rest ≡ members_then later ms rest
  members_then_is later no_members rest = refl
  members_then_is later (member k d ms) rest =
      append_assoc (comma_if later) (quoted k ++ 58 ∷ (compact_text d ++ members_text true ms)) rest
      ∙ ap (λ t. comma_if later ++ t)
      (member_parts k (compact_text d) (members_text true ms) rest
      ∙ ap (λ t. 34 ∷ (escape k ++ 34 ∷ 58 ∷ t)) (value_then_is d (members_text true ms ++ rest) ∙ ap (value_then d) (members_then_is true ms rest)))

-- a value alone
pub value_is : (d : Data) → compact_text d ≡ value_then d []
value_is d = sym (append-nil (compact_text d)) ∙ value_then_is d []

-- the text of members and the rest
abbrev pub listed_then : Bool → List (List ℕ × Data) → List ℕ → List ℕ
listed_then later [] rest = rest
listed_then later (m ∷ ms) rest =
    comma_if later ++ (34 ∷ (escape m.0 ++ 34 ∷ 58 ∷ value_then m.1 (listed_then true ms rest)))

pub listed_then_is : (later : Bool) (ms : List (List ℕ × Data)) (rest : List ℕ)
    → members_listed later ms ++ rest ≡ listed_then later ms rest
listed_then_is later [] rest = refl
listed_then_is later (m ∷ ms) rest =
    append_assoc (comma_if later) (quoted m.0 ++ 58 ∷ (compact_text m.1 ++ members_listed true ms)) rest
    ∙ ap (λ t. comma_if later ++ t)
    (member_parts m.0 (compact_text m.1) (members_listed true ms) rest
    ∙ ap (λ t. 34 ∷ (escape m.0 ++ 34 ∷ 58 ∷ t))
    (value_then_is m.1 (members_listed true ms ++ rest) ∙ ap (value_then m.1) (listed_then_is true ms rest)))

-- the same alone
pub listed_is : (later : Bool) (ms : List (List ℕ × Data)) → members_listed later ms ≡ listed_then later ms []
listed_is later ms = sym (append-nil (members_listed later ms)) ∙ listed_then_is later ms []

-- members in two parts
pub listed_then_parts : (ms more : List (List ℕ × Data)) (rest : List ℕ)
    → listed_then true (ms ++ more) rest ≡ listed_then true ms (listed_then true more rest)
listed_then_parts [] more rest = refl
listed_then_parts (m ∷ ms) more rest =
    ap (λ t. comma_if true ++ (34 ∷ (escape m.0 ++ 34 ∷ 58 ∷ value_then m.1 t))) (listed_then_parts ms more rest)

-- an object without its last brace, and the rest
pub opened_then : (later : Bool) (ms : List (List ℕ × Data)) (rest : List ℕ)
    → opened later ms ++ rest ≡ comma_if later ++ 123 ∷ listed_then false ms rest
opened_then later ms rest =
    append_assoc (comma_if later) (123 ∷ members_listed false ms) rest
    ∙ ap (λ t. comma_if later ++ 123 ∷ t) (listed_then_is false ms rest)

-- the same alone
pub opened_is : (later : Bool) (ms : List (List ℕ × Data)) → opened later ms ≡ comma_if later ++ 123 ∷ listed_then false ms []
opened_is later ms = sym (append-nil (opened later ms)) ∙ opened_then later ms []

pub regroup : (a b c d : List ℕ) → a ++ (b ++ (c ++ d)) ≡ (a ++ (b ++ c)) ++ d
regroup a b c d = sym (append_assoc a (b ++ c) d ∙ ap (λ t. a ++ t) (append_assoc b c d))

-- a list's values, its bracket, and the rest
pub items_then_listed : (later : Bool) (ds : List Data) (rest : List ℕ) → items_then later (items_of ds) rest ≡ listed later ds ++ 93 ∷ rest
items_then_listed later [] rest = refl
items_then_listed later (d ∷ ds) rest =
    ap (λ t. comma_if later ++ t) (ap (value_then d) (items_then_listed true ds rest) ∙ sym (value_then_is d (listed true ds ++ 93 ∷ rest)))
    ∙ regroup (comma_if later) (compact_text d) (listed true ds) (93 ∷ rest)

after_true : {X : Type 0} (ds : List X) → after_results true ds ≡ true
after_true [] = refl
after_true (d ∷ ds) = refl

-- members in two parts
members_parts : (later : Bool) (ms more : List (List ℕ × Data)) (rest : List ℕ)
    → members_then later (members_of (ms ++ more)) rest
    ≡ listed_then later ms (members_then (after_results later ms) (members_of more) rest)
members_parts later [] more rest = refl
members_parts later (m ∷ ms) more rest =
    ap (λ t. comma_if later ++ (34 ∷ (escape m.0 ++ 34 ∷ 58 ∷ value_then m.1 t)))
    (members_parts true ms more rest
    ∙ ap (λ b. listed_then true ms (members_then b (members_of more) rest)) (after_true ms))

-- an object behind its comma: the members that are put first, and the rest
pub object_parts : (later : Bool) (ms more : List (List ℕ × Data))
    → comma_if later ++ compact_text (object_of (ms ++ more))
    ≡ opened later ms ++ members_then (after_results false ms) (members_of more) []
object_parts later ms more =
    ap (λ t. comma_if later ++ t) (value_is (object_of (ms ++ more)))
    ∙ (ap (λ t. comma_if later ++ 123 ∷ t) (members_parts false ms more [])
    ∙ sym (opened_then later ms (members_then (after_results false ms) (members_of more) [])))

-- members behind others, in two parts
pub more_parts : (ms more : List (List ℕ × Data)) (rest : List ℕ)
    → members_then true (members_of (ms ++ more)) rest
    ≡ members_listed true ms ++ members_then true (members_of more) rest
more_parts ms more rest =
    members_parts true ms more rest
    ∙ (ap (λ b. listed_then true ms (members_then b (members_of more) rest)) (after_true ms)
    ∙ sym (listed_then_is true ms (members_then true (members_of more) rest)))

-- the last members, and the object's brace
pub last_parts : (ms : List (List ℕ × Data)) (rest : List ℕ)
    → members_then true (members_of ms) rest ≡ members_listed true ms ++ 125 ∷ rest
last_parts ms rest = ap (λ l. members_then true (members_of l) rest) (sym (append-nil ms)) ∙ more_parts ms [] rest

-- the next value of a list that is seen through f
pub next_listed : {X : Type 0} (f : X → Data) (later : Bool) (xs : List X) (i : ℕ) (d : X) → i < length xs → listed later (map f (drop i xs)) ≡ (comma_if later ++ compact_text (f (get_or xs i d))) ++ listed true (map f (drop (i + 1) xs))
next_listed f later xs i d inside =
    ap (λ l. listed later (map f l)) (drop_more xs i d inside)
    ∙ sym (append_assoc (comma_if later) (compact_text (f (get_or xs i d))) (listed true (map f (drop (i + 1) xs))))

-- the same of an element that is known by itself
pub next_item : {X : Type 0} (f : X → Data) (later : Bool) (xs : List X) (i : ℕ) (x : X) → i < length xs → x ≡ get_or xs i x → listed later (map f (drop i xs)) ≡ (comma_if later ++ compact_text (f x)) ++ listed true (map f (drop (i + 1) xs))
next_item f later xs i x inside there =
    next_listed f later xs i x inside ∙ ap (λ y. (comma_if later ++ compact_text (f y)) ++ listed true (map f (drop (i + 1) xs))) (sym there)

-- a list in two parts
pub listed_append : (later : Bool) (ds es : List Data) → listed later (ds ++ es) ≡ listed later ds ++ listed (after_results later ds) es
listed_append later [] es = refl
listed_append later (d ∷ ds) es =
    ap (λ t. comma_if later ++ (compact_text d ++ t)) (listed_append true ds es ∙ ap (λ b. listed true ds ++ listed b es) (after_true ds))
    ∙ regroup (comma_if later) (compact_text d) (listed true ds) (listed true es)

after_mapped : {X : Type 0} (f : X → Data) (later : Bool) (ds : List X) → after_results later (map f ds) ≡ after_results later ds
after_mapped f later [] = refl
after_mapped f later (d ∷ ds) = refl

-- the values of the next element, where each has several, one for each diagnostic
pub next_values : {X Y : Type 0} (several : X → List Data) (later : Bool) (xs : List X) (i : ℕ) (x : X) (f : Y → Data) (ds : List Y) → i < length xs → x ≡ get_or xs i x → several x ≡ map f ds → listed later (flat_map several (drop i xs)) ≡ listed later (map f ds) ++ listed (after_results later ds) (flat_map several (drop (i + 1) xs))
next_values several later xs i x f ds inside there are =
    let rest = flat_map several (drop (i + 1) xs) in
    ap (λ l. listed later (flat_map several l)) (drop_more xs i x inside)
    ∙ (ap (λ y. listed later (several y ++ rest)) (sym there)
    ∙ (ap (λ ys. listed later (ys ++ rest)) are
    ∙ (listed_append later (map f ds) rest ∙ ap (λ b. listed later (map f ds) ++ listed b rest) (after_mapped f later ds))))

-- a list that was gone through to its end
pub none_listed : {X : Type 0} (f : X → Data) (later : Bool) (xs : List X) (i : ℕ) → length xs ≤ i → listed later (map f (drop i xs)) ≡ []
none_listed f later xs i over = ap (λ l. listed later (map f l)) (drop_all i xs over)

pub none_several : {X : Type 0} (several : X → List Data) (later : Bool) (xs : List X) (i : ℕ) → length xs ≤ i → listed later (flat_map several (drop i xs)) ≡ []
none_several several later xs i over = ap (λ l. listed later (flat_map several l)) (drop_all i xs over)
