-- What is read of import paths: an object of strings, as a map in the order of its keys.
use Rattle.std.proofs.Common.{◌≡◌, ℕ, List, [], ◌∷◌, ◌++◌, Option, Some, None, String, Global, map, option_and_then, option_map, string_bytes, string_cmp, refl, sym, ap, ◌∙◌, subst}
use Rattle.std.proofs.lemmas.List.{append-nil, append_assoc}
use Rattle.std.specs.BTreeMap.{insert_entry}
use Rattle.std.specs.declared.cmp.Ordering.{Ordering}
use Rattle.std.specs.declared.cmp.Ordering.TheVariants.{Less, Equal, Greater}
use Rattle.std.specs.Ordering.{match_ordering}
use Rattle.serde_json.specs.Data.{Data, object, Members, no_members, member, put}
use Rattle.serde_json.specs.Find.{as_object, as_str}
use Rattle.package_list.specs.ListedValues.{ImportEntry, imports_of, imports_in, imports_under}
use Rattle.package_list.specs.ListRead.{KeyedText, all_told, kept_text, texts_there}

abbrev Kept : Type 0
Kept = String Global × Option (String Global)

first_of : (a b : KeyedText) (more others : List KeyedText) → a ∷ more ≡ b ∷ others → a ≡ b
first_of a b more others e = cc

rest_of : (a b : KeyedText) (more others : List KeyedText) → a ∷ more ≡ b ∷ others → more ≡ others
rest_of a b more others e = cc

-- one more key, in its place or in that of an equal one
pub put_kept : (key : String Global) (text : Option (String Global)) (value : Data) (kept : List Kept) (ms : Members)
    → option_map string_bytes text ≡ as_str value
    → map kept_text kept ≡ texts_there ms
    → map kept_text (insert_entry string_cmp kept key text) ≡ texts_there (put (string_bytes key) value ms)
put_kept key text value [] no_members is same = λ i. (string_bytes key, is i) ∷ []
put_kept key text value [] (member l e ms) is same = let bad : [] ≡ (l, as_str e) ∷ texts_there ms = same in cc
put_kept key text value (k ∷ kept) no_members is same = let bad : kept_text k ∷ map kept_text kept ≡ [] = same in cc
put_kept key text value (k ∷ kept) (member l e ms) is same =
    let first = first_of (kept_text k) (l, as_str e) (map kept_text kept) (texts_there ms) same in
    let others = rest_of (kept_text k) (l, as_str e) (map kept_text kept) (texts_there ms) same in
    subst (λ (q : List ℕ). map kept_text (insert_entry string_cmp (k ∷ kept) key text) ≡ texts_there (put (string_bytes key) value (member q e ms)))
    (ap (λ (t : KeyedText). t.0) first)
    (by (string_cmp key k.0) (λ i. (string_bytes k.0, (first i).1)) others (put_kept key text value kept ms is others))
  where
    by : (o : Ordering)
        → kept_text k ≡ (string_bytes k.0, as_str e)
        → map kept_text kept ≡ texts_there ms
        → map kept_text (insert_entry string_cmp kept key text) ≡ texts_there (put (string_bytes key) value ms)
        → map kept_text (match_ordering o ((key, text) ∷ k ∷ kept) ((k.0, text) ∷ kept) (k ∷ insert_entry string_cmp kept key text))
        ≡ texts_there (match_ordering o (member (string_bytes key) value (member (string_bytes k.0) e ms))
        (member (string_bytes k.0) value ms) (member (string_bytes k.0) e (put (string_bytes key) value ms)))
    by Less own others rest = λ i. (string_bytes key, is i) ∷ own i ∷ others i
    by Equal own others rest = λ i. (string_bytes k.0, is i) ∷ others i
    by Greater own others rest = λ i. own i ∷ rest i

-- all that was read is what the object says
pub told_of : (ms : Members) → all_told (texts_there ms) ≡ imports_of ms
told_of no_members = refl
told_of (member k e ms) =
    ap (λ (rest : Option (List ImportEntry)). option_and_then (λ s. option_map (λ is. record { written = k; meant = s } ∷ is) rest) (as_str e))
    (told_of ms)

-- what is no object says nothing
pub no_imports : (value : Data) → as_object value ≡ None → None ≡ imports_under (Some value)
no_imports value none = sym (ap (option_and_then imports_of) none)

-- One after another

abbrev behind : List ImportEntry → Option (List ImportEntry) → Option (List ImportEntry)
behind so_far = option_map (λ rest. so_far ++ rest)

-- those so far, with those that are left, are all
abbrev pub ToldSo : List Kept → List ImportEntry → List Kept → Type 0
ToldSo all so_far left = behind so_far (all_told (map kept_text left)) ≡ all_told (map kept_text all)

behind_none : (o : Option (List ImportEntry)) → behind [] o ≡ o
behind_none None = refl
behind_none (Some is) = refl

pub told_none : (all left : List Kept) (so_far : List ImportEntry) → so_far ≡ [] → left ≡ all → ToldSo all so_far left
told_none all left so_far none same =
    (λ i. behind (none i) (all_told (map kept_text (same i)))) ∙ behind_none (all_told (map kept_text all))

one_behind : (so_far : List ImportEntry) (one : ImportEntry) (o : Option (List ImportEntry))
    → behind (so_far ++ one ∷ []) o ≡ behind so_far (option_map (λ rest. one ∷ rest) o)
one_behind so_far one None = refl
one_behind so_far one (Some is) = ap Some (append_assoc so_far (one ∷ []) is)

pub told_next : (all before left : List Kept) (so_far next : List ImportEntry) (key meant : String Global)
    → before ≡ (key, Some meant) ∷ left
    → next ≡ so_far ++ record { written = string_bytes key; meant = string_bytes meant } ∷ []
    → ToldSo all so_far before
    → ToldSo all next left
told_next all before left so_far next key meant is more so =
    (λ i. behind (more i) (all_told (map kept_text left)))
    ∙ (one_behind so_far (record { written = string_bytes key; meant = string_bytes meant }) (all_told (map kept_text left))
    ∙ ((λ i. behind so_far (all_told (map kept_text (sym is i)))) ∙ so))

pub told_all : (all left : List Kept) (so_far : List ImportEntry) → left ≡ [] → ToldSo all so_far left
    → Some so_far ≡ all_told (map kept_text all)
told_all all left so_far none so =
    ap Some (sym (append-nil so_far)) ∙ ((λ i. behind so_far (all_told (map kept_text (sym none i)))) ∙ so)

-- one that is no string
pub told_not : (all before left : List Kept) (so_far : List ImportEntry) (key : String Global) → before ≡ (key, None) ∷ left
    → ToldSo all so_far before
    → None ≡ all_told (map kept_text all)
told_not all before left so_far key is so = (λ i. behind so_far (all_told (map kept_text (sym is i)))) ∙ so
