-- Strings under keys, as entries are added one by one.
use Rattle.std.proofs.Common.{◌≡◌, inl, inr, ℕ, ◌⊎◌, ◌++◌, [], ◌∷◌, Bool, true, false, List, Option, Some, None, if◌then◌else◌, is_some, option_and_then, option_map, bytes_eq, true≢false, refl, sym, ap, subst, ◌∙◌, ◌&&◌}
use Rattle.std.proofs.lemmas.Bool.{and_parts}
use Rattle.std.proofs.lemmas.Slice.Eq.{bytes_eq-Decides}
use Rattle.std.specs.List.{list_all}
use Rattle.serde_json.specs.Data.{Data, Members, object, no_members, put}
use Rattle.serde_json.specs.Find.{as_str, get_member}
use Rattle.json_reading.proofs.ObjectKeys.{set, kept, other_key}
use Rattle.unit_config.specs.KeyedTexts.{Keyed, are_told, has_text, is_told, last_from, last_of, text_at, text_of, HasTexts}
use Rattle.unit_config.specs.UnitValues.{AreNoTexts, AreTexts}

some_same : {A : Type 0} {a b : A} → Some a ≡ Some b → a ≡ b
some_same e = cc

some_none : {A : Type 0} {a : A} → None ≡ Some a → ⊥
some_none e = absurd (cc)

-- One entry more

last_push : (found : Option Keyed) (key : List ℕ) (entries : List Keyed) (e : Keyed)
    → last_from found key (entries ++ e ∷ []) ≡ (if bytes_eq e.key key then Some e else last_from found key entries)
last_push found key [] e = refl
last_push found key (x ∷ xs) e = last_push (if bytes_eq x.key key then Some x else found) key xs e

module _ (key : List ℕ) (value : Data) (ms : Members) (entries : List Keyed) (e : Keyed) (same : e.key ≡ key)
    (is : e.text ≡ as_str value) (h : HasTexts entries ms) where
  put_by : (q : List ℕ) (b : Bool) → bytes_eq e.key q ≡ b
      → option_map text_of (if b then Some e else last_of q entries)
      ≡ option_map as_str (get_member q (put key value ms))
  put_by q true eq =
      set (λ o. Some e.text ≡ option_map as_str o) q key value ms (sym same ∙ (bytes_eq-Decides e.key q).0 eq)
      (ap Some is)
  put_by q false eq =
      kept (λ o. option_map text_of (last_of q entries) ≡ option_map as_str o) q key value ms
      (λ f. other_key e.key q (sym eq) (same ∙ f)) (h q)

  pub texts_put : HasTexts (entries ++ e ∷ []) (put key value ms)
  texts_put q = ap (option_map text_of) (last_push None q entries e) ∙ put_by q (bytes_eq e.key q) refl

-- All entries that count are strings

module _ (all : List Keyed) where
  told_by : (found : Option Keyed) (key : List ℕ) (x e : Keyed) (b : Bool) → bytes_eq x.key key ≡ b
      → is_told all x ≡ true
      → ((if b then Some x else found) ≡ Some e) ⊎ ((e.key ≡ key) × (is_told all e ≡ true))
      → (found ≡ Some e) ⊎ ((e.key ≡ key) × (is_told all e ≡ true))
  told_by found key x e true eq told (inl s) =
      inr (
        subst (λ y. y.key ≡ key) (some_same s) ((bytes_eq-Decides x.key key).0 eq),
        subst (λ y. is_told all y ≡ true) (some_same s) told,
      )
  told_by found key x e false eq told (inl s) = inl s
  told_by found key x e true eq told (inr r) = inr r
  told_by found key x e false eq told (inr r) = inr r

  -- the last entry of a key was found before, or is told
  told_last : (found : Option Keyed) (key : List ℕ) (entries : List Keyed) (e : Keyed)
      → list_all (is_told all) entries ≡ true
      → last_from found key entries ≡ Some e
      → (found ≡ Some e) ⊎ ((e.key ≡ key) × (is_told all e ≡ true))
  told_last found key [] e each is = inl is
  told_last found key (x ∷ xs) e each is =
      let parts = and_parts (is_told all x) (list_all (is_told all) xs) each in
      told_by found key x e (bytes_eq x.key key) refl parts.0
      (told_last (if bytes_eq x.key key then Some x else found) key xs e parts.1 is)

  -- an entry that is told, and is the last of its key, is a string
  is_string : (e : Keyed) (b : Bool) → is_some e.text ≡ b
      → (if b then true else has_text (last_of e.key all)) ≡ true
      → last_of e.key all ≡ Some e
      → is_some e.text ≡ true
  is_string e true eq told last = eq
  is_string e false eq told last = sym (ap has_text last) ∙ told

  last_is : (key : List ℕ) (o : Option Keyed) → last_of key all ≡ o → are_told all ≡ true → has_text o ≡ true
  last_is key None eq each = refl
  last_is key (Some e) eq each = found (told_last None key all e each eq)
    where
      found : (None ≡ Some e) ⊎ ((e.key ≡ key) × (is_told all e ≡ true)) → is_some e.text ≡ true
      found (inl n) = absurd (some_none n)
      found (inr r) =
          is_string e (is_some e.text) refl r.1 (ap (λ k. last_of k all) r.0 ∙ eq)

  last_untold : (o : Option Keyed) → has_text o ≡ false → option_map text_of o ≡ Some None
  last_untold None e = absurd (true≢false e)
  last_untold (Some l) e = ap Some (no_text l.text e)
    where
      no_text : (t : Option (List ℕ)) → is_some t ≡ false → t ≡ None
      no_text None e = refl
      no_text (Some t) e = absurd (true≢false e)

  is_untold : (x : Keyed) (b : Bool) → (if b then true else has_text (last_of x.key all)) ≡ false
      → option_map text_of (last_of x.key all) ≡ Some None
  is_untold x true e = absurd (true≢false e)
  is_untold x false e = last_untold (last_of x.key all) e

  abbrev HasUntold : Type 0
  HasUntold = (key : List ℕ) × (option_map text_of (last_of key all) ≡ Some None)

  one_by : (x : Keyed) (rest : Bool) → (rest ≡ false → HasUntold) → (b : Bool) → is_told all x ≡ b
      → (b && rest) ≡ false
      → HasUntold
  one_by x rest of_rest true eq e = of_rest e
  one_by x rest of_rest false eq e = (x.key, is_untold x (is_some x.text) eq)

  -- else an entry that counts is none
  one_untold : (entries : List Keyed) → list_all (is_told all) entries ≡ false → HasUntold
  one_untold [] e = absurd (true≢false e)
  one_untold (x ∷ xs) e = one_by x (list_all (is_told all) xs) (one_untold xs) (is_told all x) refl e

texts_told : (o : Option Keyed) → has_text o ≡ true
    → option_map text_of o ≡ option_map Some (option_and_then text_of o)
texts_told None e = refl
texts_told (Some l) e = by l.text e
  where
    by : (t : Option (List ℕ)) → is_some t ≡ true → Some t ≡ option_map Some t
    by None e = absurd (true≢false (sym e))
    by (Some t) e = refl

module _ (entries : List Keyed) (ms : Members) (h : HasTexts entries ms) where
  pub are_texts : are_told entries ≡ true → AreTexts (object ms) (text_at entries)
  are_texts each = (
    ms,
    refl,
    λ key. sym (h key) ∙ texts_told (last_of key entries) (last_is entries key (last_of key entries) refl each),
  )

  pub are_no_texts : are_told entries ≡ false → AreNoTexts (object ms)
  are_no_texts each =
      let one = one_untold entries entries each in inr (ms, refl, one.0, sym (h one.0) ∙ one.1)

pub no_entries : (entries : List Keyed) → entries ≡ [] → HasTexts entries no_members
no_entries entries none key = ap (λ es. option_map text_of (last_of key es)) none
