-- Locals that are added one by one to a map in which the first of each name in its block counts.
use Rattle.std.proofs.Common.{◌≡◌, ℕ, Bor, Bool, true, false, ◌&&◌, ◌||◌, nat_eq, nat_le, cond, Option, None, Some, is_some, List, [], ◌∷◌, ◌++◌, length, take, get_or, slice_get, option_map, ◌+◌, ◌<◌, All, refl, sym, ap, ◌∙◌, subst}
use Rattle.std.specs.Str.{bytes_eq}
use Rattle.std.specs.List.{list_any, AllByRecursion, IsDistinct}
use Rattle.std.specs.Map.{lookup, keys_of, values_of}
use Rattle.std.specs.Cmp.{IsEquivalence}
use Rattle.std.proofs.lemmas.Cmp.{nat_eq_equiv, nat_list_eq_equiv, on_equiv, and_equiv}
use Rattle.std.proofs.lemmas.Bool.{cond-true, cond-false, or_left, or_right, or_from}
use Rattle.std.proofs.Math.Bool.{or-false}
use Rattle.std.proofs.lemmas.List.{append-nil, map-append, take_more}
use Rattle.std.proofs.lemmas.List.Elements.{All-nil, All-head, All-tail, All-push}
use Rattle.std.proofs.lemmas.Option.{slice_get-map}
use Rattle.scopes.specs.declared.naming.LocalName.{LocalName as KeptLocal}
use Rattle.scopes.specs.declared.naming.Naming.{Naming as KeptNaming}
use Rattle.scopes.specs.declared.naming.Naming.TheVariants.{Use, Declaration}
use Rattle.scopes.specs.Views.{local_view, naming_view, namings_view}
use Rattle.meaning.specs.Scopes.{LocalName, Naming, uses_name, declares_name}
use Rattle.meaning.specs.Declarations.{same_name_and_block, without, locals_of, first_locals, is_in_scope}
use Rattle.indexmap.specs.IndexMap.{IndexMap, get_by, insert_entry}
use Rattle.indexmap.proofs.CallerLemmas.{insert_entry-new}
use Rattle.names.specs.Ordered.{AreFirst, FitsKey, locals_view}

none_of : {A : Type 0} (o : Option A) → is_some o ≡ false → o ≡ None
none_of None e = refl
none_of (Some a) e = cc

same_laws : IsEquivalence same_name_and_block
same_laws = and_equiv (on_equiv (λ l. l.name) nat_list_eq_equiv) (on_equiv (λ l. l.block.start) nat_eq_equiv)

-- one of the locals has the name and the block of this one
abbrev pub has : LocalName → List LocalName → Bool
has l ls = list_any (λ m. same_name_and_block m l) ls

-- this one at the end, unless one of its name and block is there
abbrev pub with_last : List LocalName → LocalName → List LocalName
with_last ls l = cond (has l ls) ls (ls ++ l ∷ [])

without_append : (x : LocalName) (ls ms : List LocalName) → without x (ls ++ ms) ≡ without x ls ++ without x ms
without_append x [] ms = refl
without_append x (l ∷ ls) ms = by (same_name_and_block x l) (without_append x ls ms)
  where
    by : (b : Bool) → without x (ls ++ ms) ≡ without x ls ++ without x ms
        → cond b (without x (ls ++ ms)) (l ∷ without x (ls ++ ms)) ≡ cond b (without x ls) (l ∷ without x ls) ++ without x ms
    by true rest = rest
    by false rest = ap (λ r. l ∷ r) rest

has_without : (x l : LocalName) (ls : List LocalName) → same_name_and_block x l ≡ false → has l (without x ls) ≡ has l ls
has_without x l [] e = refl
has_without x l (m ∷ ls) e = by (same_name_and_block x m) refl (has_without x l ls e)
  where
    by : (b : Bool) → same_name_and_block x m ≡ b → has l (without x ls) ≡ has l ls
        → has l (cond b (without x ls) (m ∷ without x ls)) ≡ (same_name_and_block m l || has l ls)
    by true k rest = rest ∙ sym (ap (λ b. b || has l ls) (sym (same_laws.congr x m l k) ∙ e))
    by false k rest = ap (λ b. same_name_and_block m l || b) rest

step : (x l : LocalName) (ls : List LocalName) → x ∷ without x (with_last ls l) ≡ with_last (x ∷ without x ls) l
step x l ls = by (same_name_and_block x l) (has l ls) refl refl
  where
    last_left : same_name_and_block x l ≡ true → without x (ls ++ l ∷ []) ≡ without x ls
    last_left e = without_append x ls (l ∷ []) ∙ ap (λ r. without x ls ++ r) (cond-true _ [] (l ∷ []) e) ∙ append-nil (without x ls)

    last_kept : same_name_and_block x l ≡ false → without x (ls ++ l ∷ []) ≡ without x ls ++ l ∷ []
    last_kept e = without_append x ls (l ∷ []) ∙ ap (λ r. without x ls ++ r) (cond-false _ [] (l ∷ []) e)

    by : (b c : Bool) → same_name_and_block x l ≡ b → has l ls ≡ c → x ∷ without x (with_last ls l) ≡ with_last (x ∷ without x ls) l
    by true true e k =
        ap (λ r. x ∷ without x r) (cond-true _ ls (ls ++ l ∷ []) k) ∙ sym (cond-true _ (x ∷ without x ls) _ (or_left _ (has l (without x ls)) e))
    by true false e k =
        ap (λ r. x ∷ without x r) (cond-false _ ls (ls ++ l ∷ []) k)
        ∙ ap (λ r. x ∷ r) (last_left e)
        ∙ sym (cond-true _ (x ∷ without x ls) _ (or_left _ (has l (without x ls)) e))
    by false true e k =
        ap (λ r. x ∷ without x r) (cond-true _ ls (ls ++ l ∷ []) k)
        ∙ sym (cond-true _ (x ∷ without x ls) _ (or_right (same_name_and_block x l) _ (has_without x l ls e ∙ k)))
    by false false e k =
        ap (λ r. x ∷ without x r) (cond-false _ ls (ls ++ l ∷ []) k)
        ∙ ap (λ r. x ∷ r) (last_kept e)
        ∙ sym (cond-false _ (x ∷ without x ls) _ (or_from _ (has l (without x ls)) e (has_without x l ls e ∙ k)))

-- one more local counts if it is the first of its name and block
pub first_locals_last : (ls : List LocalName) (l : LocalName) → first_locals (ls ++ l ∷ []) ≡ with_last (first_locals ls) l
unfolding first_locals
first_locals_last [] l = refl
first_locals_last (x ∷ ls) l = ap (λ r. x ∷ without x r) (first_locals_last ls l) ∙ step x l (first_locals ls)

-- the map's keys

abbrev pub Key : Type 0
Key = Bor (List ℕ) × ℕ

abbrev pub key_same : Key → Key → Bool
key_same a b = bytes_eq a.0.now b.0.now && nat_eq a.1 b.1

abbrev pub key_of : KeptLocal → Key
key_of l = (l.name, l.block.start)

key_laws : IsEquivalence key_same
key_laws = and_equiv (on_equiv (λ k. k.0.now) nat_list_eq_equiv) (on_equiv (λ k. k.1) nat_eq_equiv)

-- at an entry that fits its key, the keys are compared as the locals are
key_tells : (l : KeptLocal) (e : Key × KeptLocal) → FitsKey e → key_same (key_of l) e.0 ≡ same_name_and_block (local_view e.1) (local_view l)
key_tells l e fit =
    (λ i. bytes_eq l.name.now (fit.0 i) && nat_eq l.block.start (fit.1 i)) ∙ same_laws.symm (local_view l) (local_view e.1)

pub has_tells :
    (l : KeptLocal) (es : List (Key × KeptLocal)) → All FitsKey es
    → is_some (lookup (key_same (key_of l)) es) ≡ has (local_view l) (locals_view (values_of es))
has_tells l [] fit = refl
has_tells l (e ∷ es) fit =
    by (key_same (key_of l) e.0) ∙ (λ i. key_tells l e (All-head FitsKey e es fit) i || has_tells l es (All-tail FitsKey e es fit) i)
  where
    by : (b : Bool) → is_some (cond b (Some e.1) (lookup (key_same (key_of l)) es)) ≡ (b || is_some (lookup (key_same (key_of l)) es))
    by true = refl
    by false = refl

-- what the look-up of a key says of the locals

abbrev begun : KeptLocal → Option KeptLocal → Bool
begun l None = false
begun l (Some m) = nat_le m.from l.number

-- a key that is like the first one is none of those that follow it
none_after :
    (k first : Key) (es : List (Key × KeptLocal)) → key_same k first ≡ true → AllByRecursion (λ other. key_same first other ≡ false) (keys_of es)
    → lookup (key_same k) es ≡ None
none_after k first [] e apart = refl
none_after k first (x ∷ es) e apart =
    cond-false _ (Some x.1) (lookup (key_same k) es) (key_laws.congr k first x.0 e ∙ apart.0) ∙ none_after k first es e apart.1

scope_tells :
    (l : KeptLocal) (es : List (Key × KeptLocal)) → All FitsKey es → IsDistinct key_same (keys_of es)
    → is_in_scope (local_view l) (locals_view (values_of es)) ≡ begun l (lookup (key_same (key_of l)) es)
unfolding IsDistinct
scope_tells l [] fit unique = refl
scope_tells l (e ∷ es) fit unique =
    (λ i. (sym (key_tells l e (All-head FitsKey e es fit)) i && nat_le e.1.from l.number) || scope_tells l es (All-tail FitsKey e es fit) unique.1 i)
    ∙ by (key_same (key_of l) e.0) refl
  where
    by : (b : Bool) → key_same (key_of l) e.0 ≡ b
        → ((b && nat_le e.1.from l.number) || begun l (lookup (key_same (key_of l)) es))
        ≡ begun l (cond b (Some e.1) (lookup (key_same (key_of l)) es))
    by true k = ap (λ o. nat_le e.1.from l.number || begun l o) (none_after (key_of l) e.0 es k unique.0) ∙ or-false (nat_le e.1.from l.number)
    by false k = refl

module _ (l : KeptLocal) (es : List (Key × KeptLocal)) (fit : All FitsKey es) (unique : IsDistinct key_same (keys_of es)) where
  pub none_in_scope : is_some (lookup (key_same (key_of l)) es) ≡ false → false ≡ is_in_scope (local_view l) (locals_view (values_of es))
  none_in_scope e = sym (scope_tells l es fit unique ∙ ap (begun l) (none_of _ e))

  pub one_in_scope :
      (i : ℕ) (k : Key) (first : KeptLocal) → slice_get (values_of es) i ≡ lookup (key_same (key_of l)) es → slice_get es i ≡ Some (k, first)
      → nat_le first.from l.number ≡ is_in_scope (local_view l) (locals_view (values_of es))
  one_in_scope i k first found entry =
      sym (scope_tells l es fit unique ∙ ap (begun l) (sym found ∙ slice_get-map (λ e. e.1) es i ∙ ap (option_map (λ e. e.1)) entry))

-- adding a local to the map

module _ {S : Type 0} (old : IndexMap Key KeptLocal S) (l : KeptLocal) (before : List LocalName) (all : AreFirst old before) where
  seen : is_some (get_by (key_same (key_of l)) old) ≡ has (local_view l) (first_locals before)
  seen = has_tells l old.entries all.fit ∙ ap (has (local_view l)) all.first

  pub first_again : is_some (get_by (key_same (key_of l)) old) ≡ true → AreFirst old (before ++ local_view l ∷ [])
  first_again there =
      record {
        first = all.first ∙ sym (first_locals_last before (local_view l) ∙ cond-true _ (first_locals before) _ (sym seen ∙ there));
        fit = all.fit;
      }

  pub first_added :
      (new : IndexMap Key KeptLocal S) → is_some (get_by (key_same (key_of l)) old) ≡ false
      → new.entries ≡ insert_entry key_same old.entries (key_of l) l → AreFirst new (before ++ local_view l ∷ [])
  first_added new there inserted =
      let pushed = inserted ∙ insert_entry-new key_same old (key_of l) l (none_of _ there) in
      record {
        first =
            ap (λ es. locals_view (values_of es)) pushed
            ∙ ap locals_view (map-append (λ e. e.1) old.entries ((key_of l, l) ∷ []))
            ∙ map-append local_view (values_of old.entries) (l ∷ [])
            ∙ ap (λ ls. ls ++ local_view l ∷ []) all.first
            ∙ sym (first_locals_last before (local_view l) ∙ cond-false _ (first_locals before) _ (sym seen ∙ there));
        fit = subst (All FitsKey) (sym pushed) (All-push FitsKey old.entries (key_of l, l) all.fit (refl, refl));
      }

pub none_yet : {S : Type 0} (m : IndexMap Key KeptLocal S) → m.entries ≡ [] → AreFirst m []
unfolding first_locals
none_yet m e =
    record {
      first = ap (λ es. locals_view (values_of es)) e;
      fit = subst (All FitsKey) (sym e) (All-nil FitsKey);
    }

-- the locals of some namings and of the next one

locals_append : (ms ns : List Naming) → locals_of (ms ++ ns) ≡ locals_of ms ++ locals_of ns
locals_append [] ns = refl
locals_append (uses_name name at ∷ ms) ns = locals_append ms ns
locals_append (declares_name l ∷ ms) ns = ap (λ r. l ∷ r) (locals_append ms ns)

module _ (ns : List KeptNaming) (i : ℕ) (d : KeptNaming) (below : i < length ns) where
  taken :
      (n : KeptNaming) → get_or ns i d ≡ n
      → locals_of (namings_view (take (i + 1) ns)) ≡ locals_of (namings_view (take i ns)) ++ locals_of (naming_view n ∷ [])
  taken n e =
      ap (λ r. locals_of (namings_view r)) (take_more ns i d below)
      ∙ ap locals_of (map-append naming_view (take i ns) (get_or ns i d ∷ []))
      ∙ locals_append (namings_view (take i ns)) (naming_view (get_or ns i d) ∷ [])
      ∙ ap (λ r. locals_of (namings_view (take i ns)) ++ locals_of (naming_view r ∷ [])) e

  module _ {S : Type 0} (m now : IndexMap Key KeptLocal S) (same : now ≡ m) where
    carried : (before after : List LocalName) → after ≡ before → AreFirst m before → AreFirst now after
    carried before after e all = subst (λ n. AreFirst n after) (sym same) (subst (AreFirst m) (sym e) all)

    pub declared_next : (l : KeptLocal) → get_or ns i d ≡ Declaration l
        → AreFirst m (locals_of (namings_view (take i ns)) ++ local_view l ∷ []) → AreFirst now (locals_of (namings_view (take (i + 1) ns)))
    declared_next l e all = carried _ _ (taken (Declaration l) e) all

    pub used_next : (name : Bor (List ℕ)) (at : ℕ) → get_or ns i d ≡ Use name at
        → AreFirst m (locals_of (namings_view (take i ns))) → AreFirst now (locals_of (namings_view (take (i + 1) ns)))
    used_next name at e all = carried _ _ (taken (Use name at) e ∙ append-nil (locals_of (namings_view (take i ns)))) all
