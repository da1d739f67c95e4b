-- Where the answers of the namings are kept from the last to the first, each offset has what the first use there means.
use Rattle.std.proofs.Common.{◌≡◌, ℕ, ◌+◌, ◌<◌, ◌≤◌, Bool, true, false, Option, Some, None, option_map, List, ◌∷◌, length, get_or, drop, Bor, refl, sym, ap, ◌∙◌}
use Rattle.std.specs.Prelude.{nat_eq, if◌then◌else◌}
use Rattle.std.specs.List.Sorted.{IsPermutation}
use Rattle.std.proofs.lemmas.List.{at_drop_more, at_drop_all}
use Rattle.indexmap.specs.IndexMap.{IndexMap, values}
use Rattle.tree.specs.Syntax.{SourceFile}
use Rattle.scopes.specs.declared.naming.LocalName.{LocalName as KeptLocal}
use Rattle.scopes.specs.declared.naming.Naming.{Naming as KeptNaming}
use Rattle.scopes.specs.Views.{naming_view, namings_view}
use Rattle.meaning.specs.Scopes.{LocalName, Naming, uses_name, declares_name, file_names}
use Rattle.meaning.specs.OuterBlocks.{PackageNames, specs_of, import_meant}
use Rattle.meaning.specs.Declarations.{Meaning, Use, uses_among, use_at, is_assigned, locals_of, local_meant, innermost, local_or_around, import_or_around}
use Rattle.names.specs.declared.meanings.NameMeaning.{NameMeaning}
use Rattle.names.specs.Answers.{decl_view}
use Rattle.names.specs.Ordered.{AreFirst, locals_view}
use Rattle.names.specs.Uses.{use_of, use_view, meant, from_package}
use Rattle.names.proofs.SameInnermost.{innermost_of_ordered}

-- the use of a naming before those of the rest
abbrev pub with_use : Option Use → List Use → List Use
with_use None us = us
with_use (Some u) us = u ∷ us

chosen : (b : Bool) (u : Use) (us : List Use) → (if b then u ∷ us else us) ≡ with_use (if b then Some u else None) us
chosen true u us = refl
chosen false u us = refl

pub uses_among_more :
    (all : List LocalName) (n : Naming) (ns : List Naming)
    → uses_among all (n ∷ ns) ≡ with_use (use_view all n) (uses_among all ns)
uses_among_more all (uses_name name at) ns = refl
uses_among_more all (declares_name l) ns = chosen (is_assigned all l) _ (uses_among all ns)

-- of a use before others
said :
    (f : Use → Meaning) (b : Bool) (value : NameMeaning) (before : Option NameMeaning) (u : Use) (rest : Option Use)
    → decl_view value ≡ f u → option_map decl_view before ≡ option_map f rest
    → option_map decl_view (if b then Some value else before) ≡ option_map f (if b then Some u else rest)
said f true value before u rest e h = ap Some e
said f false value before u rest e h = h

-- a naming that is no use
pub uses_among_none :
    (all : List LocalName) (n : Naming) (ns : List Naming) → None ≡ use_view all n
    → uses_among all (n ∷ ns) ≡ uses_among all ns
uses_among_none all n ns e =
    uses_among_more all n ns ∙ ap (λ (o : Option Use). with_use o (uses_among all ns)) (sym e)

pub uses_among_some :
    (all : List LocalName) (n : Naming) (ns : List Naming) (u : Use) → Some u ≡ use_view all n
    → uses_among all (n ∷ ns) ≡ u ∷ uses_among all ns
uses_among_some all n ns u e =
    uses_among_more all n ns ∙ ap (λ (o : Option Use). with_use o (uses_among all ns)) (sym e)

-- the uses of what is left of the namings
abbrev pub uses_from : List LocalName → List KeptNaming → ℕ → List Use
uses_from all items i = uses_among all (namings_view (drop i items))

-- what is known of an offset is what the first of these uses there means
abbrev pub Says : (Use → Meaning) → Option NameMeaning → List Use → ℕ → Type 0
Says f known us at = option_map decl_view known ≡ option_map f (use_at at us)

-- in a loop over the namings from their end: before the last, at one that is no use, at a use, and after the first
pub none_known :
    (f : Use → Meaning) (all : List LocalName) (items : List KeptNaming) (i : ℕ) (known : Option NameMeaning) (at : ℕ)
    → length items ≤ i → known ≡ None → Says f known (uses_from all items i) at
none_known f all items i known at l e =
    ap (option_map decl_view) e
    ∙ sym (at_drop_all (λ ns. option_map f (use_at at (uses_among all (namings_view ns)))) items i l)

module _ (f : Use → Meaning) (all : List LocalName) (items : List KeptNaming) (i : ℕ) (d : KeptNaming)
    (found : Option (Bor (List ℕ) × ℕ)) (within : i < length items)
    (is_use : option_map (λ u. use_of u.0.now u.1) found ≡ use_view all (naming_view (get_or items i d))) where
  split : uses_from all items i ≡ uses_among all (naming_view (get_or items i d) ∷ namings_view (drop (i + 1) items))
  split = at_drop_more (λ ns. uses_among all (namings_view ns)) items i d within

  pub at_no_use :
      (known : Option NameMeaning) (at left : ℕ) → found ≡ None → left ≡ i + 1
      → Says f known (uses_from all items left) at → Says f known (uses_from all items i) at
  at_no_use known at left e last h =
      let none : None ≡ use_view all (naming_view (get_or items i d)) =
      ap (λ (o : Option (Bor (List ℕ) × ℕ)). option_map (λ u. use_of u.0.now u.1) o) (sym e) ∙ is_use in
      h ∙ ap (λ (k : ℕ). option_map f (use_at at (uses_from all items k))) last
      ∙ ap (λ (us : List Use). option_map f (use_at at us))
      (sym (split ∙ uses_among_none all (naming_view (get_or items i d)) (namings_view (drop (i + 1) items)) none))

  pub at_use :
      (name : Bor (List ℕ)) (key : ℕ) (value : NameMeaning) (before after : Option NameMeaning) (at left : ℕ)
      → found ≡ Some (name, key) → left ≡ i + 1 → decl_view value ≡ f (use_of name.now key)
      → after ≡ (if nat_eq key at then Some value else before)
      → Says f before (uses_from all items left) at → Says f after (uses_from all items i) at
  at_use name key value before after at left e last means kept h =
      let u : Use = use_of name.now key in
      let some : Some u ≡ use_view all (naming_view (get_or items i d)) =
      ap (λ (o : Option (Bor (List ℕ) × ℕ)). option_map (λ u. use_of u.0.now u.1) o) (sym e) ∙ is_use in
      ap (option_map decl_view) kept
      ∙ said f (nat_eq key at) value before u (use_at at (uses_from all items (i + 1))) means
      (h ∙ ap (λ (k : ℕ). option_map f (use_at at (uses_from all items k))) last)
      ∙ ap (λ (us : List Use). option_map f (use_at at us))
      (sym (split ∙ uses_among_some all (naming_view (get_or items i d)) (namings_view (drop (i + 1) items)) u some))

pub all_known :
    (f : Use → Meaning) (all : List LocalName) (items : List KeptNaming) (ns : List Naming) (left : ℕ)
    (known : Option NameMeaning) (at : ℕ) → left ≡ 0 → namings_view items ≡ ns
    → Says f known (uses_from all items left) at → Says f known (uses_among all ns) at
all_known f all items ns left known at e same h =
    h ∙ ap (λ (k : ℕ). option_map f (use_at at (uses_from all items k))) e
    ∙ ap (λ (l : List Naming). option_map f (use_at at (uses_among all l))) same

-- what the maps of a file and its package say is what the use means
pub meant_by_maps :
    {S : Type 0} (block : List ℕ → Option Bool) (packages : PackageNames) (file : SourceFile)
    (firsts : IndexMap (Bor (List ℕ) × ℕ) KeptLocal S) (items ordered : List KeptLocal)
    (imported : List ℕ → Option (List ℕ)) (name : List ℕ) (at : ℕ) (m : Meaning)
    → AreFirst firsts (locals_of (file_names file)) → IsPermutation (values firsts) items → ordered ≡ items
    → ((other : List ℕ) → imported other ≡ import_meant packages (specs_of file.imports) other)
    → m ≡ local_or_around (innermost name at (locals_view ordered))
    (import_or_around (imported name) (from_package (block name)))
    → m ≡ meant block packages file (use_of name at)
meant_by_maps block packages file firsts items ordered imported name at m first same is imports e =
    let local : innermost name at (locals_view ordered) ≡ local_meant (locals_of (file_names file)) name at =
    ap (λ (ls : List KeptLocal). innermost name at (locals_view ls)) is
    ∙ innermost_of_ordered name at (values firsts) items (locals_of (file_names file)) first.first same in
    e
    ∙ ap (λ (l : Option LocalName). local_or_around l (import_or_around (imported name) (from_package (block name)))) local
    ∙ ap
    (λ (path : Option (List ℕ)).
    local_or_around (local_meant (locals_of (file_names file)) name at)
    (import_or_around path (from_package (block name))))
    (imports name)
