-- A local that no row obtains, and that isn't declared with a type of cancel functions, is no cancel variable of a body.
use Rattle.std.proofs.Common.{◌≡◌, ℕ, ◌+◌, Bool, true, false, List, [], ◌∷◌, ◌++◌, Option, Some, None, is_some, refl, sym, ap, ◌∙◌, subst}
use Rattle.std.specs.Prelude.{◌==◌, ◌&&◌, ◌||◌, if◌then◌else◌, option_map}
use Rattle.std.specs.List.{list_any}
use Rattle.std.proofs.lemmas.Bool.{false≢true}
use Rattle.std.proofs.lemmas.Bool.Decides.{Decides-eqb}
use Rattle.std.proofs.lemmas.List.{append-nil}
use Rattle.std.proofs.lemmas.List.Folds.{list_any-append}
use Rattle.tree.specs.Syntax.{Identifier, Signature, signature_of}
use Rattle.meaning.specs.Scopes.{is_blank}
use Rattle.meaning.specs.Declarations.{Meaning}
use Rattle.meaning.specs.OuterBlocks.{or_else}
use Rattle.meaning.specs.FunctionFacts.{TrackedType, cancel, group, kind_of_type, Item, items_of, item_type}
use Rattle.meaning.specs.Mentions.{Mention, Named, BodyPlace, Mark, mentions, of_fields, runs_literal, returns, opens, closes}
use Rattle.meaning.specs.Tracked.{Known, local_meant_or, declared_there, variable_of, Placed, placed, LocalRole, parameter, receiver, variadic, result, Local, item_local, parameter_role, parameter_locals, receiver_locals, only_cancel, result_locals, receiver_items, signature_locals, role_typed, declared_local, locals_there, locals_of, find_local, is_variable, is_obtained_by, obtains_in, makes_in, kind_by_rows}
use Rattle.meaning.specs.Objects.{local_named}
use Rattle.meaning.specs.Uses.{Seen, seen_with, found, is_own, is_cancel, may_be_tracked, tracked_kind}
use Rattle.meaning.specs.Kept.{is_block_role, owned, own_cancel}
use Rattle.silent_files.proofs.SilentFiles.{neither_first, neither_second, not_both, none_placed}
use Rattle.keeping.specs.PlainFiles.{number_list, cancels_there, cancels, has_number, may_be_put}
use Rattle.keeping.proofs.KeptFields.{any_flat}

-- Lists and tests

-- where one test fails, another does
pub weaker : {X : Type 0} (t u : X → Bool) → ((x : X) → t x ≡ false → u x ≡ false) → (xs : List X)
    → list_any t xs ≡ false → list_any u xs ≡ false
weaker t u so [] h = refl
weaker t u so (x ∷ xs) h =
    λ i. so x (neither_first (t x) _ h) i || weaker t u so xs (neither_second (t x) _ h) i

pub no_some : {A : Type 0} (o : Option A) → is_some o ≡ false → o ≡ None
no_some None h = refl
no_some (Some a) h = absurd (false≢true (sym h))

-- A mention

-- of the local of that number
abbrev is_it : ℕ → List ℕ → Bool
is_it v ns = list_any (λ n. n == v) ns

-- a local that is declared with a type of cancel functions
abbrev is_typed_local : ℕ → Local → Bool
is_typed_local v l = (l.number == v) && (is_block_role l.role && is_some l.typed)

not_it : (o : Option ℕ) (v : ℕ) (t u : Bool) → is_it v (if t || u then number_list o else []) ≡ false
    → (is_variable o v && t) ≡ false
not_it o v false u h = not_both (is_variable o v) false refl
not_it None v true u h = refl
not_it (Some n) v true u h = ap (λ b. b && true) (neither_first (n == v) false h)

not_typed : (n v : ℕ) (t u : Bool) → is_it v (if t || u then n ∷ [] else []) ≡ false → ((n == v) && (true && u)) ≡ false
not_typed n v t false h = not_both (n == v) false refl
not_typed n v true true h = ap (λ b. b && true) (neither_first (n == v) false h)
not_typed n v false true h = ap (λ b. b && true) (neither_first (n == v) false h)

no_block_parameter : (role : LocalRole) (i : Item) → is_block_role role ≡ false
    → is_block_role (parameter_role role i) ≡ false
no_block_parameter role i h = by i.is_variadic
  where
    by : (w : Bool) → is_block_role (if w then variadic else role) ≡ false
    by true = refl
    by false = h

-- the locals of a signature stand in no block
module _ (v : ℕ) where
  outside_block : (b : BodyPlace) (role : LocalRole) (typed : Option TrackedType) (n : Option Identifier)
      → is_block_role role ≡ false → list_any (is_typed_local v) (item_local b role typed n) ≡ false
  outside_block b role typed None h = refl
  outside_block b role typed (Some n) h = by (is_blank n.text)
    where
      local : ((n.span.start == v) && (is_block_role role && is_some typed)) ≡ false
      local = not_both (n.span.start == v) _ (ap (λ k. k && is_some typed) h)

      by : (blank : Bool) → list_any (is_typed_local v)
          (if blank then [] else
          record {
            number = n.span.start;
            name = n.text;
            at = n.span.start;
            role = role;
            typed = typed;
            body = b.at;
          }
          ∷ []) ≡ false
      by true = refl
      by false = ap (λ k. k || false) local

  both_outside : (ls ms : List Local) → list_any (is_typed_local v) ls ≡ false → list_any (is_typed_local v) ms ≡ false
      → list_any (is_typed_local v) (ls ++ ms) ≡ false
  both_outside ls ms h k = list_any-append (is_typed_local v) ls ms ∙ (λ i. h i || k i)

  of_parameters : (known : Known) (b : BodyPlace) (k : ℕ) (is : List Item)
      → list_any (is_typed_local v) (parameter_locals known b k is) ≡ false
  of_parameters known b k [] = refl
  of_parameters known b k (i ∷ is) =
      both_outside (item_local b (parameter_role (parameter k) i) (item_type known.means i) i.name)
      (parameter_locals known b (k + 1) is)
      (outside_block b (parameter_role (parameter k) i) (item_type known.means i) i.name
      (no_block_parameter (parameter k) i refl))
      (of_parameters known b (k + 1) is)

  of_receivers : (known : Known) (b : BodyPlace) (is : List Item)
      → list_any (is_typed_local v) (receiver_locals known b is) ≡ false
  of_receivers known b [] = refl
  of_receivers known b (i ∷ is) =
      both_outside (item_local b (parameter_role receiver i) (item_type known.means i) i.name)
      (receiver_locals known b is)
      (outside_block b (parameter_role receiver i) (item_type known.means i) i.name (no_block_parameter receiver i refl))
      (of_receivers known b is)

  of_results : (known : Known) (b : BodyPlace) (is : List Item)
      → list_any (is_typed_local v) (result_locals known b is) ≡ false
  of_results known b [] = refl
  of_results known b (i ∷ is) =
      both_outside (item_local b result (only_cancel (item_type known.means i)) i.name) (result_locals known b is)
      (outside_block b result (only_cancel (item_type known.means i)) i.name refl)
      (of_results known b is)

  of_signature : (known : Known) (b : BodyPlace) (s : Signature)
      → list_any (is_typed_local v) (signature_locals known b s) ≡ false
  of_signature known b (signature_of ps rs brackets) =
      both_outside (parameter_locals known b 0 (items_of ps)) (result_locals known b (items_of rs))
      (of_parameters known b 0 (items_of ps)) (of_results known b (items_of rs))

-- A file

module _ (known : Known) (v : ℕ) where
  abbrev is_there : Mark → Bool
  is_there mark = is_it v (cancels_there known mark)

  not_obtained : (mark : Mark) → is_there mark ≡ false → obtains_in known v mark ≡ false
  not_obtained (mentions m) h =
      not_it (variable_of known m) v (is_obtained_by known m m.role) (is_some (role_typed known m.role)) h
  not_obtained (of_fields site m) h = refl
  not_obtained (runs_literal moment site at) h = refl
  not_obtained (returns at es) h = refl
  not_obtained (opens b) h = refl
  not_obtained closes h = refl

  declared : (m : Mention) (bodies : List BodyPlace) (meaning : Option Meaning) (o : Option ℕ) (t : Bool)
      → is_it v (if t || is_some (role_typed known m.role) then number_list (local_meant_or meaning o) else []) ≡ false
      → list_any (is_typed_local v) (declared_local known m bodies (declared_there meaning o)) ≡ false
  declared m [] meaning o t h = refl
  declared m (b ∷ bs) (Some meaning) o t h = refl
  declared m (b ∷ bs) None None t h = refl
  declared m (b ∷ bs) None (Some n) t h =
      ap (λ k. k || false) (not_typed n v t (is_some (role_typed known m.role)) h)

  not_declared : (bodies : List BodyPlace) (mark : Mark) → is_there mark ≡ false
      → list_any (is_typed_local v) (locals_there known bodies mark) ≡ false
  not_declared bodies (mentions m) h =
      declared m bodies (known.means m.named.at) m.declares (is_obtained_by known m m.role) h
  not_declared bodies (of_fields site m) h = refl
  not_declared bodies (runs_literal moment site at) h = refl
  not_declared bodies (returns at es) h = refl
  not_declared bodies (opens b) h =
      both_outside v (receiver_locals known b (receiver_items b.receiver)) (signature_locals known b b.signature)
      (of_receivers v known b (receiver_items b.receiver)) (of_signature v known b b.signature)
  not_declared bodies closes h = refl

  none_declared : (ps : List Placed) → list_any (λ (p : Placed). is_there p.mark) ps ≡ false
      → list_any (is_typed_local v) (locals_of known ps) ≡ false
  unfolding locals_of
  none_declared [] h = refl
  none_declared (p ∷ ps) h =
      both_outside v (locals_there known p.bodies p.mark) (locals_of known ps)
      (not_declared p.bodies p.mark (neither_first (is_there p.mark) _ h))
      (none_declared ps (neither_second (is_there p.mark) _ h))

no_cancel : (o m : Bool) → o ≡ false → is_cancel (if o then Some cancel else if m then Some group else None) ≡ false
no_cancel true m h = absurd (false≢true (sym h))
no_cancel false true h = refl
no_cancel false false h = refl

-- the file is seen where no row obtains into a field
module _ (known : Known) (ps : List Placed) (bodies : List BodyPlace) (v : ℕ) where
  abbrev seen : Seen
  seen = seen_with known ps []

  no_kind : (n : ℕ) (typed : Option TrackedType) (t : Bool) → typed ≡ None
      → list_any (λ p. obtains_in seen.known n p.mark) ps ≡ false
      → is_cancel (if t then or_else (option_map kind_of_type typed) (kind_by_rows seen.known ps n) else None) ≡ false
  no_kind n typed false h none = refl
  no_kind n typed true h none =
      ap (λ o. is_cancel (or_else (option_map kind_of_type o) (kind_by_rows seen.known ps n))) h
      ∙ no_cancel (list_any (λ p. obtains_in seen.known n p.mark) ps) (list_any (λ p. makes_in seen.known n p.mark) ps) none

  not_owned : (l : Local) → (is_block_role l.role && is_some l.typed) ≡ false
      → list_any (λ p. obtains_in seen.known l.number p.mark) ps ≡ false
      → owned seen bodies (Some l) ≡ None
  not_owned l typed none =
      ap (λ b. if b then Some l.number else None) (by (is_block_role l.role) refl)
    where
      first : (a b : Bool) → a ≡ false → (a && b) ≡ false
      first true b h = absurd (false≢true (sym h))
      first false b h = refl

      by : (block : Bool) → is_block_role l.role ≡ block
          → (is_cancel (tracked_kind seen (Some l)) && (is_own l bodies && is_block_role l.role)) ≡ false
      by false is =
          not_both (is_cancel (tracked_kind seen (Some l))) _ (not_both (is_own l bodies) (is_block_role l.role) is)
      by true is =
          first (is_cancel (tracked_kind seen (Some l))) _
          (no_kind l.number l.typed (may_be_tracked l.role)
          (no_some l.typed (ap (λ b. b && is_some l.typed) (sym is) ∙ typed)) none)

  one_found : (l : Local) (ls : List Local) (b : Bool) → (l.number == v) ≡ b
      → ((l.number == v) && (is_block_role l.role && is_some l.typed)) ≡ false
      → list_any (λ p. obtains_in seen.known v p.mark) ps ≡ false
      → owned seen bodies (find_local ls v) ≡ None
      → owned seen bodies (if b then Some l else find_local ls v) ≡ None
  one_found l ls true is typed none rest =
      not_owned l (ap (λ b. b && (is_block_role l.role && is_some l.typed)) (sym is) ∙ typed)
      (subst (λ n. list_any (λ p. obtains_in seen.known n p.mark) ps ≡ false)
      (sym ((Decides-eqb l.number v).0 is)) none)
  one_found l ls false is typed none rest = rest

  none_found : (ls : List Local) → list_any (is_typed_local v) ls ≡ false
      → list_any (λ p. obtains_in seen.known v p.mark) ps ≡ false
      → owned seen bodies (find_local ls v) ≡ None
  none_found [] h none = refl
  none_found (l ∷ ls) h none =
      one_found l ls (l.number == v) refl (neither_first (is_typed_local v l) _ h) none
      (none_found ls (neither_second (is_typed_local v l) _ h) none)

-- where no left side `x.f` stands for anything yet
module _ (known : Known) (marks : List Mark) (bodies : List BodyPlace) where
  abbrev plain : Seen
  plain = seen_with known (placed [] marks) []

  pub never_put : (n : Option Named) → plain.known ≡ known → may_be_put known (cancels known marks) n ≡ false
      → own_cancel plain bodies n ≡ None
  never_put n same h = ap (λ (k : Known). owned plain bodies (found plain (local_named k n))) same ∙ by (local_named known n) h
    where
      by : (o : Option ℕ) → has_number (cancels known marks) o ≡ false → owned plain bodies (found plain o) ≡ None
      by None h = refl
      by (Some v) h =
          let none : list_any (λ (p : Placed). is_there known v p.mark) (placed [] marks) ≡ false =
          none_placed (is_there known v) [] marks (sym (any_flat (λ n. n == v) (cancels_there known) marks) ∙ h) in
          none_found known (placed [] marks) bodies v (locals_of known (placed [] marks) ++ [])
          (ap (list_any (is_typed_local v)) (append-nil (locals_of known (placed [] marks)))
          ∙ none_declared known v (placed [] marks) none)
          (subst (λ (k : Known). list_any (λ p. obtains_in k v p.mark) (placed [] marks) ≡ false) (sym same)
          (weaker (λ (p : Placed). is_there known v p.mark) (λ p. obtains_in known v p.mark)
          (λ p. not_obtained known v p.mark) (placed [] marks) none))
