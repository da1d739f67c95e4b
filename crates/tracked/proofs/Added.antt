-- Locals that are added to those of a table, in which the first of a number counts.
use Rattle.std.proofs.Common.{◌≡◌, ℕ, ◌+◌, ◌<◌, ◌≤◌, length, get_or, drop, Bool, true, false, not, if◌then◌else◌, List, [], ◌∷◌, ◌++◌, Option, Some, None, is_some, option_map, refl, sym, ap, ◌∙◌, subst, append_assoc, true≢false}
use Rattle.std.specs.Prelude.{◌==◌}
use Rattle.std.specs.List.{filter}
use Rattle.std.proofs.lemmas.Bool.Decides.{Decides-eqb}
use Rattle.std.proofs.lemmas.List.{map-append, append-nil, at_drop_all}
use Rattle.std.proofs.lemmas.List.Elements.{filter-append}
use Rattle.tree.specs.Syntax.{Identifier}
use Rattle.tree.proofs.Depths.{drop_item}
use Rattle.meaning.specs.OuterBlocks.{or_else}
use Rattle.meaning.specs.Mentions.{BodyPlace}
use Rattle.meaning.specs.FunctionFacts.{TrackedType}
use Rattle.meaning.specs.BodyEvents.{distinct}
use Rattle.meaning.specs.Tracked.{LocalRole, Local, item_local, find_local}
use Rattle.names.proofs.Adding.{or_else-assoc, or_else-none, first_of, map-or_else}
use Rattle.tracked.specs.declared.table.Entries.{Entries}
use Rattle.tracked.specs.declared.table.Locals.{Locals}
use Rattle.tracked.specs.LocalViews.{SeenLocal, entry_in, fresh, numbers_of, new_numbers, update_entry, HasNoLocals, AddsLocals, HasLocals}
use Rattle.tracked.proofs.Numbers.{keeps_all, keeps_both, keeps_same, is_among, distinct-append, has_number, neither_of}

-- what these locals are before any mark is seen of them
abbrev pub fresh_in : List Local → ℕ → Option SeenLocal
fresh_in ls n = option_map fresh (find_local ls n)

find_local-append : (xs ys : List Local) (n : ℕ) → find_local (xs ++ ys) n ≡ or_else (find_local xs n) (find_local ys n)
find_local-append [] ys n = refl
find_local-append (x ∷ xs) ys n = first_of (x.number == n) x _ _ _ (find_local-append xs ys n)

fresh_in-append : (xs ys : List Local) (n : ℕ) → fresh_in (xs ++ ys) n ≡ or_else (fresh_in xs n) (fresh_in ys n)
fresh_in-append xs ys n =
    ap (option_map fresh) (find_local-append xs ys n) ∙ map-or_else fresh (find_local xs n) (find_local ys n)

-- those that are new of two lists are those of the first, and of the second those that are new after it
new_numbers-append : (a b : Entries) (xs ys : List Local)
    → ((n : ℕ) → entry_in b n ≡ or_else (entry_in a n) (fresh_in xs n))
    → new_numbers a (numbers_of (xs ++ ys)) ≡ new_numbers a (numbers_of xs) ++ new_numbers b (numbers_of ys)
new_numbers-append a b xs ys adds =
    let is_new : ℕ → Bool = λ n. not (is_some (entry_in a n)) in
    let others : List ℕ = filter (λ n. not (is_among (numbers_of xs) n)) (distinct (numbers_of ys)) in
    ap (new_numbers a) (map-append (λ (l : Local). l.number) xs ys)
    ∙ ap (filter is_new) (distinct-append (numbers_of xs) (numbers_of ys))
    ∙ filter-append is_new (distinct (numbers_of xs)) others
    ∙ ap (λ l. new_numbers a (numbers_of xs) ++ l)
    (keeps_both is_new (λ n. not (is_among (numbers_of xs) n)) (λ n. not (is_some (entry_in b n)))
    (λ n. ap (λ o. not (is_some o)) (adds n)
    ∙ neither_of (entry_in a n) (fresh_in xs n) (is_among (numbers_of xs) n) (has_number xs n))
    (distinct (numbers_of ys)))

pub adds_then : (a b c : Locals) (xs ys : List Local) → AddsLocals a b xs → AddsLocals b c ys → AddsLocals a c (xs ++ ys)
adds_then a b c xs ys h k = record {
  entries = λ n.
      k.entries n ∙ (ap (λ o. or_else o (fresh_in ys n)) (h.entries n)
      ∙ (or_else-assoc (entry_in a.entries n) (fresh_in xs n) (fresh_in ys n)
      ∙ ap (or_else (entry_in a.entries n)) (sym (fresh_in-append xs ys n))));
  numbers =
      k.numbers ∙ (ap (λ l. l ++ new_numbers b.entries (numbers_of ys)) h.numbers
      ∙ (append_assoc a.numbers.items (new_numbers a.entries (numbers_of xs)) (new_numbers b.entries (numbers_of ys))
      ∙ ap (λ l. a.numbers.items ++ l) (sym (new_numbers-append a.entries b.entries xs ys h.entries))));
}

pub adds_nothing : (a : Locals) → AddsLocals a a []
adds_nothing a = record {
  entries = λ n. sym (or_else-none (entry_in a.entries n));
  numbers = sym (append-nil a.numbers.items);
}

-- the same is added, in other words
pub adds_same : (a b : Locals) (xs ys : List Local) → xs ≡ ys → AddsLocals a b xs → AddsLocals a b ys
adds_same a b xs ys same h = subst (AddsLocals a b) same h

-- the same of lists that are equal to those that were added
pub adds_both : (a b c : Locals) (xs ys vs ws : List Local) → xs ≡ vs → ys ≡ ws
    → AddsLocals a b xs → AddsLocals b c ys → AddsLocals a c (vs ++ ws)
adds_both a b c xs ys vs ws same equal h k =
    adds_then a b c vs ws (adds_same a b xs vs same h) (adds_same b c ys ws equal k)

-- a loop over a list: what adds the rest completes the work
module _ {X : Type 0} (f g : List X → List Local) (xs : List X) (i : ℕ) where
  pub next_added : (x : X) → i < length xs → x ≡ get_or xs i x → (one : List Local)
      → f (x ∷ drop (i + 1) xs) ≡ one ++ g (drop (i + 1) xs)
      → (a b : Locals) (Whole : Locals → Type 0) → AddsLocals a b one
      → ((end : Locals) → AddsLocals a end (f (drop i xs)) → Whole end)
      → (end : Locals) → AddsLocals b end (g (drop (i + 1) xs)) → Whole end
  next_added x within is one more a b Whole adds so_far end others =
      so_far end
      (adds_same a end (one ++ g (drop (i + 1) xs)) (f (drop i xs)) (sym (ap f (drop_item xs i x within is) ∙ more))
      (adds_then a b end one (g (drop (i + 1) xs)) adds others))

  pub all_added : length xs ≤ i → f [] ≡ [] → (a : Locals) (Whole : Locals → Type 0)
      → ((end : Locals) → AddsLocals a end (f (drop i xs)) → Whole end) → Whole a
  all_added past none a Whole so_far =
      so_far a (adds_same a a [] (f (drop i xs)) (sym (at_drop_all f xs i past ∙ none)) (adds_nothing a))

-- the local of an item, in the words of what computed its role and its kind
pub adds_item : (a b : Locals) (body : BodyPlace) (role is_role : LocalRole) (kind is_kind : Option TrackedType)
    (name : Option Identifier) → role ≡ is_role → kind ≡ is_kind
    → AddsLocals a b (item_local body role kind name) → AddsLocals a b (item_local body is_role is_kind name)
adds_item a b body role is_role kind is_kind name same equal h =
    adds_same a b (item_local body role kind name) (item_local body is_role is_kind name)
    (ap (λ r. item_local body r kind name) same ∙ ap (λ k. item_local body is_role k name) equal) h

-- what is added to no locals
pub has_added : (a b : Locals) (ls : List Local) → HasNoLocals a → AddsLocals a b ls → HasLocals b ls
has_added a b ls none adds = record {
  entries = λ n. adds.entries n ∙ ap (λ o. or_else o (fresh_in ls n)) (none.entries n);
  numbers =
      adds.numbers ∙ (ap (λ l. l ++ new_numbers a.entries (numbers_of ls)) none.numbers
      ∙ keeps_all (λ n. not (is_some (entry_in a.entries n))) (λ n. ap (λ o. not (is_some o)) (none.entries n))
      (distinct (numbers_of ls)));
}

-- and what is added to some
pub has_more : (a b : Locals) (xs ys : List Local) → HasLocals a xs → AddsLocals a b ys → HasLocals b (xs ++ ys)
has_more a b xs ys has adds = record {
  entries = λ n.
      adds.entries n ∙ ap (λ o. or_else o (fresh_in ys n)) (has.entries n) ∙ sym (fresh_in-append xs ys n);
  numbers =
      adds.numbers
      ∙ ap (λ (l : List ℕ). l ++ new_numbers a.entries (numbers_of ys)) has.numbers
      ∙ ap (λ (l : List ℕ). distinct (numbers_of xs) ++ l)
      (keeps_same (λ n. not (is_some (entry_in a.entries n))) (λ n. not (is_among (numbers_of xs) n))
      (λ n. ap not (ap is_some (has.entries n) ∙ has_number xs n)) (distinct (numbers_of ys)))
      ∙ sym (ap distinct (map-append (λ (l : Local). l.number) xs ys) ∙ distinct-append (numbers_of xs) (numbers_of ys));
}

-- one local: there is one of its number, or it is put
module _ (a b : Locals) (l : Local) where
  pub adds_no_other : is_some (entry_in a.entries l.number) ≡ true → AddsLocals a a (l ∷ [])
  adds_no_other there = record {
    entries = λ n. by n (l.number == n) (Decides-eqb l.number n).0;
    numbers = sym (append-nil a.numbers.items) ∙ ap (λ t. a.numbers.items ++ (if not t then l.number ∷ [] else [])) (sym there);
  }
    where
      kept : (o : Option SeenLocal) → is_some o ≡ true → o ≡ or_else o (Some (fresh l))
      kept None e = absurd (true≢false (sym e))
      kept (Some e) h = refl

      by : (n : ℕ) (t : Bool) → (t ≡ true → l.number ≡ n)
          → entry_in a.entries n ≡ or_else (entry_in a.entries n) (option_map fresh (if t then Some l else None))
      by n true same = kept (entry_in a.entries n) (ap (λ m. is_some (entry_in a.entries m)) (sym (same refl)) ∙ there)
      by n false same = sym (or_else-none (entry_in a.entries n))

  pub adds_one : is_some (entry_in a.entries l.number) ≡ false
      → ((n : ℕ) → entry_in b.entries n ≡ update_entry l.number (fresh l) (entry_in a.entries n) n)
      → b.numbers.items ≡ a.numbers.items ++ l.number ∷ [] → AddsLocals a b (l ∷ [])
  adds_one missing puts pushes = record {
    entries = λ n. puts n ∙ by n (l.number == n) (Decides-eqb l.number n).0;
    numbers = pushes ∙ ap (λ t. a.numbers.items ++ (if not t then l.number ∷ [] else [])) (sym missing);
  }
    where
      first : (o : Option SeenLocal) → is_some o ≡ false → Some (fresh l) ≡ or_else o (Some (fresh l))
      first None e = refl
      first (Some e) h = absurd (true≢false h)

      by : (n : ℕ) (t : Bool) → (t ≡ true → l.number ≡ n)
          → (if t then Some (fresh l) else entry_in a.entries n)
          ≡ or_else (entry_in a.entries n) (option_map fresh (if t then Some l else None))
      by n true same = first (entry_in a.entries n) (ap (λ m. is_some (entry_in a.entries m)) (sym (same refl)) ∙ missing)
      by n false same = sym (or_else-none (entry_in a.entries n))
