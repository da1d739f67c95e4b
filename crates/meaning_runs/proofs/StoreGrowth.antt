-- How each change of a store makes it grow, and what stays so where a store grows.
use Rattle.std.proofs.Common.{◌≡◌, ℕ, ◌+◌, ◌<◌, ◌≤◌, ◌⊎◌, inl, inr, Bool, true, false, List, ◌∷◌, Option, Some, None, Contains, refl, sym, ap, ◌∙◌, subst, arith}
use Rattle.std.proofs.lemmas.Bool.{true≢false, cases_eq}
use Rattle.std.proofs.lemmas.Option.{none-some, same_Some}
use Rattle.meaning.proofs.Membership.{contains_there}
use Rattle.meaning_runs.specs.Bodies.{Body}
use Rattle.meaning_runs.specs.World.{Value, nothing, cancel_function, Maker, nobody, outside, frame_at, Place, Store, put_at, with_new, calling, ending, with_group, with_member, waiting_for, with_cells, in_cell, group_in_cell}
use Rattle.meaning_runs.proofs.Contexts.{put_at-same, put_at-other}
use Rattle.meaning_runs.proofs.GroupDuties.{is_mentioned}
use Rattle.meaning_runs.proofs.Remembered.{Root, Origins, written, with_block, with_begun, with_root}
use Rattle.meaning_runs.proofs.Holders.{IsSafe, Grows, IsKnown}

pub frame-nobody : (q : Place) → frame_at q ≡ nobody → ⊥
frame-nobody q e = cc

pub outside-nobody : outside ≡ nobody → ⊥
outside-nobody e = cc

pub outside-frame : (q : Place) → outside ≡ frame_at q → ⊥
outside-frame q e = cc

pub same_frame : (q r : Place) → frame_at q ≡ frame_at r → q ≡ r
same_frame q r e = cc

-- A block that is written for one variable: others keep what they hold in it.
pub put_in : {A : Type 0} (blocks : ℕ → ℕ → A) (k v : ℕ) (x : A) (j w : ℕ) → (w ≡ v → ⊥)
    → put_at blocks k (put_at (blocks k) v x) j w ≡ blocks j w
put_in {A} blocks k v x j w ne = by_block (cases_eq j k)
  where
    by_block : (j ≡ k) ⊎ (j ≡ k → ⊥) → put_at blocks k (put_at (blocks k) v x) j w ≡ blocks j w
    by_block (inl e) =
        ap (λ (i : ℕ). put_at blocks k (put_at (blocks k) v x) i w) e
        ∙ ap (λ (c : ℕ → A). c w) (put_at-same blocks k (put_at (blocks k) v x))
        ∙ put_at-other (blocks k) v x w ne
        ∙ ap (λ (i : ℕ). blocks i w) (sym e)
    by_block (inr n) = ap (λ (c : ℕ → A). c w) (put_at-other blocks k (put_at (blocks k) v x) j n)

pub put_here : {A : Type 0} (blocks : ℕ → ℕ → A) (k v : ℕ) (x : A) → put_at blocks k (put_at (blocks k) v x) k v ≡ x
put_here {A} blocks k v x =
    ap (λ (c : ℕ → A). c v) (put_at-same blocks k (put_at (blocks k) v x)) ∙ put_at-same (blocks k) v x

-- Contexts alone

-- the store changed in contexts and calls alone, of which there may be more
pub record ChangesContexts (s after : Store) : Type 0 where
  pub called : (a : ℕ) → Contains s.called a → Contains after.called a
  pub ended : (a : ℕ) → Contains s.ended a → Contains after.ended a
  pub same_cells : after.cells ≡ s.cells
  pub same_holds : after.holds ≡ s.holds
  pub same_count : after.cell_count ≡ s.cell_count
  pub same_maker : after.maker ≡ s.maker
  pub same_group_context : after.group_context ≡ s.group_context
  pub same_group_count : after.group_count ≡ s.group_count
  pub same_member : after.member ≡ s.member

-- one that changes nothing but the lists of what was called and ended
pub more_calls : (s : Store) (parents : ℕ → Option ℕ) (count : ℕ) (called ended : List ℕ)
    → ((a : ℕ) → Contains s.called a → Contains called a)
    → ((a : ℕ) → Contains s.ended a → Contains ended a)
    → ChangesContexts s (record s { parent = parents; context_count = count; called = called; ended = ended })
more_calls s parents count called ended more done = record {
  called = more;
  ended = done;
  same_cells = refl;
  same_holds = refl;
  same_count = refl;
  same_maker = refl;
  same_group_context = refl;
  same_group_count = refl;
  same_member = refl;
}

pub no_change : (s : Store) → ChangesContexts s s
no_change s = more_calls s s.parent s.context_count s.called s.ended (λ a h. h) (λ a h. h)

pub new_changes : (s : Store) (parent : Option ℕ) → ChangesContexts s (with_new s parent)
new_changes s parent =
    more_calls s (put_at s.parent s.context_count parent) (s.context_count + 1) s.called s.ended (λ a h. h) (λ a h. h)

pub calling_changes : (s : Store) (value : Value) → ChangesContexts s (calling s value)
calling_changes s nothing = no_change s
calling_changes s (cancel_function b) =
    more_calls s s.parent s.context_count (b ∷ s.called) (b ∷ s.ended) (λ a h. contains_there b a s.called h)
    (λ a h. contains_there b a s.ended h)

pub ending_changes : (s : Store) (context : Option ℕ) → ChangesContexts s (ending s context)
ending_changes s None = no_change s
ending_changes s (Some b) =
    more_calls s s.parent s.context_count s.called (b ∷ s.ended) (λ a h. h) (λ a h. contains_there b a s.ended h)

pub waiting_changes : (s : Store) (group : Option ℕ) → ChangesContexts s (waiting_for s group)
waiting_changes s None = no_change s
waiting_changes s (Some a) = ending_changes s (s.group_context a)

-- How stores grow

pub contexts_grow : (at : Maker) (o : Origins) (s after : Store) → ChangesContexts s after → Grows at o o s after
contexts_grow at o s after h = record {
  called = h.called;
  ended = h.ended;
  same_cells = λ k v l i. ap (λ (c : ℕ → ℕ → Value). c k v) h.same_cells;
  same_holds = λ k v l i. ap (λ (c : ℕ → ℕ → Option ℕ). c k v) h.same_holds;
  counts = let count = h.same_count in omega (arith, count);
  same_owner = λ k l. refl;
  same_frozen = λ k l. refl;
  same_maker = λ a known. ap (λ (m : ℕ → Maker). m a) h.same_maker;
  same_context = λ a known. ap (λ (c : ℕ → Option ℕ). c a) h.same_group_context;
  more_begun = λ r h. h;
  still_gone = λ h. h;
  more_to_call = λ a h. h;
  same_least = refl;
}

-- groups and members alone change, and what is remembered of goroutines
same_blocks : (at : Maker) (o : Origins) (s : Store) (roots : ℕ → Root) (begun : List Root) (has_gone : Bool) (maker : ℕ → Maker)
    (context : ℕ → Option ℕ) (count : ℕ) (member : ℕ → Option ℕ)
    → ((a : ℕ) → (s.maker a ≡ nobody → ⊥) → maker a ≡ s.maker a)
    → ((a : ℕ) → (s.maker a ≡ nobody → ⊥) → context a ≡ s.group_context a)
    → ((r : Root) → Contains o.begun r → Contains begun r)
    → (o.has_gone ≡ true → has_gone ≡ true)
    → Grows at o (record o { root = roots; begun = begun; has_gone = has_gone }) s
    (record s { maker = maker; group_context = context; group_count = count; member = member })
same_blocks at o s roots begun has_gone maker context count member makers contexts more gone = record {
  called = λ a h. h;
  ended = λ a h. h;
  same_cells = λ k v l i. refl;
  same_holds = λ k v l i. refl;
  counts = omega arith;
  same_owner = λ k l. refl;
  same_frozen = λ k l. refl;
  same_maker = makers;
  same_context = contexts;
  more_begun = more;
  still_gone = gone;
  more_to_call = λ a h. h;
  same_least = refl;
}

-- a goroutine becomes a member
pub member_grows : (at : Maker) (o : Origins) (s : Store) (root : Root) (g : ℕ) (group : Option ℕ)
    → Grows at o (with_root o g root) s (with_member s g group)
member_grows at o s root g group =
    same_blocks at o s (put_at o.root g root) (root ∷ o.begun) o.has_gone s.maker s.group_context s.group_count
    (put_at s.member g group) (λ a has. refl) (λ a has. refl) (λ r h. contains_there root r o.begun h) (λ h. h)

-- or leaves
pub member_leaves : (at : Maker) (o : Origins) (s : Store) (g : ℕ) (group : Option ℕ)
    → Grows at o o s (with_member s g group)
member_leaves at o s g group =
    same_blocks at o s o.root o.begun o.has_gone s.maker s.group_context s.group_count (put_at s.member g group) (λ a has. refl)
    (λ a has. refl) (λ r h. h) (λ h. h)

-- a goroutine is started
pub begun_grows : (at : Maker) (o : Origins) (s : Store) (root : Root) → Grows at o (with_begun o root) s s
begun_grows at o s root =
    same_blocks at o s o.root (root ∷ o.begun) true s.maker s.group_context s.group_count s.member
    (λ a has. refl) (λ a has. refl) (λ r h. contains_there root r o.begun h) (λ h. refl)

-- or runs outside, to call these
pub calls_grow : (at : Maker) (o : Origins) (s : Store) (calls : List ℕ)
    → ((a : ℕ) → Contains o.to_call a → Contains calls a)
    → Grows at o (record o { to_call = calls }) s s
calls_grow at o s calls more = record {
  called = λ a h. h;
  ended = λ a h. h;
  same_cells = λ k v l i. refl;
  same_holds = λ k v l i. refl;
  counts = omega arith;
  same_owner = λ k l. refl;
  same_frozen = λ k l. refl;
  same_maker = λ a has. refl;
  same_context = λ a has. refl;
  more_begun = λ r h. h;
  still_gone = λ h. h;
  more_to_call = more;
  same_least = refl;
}

older : (k count : ℕ) → k < count → k ≡ count → ⊥
older k count l e = omega (arith, e, l)

-- a block of parameters
pub block_grows : (at : Maker) (o : Origins) (s : Store) (values : ℕ → Value) (groups : ℕ → Option ℕ)
    → Grows at o (with_block o s.cell_count) s (with_cells s values groups)
block_grows at o s values groups = record {
  called = λ a h. h;
  ended = λ a h. h;
  same_cells = λ k v l i. ap (λ (c : ℕ → Value). c v)
      (put_at-other s.cells s.cell_count values k (older k s.cell_count l));
  same_holds = λ k v l i. ap (λ (c : ℕ → Option ℕ). c v)
      (put_at-other s.holds s.cell_count groups k (older k s.cell_count l));
  counts = omega arith;
  same_owner = λ k l. refl;
  same_frozen = λ k l. put_at-other o.is_frozen s.cell_count true k (older k s.cell_count l);
  same_maker = λ a known. refl;
  same_context = λ a known. refl;
  more_begun = λ r h. h;
  still_gone = λ h. h;
  more_to_call = λ a h. h;
  same_least = refl;
}

-- the number of the next group is not that of one that is there
fresh_other : (s : Store) → IsKnown s → (a : ℕ) → (s.maker a ≡ nobody → ⊥) → a ≡ s.group_count → ⊥
fresh_other s known a has e = has (known.is_fresh a (omega (arith, e)))

pub group_grows : (at : Maker) (o : Origins) (s : Store) (maker : Maker) (context : Option ℕ) → IsKnown s
    → Grows at o o s (with_group s maker context)
group_grows at o s maker context known =
    same_blocks at o s o.root o.begun o.has_gone (put_at s.maker s.group_count maker) (put_at s.group_context s.group_count context)
    (s.group_count + 1) s.member
    (λ a has. put_at-other s.maker s.group_count maker a (fresh_other s known a has))
    (λ a has. put_at-other s.group_context s.group_count context a (fresh_other s known a has)) (λ r h. h)
    (λ h. h)

-- the contents of blocks are these now, and the next block gets a higher number
abbrev pub with_contents : Store → (ℕ → ℕ → Value) → (ℕ → ℕ → Option ℕ) → Store
with_contents s cells holds = record s { cells = cells; holds = holds; cell_count = s.cell_count + 1 }

-- A block that the frame may write: a new one, or one of its own that is not frozen.
pub data IsWritable (o : Origins) (s : Store) (place : Place) (b : Body) (v : ℕ) : ℕ → Type 0 where
  is_new : IsWritable o s place b v s.cell_count
  is_own : {k : ℕ} → k < s.cell_count
      → o.owner k ≡ frame_at place
      → o.is_frozen k ≡ is_mentioned b.file v
      → is_mentioned b.file v ≡ false
      → IsWritable o s place b v k

module _ (o : Origins) (s : Store) (place : Place) (b : Body) (v : ℕ) where
  abbrev now : ℕ → Origins
  now k = written o place b k v

  pub is_below : (k : ℕ) → IsWritable o s place b v k → k < s.cell_count + 1
  is_below k is_new = omega arith
  is_below k (is_own l owned once free) = omega (arith, l)

  is_unsafe : (j k : ℕ) → j < s.cell_count → IsSafe (frame_at place) o j → j ≡ k → IsWritable o s place b v k → ⊥
  is_unsafe j k l safe e is_new = omega (arith, e, l)
  is_unsafe j k l (inl frozen) e (is_own m owned once free) =
      true≢false (sym frozen ∙ ap o.is_frozen e ∙ once ∙ free)
  is_unsafe j k l (inr elsewhere) e (is_own m owned once free) = elsewhere (ap o.owner e ∙ owned)

  owner_stays : (j k : ℕ) → j < s.cell_count → (j ≡ k) ⊎ (j ≡ k → ⊥) → IsWritable o s place b v k
      → (now k).owner j ≡ o.owner j
  owner_stays j k l (inl e) is_new = absurd (omega (arith, e, l))
  owner_stays j k l (inl e) (is_own m owned once free) =
      ap (put_at o.owner k (frame_at place)) e ∙ put_at-same o.owner k (frame_at place) ∙ sym owned
      ∙ ap o.owner (sym e)
  owner_stays j k l (inr ne) writable = put_at-other o.owner k (frame_at place) j ne

  frozen_stays : (j k : ℕ) → j < s.cell_count → (j ≡ k) ⊎ (j ≡ k → ⊥) → IsWritable o s place b v k
      → (now k).is_frozen j ≡ o.is_frozen j
  frozen_stays j k l (inl e) is_new = absurd (omega (arith, e, l))
  frozen_stays j k l (inl e) (is_own m owned once free) =
      ap (put_at o.is_frozen k (is_mentioned b.file v)) e ∙ put_at-same o.is_frozen k (is_mentioned b.file v) ∙ sym once
      ∙ ap o.is_frozen (sym e)
  frozen_stays j k l (inr ne) writable = put_at-other o.is_frozen k (is_mentioned b.file v) j ne

  -- a block is written by the frame at the place; others stay
  pub writing_grows : (k : ℕ) (cells : ℕ → ℕ → Value) (holds : ℕ → ℕ → Option ℕ)
      → ((j : ℕ) → (j ≡ k → ⊥) → cells j ≡ s.cells j)
      → ((j : ℕ) → (j ≡ k → ⊥) → holds j ≡ s.holds j)
      → IsWritable o s place b v k
      → Grows (frame_at place) o (now k) s (with_contents s cells holds)
  writing_grows k cells holds values groups writable = record {
    called = λ a h. h;
    ended = λ a h. h;
    same_cells = λ j u l i. ap (λ (c : ℕ → Value). c u) (values j (λ e. is_unsafe j k l i e writable));
    same_holds = λ j u l i. ap (λ (c : ℕ → Option ℕ). c u) (groups j (λ e. is_unsafe j k l i e writable));
    counts = omega arith;
    same_owner = λ j l. owner_stays j k l (cases_eq j k) writable;
    same_frozen = λ j l. frozen_stays j k l (cases_eq j k) writable;
    same_maker = λ a known. refl;
    same_context = λ a known. refl;
    more_begun = λ r h. h;
    still_gone = λ h. h;
    more_to_call = λ a h. h;
    same_least = refl;
  }

  pub writing_known : (k : ℕ) (cells : ℕ → ℕ → Value) (holds : ℕ → ℕ → Option ℕ)
      → ((j : ℕ) → (j ≡ k → ⊥) → holds j ≡ s.holds j)
      → IsWritable o s place b v k
      → IsKnown s
      → IsKnown (with_contents s cells holds)
  writing_known k cells holds groups writable known =
      let below = is_below k writable in
      record {
        is_fresh = known.is_fresh;
        is_empty = λ j u l. ap (λ (c : ℕ → Option ℕ). c u) (groups j (λ e. omega (arith, l, e, below)))
            ∙ known.is_empty j u (omega (arith, l));
        of_groups = known.of_groups;
      }

-- One step after another

module _ (at : Maker) (o o1 o2 : Origins) (s s1 s2 : Store) (first : Grows at o o1 s s1)
    (second : Grows at o1 o2 s1 s2) where
  within : (k : ℕ) → k < s.cell_count → k < s1.cell_count
  within k l = let more = first.counts in omega (arith, l, more)

  safe_then : (k : ℕ) → k < s.cell_count → IsSafe at o k → IsSafe at o1 k
  safe_then k l (inl frozen) = inl (first.same_frozen k l ∙ frozen)
  safe_then k l (inr elsewhere) = inr (λ e. elsewhere (sym (first.same_owner k l) ∙ e))

  pub grows_then : Grows at o o2 s s2
  grows_then = record {
    called = λ a h. second.called a (first.called a h);
    ended = λ a h. second.ended a (first.ended a h);
    same_cells = λ k v l i. second.same_cells k v (within k l) (safe_then k l i) ∙ first.same_cells k v l i;
    same_holds = λ k v l i. second.same_holds k v (within k l) (safe_then k l i) ∙ first.same_holds k v l i;
    counts = let m = first.counts in let n = second.counts in omega (arith, m, n);
    same_owner = λ k l. second.same_owner k (within k l) ∙ first.same_owner k l;
    same_frozen = λ k l. second.same_frozen k (within k l) ∙ first.same_frozen k l;
    same_maker = λ a has. second.same_maker a (λ e. has (sym (first.same_maker a has) ∙ e)) ∙ first.same_maker a has;
    same_context = λ a has. second.same_context a (λ e. has (sym (first.same_maker a has) ∙ e))
        ∙ first.same_context a has;
    more_begun = λ r h. second.more_begun r (first.more_begun r h);
    still_gone = λ h. second.still_gone (first.still_gone h);
    more_to_call = λ a h. second.more_to_call a (first.more_to_call a h);
    same_least = second.same_least ∙ first.same_least;
  }

-- What is known of numbers

pub contexts_known : (s after : Store) → ChangesContexts s after → IsKnown s → IsKnown after
contexts_known s after h known = record {
  is_fresh = λ a l. ap (λ (m : ℕ → Maker). m a) h.same_maker ∙ known.is_fresh a
      (subst (λ n. n ≤ a) h.same_group_count l);
  is_empty = λ k v l. ap (λ (c : ℕ → ℕ → Option ℕ). c k v) h.same_holds
      ∙ known.is_empty k v (subst (λ n. n ≤ k) h.same_count l);
  of_groups = λ g a e none. known.of_groups g a (sym (ap (λ (m : ℕ → Option ℕ). m g) h.same_member) ∙ e)
      (sym (ap (λ (m : ℕ → Maker). m a) h.same_maker) ∙ none);
}

pub block_known : (s : Store) (values : ℕ → Value) (groups : ℕ → Option ℕ) → IsKnown s
    → IsKnown (with_cells s values groups)
block_known s values groups known = record {
  is_fresh = known.is_fresh;
  is_empty = λ k v l. ap (λ (c : ℕ → Option ℕ). c v)
      (put_at-other s.holds s.cell_count groups k (λ e. omega (arith, l, e))) ∙ known.is_empty k v (omega (arith, l));
  of_groups = known.of_groups;
}

pub group_known : (s : Store) (maker : Maker) (context : Option ℕ) → (maker ≡ nobody → ⊥) → IsKnown s
    → IsKnown (with_group s maker context)
group_known s maker context has known = record {
  is_fresh = λ a l. put_at-other s.maker s.group_count maker a (λ e. omega (arith, e, l))
      ∙ known.is_fresh a (omega (arith, l));
  is_empty = known.is_empty;
  of_groups = λ g a e none. by_number g a e none (cases_eq a s.group_count);
}
  where
    by_number : (g a : ℕ) → s.member g ≡ Some a → put_at s.maker s.group_count maker a ≡ nobody
        → (a ≡ s.group_count) ⊎ (a ≡ s.group_count → ⊥)
        → ⊥
    by_number g a e none (inl q) =
        has (sym (put_at-same s.maker s.group_count maker) ∙ ap (put_at s.maker s.group_count maker) (sym q) ∙ none)
    by_number g a e none (inr ne) =
        known.of_groups g a e (sym (put_at-other s.maker s.group_count maker a ne) ∙ none)

-- a goroutine becomes a member of a group that is there, or leaves its own
pub joining_known : (s : Store) (g a : ℕ) → (s.maker a ≡ nobody → ⊥) → IsKnown s → IsKnown (with_member s g (Some a))
joining_known s g a has known = record {
  is_fresh = known.is_fresh;
  is_empty = known.is_empty;
  of_groups = λ h b e. by_number h b e (cases_eq h g);
}
  where
    by_number : (h b : ℕ) → put_at s.member g (Some a) h ≡ Some b → (h ≡ g) ⊎ (h ≡ g → ⊥) → s.maker b ≡ nobody → ⊥
    by_number h b e (inl q) = subst (λ c. s.maker c ≡ nobody → ⊥)
        (same_Some a b (sym (put_at-same s.member g (Some a)) ∙ ap (put_at s.member g (Some a)) (sym q) ∙ e)) has
    by_number h b e (inr ne) = known.of_groups h b (sym (put_at-other s.member g (Some a) h ne) ∙ e)

pub leaving_known : (s : Store) (g : ℕ) → IsKnown s → IsKnown (with_member s g None)
leaving_known s g known = record {
  is_fresh = known.is_fresh;
  is_empty = known.is_empty;
  of_groups = λ h b e. by_number h b e (cases_eq h g);
}
  where
    by_number : (h b : ℕ) → put_at s.member g None h ≡ Some b → (h ≡ g) ⊎ (h ≡ g → ⊥) → s.maker b ≡ nobody → ⊥
    by_number h b e (inl q) = absurd
        (none-some b (sym (put_at-same s.member g None) ∙ ap (put_at s.member g None) (sym q) ∙ e))
    by_number h b e (inr ne) = known.of_groups h b (sym (put_at-other s.member g None h ne) ∙ e)

-- What stays so

module _ (at : Maker) (o after_o : Origins) (s after : Store) (grows : Grows at o after_o s after) where
  -- a cell that nobody at that place writes
  abbrev pub IsKept : Option ℕ → Type 0
  IsKept cell = (k : ℕ) → cell ≡ Some k → (k < s.cell_count) × IsSafe at o k

  pub in_group_grows : (v : ℕ) (cell : Option ℕ) → IsKept cell → group_in_cell after v cell ≡ group_in_cell s v cell
  in_group_grows v None kept = refl
  in_group_grows v (Some k) kept = let r = kept k refl in grows.same_holds k v r.0 r.1

  pub in_cell_grows : (v : ℕ) (cell : Option ℕ) → IsKept cell → in_cell after v cell ≡ in_cell s v cell
  in_cell_grows v None kept = refl
  in_cell_grows v (Some k) kept = let r = kept k refl in grows.same_cells k v r.0 r.1

  pub maker_grows : (a : ℕ) (q : Place) → s.maker a ≡ frame_at q → after.maker a ≡ frame_at q
  maker_grows a q e = grows.same_maker a (λ none. frame-nobody q (sym e ∙ none)) ∙ e

  pub outside_grows : (a : ℕ) → s.maker a ≡ outside → after.maker a ≡ outside
  outside_grows a e = grows.same_maker a (λ none. outside-nobody (sym e ∙ none)) ∙ e

  pub counts_more : (k : ℕ) → k < s.cell_count → k < after.cell_count
  counts_more k l = let more = grows.counts in omega (arith, l, more)
