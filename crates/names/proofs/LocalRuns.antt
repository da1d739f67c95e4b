-- Where the locals of each name stand among those in order, found one local after the other.
use Rattle.std.proofs.Common.{◌≡◌, ℕ, ◌+◌, ◌<◌, ◌≤◌, inl, inr, Bool, true, false, if◌then◌else◌, Option, Some, None, List, length, get_or, Bor, bytes_eq, refl, sym, ap, subst, ◌∙◌, arith}
use Rattle.std.specs.Prelude.{slice_get, not}
use Rattle.std.specs.Ordering.{nat_cmp}
use Rattle.std.specs.Cmp.Lexicographic.{slice_cmp}
use Rattle.std.specs.declared.cmp.Ordering.TheVariants.{Less}
use Rattle.std.proofs.lemmas.Bool.{cases_lt, not-true, not-false, true≢false}
use Rattle.std.proofs.lemmas.Cmp.{nat_list_cmp_total, tied_itself}
use Rattle.std.proofs.lemmas.List.{length-map}
use Rattle.std.proofs.lemmas.Map.Text.{hash_map_updates_str}
use Rattle.std.proofs.lemmas.Option.{get_or_from_slice_get, slice_get_within, slice_get-get_or}
use Rattle.std.proofs.lemmas.Slice.Eq.{bytes_eq-Decides}
use Rattle.indexmap.specs.IndexMap.{IndexMap, Updates}
use Rattle.scopes.specs.declared.naming.LocalName.{LocalName as KeptLocal}
use Rattle.scopes.specs.Views.{local_view}
use Rattle.meaning.specs.Scopes.{LocalName}
use Rattle.names.specs.declared.order.Run.{Run}
use Rattle.names.specs.Answers.{at_name}
use Rattle.names.specs.Ordered.{AreOrdered, AreRuns, IsNotAfter, IsRun, locals_view, run_or_empty}
use Rattle.names.proofs.KeptLocals.{kept-at}

-- the locals of the name among the first ones are those of the run
pub record RunSoFar (ls : List LocalName) (number : ℕ) (name : List ℕ) (run : Run) : Type 0 where
  pub in_order : run.start ≤ run.end
  pub within : run.end ≤ number
  pub named : (i : ℕ) (l : LocalName) → run.start ≤ i → i < run.end → slice_get ls i ≡ Some l → l.name ≡ name
  pub all : (i : ℕ) (l : LocalName) → i < number → slice_get ls i ≡ Some l → l.name ≡ name → (run.start ≤ i) × (i < run.end)

abbrev pub RunsSoFar : List LocalName → ℕ → (List ℕ → Option Run) → Type 0
RunsSoFar ls number runs = (name : List ℕ) → RunSoFar ls number name (run_or_empty (runs name))

-- from the start on the first locals have one name, and none before it has that
pub record Starts (ls : List LocalName) (number start : ℕ) : Type 0 where
  pub back : start ≤ number
  pub same :
      (i : ℕ) (l m : LocalName) → start ≤ i → i < number → slice_get ls i ≡ Some l → slice_get ls start ≡ Some m
      → l.name ≡ m.name
  pub first : (i : ℕ) (l m : LocalName) → i < start → slice_get ls i ≡ Some l → slice_get ls start ≡ Some m → l.name ≡ m.name → ⊥

pub starts-none : (ls : List LocalName) → Starts ls 0 0
starts-none ls = record {
  back = omega arith;
  same = λ i l m from below. absurd (omega arith);
  first = λ i l m below. absurd (omega arith);
}

pub runs-none : (ls : List LocalName) (runs : List ℕ → Option Run) → ((name : List ℕ) → runs name ≡ None) → RunsSoFar ls 0 runs
runs-none ls runs none name =
    subst (λ (o : Option Run). RunSoFar ls 0 name (run_or_empty o)) (sym (none name)) (record {
      in_order = omega arith;
      within = omega arith;
      named = λ i l from below. absurd (omega arith);
      all = λ i l below. absurd (omega arith);
    })

not_less : (name : List ℕ) → slice_cmp nat_cmp name name ≡ Less → ⊥
not_less name e = let same = tied_itself nat_list_cmp_total name in cc

one_of : (ls : List LocalName) (i k : ℕ) (l m : LocalName) → slice_get ls i ≡ Some l → slice_get ls k ≡ Some m → i ≡ k → l ≡ m
one_of ls i k l m here there one =
    let at_k : slice_get ls k ≡ Some l = subst (λ (n : ℕ). slice_get ls n ≡ Some l) one here in cc

-- what stands between two locals of one name has that name
between : (l s x : LocalName) → IsNotAfter l s → IsNotAfter s x → l.name ≡ x.name → s.name ≡ x.name
between l s x (inl a) (inl b) e =
    absurd (not_less x.name (subst (λ (n : List ℕ). slice_cmp nat_cmp n x.name ≡ Less) e
    (nat_list_cmp_total.trans l.name s.name x.name a b)))
between l s x a (inr b) e = b.0
between l s x (inr a) (inl b) e = sym a.0 ∙ e

module _ (ls : List LocalName) (ordered : AreOrdered ls) where
  in_order :
      (i j : ℕ) (l m : LocalName) → i < j → slice_get ls i ≡ Some l → slice_get ls j ≡ Some m → IsNotAfter l m
  in_order i j l m below here there =
      let pair = ordered i j l below (slice_get_within ls j m there) in
      subst (λ (x : LocalName). IsNotAfter x m) (get_or_from_slice_get ls i l l here)
      (subst (λ (x : LocalName). IsNotAfter (get_or ls i l) x) (get_or_from_slice_get ls j m l there) pair)

  pub all-runs : (number : ℕ) (runs : List ℕ → Option Run) → RunsSoFar ls number runs → number ≡ length ls → AreRuns ls runs
  all-runs number runs so_far whole = record { each = each }
    where
      each : (name : List ℕ) → IsRun ls name (run_or_empty (runs name))
      each name = record {
        in_order = run.in_order;
        within = let within = run.within in omega (arith, whole);
        named = run.named;
        all = λ i l here. run.all i l (let within = slice_get_within ls i l here in omega (arith, whole)) here;
        by_start = λ i j l m from below upto here there. elim (in_order i j l m below here there) [
          | inl less ↦ absurd (not_less m.name (subst (λ (n : List ℕ). slice_cmp nat_cmp n m.name ≡ Less)
              (run.named i l from (omega (arith, below, upto)) here
              ∙ sym (run.named j m (omega (arith, from, below)) upto there)) less))
          | inr p ↦ p.1
        ];
      }
        where
          run : RunSoFar ls number name (run_or_empty (runs name))
          run = so_far name

  module _ (index start : ℕ) (s x : LocalName) (so_far : Starts ls index start) (first : slice_get ls start ≡ Some s)
      (own : slice_get ls index ≡ Some x) where
    pub starts-same : s.name ≡ x.name → Starts ls (index + 1) start
    starts-same e = record {
      back = let back = so_far.back in omega arith;
      same = λ i l m from below here there. elim (cases_lt i index) [
        | inl before ↦ so_far.same i l m from before here there
        | inr above ↦
            ap (λ (d : LocalName). d.name) (one_of ls i index l x here own (omega arith)) ∙ sym e
            ∙ ap (λ (d : LocalName). d.name) (one_of ls start start s m first there refl)
      ];
      first = so_far.first;
    }

    -- another name than that of those before it has not been met
    is_new : (s.name ≡ x.name → ⊥) → (i : ℕ) (l : LocalName) → i < index → slice_get ls i ≡ Some l → l.name ≡ x.name → ⊥
    is_new other i l below here e = elim (cases_lt i start) [
      | inr above ↦ other (sym (so_far.same i l s above below here first) ∙ e)
      | inl under ↦ elim (cases_lt start index) [
        | inl before ↦
            other (between l s x (in_order i start l s under here first) (in_order start index s x before first own) e)
        | inr one ↦
            let back = so_far.back in
            other (ap (λ (d : LocalName). d.name) (one_of ls start index s x first own (omega arith)))
      ]
    ]

    pub starts-new : (s.name ≡ x.name → ⊥) → Starts ls (index + 1) index
    starts-new other = record {
      back = omega arith;
      same = λ i l m from below here there.
          ap (λ (d : LocalName). d.name) (one_of ls i index l m here there (omega arith));
      first = λ i l m below here there e.
          is_new other i l below here (e ∙ ap (λ (d : LocalName). d.name) (one_of ls index index m x there own refl));
    }

module _ (ls : List LocalName) (index start : ℕ) (x : LocalName) (starts : Starts ls (index + 1) start) (from : start ≤ index)
    (own : slice_get ls index ≡ Some x) where
  within : index < length ls
  within = slice_get_within ls index x own

  abbrev s : LocalName
  s = get_or ls start x

  first : slice_get ls start ≡ Some s
  first = slice_get-get_or ls start x (omega (arith, within))

  last : x.name ≡ s.name
  last = starts.same index x s from (omega arith) own first

  pub run-next : RunSoFar ls (index + 1) x.name (record { start = start; end = index + 1 })
  run-next = record {
    in_order = omega arith;
    within = omega arith;
    named = λ i l above below here. starts.same i l s above below here first ∙ sym last;
    all = λ i l below here e. elim (cases_lt i start) [
      | inl under ↦ absurd (starts.first i l s under here first (e ∙ last))
      | inr above ↦ (above, below)
    ];
  }

  run-kept : (name : List ℕ) (run : Run) → (x.name ≡ name → ⊥) → RunSoFar ls index name run → RunSoFar ls (index + 1) name run
  run-kept name run other so_far = record {
    in_order = so_far.in_order;
    within = let within = so_far.within in omega arith;
    named = so_far.named;
    all = λ i l below here e. elim (cases_lt i index) [
      | inl before ↦ so_far.all i l before here e
      | inr above ↦
          absurd (other (ap (λ (d : LocalName). d.name) (sym (one_of ls i index l x here own (omega arith))) ∙ e))
    ];
  }

  pub runs-next :
      {S : Type 0} (before after : IndexMap (Bor (List ℕ)) Run S) (key : Bor (List ℕ)) → key.now ≡ x.name
      → Updates (λ a b. bytes_eq a.now b.now) before after key (Some (record { start = start; end = index + 1 }))
      → RunsSoFar ls index (at_name before) → RunsSoFar ls (index + 1) (at_name after)
  runs-next before after key named updates so_far name =
      subst (λ (o : Option Run). RunSoFar ls (index + 1) name (run_or_empty o))
      (sym (hash_map_updates_str key.now before after (Some run) updates name)) (by (bytes_eq key.now name) refl)
    where
      run : Run
      run = record { start = start; end = index + 1 }

      by : (b : Bool) → bytes_eq key.now name ≡ b
          → RunSoFar ls (index + 1) name (run_or_empty (if b then Some run else at_name before name))
      by true e =
          subst (λ (n : List ℕ). RunSoFar ls (index + 1) n run) (sym named ∙ (bytes_eq-Decides key.now name).0 e) run-next
      by false e = run-kept name (run_or_empty (at_name before name))
          (λ same. true≢false (sym ((bytes_eq-Decides key.now name).1 (named ∙ same)) ∙ e)) (so_far name)

-- the same of the locals as they are kept

-- one more of the first locals, and the start of its run
abbrev pub Next : List LocalName → ℕ → ℕ → Type 0
Next ls index start = Starts ls (index + 1) start × (start ≤ index)

module _ (xs : List KeptLocal) (index start : ℕ) (d e : KeptLocal) (r : Bool) (ordered : AreOrdered (locals_view xs))
    (so_far : Starts (locals_view xs) index start) (within : index < length xs)
    (test : r ≡ not (bytes_eq (get_or xs start d).name.now (get_or xs index e).name.now)) where
  started : slice_get (locals_view xs) start ≡ Some (local_view (get_or xs start d))
  started = let back = so_far.back in kept-at xs start d (omega (arith, within))

  pub kept-new : r ≡ true → Next (locals_view xs) index index
  kept-new is =
      let other : bytes_eq (get_or xs start d).name.now (get_or xs index e).name.now ≡ false = not-true _ (sym test ∙ is) in (
        starts-new (locals_view xs) ordered index start (local_view (get_or xs start d)) (local_view (get_or xs index e)) so_far
            started (kept-at xs index e within) (λ same. true≢false (sym ((bytes_eq-Decides _ _).1 same) ∙ other)),
        omega arith,
      )

  pub kept-same : r ≡ false → Next (locals_view xs) index start
  kept-same is =
      let same : bytes_eq (get_or xs start d).name.now (get_or xs index e).name.now ≡ true = not-false _ (sym test ∙ is) in (
        starts-same (locals_view xs) ordered index start (local_view (get_or xs start d)) (local_view (get_or xs index e)) so_far
            started (kept-at xs index e within) ((bytes_eq-Decides _ _).0 same),
        so_far.back,
      )

pub kept-runs :
    {S : Type 0} (xs : List KeptLocal) (index start : ℕ) (d : KeptLocal) (before after : IndexMap (Bor (List ℕ)) Run S)
    → Next (locals_view xs) index start → index < length xs
    → Updates (λ a b. bytes_eq a.now b.now) before after (get_or xs index d).name (Some (record { start = start; end = index + 1 }))
    → RunsSoFar (locals_view xs) index (at_name before) → RunsSoFar (locals_view xs) (index + 1) (at_name after)
kept-runs xs index start d before after next within updates so_far =
    runs-next (locals_view xs) index start (local_view (get_or xs index d)) next.0 next.1 (kept-at xs index d within)
    before after (get_or xs index d).name refl updates so_far

pub kept-all :
    (xs : List KeptLocal) (index : ℕ) (runs : List ℕ → Option Run) → AreOrdered (locals_view xs)
    → RunsSoFar (locals_view xs) index runs → length xs ≤ index → index ≤ length xs → AreRuns (locals_view xs) runs
kept-all xs index runs ordered so_far all upto =
    all-runs (locals_view xs) ordered index runs so_far (omega (arith, length-map xs local_view))
