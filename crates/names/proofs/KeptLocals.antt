-- The steps of the search for the innermost local, over the locals as they are kept.
use Rattle.std.proofs.Common.{◌≡◌, ℕ, ◌+◌, ◌-◌, ◌/◌, ◌<◌, ◌≤◌, Option, Some, None, List, Bor, length, inl, inr, [], ◌∷◌, ◌++◌, get_or, refl, sym, ap, subst, ◌∙◌, arith, rules}
use Rattle.std.specs.Prelude.{slice_get, option_map, option_copied}
use Rattle.std.proofs.lemmas.List.{length-map}
use Rattle.std.proofs.lemmas.Option.{slice_get-map, slice_get-get_or, slice_get_read}
use Rattle.scopes.specs.declared.naming.LocalName.{LocalName}
use Rattle.scopes.specs.Views.{local_view}
use Rattle.meaning.specs.Scopes.{LocalName as Declared}
use Rattle.meaning.specs.Declarations.{innermost}
use Rattle.std.proofs.lemmas.Bool.{cases_lt}
use Rattle.names.specs.declared.order.Run.{Run}
use Rattle.names.specs.Ordered.{AreLinks, IsByStart, IsLink, IsRun, locals_view, run_or_empty}
use Rattle.names.specs.Before.{AllBegun, NoneBegun}
use Rattle.names.proofs.InnermostOf.{Left, left-last, left-link, left-hit, none-named, link-on, Linked, linked-push, all-linked}

pub kept-at :
    (xs : List LocalName) (i : ℕ) (d : LocalName) → i < length xs
    → slice_get (locals_view xs) i ≡ Some (local_view (get_or xs i d))
kept-at xs i d within = slice_get-map local_view xs i ∙ ap (option_map local_view) (slice_get-get_or xs i d within)

pub links-within : (xs : List LocalName) (links : List ℕ) → AreLinks (locals_view xs) links → length links ≡ length xs
links-within xs links are = are.as_many ∙ length-map xs local_view

pub run-within : (xs : List LocalName) (name : List ℕ) (run : Run) → IsRun (locals_view xs) name run → run.end ≤ length xs
run-within xs name run is = subst (λ (n : ℕ). run.end ≤ n) (length-map xs local_view) is.within

pub left-within :
    (xs : List LocalName) (name : List ℕ) (run : Run) (at end : ℕ) → IsRun (locals_view xs) name run
    → Left (locals_view xs) name run at end → end ≤ length xs
left-within xs name run at end is left =
    let upto = left.within in let within = run-within xs name run is in omega arith

pub link-at :
    (xs : List LocalName) (links : List ℕ) (i : ℕ) → AreLinks (locals_view xs) links → i < length xs
    → IsLink (locals_view xs) i (get_or links i 0)
link-at xs links i are within =
    are.each i (get_or links i 0) (slice_get-get_or links i 0 (omega (arith, links-within xs links are)))

module _ (xs : List LocalName) (name : List ℕ) (run : Run) (at end : ℕ) (is : IsRun (locals_view xs) name run)
    (left : Left (locals_view xs) name run at end) (some : run.start < end) where
  last-within : end - 1 < length xs
  last-within = let within = left-within xs name run at end is left in omega arith

  pub kept-link : (links : List ℕ) (d : LocalName) → AreLinks (locals_view xs) links
      → (get_or xs (end - 1) d).block.end ≤ at → Left (locals_view xs) name run at (get_or links (end - 1) 0)
  kept-link links d are ended =
      left-link (locals_view xs) name run at end (end - 1) (get_or links (end - 1) 0) (local_view (get_or xs (end - 1) d)) left
      (omega arith) (kept-at xs (end - 1) d last-within) ended (link-at xs links (end - 1) are last-within)

  pub kept-link_below : (links : List ℕ) → AreLinks (locals_view xs) links → get_or links (end - 1) 0 < end
  kept-link_below links are =
      let back = (link-at xs links (end - 1) are last-within).back in omega arith

  pub kept-last : (d : LocalName) → at < (get_or xs (end - 1) d).from → Left (locals_view xs) name run at (end - 1)
  kept-last d later =
      left-last (locals_view xs) name run at end (end - 1) (local_view (get_or xs (end - 1) d)) left
      (omega arith) (kept-at xs (end - 1) d last-within) later

  pub kept-hit : (d : LocalName) → (get_or xs (end - 1) d).from ≤ at → at < (get_or xs (end - 1) d).block.end
      → Some (local_view (get_or xs (end - 1) d)) ≡ innermost name at (locals_view xs)
  kept-hit d from open_yet =
      sym (left-hit (locals_view xs) name run at end (end - 1) (local_view (get_or xs (end - 1) d)) is left
      (omega arith) (omega arith) (kept-at xs (end - 1) d last-within) from open_yet)

-- what the look-up of a name says of its run
module _ (ls : List Declared) (name : List ℕ) (known : Option Run) (found : Option (Bor Run))
    (is : IsRun ls name (run_or_empty known)) (same : option_copied found ≡ known) where
  pub run-found : (run : Bor Run) → found ≡ Some run → IsRun ls name run.now
  run-found run e = subst (λ (o : Option Run). IsRun ls name (run_or_empty o)) (sym same ∙ ap option_copied e) is

  pub kept-none : (at : ℕ) → found ≡ None → None ≡ innermost name at ls
  kept-none at e =
      sym (none-named ls name (record { start = 0; end = 0 }) at
      (subst (λ (o : Option Run). IsRun ls name (run_or_empty o)) (sym same ∙ ap option_copied e) is) (omega arith))

-- The binary search

module _ (xs : List LocalName) (run : Run) (at k : ℕ) (d : LocalName) (by_start : IsByStart (locals_view xs) run)
    (within : k < length xs) where
  here : slice_get (locals_view xs) k ≡ Some (local_view (get_or xs k d))
  here = kept-at xs k d within

  -- the one at that place, as it is asked for
  same : (i : ℕ) (l : Declared) → slice_get (locals_view xs) i ≡ Some l → i ≡ k → l ≡ local_view (get_or xs k d)
  same i l e one =
      let at_k : slice_get (locals_view xs) k ≡ Some l = subst (λ (n : ℕ). slice_get (locals_view xs) n ≡ Some l) one e in
      let own = here in cc

  pub kept-begun : k < run.end → (get_or xs k d).block.start ≤ at → AllBegun (locals_view xs) run.start (k + 1) at
  kept-begun below begun i l w upto e = elim (cases_lt i k) [
    | inl before ↦ let no_later = by_start i k l (local_view (get_or xs k d)) w before below e here in omega arith
    | inr above ↦ subst (λ (x : Declared). x.block.start ≤ at) (sym (same i l e (omega arith))) begun
  ]

  pub kept-later : run.start ≤ k → at < (get_or xs k d).block.start → NoneBegun (locals_view xs) k run.end at
  kept-later from later i l w upto e = elim (cases_lt k i) [
    | inl after ↦ let no_earlier = by_start k i (local_view (get_or xs k d)) l from after upto here e in omega arith
    | inr under ↦ subst (λ (x : Declared). at < x.block.start) (sym (same i l e (omega arith))) later
  ]

pub middle_below : (low high : ℕ) → low < high → low + (high - low) / 2 < high
middle_below low high h = search rules

-- Links

pub kept-link_on :
    (xs : List LocalName) (links : List ℕ) (index end link : ℕ) (d e : LocalName) → Linked (locals_view xs) links index
    → IsLink (locals_view xs) index end → index < length xs → 0 < end
    → (get_or xs (end - 1) d).block.end ≤ (get_or xs index e).block.end → link ≡ get_or links (end - 1) link
    → IsLink (locals_view xs) index link
kept-link_on xs links index end link d e linked so_far within some ends is =
    let back = so_far.back in
    let many = linked.as_many in
    link-on (locals_view xs) index end (end - 1) link (local_view (get_or xs (end - 1) d)) (local_view (get_or xs index e))
    so_far (omega arith) (kept-at xs (end - 1) d (omega arith)) (kept-at xs index e within) ends
    (linked.each (end - 1) link (slice_get_read links (length links) (end - 1) link refl (omega arith) is))

pub kept-link_smaller :
    (ls : List Declared) (links : List ℕ) (index end link : ℕ) → Linked ls links index → IsLink ls index end → 0 < end
    → link ≡ get_or links (end - 1) link → link < end
kept-link_smaller ls links index end link linked so_far some is =
    let back = so_far.back in
    let many = linked.as_many in
    let before =
    (linked.each (end - 1) link (slice_get_read links (length links) (end - 1) link refl (omega arith) is)).back in
    omega arith

pub kept-push :
    (xs : List LocalName) (links pushed : List ℕ) (index link : ℕ) → Linked (locals_view xs) links index
    → IsLink (locals_view xs) index link → pushed ≡ links ++ link ∷ [] → Linked (locals_view xs) pushed (index + 1)
kept-push xs links pushed index link linked is_link same =
    subst (λ (items : List ℕ). Linked (locals_view xs) items (index + 1)) (sym same)
    (linked-push (locals_view xs) links index link linked is_link)

pub kept-links :
    (xs : List LocalName) (links : List ℕ) (index : ℕ) → Linked (locals_view xs) links index → length xs ≤ index
    → index ≤ length xs → AreLinks (locals_view xs) links
kept-links xs links index linked all upto =
    all-linked (locals_view xs) links index (omega (arith, length-map xs local_view)) linked
