-- Where more is known of the functions to which a file hands something, no more is found in it: a cancel variable is left
-- as it was, or safe, and a group as it was.
use Rattle.std.proofs.Common.{◌≡◌, ℕ, inl, inr, Bool, true, false, ◌&&◌, List, [], ◌∷◌, ◌++◌, Option, Some, None, Contains, refl, sym, ap, ◌∙◌}
use Rattle.std.specs.Prelude.{◌==◌, if◌then◌else◌}
use Rattle.std.specs.List.{list_any}
use Rattle.std.proofs.lemmas.Bool.{false≢true, and_parts, and_from, or_cases, or_left, or_right}
use Rattle.std.proofs.lemmas.List.Elements.{Contains-append_left}
use Rattle.calls_flags.proofs.ComesBack.{by_code_alone}
use Rattle.calls_flags.proofs.MoreCalls.{NoWorse, after_no_worse, same_group}
use Rattle.meaning.proofs.Membership.{contains_here, contains_there}
use Rattle.meaning.specs.BodyEvents.{Variable, bodies_of}
use Rattle.meaning.specs.Classes.{Promises, CancelClass, opened, kept, safe, pending, GroupClass, entry_cancel, change_cancel, cancel_after, entry_group, group_after}
use Rattle.meaning.specs.Code.{Occurrence}
use Rattle.meaning.specs.Lists.{Reaches, stopped}
use Rattle.meaning.specs.Mentions.{BodyPlace}
use Rattle.meaning.specs.Uses.{Callee, VariableAt, Sent, go_call, go_pass, go_literal, Event, other, obtain, obtain_kept, renew, keep, call_kept, defer_kept, give, give_field, clear, call, defer_call, pass, defer_pass, lend, start, try, wait, defer_wait, make, defer_literal, go, return_event, Seen}
use Rattle.meaning_packages.specs.CallsFlags.{Flags, FileWithCredits, flag_of, calls_by, AreConsistent}
use Rattle.meaning_packages.specs.Credits.{Credits, begun_after, promises_in, no_calls}
use Rattle.meaning_packages.specs.PathFaults.{PathFault, Paths, paths_of, cancel_class, is_lost, PassesOn, passes, defers, LeavesLive, IsLeft, IsPathFault, loses_cancel, loses_group, returns_live, returns_open, returns_kept, returns_pending, KeepsCall, IsPassFault, passes_on, IsFaultOf, of_a_pass, of_a_path}
use Rattle.meaning_reports.specs.PackageReports.{IsFileFinding, outside_bodies, of_use, of_path}
use Rattle.meaning_reports.specs.UsedImports.{HandsTo, HandsThere}
use Rattle.meaning_reports.specs.UsedImports as used
use Rattle.meaning_runs.proofs.EventSources.{has_source}
use Rattle.meaning_runs.proofs.HandedEvents.{from_source}
use Rattle.meaning_runs.specs.Bodies.{Body}
use Rattle.report.specs.Entries.{Entry}

-- An event

passed_so : (t b c : Bool) (k j : CancelClass) → (b ≡ true → c ≡ true) → NoWorse k j
    → NoWorse (if t && b then safe else k) (if t && c then safe else j)
passed_so false b c k j more h = h
passed_so true false false k j more h = h
passed_so true false true k j more h = inr refl
passed_so true true c k j more h = inr (ap (λ x. if x then safe else j) (more refl))

-- where more is known of a function, more is known of what it gets
sent_grows_by : (fewer more : Callee → ℕ → Bool) {f : Callee} → ((n : ℕ) → fewer f n ≡ true → more f n ≡ true)
    → (v : ℕ) (xs : List Sent) → list_any (λ x. (x.number == v) && fewer f x.position) xs ≡ true
    → list_any (λ x. (x.number == v) && more f x.position) xs ≡ true
sent_grows_by fewer more grows v [] e = absurd (false≢true e)
sent_grows_by fewer more {f} grows v (x ∷ xs) e =
    elim (or_cases ((x.number == v) && fewer f x.position) _ e) [
      | inl here ↦
          let parts = and_parts (x.number == v) (fewer f x.position) here in
          or_left ((x.number == v) && more f x.position) _
          (and_from (x.number == v) (more f x.position) parts.0 (grows x.position parts.1))
      | inr later ↦ or_right ((x.number == v) && more f x.position) _ (sent_grows_by fewer more grows v xs later)
    ]

module _ (fewer more : Callee → ℕ → Bool) (credits : ℕ → ℕ → Bool) where
  abbrev by_fewer : Promises
  by_fewer = record { calls = fewer; credits = credits }

  abbrev by_more : Promises
  by_more = record { calls = more; credits = credits }

  -- where it hands nothing to a function, nothing that is known of functions matters
  same_known : (v : ℕ) (e : Event) (k j : CancelClass) → NoWorse k j
      → NoWorse (change_cancel by_more v e k) (change_cancel by_more v e j)
  same_known v e k j h =
      after_no_worse more more (λ f n known. known) credits v k j (record { at = 0; order = 0; event = e } ∷ []) h

  change_so : (v : ℕ) (e : Event)
      → ((f : Callee) (n : ℕ) → HandsTo f e → fewer f n ≡ true → more f n ≡ true)
      → (k j : CancelClass) → NoWorse k j
      → NoWorse (change_cancel by_fewer v e k) (change_cancel by_more v e j)
  change_so v other grows k j h = same_known v other k j h
  change_so v (obtain u f n is_declared) grows k j h = same_known v (obtain u f n is_declared) k j h
  change_so v (obtain_kept u f n x) grows k j h = same_known v (obtain_kept u f n x) k j h
  change_so v (renew u x) grows k j h = same_known v (renew u x) k j h
  change_so v (keep u x) grows k j h = same_known v (keep u x) k j h
  change_so v (call_kept u x) grows k j h = same_known v (call_kept u x) k j h
  change_so v (defer_kept u x) grows k j h = same_known v (defer_kept u x) k j h
  change_so v (give u x) grows k j h = same_known v (give u x) k j h
  change_so v (give_field u) grows k j h = same_known v (give_field u) k j h
  change_so v (clear u) grows k j h = same_known v (clear u) k j h
  change_so v (call u) grows k j h = same_known v (call u) k j h
  change_so v (defer_call u) grows k j h = same_known v (defer_call u) k j h
  change_so v (pass u f n) grows k j h =
      passed_so (u.number == v) (fewer f n) (more f n) k j (grows f n used.passes) h
  change_so v (defer_pass u f n) grows k j h =
      passed_so (u.number == v) (fewer f n) (more f n) k j (grows f n used.defers) h
  change_so v (lend g f n) grows k j h = same_known v (lend g f n) k j h
  change_so v (start g None) grows k j h = same_known v (start g None) k j h
  change_so v (start g (Some literal)) grows k j h = same_known v (start g (Some literal)) k j h
  change_so v (try g literal) grows k j h = same_known v (try g literal) k j h
  change_so v (wait g) grows k j h = same_known v (wait g) k j h
  change_so v (defer_wait g) grows k j h = same_known v (defer_wait g) k j h
  change_so v (make g state) grows k j h = same_known v (make g state) k j h
  change_so v (defer_literal literal) grows k j h = same_known v (defer_literal literal) k j h
  change_so v (go (go_call u)) grows k j h = same_known v (go (go_call u)) k j h
  change_so v (go (go_pass f xs)) grows k j h =
      passed_so true (list_any (λ x. (x.number == v) && fewer f x.position) xs)
      (list_any (λ x. (x.number == v) && more f x.position) xs) k j
      (sent_grows_by fewer more (λ n. grows f n used.goes) v xs) h
  change_so v (go (go_literal literal)) grows k j h = same_known v (go (go_literal literal)) k j h
  change_so v (return_event handed) grows k j h = same_known v (return_event handed) k j h

  after_so : (v : ℕ) (k j : CancelClass) (t : List (Occurrence Event))
      → ((o : Occurrence Event) → Contains t o → (f : Callee) (n : ℕ) → HandsTo f o.event → fewer f n ≡ true → more f n ≡ true)
      → NoWorse k j
      → NoWorse (cancel_after by_fewer v k t) (cancel_after by_more v j t)
  after_so v k j [] grows h = h
  after_so v k j (o ∷ t) grows h =
      after_so v (change_cancel by_fewer v o.event k) (change_cancel by_more v o.event j) t
      (λ p among. grows p (contains_there o p t among))
      (change_so v o.event (grows o (contains_here o t)) k j h)

  -- groups don't go by what is known of functions
  group_so : (v : ℕ) (k : GroupClass) (t : List (Occurrence Event)) → group_after by_fewer v k t ≡ group_after by_more v k t
  group_so v k t =
      sym (same_group no_calls fewer (λ f n bad. absurd (false≢true bad)) credits v k t)
      ∙ same_group no_calls more (λ f n bad. absurd (false≢true bad)) credits v k t

-- A file

module _ (fewer more : Callee → ℕ → Bool) (seen : Seen)
    (grows : (f : Callee) → HandsThere seen f → (k : ℕ) → fewer f k ≡ true → more f k ≡ true) where
  unknown_so : (f : Callee) (k : ℕ) → HandsThere seen f → more f k ≡ false → fewer f k ≡ false
  unknown_so f k hands e = by (fewer f k) (grows f hands k)
    where
      by : (t : Bool) → (t ≡ true → more f k ≡ true) → t ≡ false
      by true h = absurd (false≢true (sym e ∙ h refl))
      by false h = refl

  module _ (credits : Credits) (b : BodyPlace) (is_body : Contains (bodies_of seen) b) where
    abbrev before : Paths
    before = paths_of seen (promises_in fewer credits b.at) b

    abbrev after : Paths
    after = paths_of seen (promises_in more credits b.at) b

    abbrev its_body : Body
    its_body = record { home = 0; file = seen; place = b }

    no_worse : (v : Variable) (t : List (Occurrence Event)) (o : Occurrence Event) → Reaches before.code t o
        → NoWorse (cancel_class before v t) (cancel_class after v t)
    no_worse v t o reaches =
        after_so fewer more (begun_after b.at credits) v.number (entry_cancel v.role) (entry_cancel v.role) t
        (λ p among f n hands.
        grows f (from_source its_body is_body f p.event
        (has_source its_body (t ++ o ∷ []) stopped reaches p (Contains-append_left t (o ∷ []) p among)) hands) n)
        (inl refl)

    -- a class that is not safe was the same before
    was_so : (v : Variable) (t : List (Occurrence Event)) (o : Occurrence Event) → Reaches before.code t o
        → (k : CancelClass) → (k ≡ safe → ⊥)
        → cancel_class after v t ≡ k
        → cancel_class before v t ≡ k
    was_so v t o reaches k none e = elim (no_worse v t o reaches) [
      | inl same ↦ sym same ∙ e
      | inr saved ↦ absurd (none (sym e ∙ saved))
    ]

    lost_so : (v : Variable) (t : List (Occurrence Event)) (o : Occurrence Event) → Reaches before.code t o
        → is_lost after.variables (cancel_class after v t) ≡ true
        → is_lost before.variables (cancel_class before v t) ≡ true
    lost_so v t o reaches e = elim (no_worse v t o reaches) [
      | inl same ↦ ap (is_lost before.variables) (sym same) ∙ e
      | inr saved ↦ absurd (false≢true (ap (is_lost before.variables) (sym saved) ∙ e))
    ]

    live_so : (g : Variable) (t : List (Occurrence Event)) → LeavesLive after g t → LeavesLive before g t
    live_so g t h = record {
      is_of_body = h.is_of_body;
      is_group_variable = h.is_group_variable;
      is_live = group_so fewer more (begun_after b.at credits) g.number (entry_group g.role) t ∙ h.is_live;
    }

    left_so : (v : Variable) (t : List (Occurrence Event)) (o : Occurrence Event) → Reaches before.code t o
        → IsLeft after v t o
        → IsLeft before v t o
    left_so v t o reaches h = record {
      left_to = h.left_to;
      other_list = h.other_list;
      there = h.there;
      is_pending = was_so v t o reaches (pending h.left_to.number) (λ e. cc) h.is_pending;
      reaches = h.reaches;
      same_offset = h.same_offset;
      same_order = h.same_order;
      is_live = live_so h.left_to h.other_list h.is_live;
    }

    path_fault_so : (f : PathFault) → IsPathFault after f → IsPathFault before f
    path_fault_so f (loses_cancel v u t o among kind reaches binds same lost) =
        loses_cancel v u t o among kind reaches binds same (lost_so v t o reaches lost)
    path_fault_so f (loses_group g u state t o reaches makes same live) =
        loses_group g u state t o reaches makes same (live_so g t live)
    path_fault_so f (returns_live g handed t o comes declared live) =
        returns_live g handed t o
        (record { reaches = comes.reaches; is_return = comes.is_return }) declared (live_so g t live)
    path_fault_so f (returns_open v handed t o comes owes is_open) =
        returns_open v handed t o (record { reaches = comes.reaches; is_return = comes.is_return })
        (record {
          is_of_body = owes.is_of_body;
          is_cancel_variable = owes.is_cancel_variable;
          is_declared_here = owes.is_declared_here;
          is_kept = owes.is_kept;
        }) (was_so v t o comes.reaches opened (λ e. cc) is_open)
    path_fault_so f (returns_kept v handed t o comes owes is_kept elsewhere) =
        returns_kept v handed t o (record { reaches = comes.reaches; is_return = comes.is_return })
        (record {
          is_of_body = owes.is_of_body;
          is_cancel_variable = owes.is_cancel_variable;
          is_declared_here = owes.is_declared_here;
          is_kept = owes.is_kept;
        }) (was_so v t o comes.reaches kept (λ e. cc) is_kept) elsewhere
    path_fault_so f (returns_pending v handed t o comes owes left) =
        returns_pending v handed t o (record { reaches = comes.reaches; is_return = comes.is_return })
        (record {
          is_of_body = owes.is_of_body;
          is_cancel_variable = owes.is_cancel_variable;
          is_declared_here = owes.is_declared_here;
          is_kept = owes.is_kept;
        }) (left_so v t o comes.reaches left)

    handed_at : (at : ℕ) (e : Event) → Contains (before.events at) e → (f : Callee) → HandsTo f e → HandsThere seen f
    handed_at at e among f hands = record {
      body = b;
      at = at;
      event = e;
      is_of_file = is_body;
      is_event = among;
      hands = hands;
    }

    passes_so : (at : ℕ) (e : Event) (u : VariableAt) → Contains (before.events at) e → PassesOn after.promises e u
        → PassesOn before.promises e u
    passes_so at e u among (passes {f = f} {k = k} unknown) =
        passes (unknown_so f k (handed_at at e among f used.passes) unknown)
    passes_so at e u among (defers {f = f} {k = k} unknown) =
        defers (unknown_so f k (handed_at at e among f used.defers) unknown)

    pass_fault_so : (f : PathFault) → IsPassFault after f → IsPassFault before f
    pass_fault_so f (passes_on v u at e is_first among kind there passing same) =
        passes_on v u at e is_first among kind there (passes_so at e u there passing) same

    fault_so : (f : PathFault) → IsFaultOf seen (promises_in more credits b.at) b f
        → IsFaultOf seen (promises_in fewer credits b.at) b f
    fault_so f (of_a_pass g fault) = of_a_pass g (pass_fault_so g fault)
    fault_so f (of_a_path g few fault) = of_a_path g few (path_fault_so g fault)

    keeps_still : (v : Variable) → KeepsCall before v → KeepsCall after v
    keeps_still v h = record {
      never_open = λ handed t o comes is_open.
          h.never_open handed t o (record { reaches = comes.reaches; is_return = comes.is_return })
          (was_so v t o comes.reaches opened (λ e. cc) is_open);
      never_kept = λ handed t o comes is_kept.
          h.never_kept handed t o (record { reaches = comes.reaches; is_return = comes.is_return })
          (was_so v t o comes.reaches kept (λ e. cc) is_kept);
      never_left = λ handed t o comes left.
          h.never_left handed t o (record { reaches = comes.reaches; is_return = comes.is_return })
          (left_so v t o comes.reaches left);
    }

pub finding_so : (fewer more : Callee → ℕ → Bool) (number : ℕ) (file : FileWithCredits)
    → ((f : Callee) → HandsThere file.seen f → (k : ℕ) → fewer f k ≡ true → more f k ≡ true)
    → (x : Entry) → IsFileFinding more number file x
    → IsFileFinding fewer number file x
finding_so fewer more number file grows x (outside_bodies f h) = outside_bodies f h
finding_so fewer more number file grows x (of_use b f there h) = of_use b f there h
finding_so fewer more number file grows x (of_path b f there h) =
    of_path b f there (fault_so fewer more file.seen grows file.credits b there f h)

-- Flags

-- with more that is known of those functions of imports, and more of the package
pub calls_grow : (own wider : Flags) (fewer more : List ℕ → Flags) (seen : Seen)
    → ((name : List ℕ) (k : ℕ) → own name k ≡ true → wider name k ≡ true)
    → ((path : List ℕ) (f : Callee) → f.path ≡ Some path → HandsThere seen f → (k : ℕ) → fewer path f.name k ≡ true
    → more path f.name k ≡ true)
    → (f : Callee) → HandsThere seen f
    → (k : ℕ)
    → calls_by own fewer f k ≡ true
    → calls_by wider more f k ≡ true
calls_grow own wider fewer more seen widen grow f hands k e = by f.path refl e
  where
    by : (path : Option (List ℕ)) → f.path ≡ path → flag_of own fewer path f.name k ≡ true
        → flag_of wider more path f.name k ≡ true
    by None is h = widen f.name k h
    by (Some path) is h = grow path f is hands k h

module _ (own : Flags) (fewer more : List ℕ → Flags) (files : List FileWithCredits)
    (grow : (file : FileWithCredits) → Contains files file → (path : List ℕ) (f : Callee) → f.path ≡ Some path
    → HandsThere file.seen f → (k : ℕ) → fewer path f.name k ≡ true
    → more path f.name k ≡ true) where
  pub consistent_still : AreConsistent files fewer own → AreConsistent files more own
  consistent_still are = record {
    each = λ name k e.
        let kept = are.each name k e in
        record {
          file = kept.file;
          body = kept.body;
          variable = kept.variable;
          is_of_package = kept.is_of_package;
          is_claim = kept.is_claim;
          comes_back =
              by_code_alone kept.file.seen.known.edition kept.file.seen
              (promises_in (calls_by own fewer) kept.file.credits kept.body.at)
              (promises_in (calls_by own more) kept.file.credits kept.body.at) kept.body kept.comes_back;
          keeps =
              keeps_still (calls_by own fewer) (calls_by own more) kept.file.seen
              (calls_grow own own fewer more kept.file.seen (λ n m h. h) (grow kept.file kept.is_of_package))
              kept.file.credits kept.body kept.is_claim.is_body kept.variable kept.keeps;
        };
  }
