-- At each return each cancel function that the frame owes is seen to: it was called, or is to call, or a goroutine was
-- started whose function sees to it. A goroutine takes on what stands deeper each time, and no body is so deep.
use Rattle.std.proofs.Common.{◌≡◌, ℕ, zero, suc, ◌+◌, ◌<◌, ◌≤◌, inl, inr, List, [], ◌∷◌, Some, Contains, slice_get, subst, arith}
use Rattle.meaning.specs.Uses.{Seen}
use Rattle.meaning.specs.Mentions.{BodyPlace}
use Rattle.meaning.specs.BodyEvents.{bodies_of}
use Rattle.meaning.proofs.Membership.{contains_here, contains_there, contains_cases, contains_nil}
use Rattle.meaning_reports.specs.Loaded.{LoadedPackage, seen_files}
use Rattle.meaning_runs.specs.Bodies.{Program, Body, IsOf}
use Rattle.meaning_runs.specs.World.{Frame, World}
use Rattle.meaning_runs.specs.Runs.{Run, IsReturning, Owes, KeepsRunning, not_yet, runs_on, IsSeenTo, is_so, by_goroutine, IsCalledFor}
use Rattle.meaning_runs.proofs.BegunRoots.{LowestSees, no_frame, step_lowest, IsSeenBy, at_return, met_is_seen, roots_see}
use Rattle.meaning_runs.proofs.CaredActs.{BodiesAreKept}
use Rattle.meaning_runs.proofs.QuietGroups.{GroupsAreSeenOver, owed_is_met}
use Rattle.meaning_runs.proofs.Remembered.{memory_of}
use Rattle.meaning_runs.proofs.Starts.{least_is}
use Rattle.meaning_runs.proofs.WhoStarts.{BodiesAreWellUsed}

-- Depths

abbrev total : {A : Type 0} → (A → ℕ) → List A → ℕ
total f [] = 0
total f (x ∷ xs) = f x + total f xs

total_bounds : {A : Type 0} (f : A → ℕ) (xs : List A) (x : A) → Contains xs x → f x ≤ total f xs
total_bounds f [] x h = absurd (contains_nil x h)
total_bounds f (y ∷ ys) x h = elim (contains_cases y x ys h) [
  | inl same ↦ subst (λ z. f z ≤ f y + total f ys) same (omega arith)
  | inr more ↦ let rest = total_bounds f ys x more in omega (arith, rest)
]

among : {A : Type 0} (xs : List A) (n : ℕ) (x : A) → slice_get xs n ≡ Some x → Contains xs x
among [] n x e = let bad : slice_get [] n ≡ Some x = e in cc
among (y ∷ ys) zero x e = let same : y ≡ x = cc in subst (Contains (y ∷ ys)) same (contains_here y ys)
among (y ∷ ys) (suc n) x e = contains_there y x ys (among ys n x e)

abbrev place_depth : BodyPlace → ℕ
place_depth place = place.at + 3

abbrev file_depth : Seen → ℕ
file_depth file = total place_depth (bodies_of file)

module _ (p : Program) where
  abbrev package_depth : LoadedPackage → ℕ
  package_depth loaded = total file_depth (seen_files p.packages p.tables loaded)

  -- no body of the program stands so deep
  abbrev pub depth : ℕ
  depth = total package_depth p.packages

  pub is_above : (b : Body) → IsOf p b → b.place.at + 2 < depth
  is_above b of =
      let one = total_bounds place_depth (bodies_of b.file) b.place of.is_body in
      let two = total_bounds file_depth (seen_files p.packages p.tables of.loaded) b.file of.is_file in
      let three = total_bounds package_depth p.packages of.loaded (among p.packages b.home of.loaded of.is_package) in
      omega (arith, one, two, three)

-- Goroutines that go on

pub keeps_on : (p : Program) (n a g : ℕ) (w : World) (run : Run p w) (later : World) (more : Run p later)
    → KeepsRunning p g w run later more
    → LowestSees p n (w.stacks g) ((memory_of 0 run).pasts g) a
    → LowestSees p n (later.stacks g) ((memory_of 0 more).pasts g) a
keeps_on p n a g w run later more not_yet sees = sees
keeps_on p n a g w run later more (runs_on {next = next} {more = before} keeps step some) sees =
    elim (step_lowest (memory_of 0 before) step g n a (keeps_on p n a g w run next before keeps sees)) [
      | inl still ↦ still
      | inr back ↦ absurd (some back.has_none)
    ]

module _ (p : Program) (used : BodiesAreWellUsed p) (kept : BodiesAreKept p) (over : GroupsAreSeenOver p) where
  pub seen_to : (fuel n a : ℕ) (w : World) (run : Run p w) → depth p ≤ n + fuel → IsSeenBy p w run n a
      → IsSeenTo p (IsCalledFor a) w run
  seen_to fuel n a w run low (inl called) = is_so called
  seen_to zero n a w run low (inr x) =
      by_goroutine x.0 x.1 (λ e. no_frame p n a (w.stacks x.0) ((memory_of 0 run).pasts x.0) e x.2)
      (λ later more f keeps running at_end.
      let r = at_return p used kept over later more (roots_see p used kept over later more) x.0 f n a running at_end
      (keeps_on p n a x.0 w run later more keeps x.2) in
      let deep = r.1 in
      let bound = r.2 in
      let above = is_above p f.body r.3 in
      absurd (omega (arith, low, deep, bound, above)))
  seen_to (suc left) n a w run low (inr x) =
      by_goroutine x.0 x.1 (λ e. no_frame p n a (w.stacks x.0) ((memory_of 0 run).pasts x.0) e x.2)
      (λ later more f keeps running at_end.
      let r = at_return p used kept over later more (roots_see p used kept over later more) x.0 f n a running at_end
      (keeps_on p n a x.0 w run later more keeps x.2) in
      let deep = r.1 in
      seen_to left r.0 a later more (omega (arith, low, deep)) r.4)

  pub owed_is_seen_to : (w : World) (run : Run p w) (f : Frame) → IsReturning w f → (a : ℕ) → Owes f a
      → IsSeenTo p (IsCalledFor a) w run
  owed_is_seen_to w run f back a owes =
      seen_to (depth p) 0 a w run (omega arith)
      (met_is_seen p used kept over w run (roots_see p used kept over w run) 0 a
      (owed_is_met p used kept over w f run back 0 a (least_is 0 w run) owes))
