-- The file of a body, with its credits; and where nothing is found in it, nothing is found on the body's paths.
use Rattle.std.proofs.Common.{◌≡◌, ℕ, suc, Bool, inl, inr, List, [], ◌∷◌, Some, Contains, refl, sym, ap, ◌∙◌, subst}
use Rattle.std.specs.Prelude.{slice_get}
use Rattle.std.proofs.lemmas.Bool.{eq-eqb}
use Rattle.std.proofs.lemmas.List.Elements.{Contains-append_cases, Contains-append_left, Contains-append_right}
use Rattle.meaning.specs.Mentions.{BodyPlace, Mark}
use Rattle.meaning.specs.Tracked.{Placed, body_locals}
use Rattle.meaning.specs.Uses.{Callee, Seen, is_body, UseFault, result_faults}
use Rattle.meaning.specs.BodyEvents.{opened_in, variables_of, too_many_faults, jump_faults, mark_faults, faults_of, unfollowed_faults}
use Rattle.meaning.proofs.Membership.{contains_here, contains_there, contains_cases, contains_nil}
use Rattle.meaning_packages.specs.PathFaults.{PathFault, IsPathFault, paths_of, of_a_path}
use Rattle.meaning_packages.specs.Credits.{promises_in}
use Rattle.meaning.specs.BodyEvents.{bodies_of}
use Rattle.meaning_packages.specs.CallsFlags.{FileWithCredits}
use Rattle.report.specs.Entries.{Entry}
use Rattle.meaning_reports.specs.PackageReports.{IsFileFinding, of_use, of_path}
use Rattle.meaning_packages.proofs.BodyPlaces.{placed_only}
use Rattle.meaning_runs.specs.Promise.{AreFairlyCredited, no_file, file_and}
use Rattle.meaning_runs.proofs.BodyOffsets.{opened_there}
use Rattle.meaning_runs.proofs.BoundOnce.{of_its_mark}
use Rattle.meaning_runs.proofs.MarksBeside.{IsBeside, AreInForm}

none_there : {A : Type 0} (xs : List A) → ((x : A) → Contains xs x → ⊥) → xs ≡ []
none_there [] h = refl
none_there (x ∷ xs) h = absurd (h x (contains_here x xs))

-- the file with credits
pub record IsCredited (files : List FileWithCredits) (seen : Seen) : Type 0 where
  pub number : ℕ
  pub file : FileWithCredits
  pub is_there : slice_get files number ≡ Some file
  pub is_among : Contains files file
  pub is_it : file.seen ≡ seen

credited_next : (file : FileWithCredits) (files : List FileWithCredits) (seen : Seen) → IsCredited files seen → IsCredited (file ∷ files) seen
credited_next file files seen c = record { number = suc c.number; file = c.file; is_there = c.is_there; is_among = contains_there file c.file files c.is_among; is_it = c.is_it }

pub credited : (seens : List Seen) (files : List FileWithCredits) (seen : Seen) → AreFairlyCredited seens files → Contains seens seen → IsCredited files seen
credited seens files seen no_file h = absurd (contains_nil seen h)
credited seens files seen (file_and {seen = first} {rest = rest} {file = file} {files = others} same fair more) h =
    elim (contains_cases first seen rest h) [
      | inl q ↦ record { number = 0; file = file; is_there = refl; is_among = contains_here file others; is_it = same ∙ q }
      | inr g ↦ credited_next file others seen (credited rest others seen more g)
    ]

module _ (calls : Callee → ℕ → Bool) (number : ℕ) (file : FileWithCredits) (none : (x : Entry) → IsFileFinding calls number file x → ⊥) (form : AreInForm file.seen.marks) (b : BodyPlace) (among : Contains (bodies_of file.seen) b) where
  -- a fault of a `goto` is one of the mark that opens the body
  of_jumps : (x : UseFault) → Contains (jump_faults file.seen b) x → Contains (faults_of file.seen b.at file.seen.marks) x
  of_jumps x h =
      let opened = opened_there file.seen.marks b (placed_only (opened_in file.seen.marks) b among) in
      let p : Placed = opened.0 in
      let beside = subst (λ (m : Mark). IsBeside file.seen.marks p.bodies m) opened.2 (form.beside p opened.1) in
      let here = ap (is_body b.at) beside.stands_first ∙ eq-eqb b.at b.at refl in
      of_its_mark file.seen b.at file.seen.marks p x opened.1 here
      (subst (λ (m : Mark). Contains (mark_faults file.seen p.bodies m) x) (sym opened.2)
      (Contains-append_right (result_faults (body_locals file.seen.known b)) (jump_faults file.seen b) x h))

  pub is_followed : unfollowed_faults file.seen b ≡ []
  is_followed = none_there (unfollowed_faults file.seen b) λ x h.
      let own = faults_of file.seen b.at file.seen.marks in
      let many = too_many_faults (variables_of file.seen b.at) in
      elim (Contains-append_cases many (jump_faults file.seen b) x h) [
        | inl k ↦ none _ (of_use b x among (Contains-append_right own many x k))
        | inr k ↦ none _ (of_use b x among (Contains-append_left own many x (of_jumps x k)))
      ]

  pub no_path_fault : (x : PathFault) → IsPathFault (paths_of file.seen (promises_in calls file.credits b.at) b) x → ⊥
  no_path_fault x h = none _ (of_path b x among (of_a_path x is_followed h))
