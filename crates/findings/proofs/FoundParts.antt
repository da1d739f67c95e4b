-- Entries that are added part by part.
use Rattle.std.proofs.Common.{◌≡◌, ℕ, zero, suc, ◌+◌, ◌⊎◌, inl, inr, Bool, List, [], ◌∷◌, ◌++◌, map, Contains, Some, refl, sym, ap, ◌∙◌, subst, arith}
use Rattle.std.specs.Prelude.{◌↔◌, None, is_some, slice_get}
use Rattle.std.proofs.lemmas.Bool.{false≢true}
use Rattle.bodies.specs.Bodies.{TellsBody}
use Rattle.bodies.specs.declared.body.Body.{Body as KeptBody}
use Rattle.bodies.specs.declared.graph.BodyGraph.{BodyGraph as KeptGraph}
use Rattle.credits.proofs.SettledBodies.{paths_there, followed_there}
use Rattle.std.proofs.lemmas.List.Elements.{Contains-append_left, Contains-append_right, Contains-append_cases}
use Rattle.std.proofs.lemmas.Option.{none-some, same_Some}
use Rattle.meaning.specs.Mentions.{BodyPlace}
use Rattle.meaning.specs.Uses.{Callee}
use Rattle.meaning.specs.BodyEvents.{Variable, body_faults, outer_faults}
use Rattle.meaning_packages.specs.CallsFlags.{FileWithCredits}
use Rattle.meaning.proofs.Membership.{contains_nil, contains_here, contains_there, contains_cases, contains_map, contains_unmap}
use Rattle.meaning_packages.specs.PathFaults.{Paths, PathFault, IsPathFault, loses_cancel, loses_group, returns_live, returns_open, returns_kept, returns_pending, IsFaultOf, of_a_pass, of_a_path}
use Rattle.meaning_packages.specs.Credits.{promises_in}
use Rattle.meaning.specs.BodyEvents.{bodies_of}
use Rattle.report.specs.Entries.{Entry, entry_of}
use Rattle.report.specs.declared.diagnostics.Diagnostic.{Diagnostic}
use Rattle.meaning_reports.specs.PackageReports.{use_entry, path_entry, IsFileFinding, outside_bodies, of_use, of_path}
use Rattle.findings.specs.FoundEntries.{AddsEntries, IsEntryOf, IsPathEntry, IsFollowedPathEntry, known_paths, IsBodyEntry, IsOfBodies, IsEntryOfBodies, IsFoundIn, use_entries, path_entries}

-- a list is added
pub adds_list : (before after : List Diagnostic) (added : List Entry) → map entry_of after ≡ map entry_of before ++ added
    → AddsEntries before after (Contains added)
adds_list before after added same x = (
  λ h. Contains-append_cases (map entry_of before) added x (subst (λ es. Contains es x) same h),
  λ h. subst (λ es. Contains es x) (sym same) (elim h [
    | inl old ↦ Contains-append_left (map entry_of before) added x old
    | inr new ↦ Contains-append_right (map entry_of before) added x new
  ]),
)

-- the same is added, in other words
pub adds_so : (before after : List Diagnostic) (Added Other : Entry → Type 0) → ((x : Entry) → Added x ↔ Other x)
    → AddsEntries before after Added
    → AddsEntries before after Other
adds_so before after Added Other same adds x = (
  λ h. elim ((adds x).0 h) [ inl old ↦ inl old | inr new ↦ inr ((same x).0 new) ],
  λ h. (adds x).1 (elim h [ inl old ↦ inl old | inr new ↦ inr ((same x).1 new) ]),
)

pub adds_none : (before : List Diagnostic) (Added : Entry → Type 0) → ((x : Entry) → Added x → ⊥)
    → AddsEntries before before Added
adds_none before Added none x = (
  λ h. inl h,
  λ h. elim h [ inl old ↦ old | inr new ↦ absurd (none x new) ],
)

-- one part after the other
pub adds_both : (before between after : List Diagnostic) (First Second : Entry → Type 0)
    → AddsEntries before between First
    → AddsEntries between after Second
    → AddsEntries before after (λ x. First x ⊎ Second x)
adds_both before between after First Second first second x = (
  λ h. elim ((second x).0 h) [
    | inl old ↦ elim ((first x).0 old) [ inl older ↦ inl older | inr one ↦ inr (inl one) ]
    | inr new ↦ inr (inr new)
  ],
  λ h. (second x).1 (elim h [
    | inl old ↦ inl ((first x).1 (inl old))
    | inr new ↦ elim new [ inl one ↦ inl ((first x).1 (inr one)) | inr two ↦ inr two ]
  ]),
)

-- the faults of paths of a file as entries
pub entries_of : (number : ℕ) (faults : List PathFault) (IsFault : PathFault → Type 0)
    → ((f : PathFault) → Contains faults f ↔ IsFault f)
    → (x : Entry) → Contains (path_entries number faults) x ↔ IsEntryOf number IsFault x
entries_of number faults IsFault are x = (
  λ h.
      let w = contains_unmap (path_entry number) faults x h in
      record { fault = w.0; is_fault = (are w.0).0 w.1; is_entry = sym w.2 },
  λ h.
      subst (Contains (path_entries number faults)) (sym h.is_entry)
      (contains_map (path_entry number) faults h.fault ((are h.fault).1 h.is_fault)),
)

-- What is added with what is left

-- what the rest adds to what was added so far makes it all
abbrev pub AddsOn : List Diagnostic → List Diagnostic → (Entry → Type 0) → (Entry → Type 0) → Type 0
AddsOn before so_far Rest All = (after : List Diagnostic) → AddsEntries so_far after Rest → AddsEntries before after All

module _ (before so_far : List Diagnostic) (First Rest Both All : Entry → Type 0)
    (same : (x : Entry) → (First x ⊎ Rest x) ↔ Both x) where
  pub adds_next : (next : List Diagnostic) → AddsEntries so_far next First → AddsOn before so_far Both All
      → AddsOn before next Rest All
  adds_next next first on after rest =
      on after (adds_so so_far after (λ x. First x ⊎ Rest x) Both same
      (adds_both so_far next after First Rest first rest))

pub adds_all : (before so_far : List Diagnostic) (Rest All : Entry → Type 0) → ((x : Entry) → Rest x → ⊥)
    → AddsOn before so_far Rest All
    → AddsEntries before so_far All
adds_all before so_far Rest All none on = on so_far (adds_none so_far Rest none)

-- Bodies

module _ (IsOfBody : BodyPlace → Entry → Type 0) (b : BodyPlace) (left here : List BodyPlace) (is_next : here ≡ b ∷ left) where
  pub first_body : (x : Entry) → (IsOfBody b x ⊎ IsOfBodies IsOfBody left x) ↔ IsOfBodies IsOfBody here x
  first_body x = (
    λ h. elim h [
      | inl one ↦ record {
        body = b;
        is_there = subst (λ bs. Contains bs b) (sym is_next) (contains_here b left);
        is_entry = one;
      }
      | inr w ↦ record {
        body = w.body;
        is_there = subst (λ bs. Contains bs w.body) (sym is_next) (contains_there b w.body left w.is_there);
        is_entry = w.is_entry;
      }
    ],
    λ h. elim (contains_cases b h.body left (subst (λ bs. Contains bs h.body) is_next h.is_there)) [
      | inl same ↦ inl (subst (λ y. IsOfBody y x) (sym same) h.is_entry)
      | inr later ↦ inr (record { body = h.body; is_there = later; is_entry = h.is_entry })
    ],
  )

pub no_body : (IsOfBody : BodyPlace → Entry → Type 0) (left : List BodyPlace) → left ≡ []
    → (x : Entry) → IsOfBodies IsOfBody left x → ⊥
no_body IsOfBody left none x h = contains_nil h.body (subst (λ bs. Contains bs h.body) none h.is_there)

-- Files

-- one of these files, where the first has the number n
pub record IsFoundFrom (calls : Callee → ℕ → Bool) (n : ℕ) (files : List FileWithCredits) (x : Entry) : Type 0 where
  pub place : ℕ
  pub file : FileWithCredits
  pub is_file : slice_get files place ≡ Some file
  pub is_finding : IsFileFinding calls (n + place) file x

module _ (calls : Callee → ℕ → Bool) (n : ℕ) (f : FileWithCredits) (left here : List FileWithCredits)
    (is_next : here ≡ f ∷ left) where
  pub first_file : (x : Entry)
      → (IsFileFinding calls n f x ⊎ IsFoundFrom calls (n + 1) left x) ↔ IsFoundFrom calls n here x
  first_file x = (
    λ h. elim h [
      | inl one ↦
          let same : n ≡ n + 0 = omega arith in
          record {
            place = 0;
            file = f;
            is_file = ap (λ fs. slice_get fs 0) is_next;
            is_finding = subst (λ k. IsFileFinding calls k f x) same one;
          }
      | inr w ↦
          let same : n + 1 + w.place ≡ n + suc w.place = omega arith in
          record {
            place = suc w.place;
            file = w.file;
            is_file = ap (λ fs. slice_get fs (suc w.place)) is_next ∙ w.is_file;
            is_finding = subst (λ k. IsFileFinding calls k w.file x) same w.is_finding;
          }
    ],
    λ h. at h.place h.file (ap (λ fs. slice_get fs h.place) (sym is_next) ∙ h.is_file) h.is_finding,
  )
    where
      at : (place : ℕ) (file : FileWithCredits) → slice_get (f ∷ left) place ≡ Some file
          → IsFileFinding calls (n + place) file x
          → IsFileFinding calls n f x ⊎ IsFoundFrom calls (n + 1) left x
      at zero file is one =
          let same : n + 0 ≡ n = omega arith in
          inl (subst (λ g. IsFileFinding calls n g x) (sym (same_Some f file is))
          (subst (λ k. IsFileFinding calls k file x) same one))
      at (suc place) file is one =
          let same : n + suc place ≡ n + 1 + place = omega arith in
          inr (record {
            place = place;
            file = file;
            is_file = is;
            is_finding = subst (λ k. IsFileFinding calls k file x) same one;
          })

pub no_files : (calls : Callee → ℕ → Bool) (n : ℕ) (left : List FileWithCredits) → left ≡ []
    → (x : Entry) → IsFoundFrom calls n left x → ⊥
no_files calls n left none x h = none-some h.file (ap (λ fs. slice_get fs h.place) (sym none) ∙ h.is_file)

pub all_found : (calls : Callee → ℕ → Bool) (files : List FileWithCredits) (before found : List Diagnostic) → before ≡ []
    → AddsEntries before found (IsFoundFrom calls 0 files)
    → (x : Entry) → Contains (map entry_of found) x ↔ IsFoundIn files calls x
all_found calls files before found none adds x = (
  λ h. elim ((adds x).0 h) [
    | inl old ↦ absurd (contains_nil x (subst (λ ds. Contains (map entry_of ds) x) none old))
    | inr w ↦
        let same : 0 + w.place ≡ w.place = omega arith in
        record {
          number = w.place;
          file = w.file;
          is_file = w.is_file;
          is_finding = subst (λ k. IsFileFinding calls k w.file x) same w.is_finding;
        }
  ],
  λ h.
      let same : h.number ≡ 0 + h.number = omega arith in
      (adds x).1 (inr (record {
        place = h.number;
        file = h.file;
        is_file = h.is_file;
        is_finding = subst (λ k. IsFileFinding calls k h.file x) same h.is_finding;
      })),
)

-- Faults of a body

-- those that were found of paths or passes
pub adds_faults : (before after : List Diagnostic) (number told : ℕ) → told ≡ number
    → (given found : List PathFault) (IsFault : PathFault → Type 0)
    → given ≡ found
    → ((f : PathFault) → Contains found f ↔ IsFault f)
    → map entry_of after ≡ map entry_of before ++ path_entries told given
    → AddsEntries before after (IsEntryOf number IsFault)
adds_faults before after number told same_number given found IsFault same are added =
    adds_so before after (Contains (path_entries number found)) (IsEntryOf number IsFault)
    (entries_of number found IsFault are)
    (adds_list before after (path_entries number found)
    (added ∙ (λ i. map entry_of before ++ path_entries (same_number i) (same i))))

-- a fault of a path is of a variable of the body
variable_of_fault : (paths : Paths) (f : PathFault) → IsPathFault paths f → (v : Variable) × Contains paths.variables v
variable_of_fault paths f (loses_cancel v u t o is_there is_cancel reaches binds same is_lost) = (v, is_there)
variable_of_fault paths f (loses_group g u state t o reaches makes same live) = (g, live.is_of_body)
variable_of_fault paths f (returns_live g handed t o comes is_declared live) = (g, live.is_of_body)
variable_of_fault paths f (returns_open v handed t o comes owes is_open) = (v, owes.is_of_body)
variable_of_fault paths f (returns_kept v handed t o comes owes is_kept elsewhere) = (v, owes.is_of_body)
variable_of_fault paths f (returns_pending v handed t o comes owes left) = (v, owes.is_of_body)

module _ (calls : Callee → ℕ → Bool) (number : ℕ) (f : FileWithCredits) (b : BodyPlace) (body : KeptBody)
    (tells : TellsBody number f.seen b body) where
  pub no_paths : body.graph ≡ None → (x : Entry) → IsFollowedPathEntry calls number f b x → ⊥
  no_paths none x h =
      let one = h.is_path_entry in
      let v = variable_of_fault (known_paths calls f b) one.fault one.is_fault in
      false≢true
      (ap is_some (sym none) ∙ tells.has_graph ∙ paths_there f.seen b v.0 v.1 h.is_followed)

  pub few_paths : (kept : KeptGraph) → body.graph ≡ Some kept
      → (x : Entry) → IsPathEntry calls number f b x ↔ IsFollowedPathEntry calls number f b x
  few_paths kept is x = (
    λ h. record {
      is_followed = followed_there f.seen b (sym tells.has_graph ∙ ap is_some is);
      is_path_entry = h;
    },
    λ h. h.is_path_entry,
  )

-- a file's use faults outside of bodies, and those of its bodies
module _ (calls : Callee → ℕ → Bool) (number : ℕ) (f : FileWithCredits) where
  finding_of : (x : Entry)
      → Contains (use_entries number (outer_faults f.seen)) x ⊎ IsEntryOfBodies calls number f (bodies_of f.seen) x
      → IsFileFinding calls number f x
  finding_of x (inl h) =
      let w = contains_unmap (use_entry number) (outer_faults f.seen) x h in
      subst (IsFileFinding calls number f) w.2 (outside_bodies w.0 w.1)
  finding_of x (inr w) = elim w.is_entry [
    | inl both ↦ elim both [
      | inl h ↦
          let u = contains_unmap (use_entry number) (body_faults f.seen w.body.at) x h in
          subst (IsFileFinding calls number f) u.2 (of_use w.body u.0 w.is_there u.1)
      | inr pass ↦
          subst (IsFileFinding calls number f) (sym pass.is_entry)
          (of_path w.body pass.fault w.is_there (of_a_pass pass.fault pass.is_fault))
    ]
    | inr few ↦
        let path = few.is_path_entry in
        subst (IsFileFinding calls number f) (sym path.is_entry)
        (of_path w.body path.fault w.is_there (of_a_path path.fault few.is_followed path.is_fault))
  ]

  path_part : (b : BodyPlace) (g : PathFault) → IsFaultOf f.seen (promises_in calls f.credits b.at) b g
      → IsBodyEntry calls number f b (path_entry number g)
  path_part b x (of_a_pass g h) = inl (inr (record { fault = g; is_fault = h; is_entry = refl }))
  path_part b x (of_a_path g few h) =
      inr (record { is_followed = few; is_path_entry = record { fault = g; is_fault = h; is_entry = refl } })

  part_of : (x : Entry) → IsFileFinding calls number f x
      → Contains (use_entries number (outer_faults f.seen)) x ⊎ IsEntryOfBodies calls number f (bodies_of f.seen) x
  part_of x (outside_bodies u h) = inl (contains_map (use_entry number) (outer_faults f.seen) u h)
  part_of x (of_use b u is_there h) = inr (record {
    body = b;
    is_there = is_there;
    is_entry = inl (inl (contains_map (use_entry number) (body_faults f.seen b.at) u h));
  })
  part_of x (of_path b g is_there h) = inr (record { body = b; is_there = is_there; is_entry = path_part b g h })

  pub file_finding : (x : Entry)
      → (Contains (use_entries number (outer_faults f.seen)) x ⊎ IsEntryOfBodies calls number f (bodies_of f.seen) x)
      ↔ IsFileFinding calls number f x
  file_finding x = (finding_of x, part_of x)
