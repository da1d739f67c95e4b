-- What was told of the fields that keep cancel functions is what files keep.
use Rattle.std.proofs.Common.{◌≡◌, ℕ, suc, inl, inr, List, [], ◌∷◌, length, Contains, Some, refl, sym, subst, arith}
use Rattle.std.specs.Prelude.{◌↔◌, flat_map, slice_get}
use Rattle.std.proofs.lemmas.List.Elements.{Contains-append_left, Contains-append_right, Contains-append_cases}
use Rattle.calls_flags.specs.declared.told_file.ToldFile.{ToldFile}
use Rattle.calls_flags.specs.ToldFiles.{TellAllSeen}
use Rattle.findings.specs.KeptFields.{kept_in}
use Rattle.meaning.proofs.Membership.{contains_nil, contains_here, contains_there, contains_cases}
use Rattle.meaning.specs.KeepingFields.{fields_kept}
use Rattle.meaning.specs.Uses.{Seen}
use Rattle.silent_files.specs.WalkedFiles.{IsKeptAmong}

-- of each file is told what it keeps
abbrev AreTold : List Seen → List ToldFile → Type 0
AreTold seens files = (i : ℕ) (seen : Seen) (file : ToldFile) → slice_get seens i ≡ Some seen
    → slice_get files i ≡ Some file
    → kept_in file ≡ fields_kept seen

told_is_kept : (seens : List Seen) (files : List ToldFile) → length seens ≡ length files → AreTold seens files
    → (field : List ℕ) → Contains (flat_map kept_in files) field
    → IsKeptAmong seens field
told_is_kept seens [] size each field h = absurd (contains_nil field h)
told_is_kept [] (k ∷ ks) size each field h = absurd (omega (arith, size))
told_is_kept (s ∷ ss) (k ∷ ks) size each field h =
    elim (Contains-append_cases (kept_in k) (flat_map kept_in ks) field h) [
      | inl own ↦ record {
        file = s;
        is_file = contains_here s ss;
        is_kept = subst (λ fs. Contains fs field) (each 0 s k refl refl) own;
      }
      | inr later ↦
          let w = told_is_kept ss ks (omega (arith, size)) (λ i. each (suc i)) field later in
          record { file = w.file; is_file = contains_there s w.file ss w.is_file; is_kept = w.is_kept }
    ]

kept_is_told : (seens : List Seen) (files : List ToldFile) → length seens ≡ length files → AreTold seens files
    → (field : List ℕ) → IsKeptAmong seens field
    → Contains (flat_map kept_in files) field
kept_is_told [] files size each field w = absurd (contains_nil w.file w.is_file)
kept_is_told (s ∷ ss) [] size each field w = absurd (omega (arith, size))
kept_is_told (s ∷ ss) (k ∷ ks) size each field w =
    elim (contains_cases s w.file ss w.is_file) [
      | inl same ↦
          Contains-append_left (kept_in k) (flat_map kept_in ks) field
          (subst (λ fs. Contains fs field) (sym (each 0 s k refl refl))
          (subst (λ (f : Seen). Contains (fields_kept f) field) (sym same) w.is_kept))
      | inr later ↦
          Contains-append_right (kept_in k) (flat_map kept_in ks) field
          (kept_is_told ss ks (omega (arith, size)) (λ i. each (suc i)) field
          record { file = w.file; is_file = later; is_kept = w.is_kept })
    ]

pub told_fields : (seens : List Seen) (files : List ToldFile) → TellAllSeen seens files
    → (field : List ℕ) → Contains (flat_map kept_in files) field ↔ IsKeptAmong seens field
told_fields seens files tell field =
    let each : AreTold seens files = λ i seen file is its. (tell.each i seen file is its).tells.keeping in (
      told_is_kept seens files tell.are_as_many each field,
      kept_is_told seens files tell.are_as_many each field,
    )
