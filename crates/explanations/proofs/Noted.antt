-- Diagnostics that get their notes, one after the other.
use Rattle.std.proofs.Common.{◌≡◌, ℕ, ◌+◌, ◌<◌, true, inl, inr, List, [], ◌∷◌, ◌++◌, length, drop, get_or, Contains, is_some, sym, ap, ◌∙◌, subst}
use Rattle.std.specs.declared.alloc.Global.{Global}
use Rattle.std.specs.declared.vec.Vec.{Vec}
use Rattle.std.proofs.lemmas.List.{append_assoc, drop_more, map-append}
use Rattle.std.proofs.lemmas.List.Elements.{Contains-append_cases}
use Rattle.body_ways.specs.BodyWays.{ToldWay}
use Rattle.explanations.specs.Found.{path_code_of, AreNotesByWays, HasWay, HasWayNotes}
use Rattle.explanations.specs.KeptUses.{AreNotesByUses, FileReasons, HasUseNote}
use Rattle.explanations.specs.Uses.{asked_of}
use Rattle.report.specs.Notes.{plain_of}
use Rattle.lexer.specs.declared.source.Source.{Source}
use Rattle.meaning.proofs.Membership.{contains_nil, contains_cases}
use Rattle.report.specs.declared.diagnostics.Diagnostic.{Diagnostic}
use Rattle.report.specs.declared.notes.ExplainedDiagnostic.{ExplainedDiagnostic}
use Rattle.report.specs.declared.notes.Note.{Note}

-- a diagnostic with its notes and its way
abbrev pub with_notes : Diagnostic → Vec Note Global → Vec ℕ Global → ExplainedDiagnostic
with_notes d notes way = record { diagnostic = d; notes = notes; way = way }

-- one more has what all before it have
module _ (HaveSo : ExplainedDiagnostic → Type 0) where
  more_noted : (item : ExplainedDiagnostic) (before after : List ExplainedDiagnostic)
      → after ≡ before ++ item ∷ []
      → ((d : ExplainedDiagnostic) → Contains before d → HaveSo d)
      → HaveSo item
      → (d : ExplainedDiagnostic)
      → Contains after d
      → HaveSo d
  more_noted item before after after_is noted so d h =
      elim (Contains-append_cases before (item ∷ []) d (subst (λ ds. Contains ds d) after_is h)) [
        | inl old ↦ noted d old
        | inr new ↦ elim (contains_cases item d [] new) [
          | inl same ↦ subst HaveSo same so
          | inr bad ↦ absurd (contains_nil d bad)
        ]
      ]

module _ (sources : List Source) (ways : List (List ToldWay)) (uses : List FileReasons) where
  abbrev OfPath : ExplainedDiagnostic → Type 0
  OfPath d = is_some (path_code_of d.diagnostic.code) ≡ true
      → HasWayNotes sources ways d.diagnostic d.notes.items × HasWay ways d

  abbrev OfUse : ExplainedDiagnostic → Type 0
  OfUse d = is_some (asked_of d.diagnostic.code) ≡ true → HasUseNote sources uses d.diagnostic d.notes.items

  -- those before a place are explained
  abbrev pub AreExplainedTo : List Diagnostic → ℕ → List ExplainedDiagnostic → Type 0
  AreExplainedTo all i explained =
      (plain_of explained ++ drop i all ≡ all)
      × (AreNotesByWays sources ways explained × AreNotesByUses sources uses explained)

  more_plain : (all : List Diagnostic) (i : ℕ) (item : Diagnostic) (notes : Vec Note Global) (way : Vec ℕ Global)
      (before after : List ExplainedDiagnostic)
      → i < length all
      → get_or all i item ≡ item
      → after ≡ before ++ with_notes item notes way ∷ []
      → plain_of before ++ drop i all ≡ all
      → plain_of after ++ drop (i + 1) all ≡ all
  more_plain all i item notes way before after within is after_is so_far =
      ap (λ es. plain_of es ++ drop (i + 1) all) after_is
      ∙ (ap (λ ds. ds ++ drop (i + 1) all)
      (map-append (λ (e : ExplainedDiagnostic). e.diagnostic) before (with_notes item notes way ∷ []))
      ∙ (append_assoc (plain_of before) (item ∷ []) (drop (i + 1) all)
      ∙ (ap (λ d. plain_of before ++ d ∷ drop (i + 1) all) (sym is)
      ∙ (ap (λ ds. plain_of before ++ ds) (sym (drop_more all i item within)) ∙ so_far))))

  -- one more is explained
  pub more_explained : (all : List Diagnostic) (i : ℕ) (item : Diagnostic) (notes : Vec Note Global)
      (way : Vec ℕ Global) (before after : List ExplainedDiagnostic)
      → i < length all
      → get_or all i item ≡ item
      → after ≡ before ++ with_notes item notes way ∷ []
      → AreExplainedTo all i before
      → (is_some (path_code_of item.code) ≡ true → HasWayNotes sources ways item notes.items)
      → HasWay ways (with_notes item notes way)
      → (is_some (asked_of item.code) ≡ true → HasUseNote sources uses item notes.items)
      → AreExplainedTo all (i + 1) after
  more_explained all i item notes way before after within is after_is so_far of_path has_way of_use = (
    more_plain all i item notes way before after within is after_is so_far.0,
    (
      more_noted OfPath (with_notes item notes way) before after after_is so_far.1.0 (λ h. (of_path h, has_way)),
      more_noted OfUse (with_notes item notes way) before after after_is so_far.1.1 of_use,
    ),
  )
