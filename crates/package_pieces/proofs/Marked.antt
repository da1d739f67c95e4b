-- Claims by their marks.
use Rattle.std.proofs.Common.{◌≡◌, ℕ, ◌<◌, Bool, false, List, length, get_or, refl, sym, ap, ◌∙◌, subst, arith}
use Rattle.std.specs.Prelude.{unwrap_or}
use Rattle.std.proofs.lemmas.Option.{same_Some, slice_get_read}
use Rattle.calls_flags.specs.declared.claims.Claim.{Claim}
use Rattle.meaning.specs.Uses.{Callee}
use Rattle.meaning_packages.specs.CallsFlags.{FileWithCredits}
use Rattle.package_pieces.specs.Marks.{is_marked, IsMark, AreMarks}
use Rattle.path_faults.proofs.Places.{element_at}
use Rattle.workers.proofs.Parts.{come_as_many, come_at}

pub mark_at : (fs : List FileWithCredits) (calls : Callee → ℕ → Bool) (claims : List Claim) (marks : List Bool)
    → AreMarks fs calls claims marks
    → (i : ℕ) (item : Claim) → i < length claims → item ≡ get_or claims i item
    → IsMark fs calls item (is_marked marks i)
mark_at fs calls claims marks are i item within is =
    let size = come_as_many (λ place. IsMark fs calls) 0 claims marks are in
    let m = element_at marks i (omega (arith, size, within)) in
    let w = come_at (λ place. IsMark fs calls) 0 claims marks are i m.0 m.2 in
    let there = slice_get_read claims (length claims) i item refl within is in
    let same_claim : w.0 ≡ item = same_Some w.0 item (sym w.1 ∙ there) in
    let same_mark : m.0 ≡ is_marked marks i = sym (ap (λ o. unwrap_or o false) m.2) in
    subst (λ c. IsMark fs calls c (is_marked marks i)) same_claim (subst (IsMark fs calls w.0) same_mark w.2)
