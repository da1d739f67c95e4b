-- The diagnostics' own order is the order of their entries.
use Rattle.std.proofs.Common.{◌≡◌, ◌⊎◌, ℕ, List, [], ◌∷◌, map, Contains, AllPairs, refl, sym, ap, ◌∙◌, inl, inr}
use Rattle.std.specs.Ordering.{nat_cmp, ordering_then, eq_by_cmp}
use Rattle.std.specs.List.{dedup}
use Rattle.std.specs.List.Sorted.{IsPermutation, IsSorted}
use Rattle.std.proofs.lemmas.Cmp.{ranked}
use Rattle.std.proofs.lemmas.Bool.{and_parts, eqb-true}
use Rattle.report.proofs.Once.{once_in_order, once_there, once_from_there}
use Rattle.std.specs.Prelude.{◌==◌, if◌then◌else◌}
use Rattle.std.specs.declared.cmp.Ordering.TheVariants.{the_data as Ordering, Less, Equal, Greater}
use Rattle.std.specs.Cmp.Lexicographic.{slice_cmp, on_texts, texts_ties, same_text}
use Rattle.report.specs.contracts.diagnostics.DiagnosticOrd.TheImpl as diagnostic_ord
use Rattle.report.specs.contracts.diagnostics.DiagnosticPartialEq.TheImpl as diagnostic_eq
use Rattle.std.specs.Cmp.{IsTotalOrder, then_total, on_total, nat_cmp_total, unsigned_ties, both_tied}
use Rattle.std.proofs.Common.{true}
use Rattle.report.specs.declared.codes.DiagnosticCode.{DiagnosticCode}
use Rattle.report.specs.declared.codes.TextFault.TheVariants.{NotUtf8, Nul, UnclosedString, UnclosedComment, UnclosedRune, UnknownCharacter, TooLong}
use Rattle.report.specs.declared.codes.TreeFault.TheVariants.{UnexpectedToken, TypeParameters, Goto, Fallthrough, DotImport, Recover, TooDeep}
use Rattle.report.specs.declared.codes.DiagnosticCode.TheVariants.{Unreadable, LeftOut, Discarded, Overwritten, NotCalled, CancelMisused, GroupIsLive, GroupOverwritten, GroupMisused, LeftToLiveGroup, BoundAgain, TooMany, ImportIsNotYes, ImportHasNoRank, TwoFunctions, NoCertificate, AcceptsNothing}
use Rattle.report.specs.declared.diagnostics.Diagnostic.{Diagnostic}
use Rattle.report.specs.Codes.{code_rank}
use Rattle.report.specs.Entries.{Entry, entry_of, TextPrecedes, Precedes, earlier_file, earlier_offset, earlier_code, earlier_name}

-- entries in the order of files, offsets, codes and names
abbrev entry_cmp : Entry → Entry → Ordering
entry_cmp a b = ordering_then (nat_cmp a.file b.file) (ordering_then (nat_cmp a.offset b.offset) (ordering_then (nat_cmp (code_rank a.code) (code_rank b.code)) (slice_cmp nat_cmp a.name b.name)))

entry_total : IsTotalOrder entry_cmp
entry_total = then_total (on_total (λ x. x.file) nat_cmp_total) (then_total (on_total (λ x. x.offset) nat_cmp_total) (then_total (on_total (λ x. code_rank x.code) nat_cmp_total) (on_texts (λ x. x.name))))

diagnostic_total : IsTotalOrder (diagnostic_ord.ghosts).cmp
diagnostic_total = on_total entry_of entry_total

ties : (a b : Diagnostic) → (diagnostic_eq.ghosts).eq a b ≡ eq_by_cmp (diagnostic_ord.ghosts).cmp a b
ties a b =
    both_tied _ _ _ _ (unsigned_ties a.file b.file) (both_tied _ _ _ _ (unsigned_ties a.offset b.offset) (both_tied _ _ _ _ (unsigned_ties (code_rank a.code) (code_rank b.code)) (texts_ties (a.name.now) (b.name.now))))

-- the code of a rank, so that no two codes have one rank
abbrev code_at : ℕ → DiagnosticCode
code_at n =
    if n == 0 then Unreadable NotUtf8
    else if n == 1 then Unreadable Nul
    else if n == 2 then Unreadable UnclosedString
    else if n == 3 then Unreadable UnclosedComment
    else if n == 4 then Unreadable UnclosedRune
    else if n == 5 then Unreadable UnknownCharacter
    else if n == 6 then Unreadable TooLong
    else if n == 7 then LeftOut UnexpectedToken
    else if n == 8 then LeftOut TypeParameters
    else if n == 9 then LeftOut Goto
    else if n == 10 then LeftOut Fallthrough
    else if n == 11 then LeftOut DotImport
    else if n == 12 then LeftOut Recover
    else if n == 13 then LeftOut TooDeep
    else if n == 14 then Discarded
    else if n == 15 then Overwritten
    else if n == 16 then NotCalled
    else if n == 17 then CancelMisused
    else if n == 18 then GroupIsLive
    else if n == 19 then GroupOverwritten
    else if n == 20 then GroupMisused
    else if n == 21 then LeftToLiveGroup
    else if n == 22 then BoundAgain
    else if n == 23 then TooMany
    else if n == 24 then ImportIsNotYes
    else if n == 25 then ImportHasNoRank
    else if n == 26 then TwoFunctions
    else if n == 27 then NoCertificate
    else AcceptsNothing

ranked_back : (x : DiagnosticCode) → code_at (code_rank x) ≡ x
ranked_back (Unreadable NotUtf8) = refl
ranked_back (Unreadable _) = refl
ranked_back (LeftOut UnexpectedToken) = refl
ranked_back (LeftOut _) = refl
ranked_back _ = refl

rank_same : (x y : DiagnosticCode) → code_rank x ≡ code_rank y → x ≡ y
rank_same x y e = sym (ranked_back x) ∙ ap code_at e ∙ ranked_back y

tied_entries : (a b : Diagnostic) → (diagnostic_eq.ghosts).eq a b ≡ true → entry_of a ≡ entry_of b
tied_entries a b e =
    let p = and_parts _ _ e in
    let q = and_parts _ _ p.1 in
    let r = and_parts _ _ q.1 in
    let f = eqb-true a.file b.file p.0 in
    let o = eqb-true a.offset b.offset q.0 in
    let c = rank_same a.code b.code (eqb-true (code_rank a.code) (code_rank b.code) r.0) in
    let n = same_text (a.name.now) (b.name.now) (sym r.1) in
    λ i. record { file = f i; offset = o i; code = c i; name = n i }

-- what `Less` says
then_less : (o p : Ordering) → ordering_then o p ≡ Less → (o ≡ Less) ⊎ ((o ≡ Equal) × (p ≡ Less))
then_less Less p e = inl refl
then_less Equal p e = inr (refl, e)
then_less Greater p e = cc

pub text_precedes : (xs ys : List ℕ) → slice_cmp nat_cmp xs ys ≡ Less → TextPrecedes xs ys
text_precedes [] [] e = cc
text_precedes [] (y ∷ ys) e = tt
text_precedes (x ∷ xs) [] e = cc
text_precedes (x ∷ xs) (y ∷ ys) e =
    elim (then_less (nat_cmp x y) (slice_cmp nat_cmp xs ys) e) [
      | inl l ↦ inl (ranked x y Less (sym l))
      | inr l ↦ inr (ranked x y Equal (sym l.0), text_precedes xs ys l.1)
    ]

precedes : (a b : Entry) → entry_cmp a b ≡ Less → Precedes a b
precedes a b e =
    elim (then_less _ _ e) [
      | inl l ↦ earlier_file (ranked a.file b.file Less (sym l))
      | inr l ↦
          let file = ranked a.file b.file Equal (sym l.0) in
          elim (then_less _ _ l.1) [
            | inl m ↦ earlier_offset file (ranked a.offset b.offset Less (sym m))
            | inr m ↦
                let offset = ranked a.offset b.offset Equal (sym m.0) in
                elim (then_less _ _ m.1) [
                  | inl n ↦ earlier_code file offset (ranked (code_rank a.code) (code_rank b.code) Less (sym n))
                  | inr n ↦ earlier_name file offset (rank_same a.code b.code (ranked (code_rank a.code) (code_rank b.code) Equal (sym n.0))) (text_precedes a.name b.name n.1)
                ]
          ]
    ]

-- sorted, and each entry once
module _ (items sorted : List Diagnostic) (moved : IsPermutation items sorted) where
  pub once_sorted : IsSorted (diagnostic_ord.ghosts).cmp sorted → AllPairs Precedes (map entry_of (dedup (diagnostic_eq.ghosts).eq sorted))
  once_sorted h =
      once_in_order entry_of (diagnostic_ord.ghosts).cmp (diagnostic_eq.ghosts).eq diagnostic_total ties Precedes
      (λ a b. precedes (entry_of a) (entry_of b)) sorted h

  pub once_complete : (x : Entry) → Contains (map entry_of items) x → Contains (map entry_of (dedup (diagnostic_eq.ghosts).eq sorted)) x
  once_complete =
      once_there entry_of (diagnostic_ord.ghosts).cmp (diagnostic_eq.ghosts).eq diagnostic_total ties tied_entries items
      sorted moved

  pub once_sound : (x : Entry) → Contains (map entry_of (dedup (diagnostic_eq.ghosts).eq sorted)) x → Contains (map entry_of items) x
  once_sound =
      once_from_there entry_of (diagnostic_ord.ghosts).cmp (diagnostic_eq.ghosts).eq diagnostic_total ties items sorted
      moved
