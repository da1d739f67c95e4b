-- The order of names is that of their bytes.
use Rattle.std.proofs.Common.{◌≡◌, ℕ, Bool, true, List, Contains, AllPairs, sym}
use Rattle.std.specs.Prelude.{nat_eq}
use Rattle.std.specs.Borrow.{Bor}
use Rattle.std.specs.Ordering.{nat_cmp, on, eq_by_cmp}
use Rattle.std.specs.List.{dedup}
use Rattle.std.specs.List.Sorted.{IsPermutation, IsSorted}
use Rattle.std.specs.Cmp.{IsTotalOrder}
use Rattle.std.specs.Cmp.Lexicographic.{slice_cmp, on_texts, texts_ties, same_text, pointwise}
use Rattle.std.specs.declared.cmp.Ordering.TheVariants.{the_data as Ordering}
use Rattle.report.specs.Entries.{texts_of, TextPrecedes}
use Rattle.report.proofs.DiagnosticOrder.{text_precedes}
use Rattle.report.proofs.Once.{once_in_order, once_there, once_from_there}

abbrev text_cmp : Bor (List ℕ) → Bor (List ℕ) → Ordering
text_cmp = on (λ t. t.now) (slice_cmp nat_cmp)

abbrev text_eq : Bor (List ℕ) → Bor (List ℕ) → Bool
text_eq = on (λ t. t.now) (pointwise nat_eq)

text_total : IsTotalOrder text_cmp
text_total = on_texts (λ t. t.now)

text_ties : (a b : Bor (List ℕ)) → text_eq a b ≡ eq_by_cmp text_cmp a b
text_ties a b = texts_ties a.now b.now

tied_texts : (a b : Bor (List ℕ)) → text_eq a b ≡ true → a.now ≡ b.now
tied_texts a b e = same_text a.now b.now (sym e)

module _ (items sorted : List (Bor (List ℕ))) (moved : IsPermutation items sorted) where
  pub names_sorted : IsSorted text_cmp sorted → AllPairs TextPrecedes (texts_of (dedup text_eq sorted))
  names_sorted h =
      once_in_order (λ t. t.now) text_cmp text_eq text_total text_ties TextPrecedes (λ a b. text_precedes a.now b.now)
      sorted h

  pub names_complete : (x : List ℕ) → Contains (texts_of items) x → Contains (texts_of (dedup text_eq sorted)) x
  names_complete = once_there (λ t. t.now) text_cmp text_eq text_total text_ties tied_texts items sorted moved

  pub names_sound : (x : List ℕ) → Contains (texts_of (dedup text_eq sorted)) x → Contains (texts_of items) x
  names_sound = once_from_there (λ t. t.now) text_cmp text_eq text_total text_ties items sorted moved
