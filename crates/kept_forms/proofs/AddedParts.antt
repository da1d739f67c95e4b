-- What is added at the end of a list: the same in other words, and nothing.
use Rattle.std.proofs.Common.{◌≡◌, List, [], ◌++◌, Result, OnOk, sym, ap, ◌∙◌, append_assoc}
use Rattle.std.proofs.lemmas.List.{append-nil}
use Rattle.std.proofs.lemmas.Result.{on_ok_weaker}

module _ {X : Type 0} where
  pub adds_same : (before after : List X) (xs ys : List X) → xs ≡ ys → after ≡ before ++ xs → after ≡ before ++ ys
  adds_same before after xs ys same added = added ∙ ap (λ l. before ++ l) same

  pub ok_same : {T E : Type 0} (result : Result T E) (before after : List X) (xs ys : List X) → xs ≡ ys
      → OnOk result (after ≡ before ++ xs) → OnOk result (after ≡ before ++ ys)
  ok_same result before after xs ys same = on_ok_weaker result (adds_same before after xs ys same)

  pub adds_none_of : (before : List X) (xs : List X) → [] ≡ xs → before ≡ before ++ xs
  adds_none_of before xs none = sym (append-nil before) ∙ ap (λ l. before ++ l) none

  -- one after the other
  pub adds_then : (a b c xs ys : List X) → b ≡ a ++ xs → c ≡ b ++ ys → c ≡ a ++ (xs ++ ys)
  adds_then a b c xs ys first second = second ∙ ap (λ l. l ++ ys) first ∙ append_assoc a xs ys

  pub ok_then : {T E : Type 0} (result : Result T E) (a b c xs ys : List X) → b ≡ a ++ xs
      → OnOk result (c ≡ b ++ ys) → OnOk result (c ≡ a ++ (xs ++ ys))
  ok_then result a b c xs ys first = on_ok_weaker result (adds_then a b c xs ys first)

  -- a loop keeps that what was added, with what the rest adds, is the whole
  pub adds_next : (now next all names rest whole : List X) → now ++ all ≡ whole → all ≡ names ++ rest
      → next ≡ now ++ names → next ++ rest ≡ whole
  adds_next now next all names rest whole kept parts added =
      ap (λ l. l ++ rest) added ∙ append_assoc now names rest ∙ ap (λ l. now ++ l) (sym parts) ∙ kept

  pub adds_all : (start end all whole : List X) → end ++ all ≡ start ++ whole → all ≡ [] → end ≡ start ++ whole
  adds_all start end all whole kept nothing =
      sym (append-nil end) ∙ ap (λ l. end ++ l) (sym nothing) ∙ kept

  pub all_there : (all rest whole : List X) → rest ≡ [] → all ++ rest ≡ whole → all ≡ whole
  all_there all rest whole none so_far = sym (append-nil all) ∙ ap (λ l. all ++ l) (sym none) ∙ so_far
