-- Which code each value in memory stands for: one law a variant.
use Rattle.std.proofs.Common.{◌≡◌, ℕ, List, [], ◌∷◌, ◌++◌, subst, reverse, map, Option, Some, None, Result, Ok, Err, IfOk, OnOk, refl, sym, ap, ◌∙◌}
use Rattle.std.proofs.lemmas.List.{map-append, reverse-reverse}
use mathlib.Core.List.{reverse-cons}
use Rattle.std.specs.declared.alloc.Global.{Global}
use Rattle.std.specs.declared.boxed.Box.{Box}
use Rattle.std.specs.declared.vec.Vec.{Vec}
use Rattle.code.specs.declared.code.Way.{Way as KeptWay}
use Rattle.code.specs.declared.code.Occurrence.{Occurrence as KeptOccurrence}
use Rattle.code.specs.declared.code.Code.{Code as KeptCode, Skip, Does, Alone, Leave, Then, Sequence, Choice, Repeats, UpTo, UpToFalls, Row_of-Code, end_of-Code, more_of-Code, items-the_row-Code, items_hidden-the_row-Code-0}
use Rattle.code.specs.declared.code.Code.TheBlock.{hidden-the_row-Code-0}
use Rattle.meaning.specs.Code.{Code, skip, does, leave, then_code, either, repeats, up_to}
use Rattle.meaning.specs.StatementCode.{up_to_falls}
use Rattle.code.specs.CodeViews.{occurrence_view, way_view, sequence, choice, backward, or_another, one_of, code_view, row_codes, codes_view, IsCode}

module _ {E : Type 0} where
  pub row_codes-items : (m : _) (cs : Row_of-Code E m) → row_codes cs ≡ codes_view (items-the_row-Code E m cs)
  unfolding code_view
  row_codes-items m end_of-Code = refl
  row_codes-items m (more_of-Code c cs) = ap (λ l. code_view c ∷ l) (row_codes-items _ cs)

  codes_kept : (cs : Vec (KeptCode E) Global) → row_codes (hidden-the_row-Code-0 E cs) ≡ codes_view cs.items
  codes_kept cs = row_codes-items _ (hidden-the_row-Code-0 E cs) ∙ ap codes_view (items_hidden-the_row-Code-0 E cs)

  pub code_view-Skip : code_view {E = E} Skip ≡ skip
  unfolding code_view
  code_view-Skip = refl

  pub code_view-Does : (o : KeptOccurrence E) → code_view (Does o) ≡ does (occurrence_view o)
  unfolding code_view
  code_view-Does o = refl

  pub code_view-Alone : (o : KeptOccurrence E) → code_view (Alone o) ≡ then_code (does (occurrence_view o)) skip
  unfolding code_view
  code_view-Alone o = refl

  pub code_view-Leave : (way : KeptWay) → code_view {E = E} (Leave way) ≡ leave (way_view way)
  unfolding code_view
  code_view-Leave way = refl

  pub code_view-Then : (c d : Box (KeptCode E) Global) → code_view (Then c d) ≡ then_code (code_view c.value) (code_view d.value)
  unfolding code_view
  code_view-Then c d = refl

  pub code_view-Sequence : (cs : Vec (KeptCode E) Global) → code_view (Sequence cs) ≡ backward (codes_view cs.items) skip
  unfolding code_view
  code_view-Sequence cs = ap (λ l. backward l skip) (codes_kept cs)

  pub code_view-Choice : (cs : Vec (KeptCode E) Global) → code_view (Choice cs) ≡ one_of (codes_view cs.items) None
  unfolding code_view
  code_view-Choice cs = ap (λ l. one_of l None) (codes_kept cs)

  pub code_view-Repeats : (c : Box (KeptCode E) Global) → code_view (Repeats c) ≡ repeats (code_view c.value)
  unfolding code_view
  code_view-Repeats c = refl

  pub code_view-UpTo : (way : KeptWay) (c : Box (KeptCode E) Global) → code_view (UpTo way c) ≡ up_to (way_view way) (code_view c.value)
  unfolding code_view
  code_view-UpTo way c = refl

  pub code_view-UpToFalls : (falls : Vec ℕ Global) (c : Box (KeptCode E) Global) → code_view (UpToFalls falls c) ≡ up_to_falls falls.items (code_view c.value)
  unfolding code_view
  code_view-UpToFalls falls c = refl

  -- a result with an equal code
  pub same_code : {F : Type 0} (r : Result (KeptCode E) F) (x y : Code E) → x ≡ y
      → IfOk r (λ c. code_view c ≡ x) → IfOk r (λ c. code_view c ≡ y)
  same_code (Ok c) x y e h = h ∙ e
  same_code (Err f) x y e h = h

  module _ {F : Type 0} where
    code_of : (r : Result (KeptCode E) F) (x : KeptCode E) (a : Code E) → r ≡ Ok x → IsCode r a → code_view x ≡ a
    code_of r x a e h = subst (λ (s : Result (KeptCode E) F). IsCode s a) e h

    pub made_then : (r s : Result (KeptCode E) F) (x y : KeptCode E) (c d : Box (KeptCode E) Global) (a b : Code E)
        → r ≡ Ok x → c.value ≡ x → s ≡ Ok y → d.value ≡ y → IsCode r a → IsCode s b
        → code_view (Then c d) ≡ then_code a b
    made_then r s x y c d a b first held second kept ha hb =
        code_view-Then c d
        ∙ ap (λ z. then_code z (code_view d.value)) (ap code_view held ∙ code_of r x a first ha)
        ∙ ap (then_code a) (ap code_view kept ∙ code_of s y b second hb)

    pub made_either : (r s : Result (KeptCode E) F) (x y v : KeptCode E) (codes : List (KeptCode E))
        (none one : List (KeptCode E)) (a b : Code E)
        → r ≡ Ok x → s ≡ Ok y → none ≡ [] → one ≡ none ++ x ∷ [] → codes ≡ one ++ y ∷ []
        → code_view v ≡ choice (codes_view codes)
        → IsCode r a → IsCode s b → code_view v ≡ either a b
    made_either r s x y v codes none one a b first second empty begun held is ha hb =
        is
        ∙ ap (λ l. choice (codes_view l)) (held ∙ ap (λ l. l ++ y ∷ []) (begun ∙ ap (λ l. l ++ x ∷ []) empty))
        ∙ ap (λ z. either z (code_view y)) (code_of r x a first ha)
        ∙ ap (either a) (code_of s y b second hb)

    pub made_repeats : (r : Result (KeptCode E) F) (x : KeptCode E) (c : Box (KeptCode E) Global) (a : Code E)
        → r ≡ Ok x → c.value ≡ x → IsCode r a → code_view (Repeats c) ≡ repeats a
    made_repeats r x c a is held ha = code_view-Repeats c ∙ ap repeats (ap code_view held ∙ code_of r x a is ha)

    pub made_up_to : (way : KeptWay) (r : Result (KeptCode E) F) (x : KeptCode E) (c : Box (KeptCode E) Global) (a : Code E)
        → r ≡ Ok x → c.value ≡ x → IsCode r a → code_view (UpTo way c) ≡ up_to (way_view way) a
    made_up_to way r x c a is held ha =
        code_view-UpTo way c ∙ ap (up_to (way_view way)) (ap code_view held ∙ code_of r x a is ha)

    pub made_up_to_falls : (falls : Vec ℕ Global) (r : Result (KeptCode E) F) (x : KeptCode E) (c : Box (KeptCode E) Global) (a : Code E)
        → r ≡ Ok x → c.value ≡ x → IsCode r a → code_view (UpToFalls falls c) ≡ up_to_falls falls.items a
    made_up_to_falls falls r x c a is held ha =
        code_view-UpToFalls falls c ∙ ap (up_to_falls falls.items) (ap code_view held ∙ code_of r x a is ha)

  -- Lists that are kept backward

  onto : List (Code E) → Code E → Code E
  onto [] rest = rest
  onto (c ∷ cs) rest = then_code c (onto cs rest)

  onto_more : (xs : List (Code E)) (c rest : Code E) → onto (xs ++ c ∷ []) rest ≡ onto xs (then_code c rest)
  unfolding onto
  onto_more [] c rest = refl
  onto_more (x ∷ xs) c rest = ap (then_code x) (onto_more xs c rest)

  backward_onto : (xs : List (KeptCode E)) (rest : Code E) → backward (codes_view xs) rest ≡ onto (codes_view (reverse xs)) rest
  unfolding onto
  backward_onto [] rest = refl
  backward_onto (x ∷ xs) rest =
      backward_onto xs (then_code (code_view x) rest)
      ∙ sym (onto_more (codes_view (reverse xs)) (code_view x) rest)
      ∙ ap (λ l. onto l rest) (sym (map-append code_view (reverse xs) (x ∷ [])))
      ∙ ap (λ l. onto (codes_view l) rest) (sym (reverse-cons x xs))

  sequence_onto : (cs : List (Code E)) → sequence cs ≡ onto cs skip
  unfolding onto
  sequence_onto [] = refl
  sequence_onto (c ∷ cs) = ap (then_code c) (sequence_onto cs)

  pub kept_backward : (xs ys : List (KeptCode E)) → ys ≡ reverse xs → backward (codes_view ys) skip ≡ sequence (codes_view xs)
  kept_backward xs ys e =
      backward_onto ys skip
      ∙ ap (λ l. onto (codes_view l) skip) (ap reverse e ∙ reverse-reverse xs)
      ∙ sym (sequence_onto (codes_view xs))

  -- one of these or of the others
  ways : List (Code E) → Option (Code E) → Option (Code E)
  ways [] others = others
  ways (c ∷ cs) others = Some (or_another c (ways cs others))

  ways_more : (xs : List (Code E)) (c : Code E) (others : Option (Code E)) → ways (xs ++ c ∷ []) others ≡ ways xs (Some (or_another c others))
  unfolding ways
  ways_more [] c others = refl
  ways_more (x ∷ xs) c others = ap (λ o. Some (or_another x o)) (ways_more xs c others)

  one_of_ways : (xs : List (KeptCode E)) (others : Option (Code E)) → one_of (codes_view xs) others ≡ one_of [] (ways (codes_view (reverse xs)) others)
  unfolding ways
  one_of_ways [] others = refl
  one_of_ways (x ∷ xs) others =
      one_of_ways xs (Some (or_another (code_view x) others))
      ∙ ap (one_of []) (sym (ways_more (codes_view (reverse xs)) (code_view x) others) ∙ ap (λ l. ways l others) (sym (map-append code_view (reverse xs) (x ∷ []))) ∙ ap (λ l. ways (codes_view l) others) (sym (reverse-cons x xs)))

  choice_ways : (cs : List (Code E)) → choice cs ≡ one_of [] (ways cs None)
  unfolding ways
  choice_ways [] = refl
  choice_ways (c ∷ []) = refl
  choice_ways (c ∷ (d ∷ cs)) = ap (either c) (choice_ways (d ∷ cs))

  pub chosen_backward : (xs ys : List (KeptCode E)) → ys ≡ reverse xs → one_of (codes_view ys) None ≡ choice (codes_view xs)
  chosen_backward xs ys e =
      one_of_ways ys None
      ∙ ap (λ l. one_of [] (ways (codes_view l) None)) (ap reverse e ∙ reverse-reverse xs)
      ∙ sym (choice_ways (codes_view xs))

pub on_ok : {T F : Type 0} {P Q : Type 0} (r : Result T F) → (P → Q) → OnOk r P → OnOk r Q
on_ok (Ok t) f h = f h
on_ok (Err e) f h = h
