-- Reading parts of a list one after the other, as a loop does.
use Rattle.std.proofs.Common.{◌≡◌, ℕ, suc, ◌+◌, ◌-◌, ◌<◌, ◌≤◌, true, false, List, [], ◌∷◌, ◌++◌, map, Some, None, refl, sym, ap, ◌∙◌, append_assoc, arith}
use Rattle.std.specs.Prelude.{option_and_then}
use Rattle.std.proofs.lemmas.List.{map_push, append-nil}
use Rattle.lexer.specs.declared.token.TokenKind.TheVariants.{Comma}
use Rattle.tree.specs.declared.span.Identifier.{Identifier as KeptIdentifier}
use Rattle.tree.specs.Syntax.{Identifier}
use Rattle.tree.specs.View.{identifier_syntax}
use Rattle.parser_base.specs.declared.fault.Stop.{Stop}
use Rattle.parser_base.specs.Gives.{Stops}
use Rattle.parser_base.proofs.Faults.{fails_too}
use Rattle.meaning.specs.Cursor.{Cursor, GoText}
use Rattle.tree_reader.specs.Reading.{Read, stands, behind, steps, read_identifier, read_more_identifiers, read_identifiers}

-- what was read before, and what is still read
abbrev pub after_front : {A : Type 0} → List A → Read (List A) → Read (List A)
after_front front None = None
after_front front (Some r) = Some (front ++ r.0, r.1)

pub after_front-nil : {A : Type 0} (read : Read (List A)) → after_front [] read ≡ read
after_front-nil None = refl
after_front-nil (Some r) = refl

-- one part, and then others
abbrev pub with_first : {A : Type 0} → A → Read (List A) → Read (List A)
with_first x None = None
with_first x (Some r) = Some (x ∷ r.0, r.1)

pub front-first : {A : Type 0} (x : A) (more : Read (List A)) → after_front (x ∷ []) more ≡ with_first x more
front-first x None = refl
front-first x (Some r) = refl

pub after_front-push : {A B : Type 0} (f : A → B) (front : List A) (x : A) (more : Read (List B)) → after_front (map f front) (with_first (f x) more) ≡ after_front (map f (front ++ x ∷ [])) more
after_front-push f front x None = refl
after_front-push f front x (Some r) =
    ap (λ l. Some (l, r.1)) (sym (ap (λ l. l ++ r.0) (map_push f front x) ∙ append_assoc (map f front) (f x ∷ []) r.0))

pub after_front-end : {A : Type 0} (front : List A) (place : Cursor) → after_front front (Some ([], place)) ≡ Some (front, place)
after_front-end front place = ap (λ l. Some (l, place)) (append-nil front)

pub with_more : {A : Type 0} (x : A) (more : Read (List A)) → option_and_then (λ (m : List A × Cursor). Some (x ∷ m.0, m.1)) more ≡ with_first x more
with_more x None = refl
with_more x (Some r) = refl

module _ (text : GoText) where
  pub names-first-fails : (place : Cursor) → read_identifier text place ≡ None → read_identifiers text place ≡ None
  unfolding read_identifiers
  names-first-fails place e = rw e refl

  pub names-first : (place after : Cursor) (n : Identifier) → read_identifier text place ≡ Some (n, after) → read_identifiers text place ≡ with_first n (read_more_identifiers text (steps after) after)
  unfolding read_identifiers
  names-first place after n e = rw e (with_more n (read_more_identifiers text (steps after) after))

  module _ (k : ℕ) (place : Cursor) where
    pub names-end : stands Comma place ≡ false → read_more_identifiers text (suc k) place ≡ Some ([], place)
    unfolding read_more_identifiers
    names-end e = rw e refl

    pub names-fail : stands Comma place ≡ true → read_identifier text (behind place) ≡ None → read_more_identifiers text (suc k) place ≡ None
    unfolding read_more_identifiers
    names-fail e none = rw (e, none) refl

    pub names-more : stands Comma place ≡ true → (n : Identifier) (after : Cursor) → read_identifier text (behind place) ≡ Some (n, after) → read_more_identifiers text (suc k) place ≡ with_first n (read_more_identifiers text k after)
    unfolding read_more_identifiers
    names-more e n after read = rw (e, read) (with_more n (read_more_identifiers text k after))

-- a round of the loop over names, with so many rounds left
module _ (text : GoText) (front : List KeptIdentifier) (count i : ℕ) (rest : Cursor) (total : Read (List Identifier)) (so_far : after_front (map identifier_syntax front) (read_more_identifiers text (count - i) rest) ≡ total) where
  pub names-run-out : count ≤ i → total ≡ None
  unfolding read_more_identifiers
  names-run-out le =
      let k : count - i ≡ 0 = omega arith in
      sym so_far ∙ ap (λ (n : ℕ). after_front (map identifier_syntax front) (read_more_identifiers text n rest)) k

  module _ (lt : i < count) where
    one_round : total ≡ after_front (map identifier_syntax front) (read_more_identifiers text (suc (count - (i + 1))) rest)
    one_round =
        let k : count - i ≡ suc (count - (i + 1)) = omega arith in
        sym so_far ∙ ap (λ (n : ℕ). after_front (map identifier_syntax front) (read_more_identifiers text n rest)) k

    pub names-end-here : stands Comma rest ≡ false → total ≡ Some (map identifier_syntax front, rest)
    names-end-here e =
        one_round ∙ ap (after_front (map identifier_syntax front)) (names-end text (count - (i + 1)) rest e) ∙ after_front-end (map identifier_syntax front) rest

    module _ (comma : stands Comma rest ≡ true) where
      pub names-fail-here : (e : Stop) → Stops e (read_identifier text (behind rest)) → Stops e total
      names-fail-here e h =
          fails_too e (read_identifier text (behind rest)) total h (λ none. one_round ∙ ap (after_front (map identifier_syntax front)) (names-fail text (count - (i + 1)) rest comma none))

      pub names-go-on : (n : KeptIdentifier) (after : Cursor) → read_identifier text (behind rest) ≡ Some (identifier_syntax n, after) → after_front (map identifier_syntax (front ++ n ∷ [])) (read_more_identifiers text (count - (i + 1)) after) ≡ total
      names-go-on n after read =
          sym (one_round ∙ ap (after_front (map identifier_syntax front)) (names-more text (count - (i + 1)) rest comma (identifier_syntax n) after read) ∙ after_front-push identifier_syntax front n (read_more_identifiers text (count - (i + 1)) after))

-- before the first round
pub names-start : (text : GoText) (place after : Cursor) (n : KeptIdentifier) (count : ℕ) → read_identifier text place ≡ Some (identifier_syntax n, after) → count ≡ steps after → after_front (map identifier_syntax (n ∷ [])) (read_more_identifiers text (count - 0) after) ≡ read_identifiers text place
names-start text place after n count read same =
    let k : count - 0 ≡ steps after = omega (arith, same) in
    ap (λ (m : ℕ). after_front (map identifier_syntax (n ∷ [])) (read_more_identifiers text m after)) k ∙ (front-first (identifier_syntax n) (read_more_identifiers text (steps after) after) ∙ sym (names-first text place after (identifier_syntax n) read))
