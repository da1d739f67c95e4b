-- A text that is written part by part.
use Rattle.std.proofs.Common.{◌≡◌, ℕ, List, [], ◌++◌, take, drop, Option, Some, None, sym, ap, ◌∙◌, subst}
use Rattle.std.proofs.lemmas.List.{append-nil, append_assoc, take-append-drop}
use Rattle.std.specs.Io.KnownBytes.{Appends, Keeps}
use Rattle.std.proofs.KnownBytes.{Appends-nil, Appends-kept, Appends-trans}
use Rattle.printed.specs.Printing.{AppendsFront}

-- nothing was taken
pub keeps_none : (a b c : Option (List ℕ)) (bytes : List ℕ) → Keeps a b → Appends b c (take 0 bytes) → Keeps a c
keeps_none None b c bytes kept added = tt
keeps_none (Some xs) (Some ys) (Some zs) bytes kept added = added ∙ (append-nil ys ∙ kept)
keeps_none (Some xs) None c bytes kept added = absurd kept
keeps_none (Some xs) (Some ys) None bytes kept added = absurd added

-- the text so far, and what is left of it
pub record WritesSo (old now : Option (List ℕ)) (text left : List ℕ) : Type 0 where
  pub done : List ℕ
  pub split : text ≡ done ++ left
  pub written : Appends old now done

pub writes_none : (old : Option (List ℕ)) (text : List ℕ) → WritesSo old old text text
writes_none old text = record { done = []; split = λ i. text; written = Appends-nil old }

pub writes_next : (old now next : Option (List ℕ)) (text left after : List ℕ) (count : ℕ) → after ≡ drop count left
    → Appends now next (take count left)
    → WritesSo old now text left
    → WritesSo old next text after
writes_next old now next text left after count is more so = record {
  done = so.done ++ take count left;
  split =
      so.split
      ∙ (ap (λ l. so.done ++ l) (sym (take-append-drop count left))
      ∙ (sym (append_assoc so.done (take count left) (drop count left)) ∙ λ i. (so.done ++ take count left) ++ sym is i));
  written = Appends-trans old now next so.done (take count left) so.written more;
}

pub writes_all : (old now next : Option (List ℕ)) (text left : List ℕ) → left ≡ [] → Keeps now next → WritesSo old now text left
    → Appends old next text
writes_all old now next text left none kept so =
    subst (Appends old next) (sym (so.split ∙ ((λ i. so.done ++ none i) ∙ append-nil so.done)))
    (Appends-kept old now next so.done so.written kept)

pub writes_front : (old now next : Option (List ℕ)) (text left : List ℕ) → Keeps now next → WritesSo old now text left
    → AppendsFront old next text
writes_front old now next text left kept so = record {
  front = so.done;
  rest = left;
  is_front = so.split;
  written = Appends-kept old now next so.done so.written kept;
}
