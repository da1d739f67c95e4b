-- What is added at the end of the marks by what a walk marks, step by step.
use Rattle.std.proofs.Common.{◌≡◌, ℕ, ◌+◌, Bool, true, false, not, ◌||◌, if◌then◌else◌, Option, Some, None, List, [], ◌∷◌, ◌++◌, Result, OnOk, refl, sym, ap, ◌∙◌}
use Rattle.std.proofs.lemmas.List.{append_assoc, append-nil}
use Rattle.std.proofs.lemmas.List.Elements.{filter-append}
use Rattle.std.proofs.lemmas.Result.{on_ok_weaker}
use Rattle.tree.specs.declared.edition.Edition.{Edition}
use Rattle.tree.specs.declared.edition.Edition.TheVariants.{First, Second}
use Rattle.tree.specs.declared.span.Span.{Span}
use Rattle.tree.specs.Syntax.{Identifier}
use Rattle.mentions.specs.declared.kept.Marks.{Marks}
use Rattle.mentions.specs.MarkViews.{marks_view, Adds}
use Rattle.marks.specs.declared.by_edition.Told.{Told}
use Rattle.marks.specs.declared.by_edition.Walk.{Walk}
use Rattle.marks.specs.WalkViews.{AddsBy, FindsNothing, marks_told}
use Rattle.meaning.specs.Scopes.{is_blank}
use Rattle.meaning.specs.Mentions.{Mark, Named, Role, Row, mention, declaring, exposed, left_names, declared_elsewhere, guard_in_clause, is_found, is_of_fields, marks_by}

-- What is kept by an edition, and by whether some field keeps what it holds.

pub by_nothing : (e : Edition) (some_keep : Bool) → marks_by e some_keep [] ≡ []
by_nothing First some_keep = refl
by_nothing Second false = refl
by_nothing Second true = refl

pub by_both : (e : Edition) (some_keep : Bool) (xs ys : List Mark)
    → marks_by e some_keep (xs ++ ys) ≡ marks_by e some_keep xs ++ marks_by e some_keep ys
by_both First some_keep xs ys = filter-append (λ m. not (is_found m || is_of_fields m)) xs ys
by_both Second false xs ys = filter-append (λ m. not (is_of_fields m)) xs ys
by_both Second true xs ys = refl

pub told_nothing : (t : Told) → marks_told t [] ≡ []
told_nothing t = by_nothing t.edition t.some_keep

pub told_both : (t : Told) (xs ys : List Mark) → marks_told t (xs ++ ys) ≡ marks_told t xs ++ marks_told t ys
told_both t xs ys = by_both t.edition t.some_keep xs ys

-- all of them are kept, whatever is marked
abbrev pub IsKept : List Mark → Type 0
IsKept ms = (e : Edition) (some_keep : Bool) → marks_by e some_keep ms ≡ ms

pub kept_there : (b : Bool) → b ≡ false → (m : Mark) (ms rest : List Mark) → rest ≡ ms → (if not b then m ∷ rest else rest) ≡ m ∷ ms
kept_there false e m ms rest same = ap (λ l. m ∷ l) same
kept_there true e m ms rest same = let bad : true ≡ false = e in cc

pub one_kept : (m : Mark) → is_found m ≡ false → is_of_fields m ≡ false → (ms : List Mark) → IsKept ms → IsKept (m ∷ ms)
one_kept m e f ms kept First some_keep =
    kept_there (is_found m || is_of_fields m) (λ i. e i || f i) m ms _ (kept First some_keep)
one_kept m e f ms kept Second false = kept_there (is_of_fields m) f m ms _ (kept Second false)
one_kept m e f ms kept Second true = refl

pub alone_kept : (m : Mark) → is_found m ≡ false → is_of_fields m ≡ false → IsKept (m ∷ [])
alone_kept m e f = one_kept m e f [] by_nothing

pub mention_kept : (role : Role) → FindsNothing role → (site : ℕ) (n : Named) → IsKept (mention site role n ∷ [])
mention_kept role none site n = alone_kept (mention site role n) (none site n) refl

pub left_names_kept : (row : Row) (site k : ℕ) (ns : List Identifier) → IsKept (left_names row site k ns)
left_names_kept row site k [] = by_nothing
left_names_kept row site k (n ∷ ns) = one_kept _ refl refl _ (left_names_kept row site (k + 1) ns)

pub elsewhere_kept : (site : ℕ) (ns : List Identifier) → IsKept (declared_elsewhere site ns)
elsewhere_kept site [] = by_nothing
elsewhere_kept site (n ∷ ns) = one_kept _ refl refl _ (elsewhere_kept site ns)

pub guard_kept : (site : ℕ) (n : Option Identifier) (clause : Span) → IsKept (guard_in_clause site n clause)
guard_kept site None clause = by_nothing
guard_kept site (Some n) clause = by (is_blank n.text)
  where
    by : (b : Bool) → IsKept (if b then [] else declaring site exposed n (Some clause.start) ∷ [])
    by true = by_nothing
    by false = alone_kept _ refl refl

-- One after the other.

pub adds_nothing : (before : Walk) → AddsBy before before []
adds_nothing before = record {
  keeps = refl;
  adds = sym (ap (λ l. marks_view before.marks.list.items ++ l) (told_nothing before.told) ∙ append-nil (marks_view before.marks.list.items));
}

pub adds_same : (before after : Walk) (names others : List Mark) → names ≡ others → AddsBy before after names → AddsBy before after others
adds_same before after names others same added = record {
  keeps = added.keeps;
  adds = added.adds ∙ ap (λ l. marks_view before.marks.list.items ++ marks_told before.told l) same;
}

pub adds_then : (before between after : Walk) (names others : List Mark)
    → AddsBy before between names
    → AddsBy between after others
    → AddsBy before after (names ++ others)
adds_then before between after names others first second =
    let start = marks_view before.marks.list.items in
    let told = before.told in
    record {
      keeps = second.keeps ∙ first.keeps;
      adds = second.adds ∙ (λ i. first.adds i ++ marks_told (first.keeps i) others)
          ∙ append_assoc start (marks_told told names) (marks_told told others)
          ∙ ap (λ l. start ++ l) (sym (told_both told names others));
    }

-- what is kept whatever is marked was added to the marks of the walk
pub adds_kept : (before : Walk) (after : Marks) (names : List Mark)
    → IsKept names
    → Adds before.marks.list.items after.list.items names
    → AddsBy before (record { told = before.told; marks = after }) names
adds_kept before after names kept added = record {
  keeps = refl;
  adds = added ∙ ap (λ l. marks_view before.marks.list.items ++ l) (sym (kept before.told.edition before.told.some_keep));
}

-- A loop keeps that what was added with what the rest adds is the whole.

pub record Continues (start now : Walk) (rest whole : List Mark) : Type 0 where
  pub stays : now.told ≡ start.told
  pub goes_on : marks_view now.marks.list.items ++ marks_told start.told rest
      ≡ marks_view start.marks.list.items ++ marks_told start.told whole

pub adds_next : (start now next : Walk) (all names rest whole : List Mark)
    → Continues start now all whole
    → all ≡ names ++ rest
    → AddsBy now next names
    → Continues start next rest whole
adds_next start now next all names rest whole kept parts added =
    let before = marks_view now.marks.list.items in
    let told = start.told in
    record {
      stays = added.keeps ∙ kept.stays;
      goes_on = ap (λ l. l ++ marks_told told rest) (added.adds ∙ ap (λ t. before ++ marks_told t names) kept.stays)
          ∙ append_assoc before (marks_told told names) (marks_told told rest)
          ∙ ap (λ l. before ++ l) (sym (ap (marks_told told) parts ∙ told_both told names rest))
          ∙ kept.goes_on;
    }

pub adds_all : (start end : Walk) (all whole : List Mark)
    → Continues start end all whole
    → all ≡ []
    → AddsBy start end whole
adds_all start end all whole kept nothing =
    let after = marks_view end.marks.list.items in
    record {
      keeps = kept.stays;
      adds = sym (append-nil after)
          ∙ ap (λ l. after ++ l) (sym (ap (marks_told start.told) nothing ∙ told_nothing start.told))
          ∙ kept.goes_on;
    }

-- The last step may fail.

pub then_adds : {T E : Type 0} (result : Result T E) (before between after : Walk) (names others : List Mark)
    → AddsBy before between names
    → OnOk result (AddsBy between after others)
    → OnOk result (AddsBy before after (names ++ others))
then_adds result before between after names others first = on_ok_weaker result (adds_then before between after names others first)

pub same_adds : {T E : Type 0} (result : Result T E) (before after : Walk) (names others : List Mark)
    → names ≡ others
    → OnOk result (AddsBy before after names)
    → OnOk result (AddsBy before after others)
same_adds result before after names others same = on_ok_weaker result (adds_same before after names others same)

pub kept_adds : {T E : Type 0} (result : Result T E) (before : Walk) (after : Marks) (names : List Mark)
    → IsKept names
    → OnOk result (Adds before.marks.list.items after.list.items names)
    → OnOk result (AddsBy before (record { told = before.told; marks = after }) names)
kept_adds result before after names kept = on_ok_weaker result (adds_kept before after names kept)

pub three_adds : {T E : Type 0} (result : Result T E) (a b c d : Walk) (xs ys zs : List Mark)
    → AddsBy a b xs
    → AddsBy b c ys
    → OnOk result (AddsBy c d zs)
    → OnOk result (AddsBy a d (xs ++ (ys ++ zs)))
three_adds result a b c d xs ys zs first second third =
    then_adds result a b d xs (ys ++ zs) first (then_adds result b c d ys zs second third)

pub four_adds : {T E : Type 0} (result : Result T E) (a b c d e : Walk) (xs ys zs ws : List Mark)
    → AddsBy a b xs
    → AddsBy b c ys
    → AddsBy c d zs
    → OnOk result (AddsBy d e ws)
    → OnOk result (AddsBy a e (xs ++ (ys ++ (zs ++ ws))))
four_adds result a b c d e xs ys zs ws first second third fourth =
    then_adds result a b e xs (ys ++ (zs ++ ws)) first (three_adds result b c d e ys zs ws second third fourth)

pub alone_adds : {T E : Type 0} (result : Result T E) (before after : Walk) (names : List Mark)
    → OnOk result (AddsBy before after names)
    → OnOk result (AddsBy before after (names ++ []))
alone_adds result before after names = same_adds result before after names (names ++ []) (sym (append-nil names))

pub then_alone_adds : {T E : Type 0} (result : Result T E) (a b c : Walk) (xs ys : List Mark)
    → AddsBy a b xs
    → OnOk result (AddsBy b c ys)
    → OnOk result (AddsBy a c (xs ++ (ys ++ [])))
then_alone_adds result a b c xs ys first second = then_adds result a b c xs (ys ++ []) first (alone_adds result b c ys second)
