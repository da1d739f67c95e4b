-- A file that may be skipped puts nothing into fields: it has no cancel variable, and no row of a giver.
use Rattle.std.proofs.Common.{◌≡◌, ℕ, zero, suc, ◌+◌, Bool, true, false, List, [], ◌∷◌, Option, Some, None, is_some, refl, sym, ap, ◌∙◌, subst, arith}
use Rattle.std.specs.Prelude.{◌||◌, if◌then◌else◌, slice_get}
use Rattle.std.specs.List.{list_any}
use Rattle.std.specs.Str.{bytes_eq}
use Rattle.tree.specs.Syntax.{SourceFile}
use Rattle.keeping.specs.Keeping.{PutsNothing, PutNothing}
use Rattle.meaning.specs.Mentions.{Named, Row, Call, BodyPlace, Assigned, calls_field, writes_field, hands_over, hands_literal, renews, imports_all, Mark, mentions, of_fields, runs_literal, returns, opens, closes, marks_by, file_marks}
use Rattle.meaning.specs.Tracked.{each_field, Known, ObjectLeft, may_bind, only_call, Placed, placed}
use Rattle.meaning.specs.Uses.{Seen, seen_with, seen_in}
use Rattle.meaning.specs.BodyEvents.{seen_file}
use Rattle.meaning.specs.Kept.{Element, own_cancel, is_field_meant, some_bare}
use Rattle.meaning.specs.KeepingFields.{value_at, is_by_giver, holds_after, elements_there, is_put_by, puts}
use Rattle.meaning_reports.specs.Loaded.{LoadedPackage, Tables, trees_of, known_with, keeping_in}
use Rattle.silent_files.specs.SilentFiles.{GivesByContext, call_tells, row_tells, mark_tells}
use Rattle.silent_files.specs.SilentPackages.{MayBeSkipped}
use Rattle.silent_files.proofs.SilentFiles.{neither_first, neither_second, not_both, none_of, none_placed, no_call_giving, with_lefts, gives_too, seen_plainly, never_own}
use Rattle.silent_files.proofs.SilentPackages.{gives_by_context, none_by, all_tell}
use Rattle.keeping.specs.PuttingFiles.{SkippedPutNothing}

call_same : (known : Known) (lefts : ℕ → Option ObjectLeft) (c : Option Call)
    → call_tells (with_lefts known lefts) c ≡ call_tells known c
call_same known lefts None = refl
call_same known lefts (Some c) = refl

module _ (known : Known) (gives : GivesByContext known) (marks : List Mark)
    (none_tell : list_any (λ (p : Placed). mark_tells known p.mark) (placed [] marks) ≡ false) where
  -- no row obtains into a field
  abbrev seen : Seen
  seen = seen_with known (placed [] marks) []

  no_own : (bodies : List BodyPlace) (n : Option Named) → is_some (own_cancel seen bodies n) ≡ false
  no_own bodies n = ap is_some (never_own known gives (placed [] marks) none_tell bodies n)

  no_giver_row : (row : Row) → row_tells known row ≡ false → is_by_giver seen row ≡ false
  no_giver_row row h =
      let lefts : ℕ → Option ObjectLeft = seen.known.object_lefts in
      let call : Option Call = only_call row row.values in
      not_both (may_bind row.standing row.form) _
      (ap is_some (no_call_giving (with_lefts known lefts) (gives_too known lefts gives) call
      (call_same known lefts call ∙ neither_first (call_tells known call) _ h)))

  no_value : (bodies : List BodyPlace) (a : Assigned) → row_tells known a.row ≡ false
      → holds_after seen bodies (Some a) ≡ false
  no_value bodies a h = λ i. no_giver_row a.row h i || no_own bodies (some_bare (value_at a.row a.left_side)) i

  no_element : (f : List ℕ) (bodies : List BodyPlace) (e : Element) → is_put_by seen f bodies e ≡ false
  no_element f bodies e = not_both (bytes_eq e.field f) _ (by (is_field_meant seen e.field (seen.known.means e.at)))
    where
      by : (b : Bool) → is_some (if b then own_cancel seen bodies (Some e.value) else None) ≡ false
      by true = no_own bodies (Some e.value)
      by false = refl

  no_elements : (f : List ℕ) (bodies : List BodyPlace) (es : List Element) → list_any (is_put_by seen f bodies) es ≡ false
  no_elements f bodies es = none_of (is_put_by seen f bodies) (no_element f bodies) es

  no_put : (f : List ℕ) (bodies : List BodyPlace) (mark : Mark) → mark_tells known mark ≡ false
      → puts seen f bodies mark ≡ false
  no_put f bodies (mentions m) h = no_elements f bodies (elements_there (mentions m))
  no_put f bodies (of_fields site (calls_field g)) h = refl
  no_put f bodies (of_fields site (writes_field l None)) h = not_both (bytes_eq l.field.text f) _ refl
  no_put f bodies (of_fields site (writes_field l (Some a))) h =
      not_both (bytes_eq l.field.text f) _ (no_value bodies a h)
  no_put f bodies (of_fields site (hands_over taker e)) h =
      no_elements f bodies (elements_there (of_fields site (hands_over taker e)))
  no_put f bodies (of_fields site (hands_literal taker at)) h = refl
  no_put f bodies (of_fields site (renews n)) h = refl
  no_put f bodies (of_fields site imports_all) h = refl
  no_put f bodies (runs_literal moment site at) h = refl
  no_put f bodies (returns at es) h = no_elements f bodies (elements_there (returns at es))
  no_put f bodies (opens b) h = refl
  no_put f bodies closes h = refl

  none_put : (f : List ℕ) (ps : List Placed) → list_any (λ (p : Placed). mark_tells known p.mark) ps ≡ false
      → list_any (λ p. puts seen f p.bodies p.mark) ps ≡ false
  none_put f [] h = refl
  none_put f (p ∷ ps) h = λ i.
      no_put f p.bodies p.mark (neither_first (mark_tells known p.mark) _ h) i
      || none_put f ps (neither_second (mark_tells known p.mark) _ h) i

  puts_none : PutsNothing (seen_in known marks)
  puts_none =
      subst PutsNothing (sym (seen_plainly known gives (placed [] marks) none_tell))
      (λ f. none_put f (placed [] marks) none_tell)

module _ (ps : List LoadedPackage) (tables : Tables) (p : LoadedPackage) where
  abbrev known_there : ℕ → Known
  known_there = known_with each_field ps tables p

  of_skipped : (number : ℕ) (tree : SourceFile) → MayBeSkipped ps tables p number tree
      → PutsNothing (seen_file (known_there number) tree)
  of_skipped number tree may =
      let known : Known = known_there number in
      let marks : List Mark = file_marks tree in
      let none_tell : list_any (mark_tells known) marks ≡ false =
      all_tell each_field (keeping_in ps tables p) ps tables p number marks ∙ may.none_tells in
      puts_none known (gives_by_context ps tables p number tree may.names_no_giver each_field may.no_group_import)
      (marks_by p.edition true marks)
      (none_placed (mark_tells known) [] (marks_by p.edition true marks)
      (none_by p.edition true (mark_tells known) marks none_tell))

  abbrev AreSkipped : (ℕ → Bool) → ℕ → List SourceFile → Type 0
  AreSkipped walked k trees = (n : ℕ) (tree : SourceFile) → slice_get trees n ≡ Some tree → walked (k + n) ≡ false
      → MayBeSkipped ps tables p (k + n) tree

  put_from : (walked : ℕ → Bool) (k : ℕ) (trees : List SourceFile) → AreSkipped walked k trees
      → PutNothing walked known_there k trees
  put_from walked k [] skip = tt
  put_from walked k (tree ∷ trees) skip = (
    λ off.
        let first : k + zero ≡ k = omega arith in
        of_skipped k tree (subst (λ m. MayBeSkipped ps tables p m tree) first (skip 0 tree refl (ap walked first ∙ off))),
    put_from walked (k + 1) trees
        (λ n other is off.
        let next : k + suc n ≡ k + 1 + n = omega arith in
        subst (λ m. MayBeSkipped ps tables p m other) next (skip (suc n) other is (ap walked next ∙ off))),
  )

pub skipped_put_nothing : SkippedPutNothing
skipped_put_nothing ps tables p walked skips =
    put_from ps tables p walked 0 (trees_of p)
    (λ n tree is off.
    let same : 0 + n ≡ n = omega arith in
    subst (λ m. MayBeSkipped ps tables p m tree) (sym same) (skips.may_be n tree is (ap walked (sym same) ∙ off)))
