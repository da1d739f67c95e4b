-- One more file joins those that were read by their names.
use Rattle.std.proofs.Common.{◌≡◌, ◌↔◌, ℕ, List, [], ◌∷◌, ◌++◌, map, All, Contains, string_bytes, string_cmp, ◌∙◌, ap, subst, sym}
use Rattle.std.proofs.lemmas.List.{append-nil, append_assoc, map-append}
use Rattle.std.proofs.lemmas.List.Elements.{All-nil, All-push, All-same}
use Rattle.std.specs.Prelude.{String}
use Rattle.std.specs.declared.alloc.Global.{Global}
use Rattle.std.specs.declared.cmp.Ordering.TheVariants.{Less}
use Rattle.std.specs.Cmp.Lexicographic.{slice_cmp}
use Rattle.std.specs.List.{AllByRecursion}
use Rattle.std.specs.List.Sorted.{IsStrictlySortedBy}
use Rattle.std.specs.Ordering.{nat_cmp}
use Rattle.lexer.specs.declared.source.Source.{Source}
use Rattle.folders.specs.ListedFiles.{names_of, AreFilesOf}
use Rattle.folders.specs.Names.{IsPrintable}

abbrev Text : Type 0
Text = String Global

abbrev texts_of : List Text → List (List ℕ)
texts_of = map string_bytes

-- texts ascend as their bytes do
below_texts : (n : Text) (ns : List Text) → AllByRecursion (λ m. string_cmp n m ≡ Less) ns
    → AllByRecursion (λ m. slice_cmp nat_cmp (string_bytes n) m ≡ Less) (texts_of ns)
below_texts n [] h = tt
below_texts n (m ∷ ms) h = (h.0, below_texts n ms h.1)

ascend_texts : (ns : List Text) → IsStrictlySortedBy string_cmp ns → IsStrictlySortedBy (slice_cmp nat_cmp) (texts_of ns)
unfolding IsStrictlySortedBy
ascend_texts [] h = tt
ascend_texts (n ∷ ns) h = (below_texts n ns h.0, ascend_texts ns h.1)

-- of these names, in their order, those of the sources stand first, and these are left
pub record AreFilesSo (names : List Text) (sources : List Source) (left : List Text) : Type 0 where
  pub ordered : List Text
  pub ascend : IsStrictlySortedBy string_cmp ordered
  pub same : (name : List ℕ) → Contains (texts_of ordered) name ↔ Contains (texts_of names) name
  pub split : names_of sources ++ texts_of left ≡ texts_of ordered
  pub printable : All IsPrintable (names_of sources)

pub no_files : (names ordered left : List Text) (sources : List Source) → sources ≡ [] → left ≡ ordered
    → IsStrictlySortedBy string_cmp ordered
    → ((name : List ℕ) → Contains (texts_of ordered) name ↔ Contains (texts_of names) name)
    → AreFilesSo names sources left
no_files names ordered left sources none all ascend same = record {
  ordered = ordered;
  ascend = ascend;
  same = same;
  split = ap (λ l. names_of l ++ texts_of left) none ∙ ap texts_of all;
  printable = All-same IsPrintable (names_of sources) [] (ap names_of none) (All-nil IsPrintable);
}

pub one_more_file : (names before left : List Text) (old new : List Source) (source : Source) (name : Text)
    → before ≡ name ∷ left
    → string_bytes source.name ≡ string_bytes name
    → IsPrintable (string_bytes source.name)
    → new ≡ old ++ source ∷ []
    → AreFilesSo names old before
    → AreFilesSo names new left
one_more_file names before left old new source name is named printed grown so =
    let more : names_of new ≡ names_of old ++ string_bytes source.name ∷ []
    = ap names_of grown ∙ map-append (λ (s : Source). string_bytes s.name) old (source ∷ []) in
    record {
      ordered = so.ordered;
      ascend = so.ascend;
      same = so.same;
      split =
          ap (λ l. l ++ texts_of left) more
          ∙ (append_assoc (names_of old) (string_bytes source.name ∷ []) (texts_of left)
          ∙ (ap (λ n. names_of old ++ n ∷ texts_of left) named
          ∙ (ap (λ l. names_of old ++ texts_of l) (sym is) ∙ so.split)));
      printable =
          All-same IsPrintable (names_of new) (names_of old ++ string_bytes source.name ∷ []) more
          (All-push IsPrintable (names_of old) (string_bytes source.name) so.printable printed);
    }

pub all_files : (names left : List Text) (sources : List Source) → left ≡ [] → AreFilesSo names sources left
    → AreFilesOf (texts_of names) sources
all_files names left sources none so =
    let all : names_of sources ≡ texts_of so.ordered
    = sym (append-nil (names_of sources)) ∙ (ap (λ l. names_of sources ++ texts_of l) (sym none) ∙ so.split) in
    record {
      same = λ name. subst (λ l. Contains l name ↔ Contains (texts_of names) name) (sym all) (so.same name);
      ascend = subst (IsStrictlySortedBy (slice_cmp nat_cmp)) (sym all) (ascend_texts so.ordered so.ascend);
      printable = so.printable;
    }
