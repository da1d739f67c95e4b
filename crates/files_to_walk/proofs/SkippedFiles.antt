-- A file that the program finds to be quiet may be skipped.
use Rattle.std.proofs.Common.{◌≡◌, Result, Ok, Err, IfOk, ℕ, zero, suc, ◌+◌, inl, inr, Bool, true, false, List, [], ◌∷◌, ◌++◌, map, length, Option, Some, None, option_map, refl, sym, ap, ◌∙◌, subst, arith}
use Rattle.std.specs.Prelude.{not, slice_get, unwrap_or}
use Rattle.std.proofs.lemmas.Bool.{false≢true}
use Rattle.std.proofs.lemmas.Option.{none-some, same_Some, slice_get-map}
use Rattle.std.proofs.lemmas.List.{length-append}
use Rattle.lexer.specs.declared.source.Source.{Source}
use Rattle.tree.specs.Syntax.{ImportSpec, SourceFile}
use Rattle.tree.specs.View.{file_syntax}
use Rattle.tree.specs.declared.file.File.{File}
use Rattle.meaning_reports.specs.MeantImports.{IsTreeButForImports}
use Rattle.meaning_reports.specs.Loaded.{Reading, has_tree, has_text_fault, has_tree_fault, LoadedPackage, NumberedTree, Tables, trees_from, trees_of, imports_of, signatures_of, imported_signatures, known_in}
use Rattle.meaning_reports.specs.WholeFaults.{HasNoWholeFault, has_no_tokens, has_no_tree}
use Rattle.meaning.proofs.Membership.{contains_here}
use Rattle.silent_files.specs.NamedWords.{LacksEach, LacksWord}
use Rattle.silent_files.specs.SilentPackages.{GiveNone, NamesNoGiver, MayBeSkipped}
use Rattle.silent_files.specs.WalkedFiles.{is_walked, SkipsSilent}
use Rattle.silent_files.proofs.OneMore.{last_or_before}
use Rattle.silent_files.proofs.SilentPackages.{imports_tell, none_among}
use Rattle.silent_files.proofs.SilentWords.{words_tell}
use Rattle.whole_packages.specs.declared.loaded_package.LoadedPackage.{LoadedPackage as KeptPackage}
use Rattle.whole_packages.specs.LoadedViews.{TellsPackage}
use Rattle.files_to_walk.specs.Skipping.{AreQuiet, IsQuiet, IsQuietIn}

pub not_true : (b : Bool) → not b ≡ true → b ≡ false
not_true true e = absurd (false≢true e)
not_true false e = refl

pub not_false : (b : Bool) → not b ≡ false → b ≡ true
not_false true e = refl
not_false false e = absurd (false≢true (sym e))

-- of a single word
pub lacks_one : {E : Type 0} (word text : List ℕ) (result : Result Bool E)
    → IfOk result (λ is. is ≡ false → LacksEach (word ∷ []) text)
    → IfOk result (λ is. is ≡ false → LacksWord word text)
lacks_one word text (Ok is) h = λ none. h none word (contains_here word [])
lacks_one word text (Err e) h = tt

pub tree_at : (trees : List File) (n : ℕ) (tree : File) → slice_get trees n ≡ Some tree
    → slice_get (map file_syntax trees) n ≡ Some (file_syntax tree)
tree_at trees n tree is = slice_get-map file_syntax trees n ∙ ap (option_map file_syntax) is

-- One file

module _ (ps : List LoadedPackage) (tables : Tables) (p : LoadedPackage) (givers : List ℕ → Bool)
    (own : GiveNone (signatures_of ps p))
    (imported : (path : List ℕ) → givers path ≡ false → GiveNone (imported_signatures p tables path)) where
  names_none : (number : ℕ) (tree : SourceFile) (text : List ℕ) → slice_get (trees_of p) number ≡ Some tree
      → IsQuiet givers tree text
      → NamesNoGiver ps tables p number tree
  names_none number tree text is quiet = record {
    is_tree = is;
    own_give_none = own;
    imported_give_none = λ spec there. imported spec.path
        (none_among (λ (s : ImportSpec). givers s.path) (imports_of tree) spec quiet.no_giver there);
  }

  quiet_so : (number : ℕ) (tree : SourceFile) (text : List ℕ) → slice_get (trees_of p) number ≡ Some tree
      → IsTreeButForImports p.edition text tree
      → IsQuiet givers tree text
      → MayBeSkipped ps tables p number tree
  quiet_so number tree text is spelled quiet =
      let names = names_none number tree text is quiet in
      let no_recover = words_tell.no_recover p.edition text tree spelled quiet.no_recover in
      elim quiet.no_maker [
        | inl neither ↦ imports_tell ps tables p number tree names neither no_recover
        | inr lacks ↦ record {
          names_no_giver = names;
          no_group_import = quiet.no_group;
          none_tells = words_tell.none_tells text tree (known_in ps tables p number) spelled lacks;
          no_recover = no_recover;
        }
      ]

-- The files of a package

abbrev HasTree : Reading → Type 0
HasTree (has_tree tree) = Unit {0}
HasTree (has_text_fault at why) = ⊥
HasTree (has_tree_fault at why) = ⊥

-- where each file has a tree, the trees have the numbers of the files
tree_there : (k : ℕ) (rs : List Reading) → ((i : ℕ) (r : Reading) → slice_get rs i ≡ Some r → HasTree r)
    → (i : ℕ) (tree : SourceFile)
    → slice_get (map (λ (t : NumberedTree). t.tree) (trees_from k rs)) i ≡ Some tree
    → slice_get rs i ≡ Some (has_tree tree)
tree_there k [] all zero tree is = let bad : _ ≡ Some tree = is in cc
tree_there k [] all (suc i) tree is = let bad : _ ≡ Some tree = is in cc
tree_there k (has_tree first ∷ rs) all zero tree is = ap (λ (t : SourceFile). Some (has_tree t)) (same_Some first tree is)
tree_there k (has_tree first ∷ rs) all (suc i) tree is =
    tree_there (k + 1) rs (λ j r there. all (suc j) r there) i tree is
tree_there k (has_text_fault at why ∷ rs) all i tree is = absurd (all 0 (has_text_fault at why) refl)
tree_there k (has_tree_fault at why ∷ rs) all i tree is = absurd (all 0 (has_tree_fault at why) refl)

all_trees : (ps : List LoadedPackage) (i : ℕ) (p : LoadedPackage) → slice_get ps i ≡ Some p → HasNoWholeFault ps i
    → (j : ℕ) (r : Reading)
    → slice_get p.files j ≡ Some r
    → HasTree r
all_trees ps i p is none j (has_tree tree) there = tt
all_trees ps i p is none j (has_text_fault at why) there = none _ (has_no_tokens p j at why is there)
all_trees ps i p is none j (has_tree_fault at why) there = none _ (has_no_tree p j at why is there)

marked : (marks : List Bool) (n : ℕ) → is_walked marks n ≡ false → slice_get marks n ≡ Some false
marked marks n = by (slice_get marks n)
  where
    by : (o : Option Bool) → unwrap_or o true ≡ false → o ≡ Some false
    by None e = absurd (false≢true (sym e))
    by (Some b) e = ap Some e

module _ (ps : List LoadedPackage) (tables : Tables) (i : ℕ) (p : LoadedPackage) (kept : KeptPackage)
    (is_p : slice_get ps i ≡ Some p) (tells : TellsPackage p kept) (none : HasNoWholeFault ps i)
    (givers : List ℕ → Bool)
    (own : GiveNone (signatures_of ps p))
    (imported : (path : List ℕ) → givers path ≡ false → GiveNone (imported_signatures p tables path)) where
  text_so : (n : ℕ) (tree : SourceFile) → slice_get (trees_of p) n ≡ Some tree → (o : Option Source)
      → slice_get kept.sources.items n ≡ o
      → IsQuietIn givers tree o
      → MayBeSkipped ps tables p n tree
  text_so n tree is None there quiet = absurd quiet
  text_so n tree is (Some source) there quiet =
      let has = tree_there 0 p.files (all_trees ps i p is_p none) n tree is in
      quiet_so ps tables p givers own imported n tree source.bytes.items is (tells.are_of_texts n source tree there has)
      quiet

  pub skips_so : (marks : List Bool)
      → AreQuiet givers (map file_syntax kept.trees.items) kept.sources.items marks
      → SkipsSilent ps tables p (is_walked marks)
  skips_so marks are = record {
    may_be = λ n tree is off. text_so n tree is (slice_get kept.sources.items n) refl
        (are.each n tree (subst (λ ts. slice_get ts n ≡ Some tree) tells.are_trees is) (marked marks n off));
  }

-- where all are walked, none is skipped
pub none_skipped : (ps : List LoadedPackage) (tables : Tables) (p : LoadedPackage) (walked : ℕ → Bool)
    → ((n : ℕ) → walked n ≡ true)
    → SkipsSilent ps tables p walked
none_skipped ps tables p walked all = record {
  may_be = λ n tree is off. absurd (false≢true (sym off ∙ all n));
}

-- The marks, one after the other

module _ (givers : List ℕ → Bool) (trees : List SourceFile) (sources : List Source) where
  -- so many are made
  pub record AreMade (count : ℕ) (marks : List Bool) : Type 0 where
    pub are_as_many : length marks ≡ count
    pub are_quiet : AreQuiet givers trees sources marks

  pub no_mark : (marks : List Bool) → marks ≡ [] → AreMade 0 marks
  no_mark marks none = record {
    are_as_many = ap length none;
    are_quiet = record { each = λ n tree is off. absurd (none-some false (ap (λ ms. slice_get ms n) (sym none) ∙ off)) };
  }

  pub one_mark : (count : ℕ) (marks next : List Bool) (mark : Bool) (tree : SourceFile) → next ≡ marks ++ mark ∷ []
      → slice_get trees count ≡ Some tree
      → (mark ≡ false → IsQuietIn givers tree (slice_get sources count))
      → AreMade count marks
      → AreMade (count + 1) next
  one_mark count marks next mark tree is_next is quiet are = record {
    are_as_many =
        let before = are.are_as_many in
        let size = length-append marks (mark ∷ []) in
        let same = ap length is_next in
        omega (arith, before, size, same);
    are_quiet = record {
      each = λ n other there off.
          elim (last_or_before marks mark n false (ap (λ ms. slice_get ms n) (sym is_next) ∙ off)) [
            | inl before ↦ are.are_quiet.each n other there before
            | inr last ↦ this_one n other (last.0 ∙ are.are_as_many) last.1 there
          ];
    };
  }
    where
      this_one : (n : ℕ) (other : SourceFile) → n ≡ count → mark ≡ false → slice_get trees n ≡ Some other
          → IsQuietIn givers other (slice_get sources n)
      this_one n other same off there =
          let same_tree : tree ≡ other = same_Some tree other (sym is ∙ (ap (slice_get trees) (sym same) ∙ there)) in
          subst (λ m. IsQuietIn givers other (slice_get sources m)) (sym same)
          (subst (λ t. IsQuietIn givers t (slice_get sources count)) same_tree (quiet off))
