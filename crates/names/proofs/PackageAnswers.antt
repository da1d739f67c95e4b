-- What the uses of a package mean, file by file.
use Rattle.std.proofs.Common.{◌≡◌, ℕ, zero, suc, ◌+◌, ◌<◌, ◌≤◌, Bool, List, [], ◌∷◌, ◌++◌, map, length, get_or, take, option_map, refl, sym, ap, ◌∙◌, subst, arith, length-append}
use Rattle.std.proofs.lemmas.List.{take_more, take_all}
use Rattle.std.proofs.lemmas.Option.{slice_get-map}
use Rattle.std.specs.Prelude.{Option, Some, None, slice_get}
use Rattle.tree.specs.declared.file.File.{File}
use Rattle.tree.specs.View.{file_syntax}
use Rattle.names.specs.declared.use_meanings.UseMeanings.{UseMeanings}
use Rattle.names.specs.Answers.{decl_view, answer_in}
use Rattle.names.specs.KeptMeanings.{kept_at}
use Rattle.tree.specs.Syntax.{SourceFile}
use Rattle.meaning.specs.Scopes.{file_names}
use Rattle.meaning.specs.OuterBlocks.{PackageLevel, PackageNames, package_block, package_meant, specs_of, import_meant}
use Rattle.meaning.specs.Declarations.{Use, locals_of, local_meant, local_or_around, import_or_around, package_or_universe, meaning_of, meaning_at, declaration_of_use, use_at, uses_of}
use Rattle.names.specs.Maps.{is_function_in}
use Rattle.names.specs.Uses.{from_package, meant, meant_at}

of_package : (d : Option PackageLevel) → from_package (option_map (λ p. p.is_function) d) ≡ package_or_universe d
of_package None = refl
of_package (Some d) = refl

meant_of : (files : List SourceFile) (packages : PackageNames) (block : List ℕ → Option Bool)
    → ((name : List ℕ) → block name ≡ is_function_in (package_block files) name)
    → (file : SourceFile) (u : Use) → meant block packages file u ≡ meaning_of files packages file u
meant_of files packages block same file u =
    let of_import = import_meant packages (specs_of file.imports) u.name in
    ap (λ m. local_or_around (local_meant (locals_of (file_names file)) u.name u.at) (import_or_around of_import m))
    (ap from_package (same u.name) ∙ of_package (package_meant (package_block files) u.name))

pub meant_in_file : (files : List SourceFile) (packages : PackageNames) (block : List ℕ → Option Bool)
    → ((name : List ℕ) → block name ≡ is_function_in (package_block files) name)
    → (file : SourceFile) (at : ℕ) → meant_at block packages file at ≡ meaning_at files packages (Some file) at
meant_in_file files packages block same file at = λ i.
    option_map (λ u. meant_of files packages block same file u i) (use_at at (uses_of (file_names file)))

-- one more at the end of both lists
one_more : {A B C : Type 0} (f : Option A → ℕ → C) (g : Option B → ℕ → C) (xs : List A) (ys : List B) (a : A) (b : B) → length xs ≡ length ys
    → ((at : ℕ) → f None at ≡ g None at) → ((at : ℕ) → f (Some a) at ≡ g (Some b) at)
    → ((k at : ℕ) → f (slice_get xs k) at ≡ g (slice_get ys k) at)
    → (k at : ℕ) → f (slice_get (xs ++ (a ∷ [])) k) at ≡ g (slice_get (ys ++ (b ∷ [])) k) at
one_more f g [] [] a b e none last each zero at = last at
one_more f g [] [] a b e none last each (suc k) at = none at
one_more f g [] (y ∷ ys) a b e none last each k at = absurd (omega arith)
one_more f g (x ∷ xs) [] a b e none last each k at = absurd (omega arith)
one_more f g (x ∷ xs) (y ∷ ys) a b e none last each zero at = each 0 at
one_more f g (x ∷ xs) (y ∷ ys) a b e none last each (suc k) at = one_more f g xs ys a b (omega arith) none last (λ j. each (suc j)) k at

-- the answers are those of the files that were read, one for each
pub record AreAnswers (files : List SourceFile) (packages : PackageNames) (answers : List UseMeanings) (read : List File) : Type 0 where
  pub as_many : length answers ≡ length read
  pub each :
      (k at : ℕ) → answer_in (slice_get answers k) at ≡ meaning_at files packages (option_map file_syntax (slice_get read k)) at

pub no_answers : (files : List SourceFile) (packages : PackageNames) (answers : List UseMeanings) → answers ≡ []
    → AreAnswers files packages answers []
no_answers files packages answers e = subst (λ l. AreAnswers files packages l []) (sym e) (record { as_many = refl; each = λ k at. refl })

pub more_answers : (files : List SourceFile) (packages : PackageNames) (block : List ℕ → Option Bool)
    (answers new : List UseMeanings) (one : UseMeanings) (all : List File) (i : ℕ) (file : File)
    → i < length all → file ≡ get_or all i file → new ≡ answers ++ (one ∷ [])
    → ((name : List ℕ) → block name ≡ is_function_in (package_block files) name)
    → ((at : ℕ) → option_map decl_view (kept_at one at) ≡ meant_at block packages (file_syntax file) at)
    → AreAnswers files packages answers (take i all) → AreAnswers files packages new (take (i + 1) all)
more_answers files packages block answers new one all i file below item pushed same answered so_far =
    let read = take i all in
    let now_read : take (i + 1) all ≡ read ++ (file ∷ []) = take_more all i file below ∙ ap (λ f. read ++ (f ∷ [])) (sym item) in
    let now : AreAnswers files packages (answers ++ (one ∷ [])) (read ++ (file ∷ [])) = record {
      as_many = simp (length-append, so_far.as_many);
      each = one_more answer_in (λ f at. meaning_at files packages (option_map file_syntax f) at) answers read one file so_far.as_many (λ at. refl)
          (λ at. answered at ∙ meant_in_file files packages block same (file_syntax file) at) so_far.each;
    } in
    subst (λ l. AreAnswers files packages l (take (i + 1) all)) (sym pushed)
    (subst (λ l. AreAnswers files packages (answers ++ (one ∷ [])) l) (sym now_read) now)

pub all_answered : (packages : PackageNames) (answers : List UseMeanings) (all : List File) (i : ℕ) → length all ≤ i
    → AreAnswers (map file_syntax all) packages answers (take i all)
    → (file at : ℕ) → answer_in (slice_get answers file) at ≡ declaration_of_use (map file_syntax all) packages file at
all_answered packages answers all i past so_far file at =
    so_far.each file at
    ∙ ap (λ l. meaning_at (map file_syntax all) packages (option_map file_syntax (slice_get l file)) at) (take_all i all past)
    ∙ ap (λ f. meaning_at (map file_syntax all) packages f at) (sym (slice_get-map file_syntax all file))
