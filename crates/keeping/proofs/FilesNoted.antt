-- What the files of a package say of fields, those that are walked and all.
use Rattle.std.proofs.Common.{◌≡◌, ◌≢◌, ℕ, ◌+◌, Bool, true, false, List, [], ◌∷◌, ◌++◌, Result, OnOk, refl, sym, ap, ◌∙◌, subst, append_assoc}
use Rattle.std.specs.Prelude.{◌||◌, flat_map}
use Rattle.std.specs.List.{list_any}
use Rattle.std.proofs.lemmas.Bool.{false≢true}
use Rattle.std.proofs.lemmas.List.{append-nil}
use Rattle.std.proofs.lemmas.List.Folds.{list_any-append}
use Rattle.tree.specs.Syntax.{SourceFile}
use Rattle.meaning.specs.Tracked.{Fields, these_fields, Known}
use Rattle.meaning.specs.Uses.{Seen}
use Rattle.meaning.specs.BodyEvents.{seen_file}
use Rattle.meaning.specs.KeepingFields.{filled_in, keeping_beside, fields_in_files}
use Rattle.meaning_reports.specs.Loaded.{seen_from}
use Rattle.meaning_reports.specs.MethodNames.{methods_in, but_methods}
use Rattle.keeping.specs.declared.files.Told.{Told}
use Rattle.keeping.specs.Notes.{notes_in, puts_it}
use Rattle.noted_fields.specs.NotedFields.{Note, is_called, is_put, is_spoiled, is_filled, is_method, is_of_put, some_put, kept_by, filled_by}
use Rattle.keeping.specs.Keeping.{notes_if, notes_by, PutNothing}
use Rattle.keeping.specs.ToldFiles.{told_notes, told_puts}
use Rattle.keeping.proofs.KeptFields.{flat_more, file_puts, nothing_keeps, all_kept}
use Rattle.keeping.proofs.FilledNames.{all_filled}

-- One file

pub file_noted : {T E : Type 0} (r : Result T E) (a b : List Note) (s t : Seen) → s ≡ t → OnOk r (b ≡ a ++ notes_in s)
    → OnOk r (b ≡ a ++ notes_in t)
file_noted r a b s t same said = subst (λ (x : Seen). OnOk r (b ≡ a ++ notes_in x)) same said

pub told_so : {T E : Type 0} (r : Result T E) (a b : List Note) (known : ℕ → Known) (t u : Told) → t ≡ u
    → OnOk r (b ≡ a ++ told_notes known u)
    → OnOk r (b ≡ a ++ told_notes known t)
told_so r a b known t u same said = subst (λ (x : Told). OnOk r (b ≡ a ++ told_notes known x)) (sym same) said

-- One file more

either : (b t r : Bool) → ((b || (t || false)) || r) ≡ (b || (t || r))
either true t r = refl
either false true r = refl
either false false r = refl

module _ (walked : ℕ → Bool) (known : ℕ → Known) (n : ℕ) where
  -- whether something is put so far, and what is said so far, with what the rest says, is the whole
  pub more_files : (tree : SourceFile) (trees left : List SourceFile) (w : Bool) (before after : List Told) (one : Told)
      (put : Bool) (whole : List Note)
      → left ≡ tree ∷ trees
      → w ≡ walked n
      → after ≡ before ++ one ∷ []
      → told_puts one ≡ some_put (notes_if w (known n) tree)
      → told_notes known one ≡ notes_in (seen_file (known n) tree)
      → ((list_any told_puts before || some_put (notes_by walked known n left)) ≡ put)
      × (flat_map (told_notes known) before ++ flat_map notes_in (seen_from known n left) ≡ whole)
      → ((list_any told_puts after || some_put (notes_by walked known (n + 1) trees)) ≡ put)
      × (flat_map (told_notes known) after ++ flat_map notes_in (seen_from known (n + 1) trees) ≡ whole)
  more_files tree trees left w before after one put whole is_left is_w adds puts says so_far =
      let here : List Note = notes_if (walked n) (known n) tree in
      let rest : List Note = notes_by walked known (n + 1) trees in
      let others : List Note = flat_map notes_in (seen_from known (n + 1) trees) in
      let one_puts : told_puts one ≡ some_put here = puts ∙ ap (λ b. some_put (notes_if b (known n) tree)) is_w in
      let whole_put : some_put (notes_by walked known n left) ≡ (some_put here || some_put rest) =
      ap (λ (ts : List SourceFile). some_put (notes_by walked known n ts)) is_left ∙ list_any-append is_of_put here rest in
      let one_says : flat_map (told_notes known) (one ∷ []) ≡ notes_in (seen_file (known n) tree) =
      append-nil (told_notes known one) ∙ says in (
        ap (λ (ts : List Told). list_any told_puts ts || some_put rest) adds
            ∙ ap (λ b. b || some_put rest) (list_any-append told_puts before (one ∷ []))
            ∙ either (list_any told_puts before) (told_puts one) (some_put rest)
            ∙ ap (λ b. list_any told_puts before || (b || some_put rest)) one_puts
            ∙ ap (λ b. list_any told_puts before || b) (sym whole_put)
            ∙ so_far.0,
        ap (λ (ts : List Told). flat_map (told_notes known) ts ++ others) adds
            ∙ ap (λ (l : List Note). l ++ others) (flat_more (told_notes known) before (one ∷ []))
            ∙ ap (λ (l : List Note). (flat_map (told_notes known) before ++ l) ++ others) one_says
            ∙ append_assoc (flat_map (told_notes known) before) (notes_in (seen_file (known n) tree)) others
            ∙ ap (λ (ts : List SourceFile). flat_map (told_notes known) before ++ flat_map notes_in (seen_from known n ts))
            (sym is_left)
            ∙ so_far.1,
      )

-- Where nothing is put

module _ (walked : ℕ → Bool) (known : ℕ → Known) where
  neither : (a b : Bool) → (a || b) ≡ false → (a ≡ false) × (b ≡ false)
  neither true b e = absurd (false≢true (sym e))
  neither false b e = (refl, e)

  no_put : (f : List ℕ) (ns : List Note) → some_put ns ≡ false → list_any (puts_it f) ns ≡ false
  no_put f [] e = refl
  no_put f (is_called g ∷ ns) e = no_put f ns e
  no_put f (is_put g ∷ ns) e = absurd (false≢true (sym e))
  no_put f (is_spoiled g ∷ ns) e = no_put f ns e
  no_put f (is_filled g ∷ ns) e = no_put f ns e
  no_put f (is_method g ∷ ns) e = no_put f ns e

  -- where the walked files put nothing, no file does
  none_put : (n : ℕ) (trees : List SourceFile) → PutNothing walked known n trees
      → some_put (notes_by walked known n trees) ≡ false
      → (f : List ℕ) → list_any (puts_it f) (flat_map notes_in (seen_from known n trees)) ≡ false
  none_put n [] put e f = refl
  none_put n (tree ∷ trees) put e f =
      let seen : Seen = seen_file (known n) tree in
      let others : List Note = flat_map notes_in (seen_from known (n + 1) trees) in
      let both = neither (some_put (notes_if (walked n) (known n) tree)) (some_put (notes_by walked known (n + 1) trees))
      (sym (list_any-append is_of_put (notes_if (walked n) (known n) tree)
      (notes_by walked known (n + 1) trees)) ∙ e) in
      let here : list_any (puts_it f) (notes_in seen) ≡ false = by (walked n) refl both.0 in
      list_any-append (puts_it f) (notes_in seen) others
      ∙ (λ i. here i || none_put (n + 1) trees put.1 both.1 f i)
    where
      by : (w : Bool) → walked n ≡ w → some_put (notes_if w (known n) tree) ≡ false
          → list_any (puts_it f) (notes_in (seen_file (known n) tree)) ≡ false
      by true is none = no_put f (notes_in (seen_file (known n) tree)) none
      by false is none = sym (file_puts f (seen_file (known n) tree)) ∙ put.0 is f

  pub none_keep : (n : ℕ) (trees : List SourceFile) → some_put (notes_by walked known n trees) ≡ false
      → PutNothing walked known n trees
      → but_methods (flat_map methods_in (seen_from known n trees)) (fields_in_files (seen_from known n trees))
      ≡ these_fields [] []
  none_keep n trees e put =
      let files : List Seen = seen_from known n trees in
      ap (λ fs. but_methods (flat_map methods_in files) (keeping_beside files fs))
      (nothing_keeps files (none_put n trees put e))

-- The fields by the notes of all files

beside_some : (files : List Seen) (names : List (List ℕ)) → names ≢ []
    → keeping_beside files names ≡ these_fields names (flat_map filled_in files)
beside_some files [] some = absurd (some refl)
beside_some files (f ∷ fs) some = refl

module _ (known : ℕ → Known) (trees : List SourceFile) where
  abbrev files : List Seen
  files = seen_from known 0 trees

  abbrev all : List Note
  all = flat_map notes_in files

  abbrev of_all : Fields
  of_all = but_methods (flat_map methods_in files) (fields_in_files files)

  pub none_in_all : kept_by all ≡ [] → of_all ≡ these_fields [] []
  none_in_all none = ap (λ fs. but_methods (flat_map methods_in files) (keeping_beside files fs)) (all_kept files ∙ none)

  pub some_in_all : kept_by all ≢ [] → of_all ≡ these_fields (kept_by all) (filled_by all)
  some_in_all some =
      ap (λ fs. but_methods (flat_map methods_in files) (keeping_beside files fs)) (all_kept files)
      ∙ (ap (but_methods (flat_map methods_in files)) (beside_some files (kept_by all) some)
      ∙ ap (these_fields (kept_by all)) (all_filled files))
