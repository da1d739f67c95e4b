-- What is found in the files that are walked is what is to be said of all of them.
use Rattle.std.proofs.Common.{◌≡◌, ℕ, zero, suc, ◌+◌, Bool, true, false, inl, inr, List, [], ◌∷◌, Some, Contains, refl, sym, ap, ◌∙◌, subst, arith}
use Rattle.std.specs.Prelude.{◌↔◌, slice_get}
use Rattle.std.specs.List.{AllZip}
use Rattle.std.proofs.lemmas.Option.{same_Some, none-some}
use Rattle.tree.specs.Syntax.{SourceFile}
use Rattle.meaning.specs.Tracked.{Known, placed, locals_of}
use Rattle.meaning.specs.Uses.{Callee, Seen, seen_in}
use Rattle.meaning.proofs.Membership.{contains_here, contains_there, contains_cases, contains_nil}
use Rattle.meaning.specs.BodyEvents.{Variable, bodies_of, seen_file, variables_of, outer_faults_of, faults_of}
use Rattle.meaning.specs.KeepingFields.{fields_kept}
use Rattle.meaning_packages.specs.Credits.{Credits, AreFullCredits}
use Rattle.meaning_packages.specs.CallsFlags.{Flags, FileWithCredits, AreMost, calls_by}
use Rattle.meaning_reports.specs.Loaded.{LoadedPackage, Tables, trees_of, keeping_in, known_in, imported_flags, seen_from, seen_files}
use Rattle.meaning_reports.specs.PackageTables.{AreCredited, no_file, file_and, IsJudged}
use Rattle.meaning_reports.specs.PackageReports.{IsFileFinding, IsFileOf, IsKeptIn, SaysByPaths}
use Rattle.meaning_reports.specs.UsedImports.{HandsThere}
use Rattle.meaning_reports.proofs.OneAnswer.{one_list, one_most}
use Rattle.report.specs.Entries.{Entry}
use Rattle.silent_files.specs.SilentFiles.{IsSilent}
use Rattle.silent_files.specs.SilentPackages.{StandsFor, itself, silent}
use Rattle.silent_files.specs.WalkedFiles.{seen_if, seen_some, walked_files, SkipsSilent, HandOver, IsKeptAmong, AreWalked, IsSaidOf, WalkedFilesAreEnough}
use Rattle.silent_files.proofs.SilentPackages.{no_variable_of, all_back, nothing_changes, skipped_so}

-- A file without marks

bare_variables : (known : Known) (body : ℕ) → variables_of (seen_in known []) body ≡ []
unfolding placed locals_of
bare_variables known body = refl

bare_outside : (known : Known) → outer_faults_of (seen_in known []) (seen_in known []).marks ≡ []
unfolding placed
bare_outside known = refl

bare_inside : (known : Known) (body : ℕ) → faults_of (seen_in known []) body (seen_in known []).marks ≡ []
unfolding placed
bare_inside known body = refl

bare_bodies : (known : Known) → bodies_of (seen_in known []) ≡ []
unfolding placed
bare_bodies known = refl

bare_fields : (known : Known) → fields_kept (seen_in known []) ≡ []
unfolding placed
bare_fields known = refl

bare : (known : Known) → IsSilent (seen_in known [])
bare known = record {
  no_variable = bare_variables known;
  outside = bare_outside known;
  inside = bare_inside known;
  hands_nothing = λ f h. contains_nil h.body (subst (λ bs. Contains bs h.body) (bare_bodies known) h.is_of_file);
  keeps_nothing = bare_fields known;
}

-- no literal of it is relied on
no_credit : (known : Known) (credits : Credits) → AreFullCredits (seen_in known []) credits
    → (literal number : ℕ) → credits literal number ≡ false
no_credit known credits full literal number = by (credits literal number) refl
  where
    by : (b : Bool) → credits literal number ≡ b → b ≡ false
    by false e = refl
    by true e =
        let c = (full.each literal number).0 e in
        absurd (no_variable_of (seen_in known []) (bare known) literal c.variable c.is_of_body)

-- The files in whose place they are

record Whole (seen : Seen) (f : FileWithCredits) : Type 0 where
  file : FileWithCredits
  same : file.seen ≡ seen
  full : AreFullCredits seen file.credits
  stand : StandsFor f file

whole_file : (b : Bool) (known : Known) (tree : SourceFile) (f : FileWithCredits)
    → (b ≡ false → IsSilent (seen_file known tree))
    → f.seen ≡ seen_if b known tree
    → AreFullCredits (seen_if b known tree) f.credits
    → Whole (seen_file known tree) f
whole_file true known tree f quiet same full = record { file = f; same = same; full = full; stand = itself }
whole_file false known tree f quiet same full = record {
  file = record { seen = seen_file known tree; credits = f.credits };
  same = refl;
  full =
      nothing_changes.credits (seen_file known tree) f.credits (quiet refl) (no_credit known f.credits full);
  stand = silent (subst IsSilent (sym same) (bare known)) (quiet refl);
}

record First (seen : Seen) (rest : List Seen) (files : List FileWithCredits) : Type 0 where
  file : FileWithCredits
  others : List FileWithCredits
  is : files ≡ file ∷ others
  same : file.seen ≡ seen
  full : AreFullCredits seen file.credits
  credited : AreCredited rest others

first_of : {seens : List Seen} {files : List FileWithCredits} → AreCredited seens files
    → (one : Seen) (ones : List Seen) → seens ≡ one ∷ ones
    → First one ones files
first_of no_file one ones e = cc
first_of (file_and {seen} {rest} {file} {files} same full credited) one ones e =
    let here : seen ≡ one = cc in
    let later : rest ≡ ones = cc in
    record {
      file = file;
      others = files;
      is = refl;
      same = same ∙ here;
      full = subst (λ x. AreFullCredits x file.credits) here full;
      credited = subst (λ x. AreCredited x files) later credited;
    }

none_left : {seens : List Seen} {files : List FileWithCredits} → AreCredited seens files → seens ≡ [] → files ≡ []
none_left no_file e = refl
none_left (file_and same full credited) e = cc

record AllWhole (seens : List Seen) (files : List FileWithCredits) : Type 0 where
  others : List FileWithCredits
  are : AreCredited seens others
  stand : AllZip StandsFor files others

at_first : (n : ℕ) → n + zero ≡ n
at_first n = omega arith

at_zero : (k : ℕ) → k ≡ 0 + k
at_zero k = omega arith

at_next : (n k : ℕ) → n + suc k ≡ n + 1 + k
at_next n k = omega arith

-- it is so of one of these files
record HasSome (IsSo : Seen → Type 0) (files : List Seen) : Type 0 where
  file : Seen
  is_file : Contains files file
  is_so : IsSo file

module _ (walked : ℕ → Bool) (known : ℕ → Known) where
  abbrev IsQuiet : ℕ → SourceFile → Type 0
  IsQuiet m tree = walked m ≡ false → IsSilent (seen_file (known m) tree)

  all_whole : (n : ℕ) (trees : List SourceFile)
      → ((k : ℕ) (tree : SourceFile) → slice_get trees k ≡ Some tree → IsQuiet (n + k) tree)
      → (files : List FileWithCredits) → AreCredited (seen_some walked known n trees) files
      → AllWhole (seen_from known n trees) files
  all_whole n [] quiet files are =
      subst (AllWhole []) (sym (none_left are refl)) (record { others = []; are = no_file; stand = tt })
  all_whole n (tree ∷ trees) quiet files are =
      let f = first_of are (seen_if (walked n) (known n) tree) (seen_some walked known (n + 1) trees) refl in
      let first_quiet = subst (λ m. IsQuiet m tree) (at_first n) (quiet zero tree refl) in
      let w = whole_file (walked n) (known n) tree f.file first_quiet f.same f.full in
      let ws =
      all_whole (n + 1) trees (λ k t is. subst (λ m. IsQuiet m t) (at_next n k) (quiet (suc k) t is)) f.others
      f.credited in
      subst (AllWhole (seen_file (known n) tree ∷ seen_from known (n + 1) trees)) (sym f.is)
      (record { others = w.file ∷ ws.others; are = file_and w.same w.full ws.are; stand = (w.stand, ws.stand) })

  -- what is so of one of them, but of no file in which nothing is to be found

  module _ (IsSo : Seen → Type 0) (none : (seen : Seen) → IsSilent seen → IsSo seen → ⊥) where
    so_of : (b : Bool) (m : ℕ) (tree : SourceFile) → (b ≡ false → IsSilent (seen_file (known m) tree))
        → (IsSo (seen_if b (known m) tree) → IsSo (seen_file (known m) tree))
        × (IsSo (seen_file (known m) tree) → IsSo (seen_if b (known m) tree))
    so_of true m tree quiet = (λ h. h, λ h. h)
    so_of false m tree quiet = (
      λ h. absurd (none (seen_in (known m) []) (bare (known m)) h),
      λ h. absurd (none (seen_file (known m) tree) (quiet refl) h),
    )

    over_first : (file : Seen) (files : List Seen) → IsSo file → HasSome IsSo (file ∷ files)
    over_first file files h = record { file = file; is_file = contains_here file files; is_so = h }

    over_later : (file : Seen) (files : List Seen) → HasSome IsSo files → HasSome IsSo (file ∷ files)
    over_later file files h =
        record { file = h.file; is_file = contains_there file h.file files h.is_file; is_so = h.is_so }

    some_both : (n : ℕ) (trees : List SourceFile)
        → ((k : ℕ) (tree : SourceFile) → slice_get trees k ≡ Some tree → IsQuiet (n + k) tree)
        → (HasSome IsSo (seen_some walked known n trees) → HasSome IsSo (seen_from known n trees))
        × (HasSome IsSo (seen_from known n trees) → HasSome IsSo (seen_some walked known n trees))
    some_both n [] quiet =
        (λ h. absurd (contains_nil h.file h.is_file), λ h. absurd (contains_nil h.file h.is_file))
    some_both n (tree ∷ trees) quiet =
        let first = so_of (walked n) n tree (subst (λ m. IsQuiet m tree) (at_first n) (quiet zero tree refl)) in
        let rest =
        some_both (n + 1) trees (λ k t is. subst (λ m. IsQuiet m t) (at_next n k) (quiet (suc k) t is)) in
        let one = seen_if (walked n) (known n) tree in
        let whole = seen_file (known n) tree in
        let ones = seen_some walked known (n + 1) trees in
        let wholes = seen_from known (n + 1) trees in (
          λ h. elim (contains_cases one h.file ones h.is_file) [
            | inl same ↦ over_first whole wholes (first.0 (subst IsSo (sym same) h.is_so))
            | inr more ↦ over_later whole wholes (rest.0 record { file = h.file; is_file = more; is_so = h.is_so })
          ],
          λ h. elim (contains_cases whole h.file wholes h.is_file) [
            | inl same ↦ over_first one ones (first.1 (subst IsSo (sym same) h.is_so))
            | inr more ↦ over_later one ones (rest.1 record { file = h.file; is_file = more; is_so = h.is_so })
          ],
        )

  each_walked : ((n : ℕ) → walked n ≡ true) → (n : ℕ) (trees : List SourceFile)
      → seen_some walked known n trees ≡ seen_from known n trees
  each_walked is n [] = refl
  each_walked is n (tree ∷ trees) = λ i. seen_if (is n i) (known n) tree ∷ each_walked is (n + 1) trees i

-- What is found

record Stands (f : FileWithCredits) (others : List FileWithCredits) (n : ℕ) : Type 0 where
  file : FileWithCredits
  is_there : slice_get others n ≡ Some file
  stand : StandsFor f file

stands_there : (files others : List FileWithCredits) → AllZip StandsFor files others → (n : ℕ) (f : FileWithCredits)
    → slice_get files n ≡ Some f
    → Stands f others n
stands_there [] others h n f is = absurd (none-some f is)
stands_there (x ∷ files) [] h n f is = absurd h
stands_there (x ∷ files) (y ∷ others) h zero f is =
    record { file = y; is_there = refl; stand = subst (λ z. StandsFor z y) (same_Some x f is) h.0 }
stands_there (x ∷ files) (y ∷ others) h (suc n) f is =
    let s = stands_there files others h.1 n f is in
    record { file = s.file; is_there = s.is_there; stand = s.stand }

module _ (ps : List LoadedPackage) (tables : Tables) (i : ℕ) (p : LoadedPackage) (walked : ℕ → Bool)
    (files : List FileWithCredits) (flags : Flags) (are : AreWalked ps tables i p walked files flags) where
  wholes : AllWhole (seen_files ps tables p) files
  wholes =
      all_whole walked (known_in ps tables p) 0 (trees_of p)
      (λ n tree is. subst (λ m. IsQuiet walked (known_in ps tables p) m tree) (at_zero n)
      (λ skipped. skipped_so (keeping_in ps tables p) ps tables p n tree (are.skip_silent.may_be n tree is skipped)))
      files are.are_files

  judged : IsJudged ps tables i p wholes.others flags
  judged = record {
    is_package = are.is_package;
    has_no_whole_fault = are.has_no_whole_fault;
    are_files = wholes.are;
    are_flags =
        nothing_changes.flags files wholes.others (imported_flags p tables) flags wholes.stand are.are_flags;
  }

  in_file : (x : Entry) → IsSaidOf files (calls_by flags (imported_flags p tables)) x → SaysByPaths ps tables i x
  in_file x h =
      let s = stands_there files wholes.others wholes.stand h.number h.file h.is_file in
      record {
        flags = flags;
        number = h.number;
        file = s.file;
        is_of = record { loaded = p; files = wholes.others; is_judged = judged; is_file = s.is_there };
        is_finding =
            nothing_changes.findings (calls_by flags (imported_flags p tables)) h.number h.file s.file x s.stand
            h.is_finding;
      }

  of_file : (x : Entry) → SaysByPaths ps tables i x → IsSaidOf files (calls_by flags (imported_flags p tables)) x
  of_file x said =
      let h = said.is_of in
      let same = same_Some h.loaded p (sym h.is_judged.is_package ∙ are.is_package) in
      let here = subst (λ (q : LoadedPackage). IsJudged ps tables i q h.files said.flags) same h.is_judged in
      let are_files : h.files ≡ wholes.others =
      one_list (seen_files ps tables p) h.files wholes.others here.are_files judged.are_files in
      let are_flags : said.flags ≡ flags =
      one_most wholes.others (imported_flags p tables) said.flags flags
      (subst (λ fs. AreMost fs (imported_flags p tables) said.flags) are_files here.are_flags) judged.are_flags in
      let s =
      stands_there wholes.others files (all_back files wholes.others wholes.stand) said.number said.file
      (subst (λ fs. slice_get fs said.number ≡ Some said.file) are_files h.is_file) in
      record {
        number = said.number;
        file = s.file;
        is_file = s.is_there;
        is_finding =
            nothing_changes.findings (calls_by flags (imported_flags p tables)) said.number said.file s.file x s.stand
            (subst (λ fl. IsFileFinding (calls_by fl (imported_flags p tables)) said.number said.file x) are_flags
            (subst (λ (q : LoadedPackage). IsFileFinding (calls_by said.flags (imported_flags q tables)) said.number
            said.file x) same said.is_finding));
      }

  same_file : (f g : FileWithCredits) (body : ℕ) (v : Variable) → StandsFor f g
      → Contains (variables_of f.seen body) v
      → g ≡ f
  same_file f _ body v itself is_there = refl
  same_file f g body v (silent quiet others) is_there = absurd (no_variable_of f.seen quiet body v is_there)

  own_file : (n : ℕ) (file : FileWithCredits) (body : ℕ) (v : Variable) → slice_get files n ≡ Some file
      → Contains (variables_of file.seen body) v
      → IsFileOf ps tables i flags n file
  own_file n file body v is is_there =
      let s = stands_there files wholes.others wholes.stand n file is in
      record {
        loaded = p;
        files = wholes.others;
        is_judged = judged;
        is_file = s.is_there ∙ ap Some (same_file file s.file body v s.stand is_there);
      }

module _ (ps : List LoadedPackage) (tables : Tables) (p : LoadedPackage) (walked : ℕ → Bool)
    (skip : SkipsSilent ps tables p walked) where
  are_quiet : (k : ℕ) (tree : SourceFile) → slice_get (trees_of p) k ≡ Some tree
      → IsQuiet walked (known_in ps tables p) (0 + k) tree
  are_quiet k tree is =
      subst (λ m. IsQuiet walked (known_in ps tables p) m tree) (at_zero k)
      (λ skipped. skipped_so (keeping_in ps tables p) ps tables p k tree (skip.may_be k tree is skipped))

  hands_so : (f : Callee) → HandOver (walked_files ps tables p walked) f ↔ HandOver (seen_files ps tables p) f
  hands_so f =
      let both = some_both walked (known_in ps tables p) (λ seen. HandsThere seen f)
      (λ seen quiet. quiet.hands_nothing f) 0 (trees_of p) are_quiet in (
        λ h.
            let w = both.0 record { file = h.file; is_file = h.is_file; is_so = h.hands } in
            record { file = w.file; is_file = w.is_file; hands = w.is_so },
        λ h.
            let w = both.1 record { file = h.file; is_file = h.is_file; is_so = h.hands } in
            record { file = w.file; is_file = w.is_file; hands = w.is_so },
      )

  keeps_so : (field : List ℕ) → IsKeptAmong (walked_files ps tables p walked) field ↔ IsKeptIn ps tables p field
  keeps_so field =
      let both = some_both walked (known_in ps tables p) (λ seen. Contains (fields_kept seen) field)
      (λ seen quiet h. contains_nil field (subst (λ fs. Contains fs field) quiet.keeps_nothing h)) 0 (trees_of p)
      are_quiet in (
        λ h.
            let w = both.0 record { file = h.file; is_file = h.is_file; is_so = h.is_kept } in
            record { file = w.file; is_file = w.is_file; is_kept = w.is_so },
        λ h.
            let w = both.1 record { file = h.file; is_file = h.is_file; is_so = h.is_kept } in
            record { file = w.file; is_file = w.is_file; is_kept = w.is_so },
      )

pub walks_are_enough : WalkedFilesAreEnough
walks_are_enough = record {
  keeping = λ ps tables p walked field skip. keeps_so ps tables p walked skip field;
  hand_over = λ ps tables p walked f skip. hands_so ps tables p walked skip f;
  all = λ ps tables p walked is. each_walked walked (known_in ps tables p) is 0 (trees_of p);
  flags = λ ps tables i p walked files flags are. record {
    files = (wholes ps tables i p walked files flags are).others;
    is_judged = judged ps tables i p walked files flags are;
  };
  says = λ ps tables i p walked files flags are x.
      (in_file ps tables i p walked files flags are x, of_file ps tables i p walked files flags are x);
  own = λ ps tables i p walked files flags are. own_file ps tables i p walked files flags are;
}
