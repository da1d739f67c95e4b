-- The files of a package of texts: in their bodies no two nodes have one place, each group in which a literal is started
-- is the body's own, no two bodies begin at one offset, and what is known of a function its body keeps.
use Rattle.std.proofs.Common.{◌≡◌, ℕ, ◌+◌, inl, inr, Bool, true, false, ◌&&◌, List, [], ◌∷◌, Option, Some, None, Contains, refl, sym, ap, ◌∙◌, subst, arith}
use Rattle.std.specs.Prelude.{if◌then◌else◌, not, is_none, slice_get}
use Rattle.std.specs.Str.{bytes_eq}
use Rattle.std.proofs.lemmas.Bool.{and_from}
use Rattle.std.proofs.lemmas.Slice.Eq.{bytes_eq-Decides}
use Rattle.judge.proofs.OneParameter.{AreNamed, named_there, one_number}
use Rattle.judge.proofs.OneTable.{credited_too}
use Rattle.judge.proofs.OwnGroups.{starts_have_own_groups}
use Rattle.judge.specs.AgreementLaws.{KeepsItsFlags}
use Rattle.judge.specs.OwnGroups.{HaveOwnGroups, KeepByEdition}
use Rattle.certificates.proofs.KeptByEdition.{first_keeps_nothing}
use Rattle.calls_flags.specs.Claims.{called_name, function_name}
use Rattle.checker.specs.Certificates.{is_claimed}
use Rattle.meaning.proofs.Membership.{contains_nil, contains_cases, contains_map}
use Rattle.meaning.specs.BodyEvents.{Variable, VariableRole, own_parameter, own_receiver, declared_in_body, captured, opened_in, bodies_of, seen_file, variables_of}
use Rattle.meaning.specs.Classes.{entry_cancel, cancel_after}
use Rattle.meaning.specs.Code.{Occurrence}
use Rattle.meaning.specs.Mentions.{BodyPlace}
use Rattle.meaning.specs.OuterBlocks.{is_init}
use Rattle.meaning.specs.Scopes.{is_blank}
use Rattle.meaning.specs.Tracked.{Known, has_field, each_field, some_keep}
use Rattle.meaning.specs.TwoFunctions.{function_names_from}
use Rattle.meaning.specs.Uses.{Seen, Event}
use Rattle.meaning_packages.specs.CallsFlags.{Flags, FileWithCredits, calls_by, has_name, is_function}
use Rattle.meaning_packages.specs.Credits.{promises_in, IsCredited, AreFullCredits}
use Rattle.meaning_packages.specs.PathFaults.{Paths, paths_of, cancel_class, KeepsCall}
use Rattle.meaning_reports.proofs.OneAnswer.{one_table_by}
use Rattle.meaning_reports.specs.Loaded.{LoadedPackage, Tables, trees_of, imported_flags, fields_by, keeping_in, known_with, known_in, seen_from, seen_files}
use Rattle.meaning_reports.specs.PackageTables.{AreCredited, no_file, file_and, IsJudged}
use Rattle.meaning_runs.proofs.EntryPlaces.{seen_there, tree_seen}
use Rattle.meaning_reports.proofs.CountedPackages.{no_second}
use Rattle.meaning_runs.proofs.NamedBodies.{AreApart, apart, one_body}
use Rattle.meaning_runs.specs.BodyOffsets.{BodiesAreApart}
use Rattle.meaning_runs.specs.Promise.{AreTreesOfTexts}
use Rattle.path_faults.proofs.Places.{contains_at, place_of}
use Rattle.tree.specs.Syntax.{Identifier, SourceFile}
use Rattle.verifier.proofs.OneVerified.{seen_of}
use Rattle.verifier.proofs.VerifiedYes.{places_of_text}
use Rattle.verifier.specs.Verified.{flags_of_name, flags_of_body}
use Rattle.verifier.specs.VerifierLaws.{BodiesHaveOwnPlaces}

-- Files of texts

pub record IsOfText (seen : Seen) : Type 0 where
  pub have_own_places : BodiesHaveOwnPlaces seen
  pub have_own_groups : HaveOwnGroups seen
  pub keep_by_edition : KeepByEdition seen
  -- what was known of the file before its marks were gone through
  pub before : Known
  pub are_named : AreNamed before seen
  pub one_each : (b c : BodyPlace) → Contains (opened_in seen.marks) b → Contains (opened_in seen.marks) c → b.at ≡ c.at
      → b ≡ c

module _ (bodies : BodiesAreApart) (ps : List LoadedPackage) (tables : Tables) (p : LoadedPackage)
    (texts : AreTreesOfTexts p) where
  pub of_text : (number : ℕ) (s : Seen) → slice_get (seen_files ps tables p) number ≡ Some s → IsOfText s
  of_text number s e =
      let w = tree_seen (known_in ps tables p) 0 (trees_of p) number s e in
      let same : 0 + number ≡ number = omega arith in
      subst IsOfText w.2 (subst (λ k. IsOfText (seen_file (known_in ps tables p k) w.0)) (sym same) (its w.0 w.1))
    where
      its : (tree : SourceFile) → slice_get (trees_of p) number ≡ Some tree
          → IsOfText (seen_file (known_in ps tables p number) tree)
      its tree is =
          let t = texts tree (contains_at (trees_of p) number tree is) in
          record {
            have_own_places = places_of_text t.0 tree (known_in ps tables p number) t.1;
            have_own_groups = starts_have_own_groups (seen_file (known_in ps tables p number) tree);
            keep_by_edition = λ b promises order claims n o is_first there.
                first_keeps_nothing (known_in ps tables p number) tree is_first
                (λ f. ap (λ e. has_field (fields_by e (seen_from (known_with each_field ps tables p) 0 (trees_of p))) f)
                is_first) b promises n o there;
            before = known_in ps tables p number;
            are_named = named_there (known_in ps tables p number) tree;
            one_each = (bodies p.edition (some_keep (keeping_in ps tables p)) t.0 tree t.1).one_each;
          }

-- Files with credits

pub credited_seen : {seens : List Seen} {files : List FileWithCredits} → AreCredited seens files → seen_of files ≡ seens
credited_seen no_file = refl
credited_seen (file_and same full more) = λ i. same i ∷ credited_seen more i

pub all_full : {seens : List Seen} {files : List FileWithCredits} → AreCredited seens files
    → (file : FileWithCredits) → Contains files file
    → AreFullCredits file.seen file.credits
all_full no_file file h = absurd (contains_nil file h)
all_full (file_and {file = one} {files = files} same full more) file h =
    elim (contains_cases one file files h) [
      | inl q ↦
          subst (λ (f : FileWithCredits). AreFullCredits f.seen f.credits) q
          (subst (λ s. AreFullCredits s one.credits) (sym same) full)
      | inr later ↦ all_full more file later
    ]

-- the tree of the file at that place
pub file_seen_at : (ps : List LoadedPackage) (tables : Tables) (p : LoadedPackage) (files : List FileWithCredits)
    → AreCredited (seen_files ps tables p) files
    → (number : ℕ) (file : FileWithCredits) → slice_get files number ≡ Some file
    → (tree : SourceFile)
    × (slice_get (trees_of p) number ≡ Some tree)
    × (seen_file (known_in ps tables p (0 + number)) tree ≡ file.seen)
file_seen_at ps tables p files are number file e =
    tree_seen (known_in ps tables p) 0 (trees_of p) number file.seen
    (seen_there (seen_files ps tables p) files are number file e)

-- Flags

-- the position of a parameter of which it is known
record IsKnownOf (flags : Flags) (b : BodyPlace) (role : VariableRole) : Type 0 where
  name : List ℕ
  position : ℕ
  is_named : function_name b ≡ Some name
  is_parameter : role ≡ own_parameter position
  is_known : flags name position ≡ true

known_of : (flags : Flags) (b : BodyPlace) (role : VariableRole) → is_claimed (flags_of_body flags b) role ≡ true
    → IsKnownOf flags b role
known_of flags b (own_parameter k) e = by (function_name b) refl e
  where
    by : (o : Option (List ℕ)) → function_name b ≡ o → flags_of_name flags o k ≡ true → IsKnownOf flags b (own_parameter k)
    by None named q = cc
    by (Some name) named q = record {
      name = name;
      position = k;
      is_named = named;
      is_parameter = refl;
      is_known = q;
    }
known_of flags b own_receiver e = cc
known_of flags b declared_in_body e = cc
known_of flags b captured e = cc

called_so : (o : Option Identifier) (name : List ℕ) → called_name o ≡ Some name → has_name name o ≡ true
called_so None name e = cc
called_so (Some n) name e = by (not (is_blank n.text) && not (is_init n.text)) refl e
  where
    by : (t : Bool) → (not (is_blank n.text) && not (is_init n.text)) ≡ t → (if t then Some n.text else None) ≡ Some name
        → (bytes_eq n.text name && (not (is_blank n.text) && not (is_init n.text))) ≡ true
    by true plain q =
        let same : n.text ≡ name = cc in
        and_from (bytes_eq n.text name) (not (is_blank n.text) && not (is_init n.text))
        ((bytes_eq-Decides n.text name).1 same) plain
    by false plain q = cc

function_so : (b : BodyPlace) (name : List ℕ) → function_name b ≡ Some name → is_function name b ≡ true
function_so b name e = by (is_none b.receiver) e
  where
    by : (t : Bool) → (if t then called_name b.name else None) ≡ Some name → (t && has_name name b.name) ≡ true
    by true q = called_so b.name name q
    by false q = cc

-- whether a call is kept depends on the variable's number and role
keeps_too : (paths : Paths) (u v : Variable) → u.number ≡ v.number → u.role ≡ v.role → KeepsCall paths u → KeepsCall paths v
keeps_too paths u v number role h = record {
  never_open = λ handed t o comes open_too. h.never_open handed t o comes (same t ∙ open_too);
  never_kept = λ handed t o comes kept_too. h.never_kept handed t o comes (same t ∙ kept_too);
  never_left = λ handed t o comes left.
      h.never_left handed t o comes (record {
        left_to = left.left_to;
        other_list = left.other_list;
        there = left.there;
        is_pending = same t ∙ left.is_pending;
        reaches = left.reaches;
        same_offset = left.same_offset;
        same_order = left.same_order;
        is_live = left.is_live;
      });
}
  where
    same : (t : List (Occurrence Event)) → cancel_class paths u t ≡ cancel_class paths v t
    same t = λ i. cancel_after paths.promises (number i) (entry_cancel (role i)) t

module _ (bodies : BodiesAreApart) (ps : List LoadedPackage) (tables : Tables) (i : ℕ) (p : LoadedPackage)
    (texts : AreTreesOfTexts p) (files : List FileWithCredits) (flags : Flags) (judged : IsJudged ps tables i p files flags)
  where
    seen_of_file : (file : FileWithCredits) → Contains files file → Contains (seen_files ps tables p) file.seen
    seen_of_file file h =
        subst (λ seens. Contains seens file.seen) (credited_seen judged.are_files)
        (contains_map (λ (f : FileWithCredits). f.seen) files file h)

    pub keeps_flags : (file : FileWithCredits) → Contains files file
        → KeepsItsFlags flags (calls_by flags (imported_flags p tables)) file
    keeps_flags file among b v there few of_body is_cancel claimed =
        let known = known_of flags b v.role claimed in
        let kept = judged.are_flags.are_consistent.each known.name known.position known.is_known in
        let parted : AreApart (function_names_from 0 (trees_of p)) =
        apart [] (function_names_from 0 (trees_of p)) (no_second ps i p judged.is_package judged.has_no_whole_fault) in
        let one = one_body (known_in ps tables p) known.name 0 (trees_of p) parted kept.file.seen file.seen kept.body b
        (seen_of_file kept.file kept.is_of_package) (seen_of_file file among) kept.is_claim.is_body there
        kept.is_claim.is_of_function (function_so b known.name known.is_named) in
        let credits : kept.file.credits ≡ file.credits =
        one_table_by (bodies_of file.seen) (IsCredited file.seen) (λ credits literal number h. (h.body, h.is_there))
        (credited_too file.seen) kept.file.credits file.credits
        (subst (λ s. AreFullCredits s kept.file.credits) one.0
        (all_full judged.are_files kept.file kept.is_of_package)).each
        (all_full judged.are_files file among).each in
        let same : kept.file ≡ file = λ j. record { seen = one.0 j; credits = credits j } in
        let calls = calls_by flags (imported_flags p tables) in
        let keeps : KeepsCall (paths_of file.seen (promises_in calls file.credits b.at) b) kept.variable =
        subst (λ (c : BodyPlace). KeepsCall (paths_of file.seen (promises_in calls file.credits c.at) c) kept.variable) one.1
        (subst (λ (f : FileWithCredits). KeepsCall (paths_of f.seen (promises_in calls f.credits kept.body.at) kept.body) kept.variable)
        same kept.keeps) in
        let is_variable : Contains (variables_of file.seen b.at) kept.variable =
        subst (λ (c : BodyPlace). Contains (variables_of file.seen c.at) kept.variable) one.1
        (subst (λ s. Contains (variables_of s kept.body.at) kept.variable) one.0 kept.is_claim.is_of_body) in
        let place = place_of (seen_files ps tables p) file.seen (seen_of_file file among) in
        let text = of_text bodies ps tables p texts place.0 file.seen place.1 in
        let number =
        one_number file.seen text.before b text.are_named text.one_each there kept.variable v known.position is_variable
        of_body kept.is_claim.is_parameter known.is_parameter in
        keeps_too (paths_of file.seen (promises_in calls file.credits b.at) b) kept.variable v number
        (kept.is_claim.is_parameter ∙ sym known.is_parameter) keeps
