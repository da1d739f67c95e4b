-- Where certificates rely on all that may be relied on, a yes by them is one by paths. What is claimed of a package that is
-- yes is consistent under full credits, so by paths it is known too, first of the packages that it uses, which are yes.
-- And where more is known, no more is found. What is known of an import that isn't used plays no part.
use Rattle.std.proofs.Common.{◌≡◌, ℕ, zero, suc, ◌<◌, Bool, true, false, List, [], ◌∷◌, Option, Some, None, Contains, is_some, refl, sym, ap, ◌∙◌, subst, arith, true≢false}
use Rattle.std.specs.Prelude.{if◌then◌else◌, slice_get}
use Rattle.std.proofs.lemmas.Option.{slice_get_within, same_Some}
use Rattle.judge.proofs.MoreFaults.{finding_so, consistent_still, calls_grow}
use Rattle.judge.proofs.PackageAgreement.{is_yes, said_yes}
use Rattle.judge.proofs.PackageFiles.{of_text}
use Rattle.judge.specs.FullCredits.{HasFullCredits, YesWithFullCreditsIsYes}
use Rattle.imports.proofs.GivenImports.{first_there}
use Rattle.imports.specs.Ranks.{Package, Imports, Chain, ends, goes_on}
use Rattle.imports.specs.Settling.{place_from}
use Rattle.meaning.proofs.Membership.{contains_here, contains_there, contains_map}
use Rattle.meaning.specs.Tracked.{Fields, each_field}
use Rattle.meaning.specs.Uses.{Callee, Seen}
use Rattle.meaning_packages.specs.CallsFlags.{Flags, FileWithCredits, calls_by, AreConsistent}
use Rattle.meaning_packages.specs.Credits.{AreFullCredits}
use Rattle.meaning_reports.proofs.CountedPackages.{passed_over}
use Rattle.meaning_reports.proofs.ImportsOf.{has_path, no_place, in_lists, given_in_lists, names_first, cannot_be_unranked, import_there, is_named}
use Rattle.meaning_reports.proofs.OneAnswer.{one_list}
use Rattle.meaning_reports.specs.DotImports.{SaysSomething, as_library, by_table, IsLeftOut}
use Rattle.meaning_reports.proofs.RanksGiven.{HasOrder, has_order}
use Rattle.meaning_reports.specs.Loaded.{LoadedPackage, PackageTable, Tables, counts, counts_as_given, no_table, is_imported, import_list, imported_paths, imported_tables, imported_flags, imported_signatures, means_in, signatures_of, trees_of, seen_from, fields_by, keeping_in, known_with, seen_files}
use Rattle.meaning_reports.specs.PackageReports.{IsFindingBy, of_whole, of_import, of_dot, of_files, IsYesBy, IsFileFinding, SaysByPaths, by_paths}
use Rattle.meaning_reports.specs.PackageTables.{AreCredited, no_file, file_and, IsTableBy, empty, full, AreTablesBy, IsJudged, AreFlagsByPaths}
use Rattle.meaning_reports.specs.UsedImports.{HandsThere, IsUsed, IsNeeded, in_first, is_used}
use Rattle.meaning_reports.specs.WholeFaults.{HasNoWholeFault}
use Rattle.meaning_runs.specs.BodyOffsets.{BodiesAreApart}
use Rattle.meaning_runs.specs.Promise.{AreTreesOfTexts}
use Rattle.path_faults.proofs.Places.{contains_at, place_of}
use Rattle.report.specs.Entries.{Entry}
use Rattle.tree.specs.Syntax.{Identifier}
use Rattle.verifier.proofs.OneVerified.{seen_of}
use Rattle.verifier.specs.Rules.{GivenByPath, IsVerified, AreFlagsByCertificates, by_certificates}
use Rattle.verifier.specs.VerifierLaws.{BodiesHaveOwnPlaces, SaysNothing, ClaimsAreConsistent, NothingIsFound}

all_credited : (files : List FileWithCredits)
    → ((file : FileWithCredits) → Contains files file → AreFullCredits file.seen file.credits)
    → AreCredited (seen_of files) files
all_credited [] h = no_file
all_credited (f ∷ fs) h =
    file_and refl (h f (contains_here f fs)) (all_credited fs (λ file g. h file (contains_there f file fs g)))

module _ (bodies : BodiesAreApart) (consistent : ClaimsAreConsistent) (found : NothingIsFound) (declared : Tables)
    (given : GivenByPath) (ps : List LoadedPackage) (known more_known : Tables)
    (by_cert : AreTablesBy (AreFlagsByCertificates given) declared ps known)
    (by_path : AreTablesBy AreFlagsByPaths declared ps more_known) where
  abbrev lists : List Package
  lists = import_list ps

  -- What tables say but for calls

  one_signature : (i : ℕ) (p : LoadedPackage) (t u : PackageTable) (name : List ℕ)
      → IsTableBy (AreFlagsByCertificates given) ps known i p t
      → IsTableBy AreFlagsByPaths ps more_known i p u
      → t.signatures name ≡ u.signatures name
  one_signature i p t u name (empty x fault h) (empty y again g) = h.no_signature name ∙ sym (g.no_signature name)
  one_signature i p t u name (empty x fault h) (full flags none its signatures calls told) = absurd (none x fault)
  one_signature i p t u name (full flags none its signatures calls told) (empty x fault h) = absurd (none x fault)
  one_signature i p t u name (full flags none its signatures calls told) (full more too_none others too kept told_too) =
      signatures name ∙ sym (too name)

  one_told : (i : ℕ) (p : LoadedPackage) (t u : PackageTable)
      → IsTableBy (AreFlagsByCertificates given) ps known i p t
      → IsTableBy AreFlagsByPaths ps more_known i p u
      → t.is_told ≡ u.is_told
  one_told i p t u (empty x fault h) (empty y again g) = h.not_told ∙ sym g.not_told
  one_told i p t u (empty x fault h) (full flags none its signatures calls told) = absurd (none x fault)
  one_told i p t u (full flags none its signatures calls told) (empty x fault h) = absurd (none x fault)
  one_told i p t u (full flags none its signatures calls told) (full more too_none others too kept told_too) =
      told ∙ sym told_too

  -- what is the same of the tables of each given package is so of all paths
  same_at : {A : Type 0} (of : PackageTable → A)
      → ((i : ℕ) (p : LoadedPackage) (t u : PackageTable) → IsTableBy (AreFlagsByCertificates given) ps known i p t
      → IsTableBy AreFlagsByPaths ps more_known i p u
      → of t ≡ of u)
      → (path : List ℕ)
      → of (known path) ≡ of (more_known path)
  same_at of each path = by (place_from path lists 0) refl
    where
      by : (o : Option ℕ) → place_from path lists 0 ≡ o → of (known path) ≡ of (more_known path)
      by None e =
          let none = λ (k : ℕ) (q : LoadedPackage) (is : slice_get ps k ≡ Some q) (its : q.path ≡ path).
          no_place path lists 0 e k (record { path = q.path; imports = imported_paths q }) (in_lists ps k q is) its in
          ap of (by_cert.of_others path none ∙ sym (by_path.of_others path none))
      by (Some k) e =
          let first = first_there lists path k e in
          let q = given_in_lists ps k first.found first.is_found in
          let its : q.0.path ≡ path = ap (λ (r : Package). r.path) q.2 ∙ first.same in
          subst (λ (r : List ℕ). of (known r) ≡ of (more_known r)) its
          (each k q.0 (known q.0.path) (more_known q.0.path) (by_cert.of_package k q.0 q.1)
          (by_path.of_package k q.0 q.1))

  same_signatures : (path name : List ℕ) → (known path).signatures name ≡ (more_known path).signatures name
  same_signatures path name =
      same_at (λ (t : PackageTable). t.signatures name) (λ i p t u one other. one_signature i p t u name one other) path

  same_imported : (p : LoadedPackage) (path name : List ℕ)
      → imported_signatures p known path name ≡ imported_signatures p more_known path name
  same_imported p path name = by (is_imported p path)
    where
      by : (b : Bool) → (if b then known path else no_table).signatures name
          ≡ (if b then more_known path else no_table).signatures name
      by true = same_signatures path name
      by false = refl

  -- so both leave out the same imports with a dot
  told_imported : (p : LoadedPackage) (path : List ℕ)
      → (imported_tables p known path).is_told ≡ (imported_tables p more_known path).is_told
  told_imported p path = by (is_imported p path)
    where
      by : (b : Bool) → (if b then known path else no_table).is_told ≡ (if b then more_known path else no_table).is_told
      by true = same_at (λ (t : PackageTable). t.is_told) one_told path
      by false = refl

  says_still : (p : LoadedPackage) (path : List ℕ) → SaysSomething (imported_tables p more_known) path
      → SaysSomething (imported_tables p known) path
  says_still p path (as_library library) = as_library library
  says_still p path (by_table told) = by_table (told_imported p path ∙ told)

  dot_still : (i file : ℕ) (dot : Identifier) → IsLeftOut ps more_known i file dot → IsLeftOut ps known i file dot
  dot_still i file dot h = record {
    importer = h.importer;
    tree = h.tree;
    spec = h.spec;
    is_importer = h.is_importer;
    is_tree = h.is_tree;
    is_file = h.is_file;
    is_spec = h.is_spec;
    is_its = h.is_its;
    is_dot = h.is_dot;
    says_something = says_still h.importer h.spec.path h.says_something;
  }

  same_known : (fields : Fields) (p : LoadedPackage)
      → known_with fields ps known p ≡ known_with fields ps more_known p
  same_known fields p j number = record {
    edition = p.edition;
    means = means_in ps p number;
    fields = fields;
    object_lefts = λ at. None;
    functions = signatures_of ps p;
    imported = λ path name. same_imported p path name j;
  }

  same_keeping : (p : LoadedPackage) → keeping_in ps known p ≡ keeping_in ps more_known p
  same_keeping p j = fields_by p.edition (seen_from (same_known each_field p j) 0 (trees_of p))

  same_seen : (p : LoadedPackage) → seen_files ps known p ≡ seen_files ps more_known p
  same_seen p =
      ap (λ fields. seen_from (known_with fields ps known p) 0 (trees_of p)) (same_keeping p)
      ∙ ap (λ known_of. seen_from known_of 0 (trees_of p)) (same_known (keeping_in ps more_known p) p)

  -- so both use the same imports
  used_still : (i : ℕ) (path : List ℕ) → IsUsed ps more_known i path → IsUsed ps known i path
  used_still i path h = record {
    user = h.user;
    file = h.file;
    callee = h.callee;
    is_user = h.is_user;
    is_file = subst (λ (seens : List Seen). Contains seens h.file) (sym (same_seen h.user)) h.is_file;
    is_of_path = h.is_of_path;
    hands = h.hands;
  }

  needed_still : (i j : ℕ) (path : List ℕ) → IsNeeded ps more_known i j path → IsNeeded ps known i j path
  needed_still i j path (in_first is first) = in_first is first
  needed_still i j path (is_used counted h) = is_used counted (used_still i path h)

  -- A package

  -- more is known of the imports that it uses
  abbrev ImportsGrow : ℕ → LoadedPackage → Type 0
  ImportsGrow i p = (path name : List ℕ) (k : ℕ) → IsUsed ps known i path → imported_flags p known path name k ≡ true
      → imported_flags p more_known path name k ≡ true

  module _ (i : ℕ) (p : LoadedPackage) (none : HasNoWholeFault ps i)
      (its_yes : IsYesBy (by_certificates given declared) ps known i) (texts : AreTreesOfTexts p)
      (full_credits : HasFullCredits given ps known i) (imports : ImportsGrow i p) (files others : List FileWithCredits)
      (flags more : Flags) (verified : IsVerified given ps known i p files flags)
      (judged : IsJudged ps more_known i p others more) where
    same_files : files ≡ others
    same_files =
        one_list (seen_files ps more_known p) files others
        (subst (λ (seens : List Seen). AreCredited seens files) (verified.are_seen ∙ same_seen p)
        (all_credited files (λ file h. full_credits p files flags file verified h)))
        judged.are_files

    is_seen : (file : FileWithCredits) → Contains files file → Contains (seen_files ps known p) file.seen
    is_seen file h =
        subst (λ (seens : List Seen). Contains seens file.seen) verified.are_seen
        (contains_map (λ (f : FileWithCredits). f.seen) files file h)

    own_places : (file : FileWithCredits) → Contains files file → BodiesHaveOwnPlaces file.seen
    own_places file h =
        let at = place_of (seen_files ps known p) file.seen (is_seen file h) in
        (of_text bodies ps known p texts at.0 file.seen at.1).have_own_places

    -- more is known of those functions of imports to which a file hands something
    handed_grow : (file : FileWithCredits) → Contains files file → (path : List ℕ) (f : Callee) → f.path ≡ Some path
        → HandsThere file.seen f → (k : ℕ) → imported_flags p known path f.name k ≡ true
        → imported_flags p more_known path f.name k ≡ true
    handed_grow file h path f its hands k e =
        imports path f.name k (record {
          user = p;
          file = file.seen;
          callee = f;
          is_user = verified.is_package;
          is_file = is_seen file h;
          is_of_path = its;
          hands = hands;
        }) e

    says_nothing : (number : ℕ) (file : FileWithCredits) → slice_get files number ≡ Some file
        → SaysNothing (given p.path) flags (calls_by flags (imported_flags p known)) number file
    says_nothing number file there x said = its_yes x (of_files none (record {
      loaded = p;
      files = files;
      flags = flags;
      is_verified = verified;
      number = number;
      file = file;
      is_file = there;
      is_said = said;
    }))

    flags_grow : (name : List ℕ) (k : ℕ) → flags name k ≡ true → more name k ≡ true
    flags_grow =
        judged.are_flags.include flags
        (subst (λ (fs : List FileWithCredits). AreConsistent fs (imported_flags p more_known) flags) same_files
        (consistent_still flags (imported_flags p known) (imported_flags p more_known) files handed_grow
        (consistent (given p.path) files (imported_flags p known) flags verified.are_flags own_places says_nothing)))

    finds_nothing : (number : ℕ) (file : FileWithCredits) → slice_get others number ≡ Some file
        → (x : Entry) → IsFileFinding (calls_by more (imported_flags p more_known)) number file x
        → ⊥
    finds_nothing number file there x finding =
        let here : slice_get files number ≡ Some file =
        subst (λ (fs : List FileWithCredits). slice_get fs number ≡ Some file) (sym same_files) there in
        let among = contains_at files number file here in
        found (given p.path) flags (calls_by flags (imported_flags p known)) number file
        (own_places file among) (says_nothing number file here) x
        (finding_so (calls_by flags (imported_flags p known)) (calls_by more (imported_flags p more_known)) number file
        (calls_grow flags more (imported_flags p known) (imported_flags p more_known) file.seen flags_grow
        (handed_grow file among)) x finding)

  -- What a package imports

  -- by certificates it is yes, and it and all that is below it have full credits
  record IsBelieved (i : ℕ) : Type 0 where
    said_none : IsYesBy (by_certificates given declared) ps known i
    texts : (j : ℕ) (q : LoadedPackage) → Chain lists i j → slice_get ps j ≡ Some q → AreTreesOfTexts q
    full_credits : (j : ℕ) → Chain lists i j → HasFullCredits given ps known j

  none_whole : (i : ℕ) → IsBelieved i → HasNoWholeFault ps i
  none_whole i h x fault = h.said_none x (of_whole fault)

  below : (i j : ℕ) → Imports lists i j → IsYesBy (by_certificates given declared) ps known j → IsBelieved i → IsBelieved j
  below i j im said_none h = record {
    said_none = said_none;
    texts = λ k q chain is. h.texts k q (goes_on im chain) is;
    full_credits = λ k chain. h.full_credits k (goes_on im chain);
  }

  -- the package at j is yes, if it counts as given, and the other one uses it
  yes_of_import : (i j : ℕ) (q : LoadedPackage) → slice_get ps j ≡ Some q → counts_as_given q ≡ true → Imports lists i j
      → IsUsed ps known i q.path
      → IsBelieved i
      → IsYesBy (by_certificates given declared) ps known j
  yes_of_import i j q is counted im its_use h x finding =
      let importer = given_in_lists ps i im.importer im.is_importer in
      let w = is_named ps i importer.0 importer.1 j im in
      let there = import_there ps i importer.0 importer.1 w.tree w.spec j w.is_tree w.is_spec w.first in
      let same : q ≡ there.imported = same_Some q there.imported (sym is ∙ there.is_imported) in
      let path = ap (λ (r : LoadedPackage). r.path) same ∙ sym there.is_path in
      h.said_none _ (of_import j w.tree.file w.spec x (none_whole i h) there
      (is_used (ap counts is ∙ counted) (subst (λ (r : List ℕ). IsUsed ps known i r) path its_use)) finding)

  abbrev Grows : LoadedPackage → Type 0
  Grows p = (name : List ℕ) (k : ℕ) → (known p.path).calls name k ≡ true → (more_known p.path).calls name k ≡ true

  -- of one that counts as not given nothing is known
  passed_grows : (k : ℕ) (q : LoadedPackage) → slice_get ps k ≡ Some q → counts_as_given q ≡ false → Grows q
  passed_grows k q there off = by (by_cert.of_package k q there)
    where
      by : IsTableBy (AreFlagsByCertificates given) ps known k q (known q.path) → Grows q
      by (empty x fault g) = λ name n e. absurd (true≢false (sym e ∙ g.no_flag name n))
      by (full flags none its signatures calls told) =
          let w = passed_over ps k q there off in absurd (none w.0 w.1)

  grows_if_counted : (k : ℕ) (q : LoadedPackage) → slice_get ps k ≡ Some q → (counts_as_given q ≡ true → Grows q) → Grows q
  grows_if_counted k q there grows = by (counts_as_given q) refl
    where
      by : (b : Bool) → counts_as_given q ≡ b → Grows q
      by true e = grows e
      by false e = passed_grows k q there e

  own_grows : (i : ℕ) (p : LoadedPackage) → slice_get ps i ≡ Some p → IsBelieved i → ImportsGrow i p → Grows p
  own_grows i p is h imports = by (by_cert.of_package i p is) (by_path.of_package i p is)
    where
      by : IsTableBy (AreFlagsByCertificates given) ps known i p (known p.path)
          → IsTableBy AreFlagsByPaths ps more_known i p (more_known p.path)
          → Grows p
      by (empty x fault g) other = absurd (none_whole i h x fault)
      by (full flags none its signatures calls told) (empty x fault g) = absurd (none x fault)
      by (full flags none its signatures calls told) (full more too_none others too kept told_too) = λ name k e.
          kept name k
          ∙ flags_grow i p none h.said_none (h.texts i p ends is) (h.full_credits i ends) imports its.files others.files
          flags more its.is_verified others.is_judged name k (sym (calls name k) ∙ e)

  -- where what it uses grows
  imports_grow : (i : ℕ) (p : LoadedPackage) → slice_get ps i ≡ Some p
      → ((k : ℕ) (q : LoadedPackage) → slice_get ps k ≡ Some q → Imports lists i k → IsUsed ps known i q.path → Grows q)
      → ImportsGrow i p
  imports_grow i p is each path name k its_use = by (is_imported p path) refl
    where
      at_path : (o : Option ℕ) → place_from path lists 0 ≡ o → is_imported p path ≡ true
          → (known path).calls name k ≡ true
          → (more_known path).calls name k ≡ true
      at_path None e imported h =
          let none = λ (m : ℕ) (q : LoadedPackage) (there : slice_get ps m ≡ Some q) (its : q.path ≡ path).
          no_place path lists 0 e m (record { path = q.path; imports = imported_paths q }) (in_lists ps m q there) its in
          ap (λ (t : PackageTable). t.calls name k) (by_path.of_others path none ∙ sym (by_cert.of_others path none)) ∙ h
      at_path (Some m) e imported h =
          let first = first_there lists path m e in
          let q = given_in_lists ps m first.found first.is_found in
          let its : q.0.path ≡ path = ap (λ (r : Package). r.path) q.2 ∙ first.same in
          let im = names_first ps i p is path m (has_path (imported_paths p) path imported) first in
          subst (λ (r : List ℕ). (known r).calls name k ≡ true → (more_known r).calls name k ≡ true) its
          (each m q.0 q.1 im (subst (λ (r : List ℕ). IsUsed ps known i r) (sym its) its_use) name k) h

      by : (b : Bool) → is_imported p path ≡ b → (if b then known path else no_table).calls name k ≡ true
          → (if b then more_known path else no_table).calls name k ≡ true
      by false imported h = h
      by true imported h = at_path (place_from path lists 0) refl imported h

  module _ (order : HasOrder lists) where
    grows_below : (n i r : ℕ) (p : LoadedPackage) → slice_get ps i ≡ Some p → order.rank i ≡ Some r → r < n
        → IsBelieved i
        → Grows p
    grows_below zero i r p is ranked l h = absurd (omega (arith, l))
    grows_below (suc n) i r p is ranked l h = own_grows i p is h (imports_grow i p is λ k q there im its_use.
        grows_if_counted k q there λ counted.
        let w = order.is_order.imports_first i k r im ranked in
        let low = w.2 in
        grows_below n k w.0 q there w.1 (omega (arith, l, low))
        (below i k im (yes_of_import i k q there counted im its_use h) h))

    its_rank : (i : ℕ) (p : LoadedPackage) → slice_get ps i ≡ Some p → HasNoWholeFault ps i
        → (r : ℕ) × (order.rank i ≡ Some r)
    its_rank i p is none = by (order.rank i) refl
      where
        by : (o : Option ℕ) → order.rank i ≡ o → (r : ℕ) × (order.rank i ≡ Some r)
        by (Some r) e = (r, e)
        by None e = absurd (cannot_be_unranked ps i p is none λ rank.
            let within = slice_get_within lists i (record { path = p.path; imports = imported_paths p }) (in_lists ps i p is) in
            true≢false (sym ((order.is_order.ranks i).1 (within, rank)) ∙ ap is_some e))

    all_grow : (i : ℕ) (p : LoadedPackage) → slice_get ps i ≡ Some p → IsBelieved i → ImportsGrow i p
    all_grow i p is h = imports_grow i p is λ k q there im its_use.
        grows_if_counted k q there λ counted.
        let other = below i k im (yes_of_import i k q there counted im its_use h) h in
        let r = its_rank k q there (none_whole k other) in
        grows_below (suc r.0) k r.0 q there r.1 (omega arith) other

  -- Findings

  none_said : (i : ℕ) (x : Entry) → IsBelieved i → SaysByPaths ps more_known i x → ⊥
  none_said i x h s = by (by_cert.of_package i s.is_of.loaded s.is_of.is_judged.is_package)
    where
      by : IsTableBy (AreFlagsByCertificates given) ps known i s.is_of.loaded (known s.is_of.loaded.path) → ⊥
      by (empty y fault g) = none_whole i h y fault
      by (full flags none its signatures calls told) =
          let p = s.is_of.loaded in
          let is = s.is_of.is_judged.is_package in
          finds_nothing i p none h.said_none (h.texts i p ends is) (h.full_credits i ends)
          (all_grow (has_order lists) i p is h) its.files s.is_of.files flags s.flags its.is_verified s.is_of.is_judged
          s.number s.file s.is_of.is_file x s.is_finding

  none_found : (i : ℕ) (x : Entry) → IsFindingBy (by_paths declared) ps more_known i x → IsBelieved i → ⊥
  none_found i x (of_whole fault) h = h.said_none x (of_whole fault)
  none_found i x (of_import j number spec y none im needed finding) h =
      let its_need = needed_still i j spec.path needed in
      none_found j y finding
      (below i j im.imports (λ z g. h.said_none _ (of_import j number spec z none im its_need g)) h)
  none_found i x (of_dot file dot none out) h = h.said_none _ (of_dot file dot none (dot_still i file dot out))
  none_found i x (of_files none said) h = none_said i x h said

  pub yes_by_paths : (i : ℕ) → IsYesBy (by_certificates given declared) ps known i
      → ((j : ℕ) (q : LoadedPackage) → Chain lists i j → slice_get ps j ≡ Some q → AreTreesOfTexts q)
      → ((j : ℕ) → Chain lists i j → HasFullCredits given ps known j)
      → IsYesBy (by_paths declared) ps more_known i
  yes_by_paths i said_none texts full_credits x finding =
      none_found i x finding (record { said_none = said_none; texts = texts; full_credits = full_credits })

pub yes_with_full_credits_is_yes : BodiesAreApart → ClaimsAreConsistent → NothingIsFound → YesWithFullCreditsIsYes
yes_with_full_credits_is_yes bodies consistent found declared given ps checked verified i is_checked is_verified texts
    full_credits its_yes =
    said_yes (by_paths declared) ps checked is_checked i its_yes.loaded its_yes.is_package
    (yes_by_paths bodies consistent found declared given ps is_verified.tables is_checked.tables is_verified.are_tables
    is_checked.are_tables i (is_yes (by_certificates given declared) ps verified is_verified i its_yes) texts full_credits)
