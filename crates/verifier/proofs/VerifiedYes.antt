-- Of a package of whose files nothing is said by certificates, what its table knows of functions holds, and the rules of
-- paths find nothing in it under its credits. So the promise is that of `yes_is_quiet`.
use Rattle.std.proofs.Common.{◌≡◌, ℕ, ◌+◌, List, [], ◌∷◌, ◌++◌, Some, Contains, refl, sym, ap, ◌∙◌, subst}
use Rattle.std.specs.Prelude.{slice_get}
use Rattle.checker.specs.CheckerLaws.{LeavesNoFault, KeepsClaims, SettlesWhatItSays}
use Rattle.flow.specs.GraphOfCode.{nodes}
use Rattle.meaning.proofs.Membership.{contains_here, contains_there, contains_map}
use Rattle.meaning.specs.BodyEvents.{seen_file, sites_of}
use Rattle.meaning.specs.Code.{Code, skip, does, leave, then_code, either, repeats, up_to}
use Rattle.meaning.specs.Tracked.{Known}
use Rattle.meaning_reports.specs.MeantImports.{IsTreeButForImports}
use Rattle.meaning.specs.Uses.{Event}
use Rattle.meaning_packages.specs.CallsFlags.{FileWithCredits, calls_by}
use Rattle.meaning_packages.specs.Credits.{AreFairCredits}
use Rattle.meaning_packages.specs.PathFaults.{paths_of}
use Rattle.meaning_reports.specs.Loaded.{Tables, imported_flags, seen_files, trees_of, known_in}
use Rattle.meaning_runs.proofs.EntryPlaces.{tree_seen}
use Rattle.meaning_runs.proofs.OccurrencePlaces.{occurrences_have_places}
use Rattle.meaning_runs.proofs.PackageYes.{AreKnownWell, yes_of_a_package_is_quiet_by}
use Rattle.meaning_runs.specs.OccurrencePlaces.{occurrences}
use Rattle.meaning_runs.specs.Promise.{AreFairlyCredited, no_file, file_and}
use Rattle.path_faults.proofs.Places.{contains_at, place_of}
use Rattle.tree.specs.Syntax.{SourceFile}
use Rattle.verifier.proofs.CertifiedBodies.{nothing_is_found, claims_are_consistent}
use Rattle.verifier.proofs.FairCredits.{credits_are_fair}
use Rattle.verifier.proofs.OneVerified.{seen_of}
use Rattle.verifier.specs.Rules.{GivenByPath, by_certificates}
use Rattle.verifier.specs.VerifierLaws.{BodiesHaveOwnPlaces, SaysNothing, YesOfVerifiedIsQuiet}

-- Places of nodes

nodes_are : {E : Type 0} (c : Code E) → nodes c ≡ occurrences c
nodes_are skip = refl
nodes_are (does o) = refl
nodes_are (leave w) = refl
nodes_are (then_code a b) = λ i. nodes_are b i ++ nodes_are a i
nodes_are (either a b) = λ i. nodes_are b i ++ nodes_are a i
nodes_are (repeats a) = nodes_are a
nodes_are (up_to w a) = nodes_are a

pub places_of_text : (text : List ℕ) (tree : SourceFile) (known : Known) → IsTreeButForImports known.edition text tree
    → BodiesHaveOwnPlaces (seen_file known tree)
places_of_text text tree known is b promises there n m o p is_o is_p same same_order =
    let code = (paths_of (seen_file known tree) promises b).code in
    (occurrences_have_places Event text tree known b (sites_of (seen_file known tree) b.at) is there).one_each n m o p
    (ap (λ os. slice_get os n) (sym (nodes_are code)) ∙ is_o) (ap (λ os. slice_get os m) (sym (nodes_are code)) ∙ is_p)
    same same_order

-- Credits

all_fair : (files : List FileWithCredits)
    → ((file : FileWithCredits) → Contains files file → AreFairCredits file.seen file.credits)
    → AreFairlyCredited (seen_of files) files
all_fair [] fair = no_file
all_fair (f ∷ fs) fair =
    file_and refl (fair f (contains_here f fs)) (all_fair fs (λ file h. fair file (contains_there f file fs h)))

-- Packages

module _ (leaves : LeavesNoFault) (keeps : KeepsClaims) (settles : SettlesWhatItSays) (given : GivenByPath) where
  known_by_certificates : (declared : Tables) → AreKnownWell (by_certificates given declared)
  known_by_certificates declared ps tables i q is none its signatures said_none texts =
      let files = its.files in
      let flags = (tables q.path).calls in
      let verified = its.is_verified in
      record {
        known = record {
          has_no_whole_fault = none;
          files = files;
          are_files = subst (λ seens. AreFairlyCredited seens files) verified.are_seen (all_fair files fair);
          are_flags =
              claims_are_consistent keeps (given q.path) files (imported_flags q tables) flags verified.are_flags own_places
              nothing;
          are_signatures = signatures;
        };
        none = λ number file x there finding.
            nothing_is_found leaves (given q.path) flags (calls_by flags (imported_flags q tables)) number file
            (own_places file (contains_at files number file there)) (nothing number file there) x finding;
      }
    where
      fair : (file : FileWithCredits) → Contains its.files file → AreFairCredits file.seen file.credits
      fair file h =
          let w = place_of its.files file h in
          credits_are_fair settles (given q.path) (tables q.path).calls
          (calls_by (tables q.path).calls (imported_flags q tables)) w.0 file (its.is_verified.are_credits w.0 file w.1)

      own_places : (file : FileWithCredits) → Contains its.files file → BodiesHaveOwnPlaces file.seen
      own_places file h =
          let among = contains_map (λ (f : FileWithCredits). f.seen) its.files file h in
          let at = place_of (seen_files ps tables q) file.seen
          (subst (λ seens. Contains seens file.seen) its.is_verified.are_seen among) in
          let w = tree_seen (known_in ps tables q) 0 (trees_of q) at.0 file.seen at.1 in
          let text = texts w.0 (contains_at (trees_of q) at.0 w.0 w.1) in
          subst BodiesHaveOwnPlaces w.2 (places_of_text text.0 w.0 (known_in ps tables q (0 + at.0)) text.1)

      nothing : (number : ℕ) (file : FileWithCredits) → slice_get its.files number ≡ Some file
          → SaysNothing (given q.path) (tables q.path).calls
          (calls_by (tables q.path).calls (imported_flags q tables)) number file
      nothing number file there x said = said_none x (record {
        loaded = q;
        files = its.files;
        flags = (tables q.path).calls;
        is_verified = its.is_verified;
        number = number;
        file = file;
        is_file = there;
        is_said = said;
      })

pub yes_of_verified_is_quiet : LeavesNoFault → KeepsClaims → SettlesWhatItSays → YesOfVerifiedIsQuiet
yes_of_verified_is_quiet leaves keeps settles given declared =
    yes_of_a_package_is_quiet_by (by_certificates given declared)
    (known_by_certificates leaves keeps settles given declared)
