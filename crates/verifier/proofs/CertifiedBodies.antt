-- Where nothing is said of a file, each of its bodies has a certificate that holds, if its paths are followed. Who
-- looks for certificates can only say that it is not so that there is none; but a fault is refuted, and whether a claim
-- is kept is a matter of faults.
use Rattle.std.proofs.Common.{◌≡◌, ℕ, Bool, true, List, [], Some, Contains, refl, ap, ◌∙◌}
use Rattle.std.specs.Prelude.{slice_get}
use Rattle.calls_flags.proofs.ClaimsOf.{so_function}
use Rattle.calls_flags.proofs.ComesBack.{by_code_alone}
use Rattle.calls_flags.specs.Claims.{function_name}
use Rattle.checker.specs.Certificates.{is_claimed}
use Rattle.checker.specs.CheckerLaws.{IsOf, LeavesNoFault, KeepsClaims}
use Rattle.flow.specs.declared.order.NodePlace.{NodePlace}
use Rattle.meaning.specs.BodyEvents.{Variable, VariableRole, own_parameter, bodies_of, variables_of, unfollowed_faults}
use Rattle.meaning.specs.FunctionFacts.{cancel}
use Rattle.meaning.specs.Mentions.{BodyPlace}
use Rattle.meaning.specs.Uses.{Callee}
use Rattle.meaning_packages.specs.CallsFlags.{Flags, FileWithCredits, calls_by, IsKept}
use Rattle.meaning_packages.specs.Credits.{promises_in}
use Rattle.meaning_packages.specs.PathFaults.{Paths, PathFault, paths_of, IsPathFault, KeepsCall, IsFaultOf, of_a_pass, of_a_path}
use Rattle.meaning_reports.specs.PackageReports.{IsFileFinding, outside_bodies, of_use, of_path}
use Rattle.path_faults.proofs.Places.{place_of}
use Rattle.report.specs.Entries.{Entry}
use Rattle.verifier.specs.Verified as verified
use Rattle.verifier.specs.Verified.{Given, nothing_known, flags_of_name, flags_of_body, checked, IsCertified, IsClaimed}
use Rattle.verifier.specs.VerifierLaws.{BodiesHaveOwnPlaces, SaysNothing, ClaimsAreConsistent, NothingIsFound}

-- the body that is checked is that of the paths
pub is_of : (paths : Paths) (claims : ℕ → Bool) (order : List NodePlace) → IsOf paths (checked paths claims order)
is_of paths claims order = record { is_edition = refl; is_graph = refl; are_variables = refl; are_promises = refl }

-- a parameter of a function that is known to call it is claimed of its body
claimed_so : (flags : Flags) (b : BodyPlace) (name : List ℕ) (k : ℕ) (role : VariableRole) → function_name b ≡ Some name
    → role ≡ own_parameter k
    → flags name k ≡ true
    → is_claimed (flags_of_body flags b) role ≡ true
claimed_so flags b name k role named parameter known =
    ap (is_claimed (flags_of_body flags b)) parameter ∙ (ap (λ o. flags_of_name flags o k) named ∙ known)

module _ (given : Given) (own : Flags) (calls : Callee → ℕ → Bool) (number : ℕ) (file : FileWithCredits)
    (places : BodiesHaveOwnPlaces file.seen) (nothing : SaysNothing given own calls number file) where
  abbrev paths_in : BodyPlace → Paths
  paths_in b = paths_of file.seen (promises_in calls file.credits b.at) b

  -- what a certificate refutes is not so
  refuted : (b : BodyPlace) → Contains (bodies_of file.seen) b → unfollowed_faults file.seen b ≡ []
      → (IsCertified given own calls number file b → ⊥)
      → ⊥
  refuted b there followed none = nothing _ (verified.not_certified b there followed none)

  no_path_fault : LeavesNoFault → (b : BodyPlace) → Contains (bodies_of file.seen) b
      → unfollowed_faults file.seen b ≡ []
      → (f : PathFault) → IsPathFault (paths_in b) f
      → ⊥
  no_path_fault leaves b there followed f fault =
      refuted b there followed λ c.
      leaves (paths_in b) (checked (paths_in b) (flags_of_body own b) c.order) c.rows
      (is_of (paths_in b) (flags_of_body own b) c.order) (places b (promises_in calls file.credits b.at) there)
      c.holds f fault

  no_fault : LeavesNoFault → (b : BodyPlace) → Contains (bodies_of file.seen) b
      → (f : PathFault) → IsFaultOf file.seen (promises_in calls file.credits b.at) b f
      → ⊥
  no_fault leaves b there f (of_a_pass g fault) = nothing _ (verified.of_pass b g there fault)
  no_fault leaves b there f (of_a_path g followed fault) = no_path_fault leaves b there followed g fault

  no_finding : LeavesNoFault → (x : Entry) → IsFileFinding calls number file x → ⊥
  no_finding leaves x (outside_bodies f h) = nothing _ (verified.outside_bodies f h)
  no_finding leaves x (of_use b f there h) = nothing _ (verified.of_use b f there h)
  no_finding leaves x (of_path b f there h) = no_fault leaves b there f h

  keeps_claim : KeepsClaims → (b : BodyPlace) → Contains (bodies_of file.seen) b
      → unfollowed_faults file.seen b ≡ []
      → (i : ℕ) (v : Variable) → slice_get (variables_of file.seen b.at) i ≡ Some v
      → v.kind ≡ cancel
      → is_claimed (flags_of_body own b) v.role ≡ true
      → KeepsCall (paths_in b) v
  keeps_claim keeps b there followed i v is_there is_cancel claimed = record {
    never_open = λ handed t o comes same. refuted b there followed λ c. (kept c).never_open handed t o comes same;
    never_kept = λ handed t o comes same. refuted b there followed λ c. (kept c).never_kept handed t o comes same;
    never_left = λ handed t o comes left. refuted b there followed λ c. (kept c).never_left handed t o comes left;
  }
    where
      kept : IsCertified given own calls number file b → KeepsCall (paths_in b) v
      kept c =
          keeps (paths_in b) (checked (paths_in b) (flags_of_body own b) c.order) c.rows
          (is_of (paths_in b) (flags_of_body own b) c.order)
          (places b (promises_in calls file.credits b.at) there) c.holds i v is_there is_cancel claimed

pub nothing_is_found : LeavesNoFault → NothingIsFound
nothing_is_found leaves given own calls number file places nothing = no_finding given own calls number file places nothing leaves

module _ (keeps : KeepsClaims) (given : Given) (files : List FileWithCredits) (imported : List ℕ → Flags) (flags : Flags) where
  kept_in : (files_in : (file : FileWithCredits) → Contains files file → BodiesHaveOwnPlaces file.seen)
      → ((number : ℕ) (file : FileWithCredits) → slice_get files number ≡ Some file
      → SaysNothing given flags (calls_by flags imported) number file)
      → (name : List ℕ) (k : ℕ) → flags name k ≡ true
      → IsClaimed files given name k
      → IsKept files imported flags name k
  kept_in places nothing name k known h =
      let file = place_of files h.file h.is_of_package in
      let variable = place_of (variables_of h.file.seen h.body.at) h.variable h.is_claim.is_of_body in
      record {
        file = h.file;
        body = h.body;
        variable = h.variable;
        is_of_package = h.is_of_package;
        is_claim = h.is_claim;
        comes_back = by_code_alone h.file.seen.known.edition h.file.seen nothing_known
            (promises_in (calls_by flags imported) h.file.credits h.body.at) h.body h.comes_back;
        keeps =
            keeps_claim given flags (calls_by flags imported) file.0 h.file (places h.file h.is_of_package)
            (nothing file.0 h.file file.1) keeps h.body h.is_claim.is_body h.is_claim.is_followed variable.0 h.variable
            variable.1 h.is_claim.is_cancel_variable
            (claimed_so flags h.body name k h.variable.role (so_function h.body name h.is_claim.is_of_function)
            h.is_claim.is_parameter known);
      }

pub claims_are_consistent : KeepsClaims → ClaimsAreConsistent
claims_are_consistent keeps given files imported flags are places nothing = record {
  each = λ name k known. kept_in keeps given files imported flags places nothing name k known ((are name k).0 known);
}
