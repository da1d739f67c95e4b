-- Where packages are well known, what is known of a function holds of each body that it has: the flags of its package
-- are consistent, and no other body of the package has its name. A function of a package that was not given has none,
-- and what is known of it is declared.
use Rattle.std.proofs.Common.{◌≡◌, ℕ, zero, suc, ◌+◌, ◌≤◌, Bool, true, false, ◌⊎◌, inl, inr, List, [], ◌∷◌, map, Option, Some, None, Contains, refl, sym, ap, ◌∙◌, subst, arith}
use Rattle.std.specs.Prelude.{if◌then◌else◌, slice_get}
use Rattle.std.specs.Str.{bytes_eq}
use Rattle.std.proofs.lemmas.Option.{none-some, same_Some}
use Rattle.std.proofs.lemmas.Slice.Eq.{bytes_eq-Decides}
use Rattle.meaning.specs.TwoFunctions.{function_names_from}
use Rattle.meaning.specs.Uses.{Callee, Seen}
use Rattle.meaning.specs.BodyEvents.{Variable, own_parameter}
use Rattle.meaning.proofs.Membership.{contains_here, contains_there, contains_cases, contains_nil}
use Rattle.meaning_packages.specs.Credits.{AreFairCredits}
use Rattle.meaning_packages.specs.CallsFlags.{FileWithCredits, flag_of, is_function}
use Rattle.imports.specs.Ranks.{Package, Imports}
use Rattle.meaning_reports.specs.Loaded.{LoadedPackage, counts_as_given, trees_of, imported_paths, import_list, is_imported, no_table, PackageTable, imported_flags, known_in, seen_files}
use Rattle.meaning_reports.specs.UsedImports.{HandsThere, Uses}
use Rattle.meaning_reports.proofs.CountedPackages.{no_second}
use Rattle.meaning_reports.proofs.ImportsOf.{has_path, list_item, in_lists, given_in_lists}
use Rattle.meaning_runs.specs.Bodies.{Program, Body, IsRun, IsOf, IsNamed}
use Rattle.meaning_runs.specs.Promise.{AreFairlyCredited, no_file, file_and, AreWellKnown}
use Rattle.meaning_runs.specs.Duties.{IsFlagged, TakesUp, calls_in}
use Rattle.meaning_runs.proofs.NamedBodies.{AreApart, apart, one_body}

not_both : {b : Bool} → b ≡ false → b ≡ true → ⊥
not_both e g = let bad : false ≡ true = sym e ∙ g in cc

-- Files

credited_seen : (seens : List Seen) (files : List FileWithCredits) (file : FileWithCredits) → AreFairlyCredited seens files → Contains files file → Contains seens file.seen
credited_seen seens files file no_file h = absurd (contains_nil file h)
credited_seen seens files file (file_and {seen = first} {rest = rest} {file = one} {files = others} same fair more) h =
    elim (contains_cases one file others h) [
      | inl q ↦ subst (λ x. Contains (first ∷ rest) x) (sym same ∙ ap (λ (x : FileWithCredits). x.seen) q) (contains_here first rest)
      | inr r ↦ contains_there first file.seen rest (credited_seen rest others file more r)
    ]

pub credited_fairly : (seens : List Seen) (files : List FileWithCredits) (file : FileWithCredits) → AreFairlyCredited seens files → Contains files file → AreFairCredits file.seen file.credits
credited_fairly seens files file no_file h = absurd (contains_nil file h)
credited_fairly seens files file (file_and {seen = first} {rest = rest} {file = one} {files = others} same fair more) h =
    elim (contains_cases one file others h) [
      | inl q ↦ subst (λ (x : FileWithCredits). AreFairCredits x.seen x.credits) q (subst (λ x. AreFairCredits x one.credits) (sym same) fair)
      | inr r ↦ credited_fairly rest others file more r
    ]

-- The package of a path

record First (path : List ℕ) (ps : List LoadedPackage) : Type 0 where
  place : ℕ
  found : LoadedPackage
  is_there : slice_get ps place ≡ Some found
  same : found.path ≡ path
  first : (k : ℕ) (r : LoadedPackage) → slice_get ps k ≡ Some r → r.path ≡ path → place ≤ k

abbrev IsNone : List ℕ → List LoadedPackage → Type 0
IsNone path ps = (k : ℕ) (r : LoadedPackage) → slice_get ps k ≡ Some r → r.path ≡ path → ⊥

first_or_none : (path : List ℕ) (ps : List LoadedPackage) → First path ps ⊎ IsNone path ps
first_or_none path [] = inr (λ k r e q. none-some r e)
first_or_none path (p ∷ ps) = by (bytes_eq p.path path) refl (first_or_none path ps)
  where
    other : bytes_eq p.path path ≡ false → p.path ≡ path → ⊥
    other e q = not_both e ((bytes_eq-Decides p.path path).1 q)

    after : bytes_eq p.path path ≡ false → (f : First path ps) → (k : ℕ) (r : LoadedPackage) → slice_get (p ∷ ps) k ≡ Some r → r.path ≡ path → suc f.place ≤ k
    after e f zero r is q = absurd (other e (ap (λ (x : LoadedPackage). x.path) (same_Some p r is) ∙ q))
    after e f (suc k) r is q = let l : f.place ≤ k = f.first k r is q in omega (arith, l)

    neither : bytes_eq p.path path ≡ false → IsNone path ps → IsNone path (p ∷ ps)
    neither e n zero r is q = other e (ap (λ (x : LoadedPackage). x.path) (same_Some p r is) ∙ q)
    neither e n (suc k) r is q = n k r is q

    by : (b : Bool) → bytes_eq p.path path ≡ b → First path ps ⊎ IsNone path ps → First path (p ∷ ps) ⊎ IsNone path (p ∷ ps)
    by true e o = inl record { place = 0; found = p; is_there = refl; same = (bytes_eq-Decides p.path path).0 e; first = λ k r is q. omega arith }
    by false e (inl f) = inl record { place = suc f.place; found = f.found; is_there = f.is_there; same = f.same; first = after e f }
    by false e (inr n) = inr (neither e n)

imports_first : (ps : List LoadedPackage) (i : ℕ) (q : LoadedPackage) (path : List ℕ) → slice_get ps i ≡ Some q → is_imported q path ≡ true → (f : First path ps) → Imports (import_list ps) i f.place
imports_first ps i q path is e f = record {
  importer = list_item ps q;
  imported = list_item ps f.found;
  is_importer = in_lists ps i q is;
  is_imported = in_lists ps f.place f.found f.is_there;
  names = subst (λ x. Contains (imported_paths q) x) (sym f.same) (has_path (imported_paths q) path e);
  is_first = λ k r there same.
      let w = given_in_lists ps k r there in
      f.first k w.0 w.1 (ap (λ (x : Package). x.path) w.2 ∙ same ∙ f.same);
}

imported_by : (loaded : LoadedPackage) (tables : List ℕ → PackageTable) (path name : List ℕ) (k : ℕ) → imported_flags loaded tables path name k ≡ true → (is_imported loaded path ≡ true) × ((tables path).calls name k ≡ true)
imported_by loaded tables path name k e = by (is_imported loaded path) refl e
  where
    by : (b : Bool) → is_imported loaded path ≡ b → (if b then tables path else no_table).calls name k ≡ true → (is_imported loaded path ≡ true) × ((tables path).calls name k ≡ true)
    by true q h = (q, h)
    by false q h = let bad : false ≡ true = h in cc

-- Flags

module _ (p : Program) (known : AreWellKnown p) where
  -- A function of which its package's table has a flag: it has a body there, and the flag holds of each that it has.
  record HasFlag (i : ℕ) (name : List ℕ) (k : ℕ) : Type 0 where
    body : Body
    of : IsOf p body
    home : body.home ≡ i
    named : is_function name body.place ≡ true
    each : (c : Body) → IsOf p c → c.home ≡ i → is_function name c.place ≡ true → (v : Variable) × IsFlagged p c v × (v.role ≡ own_parameter k)

  has_flag : (i : ℕ) (q : LoadedPackage) → IsRun p i → slice_get p.packages i ≡ Some q → (name : List ℕ) (k : ℕ) → (p.tables q.path).calls name k ≡ true → HasFlag i name k
  has_flag i q below is name k e =
      let w = known.of_package i q below is in
      let kept = w.are_flags.each name k e in
      let there : Contains (seen_files p.packages p.tables q) kept.file.seen = credited_seen (seen_files p.packages p.tables q) w.files kept.file w.are_files kept.is_of_package in
      let parted : AreApart (function_names_from 0 (trees_of q)) = apart [] (function_names_from 0 (trees_of q)) (no_second p.packages i q is w.has_no_whole_fault) in
      let it : Body = record { home = i; file = kept.file.seen; place = kept.body } in
      let flag : IsFlagged p it kept.variable = record {
        loaded = q;
        name = name;
        position = k;
        is_package = is;
        has_name = kept.is_claim.is_of_function;
        is_flag = e;
        is_of_body = kept.is_claim.is_of_body;
        is_parameter = kept.is_claim.is_parameter;
        is_cancel_variable = kept.is_claim.is_cancel_variable;
        credits = kept.file.credits;
        are_fair = credited_fairly (seen_files p.packages p.tables q) w.files kept.file w.are_files kept.is_of_package;
        keeps = kept.keeps;
      } in
      record {
        body = it;
        of = record { loaded = q; is_package = is; is_run = below; is_file = there; is_body = kept.is_claim.is_body };
        home = refl;
        named = kept.is_claim.is_of_function;
        each = λ c of home named.
            let same : of.loaded ≡ q = same_Some of.loaded q (sym of.is_package ∙ ap (λ n. slice_get p.packages n) home ∙ is) in
            let among = subst (λ x. Contains (seen_files p.packages p.tables x) c.file) same of.is_file in
            let one = one_body (known_in p.packages p.tables q) name 0 (trees_of q) parted kept.file.seen c.file kept.body c.place there among kept.is_claim.is_body of.is_body kept.is_claim.is_of_function named in
            let is_it : it ≡ c = λ j. record { home = sym home j; file = one.0 j; place = one.1 j } in
            (kept.variable, subst (λ x. IsFlagged p x kept.variable) is_it flag, kept.is_claim.is_parameter);
      }

  module _ (b : Body) (loaded : LoadedPackage) (of : IsOf p b) (is : slice_get p.packages b.home ≡ Some loaded) (f : Callee) (k : ℕ) (hands : HandsThere b.file f) where
    of_this : f.path ≡ None → (p.tables loaded.path).calls f.name k ≡ true → TakesUp p b f k
    of_this q e =
        let h = has_flag b.home loaded of.is_run is f.name k e in
        record {
          each = λ c g. h.each c g.is_of (subst (λ o. IsNamed p b.home o c.home) q g.is_of_package) g.has_name;
          is_declared = λ no_body. absurd (no_body h.body record {
            is_of = h.of;
            is_of_package = subst (λ o. IsNamed p b.home o h.body.home) (sym q) h.home;
            has_name = h.named;
          });
        }

    -- no package has the path, so no function there has a body, and its flag is declared
    of_declared : (path : List ℕ) → f.path ≡ Some path → (p.tables path).calls f.name k ≡ true → IsNone path p.packages → TakesUp p b f k
    of_declared path q e none = record {
      each = λ c g.
          let n = subst (λ o. IsNamed p b.home o c.home) q g.is_of_package in
          absurd (none c.home n.0 n.1 n.2);
      is_declared = λ no_body.
          ap (λ o. flag_of (λ name j. false) (λ x. (p.declared x).calls) o f.name k) q
          ∙ (sym (ap (λ (t : PackageTable). t.calls f.name k) (known.of_others path none)) ∙ e);
    }

    -- the first package of the path: of one that counts as not given no flag is known
    of_given : (path : List ℕ) → f.path ≡ Some path → is_imported loaded path ≡ true → (p.tables path).calls f.name k ≡ true → (first : First path p.packages) → (counted : Bool) → counts_as_given first.found ≡ counted → TakesUp p b f k
    of_given path q im e first false counted =
        let flag : (p.tables first.found.path).calls f.name k ≡ true = subst (λ x. (p.tables x).calls f.name k ≡ true) (sym first.same) e in
        absurd (not_both (known.of_passed_over first.place first.found first.is_there counted f.name k) flag)
    of_given path q im e first true counted =
        let flag : (other : LoadedPackage) → other.path ≡ path → (p.tables other.path).calls f.name k ≡ true = λ other same. subst (λ x. (p.tables x).calls f.name k ≡ true) (sym same) e in
        let uses : Uses p.packages p.tables b.home first.place = record {
          imported = first.found;
          is_imported = first.is_there;
          is_counted = counted;
          imports = imports_first p.packages b.home loaded path is im first;
          is_used = record {
            user = of.loaded;
            file = b.file;
            callee = f;
            is_user = of.is_package;
            is_file = of.is_file;
            is_of_path = q ∙ (λ j. Some (sym first.same j));
            hands = hands;
          };
        } in
        let h = has_flag first.place first.found (known.are_closed b.home first.place of.is_run uses) first.is_there f.name k (flag first.found first.same) in
        let its : IsNamed p b.home (Some path) h.body.home = (first.found, ap (λ n. slice_get p.packages n) h.home ∙ first.is_there, first.same) in
        record {
          each = λ c g.
              let n = subst (λ o. IsNamed p b.home o c.home) q g.is_of_package in
              (has_flag c.home n.0 g.is_of.is_run n.1 f.name k (flag n.0 n.2)).each c g.is_of refl g.has_name;
          is_declared = λ no_body. absurd (no_body h.body record {
            is_of = h.of;
            is_of_package = subst (λ o. IsNamed p b.home o h.body.home) (sym q) its;
            has_name = h.named;
          });
        }

    of_first : (path : List ℕ) → f.path ≡ Some path → is_imported loaded path ≡ true → (p.tables path).calls f.name k ≡ true → First path p.packages ⊎ IsNone path p.packages → TakesUp p b f k
    of_first path q im e (inr none) = of_declared path q e none
    of_first path q im e (inl first) = of_given path q im e first (counts_as_given first.found) refl

    of_path : (o : Option (List ℕ)) → f.path ≡ o → flag_of (p.tables loaded.path).calls (imported_flags loaded p.tables) o f.name k ≡ true → TakesUp p b f k
    of_path None q e = of_this q e
    of_path (Some path) q e =
        let w = imported_by loaded p.tables path f.name k e in
        of_first path q w.0 w.1 (first_or_none path p.packages)

    pub functions_taken_up_by : calls_in p loaded f k ≡ true → TakesUp p b f k
    functions_taken_up_by e = of_path f.path refl e

pub functions_taken_up : (p : Program) (known : AreWellKnown p) (b : Body) (loaded : LoadedPackage) → IsOf p b → slice_get p.packages b.home ≡ Some loaded → (f : Callee) (k : ℕ) → HandsThere b.file f → calls_in p loaded f k ≡ true → TakesUp p b f k
functions_taken_up p known b loaded of is f k hands e = functions_taken_up_by p known b loaded of is f k hands e
