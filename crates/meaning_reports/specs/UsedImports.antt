-- Which imports a package needs to be yes. In the first edition each; in the second those that it uses: to whose
-- functions it passes a cancel variable or lends a group. One that counts as not given is not needed: what is passed to
-- it or lent to it may become of anything, as by a package that was not given. What a package obtains from an import's
-- function asks nothing of that import: it may be any cancel function, or none. So an import that isn't used may do
-- what it likes.
-- (This tool's rules.)
use Rattle.std.specs.Prelude.{ℕ, ◌≡◌, true, List, Some, slice_get, Contains}
use Rattle.tree.specs.declared.edition.Edition.TheVariants.{First}
use Rattle.meaning.specs.Mentions.{BodyPlace}
use Rattle.meaning.specs.Uses.{Callee, VariableAt, Sent, go_pass, Event, pass, defer_pass, lend, go, Seen}
use Rattle.meaning.specs.BodyEvents.{bodies_of, events_at}
use Rattle.imports.specs.Ranks.{Imports}
use Rattle.meaning_reports.specs.Loaded.{LoadedPackage, Tables, counts, counts_as_given, import_list, seen_files}

-- the event passes a cancel variable to the function, whether that is known to call it or not, or lends a group to it
pub data HandsTo (f : Callee) : Event → Type 0 where
  passes : {u : VariableAt} {k : ℕ} → HandsTo f (pass u f k)
  defers : {u : VariableAt} {k : ℕ} → HandsTo f (defer_pass u f k)
  lends : {v k : ℕ} → HandsTo f (lend v f k)
  goes : {xs : List Sent} → HandsTo f (go (go_pass f xs))

-- a body of the file does so, on a path or not
pub record HandsThere (file : Seen) (f : Callee) : Type 0 where
  pub body : BodyPlace
  pub at : ℕ
  pub event : Event
  pub is_of_file : Contains (bodies_of file) body
  pub is_event : Contains (events_at file body.at file.marks at) event
  pub hands : HandsTo f event

-- a file of the package at that place hands something to a function of the package of that path
pub record IsUsed (ps : List LoadedPackage) (tables : Tables) (i : ℕ) (path : List ℕ) : Type 0 where
  pub user : LoadedPackage
  pub file : Seen
  pub callee : Callee
  pub is_user : slice_get ps i ≡ Some user
  pub is_file : Contains (seen_files ps tables user) file
  pub is_of_path : callee.path ≡ Some path
  pub hands : HandsThere file callee

-- the package `i` imports the package `j`, which counts as given, and uses it
pub record Uses (ps : List LoadedPackage) (tables : Tables) (i j : ℕ) : Type 0 where
  pub imported : LoadedPackage
  pub is_imported : slice_get ps j ≡ Some imported
  pub is_counted : counts_as_given imported ≡ true
  pub imports : Imports (import_list ps) i j
  pub is_used : IsUsed ps tables i imported.path

-- the package `i` needs the package `j`, which it imports by that path, to be yes
pub data IsNeeded (ps : List LoadedPackage) (tables : Tables) (i j : ℕ) (path : List ℕ) : Type 0 where
  in_first : {importer : LoadedPackage}
      → slice_get ps i ≡ Some importer
      → importer.edition ≡ First
      → IsNeeded ps tables i j path
  is_used : counts (slice_get ps j) ≡ true → IsUsed ps tables i path → IsNeeded ps tables i j path
