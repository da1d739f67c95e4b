-- What a yes promises: where nothing is to be said of the files of some packages, and among these is each given package
-- to whose functions one of them passes a cancel function or lends a group, each return of a frame of these packages is
-- quiet, in every run. Of other given packages nothing is asked, and they run too; but of those that count as not given
-- no body is known. It is enough that tables are consistent and credits fair, of these packages: they need not be the
-- most consistent flags, or full credits.
use Rattle.std.specs.Prelude.{◌≡◌, ℕ, false, List, [], ◌∷◌, Some, slice_get, Contains}
use Rattle.tree.specs.Syntax.{SourceFile}
use Rattle.meaning.specs.Uses.{Seen, Work, Event, go}
use Rattle.meaning.specs.Code.{Occurrence}
use Rattle.meaning.specs.Lists.{Reaches}
use Rattle.meaning_packages.specs.Credits.{AreFairCredits}
use Rattle.meaning_packages.specs.CallsFlags.{FileWithCredits, calls_by, AreConsistent}
use Rattle.report.specs.Entries.{Entry}
use Rattle.meaning_reports.specs.MeantImports.{IsTreeButForImports}
use Rattle.meaning_reports.specs.Loaded.{LoadedPackage, HaveDistinctPaths, Tables, counts, counts_as_given, imported_flags, signatures_of, trees_of, seen_files}
use Rattle.meaning_reports.specs.WholeFaults.{HasNoWholeFault}
use Rattle.meaning_reports.specs.UsedImports.{Uses}
use Rattle.meaning_reports.specs.PackageReports.{IsFileFinding}
use Rattle.meaning_runs.specs.Bodies.{Program, IsRun, Body, IsOf, code_of}
use Rattle.meaning_runs.specs.World.{Frame, World}
use Rattle.meaning_runs.specs.Runs.{IsQuietProgram, Run, IsOfFirst, IsReturning, IsQuiet}

-- To whose functions those that run pass a cancel variable or lend a group, these run too, if they count as given.
abbrev pub AreClosed : Program → Type 0
AreClosed p = (i j : ℕ) → IsRun p i → Uses p.packages p.tables i j → IsRun p j

-- each file with fair credits
pub data AreFairlyCredited : List Seen → List FileWithCredits → Type 0 where
  no_file : AreFairlyCredited [] []
  file_and : {seen : Seen} {rest : List Seen} {file : FileWithCredits} {files : List FileWithCredits}
      → file.seen ≡ seen
      → AreFairCredits seen file.credits
      → AreFairlyCredited rest files
      → AreFairlyCredited (seen ∷ rest) (file ∷ files)

-- What is known of the functions of the package at that place holds of them: its table has what their signatures say,
-- and its flags are consistent under fair credits.
pub record IsWellKnown (ps : List LoadedPackage) (tables : Tables) (i : ℕ) (p : LoadedPackage) : Type 0 where
  pub has_no_whole_fault : HasNoWholeFault ps i
  pub files : List FileWithCredits
  pub are_files : AreFairlyCredited (seen_files ps tables p) files
  pub are_flags : AreConsistent files (imported_flags p tables) (tables p.path).calls
  pub are_signatures : (name : List ℕ) → (tables p.path).signatures name ≡ signatures_of ps p name

-- Each tree is that of a text but for the paths of its imports, so that no two of its names or bodies stand at one
-- offset.
abbrev pub AreTreesOfTexts : LoadedPackage → Type 0
AreTreesOfTexts q =
    (tree : SourceFile) → Contains (trees_of q) tree → (text : List ℕ) × IsTreeButForImports q.edition text tree

-- So it is of each package that runs, and these use none but such. Of packages that were not given is known what is
-- declared of them. Of those that count as not given nothing is known.
pub record AreWellKnown (p : Program) : Type 0 where
  pub are_closed : AreClosed p
  pub of_package : (i : ℕ) (q : LoadedPackage)
      → IsRun p i
      → slice_get p.packages i ≡ Some q
      → IsWellKnown p.packages p.tables i q
  pub of_texts : (i : ℕ) (q : LoadedPackage) → IsRun p i → slice_get p.packages i ≡ Some q → AreTreesOfTexts q
  pub of_others : (path : List ℕ)
      → ((i : ℕ) (q : LoadedPackage) → slice_get p.packages i ≡ Some q → q.path ≡ path → ⊥)
      → p.tables path ≡ p.declared path
  pub of_passed_over : (i : ℕ) (q : LoadedPackage)
      → slice_get p.packages i ≡ Some q
      → counts_as_given q ≡ false
      → (name : List ℕ) (k : ℕ) → (p.tables q.path).calls name k ≡ false

-- What is known of the package at that place holds, and nothing is to be said of its files, under some fair credits,
-- perhaps others than those by which the flags of others are known.
pub record IsWithoutFinding (ps : List LoadedPackage) (tables : Tables) (i : ℕ) (q : LoadedPackage) : Type 0 where
  pub known : IsWellKnown ps tables i q
  pub none : (number : ℕ) (file : FileWithCredits) (x : Entry)
      → slice_get known.files number ≡ Some file
      → IsFileFinding (calls_by (tables q.path).calls (imported_flags q tables)) number file x
      → ⊥

-- So it is of each of these packages, and not of the one alone that is looked at. This is what error groups ask for: a
-- package to whose function a cancel function is passed, and which makes a group again while its work goes on, keeps a
-- flag for a call that its member has yet to make.
pub record HaveNoFindings (p : Program) (IsOne : ℕ → Type 0) : Type 0 where
  pub of_package : (i : ℕ) (q : LoadedPackage)
      → IsOne i
      → slice_get p.packages i ≡ Some q
      → IsWithoutFinding p.packages p.tables i q

-- no body that runs comes to a `go` statement that may take something over
abbrev pub HasNoGo : Program → Type 0
HasNoGo p = (b : Body) (t : List (Occurrence Event)) (o : Occurrence Event) (work : Work)
    → IsOf p b
    → Reaches (code_of b) t o
    → o.event ≡ go work
    → ⊥

-- The first edition has no such event.
abbrev pub FirstHasNoGo : Type 0
FirstHasNoGo = (p : Program) → IsOfFirst p → HasNoGo p

-- where there is none, each return is quiet
abbrev pub YesIsQuietWithoutGo : Type 0
YesIsQuietWithoutGo = (p : Program)
    → HasNoGo p
    → AreWellKnown p
    → HaveNoFindings p (IsRun p)
    → (w : World) (f : Frame)
    → Run p w
    → IsReturning w f
    → IsQuiet w f

-- Where only such packages run, and all others belong to the environment, each return is quiet.
abbrev pub YesIsQuiet : Type 0
YesIsQuiet = (p : Program) → AreWellKnown p → HaveNoFindings p (IsRun p) → IsQuietProgram p

-- the same, where all packages run that count as given
abbrev pub all_run : Program → Program
all_run p = record p { are_run = λ home. counts (slice_get p.packages home) }

-- So it is where all packages run that count as given, if the one that is looked at is among those without findings.
abbrev pub YesIsQuietInAll : Type 0
YesIsQuietInAll = (p : Program)
    → HaveDistinctPaths p.packages
    → AreWellKnown p
    → HaveNoFindings p (IsRun p)
    → IsRun p p.looked_at
    → IsQuietProgram (all_run p)
