-- What the bytes of a file are: a text with a tree, one with tokens and no tree, or one without tokens; and a package
-- as its files are read, in the order of their names.
use Rattle.std.specs.Prelude.{ℕ, ◌≡◌, ◌≢◌, ◌≤◌, List, [], ◌∷◌, Result, Ok, Err, length}
use Rattle.lexer.specs.declared.fault.LexFault.{LexFault}
use Rattle.lexer.specs.declared.fault.LexFault.TheVariants as lex_fault
use Rattle.lexer.specs.declared.source.Source.{Source}
use Rattle.lexer.specs.declared.token.Token.{Token}
use Rattle.lexer.specs.Faults.{IsFault}
use Rattle.lexer.specs.Tokens.{IsTokens}
use Rattle.meaning.specs.TreeOfText.{IsTreeOf}
use Rattle.parser.specs.declared.fault.ParseFault.{ParseFault}
use Rattle.parser.specs.declared.fault.ParseFault.TheVariants as parse_fault
use Rattle.parser_base.specs.declared.fault.LeftOut.{LeftOut}
use Rattle.parser_base.specs.declared.fault.LeftOut.TheVariants as form
use Rattle.report.specs.declared.codes.TextFault.{TextFault}
use Rattle.report.specs.declared.codes.TextFault.TheVariants.{NotUtf8, Nul, UnclosedString, UnclosedComment, UnclosedRune, UnknownCharacter, TooLong}
use Rattle.report.specs.declared.codes.TreeFault.{TreeFault}
use Rattle.report.specs.declared.codes.TreeFault.TheVariants.{UnexpectedToken, TypeParameters, Goto, Fallthrough, DotImport, TooDeep, Recover}
use Rattle.tree.specs.declared.edition.Edition.{Edition}
use Rattle.tree.specs.Syntax.{SourceFile}
use Rattle.tree.specs.View.{file_syntax}
use Rattle.tree.specs.declared.file.File.{File}
use Rattle.meaning_reports.specs.Loaded.{Reading, has_tree, has_text_fault, has_tree_fault, LoadedPackage}
use Rattle.whole_packages.specs.declared.loaded_package.LoadedPackage.{LoadedPackage as KeptPackage}
use Rattle.whole_packages.specs.declared.loaded_package.Reading.{Reading as KeptReading}
use Rattle.whole_packages.specs.declared.loaded_package.Reading.TheVariants as kept
use Rattle.whole_packages.specs.LoadedViews.{TellsPackage}
use Rattle.meaning_reports.specs.MeantImports.{Meant, with_meant_imports}
use Rattle.load.specs.FilesByName.{AreByName}
use Rattle.load.specs.MeantPaths.{IsMeantTree, MeantPath}

-- the lexer's fault of this kind at an offset
abbrev pub lex_fault_at : ℕ → TextFault → LexFault
lex_fault_at at NotUtf8 = lex_fault.NotUtf8 at
lex_fault_at at Nul = lex_fault.Nul at
lex_fault_at at UnclosedString = lex_fault.UnclosedString at
lex_fault_at at UnclosedComment = lex_fault.UnclosedComment at
lex_fault_at at UnclosedRune = lex_fault.UnclosedRune at
lex_fault_at at UnknownCharacter = lex_fault.UnknownCharacter at
lex_fault_at at TooLong = lex_fault.TooLong

-- a fault's offset and kind; a text that is too long has its fault at its start
pub record IsFaultAt (fault : LexFault) (at : ℕ) (why : TextFault) : Type 0 where
  pub fault_there : fault ≡ lex_fault_at at why
  pub at_start : why ≡ TooLong → at ≡ 0

-- a text has no tokens for this reason, which stands at this offset
abbrev pub IsUnreadable : List ℕ → ℕ → TextFault → Type 0
IsUnreadable text at why = (fault : LexFault) × IsFault text fault × IsFaultAt fault at why

-- A text has tokens and no tree in the edition, for a reason that stands at this offset. Which of the reasons it is,
-- and where, is not said, but that the use of `recover` is none of them.
pub record IsUnparsed (edition : Edition) (text : List ℕ) (at : ℕ) (why : TreeFault) : Type 0 where
  pub tokens : List Token
  pub cut : IsTokens text tokens
  pub no_tree : (tree : SourceFile) → IsTreeOf edition text tree → ⊥
  pub within : at ≤ length text
  pub of_tree : why ≢ Recover

-- this became of the bytes of a file, in whose package this is said of import paths
abbrev pub IsReadingOf : Edition → List MeantPath → List ℕ → Reading → Type 0
IsReadingOf edition paths text (has_tree tree) = IsMeantTree edition paths text tree
IsReadingOf edition paths text (has_text_fault at why) = IsUnreadable text at why
IsReadingOf edition paths text (has_tree_fault at why) = IsUnparsed edition text at why

abbrev pub AreReadingsOf : Edition → List MeantPath → List Source → List Reading → Type 0
AreReadingsOf edition paths [] [] = Unit {0}
AreReadingsOf edition paths [] (r ∷ rs) = ⊥
AreReadingsOf edition paths (s ∷ ss) [] = ⊥
AreReadingsOf edition paths (s ∷ ss) (r ∷ rs) =
    IsReadingOf edition paths s.bytes.items r × AreReadingsOf edition paths ss rs

-- of the package of that path with these files, in which this is said of import paths, `p` is what was read in the
-- edition, and that is kept
pub record IsLoadedAs
    (edition : Edition) (path : List ℕ) (paths : List MeantPath) (sources : List Source)
    (p : LoadedPackage) (kept : KeptPackage)
    : Type 0 where
  pub tells : TellsPackage p kept
  pub is_path : p.path ≡ path
  pub is_edition : p.edition ≡ edition
  pub by_name : AreByName sources kept.sources.items
  pub are_files : AreReadingsOf edition paths kept.sources.items p.files

-- What serves the proofs

-- this became of the text, and these are its trees: one, or none
abbrev pub IsKeptWith : Edition → List ℕ → KeptReading → List File → Type 0
IsKeptWith edition text kept.Tree (tree ∷ []) = IsTreeOf edition text (file_syntax tree)
IsKeptWith edition text kept.Tree [] = ⊥
IsKeptWith edition text kept.Tree (tree ∷ next ∷ trees) = ⊥
IsKeptWith edition text (kept.NoTokens at why) [] = IsUnreadable text at why
IsKeptWith edition text (kept.NoTokens at why) (tree ∷ trees) = ⊥
IsKeptWith edition text (kept.NoTree at why) [] = IsUnparsed edition text at why
IsKeptWith edition text (kept.NoTree at why) (tree ∷ trees) = ⊥

-- what became of a file: its tree, or what it has instead
abbrev pub Parsed : Type 0
Parsed = Result File KeptReading

abbrev pub reading_of : Parsed → KeptReading
reading_of (Ok tree) = kept.Tree
reading_of (Err reading) = reading

abbrev pub trees_of : Parsed → List File
trees_of (Ok tree) = tree ∷ []
trees_of (Err reading) = []

abbrev pub IsParsed : Edition → Source → Parsed → Type 0
IsParsed edition source parsed = IsKeptWith edition source.bytes.items (reading_of parsed) (trees_of parsed)

-- the same with the imports that are meant
abbrev pub MeansImports : Meant → Parsed → Parsed → Type 0
MeansImports meant (Ok tree) (Ok other) = file_syntax other ≡ with_meant_imports meant (file_syntax tree)
MeansImports meant (Ok tree) (Err reading) = ⊥
MeansImports meant (Err reading) (Ok tree) = ⊥
MeansImports meant (Err reading) (Err other) = other ≡ reading

-- this became of the text of a file, in whose package this is said of import paths, and these are its trees
abbrev pub IsMeantWith : Edition → List MeantPath → List ℕ → KeptReading → List File → Type 0
IsMeantWith edition paths text kept.Tree (tree ∷ []) = IsMeantTree edition paths text (file_syntax tree)
IsMeantWith edition paths text kept.Tree [] = ⊥
IsMeantWith edition paths text kept.Tree (tree ∷ next ∷ trees) = ⊥
IsMeantWith edition paths text (kept.NoTokens at why) [] = IsUnreadable text at why
IsMeantWith edition paths text (kept.NoTokens at why) (tree ∷ trees) = ⊥
IsMeantWith edition paths text (kept.NoTree at why) [] = IsUnparsed edition text at why
IsMeantWith edition paths text (kept.NoTree at why) (tree ∷ trees) = ⊥

abbrev pub fault_of_form : LeftOut → TreeFault
fault_of_form form.TypeParameters = TypeParameters
fault_of_form form.Goto = Goto
fault_of_form form.Fallthrough = Fallthrough
fault_of_form form.DotImport = DotImport

-- that became of a text with this fault
abbrev pub TellsParseFault : ParseFault → KeptReading → Type 0
TellsParseFault (parse_fault.Unexpected at) reading = reading ≡ kept.NoTree at UnexpectedToken
TellsParseFault (parse_fault.LeftOut form at) reading = reading ≡ kept.NoTree at (fault_of_form form)
TellsParseFault (parse_fault.TooDeep at) reading = reading ≡ kept.NoTree at TooDeep
TellsParseFault parse_fault.OutOfMemory reading = ⊥

abbrev pub TellsLexFault : LexFault → KeptReading → Type 0
TellsLexFault fault kept.Tree = ⊥
TellsLexFault fault (kept.NoTokens at why) = IsFaultAt fault at why
TellsLexFault fault (kept.NoTree at why) = ⊥
