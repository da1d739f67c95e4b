-- What the words of the command line, those after the program's name, ask for.
-- (The documentation of clap: `-h`, `--help`, `help`, `-V` and `--version` ask for help or the version; the value of an
-- option is the word after it, or stands in its own word behind `=`; and behind `--` no word is an option.)
use Rattle.std.specs.Prelude.{◌≡◌, ◌⊎◌, ⊤, ℕ, if◌then◌else◌, nat_eq, List, [], ◌∷◌, Bool, true, false, Option, Some, None, is_some, Contains, codes, drop, length, map, option_map}
use Rattle.std.specs.Borrow.{Bor}
use Rattle.std.specs.List.{starts_with}
use Rattle.std.specs.Str.{bytes_eq}
use Rattle.std.specs.Str.Parse.{digits_value, without_leading_plus, IsNumeral}
use Rattle.report.specs.declared.format.Format.{Format}
use Rattle.report.specs.declared.format.Format.TheVariants.{Text, Json, Sarif}
use Rattle.tree.specs.declared.edition.Edition.{Edition}
use Rattle.tree.specs.declared.edition.Edition.TheVariants.{First, Second}
use Rattle.workers.specs.Counts.{count_of}
use Rattle.command_line.specs.declared.options.ValueOption.{ValueOption}
use Rattle.command_line.specs.declared.options.ValueOption.TheVariants.{Certificates, Facts, Baseline, PackageList, ReportFormat, EditionNumber, WorkerCount}
use Rattle.command_line.specs.declared.options.Switch.{Switch}
use Rattle.command_line.specs.declared.options.Switch.TheVariants.{Reasons, Accepted, Quiet, WithoutLibrary}
use Rattle.command_line.specs.declared.words.Asked.{Asked}
use Rattle.command_line.specs.declared.words.Asked.TheVariants.{Check, Explain, Certify, Verify, Help, Wrong}
use Rattle.command_line.specs.declared.words.CheckWords.{CheckWords}
use Rattle.command_line.specs.declared.words.CertifyWords.{CertifyWords}
use Rattle.command_line.specs.declared.words.ReportWords.{ReportWords}
use Rattle.command_line.specs.declared.words.Sources.{Sources}
use Rattle.command_line.specs.declared.words.VerifyWords.{VerifyWords}

-- one of the words asks for help or the version
abbrev pub AsksForHelp : List (List ℕ) → Type 0
AsksForHelp words = Contains words (codes "-h") ⊎ Contains words (codes "--help") ⊎ Contains words (codes "help")
    ⊎ Contains words (codes "-V") ⊎ Contains words (codes "--version")

-- the option that this word is, whose value is the word after it
abbrev pub option_of : List ℕ → Option ValueOption
option_of word =
    if bytes_eq word (codes "--cert") then Some Certificates
    else if bytes_eq word (codes "--facts") then Some Facts
    else if bytes_eq word (codes "--baseline") then Some Baseline
    else if bytes_eq word (codes "--packages") then Some PackageList
    else if bytes_eq word (codes "--format") then Some ReportFormat
    else if bytes_eq word (codes "--edition") then Some EditionNumber
    else if bytes_eq word (codes "-j") then Some WorkerCount
    else None

-- what stands in a word behind these bytes, with which it begins
abbrev pub behind : List ℕ → List ℕ → List ℕ
behind start word = drop (length start) word

-- the number that stands in a word behind `-j`, or behind `-j=`
abbrev pub number_in : List ℕ → Option (List ℕ)
number_in word =
    if starts_with nat_eq word (codes "-j=") then Some (behind (codes "-j=") word)
    else if starts_with nat_eq word (codes "-j") then Some (behind (codes "-j") word)
    else None

-- the number of an edition or of workers that stands in a word with its option
abbrev pub number_option_in : List ℕ → Option (ValueOption × List ℕ)
number_option_in word =
    if starts_with nat_eq word (codes "--edition=") then Some (EditionNumber, behind (codes "--edition=") word)
    else option_map (λ number. (WorkerCount, number)) (number_in word)

-- a list of packages, a format or a number that stands in a word with its option
abbrev pub run_option_in : List ℕ → Option (ValueOption × List ℕ)
run_option_in word =
    if starts_with nat_eq word (codes "--packages=") then Some (PackageList, behind (codes "--packages=") word)
    else if starts_with nat_eq word (codes "--format=") then Some (ReportFormat, behind (codes "--format=") word)
    else number_option_in word

-- an earlier report, a list of packages, a format or a number that stands in a word with its option
abbrev pub baseline_option_in : List ℕ → Option (ValueOption × List ℕ)
baseline_option_in word =
    if starts_with nat_eq word (codes "--baseline=") then Some (Baseline, behind (codes "--baseline=") word)
    else run_option_in word

-- the option that this word has with its value in itself, and that value
abbrev pub option_in : List ℕ → Option (ValueOption × List ℕ)
option_in word =
    if starts_with nat_eq word (codes "--cert=") then Some (Certificates, behind (codes "--cert=") word)
    else if starts_with nat_eq word (codes "--facts=") then Some (Facts, behind (codes "--facts=") word)
    else baseline_option_in word

-- the option without a value that this word is: the report tells why each finding stands there, accepted findings are
-- told too, lines of packages without findings are left out, or what is known of Go's library is
abbrev pub switch_of : List ℕ → Option Switch
switch_of word =
    if bytes_eq word (codes "--why") then Some Reasons
    else if bytes_eq word (codes "--accepted") then Some Accepted
    else if bytes_eq word (codes "--quiet") then Some Quiet
    else if bytes_eq word (codes "--no-std-facts") then Some WithoutLibrary
    else None

-- what words behind a command name: files of certificates by `--cert`, files of declared facts by `--facts`, earlier
-- reports by `--baseline`, lists of packages by `--packages`, formats by `--format`, editions by `--edition`, numbers
-- by `-j`, the words `--why`, `--accepted`, `--quiet` and `--no-std-facts`, and packages
pub record Named : Type 0 where
  pub files : List (List ℕ)
  pub facts : List (List ℕ)
  pub baselines : List (List ℕ)
  pub lists : List (List ℕ)
  pub formats : List (List ℕ)
  pub editions : List (List ℕ)
  pub numbers : List (List ℕ)
  pub whys : List (List ℕ)
  pub accepted : List (List ℕ)
  pub quiet : List (List ℕ)
  pub without_library : List (List ℕ)
  pub packages : List (List ℕ)

abbrev pub only_packages : List (List ℕ) → Named
only_packages words = record {
  files = [];
  facts = [];
  baselines = [];
  lists = [];
  formats = [];
  editions = [];
  numbers = [];
  whys = [];
  accepted = [];
  quiet = [];
  without_library = [];
  packages = words;
}

-- and this value of the option, before the others
abbrev pub with_value : ValueOption → List ℕ → Named → Named
with_value Certificates file named = record named { files = file ∷ named.files }
with_value Facts file named = record named { facts = file ∷ named.facts }
with_value Baseline file named = record named { baselines = file ∷ named.baselines }
with_value PackageList file named = record named { lists = file ∷ named.lists }
with_value ReportFormat format named = record named { formats = format ∷ named.formats }
with_value EditionNumber number named = record named { editions = number ∷ named.editions }
with_value WorkerCount number named = record named { numbers = number ∷ named.numbers }

-- and this word, which is the option
abbrev pub with_switch : Switch → List ℕ → Named → Named
with_switch Reasons word named = record named { whys = word ∷ named.whys }
with_switch Accepted word named = record named { accepted = word ∷ named.accepted }
with_switch Quiet word named = record named { quiet = word ∷ named.quiet }
with_switch WithoutLibrary word named = record named { without_library = word ∷ named.without_library }

abbrev pub with_package : List ℕ → Named → Named
with_package word named = record named { packages = word ∷ named.packages }

-- a word that is no option alone has one with its value, or else is that of a package
abbrev pub with_held : Option (ValueOption × List ℕ) → List ℕ → Named → Named
with_held (Some held) word named = with_value held.0 held.1 named
with_held None word named = with_package word named

-- a word that awaits no value is an option without one, or else one of those
abbrev pub with_word : Option Switch → List ℕ → Named → Named
with_word (Some switch) word named = with_switch switch word named
with_word None word named = with_held (option_in word) word named

-- What these words name, one after the other. The first of them may be the value of an option that stands before it.
-- Behind the first `--` each is the word of a package.
abbrev pub named_after : Option ValueOption → List (List ℕ) → Named
named_after awaited [] = only_packages []
named_after (Some option) (w ∷ ws) = with_value option w (named_after None ws)
named_after None (w ∷ ws) =
    if bytes_eq w (codes "--") then only_packages ws
    else if is_some (option_of w) then named_after (option_of w) ws
    else with_word (switch_of w) w (named_after None ws)

abbrev pub named_by : List (List ℕ) → Named
named_by = named_after None

-- the words are this command, and those behind it name this
pub record IsCommand (command : List ℕ) (words : List (List ℕ)) (named : Named) : Type 0 where
  pub rest : List (List ℕ)
  pub is_command : words ≡ command ∷ rest
  pub is_named : named ≡ named_by rest

-- the text is the number as Rust reads one: decimal digits, before which a `+` may stand
abbrev pub IsNumber : List ℕ → ℕ → Type 0
IsNumber text n = IsNumeral 10 (without_leading_plus text) × (n ≡ digits_value 10 (without_leading_plus text))

-- so many workers are asked for by these numbers: one where there is none, and two numbers ask for nothing
abbrev pub AreWorkers : List (List ℕ) → ℕ → Type 0
AreWorkers [] n = n ≡ 1
AreWorkers (number ∷ []) n = IsNumber number n
AreWorkers (number ∷ another ∷ more) n = ⊥

abbrev pub format_text : Format → List ℕ
format_text Text = codes "text"
format_text Json = codes "json"
format_text Sarif = codes "sarif"

-- this format is asked for by these words: that of a text where there is none, and two words ask for nothing
abbrev pub AreFormat : List (List ℕ) → Format → Type 0
AreFormat [] format = format ≡ Text
AreFormat (word ∷ []) format = word ≡ format_text format
AreFormat (word ∷ another ∷ more) format = ⊥

-- whether an option without a value is asked for by these words: it is not where there is none, and two ask for nothing
abbrev pub AreSwitch : List (List ℕ) → Bool → Type 0
AreSwitch [] is = is ≡ false
AreSwitch (word ∷ []) is = is ≡ true
AreSwitch (word ∷ another ∷ more) is = ⊥

abbrev pub edition_number : Edition → ℕ
edition_number First = 1
edition_number Second = 2

-- this edition is asked for by these numbers: none where there is none, and two numbers ask for nothing
abbrev pub AreEdition : List (List ℕ) → Option Edition → Type 0
AreEdition [] None = ⊤
AreEdition [] (Some edition) = ⊥
AreEdition (number ∷ []) None = ⊥
AreEdition (number ∷ []) (Some edition) = IsNumber number (edition_number edition)
AreEdition (number ∷ another ∷ more) edition = ⊥

abbrev pub texts_of : List (Bor (List ℕ)) → List (List ℕ)
texts_of = map (λ t. t.now)

-- the text, if there is one
abbrev pub option_texts : Option (Bor (List ℕ)) → List (List ℕ)
option_texts None = []
option_texts (Some t) = t.now ∷ []

-- what is read for a report is what is named: at most one file of declared facts, at most one earlier report, at most
-- one list, the packages, and at most one edition, by which all of these are judged; and without what is known of Go's
-- library where `--no-std-facts` stands there
pub record AreSources (named : Named) (sources : Sources) : Type 0 where
  pub are_facts : named.facts ≡ option_texts sources.facts
  pub is_baseline : named.baselines ≡ option_texts sources.baseline
  pub is_list : named.lists ≡ option_texts sources.list
  pub is_edition : AreEdition named.editions sources.edition
  pub is_without_library : AreSwitch named.without_library sources.without_library
  pub are_packages : named.packages ≡ texts_of sources.packages.items

-- how a report is told is what is named: in at most one format; with accepted findings where `--accepted` stands there,
-- and without the lines of packages that have no findings where `--quiet` does
pub record AreReport (named : Named) (report : ReportWords) : Type 0 where
  pub is_format : AreFormat named.formats report.format
  pub is_accepted : AreSwitch named.accepted report.accepted
  pub is_quiet : AreSwitch named.quiet report.quiet

-- `check` without a file of certificates, and without `--why`
pub record AsksForCheck (words : List (List ℕ)) (asked : CheckWords) : Type 0 where
  pub named : Named
  pub is_command : IsCommand (codes "check") words named
  pub no_file : named.files ≡ []
  pub no_why : named.whys ≡ []
  pub are_sources : AreSources named asked.sources
  pub is_report : AreReport named asked.report
  pub are_workers : AreWorkers named.numbers (count_of asked.workers)

-- `check` with `--why`, which stands there once, and without a file of certificates
pub record AsksForExplanation (words : List (List ℕ)) (asked : CheckWords) : Type 0 where
  pub named : Named
  pub is_command : IsCommand (codes "check") words named
  pub no_file : named.files ≡ []
  pub one_why : length named.whys ≡ 1
  pub are_sources : AreSources named asked.sources
  pub is_report : AreReport named asked.report
  pub are_workers : AreWorkers named.numbers (count_of asked.workers)

-- `check` with a file for certificates
pub record AsksForCertificates (words : List (List ℕ)) (asked : CertifyWords) : Type 0 where
  pub named : Named
  pub is_command : IsCommand (codes "check") words named
  pub is_file : named.files ≡ asked.file.now ∷ []
  pub no_why : named.whys ≡ []
  pub are_sources : AreSources named asked.sources
  pub is_report : AreReport named asked.report
  pub are_workers : AreWorkers named.numbers (count_of asked.workers)

-- `verify` with a file that has certificates; it says nothing of workers, and nothing of an earlier report
pub record AsksForVerification (words : List (List ℕ)) (asked : VerifyWords) : Type 0 where
  pub named : Named
  pub is_command : IsCommand (codes "verify") words named
  pub is_file : named.files ≡ asked.file.now ∷ []
  pub no_why : named.whys ≡ []
  pub are_sources : AreSources named asked.sources
  pub is_report : AreReport named asked.report
  pub no_number : named.numbers ≡ []
  pub no_baseline : named.baselines ≡ []

-- Help is given where a word asks for it. Words may be wrong for any reason.
abbrev pub IsAsked : List (List ℕ) → Asked → Type 0
IsAsked words (Check asked) = AsksForCheck words asked
IsAsked words (Explain asked) = AsksForExplanation words asked
IsAsked words (Certify asked) = AsksForCertificates words asked
IsAsked words (Verify asked) = AsksForVerification words asked
IsAsked words (Help text) = AsksForHelp words
IsAsked words (Wrong text) = ⊤
