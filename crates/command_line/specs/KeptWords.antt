-- What is kept of the words behind a command, and what the command then asks for.
use Rattle.std.specs.Prelude.{◌≡◌, ⊤, ℕ, List, [], ◌∷◌, ◌++◌, Bool, false, codes, length, Option, Some, None}
use Rattle.std.specs.Str.{bytes_eq}
use Rattle.workers.specs.Counts.{count_of}
use Rattle.command_line.specs.Words.{named_by, option_texts, texts_of, AreReport, AreSources, AreWorkers, Named}
use Rattle.command_line.specs.declared.kept.Kept.{Kept}
use Rattle.command_line.specs.declared.options.ValueOption.{ValueOption}
use Rattle.command_line.specs.declared.words.Asked.{Asked}
use Rattle.command_line.specs.declared.words.CheckWords.{CheckWords}
use Rattle.command_line.specs.declared.words.Asked.TheVariants.{Check, Explain, Certify, Verify, Help, Wrong}

-- what is named by the words that are kept
abbrev pub named_of : Kept → Named
named_of kept = record {
  files = texts_of kept.files.items;
  facts = texts_of kept.facts.items;
  baselines = texts_of kept.baselines.items;
  lists = texts_of kept.lists.items;
  formats = texts_of kept.formats.items;
  editions = texts_of kept.editions.items;
  numbers = texts_of kept.numbers.items;
  whys = texts_of kept.whys.items;
  accepted = texts_of kept.accepted.items;
  quiet = texts_of kept.quiet.items;
  without_library = texts_of kept.without_library.items;
  packages = texts_of kept.packages.items;
}

-- these are the values and the packages that the words name
pub record AreKept (words : List (List ℕ)) (kept : Kept) : Type 0 where
  pub files : texts_of kept.files.items ≡ (named_by words).files
  pub facts : texts_of kept.facts.items ≡ (named_by words).facts
  pub baselines : texts_of kept.baselines.items ≡ (named_by words).baselines
  pub lists : texts_of kept.lists.items ≡ (named_by words).lists
  pub formats : texts_of kept.formats.items ≡ (named_by words).formats
  pub editions : texts_of kept.editions.items ≡ (named_by words).editions
  pub numbers : texts_of kept.numbers.items ≡ (named_by words).numbers
  pub whys : texts_of kept.whys.items ≡ (named_by words).whys
  pub accepted : texts_of kept.accepted.items ≡ (named_by words).accepted
  pub quiet : texts_of kept.quiet.items ≡ (named_by words).quiet
  pub without_library : texts_of kept.without_library.items ≡ (named_by words).without_library
  pub packages : texts_of kept.packages.items ≡ (named_by words).packages

-- behind this word no word is an option; the value of an option is no such word
abbrev pub ends_options : Option ValueOption → List ℕ → Bool
ends_options None word = bytes_eq word (codes "--")
ends_options (Some option) word = false

-- what is kept, with what is left, is all
pub record IsKeptSo (kept : Kept) (left all : Named) : Type 0 where
  pub files : texts_of kept.files.items ++ left.files ≡ all.files
  pub facts : texts_of kept.facts.items ++ left.facts ≡ all.facts
  pub baselines : texts_of kept.baselines.items ++ left.baselines ≡ all.baselines
  pub lists : texts_of kept.lists.items ++ left.lists ≡ all.lists
  pub formats : texts_of kept.formats.items ++ left.formats ≡ all.formats
  pub editions : texts_of kept.editions.items ++ left.editions ≡ all.editions
  pub numbers : texts_of kept.numbers.items ++ left.numbers ≡ all.numbers
  pub whys : texts_of kept.whys.items ++ left.whys ≡ all.whys
  pub accepted : texts_of kept.accepted.items ++ left.accepted ≡ all.accepted
  pub quiet : texts_of kept.quiet.items ++ left.quiet ≡ all.quiet
  pub without_library : texts_of kept.without_library.items ++ left.without_library ≡ all.without_library
  pub packages : texts_of kept.packages.items ++ left.packages ≡ all.packages

-- what `check` asks for in each of its forms
abbrev pub AreCheckWords : Named → CheckWords → Type 0
AreCheckWords named asked =
    AreSources named asked.sources
    × AreReport named asked.report
    × AreWorkers named.numbers (count_of asked.workers)

-- what a command, with words behind it that name this, asks for
abbrev pub IsAskedBy : List ℕ → Named → Asked → Type 0
IsAskedBy command named (Check asked) =
    (command ≡ codes "check")
    × (named.files ≡ [])
    × (named.whys ≡ [])
    × AreCheckWords named asked
IsAskedBy command named (Explain asked) =
    (command ≡ codes "check")
    × (named.files ≡ [])
    × (length named.whys ≡ 1)
    × AreCheckWords named asked
IsAskedBy command named (Certify asked) =
    (command ≡ codes "check")
    × (named.files ≡ asked.file.now ∷ [])
    × (named.whys ≡ [])
    × AreSources named asked.sources
    × AreReport named asked.report
    × AreWorkers named.numbers (count_of asked.workers)
IsAskedBy command named (Verify asked) =
    (command ≡ codes "verify")
    × (named.files ≡ asked.file.now ∷ [])
    × (named.whys ≡ [])
    × AreSources named asked.sources
    × AreReport named asked.report
    × (named.numbers ≡ [])
    × (named.baselines ≡ [])
IsAskedBy command named (Help text) = ⊥
IsAskedBy command named (Wrong text) = ⊤
