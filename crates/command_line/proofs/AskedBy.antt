-- What a command with words behind it asks for, by what is kept of these.
use Rattle.std.proofs.Common.{◌≡◌, ℕ, List, ◌∷◌, codes, refl, ap, ◌∙◌}
use Rattle.command_line.specs.Words.{named_by, IsAsked, IsCommand}
use Rattle.command_line.specs.KeptWords.{named_of, AreKept, IsAskedBy}
use Rattle.command_line.specs.declared.kept.Kept.{Kept}
use Rattle.command_line.specs.declared.words.Asked.{Asked}
use Rattle.command_line.specs.declared.words.Asked.TheVariants.{Check, Explain, Certify, Verify, Help, Wrong}

module _ (words rest : List (List ℕ)) (command : List ℕ) (kept : Kept) (is : words ≡ command ∷ rest)
    (are : AreKept rest kept) where
  -- what is kept is what the words behind the command name
  are_named : named_of kept ≡ named_by rest
  are_named = rw (
    are.files,
    are.facts,
    are.baselines,
    are.lists,
    are.formats,
    are.editions,
    are.numbers,
    are.whys,
    are.accepted,
    are.quiet,
    are.without_library,
    are.packages,
  ) refl

  is_command : (meant : List ℕ) → command ≡ meant → IsCommand meant words (named_of kept)
  is_command meant is_meant = record {
    rest = rest;
    is_command = is ∙ ap (λ c. c ∷ rest) is_meant;
    is_named = are_named;
  }

  pub is_asked : (asked : Asked) → IsAskedBy command (named_of kept) asked → IsAsked words asked
  is_asked (Check asked) by = record {
    named = named_of kept;
    is_command = is_command (codes "check") by.0;
    no_file = by.1;
    no_why = by.2;
    are_sources = by.3.0;
    is_report = by.3.1;
    are_workers = by.3.2;
  }
  is_asked (Explain asked) by = record {
    named = named_of kept;
    is_command = is_command (codes "check") by.0;
    no_file = by.1;
    one_why = by.2;
    are_sources = by.3.0;
    is_report = by.3.1;
    are_workers = by.3.2;
  }
  is_asked (Certify asked) by = record {
    named = named_of kept;
    is_command = is_command (codes "check") by.0;
    is_file = by.1;
    no_why = by.2;
    are_sources = by.3;
    is_report = by.4;
    are_workers = by.5;
  }
  is_asked (Verify asked) by = record {
    named = named_of kept;
    is_command = is_command (codes "verify") by.0;
    is_file = by.1;
    no_why = by.2;
    are_sources = by.3;
    is_report = by.4;
    no_number = by.5;
    no_baseline = by.6;
  }
  is_asked (Help text) by = absurd by
  is_asked (Wrong text) by = tt
