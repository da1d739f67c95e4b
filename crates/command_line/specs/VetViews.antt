-- What the program keeps of a call of the go command, as what it says.
use Rattle.std.specs.Prelude.{ℕ, List, option_map}
use Rattle.command_line.specs.VetWords.{Flags, Told, VetCall, asks_flags, asks_version, asks_unit, has_wrong}
use Rattle.command_line.specs.declared.vet_flags.VetFlag.{VetFlag}
use Rattle.command_line.specs.declared.vet_told.UnitFlags.{UnitFlags}
use Rattle.command_line.specs.declared.vet_told.ToldFlags.{ToldFlags}
use Rattle.command_line.specs.declared.vet_told.WrongValue.{WrongValue}
use Rattle.command_line.specs.declared.vet_asked.VetAsked.{VetAsked}
use Rattle.command_line.specs.declared.vet_asked.VetAsked.TheVariants.{Flags as AsksFlags, Version, Unit, Wrong}

abbrev pub flags_of : UnitFlags → Flags
flags_of flags = record {
  edition = flags.edition;
  facts = option_map (λ name. name.now) flags.facts;
  baseline = option_map (λ name. name.now) flags.baseline;
  lines = flags.lines;
  is_json = flags.is_json;
  with_tests = flags.with_tests;
  with_reasons = flags.with_reasons;
  accepted = flags.accepted;
  quiet = flags.quiet;
  tells_keeping = flags.tells_keeping;
  without_library = flags.without_library;
}

abbrev pub wrong_of : WrongValue → VetFlag × List ℕ
wrong_of wrong = (wrong.flag, wrong.value.now)

abbrev pub told_of : ToldFlags → Told
told_of told = record { flags = flags_of told.flags; wrong = option_map wrong_of told.wrong }

abbrev pub call_of : VetAsked → VetCall
call_of AsksFlags = asks_flags
call_of Version = asks_version
call_of (Unit flags file) = asks_unit (flags_of flags) file.now
call_of (Wrong wrong file) = has_wrong wrong.flag wrong.value.now file.now
