-- The examples of cut texts, by computing.
use Rattle.std.proofs.Common.{refl}
use Rattle.package_list.specs.CutExamples.{CutExamples}

pub cuts_shown : CutExamples
cuts_shown = record {
  none = refl;
  touching = refl;
  with_blanks = refl;
  nested = refl;
  brace_in_string = refl;
  quote_in_string = refl;
  taken_backslash = refl;
  comma_between = refl;
  closed_twice = refl;
  cut_off = refl;
}
