-- How a report is told: as words ask for it, in the wording of the edition by which packages are judged, and of those
-- that were asked for alone.
use Rattle.std.specs.Prelude.{◌≡◌, Bool, List, String}
use Rattle.std.specs.declared.alloc.Global.{Global}
use Rattle.accepting.specs.declared.telling.Telling.{Telling}
use Rattle.baseline_json.specs.declared.baseline.BaselineFinding.{BaselineFinding}
use Rattle.command_line.specs.declared.words.ReportWords.{ReportWords}
use Rattle.command_line.specs.declared.words.Sources.{Sources}
use Rattle.report.specs.declared.codes.Wording.{Wording}
use Rattle.report.specs.declared.codes.Wording.TheVariants as wording
use Rattle.tree.specs.declared.edition.Edition.{Edition}
use Rattle.tree.specs.declared.edition.Edition.TheVariants.{First, Second}
use Rattle.inputs.specs.Editions.{edition_of_run}
use Rattle.inputs.specs.declared.input.FilesRead.{FilesRead}

abbrev pub wording_of : Edition → Wording
wording_of First = wording.First
wording_of Second = wording.Second

-- In the form that is asked for, with accepted findings and without what is said of packages without findings where
-- that is asked for. Lines that accept nothing are told by a check alone; these findings of an earlier run are
-- accepted; and of packages of these paths nothing is told.
pub record IsTellingOf
    (edition : Edition) (words : ReportWords) (is_check : Bool) (known : List BaselineFinding)
    (unasked : List (String Global)) (telling : Telling)
    : Type 0 where
  pub is_format : telling.format ≡ words.format
  pub is_wording : telling.wording ≡ wording_of edition
  pub tells_accepted : telling.tells_accepted ≡ words.accepted
  pub tells_stale : telling.tells_stale ≡ is_check
  pub is_quiet : telling.is_quiet ≡ words.quiet
  pub is_known : telling.baseline.now ≡ known
  pub are_unasked : telling.unasked.now ≡ unasked

-- It is told as these words ask for it, with the findings of an earlier run that were read. Nothing is told of packages
-- that stand in the list that was read, but were not asked for there.
abbrev pub IsToldSo : Sources → ReportWords → FilesRead → (is_check : Bool) → Telling → Type 0
IsToldSo sources words files is_check =
    IsTellingOf (edition_of_run sources) words is_check files.baseline.findings.items files.list.unasked.items
