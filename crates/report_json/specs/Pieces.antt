-- How a report as JSON ends, and where its findings stand.
use Rattle.std.specs.Prelude.{◌≡◌, ℕ, Option, List, ◌++◌, true, codes}
use Rattle.lexer.specs.declared.source.Source.{Source}
use Rattle.report.specs.Entries.{Entry}
use Rattle.report.specs.declared.codes.Wording.{Wording}
use Rattle.format_parts.specs.Pieces.{members_listed, IsBytePlace}
use Rattle.format_parts.specs.declared.ends.Region.{Region}
use Rattle.report_json.specs.JsonText.{byte_end, version_members}

-- what stands behind the packages of a report as JSON
abbrev pub json_end : Wording → List ℕ
json_end wording = codes "]" ++ (members_listed true (version_members wording) ++ codes "}\n")

-- the place of what is said of a source, and where its name ends, with columns in bytes
pub record IsByteRegion (wording : Wording) (source : Option Source) (said : Entry) (region : Region) : Type 0 where
  pub start : IsBytePlace source said.offset region.start
  pub end : region.end ≡ byte_end wording source said
