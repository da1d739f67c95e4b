-- Where the name of what is said ends, if it stands at that place: the text goes on with it there, and no byte of a
-- word is behind it. A report by the second edition of the rules tells it.
use Rattle.std.specs.Prelude.{ℕ, Bool, false, ◌+◌, ◌==◌, not, ◌&&◌, List, [], ◌∷◌, length, drop, Option, Some, None, if◌then◌else◌, ◌++◌, codes}
use Rattle.function_spans.specs.Bodies.{begins_with}
use Rattle.lexer.specs.Bytes.{minus}
use Rattle.lexer.specs.declared.source.Source.{Source}
use Rattle.report.specs.Entries.{Entry}
use Rattle.report.specs.ReportText.{bytes_of}
use Rattle.report.specs.declared.codes.Wording.{Wording}
use Rattle.report.specs.declared.codes.Wording.TheVariants.{First, Second}

-- the diagnostic speaks of no name: its name is `-`
abbrev pub is_nameless : List ℕ → Bool
is_nameless (b ∷ []) = b == minus
is_nameless name = false

-- the name in a message, and a space
abbrev pub name_before : List ℕ → List ℕ
name_before name = if is_nameless name then [] else name ++ codes " "

-- the name stands at the offset
abbrev pub name_stands : (name text : List ℕ) → ℕ → Bool
name_stands name text offset = not (is_nameless name) && begins_with name (drop offset text)

-- the offset behind it
abbrev pub name_end : (name text : List ℕ) → ℕ → Option ℕ
name_end name text offset = if name_stands name text offset then Some (offset + length name) else None

-- that of what is said of a source
abbrev pub told_end : Wording → Option Source → Entry → Option ℕ
told_end First source said = None
told_end Second source said = name_end said.name (bytes_of source) said.offset
