-- The fingerprint of a finding: `CODE/NAME/SUM`, where the sum is that of the first hundred bytes of the text from its
-- place on, without white space. So it stays where lines are moved, and where other lines change. It does not name the
-- file, and two findings may have one fingerprint, if the texts behind both are alike.
use Rattle.std.specs.Prelude.{ℕ, Bool, ◌+◌, ◌*◌, ◌%◌, ◌==◌, ◌||◌, if◌then◌else◌, List, [], ◌∷◌, ◌++◌, take, drop, decimal, codes, Option}
use Rattle.lexer.specs.Bytes.{carriage_return, line_feed, space, tab}
use Rattle.lexer.specs.declared.source.Source.{Source}
use Rattle.report.specs.Codes.{code_number}
use Rattle.report.specs.Entries.{Entry}
use Rattle.report.specs.ReportText.{bytes_of}
use Rattle.sarif.specs.declared.fingerprints.TheConstants.{FACTOR, MOST_BYTES, PRIME}

abbrev pub is_white : ℕ → Bool
is_white b = (b == space || b == tab) || (b == line_feed || b == carriage_return)

-- what a byte makes of the sum of those before it
abbrev pub next_sum : ℕ → ℕ → ℕ
next_sum sum b = if is_white b then sum else ((sum % PRIME) * FACTOR + b) % PRIME

abbrev pub sum_from : ℕ → List ℕ → ℕ
sum_from sum [] = sum
sum_from sum (b ∷ bs) = sum_from (next_sum sum b) bs

-- the sum of what stands at the offset
abbrev pub sum_at : List ℕ → ℕ → ℕ
sum_at text offset = sum_from 0 (take MOST_BYTES (drop offset text))

-- the fingerprint of what is said of a source
abbrev pub fingerprint : Option Source → Entry → List ℕ
fingerprint source said =
    code_number said.code
    ++ (codes "/" ++ (said.name ++ (codes "/" ++ decimal (sum_at (bytes_of source) said.offset))))
