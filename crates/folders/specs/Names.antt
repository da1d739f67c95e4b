-- Names that a line of the report can hold. A name with a control code, as a newline, could forge a line.
-- (ASCII's control codes: those below the space, and delete. Control codes above ASCII end no line.)
use Rattle.std.specs.Prelude.{◌≡◌, ◌≢◌, ℕ, ◌≤◌, List, All}
use Rattle.lexer.specs.Bytes.{space}

abbrev pub delete : ℕ
delete = 127

-- no byte of the name is a control code
abbrev pub IsPrintable : List ℕ → Type 0
IsPrintable name = All (λ b. (space ≤ b) × (b ≢ delete)) name

-- a name as the line of a fault has it, where control codes are escaped
abbrev pub IsNameIn : List ℕ → List ℕ → Type 0
IsNameIn name text = IsPrintable name → text ≡ name
