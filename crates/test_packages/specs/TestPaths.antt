-- Paths as the go command writes them. Behind the import path of a package that is built for the tests of `p` it adds
-- ` [p.test]` (`go help list`, `-test`). No import path has a space.
use Rattle.std.specs.Prelude.{◌==◌, ◌++◌, ℕ, Bool, List, if◌then◌else◌, nat_eq, codes}
use Rattle.std.specs.List.{before_first, ends_with}
use Rattle.std.specs.Str.{bytes_eq}
use Rattle.lexer.specs.Bytes.{space}

abbrev pub is_space : ℕ → Bool
is_space b = b == space

-- the import path in such a path
abbrev pub without_suffix : List ℕ → List ℕ
without_suffix path = if ends_with nat_eq path (codes "]") then before_first is_space path else path

-- the package of this import path, built with its own tests
abbrev pub with_own_tests : List ℕ → List ℕ
with_own_tests own = ((own ++ codes " [") ++ own) ++ codes ".test]"

abbrev pub is_of_own_tests : List ℕ → Bool
is_of_own_tests path = bytes_eq (with_own_tests (without_suffix path)) path
