-- The URI of a file by its name (RFC 3986): a name that begins with a slash is below `file://`, and another is a
-- reference relative to a base. Bytes that stand for themselves are the unreserved ones and the slash. A colon is
-- escaped, so the first segment is no scheme.
use Rattle.std.specs.Prelude.{ℕ, Bool, false, ◌||◌, ◌==◌, List, [], ◌∷◌, ◌++◌, if◌then◌else◌, flat_map, codes}
use Rattle.std.specs.Char.{is_ascii_alphanumeric}
use Rattle.percent_encoding.specs.Percent.{percent_encode_byte}
use Rattle.lexer.specs.Bytes.{slash, minus, period, underscore, tilde}

-- the byte stands for itself in a path
abbrev pub is_kept : ℕ → Bool
is_kept b = is_ascii_alphanumeric b || b == minus || b == period || b == underscore || b == tilde || b == slash

-- what stands for a byte in a path
abbrev pub uri_byte : ℕ → List ℕ
uri_byte b = if is_kept b then b ∷ [] else percent_encode_byte b

abbrev pub uri_path : List ℕ → List ℕ
uri_path = flat_map uri_byte

abbrev pub is_absolute : List ℕ → Bool
is_absolute [] = false
is_absolute (b ∷ bs) = b == slash

-- what stands before the path
abbrev pub uri_scheme : List ℕ → List ℕ
uri_scheme name = if is_absolute name then codes "file://" else []

abbrev pub file_uri : List ℕ → List ℕ
file_uri name = uri_scheme name ++ uri_path name
