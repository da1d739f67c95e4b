-- Digests of what was read, as a line or a text has them: by SHA-256 (FIPS 180-4), in hexadecimal digits.
use Rattle.std.specs.Prelude.{ℕ, Bool, true, false, List, [], ◌++◌, Option, Some, None}
use Rattle.hex.specs.Hex.{encode_lower}
use Rattle.sha2.specs.Sha256.{sha256}
use Rattle.folders.specs.ReadFiles.{bytes_read}
use Rattle.folders.specs.declared.whole_files.ReadFile.{ReadFile}
use Rattle.library_facts.specs.LibraryText.{library_text}

abbrev pub digest_text : List ℕ → List ℕ
digest_text bytes = encode_lower (sha256 bytes)

-- the digest of the file, or nothing, where none was read
abbrev pub digest_in : Option ReadFile → List ℕ
digest_in None = []
digest_in (Some file) = digest_text (bytes_read file)

abbrev pub bytes_in : Option ReadFile → List ℕ
bytes_in None = []
bytes_in (Some file) = bytes_read file

-- the digest of the facts beside which a unit is judged: of what is known of Go's library too, where it is known
abbrev pub facts_digest : (knows_library : Bool) → Option ReadFile → List ℕ
facts_digest false file = digest_in file
facts_digest true file = digest_text (library_text ++ bytes_in file)
