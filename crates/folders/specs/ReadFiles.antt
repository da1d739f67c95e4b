-- Files that were read. That these are the bytes which such a file has, no contract can say: that is the system's.
use Rattle.std.specs.Prelude.{ℕ, List, codes, if◌then◌else◌}
use Rattle.std.specs.Str.{bytes_eq}
use Rattle.folders.specs.declared.whole_files.ReadFile.{ReadFile}

-- the name of the file, and all its bytes
abbrev pub name_read : ReadFile → List ℕ
name_read file = file.name.now

abbrev pub bytes_read : ReadFile → List ℕ
bytes_read file = file.bytes.items

-- how the line of a fault names a file of this name, or the standard input, for which `-` stands
abbrev pub input_name : List ℕ → List ℕ
input_name name = if bytes_eq name (codes "-") then codes "standard input" else name
