-- Files that were written. That a file then has the text which it was given, no contract can say: that is the system's.
use Rattle.std.specs.Prelude.{◌≡◌, ℕ, List, String, string_bytes}
use Rattle.std.specs.declared.alloc.Global.{Global}
use Rattle.folders.specs.declared.whole_files.Reach.{Reach}
use Rattle.folders.specs.declared.whole_files.UnwrittenFile.{UnwrittenFile}
use Rattle.folders.specs.declared.whole_files.WrittenFile.{WrittenFile}

-- the name of the file, all that it was given, and how far it was brought
abbrev pub name_of : WrittenFile → List ℕ
name_of written = written.name.now

abbrev pub text_of : WrittenFile → List ℕ
text_of written = string_bytes written.text

abbrev pub reach_of : WrittenFile → Reach
reach_of written = written.reach

-- the file that was to be written was given this text
pub record HoldsAll (file : UnwrittenFile) (text : String Global) (written : WrittenFile) : Type 0 where
  pub is_file : name_of written ≡ file.name.now
  pub is_text : written.text ≡ text
