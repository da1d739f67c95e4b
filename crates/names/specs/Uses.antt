-- What a use means, by the maps of its file and its package.
use Rattle.std.specs.Prelude.{ℕ, ◌≡◌, Bool, if◌then◌else◌, Option, Some, None, option_map, List}
use Rattle.std.specs.Borrow.{Bor}
use Rattle.indexmap.specs.IndexMap.{IndexMap}
use Rattle.scopes.specs.declared.naming.LocalName.{LocalName as KeptLocal}
use Rattle.names.specs.Ordered.{AreFirst}
use Rattle.tree.specs.Syntax.{SourceFile}
use Rattle.meaning.specs.Scopes.{LocalName, Naming, uses_name, declares_name, file_names}
use Rattle.meaning.specs.Declarations.{Meaning, function_name, package_name, universe_name, local_or_around, import_or_around, Use, uses_of, use_at, is_assigned, locals_of, local_meant}
use Rattle.meaning.specs.OuterBlocks.{specs_of, import_meant, PackageNames}

-- what the package block says of a name: whether it is that of a function
abbrev pub from_package : Option Bool → Meaning
from_package None = universe_name
from_package (Some is_function) = if is_function then function_name else package_name

abbrev pub use_of : List ℕ → ℕ → Use
use_of name at = record { name = name; at = at }

-- the use of a naming, given all locals
abbrev pub use_view : List LocalName → Naming → Option Use
use_view locals (uses_name name at) = Some (use_of name at)
use_view locals (declares_name l) = if is_assigned locals l then Some (use_of l.name l.number) else None

-- the use of a naming, by the locals that count
abbrev pub IsUseOf :
    {S : Type 0} → IndexMap (Bor (List ℕ) × ℕ) KeptLocal S → Naming → Option (Bor (List ℕ) × ℕ) → Type 0
IsUseOf firsts naming found =
    (all : List LocalName) → AreFirst firsts all → option_map (λ u. use_of u.0.now u.1) found ≡ use_view all naming

-- what a use in the file means, by what its package declares
abbrev pub meant : (List ℕ → Option Bool) → PackageNames → SourceFile → Use → Meaning
meant block packages file u =
    local_or_around (local_meant (locals_of (file_names file)) u.name u.at)
    (import_or_around (import_meant packages (specs_of file.imports) u.name) (from_package (block u.name)))

abbrev pub meant_at : (List ℕ → Option Bool) → PackageNames → SourceFile → ℕ → Option Meaning
meant_at block packages file at =
    option_map (meant block packages file) (use_at at (uses_of (file_names file)))
