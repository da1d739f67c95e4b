-- Which declaration a use means: the innermost one of its name whose scope covers the use. First come the blocks of
-- functions, by Scopes; around them the file block and the package block, by OuterBlocks; and around those the
-- universe, which has whatever is declared nowhere. Of two declarations of a name in one block the first counts.
-- (The Go specification, "Declarations and scope", "Short variable declarations".)
use Rattle.std.specs.Prelude.{ℕ, ◌==◌, Bool, false, ◌&&◌, ◌||◌, if◌then◌else◌, List, [], ◌∷◌, Option, Some, None, option_map, slice_get, nat_le, nat_lt}
use Rattle.std.specs.Str.{bytes_eq}
use Rattle.tree.specs.declared.operator.DeclKeyword.{DeclKeyword}
use Rattle.tree.specs.Syntax.{SourceFile}
use Rattle.meaning.specs.Scopes.{LocalName, Naming, uses_name, declares_name, file_names}
use Rattle.meaning.specs.OuterBlocks.{PackageNames, PackageLevel, specs_of, import_meant, package_block, package_meant}

-- what a use means
pub data Meaning : Type 0 where
  -- a local, with its number and what it is
  local_name : ℕ → DeclKeyword → Meaning
  -- an import, with its path
  import_name : List ℕ → Meaning
  -- a function of the package
  function_name : Meaning
  -- a constant, variable or type of the package
  package_name : Meaning
  universe_name : Meaning

-- Locals

abbrev pub locals_of : List Naming → List LocalName
locals_of [] = []
locals_of (uses_name name at ∷ ns) = locals_of ns
locals_of (declares_name l ∷ ns) = l ∷ locals_of ns

-- declarations of one name in one block
abbrev pub same_name_and_block : LocalName → LocalName → Bool
same_name_and_block l m = bytes_eq l.name m.name && (l.block.start == m.block.start)

abbrev pub without : LocalName → List LocalName → List LocalName
without l [] = []
without l (m ∷ ms) = if same_name_and_block l m then without l ms else m ∷ without l ms

-- those that count: the first of each name in its block
unfoldable pub first_locals : List LocalName → List LocalName
first_locals [] = []
first_locals (l ∷ ls) = l ∷ without l (first_locals ls)

-- the offset lies in the scope of the declaration
abbrev pub covers : LocalName → ℕ → Bool
covers l at = nat_le l.block.start at && (nat_le l.from at && nat_lt at l.block.end)

-- of two declarations the one in the inner block
abbrev pub inner_of : LocalName → Option LocalName → LocalName
inner_of l None = l
inner_of l (Some m) = if nat_le l.block.start m.block.start then m else l

-- the innermost declaration of the name that covers the offset
unfoldable pub innermost : List ℕ → ℕ → List LocalName → Option LocalName
innermost name at [] = None
innermost name at (l ∷ ls) =
    if bytes_eq l.name name && covers l at then Some (inner_of l (innermost name at ls)) else innermost name at ls

abbrev pub local_meant : List LocalName → List ℕ → ℕ → Option LocalName
local_meant locals name at = innermost name at (first_locals locals)

-- Uses

-- a name and the offset at which it is used
pub record Use : Type 0 where
  pub name : List ℕ
  pub at : ℕ

-- one of the declarations that count has the name and the block of this one, and its scope has begun
abbrev pub is_in_scope : LocalName → List LocalName → Bool
is_in_scope l [] = false
is_in_scope l (m ∷ ms) = (same_name_and_block m l && nat_le m.from l.number) || is_in_scope l ms

-- a `:=` assigns to a name that its block has declared in an earlier statement, or as a parameter
abbrev pub is_assigned : List LocalName → LocalName → Bool
is_assigned locals l = l.is_short && is_in_scope l (first_locals locals)

-- the uses among the names, given all locals
abbrev pub uses_among : List LocalName → List Naming → List Use
uses_among locals [] = []
uses_among locals (uses_name name at ∷ ns) = record { name = name; at = at } ∷ uses_among locals ns
uses_among locals (declares_name l ∷ ns) =
    if is_assigned locals l then record { name = l.name; at = l.number } ∷ uses_among locals ns
    else uses_among locals ns

abbrev pub uses_of : List Naming → List Use
uses_of ns = uses_among (locals_of ns) ns

-- in the tree of a text no two uses have one offset
abbrev pub use_at : ℕ → List Use → Option Use
use_at at [] = None
use_at at (u ∷ us) = if u.at == at then Some u else use_at at us

-- The declaration that a use means

abbrev pub package_or_universe : Option PackageLevel → Meaning
package_or_universe None = universe_name
package_or_universe (Some d) = if d.is_function then function_name else package_name

abbrev pub import_or_around : Option (List ℕ) → Meaning → Meaning
import_or_around None around = around
import_or_around (Some path) around = import_name path

abbrev pub local_or_around : Option LocalName → Meaning → Meaning
local_or_around None around = around
local_or_around (Some l) around = local_name l.number l.kind

-- what a use in the file of the package means
abbrev pub meaning_of : List SourceFile → PackageNames → SourceFile → Use → Meaning
meaning_of files packages file u =
    local_or_around (local_meant (locals_of (file_names file)) u.name u.at)
    (import_or_around (import_meant packages (specs_of file.imports) u.name)
    (package_or_universe (package_meant (package_block files) u.name)))

abbrev pub meaning_at : List SourceFile → PackageNames → Option SourceFile → ℕ → Option Meaning
meaning_at files packages None at = None
meaning_at files packages (Some file) at =
    option_map (meaning_of files packages file) (use_at at (uses_of (file_names file)))

-- what the use means that stands at the offset of the file of that number, if one stands there
abbrev pub declaration_of_use : List SourceFile → PackageNames → ℕ → ℕ → Option Meaning
declaration_of_use files packages file at = meaning_at files packages (slice_get files file) at
