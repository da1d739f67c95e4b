-- What the answers that the program keeps stand for.
use Rattle.std.specs.Prelude.{ℕ, Option, Some, None, option_map, List, slice_get}
use Rattle.std.specs.Borrow.{Bor}
use Rattle.indexmap.specs.IndexMap.{IndexMap}
pub use Rattle.first_values.specs.ValuesByName.{at_name}
use Rattle.first_values.specs.ValuesByName.{value_of}
use Rattle.tree.specs.declared.span.Identifier.{Identifier as KeptIdentifier}
use Rattle.tree.specs.View.{identifier_syntax}
use Rattle.names.specs.declared.meanings.NameMeaning.{NameMeaning}
use Rattle.names.specs.declared.meanings.NameMeaning.TheVariants.{Local, Import, Function, PackageLevel, Universe}
use Rattle.names.specs.declared.package_names.PackageNames.{PackageNames as KeptNames}
use Rattle.names.specs.declared.resolution.Names.{Names}
use Rattle.names.specs.declared.use_meanings.UseMeanings.{UseMeanings}
use Rattle.names.specs.KeptMeanings.{kept_at}
use Rattle.meaning.specs.Declarations.{Meaning, local_name, import_name, function_name, package_name, universe_name}
use Rattle.meaning.specs.OuterBlocks.{PackageNames}
use Rattle.meaning.specs.TwoFunctions.{FunctionName}

abbrev pub decl_view : NameMeaning → Meaning
decl_view (Local number kind) = local_name number kind
decl_view (Import path) = import_name path.now
decl_view Function = function_name
decl_view PackageLevel = package_name
decl_view Universe = universe_name

-- the text at a name
abbrev pub text_at : {S : Type 0} → IndexMap (Bor (List ℕ)) (Bor (List ℕ)) S → List ℕ → Option (List ℕ)
text_at m name = option_map (λ text. text.now) (at_name m name)

-- the names of packages by their paths
abbrev pub names_by_path : KeptNames → PackageNames
names_by_path packages path = option_map (λ name. name.now) (value_of packages.names path)

-- what the use means that begins at the offset of that file
abbrev pub answer_in : Option UseMeanings → ℕ → Option Meaning
answer_in None at = None
answer_in (Some answers) at = option_map decl_view (kept_at answers at)

abbrev pub declared_at : Names → ℕ → ℕ → Option Meaning
declared_at names file at = answer_in (slice_get names.files.items file) at

abbrev pub function_name_view : ℕ → KeptIdentifier → FunctionName
function_name_view file name = record { file = file; name = identifier_syntax name }
