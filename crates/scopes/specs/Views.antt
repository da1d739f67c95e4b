-- What the names that the program keeps stand for.
use Rattle.std.specs.Prelude.{List, [], map, Option, Some, None, ◌≡◌, ◌++◌}
use Rattle.std.specs.List.{filter}
use Rattle.tree.specs.Syntax.{Identifier, Parameters}
use Rattle.scopes.specs.declared.naming.BareName.{BareName as KeptBare}
use Rattle.scopes.specs.declared.naming.LocalName.{LocalName as KeptLocal}
use Rattle.scopes.specs.declared.naming.Naming.{Naming as KeptNaming}
use Rattle.scopes.specs.declared.naming.Naming.TheVariants.{Use, Declaration}
use Rattle.meaning.specs.Scopes.{LocalName, Naming, uses_name, declares_name, is_none_of, parameters_names}

abbrev pub local_view : KeptLocal → LocalName
local_view l = record {
  name = l.name.now;
  number = l.number;
  kind = l.kind;
  block = l.block;
  from = l.from;
  is_short = l.is_short;
}

abbrev pub naming_view : KeptNaming → Naming
naming_view (Use name at) = uses_name name.now at
naming_view (Declaration l) = declares_name (local_view l)

abbrev pub namings_view : List KeptNaming → List Naming
namings_view ns = map naming_view ns

abbrev pub bare_view : KeptBare → Identifier
bare_view n = record { text = n.text.now; span = n.span }

-- the names of a receiver's types, but for those where these stand
abbrev pub names_but : List Identifier → Option Parameters → List Naming
names_but ns None = []
names_but ns (Some ps) = filter (is_none_of ns) (parameters_names ps)

-- the names are added at the end of those that were there
abbrev pub Adds : List KeptNaming → List KeptNaming → List Naming → Type 0
Adds before after names = namings_view after ≡ namings_view before ++ names

abbrev pub AddsBare : List KeptBare → List KeptBare → List Identifier → Type 0
AddsBare before after names = map bare_view after ≡ map bare_view before ++ names
