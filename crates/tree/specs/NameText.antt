-- The text of a name, wherever it stands.
use Rattle.std.specs.Prelude.{ℕ, List, string_bytes}
use Rattle.tree.specs.declared.name_text.Kept.{Kept}
use Rattle.tree.specs.declared.name_text.Kept.TheVariants.{Short, Long}

abbrev pub kept_text : Kept → List ℕ
kept_text (Short t) = t
kept_text (Long b) = string_bytes b.value
