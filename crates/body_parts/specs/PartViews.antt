-- What a part in memory stands for, and which parts are wanted.
use Rattle.std.specs.Prelude.{◌≡◌, Bool, true, false, if◌then◌else◌, List, [], ◌∷◌, ◌++◌, map}
use Rattle.body_parts.specs.declared.part.Part.{Part as KeptPart}
use Rattle.body_parts.specs.declared.part.Part.TheVariants.{Declaration, Return, Goto, Plain}
use Rattle.body_parts.specs.declared.part.Wanted.{Wanted}
use Rattle.body_parts.specs.declared.part.Wanted.TheVariants.{All, Jumps}
use Rattle.meaning.specs.Jumps.{Part, declaration_part, return_part, goto_part, plain_part}
use Rattle.tree.specs.View.{declaration_syntax}

abbrev pub part_view : KeptPart → Part
part_view (Declaration d) = declaration_part (declaration_syntax d.now)
part_view (Return at) = return_part at
part_view (Goto at) = goto_part at
part_view (Plain at) = plain_part at

abbrev pub is_jump : Part → Bool
is_jump (declaration_part d) = false
is_jump (return_part at) = false
is_jump (goto_part at) = true
is_jump (plain_part at) = false

abbrev pub is_wanted : Wanted → Part → Bool
is_wanted All p = true
is_wanted Jumps p = is_jump p

-- those that are wanted
abbrev pub wanted_of : Wanted → List Part → List Part
wanted_of wanted [] = []
wanted_of wanted (p ∷ ps) = if is_wanted wanted p then p ∷ wanted_of wanted ps else wanted_of wanted ps

-- those of these parts that are wanted are added at the end
pub record Adds (wanted : Wanted) (ps : List Part) (before after : List KeptPart) : Type 0 where
  pub are : map part_view after ≡ map part_view before ++ wanted_of wanted ps
