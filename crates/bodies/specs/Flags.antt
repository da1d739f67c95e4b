-- Numbers of classes as flags, which are bits of masks.
use Rattle.std.specs.Prelude.{ℕ, Bool, false, [], Option, Some, None, unwrap_or}
use Rattle.meaning.specs.BodyEvents.{VariableRole}
use Rattle.meaning.specs.Classes.{entry_cancel, entry_group}
use Rattle.bodies.specs.declared.bits.TheConstants.{CANCEL_CLASSES, GROUP_CLASSES}
use Rattle.bodies.specs.Bits.{cancel_bit, group_bit}

-- whether the flag is marked, if there is one
abbrev pub is_marked_flag : (ℕ → Bool) → Option ℕ → Bool
is_marked_flag has None = false
is_marked_flag has (Some i) = has i

-- unset, open, safe and kept, and pending in each of twelve groups
abbrev pub cancel_width : ℕ
cancel_width = CANCEL_CLASSES

-- pending in no group, so that its number is the same for all groups
abbrev pub cancel_entry : VariableRole → ℕ
cancel_entry role = unwrap_or (cancel_bit [] (entry_cancel role)) 0

abbrev pub group_width : ℕ
group_width = GROUP_CLASSES

abbrev pub group_entry : VariableRole → ℕ
group_entry role = group_bit (entry_group role)
