-- What the program keeps of faults of paths, and what it stands for.
use Rattle.std.specs.Prelude.{◌≡◌, List, ◌++◌, map}
use Rattle.path_faults.specs.declared.fault.PathCode.{PathCode as KeptCode}
use Rattle.path_faults.specs.declared.fault.PathCode.TheVariants.{Overwritten, NotCalled, GroupIsLive, GroupOverwritten, LeftToLiveGroup, PassedOn}
use Rattle.path_faults.specs.declared.fault.PathFault.{PathFault as KeptFault}
use Rattle.path_faults.specs.declared.deeds.Deed.{Deed as KeptDeed}
use Rattle.path_faults.specs.declared.deeds.Deed.TheVariants.{Nothing, Binds, Makes, Returns}
use Rattle.path_faults.specs.FoundFaults.{Deed, nothing, binds, makes, returns}
use Rattle.tracked_rows.specs.EventViews.{handed_view, variable_view}
use Rattle.meaning_packages.specs.PathFaults.{PathCode, overwritten, not_called, group_is_live, group_overwritten, left_to_live_group, passed_on, PathFault}

abbrev pub code_view : KeptCode → PathCode
code_view Overwritten = overwritten
code_view NotCalled = not_called
code_view GroupIsLive = group_is_live
code_view GroupOverwritten = group_overwritten
code_view LeftToLiveGroup = left_to_live_group
code_view PassedOn = passed_on

abbrev pub fault_view : KeptFault → PathFault
fault_view f = record { at = f.at; code = code_view f.code; name = f.name.now }

abbrev pub deed_view : KeptDeed → Deed
deed_view Nothing = nothing
deed_view (Binds u) = binds (variable_view u)
deed_view (Makes u) = makes (variable_view u)
deed_view (Returns handed) = returns (map handed_view handed.now)

-- these faults are added
abbrev pub AddsFaults : List KeptFault → List KeptFault → List PathFault → Type 0
AddsFaults before after faults = map fault_view after ≡ map fault_view before ++ faults
