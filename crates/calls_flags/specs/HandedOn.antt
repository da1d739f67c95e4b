-- Whether files hand a cancel function or a group to a function of the package of a path, which they import.
-- (This tool's rules.)
use Rattle.std.specs.Prelude.{ℕ, ◌≡◌, ◌↔◌, Bool, true, false, List, Option, Some, None, Contains}
use Rattle.std.specs.List.{list_any}
use Rattle.std.specs.Str.{bytes_eq}
use Rattle.calls_flags.specs.ToldFiles.{TellAllSeen}
use Rattle.calls_flags.specs.declared.told_file.ToldFile.{ToldFile}
use Rattle.events.specs.declared.told.SiteEvent.{SiteEvent}
use Rattle.events.specs.declared.told.Told.{Told}
use Rattle.lists.specs.ListViews.{items_at}
use Rattle.meaning.specs.Uses.{Callee, Work, go_call, go_pass, go_literal, Event, pass, defer_pass, lend, go, Seen}
use Rattle.meaning_reports.specs.UsedImports.{HandsThere}
use Rattle.tracked_rows.specs.EventViews.{event_view}

abbrev pub is_path : List ℕ → Option (List ℕ) → Bool
is_path path None = false
is_path path (Some its) = bytes_eq its path

abbrev pub is_of_path : List ℕ → Callee → Bool
is_of_path path f = is_path path f.path

abbrev pub work_hands : List ℕ → Work → Bool
work_hands path (go_call u) = false
work_hands path (go_pass f xs) = is_of_path path f
work_hands path (go_literal literal) = false

abbrev pub event_hands : List ℕ → Event → Bool
event_hands path (pass u f k) = is_of_path path f
event_hands path (defer_pass u f k) = is_of_path path f
event_hands path (lend v f k) = is_of_path path f
event_hands path (go work) = work_hands path work
event_hands path e = false

abbrev pub body_hands : List ℕ → List SiteEvent → Bool
body_hands path = list_any (λ e. event_hands path (event_view e.event))

-- a body that was told of does so
abbrev pub told_hands : List ℕ → Told → Bool
told_hands path told = list_any (λ b. body_hands path (items_at told.events b.at)) told.opened.items

abbrev pub files_hand : List ℕ → List ToldFile → Bool
files_hand path = list_any (λ k. told_hands path k.told)

-- a body of one of the files does so
pub record HandToPath (seens : List Seen) (path : List ℕ) : Type 0 where
  pub file : Seen
  pub callee : Callee
  pub is_file : Contains seens file
  pub is_of_path : callee.path ≡ Some path
  pub hands : HandsThere file callee

abbrev pub FilesAreHanded : Type 0
FilesAreHanded = (seens : List Seen) (kept : List ToldFile) (path : List ℕ)
    → TellAllSeen seens kept
    → (files_hand path kept ≡ true) ↔ HandToPath seens path
