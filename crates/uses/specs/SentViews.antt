-- What functions under `go` get, as the program goes over the arguments.
use Rattle.std.specs.Prelude.{ℕ, ◌≡◌, ◌&&◌, Bool, if◌then◌else◌, List, [], ◌∷◌, ◌++◌, Option, map}
use Rattle.tracked_rows.specs.declared.event.Sent.{Sent as KeptSent}
use Rattle.tracked_rows.specs.EventViews.{sent_view}
use Rattle.tracked.specs.LocalViews.{SeenLocal, tracked_kind_of_entry}
use Rattle.tree.specs.Syntax.{Expression}
use Rattle.meaning.specs.BodyEvents.{is_in_block, item_variable, sent_there}
use Rattle.meaning.specs.FunctionFacts.{cancel_type}
use Rattle.meaning.specs.Mentions.{as_bare, BodyPlace, Call}
use Rattle.meaning.specs.Uses.{Seen, Sent, cancel_type_of, found, is_cancel, is_own, takes}

abbrev pub AddsSent : List KeptSent → List KeptSent → List Sent → Type 0
AddsSent before after sent = map sent_view after ≡ map sent_view before ++ sent

-- whether the function gets the local with what the marks of its file do to it
abbrev pub is_entry_sent : Seen → List BodyPlace → Call → ℕ → SeenLocal → Bool
is_entry_sent seen bodies c k e =
    (is_own e.local bodies && is_in_block e.local.role)
    && (is_cancel (tracked_kind_of_entry e) && takes seen.known c (cancel_type (cancel_type_of seen e.local)) k)

-- the local, if the function gets it
abbrev pub entry_sent : Seen → List BodyPlace → Call → ℕ → SeenLocal → List Sent
entry_sent seen bodies c k e =
    if is_entry_sent seen bodies c k e then record { number = e.local.number; position = k } ∷ [] else []

-- the variable that an argument names, if the function gets it
abbrev pub named_sent : Seen → List BodyPlace → Call → ℕ → Expression → List Sent
named_sent seen bodies c k e = sent_there seen bodies c k (found seen (item_variable seen.known (as_bare e)))

-- the same of an argument that may be the last
abbrev pub argument_sent : Seen → List BodyPlace → Call → ℕ → Bool → Expression → List Sent
argument_sent seen bodies c k is_last e =
    if is_last && c.has_ellipsis then [] else named_sent seen bodies c k e
