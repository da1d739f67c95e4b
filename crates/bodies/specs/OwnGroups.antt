-- The groups in which the nodes of a body start literals, and those that are variables of the body.
use Rattle.std.specs.Prelude.{ℕ, ◌≡◌, List, [], ◌∷◌, ◌++◌, Option, Some, None, slice_get, Contains}
use Rattle.flow.specs.GraphOfCode.{nodes}
use Rattle.meaning.specs.BodyEvents.{Variable}
use Rattle.meaning.specs.Code.{Occurrence, Code}
use Rattle.meaning.specs.FunctionFacts.{VariableKind, cancel, group}
use Rattle.meaning.specs.Uses.{Event, start}

-- the group in which the event starts a literal
abbrev pub literal_group : Event → Option ℕ
literal_group (start g (Some literal)) = Some g
literal_group e = None

abbrev pub group_number : VariableKind → ℕ → List ℕ
group_number cancel n = []
group_number group n = n ∷ []

-- the numbers of the groups among these, in their order
abbrev pub groups_of : List Variable → List ℕ
groups_of [] = []
groups_of (v ∷ vs) = group_number v.kind v.number ++ groups_of vs

-- each group in which a node of the code starts a literal is one of these variables
abbrev pub StartsInOwnGroups : Code Event → List Variable → Type 0
StartsInOwnGroups c vs = (n : ℕ) (o : Occurrence Event) (g : ℕ)
    → slice_get (nodes c) n ≡ Some o
    → literal_group o.event ≡ Some g
    → Contains (groups_of vs) g
