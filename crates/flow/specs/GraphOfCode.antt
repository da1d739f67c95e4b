-- The graph of a code. Its nodes are the occurrences of the code. They go by numbers from the end: a node's number is
-- the number of occurrences behind it in the code, so that what follows has its numbers first. `f` is the number of
-- occurrences behind the code that is looked at, `next` the nodes that can follow where it falls through, and `exits`
-- those that can follow where it is left.
use Rattle.std.specs.Prelude.{ℕ, ◌+◌, ◌==◌, Bool, true, false, if◌then◌else◌, List, [], ◌∷◌, ◌++◌, Option, Some, None}
use Rattle.std.specs.Str.{bytes_eq}
use Rattle.meaning.specs.Code.{Occurrence, Way, returning, breaking, continuing, falling, Code, skip, does, leave, then_code, either, repeats, up_to}

-- Ways out

abbrev pub same_label : Option (List ℕ) → Option (List ℕ) → Bool
same_label None None = true
same_label None (Some m) = false
same_label (Some l) None = false
same_label (Some l) (Some m) = bytes_eq l m

abbrev pub same_way : Way → Way → Bool
same_way returning returning = true
same_way returning (breaking m) = false
same_way returning (continuing m) = false
same_way returning (falling n) = false
same_way (breaking l) returning = false
same_way (breaking l) (breaking m) = same_label l m
same_way (breaking l) (continuing m) = false
same_way (breaking l) (falling n) = false
same_way (continuing l) returning = false
same_way (continuing l) (breaking m) = false
same_way (continuing l) (continuing m) = same_label l m
same_way (continuing l) (falling n) = false
same_way (falling at) returning = false
same_way (falling at) (breaking m) = false
same_way (falling at) (continuing m) = false
same_way (falling at) (falling n) = at == n

-- what is left by this way arrives at these nodes
abbrev pub arriving : Way → List ℕ → (Way → List ℕ) → Way → List ℕ
arriving w next exits v = if same_way v w then next else exits v

-- the way leads nowhere
abbrev pub no_exit : Way → List ℕ
no_exit w = []

-- Nodes

abbrev pub size : {E : Type 0} → Code E → ℕ
size skip = 0
size (does o) = 1
size (leave w) = 0
size (then_code a b) = size a + size b
size (either a b) = size a + size b
size (repeats a) = size a
size (up_to w a) = size a

-- the last one of the code first
abbrev pub nodes : {E : Type 0} → Code E → List (Occurrence E)
nodes skip = []
nodes (does o) = o ∷ []
nodes (leave w) = []
nodes (then_code a b) = nodes b ++ nodes a
nodes (either a b) = nodes b ++ nodes a
nodes (repeats a) = nodes a
nodes (up_to w a) = nodes a

-- Edges

-- the nodes that can come first
abbrev pub firsts : {E : Type 0} → ℕ → Code E → List ℕ → (Way → List ℕ) → List ℕ
firsts f skip next exits = next
firsts f (does o) next exits = f ∷ []
firsts f (leave w) next exits = exits w
firsts f (then_code a b) next exits = firsts (f + size b) a (firsts f b next exits) exits
firsts f (either a b) next exits = firsts (f + size b) a next exits ++ firsts f b next exits
firsts f (repeats a) next exits = firsts f a [] exits
firsts f (up_to w a) next exits = firsts f a next (arriving w next exits)

-- for each node, in the order of `nodes`, those that can follow it
abbrev pub links : {E : Type 0} → ℕ → Code E → List ℕ → (Way → List ℕ) → List (List ℕ)
links f skip next exits = []
links f (does o) next exits = next ∷ []
links f (leave w) next exits = []
links f (then_code a b) next exits =
    links f b next exits ++ links (f + size b) a (firsts f b next exits) exits
links f (either a b) next exits = links f b next exits ++ links (f + size b) a next exits
links f (repeats a) next exits = links f a (firsts f a [] exits) exits
links f (up_to w a) next exits = links f a next (arriving w next exits)
