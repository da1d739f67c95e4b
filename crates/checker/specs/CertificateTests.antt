-- How the program goes over a certificate, node by node and variable by variable. That these tests say what
-- `Certificates.antt` says is proved. `groups` are the groups that have bits, `masks` the masks at a node, and
-- `masks_of` gives those of each node.
use Rattle.std.specs.Prelude.{ℕ, ◌+◌, ◌==◌, Bool, true, not, ◌&&◌, ◌||◌, List, [], ◌∷◌, length, Some, nat_eq, nat_le, slice_index_or}
use Rattle.std.specs.List.{list_any, list_all}
use Rattle.meaning.specs.Code.{Occurrence}
use Rattle.meaning.specs.FunctionFacts.{VariableKind, cancel, group}
use Rattle.meaning.specs.Tracked.{live}
use Rattle.meaning.specs.Uses.{Event, start, is_cancel}
use Rattle.meaning.specs.BodyEvents.{Variable, VariableRole}
use Rattle.meaning.specs.Classes.{Promises, CancelClass, GroupClass, entry_cancel, in_state, entry_group}
use Rattle.meaning.specs.declared.TheConstants.{MOST_CANCELS, MOST_GROUPS}
use Rattle.flow.specs.Walks.{Graph}
use Rattle.path_faults.specs.FoundFaults as found
use Rattle.path_faults.specs.FoundFaults.{any_from, Cancels, Groups, Deed, deed_of, is_return_deed, is_uncalled, is_fault}
use Rattle.tree.specs.declared.edition.Edition.{Edition}
use Rattle.bodies.specs.Bits.{cancel_bit}
use Rattle.bodies.specs.MaskTests.{has_known_bits, has, may_be_cancel, may_be_group}
use Rattle.checker.specs.Certificates.{CheckedBody, is_claimed}
use Rattle.checker.specs.Loaded.{is_taken, place_of, step_of, steps_into}

-- each element passes the test, with its place, where the first has the place n
abbrev pub all_from : {A : Type 0} → (ℕ → A → Bool) → ℕ → List A → Bool
all_from test n [] = true
all_from test n (x ∷ xs) = test n x && all_from test (n + 1) xs

abbrev pub mask_in : List ℕ → ℕ → ℕ
mask_in masks i = slice_index_or masks i 0

-- Variables and groups

-- states have places for so many cancel variables and groups, and there are not too many groups with bits
abbrev pub have_places : List ℕ → List ℕ → List ℕ → Bool
have_places cancels own groups =
    nat_le (length cancels) MOST_CANCELS
    && (nat_le (length own) MOST_GROUPS && nat_le (length groups) MOST_GROUPS)

-- if the event starts a literal, its group has a bit
abbrev pub starts_among : List ℕ → Event → Bool
starts_among groups (start g (Some literal)) = list_any (λ h. nat_eq h g) groups
starts_among groups e = true

abbrev pub all_start_among : List ℕ → List (Occurrence Event) → Bool
all_start_among groups = list_all (λ o. starts_among groups o.event)

-- Rows

abbrev pub has_known_masks : Edition → List Variable → List ℕ → Bool
has_known_masks edition vs row = all_from (λ i v. has_known_bits edition v.kind (mask_in row i)) 0 vs

abbrev pub is_row : Edition → List Variable → List ℕ → Bool
is_row edition vs row = (length row == length vs) && has_known_masks edition vs row

-- there are so many rows
abbrev pub has_rows : Edition → List Variable → ℕ → List (List ℕ) → Bool
has_rows edition vs count states = (length states == count) && list_all (is_row edition vs) states

-- Entry and edges

abbrev pub has_entry : List ℕ → VariableRole → ℕ → VariableKind → Bool
has_entry groups role mask cancel = has (cancel_bit groups) mask (entry_cancel role)
has_entry groups role mask group = may_be_group mask (entry_group role)

-- the masks have the classes of the entry
abbrev pub has_entries : List ℕ → List Variable → List ℕ → Bool
has_entries groups vs masks = all_from (λ i v. has_entry groups v.role (mask_in masks i) v.kind) 0 vs

-- a state takes each of the masks
abbrev pub loads : List Variable → List ℕ → Bool
loads vs masks = all_from (λ i v. is_taken v.kind (place_of v.kind vs i) (mask_in masks i)) 0 vs

-- states take the masks of both rows, and what the event makes of each bit of the one is in the other
abbrev pub all_step_into : List ℕ → List Variable → Promises → Event → List ℕ → List ℕ → Bool
all_step_into groups vs p e before after =
    loads vs before
    && (loads vs after
    && all_from (λ i v. steps_into (step_of p groups e v.number v.kind) (mask_in before i) (mask_in after i)) 0 vs)

-- each edge passes the test, with the number of its node, what that does, and the number of the node after it, where
-- the first node has the number n
abbrev pub edges_from : (ℕ → Event → ℕ → Bool) → ℕ → List (Occurrence Event) → List (List ℕ) → Bool
edges_from test n [] links = true
edges_from test n (o ∷ os) [] = true
edges_from test n (o ∷ os) (ms ∷ links) = list_all (test n o.event) ms && edges_from test (n + 1) os links

-- Classes at nodes

-- what the masks at the nodes tell of the variables
abbrev pub cancels_told : List ℕ → (ℕ → List ℕ) → ℕ → ℕ → CancelClass → Bool
cancels_told groups masks_of i n k = may_be_cancel groups (mask_in (masks_of n) i) k

abbrev pub groups_told : (ℕ → List ℕ) → ℕ → ℕ → GroupClass → Bool
groups_told masks_of i n k = may_be_group (mask_in (masks_of n) i) k

-- the group of the place j may be live at the node n
abbrev pub lives_told : (ℕ → List ℕ) → ℕ → ℕ → Bool
lives_told masks_of n j = may_be_group (mask_in (masks_of n) j) (in_state live)

-- Faults

-- the node returns, and the cancel variable of the place i, of which it is claimed, may not have been called
abbrev pub breaks_claim : List Variable → Cancels → (ℕ → Bool) → (ℕ → Bool) → ℕ → Deed → ℕ → Variable → Bool
breaks_claim vs cancels lives claims n d i v =
    is_return_deed d
    && (is_claimed claims v.role && (is_cancel (Some v.kind) && is_uncalled vs (cancels i n) lives))

-- the variable of the place i is a fault of what the node n does, or breaks what is claimed of it
abbrev pub is_broken
    : List Variable → Cancels → Groups → List ℕ → (ℕ → Bool) → (ℕ → Bool) → ℕ → Deed → ℕ → Variable → Bool
is_broken vs cancels groups pending_groups lives claims n d i v =
    is_fault vs cancels groups pending_groups lives n d i v || breaks_claim vs cancels lives claims n d i v

-- some variable does
abbrev pub deed_breaks
    : List Variable → Cancels → Groups → List ℕ → (ℕ → Bool) → (ℕ → Bool) → ℕ → Deed → Bool
deed_breaks vs cancels groups pending_groups lives claims n d =
    any_from (is_broken vs cancels groups pending_groups lives claims n d) 0 vs

abbrev pub node_breaks
    : List Variable → Cancels → Groups → List ℕ → (ℕ → Bool) → (ℕ → Bool) → ℕ → Event → Bool
node_breaks vs cancels groups pending_groups lives claims n e =
    deed_breaks vs cancels groups pending_groups lives claims n (deed_of e)

-- The whole

module _ (groups : List ℕ) (vs : List Variable) (masks_of : ℕ → List ℕ) where
  abbrev pub starts_hold : List ℕ → Bool
  starts_hold = list_all (λ n. has_entries groups vs (masks_of n))

  abbrev pub edges_hold : Promises → List (Occurrence Event) → List (List ℕ) → Bool
  edges_hold p = edges_from (λ n e m. all_step_into groups vs p e (masks_of n) (masks_of m)) 0

  abbrev pub has_fault : (ℕ → Bool) → List (Occurrence Event) → Bool
  has_fault claims = any_from (λ n o. node_breaks vs (cancels_told groups masks_of) (groups_told masks_of) groups
      (lives_told masks_of n) claims n o.event) 0

  abbrev pub graph_holds : Promises → (ℕ → Bool) → Graph Event → Bool
  graph_holds p claims g =
      starts_hold g.starts && (edges_hold p g.nodes g.next && not (has_fault claims g.nodes))

-- by the numbers of the body's cancel variables and of its groups, and the groups that have bits
abbrev pub holds : List ℕ → List ℕ → List ℕ → (ℕ → List ℕ) → CheckedBody → List (List ℕ) → Bool
holds cancels own groups masks_of b states =
    have_places cancels own groups
    && (all_start_among groups b.graph.nodes
    && (has_rows b.edition b.variables (length b.order) states
    && graph_holds groups b.variables masks_of b.promises b.is_claimed b.graph))

-- Credit

-- the variable of the place i and of that kind may be unsettled at some return
abbrev pub breaks_settling : List ℕ → (ℕ → List ℕ) → List (Occurrence Event) → ℕ → VariableKind → Bool
breaks_settling groups masks_of = found.breaks_settling (cancels_told groups masks_of) (groups_told masks_of) groups
