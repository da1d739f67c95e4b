-- Faults that are told one after the other, each with the notes of a way to it.
use Rattle.std.proofs.Common.{◌≡◌, ℕ, ◌+◌, ◌<◌, ◌⊎◌, inl, inr, List, [], ◌∷◌, ◌++◌, length, map, drop, get_or, Contains, sym, ap, ◌∙◌, subst}
use Rattle.std.proofs.lemmas.List.{drop_more, map-append}
use Rattle.std.proofs.lemmas.List.Elements.{Contains-append_left, Contains-append_right, Contains-append_cases}
use Rattle.std.proofs.lemmas.Option.{slice_get-map, slice_get-get_or}
use Rattle.std.specs.Prelude.{option_map}
use Rattle.body_ways.specs.BodyWays.{ToldWay, told_of, IsToldWay, AreToldWays}
use Rattle.body_ways.specs.ToldViews.{AddsTold}
use Rattle.flow.specs.Walks.{Graph, graph_of}
use Rattle.meaning.proofs.Membership.{contains_nil, contains_here, contains_cases}
use Rattle.meaning.specs.Uses.{Event}
use Rattle.meaning_packages.specs.PathFaults.{Paths, PathFault, IsPathFault}
use Rattle.path_faults.proofs.Places.{contains_at}
use Rattle.path_faults.specs.FaultViews.{fault_view}
use Rattle.path_faults.specs.declared.fault.PathFault.{PathFault as KeptFault}
use Rattle.reasons.specs.Branches.{Branch}
use Rattle.way_notes.specs.Notes.{Note, notes_of_way}
use Rattle.way_notes.specs.Offsets.{AreOffsets}
use Rattle.ways.specs.Found.{FoundWay, IsWayAs, Tells}

-- One fault

pub told_so : (b : Paths) (branches : List Branch) (f : PathFault) (w : FoundWay) (g : Graph Event)
    → g ≡ graph_of b.code
    → Tells g w.nodes (IsWayAs b f w)
    → (nodes : List ℕ)
    → nodes ≡ w.nodes
    → (again : List ℕ)
    → again ≡ w.nodes
    → (notes : List Note)
    → notes ≡ notes_of_way g branches (told_of w) nodes
    → (offsets : List ℕ)
    → AreOffsets g again offsets
    → IsPathFault b f
    → IsToldWay b branches record { fault = f; notes = notes; offsets = offsets }
told_so b branches f w g is_graph tells nodes same again same_again notes are offsets at is_fault = record {
  is_fault = is_fault;
  way = w;
  is_way = subst (λ h. Tells h w.nodes (IsWayAs b f w)) is_graph tells;
  are_notes = are ∙ (λ i. notes_of_way (is_graph i) branches (told_of w) (same i));
  are_offsets = subst (λ h. AreOffsets h w.nodes offsets) is_graph (subst (λ ns. AreOffsets g ns offsets) same_again at);
}

-- All faults

abbrev pub fault_of : ToldWay → PathFault
fault_of t = t.fault

-- each is told as it is to be, and the faults that are not told are among those that are left
pub record AreToldBut (b : Paths) (branches : List Branch) (left : List PathFault) (told : List ToldWay) : Type 0 where
  pub each : (t : ToldWay) → Contains told t → IsToldWay b branches t
  pub all : (f : PathFault) → IsPathFault b f → Contains (map fault_of told) f ⊎ Contains left f

module _ (b : Paths) (branches : List Branch) where
  pub none_told : (left : List PathFault) → ((f : PathFault) → IsPathFault b f → Contains left f)
      → AreToldBut b branches left []
  none_told left all = record { each = λ t h. absurd (contains_nil t h); all = λ f h. inr (all f h) }

  pub all_told : (left : List PathFault) → left ≡ []
      → (told : List ToldWay)
      → AreToldBut b branches left told
      → AreToldWays b branches told
  all_told left none told are = record {
    each = are.each;
    all = λ f h. elim (are.all f h) [
      | inl is ↦ is
      | inr more ↦ absurd (contains_nil f (subst (λ fs. Contains fs f) none more))
    ];
  }

  one_more : (f : PathFault) (left : List PathFault) (before after : List ToldWay)
      → AreToldBut b branches (f ∷ left) before
      → AddsTold b branches f before after
      → AreToldBut b branches left after
  one_more f left before after are adds =
      subst (AreToldBut b branches left) (sym adds.added)
      record {
        each = λ t h. elim (Contains-append_cases before (adds.told ∷ []) t h) [
          | inl old ↦ are.each t old
          | inr new ↦ elim (contains_cases adds.told t [] new) [
            | inl same ↦ subst (IsToldWay b branches) same adds.is_told
            | inr none ↦ absurd (contains_nil t none)
          ]
        ];
        all = λ g h. elim (are.all g h) [
          | inl old ↦ inl (told_before g old)
          | inr rest ↦ elim (contains_cases f g left rest) [
            | inl same ↦ inl (subst (Contains (map fault_of (before ++ adds.told ∷ []))) (adds.is_it ∙ same) told_now)
            | inr later ↦ inr later
          ]
        ];
      }
    where
      split : map fault_of (before ++ adds.told ∷ []) ≡ map fault_of before ++ adds.told.fault ∷ []
      split = map-append fault_of before (adds.told ∷ [])

      told_before : (g : PathFault) → Contains (map fault_of before) g
          → Contains (map fault_of (before ++ adds.told ∷ [])) g
      told_before g old =
          subst (λ fs. Contains fs g) (sym split)
          (Contains-append_left (map fault_of before) (adds.told.fault ∷ []) g old)

      told_now : Contains (map fault_of (before ++ adds.told ∷ [])) adds.told.fault
      told_now =
          subst (λ fs. Contains fs adds.told.fault) (sym split)
          (Contains-append_right (map fault_of before) (adds.told.fault ∷ []) adds.told.fault
          (contains_here adds.told.fault []))

  module _ (faults : List KeptFault) (i : ℕ) (d : KeptFault) (less : i < length faults) where
    pub fault_there : Contains (map fault_view faults) (fault_view (get_or faults i d))
    fault_there =
        contains_at (map fault_view faults) i (fault_view (get_or faults i d))
        (slice_get-map fault_view faults i ∙ ap (option_map fault_view) (slice_get-get_or faults i d less))

    pub told_next : (before after : List ToldWay)
        → AreToldBut b branches (map fault_view (drop i faults)) before
        → AddsTold b branches (fault_view (get_or faults i d)) before after
        → AreToldBut b branches (map fault_view (drop (i + 1) faults)) after
    told_next before after are adds =
        one_more (fault_view (get_or faults i d)) (map fault_view (drop (i + 1) faults)) before after
        (subst (λ fs. AreToldBut b branches fs before) (ap (map fault_view) (drop_more faults i d less)) are) adds
