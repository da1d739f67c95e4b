-- The nodes that are added to a graph, part by part.
use Rattle.std.proofs.Common.{◌≡◌, ℕ, ◌+◌, ◌<◌, ◌≤◌, List, [], ◌∷◌, ◌++◌, Option, Some, None, length, get_or, drop, map, refl, sym, ap, ◌∙◌, subst, arith, append_assoc, length-append}
use Rattle.std.proofs.lemmas.List.{at_drop_all, append-nil}
use Rattle.tree.proofs.Depths.{drop_item}
use Rattle.code.specs.declared.code.Code.{Code as KeptCode}
use Rattle.code.specs.declared.code.Occurrence.{Occurrence as KeptOccurrence}
use Rattle.meaning.specs.Code.{Way, Code, skip, does, then_code, repeats, up_to}
use Rattle.code.specs.CodeViews.{occurrence_view, code_view, backward, or_another, one_of}
use Rattle.flow.specs.declared.exits.Exits.{Exits}
use Rattle.flow.specs.declared.graph.Node.{Node}
use Rattle.flow.specs.GraphOfCode.{no_exit, size, nodes, firsts, links}
use Rattle.flow.specs.Walks.{Graph, graph_of, WalksAreLists}
use Rattle.flow.specs.GraphViews.{most, exits_view, rest_of, Enters, occurrences_of, links_of, graph_view, AddsNode, Links, Adds}
use Rattle.flow.specs.TurnSizes.{begins, told_size, turn_sizes, all_turn_sizes, FirstsOfTurn, Takes}
use Rattle.flow.proofs.WalksOfLists.{nodes_size, graphs_walk}
use Rattle.flow.proofs.FirstNodes.{Vec, leading, stays_there}
use Rattle.flow.proofs.TurnCounts.{size_there, left_there}

count_map : {A B : Type 0} (f : A → B) (xs : List A) → length (map f xs) ≡ length xs
count_map f [] = refl
count_map f (x ∷ xs) = omega (arith, count_map f xs)

-- the sizes of what is added are taken

pub takes_none : {P : Type 0} (sizes : List ℕ) → P → Takes [] sizes sizes P
takes_none sizes p = record { takes = λ others e. (p, e) }

pub takes_on : {P Q : Type 0} (taken s0 s1 : List ℕ) → (P → Q) → Takes taken s0 s1 P → Takes taken s0 s1 Q
takes_on taken s0 s1 f h =
    record {
      takes = λ others e.
          let done = h.takes others e in
          (f done.0, done.1);
    }

pub takes_both : {P Q R : Type 0} (u v s0 s1 s2 : List ℕ) → (P → Q → R) → Takes u s0 s1 P → Takes v s1 s2 Q → Takes (u ++ v) s0 s2 R
takes_both u v s0 s1 s2 f h k =
    record {
      takes = λ others e.
          let done = h.takes (v ++ others) (e ∙ append_assoc u v others) in
          let then_done = k.takes others done.1 in
          (f done.0 then_done.0, then_done.1);
    }

-- all sizes are taken
pub all_taken : {P : Type 0} (sizes s0 s1 s2 s3 : List ℕ) → s0 ≡ [] → s1 ≡ s0 ++ sizes → s2 ≡ s1 → Takes sizes s2 s3 P → P
all_taken sizes s0 s1 s2 s3 nothing added same h =
    (h.takes [] (same ∙ added ∙ ap (λ z. z ++ sizes) nothing ∙ sym (append-nil sizes))).0

module _ {E : Type 0} where
  -- nothing is added
  pub adds_none : (c : Code E) (next : List ℕ) (e : Exits) (n : Vec (Node E)) (first : Vec ℕ)
      → nodes c ≡ []
      → links (length n.items) c next (leading e) ≡ []
      → first.items ≡ firsts (length n.items) c next (leading e)
      → Adds c next e e n n first
  adds_none c next e n first no_node no_link is =
      record {
        adds = record {
          are_nodes = sym (append-nil (occurrences_of n.items)) ∙ ap (λ z. occurrences_of n.items ++ z) (sym no_node);
          are_linked = sym (append-nil (links_of n.items)) ∙ ap (λ z. links_of n.items ++ z) (sym no_link);
          are_first = is;
        };
        stay = refl;
      }

  pub adds_one : (o : KeptOccurrence E) (next : List ℕ) (e : Exits) (n m : Vec (Node E)) (first : Vec ℕ) → AddsNode (occurrence_view o) next n.items m.items first.items → Adds (does (occurrence_view o)) next e e n m first
  adds_one o next e n m first h =
      record { adds = record { are_nodes = h.is_node; are_linked = h.is_linked; are_first = h.is_first }; stay = refl }

  -- how many nodes there are then
  pub counted : (c : Code E) (next : List ℕ) (exits : Way → List ℕ) (before after : List (Node E)) (first : List ℕ) → Links c next exits before after first → length after ≡ length before + size c
  counted c next exits before after first h =
      omega (
        arith,
        count_map (λ (n : Node E). occurrence_view n.occurrence) after,
        count_map (λ (n : Node E). occurrence_view n.occurrence) before,
        ap length h.are_nodes,
        length-append (occurrences_of before) (nodes c),
        nodes_size c,
      )

  linked_on : (f g : ℕ) (a : Code E) (later : List ℕ) (x y : Way → List ℕ) (next : List ℕ) → f ≡ g → later ≡ next → x ≡ y → links f a later x ≡ links g a next y
  linked_on f g a later x y next e h k = ap (λ n. links n a later x) e ∙ ap (λ z. links g a z x) h ∙ ap (λ z. links g a next z) k

  first_on : (f g : ℕ) (a : Code E) (later : List ℕ) (x y : Way → List ℕ) (next : List ℕ) → f ≡ g → later ≡ next → x ≡ y → firsts f a later x ≡ firsts g a next y
  first_on f g a later x y next e h k = ap (λ n. firsts n a later x) e ∙ ap (λ z. firsts g a z x) h ∙ ap (λ z. firsts g a next z) k

  pub adds_then : (a b : Code E) (next : List ℕ) (e0 e1 e2 : Exits) (n0 n1 n2 : Vec (Node E)) (later first : Vec ℕ)
      → Adds b next e0 e1 n0 n1 later
      → Adds a later.items e1 e2 n1 n2 first
      → Adds (then_code a b) next e0 e2 n0 n2 first
  adds_then a b next e0 e1 e2 n0 n1 n2 later first of_b of_a =
      let f = counted b next (leading e0) n0.items n1.items later.items of_b.adds in
      let x = stays_there e0 e1 of_b.stay in
      record {
        adds = record {
          are_nodes =
              of_a.adds.are_nodes
              ∙ ap (λ z. z ++ nodes a) of_b.adds.are_nodes
              ∙ append_assoc (occurrences_of n0.items) (nodes b) (nodes a);
          are_linked =
              of_a.adds.are_linked
              ∙ ap (λ z. z ++ links (length n1.items) a later.items (leading e1)) of_b.adds.are_linked
              ∙ append_assoc (links_of n0.items) (links (length n0.items) b next (leading e0)) (links (length n1.items) a later.items (leading e1))
              ∙ ap (λ z. links_of n0.items ++ (links (length n0.items) b next (leading e0) ++ z)) (linked_on (length n1.items) (length n0.items + size b) a later.items (leading e1) (leading e0) _ f of_b.adds.are_first x);
          are_first = of_a.adds.are_first ∙ first_on (length n1.items) (length n0.items + size b) a later.items (leading e1) (leading e0) _ f of_b.adds.are_first x;
        };
        stay = of_a.stay ∙ of_b.stay;
      }

  fits_there : (n : Vec (Node E)) → length n.items ≤ most
  fits_there n = omega (arith, n.ok.0, n.ok.1, n.small)

  adds_turn : (a : Code E) (next : List ℕ) (e0 e1 e2 : Exits) (n0 n1 : Vec (Node E)) (first same : Vec ℕ)
      → (length n0.items + size a ≤ most → first.items ≡ firsts (length n0.items) a [] (leading e0))
      → e1.entries.items ≡ e0.entries.items
      → Adds a first.items e1 e2 n0 n1 same
      → Adds (repeats a) next e0 e2 n0 n1 first
  adds_turn a next e0 e1 e2 n0 n1 first same leads stay of_a =
      let count = counted a first.items (leading e1) n0.items n1.items same.items of_a.adds in
      let is_first = leads (omega (arith, count, fits_there n1)) in
      record {
        adds = record {
          are_nodes = of_a.adds.are_nodes;
          are_linked = of_a.adds.are_linked ∙ ap (λ z. links_of n0.items ++ z) (linked_on (length n0.items) (length n0.items) a first.items (leading e1) (leading e0) _ refl is_first (stays_there e0 e1 stay));
          are_first = is_first;
        };
        stay = of_a.stay ∙ stay;
      }

  pub takes_turn : (a : Code E) (next : List ℕ) (e0 e1 e2 : Exits) (n0 n1 : Vec (Node E)) (first same : Vec ℕ) (s0 s1 s2 : List ℕ)
      → FirstsOfTurn (length n0.items) a e0 e1 s0 s1 first
      → Takes (turn_sizes a) s1 s2 (Adds a first.items e1 e2 n0 n1 same)
      → Takes (turn_sizes (repeats a)) s0 s2 (Adds (repeats a) next e0 e2 n0 n1 first)
  takes_turn a next e0 e1 e2 n0 n1 first same s0 s1 s2 leads of_a =
      record {
        takes = λ others e.
            let done = of_a.takes others (left_there (begins a) (told_size a) (turn_sizes a) s0 others s1 e leads.are_left) in
            (adds_turn a next e0 e1 e2 n0 n1 first same (leads.are_first (size_there a s0 others e)) leads.stay done.0, done.1);
      }

  pub adds_inside : (w : Way) (a : Code E) (next : List ℕ) (e0 e1 e2 e3 : Exits) (n0 n1 : Vec (Node E)) (first : Vec ℕ)
      → Enters w next e0 e1
      → Adds a next e1 e2 n0 n1 first
      → e3.entries.items ≡ rest_of e2.entries.items
      → Adds (up_to w a) next e0 e3 n0 n1 first
  adds_inside w a next e0 e1 e2 e3 n0 n1 first enters of_a left =
      record {
        adds = record {
          are_nodes = of_a.adds.are_nodes;
          are_linked = of_a.adds.are_linked ∙ ap (λ z. links_of n0.items ++ links (length n0.items) a next z) enters.view;
          are_first = of_a.adds.are_first ∙ ap (λ z. firsts (length n0.items) a next z) enters.view;
        };
        stay = left ∙ ap rest_of of_a.stay ∙ enters.others;
      }

  -- the codes that were gone through, and those that are left
  pub record AddedSoFar (cs : List (Code E)) (whole : Code E) (next : List ℕ) (before after : Exits) (n m : Vec (Node E)) (first : Vec ℕ) : Type 0 where
    pub rest : Code E
    pub is_whole : backward cs rest ≡ whole
    pub added : Adds rest next before after n m first

  -- the sizes of their turns, and those that are left
  pub record TakenSoFar (all cs : List (Code E)) (before after : List ℕ) (Done : Type 0) : Type 0 where
    pub taken : (others : List ℕ) → before ≡ all_turn_sizes all ++ others → Done × (after ≡ all_turn_sizes cs ++ others)

  pub taken_so_far-none : {P : Type 0} (cs : List (Code E)) (sizes : List ℕ) → P → TakenSoFar cs cs sizes sizes P
  taken_so_far-none cs sizes p = record { taken = λ others e. (p, e) }

  pub taken_so_far-next : {P Q R : Type 0} (all : List (Code E)) (codes : List (KeptCode E)) (i : ℕ) (c : KeptCode E) (s0 s1 s2 : List ℕ)
      → i < length codes
      → c ≡ get_or codes i c
      → (P → Q → R)
      → TakenSoFar all (map code_view (drop i codes)) s0 s1 P
      → Takes (turn_sizes (code_view c)) s1 s2 Q
      → TakenSoFar all (map code_view (drop (i + 1) codes)) s0 s2 R
  taken_so_far-next all codes i c s0 s1 s2 within is f so_far of_c =
      record {
        taken = λ others e.
            let done = so_far.taken others e in
            let left = all_turn_sizes (map code_view (drop (i + 1) codes)) in
            let then_done = of_c.takes (left ++ others) (done.1 ∙ ap (λ l. all_turn_sizes (map code_view l) ++ others) (drop_item codes i c within is) ∙ append_assoc (turn_sizes (code_view c)) left others) in
            (f done.0 then_done.0, then_done.1);
      }

  pub taken_so_far-all : {P Q : Type 0} (all : List (Code E)) (codes : List (KeptCode E)) (i : ℕ) (s0 s1 : List ℕ)
      → length codes ≤ i
      → (P → Q)
      → TakenSoFar all (map code_view (drop i codes)) s0 s1 P
      → Takes (all_turn_sizes all) s0 s1 Q
  taken_so_far-all all codes i s0 s1 past f so_far =
      record {
        takes = λ others e.
            let done = so_far.taken others e in
            (f done.0, done.1 ∙ at_drop_all (λ l. all_turn_sizes (map code_view l) ++ others) codes i past);
      }

  pub added_so_far-none : (cs : List (Code E)) (next : List ℕ) (e : Exits) (n : Vec (Node E)) (first : Vec ℕ) → first.items ≡ next → AddedSoFar cs (backward cs skip) next e e n n first
  added_so_far-none cs next e n first is = record { rest = skip; is_whole = refl; added = adds_none skip next e n first refl refl is }

  pub added_so_far-next : (codes : List (KeptCode E)) (i : ℕ) (c : KeptCode E) (whole : Code E) (next : List ℕ) (e0 e1 e2 : Exits) (n0 n1 n2 : Vec (Node E)) (first own : Vec ℕ)
      → i < length codes
      → c ≡ get_or codes i c
      → AddedSoFar (map code_view (drop i codes)) whole next e0 e1 n0 n1 first
      → Adds (code_view c) first.items e1 e2 n1 n2 own
      → AddedSoFar (map code_view (drop (i + 1) codes)) whole next e0 e2 n0 n2 own
  added_so_far-next codes i c whole next e0 e1 e2 n0 n1 n2 first own within is so_far of_c =
      record {
        rest = then_code (code_view c) so_far.rest;
        is_whole = sym (ap (λ l. backward (map code_view l) so_far.rest) (drop_item codes i c within is)) ∙ so_far.is_whole;
        added = adds_then (code_view c) so_far.rest next e0 e1 e2 n0 n1 n2 first own so_far.added of_c;
      }

  pub added_so_far-all : (codes : List (KeptCode E)) (i : ℕ) (whole : Code E) (next : List ℕ) (e0 e1 : Exits) (n0 n1 : Vec (Node E)) (first : Vec ℕ)
      → length codes ≤ i
      → AddedSoFar (map code_view (drop i codes)) whole next e0 e1 n0 n1 first
      → Adds whole next e0 e1 n0 n1 first
  added_so_far-all codes i whole next e0 e1 n0 n1 first past so_far =
      let is : so_far.rest ≡ whole = sym (at_drop_all (λ l. backward (map code_view l) so_far.rest) codes i past) ∙ so_far.is_whole in
      subst (λ z. Adds z next e0 e1 n0 n1 first) is so_far.added

  -- the ways that were gone through, and those that are left
  pub record WaysAdded (cs : List (Code E)) (whole : Code E) (next : List ℕ) (before after : Exits) (n m : Vec (Node E)) (first : Vec ℕ) : Type 0 where
    pub others : Option (Code E)
    pub is_whole : one_of cs others ≡ whole
    pub added : Adds (one_of [] others) next before after n m first

  pub ways_added-none : (cs : List (Code E)) (next : List ℕ) (e : Exits) (n : Vec (Node E)) (first : Vec ℕ) → first.items ≡ [] → WaysAdded cs (one_of cs None) next e e n n first
  ways_added-none cs next e n first is = record { others = None; is_whole = refl; added = adds_none (repeats skip) next e n first refl refl is }

  -- one more way, before the others
  adds_way : (c : Code E) (others : Option (Code E)) (next : List ℕ) (e0 e1 e2 : Exits) (n0 n1 n2 : Vec (Node E)) (first own both : Vec ℕ)
      → Adds (one_of [] others) next e0 e1 n0 n1 first
      → Adds c next e1 e2 n1 n2 own
      → both.items ≡ own.items ++ first.items
      → Adds (or_another c others) next e0 e2 n0 n2 both
  adds_way c None next e0 e1 e2 n0 n1 n2 first own both so_far of_c joins =
      let count = counted (repeats skip) next (leading e0) n0.items n1.items first.items so_far.adds in
      let f : length n1.items ≡ length n0.items = omega (arith, count) in
      let x = stays_there e0 e1 so_far.stay in
      record {
        adds = record {
          are_nodes = of_c.adds.are_nodes ∙ ap (λ z. z ++ nodes c) (so_far.adds.are_nodes ∙ append-nil (occurrences_of n0.items));
          are_linked =
              of_c.adds.are_linked
              ∙ ap (λ z. z ++ links (length n1.items) c next (leading e1)) (so_far.adds.are_linked ∙ append-nil (links_of n0.items))
              ∙ ap (λ z. links_of n0.items ++ z) (linked_on (length n1.items) (length n0.items) c next (leading e1) (leading e0) next f refl x);
          are_first =
              joins
              ∙ ap (λ z. own.items ++ z) so_far.adds.are_first
              ∙ append-nil own.items
              ∙ of_c.adds.are_first
              ∙ first_on (length n1.items) (length n0.items) c next (leading e1) (leading e0) next f refl x;
        };
        stay = of_c.stay ∙ so_far.stay;
      }
  adds_way c (Some d) next e0 e1 e2 n0 n1 n2 first own both so_far of_c joins =
      let f = counted d next (leading e0) n0.items n1.items first.items so_far.adds in
      let x = stays_there e0 e1 so_far.stay in
      record {
        adds = record {
          are_nodes =
              of_c.adds.are_nodes
              ∙ ap (λ z. z ++ nodes c) so_far.adds.are_nodes
              ∙ append_assoc (occurrences_of n0.items) (nodes d) (nodes c);
          are_linked =
              of_c.adds.are_linked
              ∙ ap (λ z. z ++ links (length n1.items) c next (leading e1)) so_far.adds.are_linked
              ∙ append_assoc (links_of n0.items) (links (length n0.items) d next (leading e0)) (links (length n1.items) c next (leading e1))
              ∙ ap (λ z. links_of n0.items ++ (links (length n0.items) d next (leading e0) ++ z)) (linked_on (length n1.items) (length n0.items + size d) c next (leading e1) (leading e0) next f refl x);
          are_first =
              joins
              ∙ ap (λ z. z ++ first.items) (of_c.adds.are_first ∙ first_on (length n1.items) (length n0.items + size d) c next (leading e1) (leading e0) next f refl x)
              ∙ ap (λ z. firsts (length n0.items + size d) c next (leading e0) ++ z) so_far.adds.are_first;
        };
        stay = of_c.stay ∙ so_far.stay;
      }

  pub ways_added-next : (codes : List (KeptCode E)) (i : ℕ) (c : KeptCode E) (whole : Code E) (next : List ℕ) (e0 e1 e2 : Exits) (n0 n1 n2 : Vec (Node E)) (first own both : Vec ℕ)
      → i < length codes
      → c ≡ get_or codes i c
      → WaysAdded (map code_view (drop i codes)) whole next e0 e1 n0 n1 first
      → Adds (code_view c) next e1 e2 n1 n2 own
      → both.items ≡ own.items ++ first.items
      → WaysAdded (map code_view (drop (i + 1) codes)) whole next e0 e2 n0 n2 both
  ways_added-next codes i c whole next e0 e1 e2 n0 n1 n2 first own both within is so_far of_c joins =
      record {
        others = Some (or_another (code_view c) so_far.others);
        is_whole = sym (ap (λ l. one_of (map code_view l) so_far.others) (drop_item codes i c within is)) ∙ so_far.is_whole;
        added = adds_way (code_view c) so_far.others next e0 e1 e2 n0 n1 n2 first own both so_far.added of_c joins;
      }

  pub ways_added-all : (codes : List (KeptCode E)) (i : ℕ) (whole : Code E) (next : List ℕ) (e0 e1 : Exits) (n0 n1 : Vec (Node E)) (first : Vec ℕ)
      → length codes ≤ i
      → WaysAdded (map code_view (drop i codes)) whole next e0 e1 n0 n1 first
      → Adds whole next e0 e1 n0 n1 first
  ways_added-all codes i whole next e0 e1 n0 n1 first past so_far =
      let is : one_of [] so_far.others ≡ whole = sym (at_drop_all (λ l. one_of (map code_view l) so_far.others) codes i past) ∙ so_far.is_whole in
      subst (λ z. Adds z next e0 e1 n0 n1 first) is so_far.added

  -- what is added to nothing is the graph of the code
  pub whole_graph : (c : Code E) (e0 e1 : Exits) (n0 n1 : Vec (Node E)) (starts : Vec ℕ)
      → e0.entries.items ≡ []
      → n0.items ≡ []
      → Adds c [] e0 e1 n0 n1 starts
      → graph_view record { nodes = n1; starts = starts } ≡ graph_of c
  whole_graph c e0 e1 n0 n1 starts no_exits no_nodes added =
      let empty : length n0.items ≡ 0 = ap length no_nodes in
      let leads : leading e0 ≡ no_exit = ap exits_view no_exits in
      let are_nodes : occurrences_of n1.items ≡ nodes c = added.adds.are_nodes ∙ ap (λ l. occurrences_of l ++ nodes c) no_nodes in
      let are_linked : links_of n1.items ≡ links 0 c [] no_exit =
      added.adds.are_linked
      ∙ ap (λ l. links_of l ++ links (length n0.items) c [] (leading e0)) no_nodes
      ∙ linked_on (length n0.items) 0 c [] (leading e0) no_exit [] empty refl leads in
      let are_first : starts.items ≡ firsts 0 c [] no_exit =
      added.adds.are_first ∙ first_on (length n0.items) 0 c [] (leading e0) no_exit [] empty refl leads in
      λ i. record { nodes = are_nodes i; next = are_linked i; starts = are_first i }

  pub graph_walks : (c : Code E) (g : Graph E) → g ≡ graph_of c → WalksAreLists c g
  graph_walks c g is = subst (λ z. WalksAreLists c z) (sym is) (graphs_walk E c)
