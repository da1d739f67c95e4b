-- The walks of a code's graph are its lists.
use Rattle.std.proofs.Common.{◌≡◌, ℕ, zero, suc, ◌+◌, List, [], ◌∷◌, ◌++◌, Some, length, map, slice_get, Contains, refl, sym, ap, ◌∙◌, subst, arith, length-append}
use Rattle.meaning.specs.Code.{Occurrence, Way, Code, skip, does, leave, then_code, either, repeats, up_to}
use Rattle.meaning.specs.Lists.{Exit, stopped, falls, leaves, Lists, not_begun, skipped, done, just_done, left, ends_in_first, goes_on, in_first, in_second, ends_in_turn, turns_again, arrives, passes}
use Rattle.meaning.proofs.Membership.{contains_nil}
use Rattle.flow.specs.GraphOfCode.{arriving, no_exit, size, nodes, firsts, links}
use Rattle.flow.specs.Walks.{graph_of, Walk, arrives as walk_ends, goes_on as walk_goes_on, GraphsWalk}
use Rattle.flow.proofs.FirstOnes.{Rests, at_end, in_front, behind, of_one, of_other, in_turn, inside, begins_of_list, list_of_begins, rests_of_begins, rests_on}
use Rattle.flow.proofs.Numbered.{Numbered, plain, numbered, leads, leads_firsts, after, led, Led, by_its_own, by_leaving, led_by}

-- Lists of a code and of the one that is numbered

map_append : {A B : Type 0} (f : A → B) (xs ys : List A) → map f (xs ++ ys) ≡ map f xs ++ map f ys
map_append f [] ys = refl
map_append f (x ∷ xs) ys = ap (λ z. f x ∷ z) (map_append f xs ys)

abbrev plain_code : {E : Type 0} → Code (Numbered E) → Code E
plain_code skip = skip
plain_code (does o) = does (plain o)
plain_code (leave w) = leave w
plain_code (then_code a b) = then_code (plain_code a) (plain_code b)
plain_code (either a b) = either (plain_code a) (plain_code b)
plain_code (repeats a) = repeats (plain_code a)
plain_code (up_to w a) = up_to w (plain_code a)

plain_of_numbered : {E : Type 0} (f : ℕ) (c : Code E) → plain_code (numbered f c) ≡ c
plain_of_numbered f skip = refl
plain_of_numbered f (does o) = refl
plain_of_numbered f (leave w) = refl
plain_of_numbered f (then_code a b) =
    ap (λ z. then_code z (plain_code (numbered f b))) (plain_of_numbered (f + size b) a) ∙ ap (then_code a) (plain_of_numbered f b)
plain_of_numbered f (either a b) =
    ap (λ z. either z (plain_code (numbered f b))) (plain_of_numbered (f + size b) a) ∙ ap (either a) (plain_of_numbered f b)
plain_of_numbered f (repeats a) = ap repeats (plain_of_numbered f a)
plain_of_numbered f (up_to w a) = ap (up_to w) (plain_of_numbered f a)

plain_list : {E : Type 0} {d : Code (Numbered E)} {t : List (Occurrence (Numbered E))} {x : Exit} → Lists d t x → Lists (plain_code d) (map plain t) x
plain_list not_begun = not_begun
plain_list skipped = skipped
plain_list done = done
plain_list just_done = just_done
plain_list left = left
plain_list (ends_in_first l n) = ends_in_first (plain_list l) n
plain_list (goes_on {t = t} {u = u} l m e) = goes_on (plain_list l) (plain_list m) (ap (map plain) e ∙ map_append plain t u)
plain_list (in_first l) = in_first (plain_list l)
plain_list (in_second l) = in_second (plain_list l)
plain_list (ends_in_turn l n) = ends_in_turn (plain_list l) n
plain_list (turns_again {t = t} {u = u} l m e) = turns_again (plain_list l) (plain_list m) (ap (map plain) e ∙ map_append plain t u)
plain_list (arrives l) = arrives (plain_list l)
plain_list (passes l n) = passes (plain_list l) n

record NumberedList {E : Type 0} (f : ℕ) (c : Code E) (t : List (Occurrence E)) (x : Exit) : Type 0 where
  occurrences : List (Occurrence (Numbered E))
  are_plain : map plain occurrences ≡ t
  goes : Lists (numbered f c) occurrences x

joined_lists : {E : Type 0} (p q : List (Occurrence (Numbered E))) (t u r : List (Occurrence E)) → map plain p ≡ t → map plain q ≡ u → r ≡ t ++ u → map plain (p ++ q) ≡ r
joined_lists p q t u r f g e = map_append plain p q ∙ ap (λ z. z ++ map plain q) f ∙ ap (λ z. t ++ z) g ∙ sym e

numbered_list : {E : Type 0} (f : ℕ) {c : Code E} {t : List (Occurrence E)} {x : Exit} → Lists c t x → NumberedList f c t x
numbered_list f not_begun = record { occurrences = []; are_plain = refl; goes = not_begun }
numbered_list f skipped = record { occurrences = []; are_plain = refl; goes = skipped }
numbered_list f done = record { occurrences = _ ∷ []; are_plain = refl; goes = done }
numbered_list f just_done = record { occurrences = _ ∷ []; are_plain = refl; goes = just_done }
numbered_list f left = record { occurrences = []; are_plain = refl; goes = left }
numbered_list f (ends_in_first {a} {b} l n) =
    let w = numbered_list (f + size b) l in
    record { occurrences = w.occurrences; are_plain = w.are_plain; goes = ends_in_first w.goes n }
numbered_list f (goes_on {a} {b} {t = t} {u = u} {r = r} l m e) =
    let w = numbered_list (f + size b) l in
    let v = numbered_list f m in
    record {
      occurrences = w.occurrences ++ v.occurrences;
      are_plain = joined_lists w.occurrences v.occurrences t u r w.are_plain v.are_plain e;
      goes = goes_on w.goes v.goes refl;
    }
numbered_list f (in_first {a} {b} l) =
    let w = numbered_list (f + size b) l in
    record { occurrences = w.occurrences; are_plain = w.are_plain; goes = in_first w.goes }
numbered_list f (in_second {a} {b} l) =
    let w = numbered_list f l in
    record { occurrences = w.occurrences; are_plain = w.are_plain; goes = in_second w.goes }
numbered_list f (ends_in_turn l n) =
    let w = numbered_list f l in
    record { occurrences = w.occurrences; are_plain = w.are_plain; goes = ends_in_turn w.goes n }
numbered_list f (turns_again {a} {t = t} {u = u} {r = r} l m e) =
    let w = numbered_list f l in
    let v = numbered_list f m in
    record {
      occurrences = w.occurrences ++ v.occurrences;
      are_plain = joined_lists w.occurrences v.occurrences t u r w.are_plain v.are_plain e;
      goes = turns_again w.goes v.goes refl;
    }
numbered_list f (arrives l) =
    let w = numbered_list f l in
    record { occurrences = w.occurrences; are_plain = w.are_plain; goes = arrives w.goes }
numbered_list f (passes l n) =
    let w = numbered_list f l in
    record { occurrences = w.occurrences; are_plain = w.are_plain; goes = passes w.goes n }

-- Where a node stands

get_left : {A : Type 0} (xs ys : List A) (k : ℕ) (v : A) → slice_get xs k ≡ Some v → slice_get (xs ++ ys) k ≡ Some v
get_left [] ys k v e = cc
get_left (x ∷ xs) ys zero v e = e
get_left (x ∷ xs) ys (suc k) v e = get_left xs ys k v e

get_right : {A : Type 0} (xs ys : List A) (k j : ℕ) (v : A) → j ≡ length xs + k → slice_get ys k ≡ Some v → slice_get (xs ++ ys) j ≡ Some v
get_right [] ys k j v e h =
    let same : j ≡ k = omega (arith, e) in
    subst (λ z. slice_get ys z ≡ Some v) (sym same) h
get_right (x ∷ xs) ys k zero v e h =
    let none : ⊥ = omega (arith, e) in
    absurd none
get_right (x ∷ xs) ys k (suc j) v e h = get_right xs ys k j v (omega (arith, e)) h

pub nodes_size : {E : Type 0} (c : Code E) → length (nodes c) ≡ size c
nodes_size skip = refl
nodes_size (does o) = refl
nodes_size (leave w) = refl
nodes_size (then_code a b) = omega (arith, length-append (nodes b) (nodes a), nodes_size a, nodes_size b)
nodes_size (either a b) = omega (arith, length-append (nodes b) (nodes a), nodes_size a, nodes_size b)
nodes_size (repeats a) = nodes_size a
nodes_size (up_to w a) = nodes_size a

links_size : {E : Type 0} (f : ℕ) (c : Code E) (next : List ℕ) (exits : Way → List ℕ) → length (links f c next exits) ≡ size c
links_size f skip next exits = refl
links_size f (does o) next exits = refl
links_size f (leave w) next exits = refl
links_size f (then_code a b) next exits =
    let of_b = links_size f b next exits in
    let of_a = links_size (f + size b) a (firsts f b next exits) exits in
    omega (arith, length-append (links f b next exits) (links (f + size b) a (firsts f b next exits) exits), of_a, of_b)
links_size f (either a b) next exits =
    let of_b = links_size f b next exits in
    let of_a = links_size (f + size b) a next exits in
    omega (arith, length-append (links f b next exits) (links (f + size b) a next exits), of_a, of_b)
links_size f (repeats a) next exits = links_size f a (firsts f a [] exits) exits
links_size f (up_to w a) next exits = links_size f a next (arriving w next exits)

-- a node, and what can follow it where this code is left
record Stands {E : Type 0} (f : ℕ) (ns : List (Occurrence E)) (ls : List (List ℕ)) (o : Occurrence (Numbered E)) (ms : List ℕ) : Type 0 where
  place : ℕ
  is_there : o.event.id ≡ f + place
  is_node : slice_get ns place ≡ Some (plain o)
  is_linked : slice_get ls place ≡ Some ms

stands_left : {E : Type 0} (f : ℕ) (ns more : List (Occurrence E)) (ls others : List (List ℕ)) (o : Occurrence (Numbered E)) (ms : List ℕ) → Stands f ns ls o ms → Stands f (ns ++ more) (ls ++ others) o ms
stands_left f ns more ls others o ms s =
    record {
      place = s.place;
      is_there = s.is_there;
      is_node = get_left ns more s.place (plain o) s.is_node;
      is_linked = get_left ls others s.place ms s.is_linked;
    }

stands_right : {E : Type 0} (f n : ℕ) (more ns : List (Occurrence E)) (others ls : List (List ℕ)) (o : Occurrence (Numbered E)) (ms : List ℕ) → length more ≡ n → length others ≡ n → Stands (f + n) ns ls o ms → Stands f (more ++ ns) (others ++ ls) o ms
stands_right f n more ns others ls o ms e g s =
    record {
      place = n + s.place;
      is_there = omega (arith, s.is_there);
      is_node = get_right more ns s.place (n + s.place) (plain o) (omega (arith, e)) s.is_node;
      is_linked = get_right others ls s.place (n + s.place) ms (omega (arith, g)) s.is_linked;
    }

stands : {E : Type 0} (f : ℕ) (c : Code E) (o : Occurrence (Numbered E)) (r : Code (Numbered E)) (next : List ℕ) (exits : Way → List ℕ) → Rests (numbered f c) o r → Stands f (nodes c) (links f c next exits) o (leads r next exits)
stands f skip o r next exits h = elim h [ ]
stands f (does o) _ _ next exits at_end = record { place = 0; is_there = omega arith; is_node = refl; is_linked = refl }
stands f (leave w) o r next exits h = elim h [ ]
stands f (then_code a b) o _ next exits (in_front {r = r} h) =
    let leading = leads_firsts f b next exits in
    let s = stands (f + size b) a o r (firsts f b next exits) exits h in
    subst (λ z. Stands f (nodes b ++ nodes a) (links f b next exits ++ links (f + size b) a (firsts f b next exits) exits) o (leads r z exits)) (sym leading)
    (stands_right f (size b) (nodes b) (nodes a) (links f b next exits) (links (f + size b) a (firsts f b next exits) exits) o _ (nodes_size b) (links_size f b next exits) s)
stands f (then_code a b) o r next exits (behind h) =
    stands_left f (nodes b) (nodes a) (links f b next exits) (links (f + size b) a (firsts f b next exits) exits) o _ (stands f b o r next exits h)
stands f (either a b) o r next exits (of_one h) =
    stands_right f (size b) (nodes b) (nodes a) (links f b next exits) (links (f + size b) a next exits) o _ (nodes_size b) (links_size f b next exits) (stands (f + size b) a o r next exits h)
stands f (either a b) o r next exits (of_other h) =
    stands_left f (nodes b) (nodes a) (links f b next exits) (links (f + size b) a next exits) o _ (stands f b o r next exits h)
stands f (repeats a) o _ next exits (in_turn {r = r} h) =
    let leading = leads_firsts f a [] exits in
    subst (λ z. Stands f (nodes a) (links f a (firsts f a [] exits) exits) o (leads r z exits)) (sym leading) (stands f a o r (firsts f a [] exits) exits h)
stands f (up_to w a) o _ next exits (inside {r = r} h) = stands f a o r next (arriving w next exits) h

-- Walks

there : (n k : ℕ) → n ≡ 0 + k → k ≡ n
there n k e = omega (arith, e)

module _ {E : Type 0} (c : Code E) where
  walk_of : (t : List (Occurrence (Numbered E))) (o : Occurrence (Numbered E)) (r : Code (Numbered E)) → Rests (numbered 0 c) o r → Lists r t stopped → Walk (graph_of c) o.event.id (plain o ∷ map plain t)
  walk_of [] o r h l =
      let s = stands 0 c o r [] no_exit h in
      walk_ends (subst (λ z. slice_get (nodes c) z ≡ Some (plain o)) (there _ _ s.is_there) s.is_node)
  walk_of (u ∷ t) o r h l =
      let s = stands 0 c o r [] no_exit h in
      let b = begins_of_list l u t refl in
      walk_goes_on
      (subst (λ z. slice_get (nodes c) z ≡ Some (plain o)) (there _ _ s.is_there) s.is_node)
      (subst (λ z. slice_get (links 0 c [] no_exit) z ≡ Some (leads r [] no_exit)) (there _ _ s.is_there) s.is_linked)
      (led b.begins [] no_exit)
      (walk_of t u b.rest (rests_on h (rests_of_begins b.begins)) b.goes)

  walk_of_list : (t : List (Occurrence (Numbered E))) (o : Occurrence E) (u : List (Occurrence E)) → map plain t ≡ o ∷ u → Lists (numbered 0 c) t stopped → (n : ℕ) × Contains (firsts 0 c [] no_exit) n × Walk (graph_of c) n (o ∷ u)
  walk_of_list [] o u e l = cc
  walk_of_list (p ∷ t) o u e l =
      let b = begins_of_list l p t refl in
      (p.event.id, subst (λ z. Contains z p.event.id) (leads_firsts 0 c [] no_exit) (led b.begins [] no_exit), subst (λ z. Walk (graph_of c) p.event.id z) e (walk_of t p b.rest (rests_of_begins b.begins) b.goes))

  -- after a node, the rest of a walk is a list of what is left
  record LeftList (r : Code (Numbered E)) (o : Occurrence E) (t : List (Occurrence E)) : Type 0 where
    occurrences : List (Occurrence (Numbered E))
    are_plain : o ∷ map plain occurrences ≡ t
    goes : Lists r occurrences stopped

  after_nothing : (x : Exit) (m : ℕ) → Contains (after x [] no_exit) m → ⊥
  after_nothing stopped m h = contains_nil m h
  after_nothing falls m h = contains_nil m h
  after_nothing (leaves w) m h = contains_nil m h

  some_inj : {A : Type 0} (x y : A) → Some x ≡ Some y → x ≡ y
  some_inj x y e = cc

  list_of_walk : {n : ℕ} {t : List (Occurrence E)} → Walk (graph_of c) n t → (o : Occurrence (Numbered E)) (r : Code (Numbered E)) → o.event.id ≡ n → Rests (numbered 0 c) o r → LeftList r (plain o) t
  list_of_walk {n} (walk_ends {o = p} e) o r g h =
      let s = stands 0 c o r [] no_exit h in
      let is_node = subst (λ z. slice_get (nodes c) z ≡ Some (plain o)) (there _ _ s.is_there ∙ g) s.is_node in
      let same = some_inj (plain o) p (sym is_node ∙ e) in
      record { occurrences = []; are_plain = ap (λ z. z ∷ []) same; goes = not_begun }
  list_of_walk {n} (walk_goes_on {m = m} {o = p} {ms = ms} {t = t} e f k w) o r g h =
      let s = stands 0 c o r [] no_exit h in
      let is_node = subst (λ z. slice_get (nodes c) z ≡ Some (plain o)) (there _ _ s.is_there ∙ g) s.is_node in
      let same = some_inj (plain o) p (sym is_node ∙ e) in
      let is_linked = subst (λ z. slice_get (links 0 c [] no_exit) z ≡ Some (leads r [] no_exit)) (there _ _ s.is_there ∙ g) s.is_linked in
      let linked = some_inj ms (leads r [] no_exit) (sym f ∙ is_linked) in
      onward (λ u v. list_of_walk w u v) (led_by r [] no_exit m (subst (λ z. Contains z m) linked k)) same
    where
      onward : ((u : Occurrence (Numbered E)) (v : Code (Numbered E)) → u.event.id ≡ m → Rests (numbered 0 c) u v → LeftList v (plain u) t) → Led r [] no_exit m → plain o ≡ p → LeftList r (plain o) (p ∷ t)
      onward further (by_leaving x l a) same = absurd (after_nothing x m a)
      onward further (by_its_own u v b j) same =
          let q = further u v j (rests_on h (rests_of_begins b)) in
          record {
            occurrences = u ∷ q.occurrences;
            are_plain = ap (λ z. z ∷ (plain u ∷ map plain q.occurrences)) same ∙ ap (λ z. p ∷ z) q.are_plain;
            goes = list_of_begins b q.goes;
          }

  list_of_start : (n : ℕ) (t : List (Occurrence E)) → Led (numbered 0 c) [] no_exit n → Walk (graph_of c) n t → Lists c t stopped
  list_of_start n t (by_leaving x l a) w = absurd (after_nothing x n a)
  list_of_start n t (by_its_own o r b e) w =
      let q = list_of_walk w o r e (rests_of_begins b) in
      subst (λ z. Lists c z stopped) q.are_plain (subst (λ z. Lists z (map plain (o ∷ q.occurrences)) stopped) (plain_of_numbered 0 c) (plain_list (list_of_begins b q.goes)))

pub graphs_walk : (E : Type 0) → GraphsWalk E
graphs_walk E c = record {
  each_list = λ o t l. let w = numbered_list 0 l in walk_of_list c w.occurrences o t w.are_plain w.goes;
  each_walk = λ n t h w. list_of_start c n t (led_by (numbered 0 c) [] no_exit n (subst (λ z. Contains z n) (sym (leads_firsts 0 c [] no_exit)) h)) w;
}
