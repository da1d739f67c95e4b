-- Own cancel variables by what is kept of locals; what marks keep and write, one mark after the other.
use Rattle.std.proofs.Common.{◌≡◌, ℕ, ◌+◌, ◌<◌, ◌≤◌, Bool, true, false, true≢false, ◌||◌, if◌then◌else◌, List, [], ◌∷◌, ◌++◌, length, get_or, drop, map, flat_map, Option, Some, None, is_some, option_map, refl, sym, ap, ◌∙◌, subst, Bor, Vec, Global}
use Rattle.std.specs.List.{filter, list_any}
use Rattle.std.proofs.lemmas.List.{at_drop_all}
use Rattle.std.proofs.lemmas.List.Elements.{filter-append}
use Rattle.tree.proofs.Depths.{drop_item}
use Rattle.mentions.specs.declared.mark.BodyPlace.{BodyPlace as KeptBody}
use Rattle.mentions.specs.declared.mark.Mark.{Mark as KeptMark}
use Rattle.mentions.specs.declared.mark.Mark.TheVariants.{Mentions, OfFields, RunsLiteral, Returns, Opens, Closes}
use Rattle.mentions.specs.declared.mark.Mention.{Mention as KeptMention}
use Rattle.mentions.specs.declared.mark.FieldMark.{FieldMark as KeptField}
use Rattle.mentions.specs.declared.mark.FieldMark.TheVariants.{CallsField, WritesField, HandsOver, HandsLiteral, Renews, ImportsAll}
use Rattle.mentions.specs.declared.mark.FieldLeft.{FieldLeft as KeptLeft}
use Rattle.mentions.specs.declared.mark.Assigned.{Assigned as KeptAssigned}
use Rattle.mentions.specs.MarkViews.{body_view, field_mark_view, mark_view, marks_view}
use Rattle.meaning.specs.Mentions.{BodyPlace, Mention, FieldMark, calls_field, writes_field, hands_over, hands_literal, renews, imports_all, Mark, mentions, of_fields, runs_literal, returns, opens, closes}
use Rattle.meaning.specs.Tracked.{has_field, Placed, placed, Local}
use Rattle.meaning.specs.Uses.{Seen, is_cancel, is_own, tracked_kind}
use Rattle.meaning.specs.Kept.{Element, owned, field_value, kept_in, carried, kept_element, keeps_by_mark, keeps_there, is_of_body}
use Rattle.tracked.specs.LocalViews.{SeenLocal, bodies_at, entry_of, tracked_kind_of_entry}
use Rattle.kept.specs.declared.row.Keep.{Keep as KeptKeep}
use Rattle.kept.specs.declared.gathered.Gathered.{Gathered}
use Rattle.kept.specs.KeptViews.{element_keeps, is_carried, owned_entry, field_keeps, is_there, keep_view, write_view, writes_there, keeps_among, writes_among, AddsKeeps, GathersMark, Gathers}
use Rattle.kept_forms.proofs.AddedParts.{adds_none_of, adds_next, all_there}

-- Own cancel variables

abbrev owned_some : List BodyPlace → Option SeenLocal → Option ℕ
owned_some bs None = None
owned_some bs (Some e) = owned_entry bs e

owned_of : (s : Seen) (bs : List BodyPlace) (o : Option Local) (e : SeenLocal) → Some e ≡ option_map (entry_of s) o
    → owned_entry bs e ≡ owned s bs o
owned_of s bs None e is = cc
owned_of s bs (Some l) e is = ap (owned_some bs) is

pub owned_found : (s : Seen) (bs : List BodyPlace) (o : Option Local) (number : Option ℕ) (e : SeenLocal)
    → Some e ≡ option_map (entry_of s) o → number ≡ owned_entry bs e → number ≡ owned s bs o
owned_found s bs o number e is owns = owns ∙ owned_of s bs o e is

pub none_owned : (s : Seen) (bs : List BodyPlace) (o : Option Local) → None ≡ option_map (entry_of s) o → None ≡ owned s bs o
none_owned s bs None is = refl
none_owned s bs (Some l) is = cc

-- whether it is a cancel variable

abbrev cancel_some : Option SeenLocal → Bool
cancel_some None = false
cancel_some (Some e) = is_cancel (tracked_kind_of_entry e)

pub cancel_found : (s : Seen) (o : Option Local) (e : SeenLocal) → Some e ≡ option_map (entry_of s) o → (is : Bool)
    → is ≡ is_cancel (tracked_kind_of_entry e) → is ≡ is_cancel (tracked_kind s o)
cancel_found s None e is b cancels = cc
cancel_found s (Some l) e is b cancels = cancels ∙ ap cancel_some is

pub none_cancels : (s : Seen) (o : Option Local) → None ≡ option_map (entry_of s) o → false ≡ is_cancel (tracked_kind s o)
none_cancels s None is = refl
none_cancels s (Some l) is = cc

-- What marks keep

-- of a list that each element adds to, what passes is what each adds that passes
module _ {X Y : Type 0} (p : Y → Bool) (f : X → List Y) where
  pub one_filtered : (x : X) (xs : List X)
      → filter p (flat_map f (x ∷ xs)) ≡ filter p (f x) ++ filter p (flat_map f xs)
  one_filtered x xs = filter-append p (f x) (flat_map f xs)

pub elements_keep : (s : Seen) (bs : List BodyPlace) (x : Option ℕ) (es : List Element)
    → element_keeps s bs x es ≡ filter (is_there s bs) (flat_map (kept_element s bs x) es)
elements_keep s bs x [] = refl
elements_keep s bs x (e ∷ es) =
    ap (λ l. filter (is_there s bs) (kept_element s bs x e) ++ l) (elements_keep s bs x es)
    ∙ sym (one_filtered (is_there s bs) (kept_element s bs x) e es)

pub carried_kept : (s : Seen) (bs : List BodyPlace) (x : Option ℕ) (e : Element)
    → kept_in (carried s bs e) x e.field ≡ kept_element s bs x e
carried_kept s bs x e = by (has_field s.known.fields e.field)
  where
    by : (b : Bool)
        → kept_in (if b then field_value s bs e else None) x e.field
        ≡ (if b then kept_in (field_value s bs e) x e.field else [])
    by true = refl
    by false = refl

-- elements that put nothing into a field that keeps

carried_not : (s : Seen) (bs : List BodyPlace) (x : Option ℕ) (e : Element) (es : List Element) (v : Option ℕ)
    → carried s bs e ≡ v → (is_some v || list_any (is_carried s bs) es) ≡ false
    → (list_any (is_carried s bs) es ≡ false → [] ≡ element_keeps s bs x es) → [] ≡ element_keeps s bs x (e ∷ es)
carried_not s bs x e es (Some v) is none rest = absurd (true≢false none)
carried_not s bs x e es None is none rest =
    rest none
    ∙ ap (λ ks. filter (is_there s bs) ks ++ element_keeps s bs x es)
    (ap (λ v. kept_in v x e.field) (sym is) ∙ carried_kept s bs x e)

pub none_carried : (s : Seen) (bs : List BodyPlace) (x : Option ℕ) (es : List Element)
    → list_any (is_carried s bs) es ≡ false → [] ≡ element_keeps s bs x es
none_carried s bs x [] none = refl
none_carried s bs x (e ∷ es) none = carried_not s bs x e es (carried s bs e) refl none (none_carried s bs x es)

pub fields_keep : (s : Seen) (bs : List BodyPlace) (site : ℕ) (m : FieldMark)
    → field_keeps s bs m ≡ keeps_by_mark s bs (of_fields site m)
fields_keep s bs site (calls_field f) = refl
fields_keep s bs site (writes_field l None) = refl
fields_keep s bs site (writes_field l (Some a)) = refl
fields_keep s bs site (hands_over taker e) = refl
fields_keep s bs site (hands_literal taker at) = refl
fields_keep s bs site (renews number) = refl
fields_keep s bs site imports_all = refl

pub some_seen : {X Y : Type 0} (f : X → Y) (o : Option X) → is_some o ≡ is_some (option_map f o)
some_seen f None = refl
some_seen f (Some x) = refl

-- a mark that keeps and writes nothing
pub gathers_nothing : (s : Seen) (bs : List BodyPlace) (m : Mark) (g : Gathered) → [] ≡ keeps_there s bs m
    → [] ≡ writes_there s bs m → GathersMark s bs m g g
gathers_nothing s bs m g keeps writes =
    record { keeps = adds_none_of _ _ keeps; writes = adds_none_of _ _ writes }

-- a mention that keeps something, and writes nothing
pub gathers_kept : (s : Seen) (bs : List BodyPlace) (m : Mark) (n : Mention) → mentions n ≡ m → (g : Gathered)
    → (keeps : Vec KeptKeep Global) → AddsKeeps g.keeps.items keeps.items (keeps_there s bs (mentions n))
    → GathersMark s bs m g record { keeps = keeps; writes = g.writes }
gathers_kept s bs m n is g keeps adds =
    subst (λ x. GathersMark s bs x g record { keeps = keeps; writes = g.writes }) is
    record { keeps = adds; writes = adds_none_of _ [] refl }

pub no_write : (s : Seen) (bs : List BodyPlace) (m : KeptField) (g : Gathered)
    → ((l : KeptLeft) (a : Option KeptAssigned) → m ≡ WritesField l a → ⊥)
    → (site : ℕ) → GathersMark s bs (of_fields site (field_mark_view m)) g g
no_write s bs (WritesField l a) g not site = absurd (not l a refl)
no_write s bs (CallsField f) g not site = gathers_nothing s bs _ g refl refl
no_write s bs (HandsOver taker e) g not site = gathers_nothing s bs _ g refl refl
no_write s bs (HandsLiteral taker at) g not site = gathers_nothing s bs _ g refl refl
no_write s bs (Renews number) g not site = gathers_nothing s bs _ g refl refl
no_write s bs ImportsAll g not site = gathers_nothing s bs _ g refl refl

pub no_mark : (s : Seen) (bs : List BodyPlace) (m : KeptMark) (g : Gathered)
    → ((n : KeptMention) → m ≡ Mentions n → ⊥) → ((site : ℕ) (f : Bor KeptField) → m ≡ OfFields site f → ⊥)
    → GathersMark s bs (mark_view m) g g
no_mark s bs (Mentions n) g mention field = absurd (mention n refl)
no_mark s bs (OfFields site f) g mention field = absurd (field site f refl)
no_mark s bs (RunsLiteral moment site at) g mention field = gathers_nothing s bs _ g refl refl
no_mark s bs (Returns at es) g mention field = gathers_nothing s bs _ g refl refl
no_mark s bs (Opens b) g mention field = gathers_nothing s bs _ g refl refl
no_mark s bs Closes g mention field = gathers_nothing s bs _ g refl refl

pub nothing_stored : (s : Seen) (bs : List BodyPlace) (m : KeptField)
    → ((l : KeptLeft) (a : Option KeptAssigned) → m ≡ WritesField l a → ⊥)
    → [] ≡ filter (is_there s bs) (field_keeps s bs (field_mark_view m))
nothing_stored s bs (WritesField l a) not = absurd (not l a refl)
nothing_stored s bs (CallsField f) not = refl
nothing_stored s bs (HandsOver taker e) not = refl
nothing_stored s bs (HandsLiteral taker at) not = refl
nothing_stored s bs (Renews number) not = refl
nothing_stored s bs ImportsAll not = refl

pub nothing_kept : (s : Seen) (bs : List BodyPlace) (m : KeptMark) → ((n : KeptMention) → m ≡ Mentions n → ⊥)
    → ((site : ℕ) (f : Bor KeptField) → m ≡ OfFields site f → ⊥) → [] ≡ keeps_there s bs (mark_view m)
nothing_kept s bs (Mentions n) mention field = absurd (mention n refl)
nothing_kept s bs (OfFields site f) mention field = absurd (field site f refl)
nothing_kept s bs (RunsLiteral moment site at) mention field = refl
nothing_kept s bs (Returns at es) mention field = refl
nothing_kept s bs (Opens b) mention field = refl
nothing_kept s bs Closes mention field = refl

-- one mark, and then those after it
module _ (s : Seen) (bs : List BodyPlace) where
  keeps-mark : (m : Mark) (ms : List Mark)
      → keeps_among s (placed bs (m ∷ ms))
      ≡ keeps_there s (bodies_at bs m) m ++ keeps_among s (placed (bodies_at bs m) ms)
  unfolding placed
  keeps-mark (mentions m) ms = refl
  keeps-mark (of_fields site m) ms = refl
  keeps-mark (runs_literal moment site at) ms = refl
  keeps-mark (returns at es) ms = refl
  keeps-mark (opens b) ms = refl
  keeps-mark closes ms = refl

  writes-mark : (m : Mark) (ms : List Mark)
      → writes_among s (placed bs (m ∷ ms))
      ≡ writes_there s (bodies_at bs m) m ++ writes_among s (placed (bodies_at bs m) ms)
  unfolding placed
  writes-mark (mentions m) ms = refl
  writes-mark (of_fields site m) ms = refl
  writes-mark (runs_literal moment site at) ms = refl
  writes-mark (returns at es) ms = refl
  writes-mark (opens b) ms = refl
  writes-mark closes ms = refl

-- what was gathered so far, with what the marks that are left keep and write, is the whole
pub record GathersSoFar (s : Seen) (left all : List Placed) (gathered : Gathered) : Type 0 where
  pub keeps : map keep_view gathered.keeps.items ++ keeps_among s left ≡ keeps_among s all
  pub writes : map write_view gathered.writes.items ++ writes_among s left ≡ writes_among s all

-- a loop over the marks
module _ (s : Seen) (marks : List KeptMark) (i : ℕ) where
  pub gathers_next : (m : KeptMark) → i < length marks → m ≡ get_or marks i m → (before after slice : List KeptBody)
      → map body_view after ≡ bodies_at (map body_view before) (mark_view m) → slice ≡ after
      → (all : List Placed) (g h : Gathered) → GathersMark s (map body_view slice) (mark_view m) g h
      → GathersSoFar s (placed (map body_view before) (marks_view (drop i marks))) all g
      → GathersSoFar s (placed (map body_view after) (marks_view (drop (i + 1) marks))) all h
  gathers_next m within is before after slice around same all g h adds so_far =
      let rest : List Mark = marks_view (drop (i + 1) marks) in
      let bs : List BodyPlace = bodies_at (map body_view before) (mark_view m) in
      let adds_there : GathersMark s bs (mark_view m) g h =
      subst (λ b. GathersMark s b (mark_view m) g h) around
      (subst (λ (b : List KeptBody). GathersMark s (map body_view b) (mark_view m) g h) same adds) in
      let so_far_there : GathersSoFar s (placed (map body_view before) (mark_view m ∷ rest)) all g =
      subst (λ (ms : List KeptMark). GathersSoFar s (placed (map body_view before) (marks_view ms)) all g)
      (drop_item marks i m within is) so_far in
      subst (λ b. GathersSoFar s (placed b rest) all h) (sym around)
      record {
        keeps = adds_next _ _ _ _ _ _ so_far_there.keeps (keeps-mark s (map body_view before) (mark_view m) rest) adds_there.keeps;
        writes = adds_next _ _ _ _ _ _ so_far_there.writes (writes-mark s (map body_view before) (mark_view m) rest) adds_there.writes;
      }

  pub gathers_last : length marks ≤ i → (bs : List BodyPlace) (all : List Placed) → all ≡ s.marks → (g : Gathered)
      → GathersSoFar s (placed bs (marks_view (drop i marks))) all g → Gathers s g
  unfolding placed
  gathers_last past bs all same g so_far =
      let none : placed bs (marks_view (drop i marks)) ≡ [] =
      at_drop_all (λ (ms : List KeptMark). placed bs (marks_view ms)) marks i past in
      record {
        keeps = all_there _ _ _ (ap (keeps_among s) none) so_far.keeps ∙ ap (keeps_among s) same;
        writes = all_there _ _ _ (ap (writes_among s) none) so_far.writes ∙ ap (writes_among s) same;
      }

-- before the first mark nothing was gathered
pub gathers_first : (s : Seen) (bs : List BodyPlace) → bs ≡ [] → (ms : List Mark) (g : Gathered)
    → g.keeps.items ≡ [] → g.writes.items ≡ [] → GathersSoFar s (placed bs ms) (placed [] ms) g
gathers_first s bs outside ms g no_keeps no_writes = record {
  keeps = ap (λ ks. map keep_view ks ++ keeps_among s (placed bs ms)) no_keeps ∙ ap (λ b. keeps_among s (placed b ms)) outside;
  writes = ap (λ ws. map write_view ws ++ writes_among s (placed bs ms)) no_writes ∙ ap (λ b. writes_among s (placed b ms)) outside;
}

-- Which body declares a local

abbrev declared_some : List BodyPlace → Option SeenLocal → Bool
declared_some bs None = false
declared_some bs (Some e) = is_own e.local bs

pub declared_found : (s : Seen) (bs : List BodyPlace) (o : Option Local) (e : SeenLocal)
    → Some e ≡ option_map (entry_of s) o → (is : Bool) → is ≡ is_own e.local bs → is ≡ is_of_body bs o
declared_found s bs None e is b own = cc
declared_found s bs (Some l) e is b own = own ∙ ap (declared_some bs) is

pub none_declared : (s : Seen) (bs : List BodyPlace) (o : Option Local) → None ≡ option_map (entry_of s) o
    → false ≡ is_of_body bs o
none_declared s bs None is = refl
none_declared s bs (Some l) is = cc
