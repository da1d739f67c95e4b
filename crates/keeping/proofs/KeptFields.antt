-- Which fields of a package keep is what the marks of its files say.
use Rattle.std.proofs.Common.{◌≡◌, ℕ, Bool, true, false, not, List, [], ◌∷◌, ◌++◌, map, Option, Some, None, is_some, refl, sym, ap, ◌∙◌, append_assoc}
use Rattle.std.specs.Prelude.{◌&&◌, ◌||◌, if◌then◌else◌, flat_map, codes}
use Rattle.std.specs.List.{list_any, filter}
use Rattle.std.specs.Str.{bytes_eq}
use Rattle.std.proofs.lemmas.Bool.{false≢true}
use Rattle.std.proofs.lemmas.List.Folds.{list_any-append}
use Rattle.tree.specs.Syntax.{Expression, missing_expression}
use Rattle.meaning.specs.FunctionFacts.{listed, means_universe}
use Rattle.meaning.specs.Mentions.{as_bare, BodyPlace, FieldLeft, Assigned, calls_field, writes_field, hands_over, hands_literal, renews, imports_all, Mark, mentions, of_fields, runs_literal, returns, opens, closes}
use Rattle.meaning.specs.Uses.{Seen, is_outside}
use Rattle.meaning.specs.Kept.{Element, Gift, named_gift, element_gift, gifts, role_fields, own_cancel, field_value, is_key, some_bare}
use Rattle.meaning.specs.KeepingFields.{called_there, called_fields, value_at, is_own_or_nil, is_by_giver, holds_after, may_keep, spoils, gift_elements, item_elements, is_put_by, puts, in_some_file, does_keep, keeping_fields}
use Rattle.meaning_reports.specs.MethodNames.{method_named}
use Rattle.keeping.specs.Notes.{one_note, element_notes, gift_notes, given_notes, written_note, notes_there, notes_in, puts_it}
use Rattle.noted_fields.specs.NotedFields.{Note, is_called, is_put, is_spoiled, is_filled, is_method, spoils_it, put_name, put_by, is_among, keeps, kept_there, kept_by}

-- Lists

pub any_flat : {X Y : Type 0} (t : Y → Bool) (h : X → List Y) (xs : List X)
    → list_any t (flat_map h xs) ≡ list_any (λ x. list_any t (h x)) xs
any_flat t h [] = refl
any_flat t h (x ∷ xs) = list_any-append t (h x) (flat_map h xs) ∙ ap (λ b. list_any t (h x) || b) (any_flat t h xs)

pub flat_more : {X Y : Type 0} (g : X → List Y) (xs ys : List X) → flat_map g (xs ++ ys) ≡ flat_map g xs ++ flat_map g ys
flat_more g [] ys = refl
flat_more g (x ∷ xs) ys =
    ap (λ l. g x ++ l) (flat_more g xs ys) ∙ sym (append_assoc (g x) (flat_map g xs) (flat_map g ys))

pub flat_flat : {X Y Z : Type 0} (g : Y → List Z) (h : X → List Y) (xs : List X)
    → flat_map g (flat_map h xs) ≡ flat_map (λ x. flat_map g (h x)) xs
flat_flat g h [] = refl
flat_flat g h (x ∷ xs) = flat_more g (h x) (flat_map h xs) ∙ ap (λ l. flat_map g (h x) ++ l) (flat_flat g h xs)

pub never : {X : Type 0} (t : X → Bool) → ((x : X) → t x ≡ false) → (xs : List X) → list_any t xs ≡ false
never t none [] = refl
never t none (x ∷ xs) = λ i. none x i || never t none xs i

pub nothing : {X Y : Type 0} (g : X → List Y) → ((x : X) → g x ≡ []) → (xs : List X) → flat_map g xs ≡ []
nothing g none [] = refl
nothing g none (x ∷ xs) = λ i. none x i ++ nothing g none xs i

-- where a test holds of no note of a method, and where such a note has no name
pub no_method_any : (t : Note → Bool) → ((f : List ℕ) → t (is_method f) ≡ false) → (ms : List (List ℕ))
    → list_any t (map is_method ms) ≡ false
no_method_any t none [] = refl
no_method_any t none (m ∷ ms) = λ i. none m i || no_method_any t none ms i

pub no_method_name : (g : Note → List (List ℕ)) → ((f : List ℕ) → g (is_method f) ≡ []) → (ms : List (List ℕ))
    → flat_map g (map is_method ms) ≡ []
no_method_name g none [] = refl
no_method_name g none (m ∷ ms) = λ i. none m i ++ no_method_name g none ms i

none_left : {X : Type 0} (t : X → Bool) → ((x : X) → t x ≡ false) → (xs : List X) → filter t xs ≡ []
none_left t none [] = refl
none_left t none (x ∷ xs) = ap (λ b. if b then x ∷ filter t xs else filter t xs) (none x) ∙ none_left t none xs

both_ways : (x : Bool) → (x && true) ≡ (x || false)
both_ways true = refl
both_ways false = refl

no_way : (x : Bool) → (x && false) ≡ false
no_way true = refl
no_way false = refl

pub or_nothing : (x : Bool) → (x || false) ≡ x
or_nothing true = refl
or_nothing false = refl

-- What is put

module _ (seen : Seen) (bodies : List BodyPlace) (f : List ℕ) where
  element_puts : (e : Element) → is_put_by seen f bodies e ≡ list_any (puts_it f) (element_notes seen bodies e)
  element_puts e = by (is_some (field_value seen bodies e))
    where
      by : (b : Bool) → (bytes_eq e.field f && b) ≡ list_any (puts_it f) (if b then is_put e.field ∷ [] else [])
      by true = both_ways (bytes_eq e.field f)
      by false = no_way (bytes_eq e.field f)

  elements_put : (es : List Element)
      → list_any (is_put_by seen f bodies) es ≡ list_any (puts_it f) (flat_map (element_notes seen bodies) es)
  elements_put es =
      (λ i. list_any (λ e. element_puts e i) es) ∙ sym (any_flat (puts_it f) (element_notes seen bodies) es)

  gifts_put : (gs : List Gift)
      → list_any (is_put_by seen f bodies) (gift_elements gs) ≡ list_any (puts_it f) (flat_map (gift_notes seen bodies) gs)
  gifts_put [] = refl
  gifts_put (named_gift n ∷ gs) = gifts_put gs
  gifts_put (element_gift e ∷ gs) =
      (λ i. element_puts e i || gifts_put gs i)
      ∙ sym (list_any-append (puts_it f) (element_notes seen bodies e) (flat_map (gift_notes seen bodies) gs))

  items_put : (es : List Expression)
      → list_any (is_put_by seen f bodies) (item_elements es) ≡ list_any (puts_it f) (flat_map (given_notes seen bodies) es)
  items_put [] = refl
  items_put (e ∷ es) =
      list_any-append (is_put_by seen f bodies) (gift_elements (gifts missing_expression e)) (item_elements es)
      ∙ (λ i. gifts_put (gifts missing_expression e) i || items_put es i)
      ∙ sym (list_any-append (puts_it f) (given_notes seen bodies e) (flat_map (given_notes seen bodies) es))

  written_puts : (l : FieldLeft) (by : Option Assigned)
      → (bytes_eq l.field.text f && holds_after seen bodies by) ≡ list_any (puts_it f) (one_note (written_note seen bodies l by))
  written_puts l by = of (holds_after seen bodies by) (may_keep seen bodies by)
    where
      of : (h k : Bool) → (bytes_eq l.field.text f && h)
          ≡ list_any (puts_it f)
          (one_note (if h then Some (is_put l.field.text) else if k then None else Some (is_spoiled l.field.text)))
      of true k = both_ways (bytes_eq l.field.text f)
      of false true = no_way (bytes_eq l.field.text f)
      of false false = no_way (bytes_eq l.field.text f)

  called_puts : (g : List ℕ) (b : Bool) → false ≡ list_any (puts_it f) (one_note (if b then None else Some (is_called g)))
  called_puts g true = refl
  called_puts g false = refl

  key_puts : (b : Bool) (name : List ℕ) (notes : List Note)
      → list_any (puts_it f) ((if b then is_filled name ∷ [] else []) ++ notes) ≡ list_any (puts_it f) notes
  key_puts true name notes = refl
  key_puts false name notes = refl

  mark_puts : (mark : Mark) → puts seen f bodies mark ≡ list_any (puts_it f) (notes_there seen bodies mark)
  mark_puts (mentions m) =
      elements_put (role_fields m.role)
      ∙ sym (key_puts (is_key m.role) m.named.name (flat_map (element_notes seen bodies) (role_fields m.role)))
  mark_puts (of_fields site (calls_field g)) = called_puts g (is_outside bodies)
  mark_puts (of_fields site (writes_field l by)) = written_puts l by
  mark_puts (of_fields site (hands_over taker e)) = gifts_put (gifts missing_expression e)
  mark_puts (of_fields site (hands_literal taker at)) = refl
  mark_puts (of_fields site (renews n)) = refl
  mark_puts (of_fields site imports_all) = refl
  mark_puts (runs_literal moment site at) = refl
  mark_puts (returns at es) = items_put (listed es)
  mark_puts (opens b) = sym (no_method_any (puts_it f) (λ g. refl) (method_named b.name b.receiver))
  mark_puts closes = refl

-- What is spoiled

module _ (seen : Seen) (bodies : List BodyPlace) where
  -- what holds a cancel function may keep it
  kept_if_held : (by : Option Assigned) → holds_after seen bodies by ≡ true → may_keep seen bodies by ≡ true
  kept_if_held None e = absurd (false≢true e)
  kept_if_held (Some a) e = by_giver (is_by_giver seen a.row) e
    where
      or_so : (b c : Bool) → c ≡ true → (b || c) ≡ true
      or_so true c is = refl
      or_so false c is = is

      of_value : (v : Option Expression) → is_some (own_cancel seen bodies (some_bare v)) ≡ true
          → is_own_or_nil seen bodies v ≡ true
      of_value None own = absurd (false≢true own)
      of_value (Some v) own = or_so (means_universe seen.known.means (codes "nil") (as_bare v)) _ own

      by_giver : (g : Bool) → (g || is_some (own_cancel seen bodies (some_bare (value_at a.row a.left_side)))) ≡ true
          → (g || is_own_or_nil seen bodies (value_at a.row a.left_side)) ≡ true
      by_giver true own = refl
      by_giver false own = of_value (value_at a.row a.left_side) own

module _ (seen : Seen) (bodies : List BodyPlace) (f : List ℕ) where
  element_spoils : (e : Element) → list_any (spoils_it f) (element_notes seen bodies e) ≡ false
  element_spoils e = by (is_some (field_value seen bodies e))
    where
      by : (b : Bool) → list_any (spoils_it f) (if b then is_put e.field ∷ [] else []) ≡ false
      by true = refl
      by false = refl

  elements_spoil : (es : List Element) → list_any (spoils_it f) (flat_map (element_notes seen bodies) es) ≡ false
  elements_spoil es =
      any_flat (spoils_it f) (element_notes seen bodies) es
      ∙ never (λ e. list_any (spoils_it f) (element_notes seen bodies e)) element_spoils es

  gift_spoils : (g : Gift) → list_any (spoils_it f) (gift_notes seen bodies g) ≡ false
  gift_spoils (named_gift n) = refl
  gift_spoils (element_gift e) = element_spoils e

  given_spoils : (e : Expression) → list_any (spoils_it f) (given_notes seen bodies e) ≡ false
  given_spoils e =
      any_flat (spoils_it f) (gift_notes seen bodies) (gifts missing_expression e)
      ∙ never (λ g. list_any (spoils_it f) (gift_notes seen bodies g)) gift_spoils (gifts missing_expression e)

  items_spoil : (es : List Expression) → list_any (spoils_it f) (flat_map (given_notes seen bodies) es) ≡ false
  items_spoil es =
      any_flat (spoils_it f) (given_notes seen bodies) es
      ∙ never (λ e. list_any (spoils_it f) (given_notes seen bodies e)) given_spoils es

  written_spoils : (l : FieldLeft) (by : Option Assigned)
      → (bytes_eq l.field.text f && not (may_keep seen bodies by))
      ≡ list_any (spoils_it f) (one_note (written_note seen bodies l by))
  written_spoils l by = of (holds_after seen bodies by) (may_keep seen bodies by) (kept_if_held seen bodies by)
    where
      of : (h k : Bool) → (h ≡ true → k ≡ true) → (bytes_eq l.field.text f && not k)
          ≡ list_any (spoils_it f)
          (one_note (if h then Some (is_put l.field.text) else if k then None else Some (is_spoiled l.field.text)))
      of true true so = no_way (bytes_eq l.field.text f)
      of true false so = absurd (false≢true (so refl))
      of false true so = no_way (bytes_eq l.field.text f)
      of false false so = both_ways (bytes_eq l.field.text f)

  called_spoils : (g : List ℕ) (b : Bool) → false ≡ list_any (spoils_it f) (one_note (if b then None else Some (is_called g)))
  called_spoils g true = refl
  called_spoils g false = refl

  key_spoils : (b : Bool) (name : List ℕ) (notes : List Note)
      → list_any (spoils_it f) ((if b then is_filled name ∷ [] else []) ++ notes) ≡ list_any (spoils_it f) notes
  key_spoils true name notes = refl
  key_spoils false name notes = refl

  mark_spoils : (mark : Mark) → spoils seen f bodies mark ≡ list_any (spoils_it f) (notes_there seen bodies mark)
  mark_spoils (mentions m) = sym
      (key_spoils (is_key m.role) m.named.name (flat_map (element_notes seen bodies) (role_fields m.role))
      ∙ elements_spoil (role_fields m.role))
  mark_spoils (of_fields site (calls_field g)) = called_spoils g (is_outside bodies)
  mark_spoils (of_fields site (writes_field l by)) = written_spoils l by
  mark_spoils (of_fields site (hands_over taker e)) = sym (given_spoils e)
  mark_spoils (of_fields site (hands_literal taker at)) = refl
  mark_spoils (of_fields site (renews n)) = refl
  mark_spoils (of_fields site imports_all) = refl
  mark_spoils (runs_literal moment site at) = refl
  mark_spoils (returns at es) = sym (items_spoil (listed es))
  mark_spoils (opens b) = sym (no_method_any (spoils_it f) (λ g. refl) (method_named b.name b.receiver))
  mark_spoils closes = refl

-- What is called

abbrev called_name : Note → List (List ℕ)
called_name (is_called f) = f ∷ []
called_name (is_put f) = []
called_name (is_spoiled f) = []
called_name (is_filled f) = []
called_name (is_method f) = []

module _ (seen : Seen) (bodies : List BodyPlace) where
  element_calls : (e : Element) → flat_map called_name (element_notes seen bodies e) ≡ []
  element_calls e = by (is_some (field_value seen bodies e))
    where
      by : (b : Bool) → flat_map called_name (if b then is_put e.field ∷ [] else []) ≡ []
      by true = refl
      by false = refl

  elements_call : (es : List Element) → flat_map called_name (flat_map (element_notes seen bodies) es) ≡ []
  elements_call es =
      flat_flat called_name (element_notes seen bodies) es
      ∙ nothing (λ e. flat_map called_name (element_notes seen bodies e)) element_calls es

  gift_calls : (g : Gift) → flat_map called_name (gift_notes seen bodies g) ≡ []
  gift_calls (named_gift n) = refl
  gift_calls (element_gift e) = element_calls e

  given_calls : (e : Expression) → flat_map called_name (given_notes seen bodies e) ≡ []
  given_calls e =
      flat_flat called_name (gift_notes seen bodies) (gifts missing_expression e)
      ∙ nothing (λ g. flat_map called_name (gift_notes seen bodies g)) gift_calls (gifts missing_expression e)

  items_call : (es : List Expression) → flat_map called_name (flat_map (given_notes seen bodies) es) ≡ []
  items_call es =
      flat_flat called_name (given_notes seen bodies) es
      ∙ nothing (λ e. flat_map called_name (given_notes seen bodies e)) given_calls es

  written_calls : (l : FieldLeft) (h k : Bool)
      → [] ≡ flat_map called_name
      (one_note (if h then Some (is_put l.field.text) else if k then None else Some (is_spoiled l.field.text)))
  written_calls l true k = refl
  written_calls l false true = refl
  written_calls l false false = refl

  field_calls : (g : List ℕ) (b : Bool)
      → (if b then [] else g ∷ []) ≡ flat_map called_name (one_note (if b then None else Some (is_called g)))
  field_calls g true = refl
  field_calls g false = refl

  key_calls : (b : Bool) (name : List ℕ) (notes : List Note)
      → flat_map called_name ((if b then is_filled name ∷ [] else []) ++ notes) ≡ flat_map called_name notes
  key_calls true name notes = refl
  key_calls false name notes = refl

  mark_calls : (mark : Mark) → called_there bodies mark ≡ flat_map called_name (notes_there seen bodies mark)
  mark_calls (mentions m) = sym
      (key_calls (is_key m.role) m.named.name (flat_map (element_notes seen bodies) (role_fields m.role))
      ∙ elements_call (role_fields m.role))
  mark_calls (of_fields site (calls_field g)) = field_calls g (is_outside bodies)
  mark_calls (of_fields site (writes_field l by)) = written_calls l (holds_after seen bodies by) (may_keep seen bodies by)
  mark_calls (of_fields site (hands_over taker e)) = sym (given_calls e)
  mark_calls (of_fields site (hands_literal taker at)) = refl
  mark_calls (of_fields site (renews n)) = refl
  mark_calls (of_fields site imports_all) = refl
  mark_calls (runs_literal moment site at) = refl
  mark_calls (returns at es) = sym (items_call (listed es))
  mark_calls (opens b) = sym (no_method_name called_name (λ g. refl) (method_named b.name b.receiver))
  mark_calls closes = refl

-- Files

pub file_puts : (f : List ℕ) (seen : Seen)
    → list_any (λ p. puts seen f p.bodies p.mark) seen.marks ≡ list_any (puts_it f) (notes_in seen)
file_puts f seen =
    (λ i. list_any (λ p. mark_puts seen p.bodies f p.mark i) seen.marks)
    ∙ sym (any_flat (puts_it f) (λ p. notes_there seen p.bodies p.mark) seen.marks)

file_spoils : (f : List ℕ) (seen : Seen)
    → list_any (λ p. spoils seen f p.bodies p.mark) seen.marks ≡ list_any (spoils_it f) (notes_in seen)
file_spoils f seen =
    (λ i. list_any (λ p. mark_spoils seen p.bodies f p.mark i) seen.marks)
    ∙ sym (any_flat (spoils_it f) (λ p. notes_there seen p.bodies p.mark) seen.marks)

file_calls : (seen : Seen) → called_fields seen ≡ flat_map called_name (notes_in seen)
file_calls seen =
    (λ i. flat_map (λ p. mark_calls seen p.bodies p.mark i) seen.marks)
    ∙ sym (flat_flat called_name (λ p. notes_there seen p.bodies p.mark) seen.marks)

module _ (seens : List Seen) where
  abbrev notes : List Note
  notes = flat_map notes_in seens

  keeps_so : (f : List ℕ)
      → does_keep seens f ≡ (list_any (puts_it f) notes && not (list_any (spoils_it f) notes))
  keeps_so f =
      let put : in_some_file (λ seen. puts seen f) seens ≡ list_any (puts_it f) notes =
      (λ i. list_any (λ seen. file_puts f seen i) seens) ∙ sym (any_flat (puts_it f) notes_in seens) in
      let spoiled : in_some_file (λ seen. spoils seen f) seens ≡ list_any (spoils_it f) notes =
      (λ i. list_any (λ seen. file_spoils f seen i) seens) ∙ sym (any_flat (spoils_it f) notes_in seens) in
      λ i. put i && not (spoiled i)

  calls_so : flat_map called_fields seens ≡ flat_map called_name notes
  calls_so = (λ i. flat_map (λ seen. file_calls seen i) seens) ∙ sym (flat_flat called_name notes_in seens)

  -- where nothing is put into a field, none keeps
  pub nothing_keeps : ((f : List ℕ) → list_any (puts_it f) notes ≡ false) → keeping_fields seens ≡ []
  nothing_keeps none =
      none_left (does_keep seens)
      (λ f. keeps_so f ∙ ap (λ b. b && not (list_any (spoils_it f) notes)) (none f))
      (flat_map called_fields seens)

put_so : (f : List ℕ) (n : Note) → list_any (λ g. bytes_eq g f) (put_name n) ≡ puts_it f n
put_so f (is_called g) = refl
put_so f (is_put g) = or_nothing (bytes_eq g f)
put_so f (is_spoiled g) = refl
put_so f (is_filled g) = refl
put_so f (is_method g) = refl

among_put : (f : List ℕ) (ns : List Note) → is_among (put_by ns) f ≡ list_any (puts_it f) ns
among_put f ns = any_flat (λ g. bytes_eq g f) put_name ns ∙ (λ i. list_any (λ n. put_so f n i) ns)

names_kept : (put : List (List ℕ)) (all ns : List Note)
    → filter (keeps put all) (flat_map called_name ns) ≡ flat_map (kept_there put all) ns
names_kept put all [] = refl
names_kept put all (is_called f ∷ ns) = by (keeps put all f) (names_kept put all ns)
  where
    by : (b : Bool) → filter (keeps put all) (flat_map called_name ns) ≡ flat_map (kept_there put all) ns
        → (if b then f ∷ filter (keeps put all) (flat_map called_name ns) else filter (keeps put all) (flat_map called_name ns))
        ≡ (if b then f ∷ [] else []) ++ flat_map (kept_there put all) ns
    by true same = ap (λ l. f ∷ l) same
    by false same = same
names_kept put all (is_put f ∷ ns) = names_kept put all ns
names_kept put all (is_spoiled f ∷ ns) = names_kept put all ns
names_kept put all (is_filled f ∷ ns) = names_kept put all ns
names_kept put all (is_method f ∷ ns) = names_kept put all ns

pub all_kept : (seens : List Seen) → keeping_fields seens ≡ kept_by (flat_map notes_in seens)
all_kept seens =
    let all : List Note = flat_map notes_in seens in
    let same : (f : List ℕ) → does_keep seens f ≡ keeps (put_by all) all f =
    λ f. keeps_so seens f ∙ ap (λ b. b && not (list_any (spoils_it f) all)) (sym (among_put f all)) in
    (λ i. filter (λ f. same f i) (calls_so seens i)) ∙ names_kept (put_by all) all all
