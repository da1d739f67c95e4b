-- What is known of a file's locals and rows doesn't depend on what left sides `x.f` stand for.
use Rattle.std.proofs.Common.{◌≡◌, ℕ, ◌+◌, ◌&&◌, ◌||◌, not, if◌then◌else◌, List, [], ◌∷◌, ◌++◌, Option, Some, None, flat_map, refl, sym, ap, ◌∙◌}
use Rattle.std.specs.Prelude.{◌==◌}
use Rattle.std.specs.List.{list_any}
use Rattle.tree.specs.Syntax.{Signature, signature_of}
use Rattle.meaning.specs.Declarations.{Meaning, local_name, import_name, function_name, package_name, universe_name}
use Rattle.meaning.specs.FunctionFacts.{Item, items_of, item_type, plain, with_cause, FunctionFacts}
use Rattle.meaning.specs.Mentions.{Named, RowForm, defines, assigns, declares, Row, Call, Role, left, Mention, BodyPlace, calls_field, writes_field, hands_over, hands_literal, renews, imports_all, Mark, mentions, of_fields, runs_literal, returns, opens, closes}
use Rattle.meaning.specs.Tracked.{Known, has_field, ObjectLeft, facts_meant, call_giving, only_call, fits, may_bind, row_giving, Placed, parameter, receiver, result, in_block, Local, item_local, parameter_role, parameter_locals, receiver_locals, only_cancel, result_locals, receiver_items, signature_locals, row_typed, role_typed, declared_by, declared_local, locals_there, locals_of, find_local, facts_giving, is_plain_maker, is_cause_maker, maker_giving}
use Rattle.meaning.specs.Objects.{binds_again, is_bound_again, points_to, declares_value, unaddressed, kind_by_role, points_in, object_kind, object_in, local_named, object_row, type_at, object_rows_there, object_rows}
use Rattle.tracked.specs.LocalViews.{unbound_local}
use Rattle.objects.specs.ObjectViews.{with_lefts}

module _ (known : Known) (lefts : ℕ → Option ObjectLeft) where
  abbrev other : Known
  other = with_lefts known lefts

  -- Locals

  row_typed-same : (form : RowForm) → row_typed other form ≡ row_typed known form
  row_typed-same (defines ns) = refl
  row_typed-same (assigns ls) = refl
  row_typed-same (declares keyword ns t) = refl

  role_typed-same : (r : Role) → role_typed other r ≡ role_typed known r
  role_typed-same (left k row) = row_typed-same row.form
  role_typed-same _ = refl

  declared_local-same : (m : Mention) (bs : List BodyPlace) (number : Option ℕ)
      → declared_local other m bs number ≡ declared_local known m bs number
  declared_local-same m [] number = refl
  declared_local-same m (b ∷ bs) None = refl
  declared_local-same m (b ∷ bs) (Some number) =
      ap (λ t. record {
        number = number;
        name = m.named.name;
        at = m.named.at;
        role = in_block;
        typed = t;
        body = b.at;
      } ∷ []) (role_typed-same m.role)

  parameters-same : (b : BodyPlace) (k : ℕ) (is : List Item) → parameter_locals other b k is ≡ parameter_locals known b k is
  parameters-same b k [] = refl
  parameters-same b k (i ∷ is) =
      ap (λ ls. item_local b (parameter_role (parameter k) i) (item_type known.means i) i.name ++ ls)
      (parameters-same b (k + 1) is)

  receivers-same : (b : BodyPlace) (is : List Item) → receiver_locals other b is ≡ receiver_locals known b is
  receivers-same b [] = refl
  receivers-same b (i ∷ is) =
      ap (λ ls. item_local b (parameter_role receiver i) (item_type known.means i) i.name ++ ls) (receivers-same b is)

  results-same : (b : BodyPlace) (is : List Item) → result_locals other b is ≡ result_locals known b is
  results-same b [] = refl
  results-same b (i ∷ is) =
      ap (λ ls. item_local b result (only_cancel (item_type known.means i)) i.name ++ ls) (results-same b is)

  signature-same : (b : BodyPlace) (s : Signature) → signature_locals other b s ≡ signature_locals known b s
  signature-same b (signature_of ps rs brackets) =
      λ i. parameters-same b 0 (items_of ps) i ++ results-same b (items_of rs) i

  there-same : (bs : List BodyPlace) (m : Mark) → locals_there other bs m ≡ locals_there known bs m
  there-same bs (mentions m) = declared_local-same m bs (declared_by known m)
  there-same bs (of_fields site m) = refl
  there-same bs (runs_literal moment site at) = refl
  there-same bs (returns at es) = refl
  there-same bs (opens b) = λ i. receivers-same b (receiver_items b.receiver) i ++ signature-same b b.signature i
  there-same bs closes = refl

  pub locals-same : (ps : List Placed) → locals_of other ps ≡ locals_of known ps
  unfolding locals_of
  locals-same [] = refl
  locals-same (p ∷ ps) = λ i. there-same p.bodies p.mark i ++ locals-same ps i

  -- Objects

  binds-same : (n : ℕ) (m : Mark) → binds_again other n m ≡ binds_again known n m
  binds-same n (mentions m) = refl
  binds-same n (of_fields site m) = refl
  binds-same n (runs_literal moment site at) = refl
  binds-same n (returns at es) = refl
  binds-same n (opens b) = refl
  binds-same n closes = refl

  again-same : (ps : List Placed) (n : ℕ) → is_bound_again other ps n ≡ is_bound_again known ps n
  again-same ps n = λ i. list_any (λ p. binds-same n p.mark i) ps

  pub unbound-same : (ps : List Placed) (n : ℕ) → unbound_local known ps n ≡ unbound_local other ps n
  unbound-same ps n =
      sym (λ i. if again-same ps n i then None else find_local (locals-same ps i) n)

  kind-same : (ps : List Placed) (b : BodyPlace) (o : Option Local) → object_kind other ps b o ≡ object_kind known ps b o
  kind-same ps b None = refl
  kind-same ps b (Some l) =
      ap (λ t. if (l.body == b.at) && not t then kind_by_role l.role (points_in b l.number) else None) (again-same ps l.number)

  object-same : (ps : List Placed) (bs : List BodyPlace) (number : Option ℕ)
      → object_in other ps bs number ≡ object_in known ps bs number
  object-same ps [] number = refl
  object-same ps (b ∷ bs) None = refl
  object-same ps (b ∷ bs) (Some n) =
      kind-same ps b (find_local (locals_of other ps) n)
      ∙ ap (λ (ls : List Local). object_kind known ps b (find_local ls n)) (locals-same ps)

  points-same : (n : ℕ) (m : Mark) → points_to other n m ≡ points_to known n m
  points-same n (mentions m) = refl
  points-same n (of_fields site m) = refl
  points-same n (runs_literal moment site at) = refl
  points-same n (returns at es) = refl
  points-same n (opens b) = refl
  points-same n closes = refl

  value-same : (n : ℕ) (m : Mark) → declares_value other n m ≡ declares_value known n m
  value-same n (mentions m) = refl
  value-same n (of_fields site m) = refl
  value-same n (runs_literal moment site at) = refl
  value-same n (returns at es) = refl
  value-same n (opens b) = refl
  value-same n closes = refl

  unaddressed-same : (ps : List Placed) (number : Option ℕ) → unaddressed other ps number ≡ unaddressed known ps number
  unaddressed-same ps None = refl
  unaddressed-same ps (Some n) = λ i.
      if list_any (λ p. value-same n p.mark i) ps || not (list_any (λ p. points-same n p.mark i) ps) then Some n else None

  -- Rows

  facts-same : (name : List ℕ) (selected : Option (List ℕ)) (meaning : Option Meaning)
      → facts_meant other name selected meaning ≡ facts_meant known name selected meaning
  facts-same name None None = refl
  facts-same name None (Some (local_name number kind)) = refl
  facts-same name None (Some (import_name path)) = refl
  facts-same name None (Some function_name) = refl
  facts-same name None (Some package_name) = refl
  facts-same name None (Some universe_name) = refl
  facts-same name (Some m) None = refl
  facts-same name (Some m) (Some (local_name number kind)) = refl
  facts-same name (Some m) (Some (import_name path)) = refl
  facts-same name (Some m) (Some function_name) = refl
  facts-same name (Some m) (Some package_name) = refl
  facts-same name (Some m) (Some universe_name) = refl

  giving-same : (c : Option Call) → call_giving other c ≡ call_giving known c
  giving-same None = refl
  giving-same (Some c) =
      ap (λ (f : Option FunctionFacts). if is_plain_maker known c.callee then Some (maker_giving plain)
      else if is_cause_maker known c.callee then Some (maker_giving with_cause) else facts_giving f)
      (facts-same c.callee.name c.callee.selected (known.means c.callee.at))

  row-same : (row : Row) → row_giving other row ≡ row_giving known row
  row-same row =
      ap (λ g. if may_bind row.standing row.form then fits row g else None) (giving-same (only_call row row.values))

  named-same : (n : Option Named) → local_named other n ≡ local_named known n
  named-same None = refl
  named-same (Some n) = refl

  rows_there-same : (ps : List Placed) (bs : List BodyPlace) (m : Mark)
      → object_rows_there other ps bs m ≡ object_rows_there known ps bs m
  rows_there-same ps bs (of_fields site (writes_field l (Some a))) =
      let number : unaddressed other ps (local_named other l.object) ≡ unaddressed known ps (local_named known l.object) =
      ap (unaddressed other ps) (named-same l.object) ∙ unaddressed-same ps (local_named known l.object) in
      let objects
      : object_in other ps bs (unaddressed other ps (local_named other l.object))
      ≡ object_in known ps bs (unaddressed known ps (local_named known l.object)) =
      ap (object_in other ps bs) number ∙ object-same ps bs (unaddressed known ps (local_named known l.object)) in λ i.
      if not l.has_brackets && has_field known.fields l.field.text
      then object_row bs l.field (named-same l.object i) (objects i) (type_at a.left_side (row-same a.row i))
      else []
  rows_there-same ps bs (of_fields site (writes_field l None)) = refl
  rows_there-same ps bs (of_fields site (calls_field f)) = refl
  rows_there-same ps bs (of_fields site (hands_over taker e)) = refl
  rows_there-same ps bs (of_fields site (hands_literal taker at)) = refl
  rows_there-same ps bs (of_fields site (renews number)) = refl
  rows_there-same ps bs (of_fields site imports_all) = refl
  rows_there-same ps bs (mentions m) = refl
  rows_there-same ps bs (runs_literal moment site at) = refl
  rows_there-same ps bs (returns at es) = refl
  rows_there-same ps bs (opens b) = refl
  rows_there-same ps bs closes = refl

  pub rows-same : (ps : List Placed) → object_rows other ps ≡ object_rows known ps
  rows-same ps = λ i. flat_map (λ (p : Placed). rows_there-same ps p.bodies p.mark i) ps
