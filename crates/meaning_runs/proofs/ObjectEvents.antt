-- What the rules of objects give of each event: a variable that is kept is declared by the body, and kept in its one
-- object, and so is what a return hands on in an object.
use Rattle.std.proofs.Common.{inl, inr, ◌≡◌, ℕ, ◌+◌, Bool, true, false, List, [], ◌∷◌, ◌++◌, Option, Some, None, Contains, refl, sym, ap, ◌∙◌, subst}
use Rattle.std.specs.Prelude.{◌==◌, ◌&&◌, not, if◌then◌else◌, is_some}
use Rattle.std.proofs.lemmas.Bool.{and_from, eq-eqb, false≢true}
use Rattle.std.proofs.lemmas.Option.{none-some}
use Rattle.std.proofs.lemmas.List.Elements.{Contains-append_cases}
use Rattle.tree.specs.Syntax.{Expressions, no_expression, expression_and, Signature, signature_of}
use Rattle.meaning.specs.Code.{Occurrence}
use Rattle.meaning.specs.Lists.{Reaches}
use Rattle.meaning.specs.FunctionFacts.{VariableKind, cancel, group, CancelResult, Item, items_of, item_type}
use Rattle.meaning.specs.Mentions.{marks_by, file_marks, as_bare, RowForm, defines, assigns, declares, Role, elsewhere, as_key, exposed, pointed_to, found_nil, found_error, called, called_in_brackets, argument, returned, left, names_type, new_literal, parameter_pointer, Mention, BodyPlace, Mark, mentions, of_fields, runs_literal, returns, opens, closes}
use Rattle.meaning.specs.Tracked.{some_keep, Known, ObjectLeft, declared_by, Placed, placed, parameter, receiver, result, in_block, Local, item_local, parameter_role, parameter_locals, receiver_locals, only_cancel, result_locals, receiver_items, signature_locals, row_typed, role_typed, declared_local, locals_there, locals_of, find_local}
use Rattle.meaning.specs.Objects.{object_left, object_rows, field_locals, kind_by_role, points_in, is_bound_again, object_kind, local_named}
use Rattle.meaning.specs.Uses.{Seen, seen_in, found, tracked_kind, cancel_type_of, is_given_as, is_body, body_gives, is_own, Handed, Event, other, obtain, obtain_kept, renew, keep, call_kept, defer_kept, give, give_field, clear, call, defer_call, pass, defer_pass, lend, start, try, wait, defer_wait, make, defer_literal, Sent, go_call, go_pass, go_literal, go, return_event}
use Rattle.meaning.specs.Kept.{Keep, is_of_body, object_kind_of, keeps_by_mark, keeps_there, handed_in_fields}
use Rattle.meaning.specs.BodyEvents.{handed_at, handed_there, item_variable, handed_item, handed_on, mark_events}
use Rattle.meaning.proofs.Membership.{contains_nil}
use Rattle.meaning_packages.specs.PathFaults.{is_declared}
use Rattle.meaning_reports.specs.Loaded.{known_in, trees_of}
use Rattle.meaning_reports.proofs.ImportsOf.{given_by, only_one}
use Rattle.meaning_runs.specs.Bodies.{Program, Body, IsOf, code_of, variables_in}
use Rattle.meaning_runs.specs.EventSources.{HasSource, says_nothing, falls_off, of_mark, IsBound}
use Rattle.meaning_runs.specs.World.{own_cell}
use Rattle.meaning_runs.proofs.Bindings.{same_body}
use Rattle.meaning_runs.proofs.Captured.{any_true}
use Rattle.meaning_runs.proofs.EventSources.{events_have_sources}
use Rattle.meaning_runs.proofs.KeptEvents.{unfiltered, in_if, IsItsObject, IsPutInto, row_of_file, keep_of_file, IsOwnLocal, owned_is, keep_is_own, IsRowHere, carried_is, IsOfObject, by_renew, by_call, by_deferred, by_give, by_keep, by_outer, by_obtaining, by_gift, field_events_are, IsHandedWell, handed_in_fields_well}
use Rattle.meaning_runs.proofs.SentEvents.{literal_event_fits}
use Rattle.meaning_runs.proofs.MentionEvents.{is_told_of_mention, mention_events_fit, variable_fits}
use Rattle.meaning_runs.proofs.OwnVariables.{binds_variable}
use Rattle.meaning_runs.proofs.Places.{eqb_is}
use Rattle.meaning_runs.proofs.TrackedBindings.{of_tree}
use Rattle.meaning_runs.proofs.WhoStarts.{is_declared_in}

-- The locals of a file, with what is known of its rows into fields or without

module _ (known : Known) (lefts : ℕ → Option ObjectLeft) where
  abbrev Told : Known
  Told = record known { object_lefts = lefts }

  parameters_same : (b : BodyPlace) (k : ℕ) (is : List Item) → parameter_locals Told b k is ≡ parameter_locals known b k is
  parameters_same b k [] = refl
  parameters_same b k (i ∷ is) =
      ap (λ l. item_local b (parameter_role (parameter k) i) (item_type known.means i) i.name ++ l)
      (parameters_same b (k + 1) is)

  receivers_same : (b : BodyPlace) (is : List Item) → receiver_locals Told b is ≡ receiver_locals known b is
  receivers_same b [] = refl
  receivers_same b (i ∷ is) =
      ap (λ l. item_local b (parameter_role receiver i) (item_type known.means i) i.name ++ l) (receivers_same b is)

  results_same : (b : BodyPlace) (is : List Item) → result_locals Told b is ≡ result_locals known b is
  results_same b [] = refl
  results_same b (i ∷ is) =
      ap (λ l. item_local b result (only_cancel (item_type known.means i)) i.name ++ l) (results_same b is)

  signature_same : (b : BodyPlace) (s : Signature) → signature_locals Told b s ≡ signature_locals known b s
  signature_same b (signature_of ps rs brackets) =
      ap (λ l. l ++ result_locals Told b (items_of rs)) (parameters_same b 0 (items_of ps))
      ∙ ap (λ l. parameter_locals known b 0 (items_of ps) ++ l) (results_same b (items_of rs))

  form_same : (form : RowForm) → row_typed Told form ≡ row_typed known form
  form_same (defines ns) = refl
  form_same (assigns ls) = refl
  form_same (declares keyword ns t) = refl

  role_same : (r : Role) → role_typed Told r ≡ role_typed known r
  role_same (left k row) = form_same row.form
  role_same elsewhere = refl
  role_same as_key = refl
  role_same exposed = refl
  role_same pointed_to = refl
  role_same (found_nil nil) = refl
  role_same (found_error nil row) = refl
  role_same (called c) = refl
  role_same called_in_brackets = refl
  role_same (argument k x c) = refl
  role_same (returned k) = refl
  role_same (names_type row) = refl
  role_same (new_literal row) = refl
  role_same parameter_pointer = refl

  declared_same : (m : Mention) (bodies : List BodyPlace) (o : Option ℕ)
      → declared_local Told m bodies o ≡ declared_local known m bodies o
  declared_same m [] o = refl
  declared_same m (b ∷ bs) None = refl
  declared_same m (b ∷ bs) (Some number) =
      ap (λ typed. record {
        number = number;
        name = m.named.name;
        at = m.named.at;
        role = in_block;
        typed = typed;
        body = b.at;
      } ∷ []) (role_same m.role)

  there_same : (bodies : List BodyPlace) (mark : Mark) → locals_there Told bodies mark ≡ locals_there known bodies mark
  there_same bodies (mentions m) = declared_same m bodies (declared_by known m)
  there_same bodies (of_fields site m) = refl
  there_same bodies (runs_literal moment site at) = refl
  there_same bodies (returns at es) = refl
  there_same bodies (opens b) =
      ap (λ l. l ++ signature_locals Told b b.signature) (receivers_same b (receiver_items b.receiver))
      ∙ ap (λ l. receiver_locals known b (receiver_items b.receiver) ++ l) (signature_same b b.signature)
  there_same bodies closes = refl

  locals_same : (ps : List Placed) → locals_of Told ps ≡ locals_of known ps
  unfolding locals_of
  locals_same [] = refl
  locals_same (p ∷ ps) =
      ap (λ l. l ++ locals_of Told ps) (there_same p.bodies p.mark)
      ∙ ap (λ l. locals_there known p.bodies p.mark ++ l) (locals_same ps)

found_first : (xs ys : List Local) (n : ℕ) (l : Local) → find_local xs n ≡ Some l → find_local (xs ++ ys) n ≡ Some l
found_first [] ys n l e = absurd (none-some l e)
found_first (x ∷ xs) ys n l e = by (x.number == n) e (found_first xs ys n l)
  where
    by : (b : Bool) → (if b then Some x else find_local xs n) ≡ Some l
        → (find_local xs n ≡ Some l → find_local (xs ++ ys) n ≡ Some l)
        → (if b then Some x else find_local (xs ++ ys) n) ≡ Some l
    by true h further = h
    by false h further = further h

-- an object is a local of the body
object_is_found : (k : Known) (ms : List Mark) (bodies : List BodyPlace) (x : ℕ)
    → is_some (object_kind_of (seen_in k ms) bodies x) ≡ true
    → (l : Local) × (found (seen_in k ms) (Some x) ≡ Some l) × (is_own l bodies ≡ true)
object_is_found k ms [] x h = absurd (false≢true h)
object_is_found k ms (b ∷ bs) x h = by (find_local (locals_of seen.known marks) x) refl h
  where
    seen : Seen
    seen = seen_in k ms

    marks : List Placed
    marks = placed [] ms

    in_body : (c d : Bool) (l : Local) → is_some (if c && d then kind_by_role l.role (points_in b l.number) else None) ≡ true
        → c ≡ true
    in_body true d l q = refl
    in_body false d l q = absurd (false≢true q)

    by : (o : Option Local) → find_local (locals_of seen.known marks) x ≡ o
        → is_some (object_kind seen.known marks b o) ≡ true
        → (l : Local) × (found (seen_in k ms) (Some x) ≡ Some l) × (is_own l (b ∷ bs) ≡ true)
    by None e q = absurd (false≢true q)
    by (Some l) e q =
        let same = eqb_is l.body b.at (in_body (l.body == b.at) (not (is_bound_again seen.known marks l.number)) l q) in
        let rows = object_rows k marks in (
          l,
          found_first (locals_of k marks) (field_locals rows rows) x l
              (ap (λ ls. find_local ls x) (sym (locals_same k (object_left rows rows) marks)) ∙ e),
          eq-eqb b.at l.body (sym same),
        )

-- Variables that are kept

-- what the body declares in its block
is_declared_there : (b : Body) (bodies : List BodyPlace) (v : ℕ) (own : IsOwnLocal b.file bodies v)
    → own.local.body ≡ b.place.at
    → is_declared_in b v ≡ true
is_declared_there b bodies v own here =
    let bound : IsBound b (own_cell v) = record {
      local = own.local;
      is_found = own.is_found;
      is_it = own.is_it;
      is_declared_here = here;
      is_in_block = own.is_in_block;
    } in
    let x = binds_variable b (own_cell v) bound cancel own.is_cancel_variable in
    any_true (λ y. (y.number == v) && is_declared y.role) (variables_in b) x.variable x.is_of_body
    (and_from (x.variable.number == v) (is_declared x.variable.role) (eq-eqb x.variable.number v x.is_it) x.is_declared_here)

own_of_body : (b : Body) (bodies : List BodyPlace) (v : ℕ) → is_body b.place.at bodies ≡ true
    → IsOwnLocal b.file bodies v
    → is_declared_in b v ≡ true
own_of_body b bodies v here own =
    is_declared_there b bodies v own (same_body bodies own.local.body b.place.at own.is_own_there here)

-- what is kept in an object of a body is declared by that body
row_of_body : (p : Program) (b : Body) (bodies : List BodyPlace) → IsOf p b → is_body b.place.at bodies ≡ true
    → (k : Keep)
    → IsRowHere b.file bodies k
    → is_declared_in b k.variable ≡ true
row_of_body p b bodies of here k row =
    let file = of_tree (known_in p.packages p.tables of.loaded) 0 (trees_of of.loaded) b.file of.is_file in
    by (found b.file (Some k.object)) refl row.1
    (subst (λ (s : Seen). (q : List BodyPlace) → is_some (object_kind_of s q k.object) ≡ true
    → (l : Local) × (found s (Some k.object) ≡ Some l) × (is_own l q ≡ true)) file.2 (λ q. object_is_found file.0 (marks_by file.0.edition (some_keep file.0.fields) (file_marks file.1)) q k.object))
  where
    by : (o : Option Local) → found b.file (Some k.object) ≡ o → is_of_body bodies o ≡ true
        → ((q : List BodyPlace) → is_some (object_kind_of b.file q k.object) ≡ true
        → (l : Local) × (found b.file (Some k.object) ≡ Some l) × (is_own l q ≡ true))
        → is_declared_in b k.variable ≡ true
    by None e own there = absurd (false≢true own)
    by (Some l) e own there =
        let its = row_of_file b.file k row.0 in
        let w = given_by (λ (q : Placed). keeps_there b.file q.bodies q.mark) b.file.marks its.keep its.is_among in
        let mine = keep_is_own b.file w.0.bodies w.0.mark its.keep w.2 in
        let object = there w.0.bodies (ap (λ n. is_some (object_kind_of b.file w.0.bodies n)) (sym its.is_object)
        ∙ (unfiltered (λ (q : Keep). is_some (object_kind_of b.file w.0.bodies q.object)) (keeps_by_mark b.file w.0.bodies w.0.mark) its.keep w.2).1) in
        let same : object.0.body ≡ l.body = same_local object.0 l (sym object.1 ∙ e) in
        let one = same_body w.0.bodies mine.local.body object.0.body mine.is_own_there object.2 in
        subst (λ n. is_declared_in b n ≡ true) its.is_variable
        (is_declared_there b w.0.bodies its.keep.variable mine (one ∙ same ∙ same_body bodies l.body b.place.at own here))
      where
        same_local : (x y : Local) → Some x ≡ Some y → x.body ≡ y.body
        same_local x y q = cc

-- What a return hands on

module _ (seen : Seen) (bodies : List BodyPlace) where
  by_itself : (h : Handed) → h.object ≡ None → IsHandedWell seen bodies h
  by_itself h e x q = absurd (none-some x (sym e ∙ q))

  kind_well : (k : ℕ) (gives : List CancelResult) (kind : Option VariableKind) (l : Local) (h : Handed)
      → Contains (handed_at seen k gives kind l) h
      → IsHandedWell seen bodies h
  kind_well k gives None l h c = absurd (contains_nil h c)
  kind_well k gives (Some group) l h c = absurd (contains_nil h c)
  kind_well k gives (Some cancel) l h c =
      let one : Handed = record { number = l.number; position = k; object = None } in
      by_itself h (ap (λ (q : Handed). q.object)
      (sym (only_one one h (in_if (is_given_as k (cancel_type_of seen l) gives) (one ∷ []) h c))))

  local_well : (k : ℕ) (gives : List CancelResult) (o : Option Local) (h : Handed)
      → Contains (handed_there seen k gives o) h
      → IsHandedWell seen bodies h
  local_well k gives None h c = absurd (contains_nil h c)
  local_well k gives (Some l) h c = kind_well k gives (tracked_kind seen (Some l)) l h c

  handed_well : (k : ℕ) (es : Expressions) (h : Handed) → Contains (handed_on seen bodies k es) h → IsHandedWell seen bodies h
  handed_well k no_expression h c = absurd (contains_nil h c)
  handed_well k (expression_and e es) h c =
      let gives = body_gives seen.known bodies in
      elim (Contains-append_cases (handed_item seen gives k e)
      (handed_in_fields seen bodies k e ++ handed_on seen bodies (k + 1) es) h c) [
        | inl x ↦ local_well k gives (found seen (item_variable seen.known (as_bare e))) h x
        | inr more ↦ elim (Contains-append_cases (handed_in_fields seen bodies k e) (handed_on seen bodies (k + 1) es) h more) [
          | inl x ↦ handed_in_fields_well seen bodies k e h x
          | inr x ↦ handed_well (k + 1) es h x
        ]
      ]

-- Events

-- the variable is declared by the body, and that is its object
pub record IsKeptThere (b : Body) (v x : ℕ) : Type 0 where
  pub is_its_object : IsItsObject b.file v x
  pub is_declared_here : is_declared_in b v ≡ true

-- what comes from a return hands on what is kept in its object
abbrev pub IsHandedFrom : Body → Handed → Type 0
IsHandedFrom b h = (x : ℕ) → h.object ≡ Some x → IsItsObject b.file h.number x

abbrev pub IsKeptWell : Body → Event → Type 0
IsKeptWell b (obtain_kept u f n x) = IsPutInto b.file u.number x
IsKeptWell b (keep v x) = IsPutInto b.file v x × (is_declared_in b v ≡ true)
IsKeptWell b (renew v x) = IsKeptThere b v x
IsKeptWell b (call_kept v x) = IsKeptThere b v x
IsKeptWell b (defer_kept v x) = IsKeptThere b v x
IsKeptWell b (give v x) = IsKeptThere b v x
IsKeptWell b (give_field v) = is_declared_in b v ≡ true
IsKeptWell b (go (go_pass f xs)) = (x : Sent) → Contains xs x → is_declared_in b x.number ≡ true
IsKeptWell b (return_event handed) = (h : Handed) → Contains handed h → IsHandedFrom b h
IsKeptWell b e = Unit {0}

told_is_well : (b : Body) (e : Event) → is_told_of_mention e ≡ true → IsKeptWell b e
told_is_well b other h = absurd (false≢true h)
told_is_well b (obtain u c n is_new) h = tt
told_is_well b (clear u) h = tt
told_is_well b (obtain_kept u f n x) h = absurd (false≢true h)
told_is_well b (renew v x) h = absurd (false≢true h)
told_is_well b (keep v x) h = absurd (false≢true h)
told_is_well b (call_kept v x) h = absurd (false≢true h)
told_is_well b (defer_kept v x) h = absurd (false≢true h)
told_is_well b (give v x) h = absurd (false≢true h)
told_is_well b (give_field v) h = absurd (false≢true h)
told_is_well b (call v) h = tt
told_is_well b (defer_call v) h = tt
told_is_well b (pass u c n) h = tt
told_is_well b (defer_pass u c n) h = tt
told_is_well b (lend g c n) h = tt
told_is_well b (start g literal) h = tt
told_is_well b (try g literal) h = tt
told_is_well b (wait g) h = tt
told_is_well b (defer_wait g) h = tt
told_is_well b (make u state) h = tt
told_is_well b (defer_literal at) h = absurd (false≢true h)
told_is_well b (go (go_call v)) h = tt
told_is_well b (go (go_pass f xs)) h = absurd (false≢true h)
told_is_well b (go (go_literal at)) h = absurd (false≢true h)
told_is_well b (return_event handed) h = absurd (false≢true h)

module _ (p : Program) (b : Body) (of : IsOf p b) (bodies : List BodyPlace) (here : is_body b.place.at bodies ≡ true)
    (mark : Mark) (among : Contains b.file.marks record { mark = mark; bodies = bodies }) where
  row_is_well : (k : Keep) → IsRowHere b.file bodies k → IsKeptThere b k.variable k.object
  row_is_well k row = record {
    is_its_object = row_of_file b.file k row.0;
    is_declared_here = row_of_body p b bodies of here k row;
  }

  object_is_well : (e : Event) → IsOfObject b.file bodies mark e → IsKeptWell b e
  object_is_well e (by_renew k h) = row_is_well k h
  object_is_well e (by_call k h) = row_is_well k h
  object_is_well e (by_deferred k h) = row_is_well k h
  object_is_well e (by_give k h) = row_is_well k h
  object_is_well e (by_keep k h fits) =
      (keep_of_file b.file bodies mark k among h, own_of_body b bodies k.variable here (keep_is_own b.file bodies mark k h))
  object_is_well e (by_outer k h fits) = own_of_body b bodies k.variable here (keep_is_own b.file bodies mark k h)
  object_is_well e (by_obtaining k site l a is h told) = keep_of_file b.file bodies mark k among h
  object_is_well e (by_gift x v c q) =
      own_of_body b bodies v here (owned_is b.file bodies (local_named b.file.known (Some x.value)) v (carried_is b.file bodies x v q))

module _ (p : Program) (b : Body) (of : IsOf p b) where
  mark_is_well : (bodies : List BodyPlace) (mark : Mark) → is_body b.place.at bodies ≡ true
      → Contains b.file.marks record { mark = mark; bodies = bodies }
      → (e : Event)
      → Contains (mark_events b.file bodies mark) e
      → IsKeptWell b e
  mark_is_well bodies (mentions m) here among e h =
      mention_events_fit (IsKeptWell b) b.file bodies m (λ v. tt)
      (object_is_well p b of bodies here (mentions m) among)
      (λ x is. subst (IsKeptWell b) (sym is.is_event) (λ y c. own_of_body b bodies y.number here (is.are_own y c)))
      (variable_fits (IsKeptWell b) b.file bodies m (λ second v. tt) (λ l found x told passed. told_is_well b x told)) e h
  mark_is_well bodies (of_fields site m) here among e h =
      object_is_well p b of bodies here (of_fields site m) among e (field_events_are b.file bodies site m e h)
  mark_is_well bodies (runs_literal moment site at) here among e h =
      literal_event_fits (IsKeptWell b) b.file.known.edition moment at tt tt e h
  mark_is_well bodies (returns at es) here among e h =
      subst (IsKeptWell b) (only_one (return_event (handed_on b.file bodies 0 es)) e h)
      (λ x c. handed_well b.file bodies 0 es x c)
  mark_is_well bodies (opens x) here among e h = absurd (contains_nil e h)
  mark_is_well bodies closes here among e h = absurd (contains_nil e h)

  source_is_well : (e : Event) → HasSource b e → IsKeptWell b e
  source_is_well e says_nothing = tt
  source_is_well e falls_off = λ h c. absurd (contains_nil h c)
  source_is_well e (of_mark mark among here h) = mark_is_well mark.bodies mark.mark here among e h

  pub events_keep_well : (t : List (Occurrence Event)) (o : Occurrence Event) → Reaches (code_of b) t o → IsKeptWell b o.event
  events_keep_well t o reached = source_is_well o.event (events_have_sources b t o reached)
