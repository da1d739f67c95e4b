-- Where no use means `context` or `errgroup`, no named function gives, and no name is `recover`, nothing is to be
-- found.
use Rattle.std.proofs.Common.{◌≡◌, ℕ, zero, suc, ◌+◌, inl, inr, Bool, true, false, List, [], ◌∷◌, ◌++◌, map, Contains, Option, Some, None, refl, sym, ap, ◌∙◌, subst}
use Rattle.std.specs.Prelude.{◌==◌, not, ◌&&◌, ◌||◌, if◌then◌else◌, is_some, option_map, flat_map, codes, length}
use Rattle.std.specs.List.{list_any, filter}
use Rattle.std.specs.Str.{bytes_eq}
use Rattle.std.proofs.lemmas.Option.{same_Some}
use Rattle.std.proofs.lemmas.List.Elements.{Contains-append_cases}
use Rattle.tree.specs.declared.edition.Edition.{Edition}
use Rattle.tree.specs.declared.edition.Edition.TheVariants.{First, Second}
use Rattle.tree.specs.declared.operator.DeclKeyword.TheVariants.{Const, Var, «Type» as type_keyword}
use Rattle.tree.specs.Syntax.{Identifier, Expression, expression_node, name_expression, basic_literal, function_literal, composite_literal, literal_value, key_value, parenthesized, selector_expression, index_expression, instance_expression, slice_expression, type_assertion, call_expression, star_expression, unary_expression, binary_expression, array_type, ellipsis_array_type, slice_type, map_type, channel_type, function_type, struct_type, interface_type, Expressions, no_expression, expression_and, OptionalExpression, missing_expression, present_expression, Signature, signature_of}
use Rattle.meaning.specs.Scopes.{is_blank}
use Rattle.meaning.specs.Jumps.{jumps_in}
use Rattle.meaning.specs.OuterBlocks.{or_else, has_any}
use Rattle.meaning.specs.Declarations.{Meaning, local_name, import_name, function_name, package_name, universe_name}
use Rattle.meaning.specs.Mentions.{as_bare, is_none_left, Moment, at_return, in_goroutine, Named, as_named, as_pointer, RowForm, defines, assigns, declares, Row, Call, Role, elsewhere, as_key, exposed, pointed_to, found_nil, found_error, called, called_in_brackets, argument, returned, left, names_type, new_literal, parameter_pointer, Mention, BodyPlace, FieldLeft, Assigned, FieldMark, calls_field, writes_field, hands_over, hands_literal, renews, imports_all, Mark, mentions, of_fields, runs_literal, returns, opens, closes, as_new_literal}
use Rattle.meaning.specs.FunctionFacts.{cancel_type, Meanings, context_path, errgroup_path, is_import, is_selected, is_of, is_of_some, cancel_type_of_name, is_group_pointer, tracked_type, Item, items_of, item_type, kind_of_type, TrackedType, cancel, cancel_or_group, group, group_or_none, plain, with_cause}
use Rattle.meaning.specs.Tracked.{Known, has_field, ObjectLeft, left_of_outer, left_of_new, facts_of, facts_meant, facts_giving, plain_makers, cause_makers, is_plain_maker, is_maker, giving_of, call_giving, variable_of, declared_by, may_bind, only_call, fits, row_giving, obtains_there, row_obtains, GroupState, is_group_type, is_new_call, made_by_call, made_by_value, made_by_values, if_first, made_by_type, made_by_pair, made_by_form, row_makes, lefts_of_expressions, local_at, Placed, outer, placed, LocalRole, Local, item_local, parameter_role, parameter_locals, receiver_locals, only_cancel, result_locals, receiver_items, signature_locals, body_locals, parameter, receiver, result, row_typed, role_typed, declared_local, locals_there, locals_of, find_local, is_variable, is_obtained_by, is_made_by, obtains_in, makes_in, kind_by_rows, kind_of_local, call_in, idle, is_of_universe, is_universe, live, maker_giving}
use Rattle.meaning.proofs.Membership.{contains_nil, contains_cases, contains_unmap}
use Rattle.meaning_reports.specs.UsedImports.{HandsTo, passes, defers, lends, goes}
use Rattle.meaning.specs.Objects.{unaddressed, ObjectKind, object_in, local_named, type_at, object_row, object_rows_there, object_rows}
use Rattle.meaning.specs.Kept.{Element, Gift, named_gift, element_gift, gifts, takes_it, is_block_role, owned, own_cancel, is_field_meant, field_value, kept_in, kept_element, role_fields, stored_name, stored_keeps, holder, keeps_by_mark, object_kind_of, keeps_there, belongs, by_variable, kept_of, is_of_body, kept_there, field_call, field_calls, renew_all, keep_event, keep_events, declared_at_name, declared_events, role_events, object_events, give_all, given_field, carried, gift_events, mentioned_in, in_order_of_place, first_mentions, obtained_event, written_events, field_events}
use Rattle.meaning.specs.KeepingFields.{is_obtained_in, carried_field, obtained_fields, given_elements, fields_kept_there, fields_kept}
use Rattle.meaning.specs.Uses.{Callee, callee_of, Sent, go_literal, cancel_type_of, is_under_go, takes, Handed, Event, call, defer_literal, go, return_event, error_events, lost_to, Outcome, Seen, seen_with, found, is_own, row_binds, are_cancels, field_obtained, field_left_faults, field_variable, field_faults, may_be_tracked, tracked_kind, is_outside, is_body, nothing, variable_outcome, role_outcome, row_outcome, mention_outcome, local_outcome, binding_at, giving_faults, errgroup_faults, recover_faults, mention_faults, is_cancel, is_result, result_faults, bound_again, fault_at, group_used_otherwise, if_not, is_made_or_parameter, last_fault, recover_used, goto_used}
use Rattle.meaning.specs.BodyEvents.{is_in_block, item_variable, sent_there, sent_from, function_sent, sent_in_role, sent_events, literal_events, Variable, mark_faults, outer_faults_of, faults_of, variable_there, variable_found, variables_among, variables_of, in_their_order, is_captured_there, forbids_recover, jump_faults, handed_on, mark_events, events_at, is_site}
use Rattle.silent_files.specs.SilentFiles.{IsSilent, GivesNothing, GivesByContext, tells, named_tells, call_tells, type_tells, items_tell, signature_tells, form_tells, row_tells, role_tells, field_tells, mark_tells, names_recover}
use Rattle.silent_files.specs.SilentLaws.{SilentFilesAreSilent, FilesWithoutMakersAreSilent}

-- tests of two parts

pub neither_first : (a b : Bool) → (a || b) ≡ false → a ≡ false
neither_first false b e = refl
neither_first true b e = let bad : true ≡ false = e in cc

pub neither_second : (a b : Bool) → (a || b) ≡ false → b ≡ false
neither_second false b e = e
neither_second true b e = let bad : true ≡ false = e in cc

pub not_both : (a b : Bool) → b ≡ false → (a && b) ≡ false
not_both true b e = e
not_both false b e = refl

none_mapped : {A B : Type 0} {f : A → List B} → ((x : A) → f x ≡ []) → (xs : List A) → flat_map f xs ≡ []
none_mapped h [] = refl
none_mapped h (x ∷ xs) = λ i. h x i ++ none_mapped h xs i

pub none_of : {A : Type 0} (f : A → Bool) → ((x : A) → f x ≡ false) → (xs : List A) → list_any f xs ≡ false
none_of f h [] = refl
none_of f h (x ∷ xs) = ap (λ b. b || list_any f xs) (h x) ∙ none_of f h xs

-- Where no use means `errgroup`

module _ (known : Known)
    (no_group : (at : ℕ) (path : List ℕ) → known.means at ≡ Some (import_name path)
    → bytes_eq path errgroup_path ≡ false)
  where
    no_errgroup : (at : ℕ) → is_import errgroup_path (known.means at) ≡ false
    no_errgroup at = by (known.means at) refl
      where
        by : (m : Option Meaning) → known.means at ≡ m → is_import errgroup_path m ≡ false
        by None e = refl
        by (Some (local_name number kind)) e = refl
        by (Some (import_name path)) e = no_group at path e
        by (Some function_name) e = refl
        by (Some package_name) e = refl
        by (Some universe_name) e = refl

    of_errgroup : (name : List ℕ) (n : Named) → is_of known.means errgroup_path name n ≡ false
    of_errgroup name n = not_both (is_selected name n.selected) _ (no_errgroup n.at)

    of_some_errgroup : (name : List ℕ) (n : Option Named) → is_of_some known.means errgroup_path name n ≡ false
    of_some_errgroup name None = refl
    of_some_errgroup name (Some n) = of_errgroup name n

    -- types

    no_cancel_type : (n : Option Named) → named_tells known n ≡ false → cancel_type_of_name known.means n ≡ None
    no_cancel_type None h = refl
    no_cancel_type (Some n) h =
        by _ _ (neither_first _ _ (neither_second (is_maker known n) _ h))
        (neither_second (is_of known.means context_path (codes "CancelFunc") n) _
        (neither_second (is_maker known n) _ h))
      where
        by : (a b : Bool) → a ≡ false → b ≡ false
            → (if a then Some plain else if b then Some with_cause else None) ≡ None
        by false false e f = refl
        by false true e f = absurd cc
        by true b e f = absurd cc

    no_type : (t : OptionalExpression) → type_tells known t ≡ false → tracked_type known.means t ≡ None
    no_type missing_expression h = refl
    no_type (present_expression t) h =
        ap (λ c. cancel_or_group c (is_group_pointer known.means t)) (no_cancel_type (as_named t) h)
        ∙ ap group_or_none (of_some_errgroup (codes "Group") (as_pointer t))

    pub no_item_type : (i : Item) → type_tells known i.type ≡ false → item_type known.means i ≡ None
    no_item_type i h = by i.is_variadic
      where
        by : (b : Bool) → (if b then None else tracked_type known.means i.type) ≡ None
        by true = refl
        by false = no_type i.type h

-- Where no function that is named gives besides

module _ (known : Known) (gives : GivesByContext known) where
  -- makers and givers

  no_giving : (n : Named) → tells known n ≡ false → giving_of known n ≡ None
  no_giving n h =
      by _ _ (neither_first _ _ (neither_first _ _ h)) (neither_second (is_plain_maker known n) _ (neither_first _ _ h))
    where
      by : (a b : Bool) → a ≡ false → b ≡ false
          → (if a then Some (maker_giving plain)
          else if b then Some (maker_giving with_cause)
          else facts_giving (facts_of known n)) ≡ None
      by false false e f = gives.no_giver n
      by false true e f = absurd cc
      by true b e f = absurd cc

  pub no_call_giving : (c : Option Call) → call_tells known c ≡ false → call_giving known c ≡ None
  no_call_giving None h = refl
  no_call_giving (Some c) h = no_giving c.callee h

  pub no_row_giving : (row : Row) → row_tells known row ≡ false → row_giving known row ≡ None
  no_row_giving row h = by (may_bind row.standing row.form)
    where
      by : (b : Bool) → (if b then fits row (call_giving known (only_call row row.values)) else None) ≡ None
      by true = ap (fits row) (no_call_giving (only_call row row.values) (neither_first _ _ h))
      by false = refl

  no_obtained : (row : Row) (k : ℕ) → row_tells known row ≡ false → row_obtains known row k ≡ false
  no_obtained row k h = ap (obtains_there known row k) (no_row_giving row h)

  -- groups

  no_group_type : (n : Option Named) → is_group_type known n ≡ false
  no_group_type n = of_some_errgroup known gives.no_group (codes "Group") n

  no_made_call : (count : ℕ) (c : Option Call) → made_by_call known count c ≡ None
  no_made_call count None = refl
  no_made_call count (Some c) =
      by _ (of_errgroup known gives.no_group (codes "WithContext") c.callee) _
      (no_new c.arguments c.has_ellipsis)
    where
      no_new : (es : Expressions) (ellipsis : Bool) → (is_new_call known c.callee es ellipsis && (count == 1)) ≡ false
      no_new no_expression ellipsis = refl
      no_new (expression_and e no_expression) true = refl
      no_new (expression_and e no_expression) false =
          ap (λ b. b && (count == 1))
          (not_both (is_of_universe known (codes "new") c.callee) _ (no_group_type (as_named e)))
      no_new (expression_and e (expression_and f es)) ellipsis = refl

      by : (a : Bool) → a ≡ false → (b : Bool) → b ≡ false
          → (if a then (if count == 2 then Some live else None)
          else if b then Some idle else None) ≡ None
      by false e false f = refl
      by false e true f = absurd cc
      by true e b f = absurd cc

  no_made_value : (row : Row) (count : ℕ) (e : Expression) → made_by_value known row count e ≡ None
  no_made_value row count (expression_node (unary_expression op e) span) =
      ap (λ b. if b then Some idle else None)
      (ap (λ b. b && (count == 1)) (no_group_type (as_new_literal op e)))
  no_made_value row count (expression_node (call_expression e es ellipsis) span) =
      no_made_call count (call_in row (expression_node (call_expression e es ellipsis) span))
  no_made_value row count (expression_node (name_expression text) span) = refl
  no_made_value row count (expression_node (basic_literal kind) span) = refl
  no_made_value row count (expression_node (function_literal signature ss braces) span) = refl
  no_made_value row count (expression_node (composite_literal t es) span) = refl
  no_made_value row count (expression_node (literal_value es) span) = refl
  no_made_value row count (expression_node (key_value k v) span) = refl
  no_made_value row count (expression_node (parenthesized e) span) = refl
  no_made_value row count (expression_node (selector_expression e n) span) = refl
  no_made_value row count (expression_node (index_expression e i) span) = refl
  no_made_value row count (expression_node (instance_expression e es) span) = refl
  no_made_value row count (expression_node (slice_expression e low high most) span) = refl
  no_made_value row count (expression_node (type_assertion e t) span) = refl
  no_made_value row count (expression_node (star_expression e) span) = refl
  no_made_value row count (expression_node (binary_expression op l r) span) = refl
  no_made_value row count (expression_node (array_type n t) span) = refl
  no_made_value row count (expression_node (ellipsis_array_type t) span) = refl
  no_made_value row count (expression_node (slice_type t) span) = refl
  no_made_value row count (expression_node (map_type k t) span) = refl
  no_made_value row count (expression_node (channel_type direction t) span) = refl
  no_made_value row count (expression_node (function_type signature) span) = refl
  no_made_value row count (expression_node (struct_type fs) span) = refl
  no_made_value row count (expression_node (interface_type fs) span) = refl

  no_made_values : (row : Row) (count : ℕ) (es : Expressions) → made_by_values known row count es ≡ None
  no_made_values row count no_expression = refl
  no_made_values row count (expression_and e no_expression) = no_made_value row count e
  no_made_values row count (expression_and e (expression_and f es)) = refl

  not_first : (k : ℕ) (o : Option GroupState) → o ≡ None → if_first k o ≡ None
  not_first zero o e = e
  not_first (suc k) o e = refl

  no_made_type : (t : OptionalExpression) (es : Expressions) → made_by_type known t es ≡ None
  no_made_type missing_expression es = refl
  no_made_type (present_expression t) no_expression =
      ap (λ b. if b then Some idle else None) (no_group_type (as_named t))
  no_made_type (present_expression t) (expression_and e es) = refl

  no_made_pair : (edition : Edition) (row : Row) (count : ℕ) (t : OptionalExpression)
      → made_by_pair edition known row count t ≡ None
  no_made_pair First row count t = refl
  no_made_pair Second row count (present_expression t) = refl
  no_made_pair Second row count missing_expression = by (only_call row row.values) refl
    where
      by : (o : Option Call) → only_call row row.values ≡ o
          → made_by_pair Second known row count missing_expression ≡ None
      by None e = rw e refl
      by (Some c) e =
          rw (e, of_errgroup known gives.no_group (codes "WithContext") c.callee) refl

  no_made_form : (row : Row) (k : ℕ) (form : RowForm) → made_by_form known row k form ≡ None
  no_made_form row k (defines ns) = not_first k _ (no_made_values row (length ns) row.values)
  no_made_form row k (assigns ls) = not_first k _ (no_made_values row (length (lefts_of_expressions ls)) row.values)
  no_made_form row k (declares Const ns t) = refl
  no_made_form row k (declares Var ns t) =
      (λ i. or_else (no_made_type t row.values i)
      (if_first k (made_by_pair known.edition known row (length ns) t)))
      ∙ not_first k _ (no_made_pair known.edition row (length ns) t)
  no_made_form row k (declares type_keyword ns t) = refl

  no_made : (row : Row) (k : ℕ) → row_makes known row k ≡ None
  no_made row k = by (may_bind row.standing row.form && is_some (local_at known row k))
    where
      by : (b : Bool) → (if b then made_by_form known row k row.form else None) ≡ None
      by true = no_made_form row k row.form
      by false = refl

-- Locals without a type that is tracked

abbrev Untyped : List Local → Type 0
Untyped [] = Unit {0}
Untyped (l ∷ ls) = (l.typed ≡ None) × Untyped ls

both_untyped : (xs ys : List Local) → Untyped xs → Untyped ys → Untyped (xs ++ ys)
both_untyped [] ys h k = k
both_untyped (x ∷ xs) ys h k = (h.0, both_untyped xs ys h.1 k)

found_untyped : (ls : List Local) (number : ℕ) (l : Local) → Untyped ls → find_local ls number ≡ Some l → l.typed ≡ None
found_untyped [] number l h e = let bad : None ≡ Some l = e in cc
found_untyped (x ∷ xs) number l h e = by (x.number == number) (found_untyped xs number l h.1) e
  where
    by : (t : Bool) → (find_local xs number ≡ Some l → l.typed ≡ None)
        → (if t then Some x else find_local xs number) ≡ Some l
        → l.typed ≡ None
    by true later is = subst (λ (y : Local). y.typed ≡ None) (same_Some x l is) h.0
    by false later is = later is

item_untyped : (b : BodyPlace) (role : LocalRole) (typed : Option TrackedType) (n : Option Identifier) → typed ≡ None
    → Untyped (item_local b role typed n)
item_untyped b role typed None e = tt
item_untyped b role typed (Some n) e = by (is_blank n.text)
  where
    by : (t : Bool) → Untyped (if t then [] else record {
      number = n.span.start;
      name = n.text;
      at = n.span.start;
      role = role;
      typed = typed;
      body = b.at;
    } ∷ [])
    by true = tt
    by false = (e, tt)

no_result_fault : (ls : List Local) → Untyped ls → result_faults ls ≡ []
no_result_fault [] h = refl
no_result_fault (l ∷ ls) h =
    by _ (not_both (is_result l.role) _ (ap (λ t. is_cancel (option_map kind_of_type t)) h.0)) (no_result_fault ls h.1)
  where
    by : (t : Bool) → t ≡ false → result_faults ls ≡ []
        → (if t then fault_at l.at bound_again l.name ++ result_faults ls else result_faults ls) ≡ []
    by false e rest = rest
    by true e rest = absurd cc

module _ (known : Known) (gives : GivesByContext known) where
  -- Locals

  parameters_untyped : (b : BodyPlace) (k : ℕ) (is : List Item) → items_tell known is ≡ false
      → Untyped (parameter_locals known b k is)
  parameters_untyped b k [] h = tt
  parameters_untyped b k (i ∷ is) h =
      both_untyped (item_local b (parameter_role (parameter k) i) (item_type known.means i) i.name) _
      (item_untyped b (parameter_role (parameter k) i) _ i.name
      (no_item_type known gives.no_group i (neither_first _ _ h)))
      (parameters_untyped b (k + 1) is (neither_second (type_tells known i.type) _ h))

  receivers_untyped : (b : BodyPlace) (is : List Item) → items_tell known is ≡ false
      → Untyped (receiver_locals known b is)
  receivers_untyped b [] h = tt
  receivers_untyped b (i ∷ is) h =
      both_untyped (item_local b (parameter_role receiver i) (item_type known.means i) i.name) _
      (item_untyped b (parameter_role receiver i) _ i.name (no_item_type known gives.no_group i (neither_first _ _ h)))
      (receivers_untyped b is (neither_second (type_tells known i.type) _ h))

  results_untyped : (b : BodyPlace) (is : List Item) → items_tell known is ≡ false → Untyped (result_locals known b is)
  results_untyped b [] h = tt
  results_untyped b (i ∷ is) h =
      both_untyped (item_local b result (only_cancel (item_type known.means i)) i.name) _
      (item_untyped b result _ i.name (ap only_cancel (no_item_type known gives.no_group i (neither_first _ _ h))))
      (results_untyped b is (neither_second (type_tells known i.type) _ h))

  signature_untyped : (b : BodyPlace) (s : Signature) → signature_tells known s ≡ false
      → Untyped (signature_locals known b s)
  signature_untyped b (signature_of ps rs brackets) h =
      both_untyped (parameter_locals known b 0 (items_of ps)) _
      (parameters_untyped b 0 (items_of ps) (neither_first _ _ h))
      (results_untyped b (items_of rs) (neither_second (items_tell known (items_of ps)) _ h))

  body_untyped : (b : BodyPlace) → mark_tells known (opens b) ≡ false → Untyped (body_locals known b)
  body_untyped b h =
      both_untyped (receiver_locals known b (receiver_items b.receiver)) _
      (receivers_untyped b (receiver_items b.receiver) (neither_first _ _ h))
      (signature_untyped b b.signature (neither_second (items_tell known (receiver_items b.receiver)) _ h))

  no_row_type : (form : RowForm) → form_tells known form ≡ false → row_typed known form ≡ None
  no_row_type (defines ns) h = refl
  no_row_type (assigns ls) h = refl
  no_row_type (declares keyword ns t) h = ap only_cancel (no_type known gives.no_group t h)

  no_role_type : (r : Role) → role_tells known r ≡ false → role_typed known r ≡ None
  no_role_type elsewhere h = refl
  no_role_type as_key h = refl
  no_role_type exposed h = refl
  no_role_type pointed_to h = refl
  no_role_type (found_nil nil) h = refl
  no_role_type (found_error nil row) h = refl
  no_role_type (called c) h = refl
  no_role_type called_in_brackets h = refl
  no_role_type (argument k has_address c) h = refl
  no_role_type (returned k) h = refl
  no_role_type (left k row) h =
      no_row_type row.form (neither_second (call_tells known (only_call row row.values)) _ h)
  no_role_type (names_type row) h = refl
  no_role_type (new_literal row) h = refl
  no_role_type parameter_pointer h = refl

  declared_untyped : (m : Mention) (bodies : List BodyPlace) (o : Option ℕ) → role_tells known m.role ≡ false
      → Untyped (declared_local known m bodies o)
  declared_untyped m [] o h = tt
  declared_untyped m (b ∷ bs) None h = tt
  declared_untyped m (b ∷ bs) (Some number) h = (no_role_type m.role h, tt)

  there_untyped : (bodies : List BodyPlace) (mark : Mark) → mark_tells known mark ≡ false
      → Untyped (locals_there known bodies mark)
  there_untyped bodies (mentions m) h =
      declared_untyped m bodies (declared_by known m) (neither_second (tells known m.named) _ h)
  there_untyped bodies (of_fields site m) h = tt
  there_untyped bodies (runs_literal moment site at) h = tt
  there_untyped bodies (returns at es) h = tt
  there_untyped bodies (opens b) h = body_untyped b h
  there_untyped bodies closes h = tt

  abbrev NoneTell : List Placed → Type 0
  NoneTell ps = list_any (λ (p : Placed). mark_tells known p.mark) ps ≡ false

  untyped : (ps : List Placed) → NoneTell ps → Untyped (locals_of known ps)
  unfolding locals_of
  untyped [] h = tt
  untyped (p ∷ ps) h =
      both_untyped (locals_there known p.bodies p.mark) _ (there_untyped p.bodies p.mark (neither_first _ _ h))
      (untyped ps (neither_second (mark_tells known p.mark) _ h))

  -- Kinds

  not_obtained : (m : Mention) (r : Role) → role_tells known r ≡ false → is_obtained_by known m r ≡ false
  not_obtained m elsewhere h = refl
  not_obtained m as_key h = refl
  not_obtained m exposed h = refl
  not_obtained m pointed_to h = refl
  not_obtained m (found_nil nil) h = refl
  not_obtained m (found_error nil row) h = refl
  not_obtained m (called c) h = refl
  not_obtained m called_in_brackets h = refl
  not_obtained m (argument k has_address c) h = refl
  not_obtained m (returned k) h = refl
  not_obtained m (left k row) h = no_obtained known gives row k h
  not_obtained m (names_type row) h = refl
  not_obtained m (new_literal row) h = refl
  not_obtained m parameter_pointer h = refl

  not_made : (m : Mention) (r : Role) → is_made_by known m r ≡ false
  not_made m elsewhere = refl
  not_made m as_key = refl
  not_made m exposed = refl
  not_made m pointed_to = refl
  not_made m (found_nil nil) = refl
  not_made m (found_error nil row) = refl
  not_made m (called c) = refl
  not_made m called_in_brackets = refl
  not_made m (argument k has_address c) = refl
  not_made m (returned k) = refl
  not_made m (left k row) = ap is_some (no_made known gives row k)
  not_made m (names_type row) = refl
  not_made m (new_literal row) = refl
  not_made m parameter_pointer = refl

  no_obtaining : (number : ℕ) (mark : Mark) → mark_tells known mark ≡ false → obtains_in known number mark ≡ false
  no_obtaining number (mentions m) h =
      not_both (is_variable (variable_of known m) number) _
      (not_obtained m m.role (neither_second (tells known m.named) _ h))
  no_obtaining number (of_fields site m) h = refl
  no_obtaining number (runs_literal moment site at) h = refl
  no_obtaining number (returns at es) h = refl
  no_obtaining number (opens b) h = refl
  no_obtaining number closes h = refl

  none_obtains : (number : ℕ) (ps : List Placed) → NoneTell ps
      → list_any (λ (p : Placed). obtains_in known number p.mark) ps ≡ false
  none_obtains number [] h = refl
  none_obtains number (p ∷ ps) h =
      ap (λ b. b || list_any (λ (q : Placed). obtains_in known number q.mark) ps)
      (no_obtaining number p.mark (neither_first _ _ h))
      ∙ none_obtains number ps (neither_second (mark_tells known p.mark) _ h)

  no_making : (number : ℕ) (mark : Mark) → makes_in known number mark ≡ false
  no_making number (mentions m) = not_both (is_variable (variable_of known m) number) _ (not_made m m.role)
  no_making number (of_fields site m) = refl
  no_making number (runs_literal moment site at) = refl
  no_making number (returns at es) = refl
  no_making number (opens b) = refl
  no_making number closes = refl

  no_rows : (ps : List Placed) → NoneTell ps → (number : ℕ) → kind_by_rows known ps number ≡ None
  no_rows ps h number =
      by _ (none_obtains number ps h)
      _ (none_of (λ (p : Placed). makes_in known number p.mark) (λ p. no_making number p.mark) ps)
    where
      by : (a : Bool) → a ≡ false → (b : Bool) → b ≡ false
          → (if a then Some cancel
          else if b then Some group else None) ≡ None
      by false e false f = refl
      by false e true f = absurd cc
      by true e b f = absurd cc

  no_kind : (ps : List Placed) → NoneTell ps → (l : Local) → l.typed ≡ None → kind_of_local known ps l ≡ None
  no_kind ps h l e =
      ap (λ t. or_else (option_map kind_of_type t) (kind_by_rows known ps l.number)) e ∙ no_rows ps h l.number

literal_hands_nothing : (at : ℕ) (e : Event) (f : Callee) → e ≡ defer_literal at → HandsTo f e → ⊥
literal_hands_nothing at e f same passes = cc
literal_hands_nothing at e f same defers = cc
literal_hands_nothing at e f same lends = cc
literal_hands_nothing at e f same goes = cc

gone_hands_nothing : (at : ℕ) (e : Event) (f : Callee) → e ≡ go (go_literal at) → HandsTo f e → ⊥
gone_hands_nothing at e f same passes = cc
gone_hands_nothing at e f same defers = cc
gone_hands_nothing at e f same lends = cc
gone_hands_nothing at e f same goes = cc

run_hands_nothing : (edition : Edition) (moment : Moment) (at : ℕ) (e : Event) (f : Callee) → HandsTo f e
    → Contains (literal_events edition moment at) e
    → ⊥
run_hands_nothing edition at_return at e f h c =
    elim (contains_cases (defer_literal at) e [] c) [
      | inl same ↦ literal_hands_nothing at e f (sym same) h
      | inr n ↦ contains_nil e n
    ]
run_hands_nothing First in_goroutine at e f h c = contains_nil e c
run_hands_nothing Second in_goroutine at e f h c =
    elim (contains_cases (go (go_literal at)) e [] c) [
      | inl same ↦ gone_hands_nothing at e f (sym same) h
      | inr n ↦ contains_nil e n
    ]

return_hands_nothing : (handed : List Handed) (e : Event) (f : Callee) → e ≡ return_event handed → HandsTo f e → ⊥
return_hands_nothing handed e f same passes = cc
return_hands_nothing handed e f same defers = cc
return_hands_nothing handed e f same lends = cc
return_hands_nothing handed e f same goes = cc

call_hands_nothing : (number : ℕ) (e : Event) (f : Callee) → e ≡ call number → HandsTo f e → ⊥
call_hands_nothing number e f same passes = cc
call_hands_nothing number e f same defers = cc
call_hands_nothing number e f same lends = cc
call_hands_nothing number e f same goes = cc

-- what was not given where an error was is only called
calls_hand_nothing : (seen : Seen) (m : Mention) (r : Role) (e : Event) (f : Callee) → HandsTo f e
    → Contains (error_events seen m r) e
    → ⊥
calls_hand_nothing seen m (found_error nil row) e f h c = by (is_universe (seen.known.means nil)) c
  where
    by : (t : Bool) → Contains (if t then map call (lost_to seen row (variable_of seen.known m)) else []) e → ⊥
    by true k =
        let n = contains_unmap call (lost_to seen row (variable_of seen.known m)) e k in
        call_hands_nothing n.0 e f (sym n.2) h
    by false k = contains_nil e k
calls_hand_nothing seen m elsewhere e f h c = contains_nil e c
calls_hand_nothing seen m as_key e f h c = contains_nil e c
calls_hand_nothing seen m exposed e f h c = contains_nil e c
calls_hand_nothing seen m pointed_to e f h c = contains_nil e c
calls_hand_nothing seen m (found_nil nil) e f h c = contains_nil e c
calls_hand_nothing seen m (called d) e f h c = contains_nil e c
calls_hand_nothing seen m called_in_brackets e f h c = contains_nil e c
calls_hand_nothing seen m (argument k has_address d) e f h c = contains_nil e c
calls_hand_nothing seen m (returned k) e f h c = contains_nil e c
calls_hand_nothing seen m (left k row) e f h c = contains_nil e c
calls_hand_nothing seen m (names_type row) e f h c = contains_nil e c
calls_hand_nothing seen m (new_literal row) e f h c = contains_nil e c
calls_hand_nothing seen m parameter_pointer e f h c = contains_nil e c

module _ (known : Known) (gives : GivesByContext known) (ps : List Placed)
    (none_tell : list_any (λ (p : Placed). mark_tells known p.mark) ps ≡ false) (ls : List Local) (none_typed : Untyped ls) where
  abbrev seen : Seen
  seen = record { known = known; marks = ps; locals = ls }

  found_so : (o : Option ℕ) (l : Local) → found seen o ≡ Some l → l.typed ≡ None
  found_so None l e = let bad : None ≡ Some l = e in cc
  found_so (Some n) l e = found_untyped ls n l none_typed e

  not_tracked : (l : Local) → l.typed ≡ None → tracked_kind seen (Some l) ≡ None
  not_tracked l e = by (may_be_tracked l.role)
    where
      by : (t : Bool) → (if t then kind_of_local known ps l else None) ≡ None
      by true = no_kind known gives ps none_tell l e
      by false = refl

  -- Variables

  no_variable_found : (body : ℕ) (o : Option Local) → ((l : Local) → o ≡ Some l → l.typed ≡ None)
      → variable_found seen body o ≡ []
  no_variable_found body None h = refl
  no_variable_found body (Some l) h =
      ap (λ b. if b then variable_there seen body l (tracked_kind seen (Some l)) else [])
      (ap (λ kind. is_some kind && ((l.body == body)
      || list_any (λ (p : Placed). is_captured_there known body l p.bodies p.mark) ps))
      (not_tracked l (h l refl)))

  no_variables : (body : ℕ) (ns : List ℕ) → variables_among seen body ns ≡ []
  no_variables body [] = refl
  no_variables body (n ∷ ns) = λ i.
      no_variable_found body (found seen (Some n)) (found_so (Some n)) i ++ no_variables body ns i

  no_variable : (body : ℕ) → variables_of seen body ≡ []
  no_variable body = ap in_their_order (no_variables body _)

  -- Mentions

  role_nothing : (l : Local) → l.typed ≡ None → (bodies : List BodyPlace) (m : Mention) (r : Role)
      → role_outcome seen l bodies m r ≡ nothing
  role_nothing l e bodies m (left k row) =
      ap (λ kind. row_outcome seen l kind bodies m row (binding_at seen row k)) (no_kind known gives ps none_tell l e)
  role_nothing l e bodies m elsewhere = ap (λ kind. mention_outcome seen l kind bodies m) (not_tracked l e)
  role_nothing l e bodies m as_key = ap (λ kind. mention_outcome seen l kind bodies m) (not_tracked l e)
  role_nothing l e bodies m exposed = ap (λ kind. mention_outcome seen l kind bodies m) (not_tracked l e)
  role_nothing l e bodies m pointed_to = ap (λ kind. mention_outcome seen l kind bodies m) (not_tracked l e)
  role_nothing l e bodies m (found_nil nil) = ap (λ kind. mention_outcome seen l kind bodies m) (not_tracked l e)
  role_nothing l e bodies m (found_error nil row) = ap (λ kind. mention_outcome seen l kind bodies m) (not_tracked l e)
  role_nothing l e bodies m (called c) = ap (λ kind. mention_outcome seen l kind bodies m) (not_tracked l e)
  role_nothing l e bodies m called_in_brackets = ap (λ kind. mention_outcome seen l kind bodies m) (not_tracked l e)
  role_nothing l e bodies m (argument k has_address c) =
      ap (λ kind. mention_outcome seen l kind bodies m) (not_tracked l e)
  role_nothing l e bodies m (returned k) = ap (λ kind. mention_outcome seen l kind bodies m) (not_tracked l e)
  role_nothing l e bodies m (names_type row) = ap (λ kind. mention_outcome seen l kind bodies m) (not_tracked l e)
  role_nothing l e bodies m (new_literal row) = ap (λ kind. mention_outcome seen l kind bodies m) (not_tracked l e)
  role_nothing l e bodies m parameter_pointer = ap (λ kind. mention_outcome seen l kind bodies m) (not_tracked l e)

  variable_nothing : (bodies : List BodyPlace) (m : Mention) → variable_outcome seen bodies m ≡ nothing
  variable_nothing bodies m = by (found seen (variable_of known m)) (found_so (variable_of known m))
    where
      by : (o : Option Local) → ((l : Local) → o ≡ Some l → l.typed ≡ None) → local_outcome seen bodies m o ≡ nothing
      by None h = refl
      by (Some l) h = role_nothing l (h l refl) bodies m m.role

  no_mention_fault : (bodies : List BodyPlace) (m : Mention) → tells known m.named ≡ false
      → mention_faults seen bodies m ≡ []
  no_mention_fault bodies m h = λ i.
      (variable_nothing bodies m i).faults
      ++ (giving_faults seen bodies m (no_giving known gives m.named h i) ++ no_errgroup_fault i)
    where
      no_errgroup_fault : errgroup_faults seen m ≡ []
      no_errgroup_fault =
          ap (λ b. if b then if_not (is_made_or_parameter seen m m.role)
          (last_fault group_used_otherwise m.named) else [])
          (no_errgroup known gives.no_group m.named.at)

  no_recover_fault : (bodies : List BodyPlace) (m : Mention) → names_recover (mentions m) ≡ false
      → (if forbids_recover known.edition seen bodies then recover_faults known m else []) ≡ []
  no_recover_fault bodies m e = by (forbids_recover known.edition seen bodies)
    where
      by : (t : Bool) → (if t then recover_faults known m else []) ≡ []
      by true =
          ap (λ b. if b && is_universe (known.means m.named.at)
          then fault_at m.named.at recover_used (codes "-") else []) e
      by false = refl

  no_jump_fault : (b : BodyPlace) → jump_faults seen b ≡ []
  no_jump_fault b =
      ap (λ (vs : List Variable). if has_any vs
      then flat_map (λ at. fault_at at goto_used (codes "-")) (jumps_in b.statements) else []) (no_variable b.at)

  no_binding : (row : Row) → row_tells known row ≡ false → row_binds seen row ≡ false
  no_binding row h = ap (are_cancels seen row) (no_row_giving known gives row h)

  no_field_fault : (m : FieldMark) → field_tells known m ≡ false → field_faults seen m ≡ []
  no_field_fault (writes_field l (Some a)) h = by (field_variable seen l.field)
    where
      by : (o : Option Local) → field_left_faults seen o l.field a.row a.left_side ≡ []
      by None = refl
      by (Some v) =
          ap (λ b. if b then field_obtained seen v l.field a.row a.left_side else []) (no_binding a.row h)
  no_field_fault (writes_field l None) h = refl
  no_field_fault (calls_field f) h = refl
  no_field_fault (hands_over taker e) h = refl
  no_field_fault (hands_literal taker at) h = refl
  no_field_fault (renews number) h = refl
  no_field_fault imports_all h = refl

  no_mark_fault : (bodies : List BodyPlace) (mark : Mark) → mark_tells known mark ≡ false → names_recover mark ≡ false
      → mark_faults seen bodies mark ≡ []
  no_mark_fault bodies (mentions m) h e = λ i.
      no_mention_fault bodies m (neither_first _ _ h) i ++ no_recover_fault bodies m e i
  no_mark_fault bodies (of_fields site m) h e = no_field_fault m h
  no_mark_fault bodies (runs_literal moment site at) h e = refl
  no_mark_fault bodies (returns at es) h e = refl
  no_mark_fault bodies (opens b) h e = λ i.
      no_result_fault (body_locals known b) (body_untyped known gives b h) i ++ no_jump_fault b i
  no_mark_fault bodies closes h e = refl

  abbrev no_recover_in : List Placed → Type 0
  no_recover_in qs = list_any (λ (p : Placed). names_recover p.mark) qs ≡ false

  abbrev none_tell_in : List Placed → Type 0
  none_tell_in qs = list_any (λ (p : Placed). mark_tells known p.mark) qs ≡ false

  no_outer_fault : (qs : List Placed) → none_tell_in qs → no_recover_in qs → outer_faults_of seen qs ≡ []
  no_outer_fault [] t h = refl
  no_outer_fault (q ∷ qs) t h =
      by (is_outside q.bodies) (no_mark_fault q.bodies q.mark (neither_first _ _ t) (neither_first _ _ h))
      (no_outer_fault qs (neither_second (mark_tells known q.mark) _ t) (neither_second (names_recover q.mark) _ h))
    where
      by : (t : Bool) → mark_faults seen q.bodies q.mark ≡ [] → outer_faults_of seen qs ≡ []
          → (if t then mark_faults seen q.bodies q.mark ++ outer_faults_of seen qs else outer_faults_of seen qs) ≡ []
      by true none rest = λ i. none i ++ rest i
      by false none rest = rest

  no_inner_fault : (body : ℕ) (qs : List Placed) → none_tell_in qs → no_recover_in qs → faults_of seen body qs ≡ []
  no_inner_fault body [] t h = refl
  no_inner_fault body (q ∷ qs) t h =
      by (is_body body q.bodies) (no_mark_fault q.bodies q.mark (neither_first _ _ t) (neither_first _ _ h))
      (no_inner_fault body qs (neither_second (mark_tells known q.mark) _ t)
      (neither_second (names_recover q.mark) _ h))
    where
      by : (t : Bool) → mark_faults seen q.bodies q.mark ≡ [] → faults_of seen body qs ≡ []
          → (if t then mark_faults seen q.bodies q.mark ++ faults_of seen body qs else faults_of seen body qs) ≡ []
      by true none rest = λ i. none i ++ rest i
      by false none rest = rest

  -- What is kept

  none_owned : (bodies : List BodyPlace) (o : Option ℕ) → owned seen bodies (found seen o) ≡ None
  none_owned bodies o = by (found seen o) (found_so o)
    where
      by : (f : Option Local) → ((l : Local) → f ≡ Some l → l.typed ≡ None) → owned seen bodies f ≡ None
      by None h = refl
      by (Some l) h =
          ap (λ kind. if is_cancel kind && (is_own l bodies && is_block_role l.role) then Some l.number else None)
          (not_tracked l (h l refl))

  pub no_own_cancel : (bodies : List BodyPlace) (n : Option Named) → own_cancel seen bodies n ≡ None
  no_own_cancel bodies n = none_owned bodies (local_named known n)

  kept_by_none : (v x : Option ℕ) (f : List ℕ) → v ≡ None → kept_in v x f ≡ []
  kept_by_none v x f e = ap (λ o. kept_in o x f) e ∙ by x
    where
      by : (o : Option ℕ) → kept_in None o f ≡ []
      by None = refl
      by (Some y) = refl

  if_none : {A : Type 0} (b : Bool) (xs : List A) → xs ≡ [] → (if b then xs else []) ≡ []
  if_none true xs e = e
  if_none false xs e = refl

  no_field_value : (bodies : List BodyPlace) (e : Element) → field_value seen bodies e ≡ None
  no_field_value bodies e = by (is_field_meant seen e.field (known.means e.at))
    where
      by : (b : Bool) → (if b then own_cancel seen bodies (Some e.value) else None) ≡ None
      by true = no_own_cancel bodies (Some e.value)
      by false = refl

  no_element : (bodies : List BodyPlace) (x : Option ℕ) (e : Element) → kept_element seen bodies x e ≡ []
  no_element bodies x e =
      if_none (has_field known.fields e.field) _ (kept_by_none _ x e.field (no_field_value bodies e))

  no_stored : (bodies : List BodyPlace) (l : FieldLeft) (row : Row) (o : Option ObjectLeft)
      → stored_keeps seen bodies l row o ≡ []
  no_stored bodies l row None =
      if_none (not l.has_brackets && has_field known.fields l.field.text) _
      (kept_by_none _ (unaddressed known ps (local_named known l.object)) l.field.text
      (no_own_cancel bodies (stored_name row.form row.values)))
  no_stored bodies l row (Some left_of_outer) = refl
  no_stored bodies l row (Some (left_of_new x number)) =
      kept_by_none _ (Some x) l.field.text (none_owned bodies (Some number))

  no_keep_by : (bodies : List BodyPlace) (mark : Mark) → keeps_by_mark seen bodies mark ≡ []
  no_keep_by bodies (mentions m) =
      none_mapped (no_element bodies (holder seen (declared_by known m))) (role_fields m.role)
  no_keep_by bodies (of_fields site (writes_field l (Some a))) =
      no_stored bodies l a.row (known.object_lefts l.field.span.start)
  no_keep_by bodies (of_fields site (writes_field l None)) = refl
  no_keep_by bodies (of_fields site (calls_field f)) = refl
  no_keep_by bodies (of_fields site (hands_over taker e)) = refl
  no_keep_by bodies (of_fields site (hands_literal taker at)) = refl
  no_keep_by bodies (of_fields site (renews number)) = refl
  no_keep_by bodies (of_fields site imports_all) = refl
  no_keep_by bodies (runs_literal moment site at) = refl
  no_keep_by bodies (returns at es) = refl
  no_keep_by bodies (opens b) = refl
  no_keep_by bodies closes = refl

  no_keep : (bodies : List BodyPlace) (mark : Mark) → keeps_there seen bodies mark ≡ []
  no_keep bodies mark = ap (filter (λ k. is_some (object_kind_of seen bodies k.object))) (no_keep_by bodies mark)

  none_kept : kept_of seen ≡ []
  none_kept =
      ap (λ ks. by_variable (filter (belongs seen) ks)) (none_mapped (λ (p : Placed). no_keep p.bodies p.mark) ps)

  no_kept_there : (bodies : List BodyPlace) (o : Option ℕ) → kept_there seen bodies o ≡ []
  no_kept_there bodies None = refl
  no_kept_there bodies (Some x) =
      ap (filter (λ k. (k.object == x) && is_of_body bodies (found seen (Some x)))) none_kept

  no_keep_event : (bodies : List BodyPlace) (mark : Mark) → keep_events seen bodies mark ≡ []
  no_keep_event bodies mark =
      ap (λ ks. flat_map (λ k. keep_event (object_kind_of seen bodies k.object) k) (filter (belongs seen) ks))
      (no_keep bodies mark)

  no_declared_event : (bodies : List BodyPlace) (m : Mention) → declared_events seen bodies m ≡ []
  no_declared_event bodies m = λ i.
      renew_all (no_kept_there bodies (declared_at_name m.named.at (declared_by known m)) i)
      ++ no_keep_event bodies (mentions m) i

  no_field_call : (bodies : List BodyPlace) (m : Mention) (f : Option (List ℕ)) (c : Call)
      → field_calls seen bodies m f c ≡ []
  no_field_call bodies m None c = refl
  no_field_call bodies m (Some f) c =
      ap (flat_map (field_call seen f c)) (no_kept_there bodies (variable_of known m))

  no_object_event : (bodies : List BodyPlace) (m : Mention) (r : Role) → role_events seen bodies m r ≡ []
  no_object_event bodies m (called c) = no_field_call bodies m m.named.selected c
  no_object_event bodies m (left k row) = no_declared_event bodies m
  no_object_event bodies m exposed = no_declared_event bodies m
  no_object_event bodies m pointed_to = refl
  no_object_event bodies m elsewhere = refl
  no_object_event bodies m as_key = refl
  no_object_event bodies m (found_nil nil) = refl
  no_object_event bodies m (found_error nil row) = refl
  no_object_event bodies m called_in_brackets = refl
  no_object_event bodies m (argument k has_address c) = refl
  no_object_event bodies m (returned k) = refl
  no_object_event bodies m (names_type row) = refl
  no_object_event bodies m (new_literal row) = refl
  no_object_event bodies m parameter_pointer = refl

  none_carried : (bodies : List BodyPlace) (e : Element) → carried seen bodies e ≡ None
  none_carried bodies e = by (has_field known.fields e.field)
    where
      by : (b : Bool) → (if b then field_value seen bodies e else None) ≡ None
      by true = no_field_value bodies e
      by false = refl

  no_gift_event : (bodies : List BodyPlace) (g : Gift) → gift_events seen bodies g ≡ []
  no_gift_event bodies (named_gift n) = ap give_all (no_kept_there bodies (local_named known (Some n)))
  no_gift_event bodies (element_gift e) = ap given_field (none_carried bodies e)

  no_written_event : (bodies : List BodyPlace) (mark : Mark) (l : FieldLeft) (a : Assigned) (o : Option ObjectLeft)
      → written_events seen bodies mark l a o ≡ []
  no_written_event bodies mark l a None = no_keep_event bodies mark
  no_written_event bodies mark l a (Some o) =
      if_none (row_obtains known a.row a.left_side && row_binds seen a.row) _
      (ap (map (obtained_event seen l a)) (no_keep bodies mark))

  no_field_event : (bodies : List BodyPlace) (mark : Mark) (m : FieldMark) → field_events seen bodies mark m ≡ []
  no_field_event bodies mark (calls_field f) = refl
  no_field_event bodies mark (writes_field l None) = refl
  no_field_event bodies mark (writes_field l (Some a)) =
      no_written_event bodies mark l a (known.object_lefts l.field.span.start)
  no_field_event bodies mark (hands_over taker e) =
      if_none (takes_it known taker) _ (none_mapped (no_gift_event bodies) (gifts missing_expression e))
  no_field_event bodies mark (hands_literal taker at) =
      if_none (takes_it known taker) _
      (none_mapped (λ x. ap give_all (no_kept_there bodies (Some x)))
      (first_mentions (in_order_of_place (mentioned_in seen at))))
  no_field_event bodies mark (renews number) = ap renew_all (no_kept_there bodies (Some number))
  no_field_event bodies mark imports_all = refl

  no_carried_field : (bodies : List BodyPlace) (e : Element) → carried_field seen bodies e ≡ []
  no_carried_field bodies e = rw (none_carried bodies e) refl

  module _ (no_lefts : (at : ℕ) → known.object_lefts at ≡ None) where
    no_obtained_field : (mark : Mark) → obtained_fields seen mark ≡ []
    no_obtained_field (of_fields site (writes_field l (Some a))) =
        ap (λ o. if is_some o then l.field.text ∷ [] else []) (no_lefts l.field.span.start)
    no_obtained_field (of_fields site (writes_field l None)) = refl
    no_obtained_field (of_fields site (calls_field f)) = refl
    no_obtained_field (of_fields site (hands_over taker e)) = refl
    no_obtained_field (of_fields site (hands_literal taker at)) = refl
    no_obtained_field (of_fields site (renews number)) = refl
    no_obtained_field (of_fields site imports_all) = refl
    no_obtained_field (mentions m) = refl
    no_obtained_field (runs_literal moment site at) = refl
    no_obtained_field (returns at es) = refl
    no_obtained_field (opens b) = refl
    no_obtained_field closes = refl

    no_field_there : (bodies : List BodyPlace) (mark : Mark) → fields_kept_there seen bodies mark ≡ []
    no_field_there bodies mark = λ i.
        map (λ k. k.field) (filter (λ k. belongs seen k && is_obtained_in seen k.variable) (no_keep bodies mark i))
        ++ (no_obtained_field mark i
        ++ none_mapped (no_carried_field bodies) (given_elements seen mark) i)

    no_field : fields_kept seen ≡ []
    no_field = none_mapped (λ (p : Placed). no_field_there p.bodies p.mark) ps

  -- Events

  never_sent : (own takes_it : Bool) → (own && (false && takes_it)) ≡ false
  never_sent true takes_it = refl
  never_sent false takes_it = refl

  nobody_sent : (bodies : List BodyPlace) (c : Call) (k : ℕ) (o : Option Local)
      → ((l : Local) → o ≡ Some l → l.typed ≡ None)
      → sent_there seen bodies c k o ≡ []
  nobody_sent bodies c k None h = refl
  nobody_sent bodies c k (Some l) h =
      ap (λ b. if b then record { number = l.number; position = k } ∷ [] else [])
      (ap (λ kind. (is_own l bodies && is_in_block l.role)
      && (is_cancel kind && takes known c (cancel_type (cancel_type_of seen l)) k)) (not_tracked l (h l refl))
      ∙ never_sent (is_own l bodies && is_in_block l.role) (takes known c (cancel_type (cancel_type_of seen l)) k))

  no_argument_sent : (last : Bool) (xs : List Sent) → xs ≡ [] → ((if last then [] else xs) ++ []) ≡ []
  no_argument_sent true xs none = refl
  no_argument_sent false xs none = ap (λ ys. ys ++ []) none

  no_sent_from : (bodies : List BodyPlace) (c : Call) (k : ℕ) (es : Expressions) → sent_from seen bodies c k es ≡ []
  no_sent_from bodies c k no_expression = refl
  no_sent_from bodies c k (expression_and e es) =
      let v = item_variable known (as_bare e) in
      ap (λ rest. (if is_none_left es && c.has_ellipsis then [] else sent_there seen bodies c k (found seen v)) ++ rest)
      (no_sent_from bodies c (k + 1) es)
      ∙ no_argument_sent (is_none_left es && c.has_ellipsis) (sent_there seen bodies c k (found seen v))
      (nobody_sent bodies c k (found seen v) (found_so v))

  no_role_sent : (bodies : List BodyPlace) (r : Role) → sent_in_role seen bodies r ≡ []
  no_role_sent bodies (called c) =
      ap (λ xs. if is_under_go c.place then function_sent (callee_of known c.callee) xs else []) (no_sent_from bodies c 0 c.arguments)
      ∙ by (is_under_go c.place)
    where
      by : (b : Bool) → (if b then function_sent (callee_of known c.callee) [] else []) ≡ []
      by true = refl
      by false = refl
  no_role_sent bodies elsewhere = refl
  no_role_sent bodies as_key = refl
  no_role_sent bodies exposed = refl
  no_role_sent bodies pointed_to = refl
  no_role_sent bodies (found_nil nil) = refl
  no_role_sent bodies (found_error nil row) = refl
  no_role_sent bodies called_in_brackets = refl
  no_role_sent bodies (argument k has_address c) = refl
  no_role_sent bodies (returned k) = refl
  no_role_sent bodies (left k row) = refl
  no_role_sent bodies (names_type row) = refl
  no_role_sent bodies (new_literal row) = refl
  no_role_sent bodies parameter_pointer = refl

  no_sent : (bodies : List BodyPlace) (m : Mention) → sent_events known.edition seen bodies m ≡ []
  no_sent bodies m = by known.edition
    where
      by : (e : Edition) → sent_events e seen bodies m ≡ []
      by First = refl
      by Second = no_role_sent bodies m.role

  mark_hands_nothing : (bodies : List BodyPlace) (mark : Mark) (e : Event) (f : Callee) → HandsTo f e
      → Contains (mark_events seen bodies mark) e
      → ⊥
  mark_hands_nothing bodies (mentions m) e f h c =
      let lost = error_events seen m m.role in
      let of_objects = object_events seen bodies m in
      let sent = sent_events known.edition seen bodies m in
      elim (Contains-append_cases (variable_outcome seen bodies m).events (lost ++ (of_objects ++ sent)) e c) [
        | inl own ↦ contains_nil e (subst (λ (o : Outcome). Contains o.events e) (variable_nothing bodies m) own)
        | inr others ↦ elim (Contains-append_cases lost (of_objects ++ sent) e others) [
          | inl x ↦ calls_hand_nothing seen m m.role e f h x
          | inr rest ↦ elim (Contains-append_cases of_objects sent e rest) [
            | inl kept ↦ contains_nil e (subst (λ es. Contains es e) (no_object_event bodies m m.role) kept)
            | inr x ↦ contains_nil e (subst (λ es. Contains es e) (no_sent bodies m) x)
          ]
        ]
      ]
  mark_hands_nothing bodies (of_fields site m) e f h c =
      contains_nil e (subst (λ es. Contains es e) (no_field_event bodies (of_fields site m) m) c)
  mark_hands_nothing bodies (runs_literal moment site at) e f h c = run_hands_nothing known.edition moment at e f h c
  mark_hands_nothing bodies (returns at es) e f h c =
      elim (contains_cases (return_event (handed_on seen bodies 0 es)) e [] c) [
        | inl same ↦ return_hands_nothing (handed_on seen bodies 0 es) e f (sym same) h
        | inr n ↦ contains_nil e n
      ]
  mark_hands_nothing bodies (opens b) e f h c = contains_nil e c
  mark_hands_nothing bodies closes e f h c = contains_nil e c

  events_hand_nothing : (body at : ℕ) (qs : List Placed) (e : Event) (f : Callee) → HandsTo f e
      → Contains (events_at seen body qs at) e
      → ⊥
  events_hand_nothing body at [] e f h c = contains_nil e c
  events_hand_nothing body at (q ∷ qs) e f h c =
      by (is_body body q.bodies && is_site q.mark at) c (events_hand_nothing body at qs e f h)
    where
      by : (t : Bool)
          → Contains (if t then mark_events seen q.bodies q.mark ++ events_at seen body qs at else events_at seen body qs at) e
          → (Contains (events_at seen body qs at) e → ⊥)
          → ⊥
      by true k rest = elim (Contains-append_cases (mark_events seen q.bodies q.mark) (events_at seen body qs at) e k) [
        | inl here ↦ mark_hands_nothing q.bodies q.mark e f h here
        | inr later ↦ rest later
      ]
      by false k rest = rest k

-- what no mark has, no placed mark has

pub none_placed : (f : Mark → Bool) (bodies : List BodyPlace) (ms : List Mark) → list_any f ms ≡ false
    → list_any (λ (p : Placed). f p.mark) (placed bodies ms) ≡ false
unfolding placed
none_placed f bodies [] h = refl
none_placed f bodies (mentions m ∷ ms) h =
    ap (λ b. b || list_any (λ (p : Placed). f p.mark) (placed bodies ms)) (neither_first (f (mentions m)) _ h)
    ∙ none_placed f bodies ms (neither_second (f (mentions m)) _ h)
none_placed f bodies (of_fields site m ∷ ms) h =
    ap (λ b. b || list_any (λ (p : Placed). f p.mark) (placed bodies ms)) (neither_first (f (of_fields site m)) _ h)
    ∙ none_placed f bodies ms (neither_second (f (of_fields site m)) _ h)
none_placed f bodies (runs_literal moment site at ∷ ms) h =
    ap (λ b. b || list_any (λ (p : Placed). f p.mark) (placed bodies ms))
    (neither_first (f (runs_literal moment site at)) _ h)
    ∙ none_placed f bodies ms (neither_second (f (runs_literal moment site at)) _ h)
none_placed f bodies (returns at es ∷ ms) h =
    ap (λ b. b || list_any (λ (p : Placed). f p.mark) (placed bodies ms)) (neither_first (f (returns at es)) _ h)
    ∙ none_placed f bodies ms (neither_second (f (returns at es)) _ h)
none_placed f bodies (opens b ∷ ms) h =
    ap (λ t. t || list_any (λ (p : Placed). f p.mark) (placed (b ∷ bodies) ms)) (neither_first (f (opens b)) _ h)
    ∙ none_placed f (b ∷ bodies) ms (neither_second (f (opens b)) _ h)
none_placed f bodies (closes ∷ ms) h = none_placed f (outer bodies) ms (neither_second (f closes) _ h)

-- What is known of left sides is no matter

abbrev pub with_lefts : Known → (ℕ → Option ObjectLeft) → Known
with_lefts known lefts = record known { object_lefts = lefts }

module _ (known other : Known) (same : known.means ≡ other.means) where
  abbrev tells_by : Meanings → Named → Bool
  tells_by means n =
      (list_any (λ name. is_of means context_path name n) plain_makers
      || list_any (λ name. is_of means context_path name n) cause_makers)
      || (is_of means context_path (codes "CancelFunc") n || is_of means context_path (codes "CancelCauseFunc") n)

  name_same : (n : Named) → tells known n ≡ tells other n
  name_same n = ap (λ means. tells_by means n) same

  named_same : (o : Option Named) → named_tells known o ≡ named_tells other o
  named_same None = refl
  named_same (Some n) = name_same n

  call_same : (c : Option Call) → call_tells known c ≡ call_tells other c
  call_same None = refl
  call_same (Some c) = name_same c.callee

  type_same : (t : OptionalExpression) → type_tells known t ≡ type_tells other t
  type_same missing_expression = refl
  type_same (present_expression t) = named_same (as_named t)

  items_same : (is : List Item) → items_tell known is ≡ items_tell other is
  items_same [] = refl
  items_same (x ∷ xs) = λ i. type_same x.type i || items_same xs i

  signature_same : (s : Signature) → signature_tells known s ≡ signature_tells other s
  signature_same (signature_of ps rs brackets) = λ i. items_same (items_of ps) i || items_same (items_of rs) i

  form_same : (form : RowForm) → form_tells known form ≡ form_tells other form
  form_same (defines ns) = refl
  form_same (assigns ls) = refl
  form_same (declares keyword ns t) = type_same t

  row_same : (row : Row) → row_tells known row ≡ row_tells other row
  row_same row = λ i. call_same (only_call row row.values) i || form_same row.form i

  role_same : (r : Role) → role_tells known r ≡ role_tells other r
  role_same (left k row) = row_same row
  role_same elsewhere = refl
  role_same as_key = refl
  role_same exposed = refl
  role_same pointed_to = refl
  role_same (found_nil nil) = refl
  role_same (found_error nil row) = refl
  role_same (called c) = refl
  role_same called_in_brackets = refl
  role_same (argument k has_address c) = refl
  role_same (returned k) = refl
  role_same (names_type row) = refl
  role_same (new_literal row) = refl
  role_same parameter_pointer = refl

  field_same : (m : FieldMark) → field_tells known m ≡ field_tells other m
  field_same (writes_field l (Some a)) = row_same a.row
  field_same (writes_field l None) = refl
  field_same (calls_field f) = refl
  field_same (hands_over taker e) = refl
  field_same (hands_literal taker at) = refl
  field_same (renews number) = refl
  field_same imports_all = refl

  -- which marks tell goes by what the uses of the file mean alone
  pub tells_the_same : (m : Mark) → mark_tells known m ≡ mark_tells other m
  tells_the_same (mentions m) = λ i. name_same m.named i || role_same m.role i
  tells_the_same (of_fields site m) = field_same m
  tells_the_same (runs_literal moment site at) = refl
  tells_the_same (returns at es) = refl
  tells_the_same (opens b) = λ i. items_same (receiver_items b.receiver) i || signature_same b.signature i
  tells_the_same closes = refl

facts_too : (known : Known) (lefts : ℕ → Option ObjectLeft) (n : Named)
    → facts_of (with_lefts known lefts) n ≡ facts_of known n
facts_too known lefts n = by n.selected (known.means n.at)
  where
    by : (selected : Option (List ℕ)) (m : Option Meaning)
        → facts_meant (with_lefts known lefts) n.name selected m ≡ facts_meant known n.name selected m
    by None None = refl
    by None (Some (local_name number kind)) = refl
    by None (Some (import_name path)) = refl
    by None (Some function_name) = refl
    by None (Some package_name) = refl
    by None (Some universe_name) = refl
    by (Some m) None = refl
    by (Some m) (Some (local_name number kind)) = refl
    by (Some m) (Some (import_name path)) = refl
    by (Some m) (Some function_name) = refl
    by (Some m) (Some package_name) = refl
    by (Some m) (Some universe_name) = refl

pub gives_too : (known : Known) (lefts : ℕ → Option ObjectLeft) → GivesByContext known
    → GivesByContext (with_lefts known lefts)
gives_too known lefts gives = record {
  no_group = gives.no_group;
  no_giver = λ n. ap facts_giving (facts_too known lefts n) ∙ gives.no_giver n;
}

tells_too : (known other : Known) → known.means ≡ other.means → (ps : List Placed)
    → list_any (λ (p : Placed). mark_tells known p.mark) ps ≡ list_any (λ (p : Placed). mark_tells other p.mark) ps
tells_too known other same [] = refl
tells_too known other same (p ∷ ps) = λ i. tells_the_same known other same p.mark i || tells_too known other same ps i

-- No row obtains into a field

object_row_none : (bodies : List BodyPlace) (f : Identifier) (x : Option ℕ) (kind : Option ObjectKind)
    → object_row bodies f x kind None ≡ []
object_row_none [] f x kind = refl
object_row_none (b ∷ bs) f None kind = refl
object_row_none (b ∷ bs) f (Some x) None = refl
object_row_none (b ∷ bs) f (Some x) (Some kind) = refl

module _ (known : Known) (gives : GivesByContext known) (all : List Placed) where
  no_row_there : (bodies : List BodyPlace) (mark : Mark) → mark_tells known mark ≡ false
      → object_rows_there known all bodies mark ≡ []
  no_row_there bodies (of_fields site (writes_field l (Some a))) h = by (not l.has_brackets && has_field known.fields l.field.text)
    where
      rows : object_row bodies l.field (local_named known l.object)
          (object_in known all bodies (unaddressed known all (local_named known l.object)))
          (type_at a.left_side (row_giving known a.row)) ≡ []
      rows =
          ap (λ g. object_row bodies l.field (local_named known l.object)
          (object_in known all bodies (unaddressed known all (local_named known l.object))) (type_at a.left_side g))
          (no_row_giving known gives a.row h)
          ∙ object_row_none bodies l.field (local_named known l.object)
          (object_in known all bodies (unaddressed known all (local_named known l.object)))

      by : (b : Bool) → (if b then object_row bodies l.field (local_named known l.object)
          (object_in known all bodies (unaddressed known all (local_named known l.object)))
          (type_at a.left_side (row_giving known a.row)) else []) ≡ []
      by true = rows
      by false = refl
  no_row_there bodies (of_fields site (writes_field l None)) h = refl
  no_row_there bodies (of_fields site (calls_field f)) h = refl
  no_row_there bodies (of_fields site (hands_over taker e)) h = refl
  no_row_there bodies (of_fields site (hands_literal taker at)) h = refl
  no_row_there bodies (of_fields site (renews number)) h = refl
  no_row_there bodies (of_fields site imports_all) h = refl
  no_row_there bodies (mentions m) h = refl
  no_row_there bodies (runs_literal moment site at) h = refl
  no_row_there bodies (returns at es) h = refl
  no_row_there bodies (opens b) h = refl
  no_row_there bodies closes h = refl

  no_object_row : (ps : List Placed) → list_any (λ (p : Placed). mark_tells known p.mark) ps ≡ false
      → flat_map (λ (p : Placed). object_rows_there known all p.bodies p.mark) ps ≡ []
  no_object_row [] h = refl
  no_object_row (p ∷ ps) h = λ i.
      no_row_there p.bodies p.mark (neither_first _ _ h) i
      ++ no_object_row ps (neither_second (mark_tells known p.mark) _ h) i

abbrev no_lefts_known : ℕ → Option ObjectLeft
no_lefts_known at = None

-- a file in which nothing is to be found is seen as if no row could obtain into a field
module _ (known : Known) (gives : GivesByContext known) (ps : List Placed)
    (none_tell : list_any (λ (p : Placed). mark_tells known p.mark) ps ≡ false) where
  pub seen_plainly : seen_with known ps (object_rows known ps) ≡ seen_with known ps []
  seen_plainly = ap (seen_with known ps) (no_object_row known gives ps ps none_tell)

  abbrev plain_known : Known
  plain_known = with_lefts known no_lefts_known

  plain_tell : list_any (λ (p : Placed). mark_tells plain_known p.mark) ps ≡ false
  plain_tell = tells_too plain_known known refl ps ∙ none_tell

  abbrev plain_locals : List Local
  plain_locals = locals_of known ps ++ []

  plain_untyped : Untyped plain_locals
  plain_untyped = both_untyped (locals_of known ps) [] (untyped known gives ps none_tell) tt

  -- no cancel variable is there to be kept
  pub never_own : (bodies : List BodyPlace) (n : Option Named) → own_cancel (seen_with known ps []) bodies n ≡ None
  never_own =
      no_own_cancel plain_known (gives_too known no_lefts_known gives) ps plain_tell plain_locals plain_untyped

  plainly_silent : list_any (λ (p : Placed). names_recover p.mark) ps ≡ false → IsSilent (seen_with known ps [])
  plainly_silent none_there =
      let too = gives_too known no_lefts_known gives in
      record {
        no_variable = no_variable plain_known too ps plain_tell plain_locals plain_untyped;
        outside = no_outer_fault plain_known too ps plain_tell plain_locals plain_untyped ps plain_tell none_there;
        inside = λ body.
            no_inner_fault plain_known too ps plain_tell plain_locals plain_untyped body ps plain_tell none_there;
        hands_nothing = λ f h.
            events_hand_nothing plain_known too ps plain_tell plain_locals plain_untyped h.body.at h.at ps h.event f
            h.hands h.is_event;
        keeps_nothing = no_field plain_known too ps plain_tell plain_locals plain_untyped (λ at. refl);
      }

pub without_makers : FilesWithoutMakersAreSilent
without_makers known marks gives tell recovers =
    let ps = placed [] marks in
    let none_tell = none_placed (mark_tells known) [] marks tell in
    subst IsSilent (sym (seen_plainly known gives ps none_tell))
    (plainly_silent known gives ps none_tell (none_placed names_recover [] marks recovers))

-- Where no use means `context`

module _ (known : Known) (gives : GivesNothing known) where
  no_context : (at : ℕ) → is_import context_path (known.means at) ≡ false
  no_context at = by (known.means at) refl
    where
      by : (m : Option Meaning) → known.means at ≡ m → is_import context_path m ≡ false
      by None e = refl
      by (Some (local_name number kind)) e = refl
      by (Some (import_name path)) e = neither_first _ _ (gives.no_maker at path e)
      by (Some function_name) e = refl
      by (Some package_name) e = refl
      by (Some universe_name) e = refl

  of_context : (name : List ℕ) (n : Named) → is_of known.means context_path name n ≡ false
  of_context name n = not_both (is_selected name n.selected) _ (no_context n.at)

  none_tells : (n : Named) → tells known n ≡ false
  none_tells n = λ i.
      (none_of (λ name. is_of known.means context_path name n) (λ name. of_context name n) plain_makers i
      || none_of (λ name. is_of known.means context_path name n) (λ name. of_context name n) cause_makers i)
      || (of_context (codes "CancelFunc") n i || of_context (codes "CancelCauseFunc") n i)

  no_name_tells : (o : Option Named) → named_tells known o ≡ false
  no_name_tells None = refl
  no_name_tells (Some n) = none_tells n

  no_call_tells : (o : Option Call) → call_tells known o ≡ false
  no_call_tells None = refl
  no_call_tells (Some c) = none_tells c.callee

  no_type_tells : (t : OptionalExpression) → type_tells known t ≡ false
  no_type_tells missing_expression = refl
  no_type_tells (present_expression t) = no_name_tells (as_named t)

  no_items_tell : (is : List Item) → items_tell known is ≡ false
  no_items_tell is = none_of (λ (i : Item). type_tells known i.type) (λ i. no_type_tells i.type) is

  no_signature_tells : (s : Signature) → signature_tells known s ≡ false
  no_signature_tells (signature_of ps rs brackets) = λ i. no_items_tell (items_of ps) i || no_items_tell (items_of rs) i

  no_form_tells : (form : RowForm) → form_tells known form ≡ false
  no_form_tells (defines ns) = refl
  no_form_tells (assigns ls) = refl
  no_form_tells (declares keyword ns t) = no_type_tells t

  no_row_tells : (row : Row) → row_tells known row ≡ false
  no_row_tells row = λ i. no_call_tells (only_call row row.values) i || no_form_tells row.form i

  no_field_tells : (m : FieldMark) → field_tells known m ≡ false
  no_field_tells (writes_field l (Some a)) = no_row_tells a.row
  no_field_tells (writes_field l None) = refl
  no_field_tells (calls_field f) = refl
  no_field_tells (hands_over taker e) = refl
  no_field_tells (hands_literal taker at) = refl
  no_field_tells (renews number) = refl
  no_field_tells imports_all = refl

  no_role_tells : (r : Role) → role_tells known r ≡ false
  no_role_tells elsewhere = refl
  no_role_tells as_key = refl
  no_role_tells exposed = refl
  no_role_tells pointed_to = refl
  no_role_tells (found_nil nil) = refl
  no_role_tells (found_error nil row) = refl
  no_role_tells (called c) = refl
  no_role_tells called_in_brackets = refl
  no_role_tells (argument k has_address c) = refl
  no_role_tells (returned k) = refl
  no_role_tells (left k row) = no_row_tells row
  no_role_tells (names_type row) = refl
  no_role_tells (new_literal row) = refl
  no_role_tells parameter_pointer = refl

  pub no_mark_tells : (mark : Mark) → mark_tells known mark ≡ false
  no_mark_tells (mentions m) = λ i. none_tells m.named i || no_role_tells m.role i
  no_mark_tells (of_fields site m) = no_field_tells m
  no_mark_tells (runs_literal moment site at) = refl
  no_mark_tells (returns at es) = refl
  no_mark_tells (opens b) = λ i. no_items_tell (receiver_items b.receiver) i || no_signature_tells b.signature i
  no_mark_tells closes = refl

pub silent_so : SilentFilesAreSilent
silent_so known marks gives recovers =
    without_makers known marks record {
      no_group = λ at path e. neither_second _ _ (gives.no_maker at path e);
      no_giver = gives.no_giver;
    } (none_of (mark_tells known) (no_mark_tells known gives) marks) recovers
