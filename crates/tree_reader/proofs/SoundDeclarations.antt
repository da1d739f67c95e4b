-- The declarations that the reader reads are spelled by their tokens, and no deeper than their parts may be.
use Rattle.std.proofs.Common.{◌≡◌, ℕ, zero, suc, ◌≤◌, Bool, true, false, if◌then◌else◌, ◌&&◌, ◌||◌, true≢false, inl, inr, refl, sym, subst, ap, ◌∙◌, List, [], ◌∷◌, arith}
use Rattle.std.specs.Prelude.{Some}
use Rattle.std.proofs.lemmas.Option.{none-some, option_and_then_some}
use Rattle.std.proofs.lemmas.Bool.{and_parts}
use Rattle.lexer.specs.declared.token.Token.{Token}
use Rattle.lexer.specs.declared.token.TokenKind.TheVariants.{Assign, LeftParenthesis, RightParenthesis, LeftBracket, RightBracket}
use Rattle.tree.specs.declared.operator.DeclKeyword.{DeclKeyword}
use Rattle.tree.specs.declared.operator.DeclKeyword.TheVariants.{Const, Var, «Type» as type_keyword}
use Rattle.tree.specs.declared.edition.Edition.{Edition}
use Rattle.tree.specs.declared.edition.Edition.TheVariants.{First, Second}
use Rattle.tree.specs.declared.operator.BinaryOperator.TheVariants.{Or, Multiply}
use Rattle.tree.specs.declared.span.Span.{Span}
use Rattle.tree.specs.Syntax.{Identifier, Expression, expression_node, name_expression, call_expression, binary_expression, array_type, Parameters, no_parameter, named_and, unnamed_and, name_alone_and, Expressions, no_expression, expression_and, OptionalExpression, missing_expression, present_expression, Declaration, declaration_of, Specs, no_spec, value_and, type_and}
use Rattle.tree.specs.Depth.{expression_depth, parameters_depth, expressions_depth, optional_depth, declaration_depth, specs_depth}
use Rattle.meaning.specs.Cursor.{GoText, Cursor, TakesToken, ◌⨾◌, ◌⇒◌, nothing, one_of, chosen, token, semicolon, first_is, is_next, identifier}
use Rattle.meaning.specs.WellFormed.{end_constrained}
use Rattle.meaning.specs.TypeParameters.{is_identifier, has_separator, type_follows, begins_parameters, splits, split_has_type, is_parameter, is_one_parameter}
use Rattle.meaning.specs.OperatorTokens.{can_begin_type}
use Rattle.meaning.specs.Grammar.{as_type, as_expression, IsSecond, in_brackets, type_parameters, parameters_stand, no_type_parameters, after_type_name, SpellsExpression, SpellsForm, SpellsTypeParameters, perhaps, ValueFits, IsLast, SpellsExpressions, SpellsOptional, SpellsDeclaration, SpellsSpecs}
use Rattle.tree_reader.specs.Reading.{◌>>=◌, stands, behind_first, behind, take, past, steps, spanned, span_between, read_identifier, read_identifiers}
use Rattle.tree_reader.specs.Reader.{of_next, declaration_keyword, value_fits, is_second, Readers, read_any, within, read_expressions, read_type_parameters, read_plain_type, read_generic_type, read_length_or_parameter, read_value_spec, read_type_spec, read_spec, read_specs, read_declaration}
use Rattle.tree_reader.specs.Claims.{AreSound}
use Rattle.tree_reader.proofs.Steps.{given, two_ways, only_where_some, stands-sound, take-sound, past-sound, take_semicolon-sound, read_identifier-sound, read_identifiers-sound}
use Rattle.tree_reader.proofs.Tables.{declaration_keyword-sound}
use Rattle.tree_reader.proofs.Taken.{behind_gives, next_gives, stands_gives, past_other}
use Rattle.tree_reader.proofs.SoundLists.{read_expressions-sound}
use Rattle.tree_reader.proofs.SoundIndexes.{second_is}
use Rattle.tree_reader.proofs.SoundInstances.{within-sound, array_spelled, parameters_there, read_type_parameters-sound}

value_fits-true : (keyword : DeclKeyword) (t : OptionalExpression) (es : Expressions)
    → value_fits keyword t es ≡ true
    → ValueFits keyword t es
value_fits-true Const missing_expression es e = tt
value_fits-true Const (present_expression t) no_expression e = cc
value_fits-true Const (present_expression t) (expression_and v es) e = tt
value_fits-true Var missing_expression no_expression e = cc
value_fits-true Var missing_expression (expression_and v es) e = tt
value_fits-true Var (present_expression t) es e = tt
value_fits-true type_keyword t es e = cc

never_true : (b : Bool) → (b ≡ true → ⊥) → b ≡ false
never_true true h = absurd (h refl)
never_true false h = refl

-- type parameters begin with a name
name_behind : (left : List Token) (end : ℕ)
    → begins_parameters left ≡ true
    → first_is is_identifier (behind_first end left).left ≡ true
unfolding begins_parameters
name_behind [] end e = absurd (true≢false (sym e))
name_behind (bracket ∷ []) end e = absurd (true≢false (sym e))
name_behind (bracket ∷ (name ∷ rest)) end e = (and_parts (is_identifier name.kind) (has_separator 0 rest || type_follows 0 rest) e).0

-- the length of an array that is no type parameter
length_there : (edition : Edition) (n t : Expression) (span : Span) (place : Cursor)
    → is_parameter n ≡ false
    → begins_parameters place.left ≡ false
    → no_type_parameters edition false (expression_node (array_type n t) span) place place
length_there First n t span place h none = refl
length_there Second n t span place h none = (h, (refl, none))

module _ (text : GoText) where
  abbrev SpellsValues : Expressions → Cursor → Cursor → Type 0
  SpellsValues es = perhaps es (token Assign ⨾ SpellsExpressions text as_expression es)

  values_after : (es : Expressions) (from inner to : Cursor)
      → token Assign from inner
      → SpellsExpressions text as_expression es inner to
      → SpellsValues es from to
  unfolding SpellsExpressions
  values_after no_expression from inner to assign h = absurd h
  values_after (expression_and e es) from inner to assign h = (inner, assign, h)

  -- by the tokens or by what they are, type parameters stand there
  parameters_stand-sound : (ps : Parameters) (place : Cursor)
      → (begins_parameters place.left || is_one_parameter ps) ≡ true
      → one_of (parameters_stand true) ((is_one_parameter ps ≡ true) ⇒ parameters_stand false) place place
  parameters_stand-sound ps place e = by_value (begins_parameters place.left) refl e where
    by_value : (b : Bool)
        → begins_parameters place.left ≡ b
        → (b || is_one_parameter ps) ≡ true
        → one_of (parameters_stand true) ((is_one_parameter ps ≡ true) ⇒ parameters_stand false) place place
    by_value true found h = inl (refl, found)
    by_value false found h = inr (h, (refl, found))

  after_parameters : (ps : Parameters) (is_alias : Bool) (t : Expression) (from to : Cursor)
      → end_constrained ps ≡ true
      → one_of (parameters_stand true) ((is_one_parameter ps ≡ true) ⇒ parameters_stand false) from from
      → type_parameters (IsSecond text.edition) ps (SpellsTypeParameters text true ps) from to
      → after_type_name text.edition ps is_alias t (SpellsTypeParameters text true ps) from to
  after_parameters no_parameter is_alias t from to e stand list = absurd (true≢false (sym e))
  after_parameters (named_and n ellipsis c ps) is_alias t from to e stand list = (from, stand, list)
  after_parameters (unnamed_and ellipsis c ps) is_alias t from to e stand list = (from, stand, list)
  after_parameters (name_alone_and n ps) is_alias t from to e stand list = (from, stand, list)

  -- an expression that is read as a type parameter begins with a name
  parameter_begins : (n : Expression) (from to : Cursor)
      → splits n ≡ true
      → SpellsExpression text as_expression n from to
      → is_next is_identifier from ≡ true
  unfolding SpellsExpression SpellsForm splits
  parameter_begins (expression_node (binary_expression Multiply (expression_node (name_expression name) at) r) span) from to e h =
      next_gives h.0.1.1.1.0.1.0 is_identifier
  parameter_begins (expression_node (binary_expression Multiply (expression_node _ at) r) span) from to e h =
      absurd (true≢false (sym e))
  parameter_begins (expression_node (binary_expression Or l r) span) from to e h =
      parameter_begins l from h.0.1.1.0 e h.0.1.1.1
  parameter_begins (expression_node (call_expression (expression_node (name_expression name) at) es ellipsis) span) from to e h =
      next_gives h.0.1.1.1.0.1.0 is_identifier
  parameter_begins (expression_node (call_expression (expression_node _ at) (expression_and y no_expression) false) span) from to e h =
      absurd (true≢false (sym e))
  parameter_begins (expression_node _ span) from to e h = absurd (true≢false (sym e))

  -- where no name follows a bracket, no type parameters stand, and no length that is read as one
  no_parameters : (edition : Edition) (is_alias : Bool) (t : Expression) (place to : Cursor)
      → (is_second edition && (stands LeftBracket place && is_next is_identifier (behind place))) ≡ false
      → is_alias ≡ stands Assign place
      → SpellsExpression text as_type t (past Assign place) to
      → no_type_parameters edition is_alias t place place
  unfolding SpellsExpression SpellsForm
  no_parameters First is_alias t place to e same h = refl
  no_parameters Second true t place to e same h = refl
  no_parameters Second false (expression_node (array_type n t) span) place to e same h =
      let here : past Assign place ≡ place = past_other Assign (sym same) in
      let bracket = subst (λ (c : Cursor). TakesToken LeftBracket c h.0.1.0) here h.0.1.1 in
      let inner : behind place ≡ h.0.1.0 = behind_gives bracket in
      let no_name : is_next is_identifier (behind place) ≡ false =
      ap (λ b. b && is_next is_identifier (behind place)) (sym (stands_gives bracket)) ∙ e in
      let length = subst (λ (c : Cursor). SpellsExpression text as_expression n c h.0.1.2.0) (sym inner) h.0.1.2.1 in (
        never_true (is_parameter n) (λ is. true≢false (sym (parameter_begins n (behind place) h.0.1.2.0
            (and_parts (splits n) (split_has_type n) is).0 length) ∙ no_name)),
        (refl, never_true (begins_parameters place.left) (λ is. true≢false (sym (name_behind place.left place.end is) ∙ no_name))),
      )
  no_parameters Second false (expression_node _ span) place to e same h = refl

module _ (text : GoText) (r : Readers) (below : ℕ) (sound : AreSound text below r) where
  abbrev ReadsSpecType : Cursor → OptionalExpression × Cursor → Type 0
  ReadsSpecType from x = SpellsOptional text as_type x.0 from x.1 × (optional_depth x.0 ≤ below)

  spec_type-sound : (from : Cursor) (x : OptionalExpression × Cursor)
      → (if is_next can_begin_type from
      then r.read_type from >>= (λ t. Some (present_expression t.0, t.1))
      else Some (missing_expression, from)) ≡ Some x
      → ReadsSpecType from x
  unfolding SpellsOptional optional_depth
  spec_type-sound from x e =
      elim (two_ways (is_next can_begin_type from) _ _ (Some x) e) [
        | inl c ↦ option_and_then_some _ (r.read_type from) x c.1 λ t t-read t-then.
            given (ReadsSpecType from) _ x t-then (sound.type from t.1 t.0 t-read)
        | inr c ↦ given (ReadsSpecType from) _ x c.1 (refl, omega arith)
      ]

  abbrev ReadsSpecValues : Cursor → Expressions × Cursor → Type 0
  ReadsSpecValues from x = SpellsValues text x.0 from x.1 × (expressions_depth x.0 ≤ below)

  spec_values-sound : (from : Cursor) (x : Expressions × Cursor)
      → (if stands Assign from
      then read_expressions text r false (behind from)
      else Some (no_expression, from)) ≡ Some x
      → ReadsSpecValues from x
  unfolding expressions_depth
  spec_values-sound from x e =
      elim (two_ways (stands Assign from) _ _ (Some x) e) [
        | inl c ↦ (let h = read_expressions-sound text r below sound false (behind from) x c.1 in
            (values_after text x.0 from (behind from) x.1 (stands-sound Assign from c.0) h.0, h.2))
        | inr c ↦ given (ReadsSpecValues from) _ x c.1 (refl, omega arith)
      ]

  abbrev Follows : DeclKeyword → Bool → Specs → Cursor → Cursor → Type 0
  Follows keyword is_grouped specs =
      chosen is_grouped (semicolon ⨾ SpellsSpecs text keyword true specs) (IsLast specs ⇒ nothing)

  -- a spec is one where it is before other specs, or alone
  record ReadsSpec (keyword : DeclKeyword) (from : Cursor) (x : (Specs → Specs) × Cursor) : Type 0 where
    spelled : (is_grouped : Bool) (specs : Specs) (to : Cursor)
        → Follows keyword is_grouped specs x.1 to
        → SpellsSpecs text keyword is_grouped (x.0 specs) from to
    shallow : (specs : Specs) → specs_depth specs ≤ below → specs_depth (x.0 specs) ≤ below

  read_value_spec-sound : (keyword : DeclKeyword) (from : Cursor) (x : (Specs → Specs) × Cursor)
      → read_value_spec text r keyword from ≡ Some x
      → ReadsSpec keyword from x
  unfolding read_value_spec SpellsSpecs specs_depth
  read_value_spec-sound keyword from x e =
      option_and_then_some _ (read_identifiers text from) x e λ ns ns-read ns-then.
      option_and_then_some _ _ x ns-then λ t t-read t-then.
      option_and_then_some _ _ x t-then λ es es-read es-then.
      let fits = only_where_some _ _ x es-then in
      let value_fit = value_fits-true keyword t.0 es.0 fits.0 in
      let h = read_identifiers-sound text from ns ns-read in
      let k = spec_type-sound ns.1 t t-read in
      let m = spec_values-sound t.1 es es-read in
      let a = k.1 in
      let b = m.1 in
      given (ReadsSpec keyword from) (value_and ns.0 t.0 es.0 (span_between from es.1), es.1) x fits.1 record {
        spelled = λ is_grouped specs to more. (value_fit, (_, ((_, h, (_, k.0, m.0)), refl, refl), more));
        shallow = λ specs d. omega arith;
      }

  -- a type, or `=` and a type, behind what stands behind a new type's name
  read_plain_type-sound : (from : Cursor) (n : Identifier) (ps : Parameters) (name place : Cursor)
      → (x : (Specs → Specs) × Cursor)
      → identifier text n from name
      → ((is_alias : Bool) (t : Expression) (to : Cursor)
      → is_alias ≡ stands Assign place
      → SpellsExpression text as_type t (past Assign place) to
      → after_type_name text.edition ps is_alias t (SpellsTypeParameters text true ps) name place)
      → parameters_depth ps ≤ below
      → read_plain_type text r from n ps place ≡ Some x
      → ReadsSpec type_keyword from x
  unfolding read_plain_type SpellsSpecs specs_depth
  read_plain_type-sound from n ps name place x named allowed d e =
      option_and_then_some _ (r.read_type (past Assign place)) x e λ t t-read t-then.
      let k = sound.type (past Assign place) t.1 t.0 t-read in
      let between = allowed (stands Assign place) t.0 t.1 refl k.0 in
      let a = k.1 in
      given (ReadsSpec type_keyword from) _ x t-then record {
        spelled = λ is_grouped specs to more.
            (tt, (_, ((name, named, (place, between, (_, past-sound Assign place, k.0))), refl, refl), more));
        shallow = λ specs deep. omega arith;
      }

  -- type parameters, and the type
  read_generic_type-sound : (from : Cursor) (n : Identifier) (place : Cursor) (x : (Specs → Specs) × Cursor)
      → IsSecond text.edition
      → identifier text n from place
      → read_generic_type text r from n place ≡ Some x
      → ReadsSpec type_keyword from x
  unfolding read_generic_type
  read_generic_type-sound from n place x second named e =
      option_and_then_some _ (read_type_parameters text r place) x e λ ps ps-read ps-then.
      let h = read_type_parameters-sound text r below sound place ps ps-read in
      let k = only_where_some (begins_parameters place.left || is_one_parameter ps.0) _ x ps-then in
      let stand = parameters_stand-sound text ps.0 place k.0 in
      let list = parameters_there text (IsSecond text.edition) ps.0 (SpellsTypeParameters text true ps.0) place ps.1 second
      h.0 h.1 in
      read_plain_type-sound from n ps.0 place ps.1 x named
      (λ is_alias t to same type. after_parameters text ps.0 is_alias t place ps.1 h.0 stand list) h.2 k.1

  -- an array behind a new type's name, or type parameters
  read_length_or_parameter-sound : (from : Cursor) (n : Identifier) (place : Cursor) (x : (Specs → Specs) × Cursor)
      → IsSecond text.edition
      → identifier text n from place
      → stands LeftBracket place ≡ true
      → begins_parameters place.left ≡ false
      → read_length_or_parameter text r from n place ≡ Some x
      → ReadsSpec type_keyword from x
  unfolding read_length_or_parameter SpellsSpecs specs_depth
  read_length_or_parameter-sound from n place x second named bracket none e =
      option_and_then_some _ (read_any text r (behind place)) x e λ l l-read l-then.
      elim (two_ways (is_parameter l.0) _ _ (Some x) l-then) [
        | inl c ↦ read_generic_type-sound from n place x second named c.1
        | inr c ↦ option_and_then_some _ (take RightBracket l.1) x c.1 λ end end-read end-then.
            option_and_then_some _ (r.read_type end) x end-then λ t t-read t-then.
            let array = spanned place (array_type l.0 t.0) t.1 in
            option_and_then_some _ (within text r array) x t-then λ a a-read a-then.
            let h = sound.expression false 1 (behind place) l.1 l.0 l-read in
            let left = stands-sound LeftBracket place bracket in
            let right = take-sound RightBracket l.1 end end-read in
            let k = sound.type end t.1 t.0 t-read in
            let w = within-sound text r below sound array a a-read in
            let length : in_brackets (SpellsExpression text as_expression l.0) place end = (behind place, left, (l.1, h.0, right)) in
            let spelled = array_spelled text r below sound l.0 t.0 place end t.1 length k.0 in
            let stand = length_there text.edition l.0 t.0 (span_between place t.1) place c.0 none in
            let type : SpellsExpression text as_type a.0 place a.1 =
            subst (λ (y : Expression × Cursor). SpellsExpression text as_type y.0 place y.1) w.0 spelled in
            let between : no_type_parameters text.edition false a.0 place place =
            subst (λ (y : Expression × Cursor). no_type_parameters text.edition false y.0 place place) w.0 stand in
            let d = w.1 in
            given (ReadsSpec type_keyword from) (type_and n no_parameter false a.0 (span_between from a.1), a.1) x a-then
            record {
              spelled = λ is_grouped specs to more.
                  (tt, (_, ((place, named, (place, between, (place, refl, type))), refl, refl), more));
              shallow = λ specs deep. omega arith;
            }
      ]

  read_type_spec-sound : (from : Cursor) (x : (Specs → Specs) × Cursor)
      → read_type_spec text r from ≡ Some x
      → ReadsSpec type_keyword from x
  unfolding read_type_spec parameters_depth
  read_type_spec-sound from x e =
      option_and_then_some _ (read_identifier text from) x e λ n n-read n-then.
      let h = read_identifier-sound text from n n-read in
      let opens = stands LeftBracket n.1 && is_next is_identifier (behind n.1) in
      elim (two_ways (is_second text.edition && opens) _ _ (Some x) n-then) [
        | inl c ↦ (let tests = and_parts (is_second text.edition) opens c.0 in
            let second = second_is text.edition tests.0 in
            let bracket = (and_parts (stands LeftBracket n.1) (is_next is_identifier (behind n.1)) tests.1).0 in
            elim (two_ways (begins_parameters n.1.left) _ _ (Some x) c.1) [
              | inl d ↦ read_generic_type-sound from n.0 n.1 x second h d.1
              | inr d ↦ read_length_or_parameter-sound from n.0 n.1 x second h bracket d.0 d.1
            ])
        | inr c ↦ read_plain_type-sound from n.0 no_parameter n.1 n.1 x h
            (λ is_alias t to same type. no_parameters text text.edition is_alias t n.1 to c.0 same type) (omega arith) c.1
      ]

  read_spec-sound : (keyword : DeclKeyword) (from : Cursor) (x : (Specs → Specs) × Cursor)
      → read_spec text r keyword from ≡ Some x
      → ReadsSpec keyword from x
  read_spec-sound Const from x e = read_value_spec-sound Const from x e
  read_spec-sound Var from x e = read_value_spec-sound Var from x e
  read_spec-sound type_keyword from x e = read_type_spec-sound from x e

  abbrev ReadsSpecs : DeclKeyword → Cursor → Specs × Cursor → Type 0
  ReadsSpecs keyword from x = SpellsSpecs text keyword true x.0 from x.1 × (specs_depth x.0 ≤ below)

  last_spec : (keyword : DeclKeyword) (to : Cursor) → ReadsSpecs keyword to (no_spec, to)
  unfolding SpellsSpecs specs_depth
  last_spec keyword to = (refl, omega arith)

  read_specs-sound : (keyword : DeclKeyword) (n : ℕ) (from : Cursor) (x : Specs × Cursor)
      → read_specs text r keyword n from ≡ Some x
      → ReadsSpecs keyword from x
  unfolding read_specs
  read_specs-sound keyword zero from x e = absurd (none-some x e)
  read_specs-sound keyword (suc n) from x e =
      elim (two_ways (stands RightParenthesis from) _ _ (Some x) e) [
        | inl c ↦ given (ReadsSpecs keyword from) _ x c.1 (last_spec keyword from)
        | inr c ↦ option_and_then_some _ (read_spec text r keyword from) x c.1 λ first first-read first-then.
            option_and_then_some _ _ x first-then λ end end-read end-then.
            option_and_then_some _ _ x end-then λ more more-read more-then.
            let h = read_spec-sound keyword from first first-read in
            let k = read_specs-sound keyword n end more more-read in
            given (ReadsSpecs keyword from) _ x more-then
            (h.spelled true more.0 more.1 (_, take_semicolon-sound first.1 end end-read, k.0), h.shallow more.0 k.1)
      ]

  abbrev pub ReadsDeclaration : Cursor → Declaration × Cursor → Type 0
  ReadsDeclaration from x = SpellsDeclaration text x.0 from x.1 × (declaration_depth x.0 ≤ below)

  pub read_declaration-sound : (keyword : DeclKeyword) (from : Cursor) (x : Declaration × Cursor)
      → of_next declaration_keyword from ≡ Some keyword
      → read_declaration text r keyword from ≡ Some x
      → ReadsDeclaration from x
  unfolding read_declaration SpellsDeclaration declaration_depth specs_depth
  read_declaration-sound keyword from x w e =
      let inner = behind from in
      let word = declaration_keyword-sound from keyword w in
      elim (two_ways (stands LeftParenthesis inner) _ _ (Some x) e) [
        | inl c ↦ option_and_then_some _ _ x c.1 λ specs specs-read specs-then.
            option_and_then_some _ _ x specs-then λ end end-read end-then.
            let h = read_specs-sound keyword (steps (behind inner)) (behind inner) specs specs-read in
            let left = stands-sound LeftParenthesis inner c.0 in
            let right = take-sound RightParenthesis specs.1 end end-read in
            given (ReadsDeclaration from) (declaration_of keyword specs.0 true (span_between from end), end) x end-then
            (((_, word, (_, left, (_, h.0, right))), refl, refl), h.1)
        | inr c ↦ option_and_then_some _ (read_spec text r keyword inner) x c.1 λ spec spec-read spec-then.
            let h = read_spec-sound keyword inner spec spec-read in
            let d = declaration_of keyword (spec.0 no_spec) false (span_between from spec.1) in
            given (ReadsDeclaration from) (d, spec.1) x spec-then
            (((_, word, h.spelled false no_spec spec.1 (tt, refl)), refl, refl), h.shallow no_spec (omega arith))
      ]
