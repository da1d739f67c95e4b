-- The simple statements that are read are spelled, kept, fit a header where they stand in one, and are no deeper than
-- they may be.
use Rattle.std.proofs.Common.{◌≡◌, ℕ, suc, ◌≤◌, Bool, true, false, List, [], ◌∷◌, inl, inr, refl, sym, subst, arith}
use Rattle.std.specs.Prelude.{Some}
use Rattle.std.proofs.lemmas.Option.{option_and_then_some, none-some}
use Rattle.std.proofs.lemmas.Bool.{false≢true}
use Rattle.lexer.specs.declared.token.TokenKind.TheVariants.{Define, Assign, Arrow, Increment, Decrement}
use Rattle.tree.specs.Syntax.{Identifier, Expression, expression_node, name_expression, Expressions, no_expression, expression_and, Statement, statement_node, StatementForm, empty_statement, expression_statement, send_statement, increment_statement, decrement_statement, assignment, operator_assignment, define_statement}
use Rattle.tree.specs.Depth.{expression_depth, expressions_depth, statement_depth, below_statement}
use Rattle.meaning.specs.Cursor.{GoText, Cursor, start_at, word, identifier, more_identifiers, identifiers}
use Rattle.meaning.specs.WellFormed.{FitsHeader, FitHeader, StatementFitsHeader, IsKept}
use Rattle.meaning.specs.Grammar.{as_expression, form_of, statement_start, SpellsExpression, SpellsForm, SpellsExpressions, SpellsMore, SpellsStatement, SpellsStatementForm}
use Rattle.tree_reader.specs.Reading.{stands, behind, spanned_statement, span_between}
use Rattle.tree_reader.specs.Reader.{Readers, of_next, assigning_operator, as_identifier, as_identifiers, single, read_expressions, read_simple_after, read_simple}
use Rattle.tree_reader.specs.Claims.{AreSound, StandsIn}
use Rattle.tree_reader.proofs.Steps.{given, two_ways, option_ways, stands-sound}
use Rattle.tree_reader.proofs.Tables.{assigning_operator-sound}
use Rattle.tree_reader.proofs.SoundLists.{StandIn, read_expressions-sound}

-- a statement that was read is spelled, kept and at most this deep
pub record IsReadStatement (text : GoText) (n : ℕ) (from : Cursor) (s : Statement) (to : Cursor) : Type 0 where
  pub spelled : SpellsStatement text s from to
  pub kept : IsKept (form_of s)
  pub shallow : statement_depth s ≤ n

-- a simple statement, which fits a header where it stands in one
pub record IsReadSimple (text : GoText) (n : ℕ) (header : Bool) (from : Cursor) (s : Statement)
    (to : Cursor) : Type 0 where
  pub read : IsReadStatement text n from s to
  pub fits : header ≡ true → StatementFitsHeader (form_of s)

abbrev pub ReadsSimple : GoText → ℕ → Bool → Cursor → Statement × Cursor → Type 0
ReadsSimple text n header from x = IsReadSimple text n header from x.0 x.1

kept-start : (form : StatementForm) (from : Cursor) → IsKept form → statement_start form from ≡ start_at from
kept-start empty_statement from k = absurd k
kept-start form from k = refl

-- a statement round what its form spells
pub node-read : (text : GoText) (below : ℕ) (form : StatementForm) (from to : Cursor)
    → SpellsStatementForm text form from to → IsKept form → below_statement form ≤ below
    → IsReadStatement text (suc below) from (statement_node form (span_between from to)) to
unfolding SpellsStatement statement_depth
node-read text below form from to h k d =
    record { spelled = (h, sym (kept-start form from k), refl); kept = k; shallow = omega arith }

-- Names that were read as expressions are spelled as names.
as_identifier-sound : (text : GoText) (e : Expression) (n : Identifier) (from to : Cursor)
    → as_identifier e ≡ Some n → SpellsExpression text as_expression e from to → identifier text n from to
unfolding SpellsExpression SpellsForm
as_identifier-sound text (expression_node (name_expression name) span) n from to e h =
    given (λ (n : Identifier). identifier text n from to) (record { text = name; span = span }) n e
    (subst (λ (c : Cursor). word text name from c) h.0.2 h.0.1, h.1, h.2)
as_identifier-sound text (expression_node form span) n from to e h = absurd (none-some n e)

as_more_identifiers-sound : (text : GoText) (es : Expressions) (ns : List Identifier) (from to : Cursor)
    → as_identifiers es ≡ Some ns → SpellsMore text as_expression es from to → more_identifiers text ns from to
unfolding SpellsMore
as_more_identifiers-sound text no_expression ns from to e h =
    given (λ (ns : List Identifier). more_identifiers text ns from to) [] ns e h
as_more_identifiers-sound text (expression_and first es) ns from to e h =
    option_and_then_some _ (as_identifier first) ns e λ n n-read n-then.
    option_and_then_some _ (as_identifiers es) ns n-then λ more more-read more-then.
    given (λ (ns : List Identifier). more_identifiers text ns from to) (n ∷ more) ns more-then (
      h.0,
      h.1,
      (
        h.2.0,
        as_identifier-sound text first n h.0 h.2.0 n-read h.2.1,
        as_more_identifiers-sound text es more h.2.0 to more-read h.2.2,
      ),
    )

pub as_identifiers-sound : (text : GoText) (es : Expressions) (ns : List Identifier) (from to : Cursor)
    → as_identifiers es ≡ Some ns → SpellsExpressions text as_expression es from to → identifiers text ns from to
unfolding SpellsExpressions
as_identifiers-sound text no_expression ns from to e h = absurd h
as_identifiers-sound text (expression_and first es) ns from to e h =
    option_and_then_some _ (as_identifier first) ns e λ n n-read n-then.
    option_and_then_some _ (as_identifiers es) ns n-then λ more more-read more-then.
    given (λ (ns : List Identifier). identifiers text ns from to) (n ∷ more) ns more-then (
      h.0,
      as_identifier-sound text first n from h.0 n-read h.1,
      as_more_identifiers-sound text es more h.0 to more-read h.2,
    )

-- the only one of some expressions
pub record IsSingle (text : GoText) (below : ℕ) (header : Bool) (from : Cursor) (e : Expression)
    (to : Cursor) : Type 0 where
  pub spelled : SpellsExpression text as_expression e from to
  pub fits : header ≡ true → FitsHeader e
  pub shallow : expression_depth e ≤ below

stands-fits : (header : Bool) (e : Expression) → StandsIn header e → header ≡ true → FitsHeader e
stands-fits true e h t = h
stands-fits false e h t = absurd (false≢true t)

pub stand-fit : (header : Bool) (es : Expressions) → StandIn header es → header ≡ true → FitHeader es
stand-fit true es h t = h
stand-fit false es h t = absurd (false≢true t)

single-sound : (text : GoText) (below : ℕ) (header : Bool) (es : Expressions) (e : Expression) (from to : Cursor)
    → single es ≡ Some e → SpellsExpressions text as_expression es from to → StandIn header es
    → expressions_depth es ≤ below → IsSingle text below header from e to
unfolding SpellsExpressions SpellsMore expressions_depth
single-sound text below header no_expression e from to s h f d = absurd (none-some e s)
single-sound text below header (expression_and first no_expression) e from to s h f d =
    given (λ (e : Expression). IsSingle text below header from e to) first e s (record {
      spelled = subst (λ (c : Cursor). SpellsExpression text as_expression first from c) h.2 h.1;
      fits = λ t. (stand-fit header (expression_and first no_expression) f t).0;
      shallow = omega arith;
    })
single-sound text below header (expression_and first (expression_and second es)) e from to s h f d = absurd
    (none-some e s)

module _ (text : GoText) (r : Readers) (below : ℕ) (sound : AreSound text below r) where
  -- a simple statement round what its form spells
  simple-given : (header : Bool) (form : StatementForm) (from to : Cursor) (x : Statement × Cursor)
      → Some (spanned_statement from form to) ≡ Some x → SpellsStatementForm text form from to → IsKept form
      → below_statement form ≤ below → (header ≡ true → StatementFitsHeader form)
      → ReadsSimple text (suc below) header from x
  simple-given header form from to x e h k d f =
      given (ReadsSimple text (suc below) header from) _ x e
      (record { read = node-read text below form from to h k d; fits = f })

  pub read_simple_after-sound : (header : Bool) (from place : Cursor) (es : Expressions) (x : Statement × Cursor)
      → SpellsExpressions text as_expression es from place → StandIn header es → expressions_depth es ≤ below
      → read_simple_after text r below header from es place ≡ Some x → ReadsSimple text (suc below) header from x
  unfolding read_simple_after SpellsStatementForm below_statement
  read_simple_after-sound header from place es x h f d e =
      elim (two_ways (stands Define place) _ _ (Some x) e) [
        | inl c ↦ (
            option_and_then_some _ (as_identifiers es) x c.1 λ ns ns-read ns-then.
            option_and_then_some _ (read_expressions text r header (behind place)) x ns-then λ rs rs-read rs-then.
            let right = read_expressions-sound text r below sound header (behind place) rs rs-read in
            simple-given header (define_statement ns rs.0) from rs.1 x rs-then (
              place,
              as_identifiers-sound text es ns from place ns-read h,
              (behind place, stands-sound Define place c.0, right.0),
            )
            tt right.2 (λ t. stand-fit header rs.0 right.1 t)
            )
        | inr c ↦ elim (two_ways (stands Assign place) _ _ (Some x) c.1) [
          | inl k ↦ (
              option_and_then_some _ (read_expressions text r header (behind place)) x k.1 λ rs rs-read rs-then.
              let right = read_expressions-sound text r below sound header (behind place) rs rs-read in
              let deep = right.2 in
              simple-given header (assignment es rs.0) from rs.1 x rs-then
              (place, h, (behind place, stands-sound Assign place k.0, right.0))
              tt (omega arith) (λ t. (stand-fit header es f t, stand-fit header rs.0 right.1 t))
              )
          | inr k ↦ (
              option_and_then_some _ (single es) x k.1 λ one one-read one-then.
              let s = single-sound text below header es one from place one-read h f d in
              elim (option_ways _ _ (of_next assigning_operator place) (Some x) one-then) [
                | inl o ↦ elim (two_ways (stands Arrow place) _ _ (Some x) o.1) [
                  | inl a ↦ (
                      option_and_then_some _ (r.read_expression header 1 (behind place)) x a.1 λ v v-read v-then.
                      let value = sound.expression header 1 (behind place) v.1 v.0 v-read in
                      let first = s.shallow in
                      let second = value.3 in
                      simple-given header (send_statement one v.0) from v.1 x v-then
                      (place, s.spelled, (behind place, stands-sound Arrow place a.0, value.0))
                      tt (omega arith) (λ t. (s.fits t, stands-fits header v.0 value.2 t))
                      )
                  | inr a ↦ elim (two_ways (stands Increment place) _ _ (Some x) a.1) [
                    | inl b ↦ simple-given header (increment_statement one) from (behind place) x b.1
                        (place, s.spelled, stands-sound Increment place b.0) tt s.shallow s.fits
                    | inr b ↦ elim (two_ways (stands Decrement place) _ _ (Some x) b.1) [
                      | inl n ↦ simple-given header (decrement_statement one) from (behind place) x n.1
                          (place, s.spelled, stands-sound Decrement place n.0) tt s.shallow s.fits
                      | inr n ↦ simple-given header (expression_statement one) from place x n.1 s.spelled tt s.shallow s.fits
                    ]
                  ]
                ]
                | inr o ↦ (
                    option_and_then_some _ (r.read_expression header 1 (behind place)) x o.2 λ v v-read v-then.
                    let value = sound.expression header 1 (behind place) v.1 v.0 v-read in
                    let first = s.shallow in
                    let second = value.3 in
                    simple-given header (operator_assignment o.0 one v.0) from v.1 x v-then
                    (place, s.spelled, (behind place, assigning_operator-sound place o.0 o.1, value.0))
                    tt (omega arith) (λ t. (s.fits t, stands-fits header v.0 value.2 t))
                    )
              ]
              )
        ]
      ]

  pub read_simple-sound : (header : Bool) (from : Cursor) (x : Statement × Cursor)
      → read_simple text r below header from ≡ Some x → ReadsSimple text (suc below) header from x
  unfolding read_simple
  read_simple-sound header from x e =
      option_and_then_some _ (read_expressions text r header from) x e λ es es-read es-then.
      let h = read_expressions-sound text r below sound header from es es-read in
      read_simple_after-sound header from es.1 es.0 x h.0 h.1 h.2 es-then
