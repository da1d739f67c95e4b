-- What is to be known of how parts are read. Sound: what is read is spelled, and no deeper than it may be. Complete:
-- what is spelled, is not too deep and cannot go on is read.
use Rattle.std.specs.Prelude.{◌≡◌, ℕ, ◌≤◌, ◌<◌, Bool, true, false, List, [], Some}
use Rattle.lexer.specs.declared.token.TokenKind.TheVariants.{IfKeyword, LeftParenthesis, LeftBracket, LeftBrace, Dot}
use Rattle.tree.specs.declared.operator.BinaryOperator.{BinaryOperator}
use Rattle.tree.specs.declared.edition.Edition.{Edition}
use Rattle.tree.specs.Syntax.{Expression, Statement, SourceFile}
use Rattle.tree.specs.Depth.{expression_depth, statement_depth, file_depth}
use Rattle.meaning.specs.Cursor.{GoText, Cursor, is_next}
use Rattle.meaning.specs.WellFormed.{operator_level, level, primary_level, has_bare_literal, IsElse, IsKept}
use Rattle.meaning.specs.Grammar.{as_type, as_expression, as_value, form_of, SpellsExpression, SpellsStatement, SpellsFile}
use Rattle.meaning.specs.TreeOfText.{IsTreeOf}
use Rattle.std.specs.Prelude.{Option, None}
use Rattle.tree_reader.specs.Reading.{stands}
use Rattle.tree_reader.specs.Reader.{Readers, binary_operator, of_next, is_end, is_guard, read_file_within}

-- an expression that can stand where it is read
abbrev pub StandsIn : Bool → Expression → Type 0
StandsIn header e = if_header header (has_bare_literal e ≡ false) where
  if_header : Bool → Type 0 → Type 0
  if_header true claim = claim
  if_header false claim = Unit {0}

-- the operator does not bind as tight as that
abbrev pub IsLooser : ℕ → Option BinaryOperator → Type 0
IsLooser least None = Unit {0}
IsLooser least (Some op) = operator_level op < least

-- No token stands here with which an expression of at least this level could go on.
pub record CannotGoOn (header : Bool) (least : ℕ) (place : Cursor) : Type 0 where
  pub dot : stands Dot place ≡ true → is_guard place ≡ true
  pub bracket : stands LeftBracket place ≡ false
  pub parenthesis : stands LeftParenthesis place ≡ false
  pub brace : header ≡ false → stands LeftBrace place ≡ false
  pub operator : IsLooser least (of_next binary_operator place)

module _ (text : GoText) where
  pub record AreSound (n : ℕ) (r : Readers) : Type 0 where
    pub most : r.most ≡ n
    pub expression : (header : Bool) (least : ℕ) (from to : Cursor) (e : Expression)
        → r.read_expression header least from ≡ Some (e, to)
        → SpellsExpression text as_expression e from to
        × (least ≤ primary_level → least ≤ level e) × StandsIn header e × (expression_depth e ≤ n)
        × IsLooser least (of_next binary_operator to)
    pub type : (from to : Cursor) (t : Expression)
        → r.read_type from ≡ Some (t, to)
        → SpellsExpression text as_type t from to × (expression_depth t ≤ n)
    pub value : (from to : Cursor) (e : Expression)
        → r.read_value from ≡ Some (e, to)
        → SpellsExpression text as_value e from to × (expression_depth e ≤ n)
    pub statement : (from to : Cursor) (s : Statement)
        → r.read_statement from ≡ Some (s, to)
        → SpellsStatement text s from to × IsKept (form_of s) × (statement_depth s ≤ n)
        × (stands IfKeyword from ≡ true → IsElse (form_of s))

  pub record AreComplete (n : ℕ) (r : Readers) : Type 0 where
    pub most : r.most ≡ n
    pub expression : (header : Bool) (least : ℕ) (from to : Cursor) (e : Expression)
        → SpellsExpression text as_expression e from to
        → least ≤ level e
        → StandsIn header e
        → expression_depth e ≤ n
        → CannotGoOn header least to
        → r.read_expression header least from ≡ Some (e, to)
    pub type : (from to : Cursor) (t : Expression)
        → SpellsExpression text as_type t from to
        → expression_depth t ≤ n
        → r.read_type from ≡ Some (t, to)
    pub value : (from to : Cursor) (e : Expression)
        → SpellsExpression text as_value e from to
        → expression_depth e ≤ n
        → CannotGoOn false 1 to
        → r.read_value from ≡ Some (e, to)
    pub statement : (from to : Cursor) (s : Statement)
        → SpellsStatement text s from to
        → IsKept (form_of s)
        → statement_depth s ≤ n
        → is_next is_end to ≡ true
        → r.read_statement from ≡ Some (s, to)

  -- By a limit of depth, a file that is read is spelled by all tokens, and no deeper than the limit.
  abbrev pub ReadsWhatIsSpelled : ℕ → Type 0
  ReadsWhatIsSpelled most = (from to : Cursor) (file : SourceFile)
      → read_file_within text most from ≡ Some (file, to)
      → SpellsFile text file from to × (to.left ≡ []) × (file_depth file ≤ most)

  -- By a limit of depth, a file that is spelled by all tokens, and no deeper than the limit, is read.
  abbrev pub ReadsAllThatIsSpelled : ℕ → Type 0
  ReadsAllThatIsSpelled most = (from to : Cursor) (file : SourceFile)
      → SpellsFile text file from to
      → to.left ≡ []
      → file_depth file ≤ most
      → read_file_within text most from ≡ Some (file, to)

-- tokens spell one file at most, however deep it is
abbrev pub OneTreeOfAnyDepth : Type 0
OneTreeOfAnyDepth = (text : GoText) (from to last : Cursor) (f g : SourceFile)
    → SpellsFile text f from to
    → to.left ≡ []
    → SpellsFile text g from last
    → last.left ≡ []
    → f ≡ g

-- in each edition a text has one tree at most
abbrev pub OneTree : Type 0
OneTree = (edition : Edition) (text : List ℕ) (f g : SourceFile)
    → IsTreeOf edition text f
    → IsTreeOf edition text g
    → f ≡ g
