-- The names of a file are words of its text. In the tree of a text each name that a mark mentions is the text of an
-- identifier token, at the token's offset. So is a name that is selected from it. So are of a row the callee of the
-- call that is its only value, and its type; and of a body the names of its receiver, parameters and results, and the
-- names of their types. What a row's call is made in stands where a token begins or ends.
-- And words that a text lacks: no identifier token of it is written so.
-- (The Go specification, "Identifiers", "Lexical elements", "Function declarations".)
use Rattle.std.specs.Prelude.{◌≡◌, ℕ, ◌⊎◌, false, List, Option, Some, None, Contains, slice_range}
use Rattle.std.specs.Str.{bytes_eq}
use Rattle.lexer.specs.declared.token.Token.{Token}
use Rattle.lexer.specs.declared.token.TokenKind.TheVariants.{Identifier as identifier_kind}
use Rattle.lexer.specs.Tokens.{IsTokens}
use Rattle.tree.specs.declared.edition.Edition.{Edition}
use Rattle.tree.specs.Syntax.{OptionalExpression, missing_expression, present_expression, Parameters, no_parameter, named_and, unnamed_and, name_alone_and, Signature, signature_of, SourceFile}
use Rattle.meaning.specs.Mentions.{Named, as_named, RowForm, defines, assigns, declares, Row, CallPlace, nowhere, as_statement, only_value, return_item, deferred, under_go, Call, Role, elsewhere, as_key, exposed, pointed_to, found_nil, found_error, called, called_in_brackets, argument, returned, left, names_type, new_literal, parameter_pointer, FieldMark, writes_field, Mark, mentions, of_fields, runs_literal, returns, opens, closes, file_marks}
use Rattle.meaning.specs.Tracked.{only_call}
use Rattle.meaning.specs.TreeOfText.{IsTreeOf}

-- no identifier token of the text is written so
abbrev pub LacksWord : List ℕ → List ℕ → Type 0
LacksWord word text = (tokens : List Token) (t : Token)
    → IsTokens text tokens
    → Contains tokens t
    → t.kind ≡ identifier_kind
    → bytes_eq (slice_range text t.start t.end) word ≡ false

abbrev pub LacksEach : List (List ℕ) → List ℕ → Type 0
LacksEach words text = (word : List ℕ) → Contains words word → LacksWord word text

-- a text with its tokens
pub record Lexed : Type 0 where
  pub text : List ℕ
  pub tokens : List Token

-- the text of an identifier token that begins at the offset
pub record IsWord (source : Lexed) (word : List ℕ) (at : ℕ) : Type 0 where
  pub token : Token
  pub among : Contains source.tokens token
  pub kind : token.kind ≡ identifier_kind
  pub starts : at ≡ token.start
  pub spelled : word ≡ slice_range source.text token.start token.end

-- the start of the text, or an offset at which a token begins or ends
abbrev pub IsBound : Lexed → ℕ → Type 0
IsBound source at =
    (at ≡ 0) ⊎ ((t : Token) × Contains source.tokens t × ((at ≡ t.start) ⊎ (at ≡ t.end)))

-- `n`, or `n.m`

abbrev pub IsSelectedWord : Lexed → Option (List ℕ) → Type 0
IsSelectedWord source None = Unit {0}
IsSelectedWord source (Some m) = (at : ℕ) × IsWord source m at

pub record AreWords (source : Lexed) (n : Named) : Type 0 where
  pub name : IsWord source n.name n.at
  pub selected : IsSelectedWord source n.selected

abbrev pub AreWordsIf : Lexed → Option Named → Type 0
AreWordsIf source None = Unit {0}
AreWordsIf source (Some n) = AreWords source n

-- Rows

abbrev pub CallHasWords : Lexed → Option Call → Type 0
CallHasWords source None = Unit {0}
CallHasWords source (Some c) = AreWords source c.callee

abbrev pub TypeHasWords : Lexed → OptionalExpression → Type 0
TypeHasWords source missing_expression = Unit {0}
TypeHasWords source (present_expression t) = AreWordsIf source (as_named t)

abbrev pub FormHasWords : Lexed → RowForm → Type 0
FormHasWords source (defines names) = Unit {0}
FormHasWords source (assigns ls) = Unit {0}
FormHasWords source (declares keyword names t) = TypeHasWords source t

-- the call that is its only value, and its type
abbrev pub RowHasWords : Lexed → Row → Type 0
RowHasWords source row = CallHasWords source (only_call row row.values) × FormHasWords source row.form

-- the statement of the row whose only value stands there
abbrev pub PlaceIsBound : Lexed → CallPlace → Type 0
PlaceIsBound source nowhere = Unit {0}
PlaceIsBound source as_statement = Unit {0}
PlaceIsBound source (only_value row) = IsBound source row.statement
PlaceIsBound source (return_item k) = Unit {0}
PlaceIsBound source deferred = Unit {0}
PlaceIsBound source under_go = Unit {0}

abbrev pub RoleHasWords : Lexed → Role → Type 0
RoleHasWords source elsewhere = Unit {0}
RoleHasWords source as_key = Unit {0}
RoleHasWords source exposed = Unit {0}
RoleHasWords source pointed_to = Unit {0}
RoleHasWords source (found_nil nil) = Unit {0}
RoleHasWords source (found_error nil row) = Unit {0}
RoleHasWords source (called c) = PlaceIsBound source c.place
RoleHasWords source called_in_brackets = Unit {0}
RoleHasWords source (argument k has_address c) = Unit {0}
RoleHasWords source (returned k) = Unit {0}
RoleHasWords source (left k row) = RowHasWords source row
RoleHasWords source (names_type row) = Unit {0}
RoleHasWords source (new_literal row) = Unit {0}
RoleHasWords source parameter_pointer = Unit {0}

-- Fields

-- where a row assigns to the field
abbrev pub FieldHasWords : Lexed → FieldMark → Type 0
FieldHasWords source (writes_field l (Some a)) = RowHasWords source a.row
FieldHasWords source m = Unit {0}

-- Bodies

abbrev pub ParametersHaveWords : Lexed → Parameters → Type 0
ParametersHaveWords source no_parameter = Unit {0}
ParametersHaveWords source (named_and name ellipsis t ps) =
    IsWord source name.text name.span.start × AreWordsIf source (as_named t) × ParametersHaveWords source ps
ParametersHaveWords source (unnamed_and ellipsis t ps) =
    AreWordsIf source (as_named t) × ParametersHaveWords source ps
ParametersHaveWords source (name_alone_and name ps) =
    IsWord source name.text name.span.start × ParametersHaveWords source ps

abbrev pub ReceiverHasWords : Lexed → Option Parameters → Type 0
ReceiverHasWords source None = Unit {0}
ReceiverHasWords source (Some ps) = ParametersHaveWords source ps

abbrev pub SignatureHasWords : Lexed → Signature → Type 0
SignatureHasWords source (signature_of ps rs brackets) = ParametersHaveWords source ps × ParametersHaveWords source rs

-- what the mark names are words of the text
abbrev pub HasWords : Lexed → Mark → Type 0
HasWords source (mentions m) = AreWords source m.named × RoleHasWords source m.role
HasWords source (of_fields site m) = FieldHasWords source m
HasWords source (runs_literal moment site at) = Unit {0}
HasWords source (returns at es) = Unit {0}
HasWords source (opens b) = ReceiverHasWords source b.receiver × SignatureHasWords source b.signature
HasWords source closes = Unit {0}

abbrev pub NamesAreWords : Type 0
NamesAreWords = (edition : Edition) (text : List ℕ) (tree : SourceFile) (m : Mark)
    → (t : IsTreeOf edition text tree)
    → Contains (file_marks tree) m
    → HasWords record { text = text; tokens = t.tokens } m

-- no name is a word that the text lacks
abbrev pub LackedWordsAreNoNames : Type 0
LackedWordsAreNoNames = (source : Lexed) (lacked word : List ℕ) (at : ℕ)
    → IsTokens source.text source.tokens
    → LacksWord lacked source.text
    → IsWord source word at
    → bytes_eq word lacked ≡ false
