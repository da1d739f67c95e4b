-- Where the names of a file stand. In the tree of a text each name that a mark mentions stands at an offset of the text
-- or at its end, and so do the statement of the row whose only value is a call that is looked at, and the names of the
-- receiver, the parameters and the results of each body.
-- (The Go specification, "Lexical elements", "Function declarations".)
use Rattle.std.specs.Prelude.{ℕ, ◌≤◌, List, Option, Some, None, Contains, length}
use Rattle.tree.specs.declared.edition.Edition.{Edition}
use Rattle.tree.specs.Syntax.{Parameters, no_parameter, named_and, unnamed_and, name_alone_and, Signature, signature_of, SourceFile}
use Rattle.meaning.specs.Mentions.{CallPlace, nowhere, as_statement, only_value, return_item, deferred, under_go, Role, elsewhere, as_key, pointed_to, called, called_in_brackets, argument, returned, left, names_type, new_literal, parameter_pointer, FieldMark, writes_field, Mark, mentions, of_fields, returns, opens, closes, file_marks, exposed, found_nil, found_error, runs_literal}
use Rattle.meaning_reports.specs.MeantImports.{IsTreeButForImports}

-- the statement of the row whose only value stands there
abbrev pub PlaceStandsWithin : ℕ → CallPlace → Type 0
PlaceStandsWithin n nowhere = Unit {0}
PlaceStandsWithin n as_statement = Unit {0}
PlaceStandsWithin n (only_value row) = row.statement ≤ n
PlaceStandsWithin n (return_item k) = Unit {0}
PlaceStandsWithin n deferred = Unit {0}
PlaceStandsWithin n under_go = Unit {0}

abbrev pub RoleStandsWithin : ℕ → Role → Type 0
RoleStandsWithin n elsewhere = Unit {0}
RoleStandsWithin n as_key = Unit {0}
RoleStandsWithin n exposed = Unit {0}
RoleStandsWithin n pointed_to = Unit {0}
RoleStandsWithin n (found_nil nil) = Unit {0}
RoleStandsWithin n (found_error nil row) = Unit {0}
RoleStandsWithin n (called c) = PlaceStandsWithin n c.place
RoleStandsWithin n called_in_brackets = Unit {0}
RoleStandsWithin n (argument k has_address c) = Unit {0}
RoleStandsWithin n (returned k) = Unit {0}
RoleStandsWithin n (left k row) = Unit {0}
RoleStandsWithin n (names_type row) = Unit {0}
RoleStandsWithin n (new_literal row) = Unit {0}
RoleStandsWithin n parameter_pointer = Unit {0}

abbrev pub ParametersStandWithin : ℕ → Parameters → Type 0
ParametersStandWithin n no_parameter = Unit {0}
ParametersStandWithin n (named_and name ellipsis t ps) = (name.span.start ≤ n) × ParametersStandWithin n ps
ParametersStandWithin n (unnamed_and ellipsis t ps) = ParametersStandWithin n ps
ParametersStandWithin n (name_alone_and name ps) = (name.span.start ≤ n) × ParametersStandWithin n ps

abbrev pub ReceiverStandsWithin : ℕ → Option Parameters → Type 0
ReceiverStandsWithin n None = Unit {0}
ReceiverStandsWithin n (Some ps) = ParametersStandWithin n ps

abbrev pub SignatureStandsWithin : ℕ → Signature → Type 0
SignatureStandsWithin n (signature_of ps rs brackets) = ParametersStandWithin n ps × ParametersStandWithin n rs

-- a field that is written may be a variable of its own
abbrev pub FieldStandsWithin : ℕ → FieldMark → Type 0
FieldStandsWithin n (writes_field l by) = l.field.span.start ≤ n
FieldStandsWithin n mark = Unit {0}

-- what the mark names stands at that offset or before
abbrev pub StandsWithin : ℕ → Mark → Type 0
StandsWithin n (mentions m) = (m.named.at ≤ n) × RoleStandsWithin n m.role
StandsWithin n (of_fields site m) = FieldStandsWithin n m
StandsWithin n (runs_literal moment site at) = Unit {0}
StandsWithin n (returns at es) = Unit {0}
StandsWithin n (opens b) = ReceiverStandsWithin n b.receiver × SignatureStandsWithin n b.signature
StandsWithin n closes = Unit {0}

abbrev pub NamesLieInTexts : Type 0
NamesLieInTexts = (edition : Edition) (text : List ℕ) (tree : SourceFile) (m : Mark)
    → IsTreeButForImports edition text tree
    → Contains (file_marks tree) m
    → StandsWithin (length text) m
