-- A text without a tree, or without tokens.
use Rattle.std.proofs.Common.{◌≡◌, ◌≢◌, ℕ, ◌≤◌, List, [], length, Result, Ok, Err, IfOk, IsErrAnd, sym, ◌∙◌, subst}
use Rattle.std.specs.declared.alloc.AllocError.{AllocError}
use Rattle.lexer.specs.declared.fault.LexFault.{LexFault}
use Rattle.lexer.specs.declared.fault.LexFault.TheVariants as lex_fault
use Rattle.lexer.specs.declared.token.Token.{Token}
use Rattle.lexer.specs.Faults.{IsFault}
use Rattle.lexer.specs.Tokens.{IsTokens}
use Rattle.tree.specs.declared.edition.Edition.{Edition}
use Rattle.tree.specs.Syntax.{SourceFile}
use Rattle.meaning.specs.TreeOfText.{IsTreeOf}
use Rattle.parser.specs.declared.fault.ParseFault.{ParseFault}
use Rattle.parser.specs.declared.fault.ParseFault.TheVariants as parse_fault
use Rattle.parser.specs.Faults.{offset_of}
use Rattle.parser_base.specs.declared.fault.LeftOut.{LeftOut}
use Rattle.parser_base.specs.declared.fault.LeftOut.TheVariants as form
use Rattle.report.specs.declared.codes.TextFault.{TextFault}
use Rattle.report.specs.declared.codes.TextFault.TheVariants.{NotUtf8, Nul, UnclosedString, UnclosedComment, UnclosedRune, UnknownCharacter, TooLong}
use Rattle.report.specs.declared.codes.TreeFault.{TreeFault}
use Rattle.report.specs.declared.codes.TreeFault.TheVariants.{UnexpectedToken, TooDeep, Recover}
use Rattle.whole_packages.specs.declared.loaded_package.Reading.{Reading as KeptReading}
use Rattle.whole_packages.specs.declared.loaded_package.Reading.TheVariants as kept
use Rattle.load.specs.Readings.{fault_of_form, lex_fault_at, reading_of, trees_of, IsKeptWith, IsUnparsed, Parsed, TellsLexFault, TellsParseFault}

-- a text has no tree for a reason that is told as another one than the use of `recover`
told : (edition : Edition) (text : List ℕ) (tokens : List Token) (at : ℕ) (why : TreeFault) (reading : KeptReading)
    → IsTokens text tokens
    → ((tree : SourceFile) → IsTreeOf edition text tree → ⊥)
    → at ≤ length text
    → reading ≡ kept.NoTree at why
    → why ≢ Recover
    → IsKeptWith edition text reading []
told edition text tokens at why reading cut none within is other =
    let unparsed : IsUnparsed edition text at why =
    record { tokens = tokens; cut = cut; no_tree = none; within = within; of_tree = other } in
    subst (λ r. IsKeptWith edition text r []) (sym is) unparsed

of_form : (left : LeftOut) → fault_of_form left ≢ Recover
of_form form.TypeParameters e = cc
of_form form.Goto e = cc
of_form form.Fallthrough e = cc
of_form form.DotImport e = cc

pub unparsed : (edition : Edition) (text : List ℕ) (tokens : List Token) (fault : ParseFault) (reading : KeptReading)
    → IsTokens text tokens
    → (fault ≢ parse_fault.OutOfMemory → (tree : SourceFile) → IsTreeOf edition text tree → ⊥)
    → offset_of fault ≤ length text
    → TellsParseFault fault reading
    → IsKeptWith edition text reading []
unparsed edition text tokens (parse_fault.Unexpected at) reading cut none within is =
    told edition text tokens at UnexpectedToken reading cut (none (λ e. cc)) within is (λ e. cc)
unparsed edition text tokens (parse_fault.LeftOut left at) reading cut none within is =
    told edition text tokens at (fault_of_form left) reading cut (none (λ e. cc)) within is (of_form left)
unparsed edition text tokens (parse_fault.TooDeep at) reading cut none within is =
    told edition text tokens at TooDeep reading cut (none (λ e. cc)) within is (λ e. cc)
unparsed edition text tokens parse_fault.OutOfMemory reading cut none within is = elim is [ ]

has_memory : (at : ℕ) (why : TextFault) → lex_fault_at at why ≢ lex_fault.OutOfMemory
has_memory at NotUtf8 e = cc
has_memory at Nul e = cc
has_memory at UnclosedString e = cc
has_memory at UnclosedComment e = cc
has_memory at UnclosedRune e = cc
has_memory at UnknownCharacter e = cc
has_memory at TooLong e = cc

pub unreadable : (edition : Edition) (text : List ℕ) (fault : LexFault) (reading : KeptReading)
    → (fault ≢ lex_fault.OutOfMemory → IsFault text fault)
    → TellsLexFault fault reading
    → IsKeptWith edition text reading []
unreadable edition text fault kept.Tree is told = absurd told
unreadable edition text fault (kept.NoTokens at why) is told =
    (fault, is (λ e. has_memory at why (sym told.fault_there ∙ e)), told)
unreadable edition text fault (kept.NoTree at why) is told = absurd told

-- what became of a text without a tree is what became of its file
pub parsed_without_tree : (edition : Edition) (text : List ℕ) (read : Result KeptReading AllocError) (made : Result Parsed AllocError)
    → IfOk read (λ reading. IsKeptWith edition text reading [])
    → IfOk made (λ parsed. IsErrAnd parsed (λ reading. read ≡ Ok reading))
    → IfOk made (λ parsed. IsKeptWith edition text (reading_of parsed) (trees_of parsed))
parsed_without_tree edition text read (Err e) is so = tt
parsed_without_tree edition text read (Ok (Ok tree)) is so = absurd so
parsed_without_tree edition text read (Ok (Err reading)) is so = subst (λ r. IfOk r (λ one. IsKeptWith edition text one [])) so is
