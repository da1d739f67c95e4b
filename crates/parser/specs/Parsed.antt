-- What is known of the answer to a text in an edition: a tree is the text's, which has no other, and only a text
-- without a tree has a fault, which lies in the text or at its end. Where memory runs out the text may have a tree.
use Rattle.std.specs.Prelude.{◌≡◌, ◌≢◌, ℕ, ◌≤◌, List, length, Result, IfOk, IfErr}
use Rattle.tree.specs.declared.edition.Edition.{Edition}
use Rattle.tree.specs.declared.file.File.{File}
use Rattle.tree.specs.Syntax.{SourceFile}
use Rattle.tree.specs.View.{file_syntax}
use Rattle.meaning.specs.TreeOfText.{IsTreeOf}
use Rattle.parser.specs.declared.fault.ParseFault.{ParseFault}
use Rattle.parser.specs.declared.fault.ParseFault.TheVariants.{OutOfMemory}
use Rattle.parser.specs.Faults.{offset_of}

-- each tree of the text is this one
abbrev pub HasNoTreeBut : Edition → List ℕ → SourceFile → Type 0
HasNoTreeBut edition text file = (other : SourceFile) → IsTreeOf edition text other → other ≡ file

abbrev pub HasNoTree : Edition → List ℕ → Type 0
HasNoTree edition text = (file : SourceFile) → IsTreeOf edition text file → ⊥

pub record IsParsed (edition : Edition) (text : List ℕ) (result : Result File ParseFault) : Type 0 where
  pub tree : IfOk result (λ file. IsTreeOf edition text (file_syntax file))
  pub no_other_tree : IfOk result (λ file. HasNoTreeBut edition text (file_syntax file))
  pub no_tree : IfErr result (λ fault. fault ≢ OutOfMemory → HasNoTree edition text)
  pub offset : IfErr result (λ fault. offset_of fault ≤ length text)
