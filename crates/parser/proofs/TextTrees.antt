-- What is read of a text's tokens is the text's tree and its only one, and where nothing is read it has none.
use Rattle.std.proofs.Common.{◌≡◌, ◌≢◌, ℕ, List, Some, None, Ok, Err, refl, sym, ap, ◌∙◌}
use Rattle.std.proofs.lemmas.Option.{none-some}
use Rattle.lexer.specs.declared.token.Token.{Token}
use Rattle.lexer.specs.Tokens.{IsTokens}
use Rattle.lexer.proofs.Whole.{one_token_list}
use Rattle.tree.specs.declared.edition.Edition.{Edition}
use Rattle.tree.specs.declared.file.File.{File}
use Rattle.tree.specs.Syntax.{SourceFile}
use Rattle.tree.specs.View.{file_syntax}
use Rattle.meaning.specs.Cursor.{Cursor, read_in}
use Rattle.meaning.specs.TreeOfText.{first_place, IsTreeOf}
use Rattle.tree_reader.specs.Reader.{read_file}
use Rattle.tree_reader.proofs.Sound.{file-sound}
use Rattle.tree_reader.proofs.CompleteFile.{read_file-complete}
use Rattle.tree_reader.proofs.OneTree.{one_tree}
use Rattle.parser.specs.declared.fault.ParseFault.{ParseFault}
use Rattle.parser.specs.declared.fault.ParseFault.TheVariants.{Unexpected, LeftOut, TooDeep, OutOfMemory}
use Rattle.parser.specs.Faults.{IsNotRead, Refuses}
use Rattle.parser.specs.Parsed.{HasNoTree, IsParsed}

module _ (edition : Edition) (text : List ℕ) (tokens : List Token) (cut : IsTokens text tokens) where
  tree_read : (file : SourceFile) (last : Cursor) → read_file (read_in edition text) (first_place tokens) ≡ Some (file, last) → IsTreeOf edition text file
  tree_read file last e =
      let sound = file-sound (read_in edition text) (first_place tokens) last file e in
      record {
        tokens = tokens;
        cut = cut;
        last = last;
        spelled = sound.0;
        none_left = sound.1;
        shallow = sound.2;
      }

  no_tree : read_file (read_in edition text) (first_place tokens) ≡ None → HasNoTree edition text
  no_tree none file t =
      absurd (none-some (file, t.last) (sym none ∙ (ap (λ ts. read_file (read_in edition text) (first_place ts)) (one_token_list text tokens t.tokens cut t.cut) ∙ read_file-complete (read_in edition text) _ _ _ t.spelled t.none_left t.shallow)))

  refused : (fault : ParseFault) → IsNotRead fault (read_file (read_in edition text) (first_place tokens)) → fault ≢ OutOfMemory → HasNoTree edition text
  refused (Unexpected at) h other = no_tree h
  refused (LeftOut form at) h other = no_tree h
  refused (TooDeep at) h other = no_tree h
  refused OutOfMemory h other = absurd (other refl)

  pub parsed_tree : (file : File) (last : Cursor) → read_file (read_in edition text) (first_place tokens) ≡ Some (file_syntax file, last) → IsParsed edition text (Ok file)
  parsed_tree file last e =
      let tree = tree_read (file_syntax file) last e in
      record {
        tree = tree;
        no_other_tree = λ other t. one_tree edition text other (file_syntax file) t tree;
        no_tree = tt;
        offset = tt;
      }

  pub parsed_fault : (fault : ParseFault) → Refuses text fault (read_file (read_in edition text) (first_place tokens)) → IsParsed edition text (Err fault)
  parsed_fault fault h = record { tree = tt; no_other_tree = tt; no_tree = refused fault h.0; offset = h.1 }
