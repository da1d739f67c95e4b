-- The reader is right: a file that it reads is spelled by all of its tokens and no deeper than it may be.
use Rattle.std.proofs.Common.{ℕ, zero, suc, List, refl}
use Rattle.meaning.specs.Cursor.{GoText}
use Rattle.std.proofs.lemmas.Option.{none-some}
use Rattle.meaning.specs.declared.TheConstants.{MOST_DEPTH}
use Rattle.tree_reader.specs.Reader.{readers}
use Rattle.tree_reader.specs.Claims.{AreSound, ReadsWhatIsSpelled}
use Rattle.tree_reader.proofs.SoundTypes.{read_type_of-sound}
use Rattle.tree_reader.proofs.SoundExpressions.{read_expression_of-sound, read_value_of-sound}
use Rattle.tree_reader.proofs.SoundStatements.{read_statement_of-sound}
use Rattle.tree_reader.proofs.SoundFile.{read_file_within-sound}

-- what is read at a depth, from what is read below it
pub readers-sound : (text : GoText) (n : ℕ) → AreSound text n (readers text n)
unfolding readers
readers-sound text zero = record {
  most = refl;
  expression = λ header least from to e h. absurd (none-some (e, to) h);
  type = λ from to t h. absurd (none-some (t, to) h);
  value = λ from to e h. absurd (none-some (e, to) h);
  statement = λ from to s h. absurd (none-some (s, to) h);
}
readers-sound text (suc below) =
    let sound = readers-sound text below in
    record {
      most = refl;
      expression = read_expression_of-sound text (readers text below) below sound;
      type = λ from to t h. read_type_of-sound text (readers text below) below sound from (t, to) h;
      value = read_value_of-sound text (readers text below) below sound;
      statement = read_statement_of-sound text (readers text below) below sound;
    }

pub file_within-sound : (text : GoText) (most : ℕ) → ReadsWhatIsSpelled text most
file_within-sound text most from to file e = read_file_within-sound text most (readers-sound text most) from (file, to) e

-- with the limit that the tree of a text has
pub file-sound : (text : GoText) → ReadsWhatIsSpelled text MOST_DEPTH
file-sound text = file_within-sound text MOST_DEPTH
