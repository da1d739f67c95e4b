-- Where the events of a body stand. In the tree of a text no two occurrences of a body's code have one place: they
-- differ in offset or in order, whatever the sites give. So what is said of the place of an occurrence is said of one
-- occurrence of the code.
-- (The Go specification, "Lexical elements", "Statements".)
use Rattle.std.specs.Prelude.{ℕ, ◌≡◌, ◌<◌, List, [], ◌∷◌, ◌++◌, Some, Contains, length, slice_get}
use Rattle.tree.specs.Syntax.{SourceFile}
use Rattle.meaning.specs.Code.{Occurrence, Code, skip, does, leave, then_code, either, repeats, up_to}
use Rattle.meaning.specs.StatementCode.{Sites, body_code}
use Rattle.meaning.specs.Mentions.{BodyPlace}
use Rattle.meaning.specs.Tracked.{Known}
use Rattle.meaning.specs.BodyEvents.{bodies_of, seen_file}
use Rattle.meaning_packages.specs.PathFaults.{block_of}
use Rattle.meaning_reports.specs.MeantImports.{IsTreeButForImports}

-- all of a code, the last one first
abbrev pub occurrences : {E : Type 0} → Code E → List (Occurrence E)
occurrences skip = []
occurrences (does o) = o ∷ []
occurrences (leave w) = []
occurrences (then_code a b) = occurrences b ++ occurrences a
occurrences (either a b) = occurrences b ++ occurrences a
occurrences (repeats a) = occurrences a
occurrences (up_to w a) = occurrences a

-- those of one place are one
pub record HavePlaces {E : Type 0} (os : List (Occurrence E)) : Type 0 where
  pub one_each : (i j : ℕ) (o p : Occurrence E)
      → slice_get os i ≡ Some o
      → slice_get os j ≡ Some p
      → o.at ≡ p.at
      → o.order ≡ p.order
      → i ≡ j

-- so it is of each body of the tree of a text, whatever its sites give
abbrev pub OccurrencesHavePlaces : Type 0 → Type 0
OccurrencesHavePlaces E = (text : List ℕ) (tree : SourceFile) (known : Known) (b : BodyPlace) (sites : Sites E)
    → IsTreeButForImports known.edition text tree
    → Contains (bodies_of (seen_file known tree)) b
    → HavePlaces (occurrences (body_code sites (block_of b)))

-- and each of them stands in the text
abbrev pub OccurrencesLieInTexts : Type 0 → Type 0
OccurrencesLieInTexts E = (text : List ℕ) (tree : SourceFile) (known : Known) (b : BodyPlace) (sites : Sites E)
    (o : Occurrence E)
    → IsTreeButForImports known.edition text tree
    → Contains (bodies_of (seen_file known tree)) b
    → Contains (occurrences (body_code sites (block_of b))) o
    → o.at < length text
