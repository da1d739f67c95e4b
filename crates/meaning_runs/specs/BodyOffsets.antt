-- Where bodies begin. In the tree of a text no two bodies have their `func` at one offset, and a body that stands in
-- another one begins behind it.
-- (The Go specification, "Function declarations", "Function literals".)
use Rattle.std.specs.Prelude.{Bool, ℕ, ◌≡◌, ◌<◌, List, [], ◌∷◌, Contains}
use Rattle.tree.specs.declared.edition.Edition.{Edition}
use Rattle.tree.specs.Syntax.{SourceFile}
use Rattle.meaning.specs.Mentions.{BodyPlace, file_marks, marks_by}
use Rattle.meaning.specs.Tracked.{Placed, placed}
use Rattle.meaning.specs.BodyEvents.{opened_in}
use Rattle.meaning_reports.specs.MeantImports.{IsTreeButForImports}

-- each of these bodies begins behind those that come after it in the list
abbrev pub AreFalling : List BodyPlace → Type 0
AreFalling [] = Unit {0}
AreFalling (b ∷ bs) = ((c : BodyPlace) → Contains bs c → c.at < b.at) × AreFalling bs

pub record AreApart (marks : List Placed) : Type 0 where
  -- the bodies around a mark, the innermost first
  pub falling : (p : Placed) → Contains marks p → AreFalling p.bodies
  -- one body at an offset
  pub one_each : (b c : BodyPlace) → Contains (opened_in marks) b → Contains (opened_in marks) c → b.at ≡ c.at → b ≡ c

abbrev pub BodiesAreApart : Type 0
BodiesAreApart = (edition : Edition) (some_keep : Bool) (text : List ℕ) (tree : SourceFile)
    → IsTreeButForImports edition text tree
    → AreApart (placed [] (marks_by edition some_keep (file_marks tree)))

-- no two of these bodies begin at one offset, so none comes twice in the list
abbrev pub BeginOnce : List BodyPlace → Type 0
BeginOnce [] = Unit {0}
BeginOnce (b ∷ bs) = ((c : BodyPlace) → Contains bs c → b.at ≡ c.at → ⊥) × BeginOnce bs

abbrev pub BodiesBeginOnce : Type 0
BodiesBeginOnce = (edition : Edition) (some_keep : Bool) (text : List ℕ) (tree : SourceFile)
    → IsTreeButForImports edition text tree
    → BeginOnce (opened_in (placed [] (marks_by edition some_keep (file_marks tree))))
