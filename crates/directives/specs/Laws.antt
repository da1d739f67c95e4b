-- What holds of the directives of any text: their lines rise, and each stands in the text on its line.
use Rattle.std.specs.Prelude.{◌≡◌, ℕ, ◌<◌, List, length}
use Rattle.std.specs.List.{AllPairs}
use Rattle.lexer.specs.Place.{line_of}
use Rattle.memchr.specs.Find.{OccursAt}
use Rattle.directives.specs.Directives.{DirectiveView}
use Rattle.directives.specs.Marks.{mark}

-- no line has two
abbrev pub LinesRise : List DirectiveView → Type 0
LinesRise directives = AllPairs (λ d later. d.line < later.line) directives

-- its mark stands at its offset, which lies on its line
pub record StandsIn (text : List ℕ) (d : DirectiveView) : Type 0 where
  pub inside : d.offset < length text
  pub on_line : line_of text d.offset ≡ d.line
  pub begins : OccursAt text mark d.offset
