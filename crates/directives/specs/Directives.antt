-- The directives of a text, in their order, at most one a line. Newlines part the lines, which are counted from 1.
use Rattle.std.specs.Prelude.{ℕ, ◌+◌, Bool, List, [], ◌∷◌, Option, drop, length, option_map, take}
use Rattle.std.specs.List.{cons_option, list_all, slice_split}
use Rattle.lexer.specs.Place.{is_newline}
use Rattle.directives.specs.Forms.{accepted}
use Rattle.directives.specs.Marks.{is_blank, mark, place_in}
use Rattle.directives.specs.declared.found.Accepts.{Accepts}
use Rattle.directives.specs.declared.found.Directive.{Directive}

-- a directive: its line, the offset of its first byte in the text, whether nothing but blanks and tabs stands before
-- it on the line, and the codes that it accepts with the reason, if it is in its form
pub record DirectiveView : Type 0 where
  pub line : ℕ
  pub offset : ℕ
  pub is_alone : Bool
  pub accepts : Option (List ℕ × List ℕ)

-- the directive at a place of a line, which has this number and begins at this offset of the text
abbrev pub directive_at : (number start : ℕ) → List ℕ → ℕ → DirectiveView
directive_at number start line place = record {
  line = number;
  offset = start + place;
  is_alone = list_all is_blank (take place line);
  accepts = accepted (drop (place + length mark) line);
}

-- the directive of such a line, if it has one
abbrev pub directive_on : (number start : ℕ) → List ℕ → Option DirectiveView
directive_on number start line = option_map (directive_at number start line) (place_in line)

-- those of lines, of which the first has this number and begins at this offset
abbrev pub directives_from : (number start : ℕ) → List (List ℕ) → List DirectiveView
directives_from number start [] = []
directives_from number start (line ∷ lines) =
    cons_option (directive_on number start line) (directives_from (number + 1) (start + length line + 1) lines)

-- what newlines part, one line at least
abbrev pub lines_of : List ℕ → List (List ℕ)
lines_of text = slice_split is_newline text

abbrev pub directives_of : List ℕ → List DirectiveView
directives_of text = directives_from 1 0 (lines_of text)

-- a directive in memory, and what it accepts
abbrev pub accepts_view : Accepts → List ℕ × List ℕ
accepts_view a = (a.codes.now, a.reason.now)

abbrev pub directive_view : Directive → DirectiveView
directive_view d = record {
  line = d.line;
  offset = d.offset;
  is_alone = d.is_alone;
  accepts = option_map accepts_view d.accepts;
}
