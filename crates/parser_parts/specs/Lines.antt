-- Lines of struct and interface types that embed something, before what follows them.
use Rattle.std.specs.Prelude.{◌&&◌, false, not, if◌then◌else◌, Some, None}
use Rattle.lexer.specs.declared.token.TokenKind.TheVariants.{Star, LeftBracket}
use Rattle.tree.specs.Syntax.{Fields, embedded_and, element_and}
use Rattle.meaning.specs.Cursor.{GoText, Cursor}
use Rattle.meaning.specs.WellFormed.{is_instance, names_type}
use Rattle.tree_reader.specs.Reader.{Readers, is_second, read_type_name, read_tag, read_constraint}
use Rattle.tree_reader.specs.Reading.{Read, ◌>>=◌, only_where, stands, past, span_between}

module _ (text : GoText) (r : Readers) where
  -- a type's name in a struct, perhaps with `*` before it, or an instance
  abbrev pub read_embedded : Cursor → Read (Fields → Fields)
  read_embedded place = do
    n ← read_type_name text r (past Star place)
    if is_second text.edition && stands LeftBracket n.1 then (do
      t ← r.read_type (past Star place)
      let tag = read_tag text r t.1
      only_where (is_instance t.0)
          (Some (element_and (stands Star place) t.0 tag.0 (span_between place tag.1), tag.1))
      ) else (do
        let tag = read_tag text r n.1
        Some (embedded_and (stands Star place) n.0 tag.0 (span_between place tag.1), tag.1)
        )

  -- a constraint in an interface that is no name alone
  abbrev pub read_element_line : Cursor → Read (Fields → Fields)
  read_element_line place = do
    c ← read_constraint text r place
    only_where (not (names_type c.0)) (Some (element_and false c.0 None (span_between place c.1), c.1))
