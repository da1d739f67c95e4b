-- What the program keeps of notes, and what it stands for.
use Rattle.reasons.specs.WordViews.{word_view}
use Rattle.way_notes.specs.Notes.{Note, Told}
use Rattle.way_notes.specs.declared.note.Note.{Note as KeptNote}
use Rattle.way_notes.specs.declared.note.Told.{Told as KeptTold}

abbrev pub note_view : KeptNote → Note
note_view n = record { at = n.at; word = word_view n.word }

abbrev pub told_view : KeptTold → Told
told_view t = record { number = t.number; group = t.group }
