use Rattle.std.proofs.Common.{length, refl, sym, subst, ◌∙◌}
use Rattle.std.proofs.lemmas.Option.{same_Some, slice_get_read}
use Rattle.std.proofs.lemmas.Result.{IfOk-weaker}
use Rattle.calls_flags.specs.ToldFiles.{known_for, TellsSeen}
use Rattle.silent_files.specs.WalkedFiles.{is_walked, seen_if}
use Rattle.tree.specs.View.{file_syntax}
use Rattle.package_pieces.proofs.telling.TellingFilesPieceFileToldFile.work.Goals as goal

pub returns-in-Some : goal.returns-in-Some
returns-in-Some c =
    let telling = c.args.self.now.telling in
    let files = telling.files.now in
    let place = c.args.place in
    let read = slice_get_read files (length files) place c.in-Some.file.now refl c.in-Some.ensures.lookup.3.0
    c.in-Some.ensures.lookup.1 in
    IfOk-weaker c.tell_at.result _ _
    (λ told tells file is.
    subst (λ f. TellsSeen (seen_if (is_walked telling.walked.now place) (known_for telling place) (file_syntax f)) told)
    (same_Some c.in-Some.file.now file (sym read ∙ is)) tells)
    c.tell_at.ensures
