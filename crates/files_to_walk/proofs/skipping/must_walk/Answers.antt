use Rattle.std.proofs.Common.{length, refl, sym, subst}
use Rattle.std.proofs.lemmas.Option.{slice_get_read}
use Rattle.tree.specs.View.{file_syntax}
use Rattle.files_to_walk.specs.Signs.{may_give}
use Rattle.files_to_walk.specs.Skipping.{IsQuietIn}
use Rattle.files_to_walk.proofs.SkippedFiles.{not_false}
use Rattle.files_to_walk.proofs.skipping.must_walk.Goals as goal

pub returns-in_ok-quiet-in-Some : goal.returns-in_ok-quiet-in-Some
returns-in_ok-quiet-in-Some c = λ off.
    let sources = c.args.sources.now in
    let source = c.in-Some.source.now in
    let is = slice_get_read sources (length sources) c.args.number source refl c.in-Some.ensures.lookup.3.0
    c.in-Some.ensures.lookup.1 in
    subst (IsQuietIn (may_give c.args.known.now) (file_syntax c.args.tree.now)) (sym is)
    (c.in_ok-quiet-in-Some.ensures (not_false c.in_ok-quiet-in-Some.quiet off))
