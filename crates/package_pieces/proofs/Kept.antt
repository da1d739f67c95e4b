-- What is kept of a body by its number.
use Rattle.std.proofs.Common.{◌≡◌, ◌<◌, List, length, get_or, Some, refl, sym, ap, ◌∙◌, subst}
use Rattle.std.specs.Prelude.{slice_get}
use Rattle.std.proofs.lemmas.Option.{same_Some, slice_get_read}
use Rattle.bodies.specs.Bodies.{TellsBody}
use Rattle.bodies.specs.declared.body.Body.{Body}
use Rattle.calls_flags.specs.FilesBodies.{TellAll, TellsWithCredits}
use Rattle.calls_flags.specs.declared.file_bodies.FileBodies.{FileBodies}
use Rattle.credits.proofs.PairedLists.{pair_at}
use Rattle.meaning.specs.BodyEvents.{bodies_of}
use Rattle.meaning.specs.Mentions.{BodyPlace}
use Rattle.meaning_packages.specs.CallsFlags.{FileWithCredits}
use Rattle.package_pieces.specs.declared.numbers.BodyNumber.{BodyNumber}

body_told : (fs : List FileWithCredits) (files : List FileBodies) → TellAll fs files
    → (number : BodyNumber) (f : FileWithCredits) (k : FileBodies) (b : BodyPlace) (body : Body)
    → slice_get fs number.file ≡ Some f
    → slice_get files number.file ≡ Some k
    → slice_get (bodies_of f.seen) number.body ≡ Some b
    → slice_get k.bodies.items number.body ≡ Some body
    → TellsBody number.file f.seen b body
body_told fs files tell number f k b body is_file is_kept is_body is_there =
    let tells = tell.each number.file f k is_file is_kept in
    let w = pair_at (TellsBody number.file f.seen) (bodies_of f.seen) k.bodies.items tells.are_bodies number.body body
    is_there in
    subst (λ p. TellsBody number.file f.seen p body) (same_Some w.first b (sym w.is_there ∙ is_body)) w.is_so

-- what was read of the lists that are kept
pub told_by : (files : List FileBodies) (number : BodyNumber) (k : FileBodies) (bodies : List Body) (body : Body)
    → number.file < length files → k ≡ get_or files number.file k
    → bodies ≡ k.bodies.items
    → number.body < length bodies → body ≡ get_or bodies number.body body
    → (fs : List FileWithCredits) → TellAll fs files
    → (f : FileWithCredits) → slice_get fs number.file ≡ Some f
    → (b : BodyPlace) → slice_get (bodies_of f.seen) number.body ≡ Some b
    → TellsWithCredits number.file f k × TellsBody number.file f.seen b body
told_by files number k bodies body within is same below there fs tell f is_file b is_body =
    let kept = slice_get_read files (length files) number.file k refl within is in
    let read = ap (λ bs. slice_get bs number.body) (sym same)
    ∙ slice_get_read bodies (length bodies) number.body body refl below there in
    (tell.each number.file f k is_file kept, body_told fs files tell number f k b body is_file kept is_body read)
