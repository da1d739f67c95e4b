use Rattle.std.proofs.Common.{◌≡◌, [], IfNone, Some, map, option_map, sym, subst}
use Rattle.package_list.specs.ListedValues.{package_of}
use Rattle.package_list.specs.Pieces.{pieces}
use Rattle.package_list.proofs.PiecesRead.{begins, goes_on, ends, Continues}
use Rattle.package_list.proofs.list.read_pieces.Goals as goal

pub pieces-init : goal.pieces-init
pieces-init c =
    subst (λ xs. Continues c.args.bytes.now c.args.bytes.now (Some (map package_of xs))) (sym c.new.ensures.items)
    (begins c.args.bytes.now)

pub pieces-preserved : goal.pieces-preserved
pieces-preserved c =
    let l = c.pieces in
    let read = c.in_ok-listed.ensures.ok in
    goes_on c.args.bytes.now l.rest.now c.in-Some.cut.rest.now c.in-Some.cut.piece.now
    (option_map (λ list. map package_of list.items) l.found) c.in-Some.ensures.some l.invariant read.0
    (option_map package_of c.in_ok-listed.listed) _ read.1 read.2 c.in_ok-found.ensures

pub returns-clause-ok : goal.returns-clause-ok
returns-clause-ok c =
    let l = c.pieces in
    ends c.args.bytes.now l.rest.now (option_map (λ list. map package_of list.items) l.found) l.invariant
    (subst (λ o. IfNone o (pieces l.rest.now ≡ [])) c.in_default.is c.first_piece.ensures.none)
