use denote.Param.Send.{sendable}
use Rattle.std.proofs.Common.{map, subst, sym}
use Rattle.called_parameters.specs.Called.{flags_by_path, is_called}
use Rattle.calls_flags.specs.Claims.{claim_view, KeepsClaim, Sieves}
use Rattle.meaning_packages.specs.CallsFlags.{calls_by}
use Rattle.package_pieces.specs.Marks.{IsMark, AreMarks}
use Rattle.workers.proofs.Parts.{come_so}
use Rattle.package_pieces.proofs.SharedJobs.{keeping_sync}
use Rattle.package_pieces.proofs.claims.kept_claims.Goals as goal

pub work_all-requires-sync-J : goal.work_all-requires-sync-J
work_all-requires-sync-J g c κs within = search (sendable, keeping_sync)

pub returns-clause-sieves : goal.returns-clause-sieves
returns-clause-sieves g c = λ fs tell are.
    let imported = flags_by_path c.args.imported.now in
    let calls = calls_by (is_called c.in_ok-own.own) imported in
    let claims = c.args.claims.now in
    subst (λ flags. Sieves (KeepsClaim fs (calls_by flags imported)) (map claim_view claims)
    (map claim_view c.in_ok-marked.field-0.items))
    (λ i name k. c.in_ok-own.ensures name k i)
    (c.in_ok-marked.ensures.sieves fs calls are
    (subst (AreMarks fs calls claims) (sym c.deref.ensures.value)
    (come_so _ (λ place. IsMark fs calls) (λ place claim mark so. so fs tell) 0 claims c.in_ok-marks.marks.items
    c.in_ok-marks.ensures.all)))
