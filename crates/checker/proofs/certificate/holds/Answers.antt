use Rattle.checker.proofs.Laid.{places_there, unfit, not_begun, not_along, by_faults}
use Rattle.checker.proofs.certificate.holds.Goals as goal

pub edges_hold-requires : goal.edges_hold-requires
edges_hold-requires g c = record {
  places = places_there c.args.laid_out.now _ c.fits.result c.fits.ensures c.if-not-fits.false;
}

pub returns-then-not-fits : goal.returns-then-not-fits
returns-then-not-fits g c = λ laid.
    unfit c.args.laid_out.now c.args.states.now (g.P.Promises.promises c.args.promises.now)
    (g.C.Claims.claims c.args.claims.now) laid c.fits.result c.fits.ensures c.if-not-fits.true

pub returns-then-not-starts_hold : goal.returns-then-not-starts_hold
returns-then-not-starts_hold g c = λ laid.
    not_begun c.args.laid_out.now c.args.states.now (g.P.Promises.promises c.args.promises.now)
    (g.C.Claims.claims c.args.claims.now) laid c.fits.result c.fits.ensures c.if-not-fits.false c.starts_hold.result
    c.starts_hold.ensures c.if-not-starts_hold.true

pub returns-then-not-edges_hold : goal.returns-then-not-edges_hold
returns-then-not-edges_hold g c = λ laid.
    not_along c.args.laid_out.now c.args.states.now (g.P.Promises.promises c.args.promises.now)
    (g.C.Claims.claims c.args.claims.now) laid c.fits.result c.fits.ensures c.if-not-fits.false c.starts_hold.result
    c.starts_hold.ensures c.if-not-starts_hold.false c.edges_hold.result (c.edges_hold.ensures laid)
    c.if-not-edges_hold.true

pub returns : goal.returns
returns g c = λ laid.
    by_faults c.args.laid_out.now c.args.states.now (g.P.Promises.promises c.args.promises.now)
    (g.C.Claims.claims c.args.claims.now) laid c.fits.result c.fits.ensures c.if-not-fits.false c.starts_hold.result
    c.starts_hold.ensures c.if-not-starts_hold.false c.edges_hold.result (c.edges_hold.ensures laid)
    c.if-not-edges_hold.false c.has_fault.result c.has_fault.ensures
