use Rattle.std.proofs.Common.{refl}
use Rattle.imports.specs.Views.{rank_of, rows_view}
use Rattle.board.specs.Ready.{ready_view}
use Rattle.board.proofs.Listings.{first_by, takes_at, none_left}
use Rattle.board.proofs.ready.Ready.take.Goals as goal

pub returns-in-Some : goal.returns-in-Some
returns-in-Some c =
    takes_at (rows_view c.args.imports.now) (rank_of c.args.order.now) c.args.phases.now (ready_view c.args.self.now)
    c.requires c.in-Some.index c.index.result.now
    (first_by _ _ _ _ _ _ c.first_untaken.ensures c.deref.ensures.value c.in-Some.is)
    c.index.ensures

pub returns-in-None : goal.returns-in-None
returns-in-None c = (
  none_left (rows_view c.args.imports.now) (rank_of c.args.order.now) c.args.phases.now (ready_view c.args.self.now)
      c.requires
      (first_by _ _ _ _ _ _ c.first_untaken.ensures c.deref.ensures.value c.in-None.is),
  refl,
)
