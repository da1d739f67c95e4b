use Rattle.std.proofs.Common.{◌∷◌, [], Option, map, option_map, refl, ap, ◌∙◌, subst}
use Rattle.std.proofs.lemmas.List.{map-append}
use Rattle.bodies.specs.NodeEvents.{events_graph}
use Rattle.body_ways.proofs.ToldWays.{told_so}
use Rattle.body_ways.specs.ToldViews.{told_fault_view}
use Rattle.body_ways.specs.declared.told.ToldFault.{ToldFault}
use Rattle.path_faults.specs.FaultViews.{fault_view}
use Rattle.reasons.specs.WordViews.{branch_view}
use Rattle.way_notes.specs.NoteViews.{note_view}
use Rattle.ways.specs.Asked.{way_view}
use Rattle.ways.specs.Found.{TellsWayOf}
use Rattle.ways.specs.declared.way.Way.{Way}
use Rattle.body_ways.proofs.told.add_told.Goals as goal

pub returns-in_default : goal.returns-in_default
returns-in_default g c b is is_fault =
    absurd
    (subst
    (λ (w : Option Way). TellsWayOf b (fault_view c.args.fault) (events_graph c.args.asked.now.graph.now)
    (option_map way_view w))
    c.in_default.is (c.in_ok-way.ensures b is) is_fault)

pub returns : goal.returns
returns g c b is is_fault =
    let f = fault_view c.args.fault in
    let graph = events_graph c.args.asked.now.graph.now in
    let way = c.in-Some.way in
    let tells = subst (λ (w : Option Way). TellsWayOf b f graph (option_map way_view w)) c.in-Some.is
    (c.in_ok-way.ensures b is) in
    let told : ToldFault = record {
      fault = c.args.fault;
      notes = c.in_ok-notes.notes;
      offsets = c.in_ok-offsets.offsets;
    } in
    record {
      told = record {
        fault = f;
        notes = map note_view c.in_ok-notes.notes.items;
        offsets = c.in_ok-offsets.offsets.items;
      };
      is_it = refl;
      is_told = told_so b (map branch_view c.args.branches.now) f (way_view way) graph is.is_graph tells
          c.deref.result.now c.deref.ensures.value c.deref-2.result.now c.deref-2.ensures.value
          (map note_view c.in_ok-notes.notes.items) c.in_ok-notes.ensures c.in_ok-offsets.offsets.items
          c.in_ok-offsets.ensures is_fault;
      added = ap (map told_fault_view) c.in_ok-push.ensures.items
          ∙ map-append told_fault_view c.args.told.now.items (told ∷ []);
    }
