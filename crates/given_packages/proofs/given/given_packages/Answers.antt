use Rattle.std.proofs.Common.{◌≡◌, ℕ, true, List, length, map, sym, ap, ◌∙◌, subst}
use Rattle.std.specs.Prelude.{◌↔◌}
use Rattle.imports.specs.Ranks.{IsOrder}
use Rattle.imports.specs.Settling.{given_imports, place_from}
use Rattle.imports.specs.Views.{at_path, packages_view, rank_of, ranked_of}
use Rattle.meaning_reports.specs.Loaded.{import_list}
use Rattle.whole_packages.specs.WholeEntries.{is_faulty, is_marked}
use Rattle.given_packages.specs.Given.{IsFaulty}
use Rattle.given_packages.proofs.CountedMarks.{counted_so}
use Rattle.given_packages.proofs.FaultyMarks.{faulty_so}
use Rattle.given_packages.proofs.GivenOrder.{order_so}
use Rattle.given_packages.proofs.given.given_packages.Goals as goal

pub returns-clause-given : goal.returns-clause-given
returns-clause-given c = λ ps tell distinct.
    let lists = c.in_ok-lists.ensures ps tell in
    let rank = rank_of c.in_ok-order.order in
    let ranked = ranked_of c.in_ok-order.order in
    let places = at_path c.in_ok-places.places in
    let order = subst (λ ls. IsOrder ls rank ranked) (ap packages_view c.deref.ensures.value ∙ lists) c.in_ok-order.ensures in
    let are_places : (path : List ℕ) → places path ≡ place_from path (import_list ps) 0 = λ path.
    c.in_ok-places.ensures path ∙ ap (λ ls. place_from path ls 0) (ap packages_view c.deref-2.ensures.value ∙ lists) in
    let unranked = c.in_ok-unranked.unranked.items in
    let are_unranked = order_so ps rank ranked order (length c.args.packages.now) (sym tell.are_as_many)
    unranked c.in_ok-unranked.ensures.marks places are_places in
    let faulty : c.in_ok-faulty.faulty.items ≡ map (is_faulty places unranked) c.args.packages.now =
    c.in_ok-faulty.ensures ∙ ap (λ marks. map (is_faulty places marks) c.args.packages.now) c.deref-4.ensures.value in
    record {
      tell = tell;
      are_lists = lists;
      are_imports = c.in_ok-imports.ensures ∙ ap given_imports (ap packages_view c.deref-3.ensures.value ∙ lists);
      is_ranked = order;
      are_places = are_places;
      are_unranked = are_unranked;
      are_faulty = λ path. subst (λ marks. (is_marked places marks path ≡ true) ↔ IsFaulty ps path) (sym faulty)
          (faulty_so ps c.args.packages.now tell places unranked are_places are_unranked path);
      are_counted = λ path j place.
          ap (λ marks. is_marked places marks path) c.in_ok-counted.ensures
          ∙ counted_so ps c.args.packages.now tell places are_places path j place;
      are_names = c.in_ok-names.ensures ps tell distinct;
      are_declared = c.in_ok-declared.ensures.tables;
      are_marked = c.in_ok-declared.ensures.marks;
    }

pub returns-clause-rows : goal.returns-clause-rows
returns-clause-rows c =
    c.in_ok-imports.ensures ∙ ap given_imports (ap packages_view c.deref-3.ensures.value)

pub returns-clause-order : goal.returns-clause-order
returns-clause-order c =
    subst (λ ls. IsOrder (packages_view ls) (rank_of c.in_ok-order.order) (ranked_of c.in_ok-order.order))
    c.deref.ensures.value c.in_ok-order.ensures
