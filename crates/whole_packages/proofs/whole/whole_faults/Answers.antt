use Rattle.std.proofs.Common.{◌≡◌, ◌∙◌, ap, map, ◌++◌, option_map}
use Rattle.std.specs.Prelude.{flat_map}
use Rattle.report.specs.declared.codes.DiagnosticCode.TheVariants.{ImportHasNoRank}
use Rattle.imports.specs.Views.{at_path}
use Rattle.tree.specs.View.{file_syntax}
use Rattle.report.specs.Entries.{entry_of}
use Rattle.whole_packages.specs.LoadedViews.{kept_trees, numbered_view}
use Rattle.whole_packages.specs.WholeEntries.{failures_from, second_view, second_entries, is_marked, tree_entries}
use Rattle.whole_packages.proofs.WholeOf.{whole_are, made_of}
use Rattle.whole_packages.proofs.whole.whole_faults.Goals as goal

pub returns-clause-faults : goal.returns-clause-faults
returns-clause-faults c = λ ps i p is_p tells second told.
    whole_are ps i p is_p (at_path c.args.unranked.places.now) c.args.unranked.marks.now told
    c.args.loaded.now.readings.items (map file_syntax c.args.loaded.now.trees.items) tells.are_files tells.are_readings
    (map entry_of c.add_imports.new.diagnostics.items)
    (made_of ps i p is_p (at_path c.args.unranked.places.now) c.args.unranked.marks.now told
    c.args.loaded.now.readings.items (map file_syntax c.args.loaded.now.trees.items) tells.are_files tells.are_readings
    (map entry_of c.new-diagnostics.result.items) (map entry_of c.add_failures.new.diagnostics.items) (map entry_of c.add_second.new.diagnostics.items)
    (map entry_of c.add_imports.new.diagnostics.items) (map numbered_view c.in_ok-trees.trees.items)
    (option_map second_view c.args.second) (ap (map entry_of) c.new-diagnostics.ensures.items)
    (c.in_ok-add_failures.ensures ∙ ap (λ rs. map entry_of c.new-diagnostics.result.items ++ failures_from 0 rs) c.deref.ensures.value)
    (c.in_ok-add_second.ensures
    ∙ ap (λ ts. map entry_of c.add_failures.new.diagnostics.items
    ++ second_entries (map numbered_view ts) (option_map second_view c.args.second)) c.deref-2.ensures.value)
    (c.in_ok-add_imports.ensures
    ∙ ap (λ ts. map entry_of c.add_second.new.diagnostics.items ++ flat_map
    (tree_entries (is_marked (at_path c.args.unranked.places.now) c.args.unranked.marks.now) ImportHasNoRank)
    (map numbered_view ts)) c.deref-3.ensures.value)
    (c.in_ok-trees.ensures.meant p tells) second)

pub returns-clause-entries : goal.returns-clause-entries
returns-clause-entries c =
    let places = at_path c.args.unranked.places.now in
    let marks = c.args.unranked.marks.now in
    let kept = c.args.loaded.now in
    let second = option_map second_view c.args.second in
    let gives = tree_entries (is_marked places marks) ImportHasNoRank in
    let trees : map numbered_view c.in_ok-trees.trees.items ≡ kept_trees kept = c.in_ok-trees.ensures.kept in
    let none = ap (map entry_of) c.new-diagnostics.ensures.items in
    let first : map entry_of c.add_failures.new.diagnostics.items ≡ failures_from 0 kept.readings.items =
    c.in_ok-add_failures.ensures
    ∙ λ i. none i ++ failures_from 0 (c.deref.ensures.value i) in
    let both : map entry_of c.add_second.new.diagnostics.items
    ≡ failures_from 0 kept.readings.items ++ second_entries (kept_trees kept) second =
    c.in_ok-add_second.ensures
    ∙ λ i. first i ++ second_entries ((ap (map numbered_view) c.deref-2.ensures.value ∙ trees) i) second in
    c.in_ok-add_imports.ensures
    ∙ λ i. both i ++ flat_map gives ((ap (map numbered_view) c.deref-3.ensures.value ∙ trees) i)
