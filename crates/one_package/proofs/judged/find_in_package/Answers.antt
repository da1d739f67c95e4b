use Rattle.std.proofs.Common.{ℕ, Bool, List, ◌∙◌, ap, map, ◌++◌}
use Rattle.std.specs.Prelude.{◌&&◌, flat_map}
use Rattle.calls_flags.specs.declared.told_file.ToldFile.{ToldFile}
use Rattle.calls_flags.proofs.UsedPackages.{is_used_so}
use Rattle.whole_packages.specs.LoadedViews.{numbered_view}
use Rattle.whole_packages.specs.WholeEntries.{tree_dots, tree_entries}
use Rattle.report.specs.Entries.{entry_of}
use Rattle.report.specs.declared.codes.DiagnosticCode.TheVariants.{ImportIsNotYes}
use Rattle.one_package.specs.Dots.{says_something}
use Rattle.one_package.specs.Judgments.{around_view, is_picked}
use Rattle.one_package.specs.Needed.{is_needed}
use Rattle.one_package.proofs.JudgedFiles.{all_said}
use Rattle.one_package.proofs.LeftOutDots.{around_says}
use Rattle.one_package.proofs.NeededImports.{picked_so}
use Rattle.one_package.proofs.judged.find_in_package.Goals as goal

pub returns-clause-found : goal.returns-clause-found
returns-clause-found g c = λ declared ps tables i p is_p tells around not_yes told none.
    let rules = g.R.FileRules.rules c.args.by.now.rules.now declared in
    let files = c.in_ok-diagnostics.ensures.files declared ps tables i p is_p tells around told none in
    let trees = ap (map numbered_view) c.deref-2.ensures.value ∙ c.in_ok-trees.ensures.meant p tells in
    let found = map entry_of c.in_ok-diagnostics.field-0.diagnostics.items in
    let surroundings = around_view c.args.around in
    let edition = c.args.loaded.now.edition in
    let picked : List ToldFile → List ℕ → Bool =
    λ files path. is_picked c.args.around.not_yes.now path && is_needed edition surroundings files path in
    let says = says_something surroundings in
    let with_imports = c.in_ok-add_imports.ensures
    ∙ λ j. found ++ flat_map (tree_entries (picked (c.deref.ensures.value j)) ImportIsNotYes) (trees j) in
    let dotted = ap (map numbered_view) c.deref-3.ensures.value ∙ c.in_ok-trees.ensures.meant p tells in
    record {
      are_flags = files.are_flags;
      each = all_said rules ps tables i p is_p none (picked c.args.told.now.files.items)
          (picked_so ps tables i p is_p surroundings around c.args.told.now.files.items
          (λ path. is_used_so ps tables i p told.walked c.args.told.now.files.items path is_p told.skip_silent told.are_files)
          rules edition tells.is_edition (is_picked c.args.around.not_yes.now) not_yes)
          found
          (map entry_of c.add_left_out.new.diagnostics.items) files.each says
          (around_says ps tables p surroundings around)
          (c.in_ok-add_left_out.ensures ∙ λ j. with_imports j ++ flat_map (tree_dots says) (dotted j));
    }

pub returns-clause-certified : goal.returns-clause-certified
returns-clause-certified g c = λ ps tables i p is_p tells around told none.
    c.in_ok-diagnostics.ensures.certified ps tables i p is_p tells around told none
