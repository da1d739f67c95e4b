use Rattle.std.proofs.Common.{map, sym, ap, ◌∙◌, subst}
use Rattle.facts.proofs.FactParts.{on_ok}
use Rattle.findings.proofs.FoundParts.{adds_faults, adds_so, few_paths}
use Rattle.findings.specs.FoundEntries.{known_paths, IsPathEntry, IsFollowedPathEntry}
use Rattle.calls_flags.specs.KnownCalls.{known_calls}
use Rattle.credits.specs.BodyPaths.{TellsPaths}
use Rattle.events.specs.VariableViews.{variable_view}
use Rattle.bodies.specs.Solutions.{cancel_arrives, group_arrives}
use Rattle.meaning_packages.specs.Credits.{promises_in}
use Rattle.meaning_packages.specs.PathFaults.{IsPathFault, paths_of}
use Rattle.path_faults.specs.FaultViews.{fault_view}
use Rattle.findings.proofs.found.add_paths.Goals as goal

pub returns : goal.returns
returns c =
    on_ok c.add_path_faults.result
    (λ added number f tells b is_body.
    let calls = known_calls c.args.calls in
    let paths = known_paths calls f b in
    let solution = c.in_ok-solution.solution in
    let vs = map variable_view c.args.body.now.variables.items in
    let told = subst (λ credits. TellsPaths (paths_of f.seen (promises_in calls credits b.at) b) c.in-Some.kept.graph vs
    (cancel_arrives solution) (group_arrives solution)) (sym tells.are_credits)
    (c.in_ok-solution.ensures.paths number f.seen b is_body c.in-Some.is) in
    adds_so c.args.diagnostics.now.items c.add_path_faults.new.diagnostics.items (IsPathEntry calls number f b)
    (IsFollowedPathEntry calls number f b) (few_paths calls number f b c.args.body.now is_body c.in-Some.kept c.in-Some.is)
    (adds_faults c.args.diagnostics.now.items c.add_path_faults.new.diagnostics.items number c.args.body.now.file
    is_body.is_file (map fault_view c.deref-2.result.now) (map fault_view c.in_ok-faults.faults.items) (IsPathFault paths)
    (ap (map fault_view) c.deref-2.ensures.value)
    (c.in_ok-faults.ensures paths told.is_graph (told.are_variables ∙ ap (map variable_view) (sym c.deref.ensures.value))
    told.classifies)
    added))
    c.add_path_faults.ensures
