use Rattle.std.proofs.Common.{◌≡◌, ◌<◌, ◌∙◌, None, Some, ap, length, rules, sym}
use Rattle.std.specs.List.{before_first}
use Rattle.folders.specs.GoModules.{ends_line, module_in, module_of}
use Rattle.folders.proofs.ModuleLines.{found, goes_on, nothing}
use Rattle.folders.proofs.go_modules.module_in.Goals as goal

pub lines-preserved : goal.lines-preserved
lines-preserved c =
    let rest = c.lines.rest.now in
    let some : 0 < length rest = search rules in
    let none : module_of (before_first ends_line rest) ≡ None = search rules in
    ap module_in c.cut.ensures.behind ∙ (sym (goes_on rest some none) ∙ c.lines.invariant)

pub returns-in-Some : goal.returns-in-Some
returns-in-Some c =
    let rest = c.lines.rest.now in
    let some : 0 < length rest = search rules in
    let is : module_of (before_first ends_line rest) ≡ Some c.in-Some.path.now = search rules in
    sym (found rest c.in-Some.path.now some is) ∙ c.lines.invariant

pub returns : goal.returns
returns c =
    let rest = c.lines.rest.now in
    let none : length rest ≡ 0 = search rules in
    sym (nothing rest none) ∙ c.lines.invariant
