use Rattle.std.proofs.Common.{◌≡◌, ◌∙◌, ℕ, Bool, List, ap, is_some, map, string_bytes}
use Rattle.std.proofs.lemmas.Result.{IfOk-weaker}
use Rattle.first_values.specs.ValuesByName.{value_of}
use Rattle.imports.specs.Views.{packages_view}
use Rattle.judge.proofs.NotGivenPaths.{lists_name, tell_not_given}
use Rattle.judge.specs.NotGiven.{kept_not_given, some_names, TellNotGiven}
use Rattle.judge.proofs.not_given.not_given.Goals as goal

pub returns : goal.returns
returns c =
    let imported : List ℕ → Bool = λ path. is_some (value_of c.in_ok-imported.imported path) in
    IfOk-weaker c.paths_not_given.result
    (λ paths. map string_bytes paths.items ≡ kept_not_given imported c.args.packages.now)
    (λ paths. TellNotGiven c.args.packages.now paths.items)
    (λ paths are. tell_not_given c.args.packages.now imported paths.items
    (λ ps tell path.
    c.in_ok-imported.ensures path
    ∙ (ap (λ lists. some_names (packages_view lists) path) c.deref.ensures.value
    ∙ (ap (λ lists. some_names lists path) (c.in_ok-lists.ensures ps tell) ∙ lists_name path ps))) are)
    c.paths_not_given.ensures
