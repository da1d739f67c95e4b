use Rattle.std.proofs.Common.{◌≡◌, None, ap, ◌∙◌, sym, map, option_map, subst}
use Rattle.std.proofs.lemmas.Result.{IfOk-weaker}
use Rattle.meaning.specs.TwoFunctions.{second_function}
use Rattle.names.specs.Answers.{function_name_view}
use Rattle.tree.specs.View.{file_syntax}
use Rattle.one_package.proofs.grounds.find_grounds.Goals as goal

pub returns-in-None-clause-grounds : goal.returns-in-None-clause-grounds
returns-in-None-clause-grounds g c =
    IfOk-weaker c.named_grounds.result _ _
    (λ grounds are ps tables i p is_p tells around.
    let trees = ap (map file_syntax) c.deref.ensures.value ∙ sym tells.are_trees in
    let none = subst (λ f. option_map (λ f. function_name_view f.0 f.1.now) f ≡ second_function (map file_syntax c.deref.result.now))
    c.in-None.is c.in_ok-tree.ensures in
    are ps tables i p is_p tells around (subst (λ ts. second_function ts ≡ None) trees (sym none)))
    c.named_grounds.ensures.grounds

pub returns-in_ok-second_grounds-in-Some-clause-grounds : goal.returns-in_ok-second_grounds-in-Some-clause-grounds
returns-in_ok-second_grounds-in-Some-clause-grounds g c = λ ps tables i p is_p tells around.
    let trees = ap (map file_syntax) c.deref.ensures.value ∙ sym tells.are_trees in
    let some = subst (λ f. option_map (λ f. function_name_view f.0 f.1.now) f ≡ second_function (map file_syntax c.deref.result.now))
    c.in-Some.is c.in_ok-tree.ensures in
    c.in_ok-second_grounds-in-Some.ensures.grounds ps tables i p c.args.tellers.now.tells_all is_p tells around
    (sym (some ∙ ap second_function trees))
