use Rattle.std.proofs.Common.{◌+◌, map, option_map, drop, sym, ap, ◌∙◌}
use Rattle.tree.specs.View.{top_level_syntax, file_syntax}
use Rattle.meaning.specs.TwoFunctions.{function_names_in, function_names_from, second_function}
use Rattle.names.specs.Answers.{function_name_view}
use Rattle.names.proofs.SecondFunctions.{has_name, file_item, file_passes, file_has_second}
use Rattle.names.proofs.second.second_function.Goals as goal

pub returns-in-Some : goal.returns-in-Some
returns-in-Some c =
    let files = c.args.files.now in
    let i = c.loop-number.number in
    let ds = c.deref.result.now in
    let answer = second_function (map file_syntax files) in
    let rest = function_names_from (i + 1) (map file_syntax (drop (i + 1) files)) in
    let view = option_map (λ name. function_name_view i name.now) in
    file_has_second (has_name c.loop-number.seen) (function_names_in i (map top_level_syntax ds)) rest (function_name_view i c.in-Some.name.now) answer
    (λ earlier sees. ap view (sym c.in-Some.is) ∙ c.in_ok-name.ensures.second i earlier sees)
    (file_item _ files i c.index-files-number.result ds answer c.loop-number-test.true c.deref.ensures.value c.loop-number.invariant)

pub loop-number-preserved : goal.loop-number-preserved
loop-number-preserved c =
    let files = c.args.files.now in
    let i = c.loop-number.number in
    let ds = c.deref.result.now in
    let answer = second_function (map file_syntax files) in
    let rest = function_names_from (i + 1) (map file_syntax (drop (i + 1) files)) in
    let view = option_map (λ name. function_name_view i name.now) in
    file_passes (has_name c.loop-number.seen) (has_name c.second_in.new.seen) (function_names_in i (map top_level_syntax ds)) rest answer
    (λ earlier sees. ap view (sym c.in_default.is) ∙ c.in_ok-name.ensures.second i earlier sees)
    (λ f. c.in_ok-name.ensures.seen c.in_default.is i f)
    (file_item _ files i c.index-files-number.result ds answer c.loop-number-test.true c.deref.ensures.value c.loop-number.invariant)
