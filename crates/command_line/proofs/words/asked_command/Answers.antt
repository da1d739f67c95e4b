use Rattle.std.proofs.Common.{◌≡◌, ◌∷◌, map, rules}
use Rattle.command_line.proofs.AskedBy.{is_asked}
use Rattle.command_line.proofs.words.asked_command.Goals as goal

pub returns-in_ok-kept-in-Some : goal.returns-in_ok-kept-in-Some
returns-in_ok-kept-in-Some g c =
    let text = g.S.AsStr.text in
    let words = map text c.args.words.now in
    let rest = map text c.in-Some.rest.now in
    let command = c.as_str.result.now in
    let is : words ≡ command ∷ rest = search rules in
    is_asked words rest command c.in_ok-kept-in-Some.kept is c.in_ok-kept-in-Some.ensures c.asked_of.result c.asked_of.ensures
