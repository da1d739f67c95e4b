use Rattle.std.proofs.Common.{◌≡◌, ◌↔◌, IsTrue, Any, rules}
use Rattle.command_line.proofs.Given.{text_of_any}
use Rattle.command_line.proofs.words.is_given.Goals as goal

pub returns-clause-given : goal.returns-clause-given
returns-clause-given g c =
    let word = c.args.word.now in
    let words = c.args.words.now in
    let found : IsTrue c.any.result ↔ Any (λ given. g.S.AsStr.text given ≡ word) words = search rules in
    λ t. text_of_any g.S.AsStr.text words word (found.0 t)
