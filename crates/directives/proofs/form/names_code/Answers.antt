use Rattle.std.proofs.Common.{rules, tests}
use Rattle.std.proofs.lemmas.Iterator.Search.{any_from_yields_List}
use Rattle.std.proofs.lemmas.Iterator.Splits.{YieldsList-from_slice_split}
use Rattle.std.specs.Str.{bytes_eq}
use Rattle.directives.specs.Forms.{is_comma}
use Rattle.directives.proofs.form.names_code.Goals as goal

pub returns : goal.returns
returns c =
    any_from_yields_List (λ piece. bytes_eq piece c.args.number.now) _ _ _ c.any.ensures.ran
    (YieldsList-from_slice_split _ is_comma c.args.codes.now c.split.ensures.rest c.split.ensures.done c.split.ensures.closure (λ x r q k. search (rules, tests)))
    (λ x b q k. search (rules, tests))
