use Rattle.std.proofs.Common.{sym, ap, ◌∙◌, is_some}
use Rattle.std.specs.Map.Iter.{deref_pair}
use Rattle.std.specs.Option.{option_map}
use Rattle.names.proofs.FirstLocals.{none_in_scope, one_in_scope}
use Rattle.names.proofs.locals.has_begun.Goals as goal

pub returns-in_default : goal.returns-in_default
returns-in_default c =
    none_in_scope c.args.local.now _ c.requires.fit c.get_index_of.ensures.unique (sym c.get_index_of.ensures.found ∙ ap is_some c.in_default.is)

pub returns-in-Some-get_index : goal.returns-in-Some-get_index
returns-in-Some-get_index c =
    let entry = sym c.get_index.ensures.entry ∙ ap (option_map deref_pair) c.in-Some-get_index.is in
    one_in_scope c.args.local.now _ c.requires.fit c.get_index_of.ensures.unique c.in-Some.index _ _ c.in-Some.ensures.value entry
