use Rattle.std.proofs.Common.{◌∷◌, Some, None, map, ap, sym, ◌∙◌}
use Rattle.std.proofs.lemmas.List.{map-append}
use Rattle.package_list.specs.ListedValues.{import_of}
use Rattle.package_list.proofs.ImportsRead.{told_none, told_next, told_all, told_not}
use Rattle.package_list.proofs.import_map.imports_of.Goals as goal

pub loop-written-init : goal.loop-written-init
loop-written-init c =
    told_none c.args.texts.entries c.into_iter-written-iterator.result (map import_of c.new-imports.result.items)
    (ap (map import_of) c.new-imports.ensures.items) c.into_iter-written-iterator.ensures.into_iter_gives.0

pub loop-written-preserved : goal.loop-written-preserved
loop-written-preserved c =
    told_next c.args.texts.entries c.loop-written.written-iterator c.next.new.self (map import_of c.loop-written.imports.items)
    (map import_of c.push.new.self.items) c.in-Some.written c.in-Some-text.meant
    (c.in-Some.ensures.steps ∙ ap (λ text. (c.in-Some.written, text) ∷ c.next.new.self) c.in-Some-text.is)
    (ap (map import_of) c.in_ok-push.ensures.items ∙ map-append import_of c.loop-written.imports.items _)
    c.loop-written.invariant

pub returns-in_default : goal.returns-in_default
returns-in_default c =
    told_not c.args.texts.entries c.loop-written.written-iterator c.next.new.self (map import_of c.loop-written.imports.items)
    c.in-Some.written (c.in-Some.ensures.steps ∙ ap (λ text. (c.in-Some.written, text) ∷ c.next.new.self) c.in_default.is)
    c.loop-written.invariant

pub returns : goal.returns
returns c =
    told_all c.args.texts.entries c.loop-written.written-iterator (map import_of c.loop-written.imports.items)
    c.in-None.ensures.steps.0 c.loop-written.invariant
