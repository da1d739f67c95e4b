use Rattle.std.proofs.Common.{◌≡◌, ◌∙◌, string_eq, rules}
use Rattle.indexmap.specs.IndexMap.{insert_entry}
use Rattle.indexmap.proofs.CallerLemmas.{insert_entry-new}
use Rattle.load.specs.GivenPackages.{entry_of}
use Rattle.load.proofs.GivenLists.{gives_none, gives_next, no_value, repeated_now}
use Rattle.load.proofs.packages.by_path.Goals as goal

pub loop-path-init : goal.loop-path-init
loop-path-init c =
    gives_none c.args.given.items c.into_iter-path-iterator.result.rest.items c.new-packages.result.entries
    c.new-packages.ensures.empty c.into_iter-path-iterator.ensures.into_iter_gives.0

pub returns-then-contains_key-clause-err : goal.returns-then-contains_key-clause-err
returns-then-contains_key-clause-err c =
    repeated_now c.args.given.items c.next.new.self.rest.items c.loop-path.path-iterator.rest.items
    c.loop-path.packages.entries c.in-Some.field-0 c.contains_key.result c.in-Some.ensures.steps.0 c.contains_key.ensures
    c.if-contains_key.true c.loop-path.invariant

pub loop-path-preserved : goal.loop-path-preserved
loop-path-preserved c =
    let path = c.in-Some.field-0.path in
    let files = (entry_of c.in-Some.field-0).1 in
    let before = c.loop-path.packages in
    let none = no_value _ _ c.contains_key.ensures c.if-contains_key.false in
    let entries : c.insert.new.self.entries ≡ insert_entry string_eq before.entries path files = search rules in
    gives_next c.args.given.items c.next.new.self.rest.items c.loop-path.path-iterator.rest.items before.entries
    c.insert.new.self.entries c.in-Some.field-0 c.contains_key.result c.in-Some.ensures.steps.0 c.contains_key.ensures
    c.if-contains_key.false (entries ∙ insert_entry-new string_eq before path files none) c.loop-path.invariant
