use Rattle.std.proofs.Common.{◌≡◌, ◌∷◌, ◌+◌, ◌∙◌, ap, drop, map, rules, string_bytes, subst, sym, Contains}
use Rattle.std.proofs.lemmas.List.{drop_all, drop_more}
use Rattle.folders.specs.ReadFaults.{IsReadFaultOf}
use Rattle.folders.proofs.HandedOn.{handed_on}
use Rattle.folders.proofs.Members.{contains_map}
use Rattle.folders.proofs.ReadFaults.{read_among}
use Rattle.folders.proofs.ListedFiles.{all_files, no_files, one_more_file}
use Rattle.folders.proofs.listed.read_files.Goals as goal

pub loop-name-init : goal.loop-name-init
loop-name-init g c =
    no_files c.args.names.items c.in_order-names.result.items _ _ (search rules) (search rules)
    c.in_order-names.ensures.ascend c.in_order-names.ensures.same

pub loop-name-preserved : goal.loop-name-preserved
loop-name-preserved g c =
    let names = c.deref-name-items.result.now in
    let at = c.loop-name.name-index in
    let name = c.name-item.result in
    let source = c.in_ok-read_named.field-0 in
    let named : string_bytes source.name ≡ string_bytes name
    = ap string_bytes c.in_ok-read_named.ensures.named ∙ (c.in_ok-name.ensures.ok ∙ c.as_str.ensures.value) in
    one_more_file c.args.names.items (drop at names) (drop (at + 1) names) c.loop-name.sources.items c.push.new.self.items source
    name (drop_more names at name c.loop-name-test.true ∙ ap (λ n. n ∷ drop (at + 1) names) (sym c.name-item.is)) named
    c.in_ok-read_named.ensures.printable c.in_ok-push.ensures.items c.loop-name.invariant

pub returns-clause-files : goal.returns-clause-files
returns-clause-files g c =
    let names = c.deref-name-items.result.now in
    let at = c.loop-name.name-index in
    all_files c.args.names.items (drop at names) c.loop-name.sources.items (drop_all at names c.loop-name-test.false)
    c.loop-name.invariant

pub returns-in_err-read_named-clause-fault : goal.returns-in_err-read_named-clause-fault
returns-in_err-read_named-clause-fault g c =
    let names = map string_bytes c.args.names.items in
    let ordered = c.deref-name-items.result.now in
    let item = c.name-item.result in
    let fault = c.in_err-read_named.field-0.0 in
    let same : ordered ≡ c.in_order-names.result.items = search rules in
    let there : Contains c.in_order-names.result.items item
    = subst (λ all. Contains all item) same (c.loop-name.name-index, c.loop-name-test.true, sym c.name-item.is) in
    let among : Contains names (string_bytes item)
    = (c.in_order-names.ensures.same (string_bytes item)).0 (contains_map string_bytes c.in_order-names.result.items item there) in
    let named : string_bytes c.in_ok-name.name ≡ string_bytes item = c.in_ok-name.ensures.ok ∙ c.as_str.ensures.value in
    handed_on c.from_residual-in_err-read_named.result fault (IsReadFaultOf (Contains names))
    c.from_residual-in_err-read_named.ensures.1
    (read_among (λ told. told ≡ string_bytes c.in_ok-name.name) (Contains names) fault
    (λ told is. subst (Contains names) (sym (is ∙ named)) among) c.in_err-read_named.ensures.fault)
