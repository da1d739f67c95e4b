use Rattle.std.proofs.Common.{◌≡◌, ◌∷◌, ◌+◌, ◌∙◌, ap, sym, drop, inl, rules, string_bytes, IfSome}
use Rattle.std.proofs.lemmas.List.{drop_all, drop_more}
use Rattle.folders.specs.Names.{IsPrintable}
use Rattle.folders.specs.GoFiles.{source_name, IsGoName, IsOfFolder}
use Rattle.folders.specs.ReadFaults.{IsReadFaultOf}
use Rattle.folders.proofs.HandedOn.{handed_on}
use Rattle.folders.proofs.ReadFaults.{read_among}
use Rattle.folders.proofs.GoFiles.{no_sources, sources_more, all_sources}
use Rattle.folders.proofs.files.read_folder.Goals as goal

pub loop-name-init : goal.loop-name-init
loop-name-init g c = no_sources _ _ _ (search rules) (search rules)

pub loop-name-preserved : goal.loop-name-preserved
loop-name-preserved g c =
    let name = c.name-item.result in
    let names = c.deref-name-items.result.now in
    let at = c.loop-name.name-index in
    let folder : IsPrintable c.args.folder.now = search rules in
    let go : IsGoName (string_bytes name) = search rules in
    let named : IfSome c.in_ok-read_source.field-0 (λ s. string_bytes s.name ≡ source_name c.args.folder.now (string_bytes name)) = search rules in
    sources_more c.args.folder.now name (drop at names) (drop (at + 1) names) c.loop-name.sources.items
    c.keep_source.new.sources.items c.in_ok-read_source.field-0
    (drop_more names at name c.loop-name-test.true ∙ ap (λ n. n ∷ drop (at + 1) names) (sym c.name-item.is)) c.loop-name.invariant (search rules)
    folder go named

pub returns-clause-sources : goal.returns-clause-sources
returns-clause-sources g c =
    let names = c.deref-name-items.result.now in
    let at = c.loop-name.name-index in
    all_sources c.args.folder.now c.loop-name.sources.items (drop at names) (drop_all at names c.loop-name-test.false)
    c.loop-name.invariant

pub returns-in_err-names-clause-fault : goal.returns-in_err-names-clause-fault
returns-in_err-names-clause-fault g c =
    let folder = c.args.folder.now in
    let fault = c.in_err-names.field-0.0 in
    handed_on c.from_residual.result fault (IsReadFaultOf (IsOfFolder folder)) c.from_residual.ensures.1
    (read_among (λ name. name ≡ folder) (IsOfFolder folder) fault (λ name is. inl is) c.in_err-names.ensures.fault)
