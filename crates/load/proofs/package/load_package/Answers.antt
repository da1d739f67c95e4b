use Rattle.std.proofs.Common.{◌∷◌, ◌+◌, ◌++◌, ◌∙◌, ap, sym, drop, map, refl, subst}
use Rattle.std.proofs.lemmas.List.{drop_all, drop_more}
use Rattle.std.specs.Vec.Iter.{into_iter_items}
use Rattle.load.specs.Ahead.{files_in, AreReadAhead}
use Rattle.load.specs.GivenPackages.{paths_of}
use Rattle.load.specs.MeantPaths.{meant_of, meant_path}
use Rattle.load.specs.Readings.{IsParsed, MeansImports}
use Rattle.load.proofs.FilesLoaded.{one_loaded, is_read}
use Rattle.load.proofs.MeantTrees.{means_so}
use Rattle.load.proofs.ReadAhead.{of_ok}
use Rattle.load.proofs.package.load_package.Goals as goal

pub loop-source-preserved : goal.loop-source-preserved
loop-source-preserved c after given =
    let edition = c.args.given.edition in
    let at = c.loop-source.source-index in
    let sources = c.deref-source-items.result.now in
    let source = c.source-item.result in
    let left = drop (at + 1) sources in
    let rest = files_in edition left ++ after in
    let is = drop_more sources at source c.loop-source-test.true ∙ ap (λ y. y ∷ left) (sym c.source-item.is) in
    let so = c.loop-source.invariant after given in
    let ahead = subst (λ ss. AreReadAhead (files_in edition ss ++ after) (into_iter_items c.loop-source.ahead)) is so.1 in
    let paths = paths_of c.args.given.imports in
    let parsed =
    of_ok (IsParsed edition source) c.next_parsed.result c.in_ok-parsed.parsed c.in_ok-parsed.was
    (c.next_parsed.ensures.parsed rest ahead)
    in
    let means =
    means_so edition paths source c.in_ok-parsed.parsed c.in_ok-meant.meant parsed
    (subst (λ is. MeansImports (meant_path edition (map meant_of is)) c.in_ok-parsed.parsed c.in_ok-meant.meant) c.deref.ensures.value
    c.in_ok-meant.ensures)
    in (
      one_loaded edition paths sources left (drop at sources) source is c.in_ok-meant.meant c.loop-source.readings.items
          c.keep.new.readings.items c.loop-source.trees.items c.keep.new.trees.items means c.in_ok-keep.ensures.reading
          c.in_ok-keep.ensures.trees so.0,
      c.next_parsed.ensures.ahead rest ahead,
    )

pub returns-clause-read : goal.returns-clause-read
returns-clause-read c after given =
    let at = c.loop-source.source-index in
    let sources = c.deref-source-items.result.now in
    let same = c.deref-source-items.ensures.value in
    let ahead = subst (λ ss. AreReadAhead (files_in c.args.given.edition ss ++ after) (into_iter_items c.args.ahead.now)) (sym same) given in
    let so = c.loop-source.invariant after ahead in
    is_read c.args.given _ sources (drop at sources) same refl refl refl (drop_all at sources c.loop-source-test.false) so.0
