use Rattle.std.proofs.Common.{ap, map, subst}
use Rattle.declared_tables.specs.DeclaredTables.{declared_tables}
use Rattle.imports.specs.Views.{text_views}
use Rattle.declared_json.specs.DeclaredPackages.{packages_of}
use Rattle.one_package.specs.Results.{KnowsImports}
use Rattle.package_workers.specs.Results.{judged_of, place_of}
use Rattle.package_workers.proofs.KnownResults.{AreTold}
use Rattle.package_workers.proofs.RightResults.{judged_told}
use Rattle.package_workers.proofs.judging.judge.Goals as goal

pub new-requires : goal.new-requires
new-requires g c =
    let given = c.args.judging.now.given.now in
    let declared = declared_tables (packages_of c.args.judging.now.outside.now) in
    let rules = g.R.FileRules.rules c.args.judging.now.rules.now declared in
    let rule = g.R.FileRules.certificates c.args.judging.now.rules.now in
    let job = c.args.job.now in
    let imports = c.in_ok-imports.imports in
    let results = c.deref-2.result.now in
    let told = g.B.Naming.told in
    let each = subst (AreTold told) c.deref-2.ensures.value c.in_ok-imports.ensures.right in
    let knows = subst (λ ks. KnowsImports given (text_views job.list.now.imports.items) (map judged_of ks) imports)
    c.deref-2.ensures.value
    (subst (λ paths. KnowsImports given (text_views paths) (map judged_of results) imports) c.deref.ensures.value
    c.in_ok-imports.ensures.known) in
    judged_told declared rules rule (c.are_determined.ensures.flags declared) given g.B.Naming.packages g.B.Naming.rank told
    c.requires.named job.place job.loaded.now job.list.now job.imported.items c.requires.job.is_package c.requires.job.is_list
    c.requires.job.are_imports each imports knows c.in_ok-judged.judged c.in_ok-judged.ensures.told (c.in_ok-judged.ensures.follows declared)
    (c.in_ok-judged.ensures.certified declared)

pub returns : goal.returns
returns g c = ap place_of c.in_ok-new.ensures
