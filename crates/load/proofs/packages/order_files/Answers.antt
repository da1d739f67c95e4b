use Rattle.std.proofs.Common.{refl}
use Rattle.load.specs.GivenPackages.{IsByName}
use Rattle.load.proofs.ZippedLists.{zips_none, zips_next, zips_all}
use Rattle.load.proofs.packages.order_files.Goals as goal

pub loop-path-init : goal.loop-path-init
loop-path-init c =
    zips_none IsByName c.args.packages.entries c.into_iter-path-iterator.result c.new-ordered.result.items
    c.into_iter-path-iterator.ensures.into_iter_gives.0 c.new-ordered.ensures.items

pub loop-path-preserved : goal.loop-path-preserved
loop-path-preserved c =
    zips_next IsByName c.args.packages.entries c.next.new.self c.loop-path.path-iterator
    (c.in-Some.path, c.in-Some.files) c.loop-path.ordered.items c.push.new.self.items
    (record {
      path = c.in-Some.path;
      edition = c.in-Some.files.edition;
      sources = c.in_ok-sources.sources;
      imports = c.in-Some.files.imports;
    })
    c.in-Some.ensures.steps
    (record { is_path = refl; is_edition = refl; are_imports = refl; by_name = c.in_ok-sources.ensures }) c.in_ok-push.ensures.items
    c.loop-path.invariant

pub returns : goal.returns
returns c =
    zips_all IsByName c.args.packages.entries c.loop-path.path-iterator c.loop-path.ordered.items c.in-None.ensures.steps.0
    c.loop-path.invariant
