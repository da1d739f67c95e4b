use Rattle.imports.specs.Views.{text_views}
use Rattle.given_packages.proofs.told_neighbours.list_of.Goals as goal

pub returns : goal.returns
returns c i = record { path = c.args.one.now.path.now; imports = text_views (c.new.ensures.items i) }
