use Rattle.std.proofs.Common.{take}
use Rattle.scopes.specs.Views.{namings_view}
use Rattle.meaning.specs.Declarations.{locals_of}
use Rattle.names.specs.Ordered.{AreFirst}
use Rattle.names.proofs.locals.first_locals.Given as goal

abbrev pub invariant-loop-naming : goal.invariant-loop-naming
invariant-loop-naming l = AreFirst l.locals (locals_of (namings_view (take l.naming-index l.namings)))
