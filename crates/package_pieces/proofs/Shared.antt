-- What threads may share, and send to each other: the files of a package as they are told of, and their bodies. It is
-- looked for part by part, since it is too large to be found at once.
use denote.Param.Send.{IsSend, IsSync, sendable}
use denote.Param.SendFields.{declared_send, declared_sync}
use denote.Ref.{NamedLft}
use denote.Slice.{ShrSlice}
use Rattle.std.proofs.Crossing.{crosses}
use Rattle.std.proofs.alloc.Global.TheSendSync as alloc
use Rattle.std.proofs.option.Option.TheSendSync as option
use Rattle.std.proofs.vec.Vec.TheSendSync as vec
use Rattle.bodies.proofs.graph.BodyGraph.TheSendSync as graph
use Rattle.bodies.specs.contracts.body.Body as body
use Rattle.calls_flags.specs.contracts.file_bodies.FileBodies as file_bodies
use Rattle.calls_flags.specs.contracts.told_file.Telling as telling
use Rattle.calls_flags.specs.contracts.told_file.ToldFile as told_file
use Rattle.credits.proofs.table.Credits.TheSendSync as credits
use Rattle.events.proofs.found.Variables.TheSendSync as variables
use Rattle.events.proofs.told.SiteEvent.TheSendSync as event
use Rattle.events.proofs.variable.Variable.TheSendSync as variable
use Rattle.events.specs.contracts.told.Told as told
use Rattle.facts.proofs.table.Imported.TheSendSync as imported
use Rattle.facts.proofs.table.Table.TheSendSync as table
use Rattle.lists.proofs.Lists.TheSendSync as lists
use Rattle.mentions.proofs.mark.LiteralUse.TheSendSync as literal
use Rattle.mentions.specs.contracts.mark.BodyPlace as place
use Rattle.names.proofs.resolution.Names.TheSendSync as names
use Rattle.tracked_rows.proofs.fields.Fields.TheSendSync as fields
use Rattle.tree.proofs.declaration.Spec.TheLaws.TheKnot as knot
use Rattle.tree.proofs.edition.Edition.TheSendSync as edition
use Rattle.tree.proofs.file.ImportDecl.TheSendSync as import_declaration
use Rattle.tree.proofs.name_text.NameText.TheSendSync as name
use Rattle.tree.proofs.operator.BasicLitKind.TheSendSync as literal_kind
use Rattle.tree.proofs.operator.BinaryOperator.TheSendSync as binary
use Rattle.tree.proofs.operator.ChanDirection.TheSendSync as direction
use Rattle.tree.proofs.operator.DeclKeyword.TheSendSync as keyword
use Rattle.tree.proofs.operator.UnaryOperator.TheSendSync as unary
use Rattle.tree.proofs.span.Identifier.TheSendSync as identifier
use Rattle.tree.proofs.span.Span.TheSendSync as span
use Rattle.tree.proofs.span.TypeName.TheSendSync as type_name
use Rattle.tree.specs.contracts.expression.Param as parameter
use Rattle.tree.specs.contracts.expression.Signature as signature
use Rattle.tree.specs.contracts.file.File as tree
use Rattle.tree.specs.contracts.file.TopLevelDecl as declaration
use Rattle.tree.specs.contracts.statement.Stmt as statement
use Rattle.uses.proofs.faults.UseFault.TheSendSync as fault

-- what trees are made of
ruleset trees = (
  name.the_sync,
  identifier.the_sync,
  identifier.the_field_sync,
  type_name.the_field_sync,
  span.the_sync,
  span.the_field_sync,
  literal_kind.the_field_sync,
  binary.the_field_sync,
  unary.the_field_sync,
  direction.the_field_sync,
  keyword.the_field_sync,
  vec.the_sync,
  crosses,
  knot.crosses,
  sendable,
)

parameter_sync : IsSync parameter.the_row
parameter_sync = search trees depth 60 fits 20000

signature_sync : IsSync signature.the_row
signature_sync = search trees depth 60 fits 20000

statement_sync : IsSync statement.the_row
statement_sync = search trees depth 60 fits 20000

declaration_sync : IsSync declaration.the_row
declaration_sync = search trees depth 60 fits 20000

pub tree_sync : IsSync tree.the_row
tree_sync =
    declared_sync tree.the_type (
      search (sendable, identifier.the_sync),
      (
        search (sendable, vec.the_sync, alloc.the_sync, import_declaration.the_sync),
        (search (sendable, vec.the_sync, alloc.the_sync, declaration_sync), (search (sendable, span.the_sync), tt)),
      ),
    )

-- by what files are told of
pub telling_sync : (κ ι : NamedLft) → IsSync (telling.the_row κ ι)
telling_sync κ ι =
    declared_sync (telling.the_type κ ι) (
      search (sendable, edition.the_sync),
      (
        search (sendable, tree_sync),
        (
          search (sendable, names.the_sync),
          (
            search (sendable, table.the_sync),
            (search (sendable, imported.the_sync), (search (sendable, fields.the_sync), (search sendable, tt))),
          ),
        ),
      ),
    )

place_sync : (κ : NamedLft) → IsSync (place.the_row κ)
place_sync κ =
    let params : IsSync (ShrSlice κ.mir κ.lft parameter.the_row) = search (sendable, parameter_sync) in
    declared_sync (place.the_type κ) (
      search sendable,
      (
        search (sendable, option.the_sync, identifier.the_sync),
        (
          search (sendable, option.the_sync _ params),
          (
            search (sendable, signature_sync),
            (search (sendable, statement_sync), (search (sendable, span.the_sync), (search (sendable, literal.the_sync), tt))),
          ),
        ),
      ),
    )

place_send : (κ : NamedLft) → IsSend (place.the_row κ)
place_send κ =
    let params : IsSend (ShrSlice κ.mir κ.lft parameter.the_row) = search (sendable, parameter_sync) in
    declared_send (place.the_type κ) (
      search sendable,
      (
        search (sendable, option.the_send, identifier.the_sync),
        (
          search (sendable, option.the_send _ params),
          (
            search (sendable, signature_sync),
            (search (sendable, statement_sync), (search (sendable, span.the_send), (search (sendable, literal.the_send), tt))),
          ),
        ),
      ),
    )

told_sync : (κ : NamedLft) → IsSync (told.the_row κ)
told_sync κ =
    declared_sync (told.the_type κ) (
      search (sendable, edition.the_sync),
      (
        search (sendable, vec.the_sync, alloc.the_sync, fault.the_sync),
        (
          search (sendable, lists.the_sync, fault.the_sync),
          (
            search (sendable, lists.the_sync, event.the_sync),
            (
              search (sendable, lists.the_sync),
              (
                search (sendable, lists.the_sync),
                (
                  search (sendable, vec.the_sync, alloc.the_sync),
                  (search (sendable, vec.the_sync, alloc.the_sync, place_sync), tt),
                ),
              ),
            ),
          ),
        ),
      ),
    )

pub file_sync : (κ : NamedLft) → IsSync (told_file.the_row κ)
file_sync κ =
    declared_sync (told_file.the_type κ) (search (sendable, told_sync), (search (sendable, option.the_sync, variables.the_sync), tt))

told_send : (κ : NamedLft) → IsSend (told.the_row κ)
told_send κ =
    declared_send (told.the_type κ) (
      search (sendable, edition.the_send),
      (
        search (sendable, crosses, fault.the_send),
        (
          search (sendable, lists.the_send, fault.the_send),
          (
            search (sendable, lists.the_send, event.the_send),
            (
              search (sendable, lists.the_send),
              (
                search (sendable, lists.the_send),
                (search (sendable, crosses), (search (sendable, crosses, place_send), tt)),
              ),
            ),
          ),
        ),
      ),
    )

pub file_send : (κ : NamedLft) → IsSend (told_file.the_row κ)
file_send κ =
    declared_send (told_file.the_type κ) (search (sendable, told_send), (search (sendable, option.the_send, variables.the_send), tt))

body_sync : (κ ι : NamedLft) → IsSync (body.the_row κ ι)
body_sync κ ι =
    declared_sync (body.the_type κ ι) (
      search sendable,
      (
        search (sendable, place_sync),
        (
          search (sendable, vec.the_sync, alloc.the_sync, variable.the_sync),
          (
            search sendable,
            (
              search (sendable, edition.the_sync),
              (search sendable, (search (sendable, option.the_sync, graph.the_sync), tt)),
            ),
          ),
        ),
      ),
    )

pub body_send : (κ ι : NamedLft) → IsSend (body.the_row κ ι)
body_send κ ι =
    declared_send (body.the_type κ ι) (
      search sendable,
      (
        search (sendable, place_send),
        (
          search (sendable, crosses, variable.the_send),
          (
            search sendable,
            (
              search (sendable, edition.the_send),
              (search sendable, (search (sendable, option.the_send, graph.the_send), tt)),
            ),
          ),
        ),
      ),
    )

pub bodies_sync : (κ ι : NamedLft) → IsSync (file_bodies.the_row κ ι)
bodies_sync κ ι =
    declared_sync (file_bodies.the_type κ ι) (
      search (sendable, told_sync),
      (search (sendable, vec.the_sync, alloc.the_sync, body_sync), (search (sendable, credits.the_sync), tt)),
    )

pub bodies_send : (κ ι : NamedLft) → IsSend (file_bodies.the_row κ ι)
bodies_send κ ι =
    declared_send (file_bodies.the_type κ ι) (
      search (sendable, told_sync),
      (search (sendable, crosses, body_send), (search (sendable, credits.the_send), tt)),
    )
