use Rattle.names.proofs.Adding.{adds_as}
use Rattle.names.proofs.LevelNames.{value_names, type_names}
use Rattle.names.proofs.package_block.add_spec.Goals as goal

pub returns-in-Value : goal.returns-in-Value
returns-in-Value c =
    adds_as c.args.block.now c.add_names.new.block _ _
    (value_names _ c.in-Value.names c.in-Value.field-1 c.in-Value.field-2 c.in-Value.field-3 _ c.in-Value.is c.deref.ensures.value)
    c.add_names.result c.add_names.ensures

pub returns-in-Type : goal.returns-in-Type
returns-in-Type c =
    adds_as c.args.block.now c.add_name.new.block _ _
    (type_names _ c.in-Type.name c.in-Type.field-1 c.in-Type.field-2 c.in-Type.field-3 c.in-Type.field-4 c.in-Type.is)
    c.add_name.result c.add_name.ensures
