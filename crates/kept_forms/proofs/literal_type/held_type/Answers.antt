use Rattle.std.proofs.Common.{refl}
use Rattle.tree.proofs.Views.{expression_form-ArrayType, expression_form-EllipsisArrayType, expression_form-SliceType, expression_form-MapType}
use Rattle.kept_forms.proofs.LiteralForms.{held_other}
use Rattle.kept_forms.proofs.literal_type.held_type.Goals as goal

pub returns-in-ArrayType : goal.returns-in-ArrayType
returns-in-ArrayType c = rw (c.in-ArrayType.is, expression_form-ArrayType, ← c.deref.ensures) refl

pub returns-in-EllipsisArrayType : goal.returns-in-EllipsisArrayType
returns-in-EllipsisArrayType c =
    rw (c.in-EllipsisArrayType.is, expression_form-EllipsisArrayType, ← c.deref-in-EllipsisArrayType.ensures) refl

pub returns-in-SliceType : goal.returns-in-SliceType
returns-in-SliceType c =
    rw (c.in-SliceType.is, expression_form-SliceType, ← c.deref-in-SliceType.ensures) refl

pub returns-in-MapType : goal.returns-in-MapType
returns-in-MapType c = rw (c.in-MapType.is, expression_form-MapType, ← c.deref-in-MapType.ensures) refl

pub returns-in_default : goal.returns-in_default
returns-in_default c =
    held_other _ _ c.in_default.not-ArrayType c.in_default.not-EllipsisArrayType c.in_default.not-SliceType
    c.in_default.not-MapType
