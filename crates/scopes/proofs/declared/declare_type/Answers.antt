use Rattle.std.proofs.Common.{ℕ, false, List, [], ◌∷◌, ap}
use Rattle.tree.specs.declared.operator.DeclKeyword.TheVariants.{«Type» as type_keyword}
use Rattle.meaning.specs.Scopes.{declared_names}
use Rattle.scopes.proofs.Adding.{same_adds, alone_adds}
use Rattle.scopes.proofs.declared.declare_type.Goals as goal

pub returns : goal.returns
returns c =
    let span = c.args.name.now.span in
    same_adds _ _ _ _ _
    (ap (λ (n : List ℕ). declared_names type_keyword c.args.block span.start false (record { text = n; span = span } ∷ [])) c.as_str.ensures)
    (alone_adds _ _ _ _ c.declare.ensures)
