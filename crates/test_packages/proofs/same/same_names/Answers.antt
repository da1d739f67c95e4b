use Rattle.std.proofs.Common.{◌≡◌, map, string_bytes, length, sym, ◌∙◌, arith}
use Rattle.std.proofs.lemmas.List.{length-map}
use Rattle.test_packages.proofs.KnownMore.{other_number}
use Rattle.test_packages.proofs.same.same_names.Goals as goal

pub returns-then-one-other : goal.returns-then-one-other
returns-then-one-other c =
    other_number (map string_bytes c.args.one.now) (map string_bytes c.args.other.now) (λ e.
    let same : length c.args.one.now ≡ length c.args.other.now = sym (length-map _ _) ∙ e ∙ length-map _ _ in
    omega (arith, same, c.if-one-other.true))
