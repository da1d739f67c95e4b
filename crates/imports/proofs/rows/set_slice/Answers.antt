use Rattle.std.proofs.Common.{ℕ, List, Bor}
use Rattle.std.proofs.lemmas.List.{map-set}
use Rattle.imports.proofs.rows.set_slice.Goals as goal

pub returns-then-place-len : goal.returns-then-place-len
returns-then-place-len c =
    map-set (λ (slice : Bor (List ℕ)). slice.now) c.args.slices.now.items c.args.place c.args.slice
