use Rattle.std.proofs.Common.{◌≡◌, map, drop}
use Rattle.std.specs.List.{list_any}
use Rattle.std.specs.Str.{bytes_eq}
use Rattle.tracked_rows.proofs.fields.is_among.Given as goal

-- what is told of those that are left is told of all
abbrev pub invariant-loop-field : goal.invariant-loop-field
invariant-loop-field l =
    list_any (λ f. bytes_eq f l.name) (map (λ f. f.now) (drop l.field-index l.names))
    ≡ list_any (λ f. bytes_eq f l.name) (map (λ f. f.now) l.names)
