use Rattle.std.proofs.Common.{◌≡◌, ◌+◌, ◌≤◌, length, take}
use Rattle.std.specs.List.{suffix_len}
use Rattle.directives.specs.Forms.{is_white_space}
use Rattle.directives.proofs.form.without_end.Given as goal

-- so much white space is left at the end as there was, without what was passed
abbrev pub invariant-bytes : goal.invariant-bytes
invariant-bytes l =
    (l.end ≤ length l.bytes)
    × (l.end + suffix_len is_white_space l.bytes
    ≡ length l.bytes + suffix_len is_white_space (take l.end l.bytes))

abbrev pub decreases-bytes : goal.decreases-bytes
decreases-bytes l = l.end
