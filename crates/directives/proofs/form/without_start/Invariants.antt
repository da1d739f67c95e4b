use Rattle.std.proofs.Common.{◌≡◌, ◌<◌, ◌≤◌, ◌-◌, ℕ, get_or, length, true}
use Rattle.directives.specs.Forms.{is_white_space}
use Rattle.directives.proofs.form.without_start.Given as goal

-- all that was passed is white space
abbrev pub invariant-bytes : goal.invariant-bytes
invariant-bytes l = (l.start ≤ length l.bytes) × ((k : ℕ) → k < l.start → is_white_space (get_or l.bytes k 0) ≡ true)

abbrev pub decreases-bytes : goal.decreases-bytes
decreases-bytes l = length l.bytes - l.start
