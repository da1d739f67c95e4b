-- Lines around a place.
use Rattle.std.proofs.Common.{◌≡◌, ◌++◌, Some, None, [], codes, refl}
use Rattle.report_formats.specs.UnitText.{lines_around, shown_line}

lines_asked : lines_around (Some 1) (codes "a\nb\nc\nd") 2
    ≡ shown_line 1 (codes "a") ++ (shown_line 2 (codes "b") ++ (shown_line 3 (codes "c") ++ []))
lines_asked = refl

after_the_last_newline : lines_around (Some 0) (codes "a\n") 2 ≡ shown_line 2 [] ++ []
after_the_last_newline = refl

none_asked : lines_around None (codes "a\n") 1 ≡ []
none_asked = refl
