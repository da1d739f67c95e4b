-- Findings with those of lines that accept nothing among them: each of these stands straight before the first finding
-- that stands behind it, by file and offset. Of one place these come last.
use Rattle.std.specs.Prelude.{◌==◌, Bool, ◌&&◌, ◌||◌, if◌then◌else◌, nat_lt, List, [], ◌∷◌}
use Rattle.report.specs.Entries.{Entry}
use Rattle.accepting.specs.Findings.{FindingEntry}

abbrev pub stands_before : Entry → Entry → Bool
stands_before a b = nat_lt a.file b.file || ((a.file == b.file) && nat_lt a.offset b.offset)

-- of the second list what stands before this, and then what is to follow, by what is left
abbrev pub told_before : Entry → (List FindingEntry → List FindingEntry) → List FindingEntry → List FindingEntry
told_before said follow [] = follow []
told_before said follow (s ∷ ss) =
    if stands_before s.said said then s ∷ told_before said follow ss else follow (s ∷ ss)

abbrev pub merged : List FindingEntry → List FindingEntry → List FindingEntry
merged [] ss = ss
merged (f ∷ fs) ss = told_before f.said (λ rest. f ∷ merged fs rest) ss
