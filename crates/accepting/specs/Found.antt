-- What a report tells of packages, with what is accepted. By the first edition of the rules nothing is accepted. Of
-- packages that were not asked for nothing is told.
use Rattle.std.specs.Prelude.{ℕ, List, [], ◌∷◌, Bool, true, false, filter, if◌then◌else◌, map, string_bytes}
use Rattle.std.specs.Str.{bytes_eq}
use Rattle.report.specs.declared.codes.Wording.{Wording}
use Rattle.report.specs.declared.codes.Wording.TheVariants.{First, Second}
use Rattle.accepting.specs.ByBaseline.{Key, baseline_keys, by_baseline}
use Rattle.accepting.specs.ByLines.{by_lines}
use Rattle.accepting.specs.Findings.{FoundEntry}
use Rattle.accepting.specs.declared.telling.Telling.{Telling}

abbrev pub found_by : Wording → (tells_stale : Bool) → List Key → List FoundEntry → List FoundEntry
found_by First tells_stale known packages = packages
found_by Second tells_stale known packages = by_baseline known [] (map (by_lines tells_stale) packages)

abbrev pub found_in : Telling → List FoundEntry → List FoundEntry
found_in telling = found_by telling.wording telling.tells_stale (baseline_keys telling.baseline.now)

-- the package of this path was asked for, where those of these paths were not
abbrev pub is_asked : (unasked : List (List ℕ)) → List ℕ → Bool
is_asked [] path = true
is_asked (one ∷ unasked) path = if bytes_eq one path then false else is_asked unasked path

abbrev pub unasked_of : Telling → List (List ℕ)
unasked_of telling = map string_bytes telling.unasked.now

-- those of the packages that were asked for
abbrev pub asked_among : (unasked : List (List ℕ)) → List FoundEntry → List FoundEntry
asked_among unasked = filter (λ p. is_asked unasked p.path)

-- what is told of packages that were judged
abbrev pub told_in : Telling → List FoundEntry → List FoundEntry
told_in telling packages = found_in telling (asked_among (unasked_of telling) packages)
