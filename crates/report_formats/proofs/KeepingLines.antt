-- The line of the fields in which a package keeps cancel functions, cut into what is put.
use Rattle.std.proofs.Common.{◌≡◌, ℕ, List, [], ◌∷◌, ◌++◌, flat_map, codes, refl, sym, ap, ◌∙◌}
use Rattle.std.specs.Borrow.{Bor}
use Rattle.std.specs.List.{concat}
use Rattle.std.proofs.lemmas.List.{append-nil}
use Rattle.report.specs.Entries.{texts_of}
use Rattle.report_formats.specs.ReportLines.{more_names, keeping_line}

-- a name behind another one, as its pieces are put
abbrev pub behind_comma : Bor (List ℕ) → List ℕ
behind_comma name = codes ", " ++ (name.now ++ [])

pub more_of : (names : List (Bor (List ℕ))) → more_names (texts_of names) ≡ flat_map behind_comma names
more_of [] = refl
more_of (n ∷ ns) =
    ap (λ t. (codes ", " ++ t) ++ more_names (texts_of ns)) (sym (append-nil n.now))
    ∙ ap (λ t. behind_comma n ++ t) (more_of ns)

abbrev pub line_front : List ℕ → List ℕ
line_front first = codes "keeping " ++ (first ++ [])

abbrev pub line_end : List ℕ → List ℕ
line_end path = concat (codes ": " ∷ path ∷ codes "\n" ∷ [])

pub line_parts : (path : List ℕ) (fields : List (List ℕ)) (first : List ℕ) (more : List (List ℕ)) → fields ≡ first ∷ more
    → keeping_line path fields ≡ line_front first ++ (more_names more ++ line_end path)
line_parts path fields first more are =
    rw are (ap (λ t. codes "keeping " ++ (t ++ (more_names more ++ line_end path))) (sym (append-nil first)))
