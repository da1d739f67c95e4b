-- What is written to rows in memory.
use Rattle.std.proofs.Common.{◌≡◌, ℕ, ◌<◌, List, [], length, get_or, set, Result, Ok, Err, OnErr, ap, ◌∙◌, sym}
use Rattle.std.proofs.Math.Seq.{map-set_same}
use Rattle.std.proofs.lemmas.List.{map-set, get_or-map}
use Rattle.std.specs.declared.alloc.Global.{Global}
use Rattle.std.specs.declared.vec.Vec.{Vec as VecIn}
use Rattle.imports.specs.Views.{rows_view}

abbrev Vec : Type 0 → Type 0
Vec T = VecIn T Global

pub row_written : (rows : List (Vec ℕ)) (i : ℕ) (written : Vec ℕ) (items : List ℕ)
    → written.items ≡ items
    → rows_view (set rows i written) ≡ set (rows_view rows) i items
row_written rows i written items e = map-set (λ (r : Vec ℕ). r.items) rows i written ∙ ap (set (rows_view rows) i) e

pub row_read : (rows : List (Vec ℕ)) (i : ℕ) (row : Vec ℕ)
    → i < length rows
    → row ≡ get_or rows i row
    → row.items ≡ get_or (rows_view rows) i []
row_read rows i row l e = ap (λ (r : Vec ℕ). r.items) e ∙ sym (get_or-map (λ (r : Vec ℕ). r.items) rows i row [] l)

-- a row of the same items takes the place of one
pub row_kept : {T E : Type 0} (r : Result T E) (rows : List (Vec ℕ)) (i : ℕ) (row written : Vec ℕ)
    → row ≡ get_or rows i row
    → written.items ≡ row.items
    → OnErr r (rows_view (set rows i written) ≡ rows_view rows)
row_kept (Ok value) rows i row written e same = tt
row_kept (Err error) rows i row written e same =
    map-set_same (λ (r : Vec ℕ). r.items) rows i written row (same ∙ ap (λ (r : Vec ℕ). r.items) e)
