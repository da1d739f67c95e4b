-- The file of a numbered tree of a package.
use Rattle.std.proofs.Common.{◌≡◌, ℕ, suc, ◌+◌, inl, inr, List, [], ◌∷◌, Some, Contains, ap, ◌∙◌, arith}
use Rattle.std.specs.Prelude.{slice_get}
use Rattle.meaning.proofs.Membership.{contains_nil, contains_cases}
use Rattle.meaning_reports.specs.Loaded.{Reading, has_tree, has_text_fault, has_tree_fault, LoadedPackage, NumberedTree, trees_from, numbered_trees}

-- the tree of the reading at that place, where the first has the number n
pub record HasReading (n : ℕ) (rs : List Reading) (t : NumberedTree) : Type 0 where
  pub place : ℕ
  pub is_number : t.file ≡ n + place
  pub is_there : slice_get rs place ≡ Some (has_tree t.tree)

later_reading : (n : ℕ) (r : Reading) (rs : List Reading) (t : NumberedTree) → HasReading (n + 1) rs t → HasReading n (r ∷ rs) t
later_reading n r rs t h =
    let same = h.is_number in
    record { place = suc h.place; is_number = omega (arith, same); is_there = h.is_there }

pub has_reading : (n : ℕ) (rs : List Reading) (t : NumberedTree) → Contains (trees_from n rs) t → HasReading n rs t
has_reading n [] t h = absurd (contains_nil t h)
has_reading n (has_tree tree ∷ rs) t h = elim (contains_cases (record { file = n; tree = tree }) t (trees_from (n + 1) rs) h) [
  | inl same ↦
      let its : n ≡ t.file = ap (λ (x : NumberedTree). x.file) same in
      record { place = 0; is_number = omega (arith, its); is_there = ap (λ (x : NumberedTree). Some (has_tree x.tree)) same }
  | inr later ↦ later_reading n (has_tree tree) rs t (has_reading (n + 1) rs t later)
]
has_reading n (has_text_fault at why ∷ rs) t h = later_reading n (has_text_fault at why) rs t (has_reading (n + 1) rs t h)
has_reading n (has_tree_fault at why ∷ rs) t h = later_reading n (has_tree_fault at why) rs t (has_reading (n + 1) rs t h)

pub file_of : (p : LoadedPackage) (t : NumberedTree) → Contains (numbered_trees p) t → slice_get p.files t.file ≡ Some (has_tree t.tree)
file_of p t h =
    let w = has_reading 0 p.files t h in
    let same = w.is_number in
    let at : t.file ≡ w.place = omega (arith, same) in
    ap (slice_get p.files) at ∙ w.is_there
