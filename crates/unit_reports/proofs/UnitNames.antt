-- The name in a package clause is not empty: in the tree of a text a token writes it that takes bytes.
use Rattle.std.proofs.Common.{◌≡◌, ℕ, ◌<◌, ◌≤◌, List, [], ◌∷◌, length, take, drop, Some, Contains, refl, sym, ap, ◌∙◌, subst, arith}
use Rattle.std.specs.Prelude.{◌-◌, slice_range}
use Rattle.std.proofs.lemmas.List.{length-drop, length-take-le}
use Rattle.lexer.specs.declared.token.Token.{Token}
use Rattle.meaning.proofs.Membership.{contains_here, contains_there}
use Rattle.meaning.specs.Cursor.{first_start}
use Rattle.meaning.specs.TreeOfText.{IsTreeOf}
use Rattle.meaning_reports.specs.Loaded.{name_in}
use Rattle.meaning_reports.specs.MeantImports.{IsTreeButForImports}
use Rattle.meaning_runs.proofs.BodyOffsetsTokens.{Ordered, first_ordered, tokens_ordered, tokens_under}
use Rattle.unit_reports.specs.Units.{name_if_any, name_or_empty}
use Rattle.tree.specs.Syntax.{SourceFile}
use Rattle.tree.specs.declared.edition.Edition.{Edition}

some_bytes : (name : List ℕ) → 0 < length name → name_if_any name ≡ Some name
some_bytes [] h = absurd (omega (arith, h))
some_bytes (b ∷ bs) h = refl

some_range : (text : List ℕ) (start end : ℕ) → start < end → end ≤ length text → 0 < length (slice_range text start end)
some_range text start end some within =
    let left : length (drop start text) ≡ length text - start = length-drop start text in
    let taken : length (take (end - start) (drop start text)) ≡ end - start =
    length-take-le (end - start) (drop start text) (omega (arith, some, within, left)) in
    omega (arith, some, taken)

clause_named : (edition : Edition) (text : List ℕ) (tree : SourceFile) → IsTreeOf edition text tree
    → name_if_any tree.package_name.text ≡ Some tree.package_name.text
clause_named edition text tree t =
    let clause = t.spelled.0 in
    let keyword = clause.1 in
    let name = clause.2.1.0 in
    let first : Token = record { kind = _; start = keyword.start; end = clause.0.end } in
    let second : Token = record { kind = _; start = name.0.start; end = clause.2.0.end } in
    let ordered = first_ordered 0 first clause.0.left (subst (Ordered 0) keyword.taken (tokens_ordered text t.tokens t.cut)) in
    let takes = (first_ordered first.end second clause.2.0.left (subst (Ordered first.end) name.0.taken ordered.1)).0.takes refl in
    let among : Contains t.tokens second =
    subst (λ (ts : List Token). Contains ts second) (sym keyword.taken)
    (contains_there first second clause.0.left
    (subst (λ (ts : List Token). Contains ts second) (sym name.0.taken) (contains_here second clause.2.0.left))) in
    let within = tokens_under text t.tokens t.cut second among in
    let starts : first_start clause.0.end clause.0.left ≡ name.0.start = ap (first_start clause.0.end) name.0.taken in
    let written : tree.package_name.text ≡ slice_range text name.0.start clause.2.0.end =
    name.1 ∙ ap (λ n. slice_range text n clause.2.0.end) starts in
    some_bytes tree.package_name.text
    (subst (λ (bytes : List ℕ). 0 < length bytes) (sym written)
    (some_range text name.0.start clause.2.0.end takes within))

-- of trees of texts the name that is kept tells whether there is one
pub named_again : (edition : Edition) (trees : List SourceFile)
    → ((tree : SourceFile) → Contains trees tree → (text : List ℕ) × IsTreeButForImports edition text tree)
    → name_if_any (name_or_empty (name_in trees)) ≡ name_in trees
named_again edition [] texts = refl
named_again edition (tree ∷ trees) texts =
    let t = texts tree (contains_here tree trees) in
    subst (λ (file : SourceFile). name_if_any file.package_name.text ≡ Some file.package_name.text) t.1.same
    (clause_named edition t.0 t.1.written t.1.is_tree)
