-- A package that has no rank imports one that has none, and this is a fault of the whole package.
use Rattle.std.proofs.Common.{◌≡◌, ℕ, ◌⊎◌, inl, inr, List, [], ◌∷◌, get_or, Contains, Option, Some, None, is_some, true, refl, sym, ap, ◌∙◌, subst, true≢false}
use Rattle.std.specs.Prelude.{slice_get}
use Rattle.meaning.proofs.Membership.{contains_nil, contains_here, contains_there, contains_cases}
use Rattle.imports.specs.Ranks.{Package, HasRank}
use Rattle.imports.specs.Settling.{given_imports}
use Rattle.imports.proofs.GivenImports.{table_imports, imports_table, imported_there}
use Rattle.report.specs.Entries.{Entry}
use Rattle.meaning_reports.specs.Loaded.{LoadedPackage, import_list}
use Rattle.meaning_reports.specs.WholeFaults.{IsWholeFault}
use Rattle.meaning_reports.proofs.ImportsOf.{has_rank, fault_of}
use Rattle.meaning_reports.proofs.RanksGiven.{HasOrder, has_order}

-- one of these has no rank, or each has one
module _ (rank : ℕ → Option ℕ) where
  abbrev Searched : List ℕ → Type 0
  Searched js = ((j : ℕ) × Contains js j × (rank j ≡ None)) ⊎ ((j : ℕ) → Contains js j → is_some (rank j) ≡ true)

  search : (js : List ℕ) → Searched js
  search [] = inr λ j h. absurd (contains_nil j h)
  search (j ∷ js) = by (rank j) refl (search js)
    where
      by : (o : Option ℕ) → rank j ≡ o → Searched js → Searched (j ∷ js)
      by None e rest = inl (j, contains_here j js, e)
      by (Some r) e (inl w) = inl (w.0, contains_there j w.0 js w.1, w.2)
      by (Some r) e (inr all) = inr λ k h. elim (contains_cases j k js h) [
        | inl same ↦ subst (λ (m : ℕ). is_some (rank m) ≡ true) same (ap is_some e)
        | inr later ↦ all k later
      ]

module _ (ps : List LoadedPackage) (i : ℕ) (p : LoadedPackage) (is_p : slice_get ps i ≡ Some p) where
  abbrev lists : List Package
  lists = import_list ps

  pub unranked_fault : (HasRank (import_list ps) i → ⊥) → (y : Entry) × IsWholeFault ps i y
  unranked_fault none = by (has_order lists)
    where
      by : HasOrder lists → (y : Entry) × IsWholeFault ps i y
      by order = elim (search order.rank (get_or (given_imports lists) i [])) [
        | inl w ↦
            let im = table_imports lists i w.0 w.1 in
            let within = imported_there lists i w.0 im in
            fault_of ps i p is_p w.0 none im λ rank.
            true≢false (sym ((order.is_order.ranks w.0).1 (within, rank)) ∙ ap is_some w.2)
        | inr all ↦ absurd (none λ j k. has_rank lists i j k λ m im below.
            below ((order.is_order.ranks m).0 (all m (imports_table lists i m im))).1)
      ]
