-- Functions of which none gives a cancel function, and tables with a flag that says so.
use Rattle.std.proofs.Common.{◌≡◌, ℕ, Bool, true, false, if◌then◌else◌, List, [], ◌∷◌, Some, option_map, bytes_eq, refl, sym, ap, ◌∙◌, subst, arith}
use Rattle.std.specs.Prelude.{length, nat_lt}
use Rattle.std.specs.List.{list_any}
use Rattle.std.proofs.lemmas.Bool.{ltb-false, or_parts}
use Rattle.std.proofs.lemmas.Option.{none-some, same_Some}
use Rattle.meaning.specs.FunctionFacts.{FunctionFacts}
use Rattle.meaning_reports.specs.Loaded.{PackageTable}
use Rattle.silent_files.specs.SilentPackages.{GiveNone}
use Rattle.declared_tables.specs.declared.tables.PackageTable.{PackageTable as KeptTable}
use Rattle.declared_tables.specs.DeclaredTables.{table_view}
use Rattle.declared_tables.specs.MarkedGivers.{MarksGivers}
use Rattle.vetx_json.specs.KeptUnits.{FunctionEntry}
use Rattle.vetx_tables.specs.KeptParts.{is_giver}
use Rattle.vetx_tables.specs.KeptTables.{facts_again, function_in, results_by_position, table_again}

no_items : (xs : List ℕ) → nat_lt 0 (length xs) ≡ false → xs ≡ []
no_items [] e = refl
no_items (x ∷ xs) e = let none = ltb-false 0 (length (x ∷ xs)) e in absurd (omega (arith, none))

gives_nothing : (f : FunctionEntry) → is_giver f ≡ false → (facts_again f).gives ≡ []
gives_nothing f e =
    let parts = or_parts (nat_lt 0 (length f.facts.gives)) (nat_lt 0 (length f.facts.causes)) e in
    λ i. results_by_position (no_items f.facts.gives parts.0 i) (no_items f.facts.causes parts.1 i)

none_gives : (fs : List FunctionEntry) → list_any is_giver fs ≡ false → GiveNone (table_again fs).signatures
none_gives [] e name facts is = absurd (none-some facts is)
none_gives (f ∷ fs) e name facts is = by (bytes_eq f.facts.name name) is (none_gives fs parts.1 name facts)
  where
    parts : (is_giver f ≡ false) × (list_any is_giver fs ≡ false)
    parts = or_parts (is_giver f) (list_any is_giver fs) e

    by : (t : Bool) → option_map facts_again (if t then Some f else function_in fs name) ≡ Some facts
        → (option_map facts_again (function_in fs name) ≡ Some facts → facts.gives ≡ [])
        → facts.gives ≡ []
    by true here rest =
        ap (λ (g : FunctionFacts). g.gives) (sym (same_Some (facts_again f) facts here)) ∙ gives_nothing f parts.0
    by false there rest = rest there

-- a table of functions has its flag, where this says whether one of them gives
pub marked : (fs : List FunctionEntry) (t : KeptTable) → table_view t ≡ table_again fs
    → t.gives ≡ list_any is_giver fs
    → MarksGivers t
marked fs t same gives e =
    subst (λ (table : PackageTable). GiveNone table.signatures) (sym same) (none_gives fs (sym gives ∙ e))
