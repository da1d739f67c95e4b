-- Functions of which none is declared to give a cancel function, and tables with a flag that says so.
use Rattle.std.proofs.Common.{◌≡◌, ℕ, Bool, true, false, if◌then◌else◌, List, [], ◌∷◌, ◌++◌, Option, Some, None, option_map, bytes_eq, refl, sym, ap, ◌∙◌, subst, arith}
use Rattle.std.specs.Prelude.{length, nat_lt}
use Rattle.std.specs.List.{list_any}
use Rattle.std.specs.Option.{option_or}
use Rattle.std.proofs.lemmas.Bool.{ltb-false, or_parts}
use Rattle.std.proofs.lemmas.Option.{none-some, same_Some}
use Rattle.meaning.specs.FunctionFacts.{CancelType, plain, with_cause, FunctionFacts}
use Rattle.meaning_reports.specs.Loaded.{PackageTable}
use Rattle.declared_json.specs.DeclaredPackages.{FunctionEntry}
use Rattle.silent_files.specs.SilentPackages.{GiveNone}
use Rattle.declared_tables.specs.declared.tables.PackageTable.{PackageTable as KeptTable}
use Rattle.declared_tables.specs.DeclaredTables.{facts_of, function_in, results_of, table_of, table_view}
use Rattle.declared_tables.specs.MarkedGivers.{is_giver, MarksGivers}

no_results : (t : CancelType) (positions : List ℕ) → nat_lt 0 (length positions) ≡ false → results_of t positions ≡ []
no_results t [] e = refl
no_results t (n ∷ ns) e = let none = ltb-false 0 (length (n ∷ ns)) e in absurd (omega (arith, none))

gives_nothing : (f : FunctionEntry) → is_giver f ≡ false → (facts_of f).gives ≡ []
gives_nothing f e =
    let parts = or_parts (nat_lt 0 (length f.facts.gives)) (nat_lt 0 (length f.facts.causes)) e in
    λ i. no_results plain f.facts.gives parts.0 i ++ no_results with_cause f.facts.causes parts.1 i

none_gives : (fs : List FunctionEntry) → list_any is_giver fs ≡ false → GiveNone (table_of fs).signatures
none_gives [] e name facts is = absurd (none-some facts is)
none_gives (f ∷ fs) e name facts is = by (bytes_eq f.facts.name name) is (none_gives fs parts.1 name facts)
  where
    parts : (is_giver f ≡ false) × (list_any is_giver fs ≡ false)
    parts = or_parts (is_giver f) (list_any is_giver fs) e

    by : (t : Bool) → option_map facts_of (if t then Some f else function_in fs name) ≡ Some facts
        → (option_map facts_of (function_in fs name) ≡ Some facts → facts.gives ≡ [])
        → facts.gives ≡ []
    by true here rest =
        ap (λ (g : FunctionFacts). g.gives) (sym (same_Some (facts_of f) facts here)) ∙ gives_nothing f parts.0
    by false there rest = rest there

-- one table more, where there was none of its path, or as if there was
pub marked_next : (known : Option KeptTable) (here : Bool) (table t : KeptTable)
    → option_or known (if here then Some table else None) ≡ Some t
    → (known ≡ Some t → MarksGivers t)
    → MarksGivers table
    → MarksGivers t
marked_next (Some k) here table t is old new = old is
marked_next None true table t is old new = subst MarksGivers (same_Some table t is) new
marked_next None false table t is old new = absurd (none-some t is)

-- a table of functions has its flag, where this says whether one of them is declared to give
pub marked : (fs : List FunctionEntry) (t : KeptTable) → table_view t ≡ table_of fs
    → t.gives ≡ list_any is_giver fs
    → MarksGivers t
marked fs t same gives e =
    subst (λ (table : PackageTable). GiveNone table.signatures) (sym same) (none_gives fs (sym gives ∙ e))
