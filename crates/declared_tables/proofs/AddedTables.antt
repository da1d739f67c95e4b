-- Tables of packages, added one by one: the first package of a path counts.
use Rattle.std.proofs.Common.{◌≡◌, ℕ, ◌+◌, ◌<◌, Bool, true, false, if◌then◌else◌, List, drop, get_or, length, map, Option, Some, None, option_map, bytes_eq, refl, sym, ap, ◌∙◌}
use Rattle.meaning.specs.OuterBlocks.{or_else}
use Rattle.meaning_reports.specs.Loaded.{PackageTable}
use Rattle.first_values.specs.ValuesByName.{only_at}
use Rattle.names.proofs.Adding.{or_else-none}
use Rattle.declared_json.specs.declared.outside.DeclaredPackage.{DeclaredPackage}
use Rattle.declared_json.specs.DeclaredPackages.{FunctionEntry, package_of, table_at}
use Rattle.declared_tables.specs.declared.tables.PackageTable.{PackageTable as KeptTable}
use Rattle.declared_tables.specs.DeclaredTables.{table_declared, table_if_any, table_of, table_view}
use Rattle.declared_tables.proofs.AddedCalls.{item_next}

table_step : {A B : Type 0} (g : A → B) (known : Option B) (t : Bool) (x : A) (rest : Option A)
    → or_else (or_else known (if t then Some (g x) else None)) (option_map g rest)
    ≡ or_else known (option_map g (if t then Some x else rest))
table_step g (Some b) t x rest = refl
table_step g None true x rest = refl
table_step g None false x rest = refl

-- one more was added
pub table_next : (packages : List DeclaredPackage) (i : ℕ) (x : DeclaredPackage) → i < length packages
    → x ≡ get_or packages i x
    → (path : List ℕ) (now after whole : Option PackageTable)
    → after ≡ or_else now (only_at (package_of x).path (table_of (package_of x).functions) path)
    → or_else now (option_map table_of (table_at path (map package_of (drop i packages)))) ≡ whole
    → or_else after (option_map table_of (table_at path (map package_of (drop (i + 1) packages)))) ≡ whole
table_next packages i x within is path now after whole added so_far =
    let p = package_of x in
    let rest = map package_of (drop (i + 1) packages) in
    ap (λ o. or_else o (option_map table_of (table_at path rest))) added
    ∙ (table_step table_of now (bytes_eq p.path path) p.functions (table_at path rest)
    ∙ (ap (λ xs. or_else now (option_map table_of (table_at path (map package_of xs)))) (sym (item_next packages i x within is))
    ∙ so_far))

-- none is left
pub table_last : (now : Option KeptTable) (rest : Option PackageTable) (whole : Option (List FunctionEntry))
    → rest ≡ None
    → or_else (option_map table_view now) rest ≡ option_map table_of whole
    → table_if_any now ≡ table_declared whole
table_last now rest whole none so_far =
    by now whole (sym (or_else-none (option_map table_view now)) ∙ (ap (or_else (option_map table_view now)) (sym none) ∙ so_far))
  where
    or_no_table : (o : Option PackageTable) → PackageTable
    or_no_table None = table_declared None
    or_no_table (Some t) = t

    kept : (o : Option KeptTable) → table_if_any o ≡ or_no_table (option_map table_view o)
    kept None = refl
    kept (Some t) = refl

    meant : (o : Option (List FunctionEntry)) → or_no_table (option_map table_of o) ≡ table_declared o
    meant None = refl
    meant (Some fs) = refl

    by : (o : Option KeptTable) (w : Option (List FunctionEntry)) → option_map table_view o ≡ option_map table_of w
        → table_if_any o ≡ table_declared w
    by o w same = kept o ∙ (ap or_no_table same ∙ meant w)
