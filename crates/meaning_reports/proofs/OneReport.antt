-- Two reports of the same packages are equal. The tables of a package rely on those of what it imports, which have lower
-- ranks; a package without a rank has a fault of the whole package, so that its table is empty.
use Rattle.std.proofs.Common.{◌≡◌, ℕ, zero, suc, ◌<◌, inl, inr, Bool, true, false, if◌then◌else◌, List, [], ◌∷◌, length, Option, Some, None, is_some, refl, sym, ap, ◌∙◌, subst, arith, true≢false}
use Rattle.std.specs.Prelude.{slice_get}
use Rattle.std.proofs.lemmas.Option.{slice_get_within, slice_get_cases}
use Rattle.meaning.specs.Tracked.{Fields, each_field}
use Rattle.meaning.specs.Uses.{Seen}
use Rattle.meaning_packages.specs.CallsFlags.{Flags, FileWithCredits, AreMost}
use Rattle.imports.specs.Ranks.{Package}
use Rattle.imports.specs.Settling.{place_from}
use Rattle.imports.proofs.GivenImports.{first_there}
use Rattle.report.specs.Entries.{Entry}
use Rattle.meaning_reports.specs.Loaded.{LoadedPackage, PackageTable, Tables, no_table, is_imported, imported_tables, imported_paths, import_list, means_in, signatures_of, trees_of, seen_from, fields_by}
use Rattle.meaning_reports.specs.WholeFaults.{HasNoWholeFault}
use Rattle.meaning_reports.specs.PackageTables.{AreCredited, IsEmpty, FlagsRule, IsTableBy, empty, full, AreTablesBy, AreFlagsByPaths}
use Rattle.meaning_reports.specs.PackageReports.{Rules, AreFindingsBy, Said, AreFieldsToTell, of_no, of_yes, by_paths}
use Rattle.meaning_reports.specs.OneReport.{AreDetermined, OneReportBy, OneReport}
use Rattle.meaning_reports.proofs.OneAnswer.{one_list, one_most}
use Rattle.meaning_reports.proofs.EntryOrder.{one_order, one_order_of_texts}
use Rattle.meaning_reports.proofs.ImportsOf.{has_path, no_place, in_lists, given_in_lists, names_first, cannot_be_unranked}
use Rattle.meaning_reports.proofs.RanksGiven.{HasOrder, has_order}

pub nothing_known : (t : PackageTable) → IsEmpty t → t ≡ no_table
nothing_known t h = λ i. record {
  signatures = λ name. h.no_signature name i;
  calls = λ name k. h.no_flag name k i;
  is_told = h.not_told i;
}

both_empty : (t u : PackageTable) → IsEmpty t → IsEmpty u → t ≡ u
both_empty t u h k = nothing_known t h ∙ sym (nothing_known u k)

-- Tables by any rule by which what is known of a package's imports determines its flags

module _ (are_flags : FlagsRule) (determined : AreDetermined are_flags) (ps : List LoadedPackage) (one other : Tables)
    (i : ℕ) (p : LoadedPackage) (is : slice_get ps i ≡ Some p) where
  -- a package has one table by what is known of its imports
  pub one_table : (HasNoWholeFault ps i → imported_tables p one ≡ imported_tables p other) → (t u : PackageTable)
      → IsTableBy are_flags ps one i p t
      → IsTableBy are_flags ps other i p u
      → t ≡ u
  one_table same t u (empty x fault h) (empty y again k) = both_empty t u h k
  one_table same t u (empty x fault h) (full flags none its signatures calls told) = absurd (none x fault)
  one_table same t u (full flags none its signatures calls told) (empty x fault h) = absurd (none x fault)
  one_table same t u (full flags none its signatures calls told) (full more too_none others known kept told_too) =
      let same_flags = determined ps one other i p flags more is none (same none) its others in
      λ j. record {
        signatures = λ name. (signatures name ∙ sym (known name)) j;
        calls = λ name n. (calls name n ∙ (ap (λ (f : Flags). f name n) same_flags ∙ sym (kept name n))) j;
        is_told = (told ∙ sym told_too) j;
      }

module _ (are_flags : FlagsRule) (determined : AreDetermined are_flags) (declared : Tables) (ps : List LoadedPackage)
    (one other : Tables) (are : AreTablesBy are_flags declared ps one) (too : AreTablesBy are_flags declared ps other) where
  abbrev lists : List Package
  lists = import_list ps

  own_table : (i : ℕ) (p : LoadedPackage) → slice_get ps i ≡ Some p
      → (HasNoWholeFault ps i → imported_tables p one ≡ imported_tables p other)
      → one p.path ≡ other p.path
  own_table i p is same =
      one_table are_flags determined ps one other i p is same (one p.path) (other p.path) (are.of_package i p is)
      (too.of_package i p is)

  -- the table of a path: that of the first package that has it, or what is declared there
  at_path : (path : List ℕ)
      → ((k : ℕ) (q : LoadedPackage) → slice_get ps k ≡ Some q → q.path ≡ path → place_from path lists 0 ≡ Some k → one q.path ≡ other q.path)
      → one path ≡ other path
  at_path path same = by (place_from path lists 0) refl
    where
      by : (o : Option ℕ) → place_from path lists 0 ≡ o → one path ≡ other path
      by None e =
          let none = λ (k : ℕ) (q : LoadedPackage) (is : slice_get ps k ≡ Some q) (its : q.path ≡ path).
          no_place path lists 0 e k (record { path = q.path; imports = imported_paths q }) (in_lists ps k q is) its in
          are.of_others path none ∙ sym (too.of_others path none)
      by (Some k) e =
          let first = first_there lists path k e in
          let q = given_in_lists ps k first.found first.is_found in
          let its : q.0.path ≡ path = ap (λ (r : Package). r.path) q.2 ∙ first.same in
          subst (λ (r : List ℕ). one r ≡ other r) its (same k q.0 q.1 its e)

  module _ (order : HasOrder lists) where
    imported_same : (i r : ℕ) (p : LoadedPackage) → slice_get ps i ≡ Some p → order.rank i ≡ Some r
        → ((k q : ℕ) (below : LoadedPackage) → slice_get ps k ≡ Some below → order.rank k ≡ Some q → q < r → one below.path ≡ other below.path)
        → imported_tables p one ≡ imported_tables p other
    imported_same i r p is ranked lower = λ j path. by path (is_imported p path) refl j
      where
        by : (path : List ℕ) (b : Bool) → is_imported p path ≡ b
            → (if b then one path else no_table) ≡ (if b then other path else no_table)
        by path false e = refl
        by path true e = at_path path λ k q is_q its place.
            let im = names_first ps i p is path k (has_path (imported_paths p) path e) (first_there lists path k place) in
            let w = order.is_order.imports_first i k r im ranked in
            lower k w.0 q is_q w.1 w.2

    ranked_below : (n i r : ℕ) (p : LoadedPackage) → slice_get ps i ≡ Some p → order.rank i ≡ Some r → r < n
        → one p.path ≡ other p.path
    ranked_below zero i r p is ranked l = absurd (omega (arith, l))
    ranked_below (suc n) i r p is ranked l = own_table i p is λ none. imported_same i r p is ranked
        λ k q below is_below rank m. ranked_below n k q below is_below rank (omega (arith, l, m))

    has_its_rank : (i : ℕ) (p : LoadedPackage) → slice_get ps i ≡ Some p → HasNoWholeFault ps i
        → (r : ℕ) × (order.rank i ≡ Some r)
    has_its_rank i p is none = by (order.rank i) refl
      where
        by : (o : Option ℕ) → order.rank i ≡ o → (r : ℕ) × (order.rank i ≡ Some r)
        by (Some r) e = (r, e)
        by None e = absurd (cannot_be_unranked ps i p is none λ rank.
            let within = slice_get_within lists i (record { path = p.path; imports = imported_paths p }) (in_lists ps i p is) in
            true≢false (sym ((order.is_order.ranks i).1 (within, rank)) ∙ ap is_some e))

    of_package : (i : ℕ) (p : LoadedPackage) → slice_get ps i ≡ Some p → one p.path ≡ other p.path
    of_package i p is = own_table i p is λ none.
        let r = has_its_rank i p is none in
        imported_same i r.0 p is r.1 λ k q below is_below rank m. ranked_below (suc q) k q below is_below rank (omega arith)

  pub one_way : one ≡ other
  one_way = λ j path. at_path path (λ k q is its place. of_package (has_order lists) k q is) j

-- Reports

same_lists : {X : Type 0} (xs ys : List X) → length xs ≡ length ys
    → ((i : ℕ) (x y : X) → slice_get xs i ≡ Some x → slice_get ys i ≡ Some y → x ≡ y)
    → xs ≡ ys
same_lists [] [] long h = refl
same_lists [] (y ∷ ys) long h = absurd (omega (arith, long))
same_lists (x ∷ xs) [] long h = absurd (omega (arith, long))
same_lists (x ∷ xs) (y ∷ ys) long h =
    let first = h 0 x y refl refl in
    let rest = same_lists xs ys (omega (arith, long)) (λ i a b is that. h (suc i) a b is that) in
    λ i. first i ∷ rest i

module _ (rules : Rules) (ps : List LoadedPackage) (tables : Tables) (i : ℕ) where
  pub one_finding : (xs ys : List Entry) → AreFindingsBy rules ps tables i xs → AreFindingsBy rules ps tables i ys → xs ≡ ys
  one_finding xs ys h k = one_order xs ys h.in_order k.in_order λ z. (
    λ c. (k.each z).1 ((h.each z).0 c),
    λ c. (h.each z).1 ((k.each z).0 c),
  )

  pub one_telling : (p : LoadedPackage) (es : List Entry) (xs ys : List (List ℕ)) → AreFieldsToTell ps tables p es xs
      → AreFieldsToTell ps tables p es ys
      → xs ≡ ys
  one_telling p (e ∷ es) xs ys of_no of_no = refl
  one_telling p [] xs ys (of_yes h each) (of_yes k other) = one_order_of_texts xs ys h k λ z. (
    λ c. (other z).1 ((each z).0 c),
    λ c. (each z).1 ((other z).0 c),
  )

pub one_report_by : (rules : Rules) → AreDetermined rules.are_flags → OneReportBy rules
one_report_by rules determined ps one other h k = same_lists one other (h.is_as_long ∙ sym k.is_as_long) each
  where
    tables : h.tables ≡ k.tables
    tables = one_way rules.are_flags determined rules.declared ps h.tables k.tables h.are_tables k.are_tables

    said_of : (i : ℕ) (p : LoadedPackage) (x y : Said) → slice_get ps i ≡ Some p → slice_get one i ≡ Some x → slice_get other i ≡ Some y
        → x ≡ y
    said_of i p x y is here there =
        let a = h.of_package i p x is here in
        let b = k.of_package i p y is there in
        let paths : x.path ≡ y.path = a.is_path ∙ sym b.is_path in
        let its = subst (λ (t : Tables). AreFindingsBy rules ps t i x.entries) tables a.are_findings in
        let entries : x.entries ≡ y.entries =
        one_finding rules ps k.tables i x.entries y.entries its b.are_findings in
        let told = subst (λ (t : Tables). AreFieldsToTell ps t p x.entries x.keeping) tables a.are_fields in
        let too = subst (λ (es : List Entry). AreFieldsToTell ps k.tables p es x.keeping) entries told in
        let keeping : x.keeping ≡ y.keeping =
        one_telling rules ps k.tables i p y.entries x.keeping y.keeping too b.are_fields in
        let table : x.table ≡ y.table = a.is_table ∙ (ap (λ (t : Tables). t p.path) tables ∙ sym b.is_table) in
        λ j. record { path = paths j; entries = entries j; keeping = keeping j; table = table j }

    each : (i : ℕ) (x y : Said) → slice_get one i ≡ Some x → slice_get other i ≡ Some y → x ≡ y
    each i x y here there = elim (slice_get_cases ps i).1 [
      | inl w ↦ said_of i w.0 x y w.2 here there
      | inr past ↦
          let low : i < length one = slice_get_within one i x here in
          let long = h.is_as_long in
          let out = past.0 in
          absurd (omega (arith, low, long, out))
    ]

-- By paths

-- what the files of a package are seen with, by the fields that keep, and the tables of what it imports
abbrev pub seen_where : Fields → List LoadedPackage → LoadedPackage → Tables → List Seen
seen_where fields ps p known =
    seen_from (λ number. record {
      edition = p.edition;
      means = means_in ps p number;
      fields = fields;
      object_lefts = λ at. None;
      functions = signatures_of ps p;
      imported = λ path. (known path).signatures;
    }) 0 (trees_of p)

abbrev pub seen_by : List LoadedPackage → LoadedPackage → Tables → List Seen
seen_by ps p known = seen_where (fields_by p.edition (seen_where each_field ps p known)) ps p known

pub flags_by_paths : AreDetermined AreFlagsByPaths
flags_by_paths ps one other i p flags more is none same first second =
    let h = first.is_judged in
    let k = second.is_judged in
    let files = first.files in
    let others = second.files in
    let seen : seen_by ps p (imported_tables p one) ≡ seen_by ps p (imported_tables p other) = ap (seen_by ps p) same in
    let its = subst (λ (l : List Seen). AreCredited l files) seen h.are_files in
    let list = one_list (seen_by ps p (imported_tables p other)) files others its k.are_files in
    let most : AreMost others (λ path. (imported_tables p one path).calls) flags =
    subst (λ (l : List FileWithCredits). AreMost l (λ path. (imported_tables p one path).calls) flags) list h.are_flags in
    one_most others (λ path. (imported_tables p other path).calls) flags more
    (subst (λ (known : Tables). AreMost others (λ path. (known path).calls) flags) same most) k.are_flags

pub one_report : OneReport
one_report declared = one_report_by (by_paths declared) flags_by_paths
