-- The imports and the functions of the tree of a text have their places in the text, and so have the faults of whole
-- packages.
use Rattle.std.proofs.Common.{◌≡◌, ℕ, suc, ◌+◌, ◌≤◌, inl, inr, Bool, true, false, List, [], ◌∷◌, map, length, Option, Some, None, Contains, option_map, refl, sym, ap, ◌∙◌, subst, arith}
use Rattle.std.specs.Prelude.{slice_get, if◌then◌else◌}
use Rattle.std.proofs.lemmas.Option.{same_Some, slice_get_within, get_or_from_slice_get, slice_get-map}
use Rattle.std.proofs.lemmas.List.Elements.{Contains-append_cases}
use Rattle.lexer.specs.declared.token.Token.{Token}
use Rattle.lexer.specs.declared.token.TokenKind.{TokenKind}
use Rattle.tree.specs.Syntax.{Identifier, ImportSpec, ImportDeclaration, Function, TopLevelDeclaration, function_declaration, general_declaration, SourceFile}
use Rattle.meaning.specs.Mentions.{Mark}
use Rattle.meaning.specs.OuterBlocks.{specs_of, can_be_meant}
use Rattle.meaning.specs.TwoFunctions.{FunctionName, function_names_in, function_names_from}
use Rattle.meaning.specs.Cursor.{GoText, read_in, Cursor, Rule, chosen, token, string_token, start_at, first_start}
use Rattle.meaning.specs.Grammar.{in_parentheses, import_name, SpellsImportSpec, SpellsImportSpecs, SpellsOneImport, SpellsImports, SpellsFunction, SpellsTopLevel, SpellsTopLevels}
use Rattle.tree.specs.declared.edition.Edition.{Edition}
use Rattle.meaning.specs.TreeOfText.{first_place, IsTreeOf}
use Rattle.meaning.proofs.Membership.{contains_nil, contains_cases, contains_here, contains_there}
use Rattle.report.specs.declared.codes.DiagnosticCode.{DiagnosticCode}
use Rattle.report.specs.Entries.{Entry}
use Rattle.meaning_reports.specs.MeantImports.{Meant, meant_import, with_meant_imports, IsTreeButForImports}
use Rattle.meaning_reports.specs.Loaded.{Reading, has_tree, has_text_fault, has_tree_fault, LoadedPackage, NumberedTree, Tables, numbered_trees, trees_of, imports_of}
use Rattle.meaning_reports.specs.WholeFaults.{ImportsAt, import_entry, IsWholeFault, has_no_tokens, has_no_tree, has_two_functions, has_no_rank}
use Rattle.meaning_reports.specs.DotImports.{IsLeftOut, dot_entry}
use Rattle.meaning_reports.proofs.MeantImports.{specs_meant}
use Rattle.meaning_reports.proofs.NumberedTrees.{file_of}
use Rattle.meaning_runs.specs.FilePlaces.{Fits, AreTextsOf, StandsIn, WholePlacesLieInFiles}
use Rattle.meaning_runs.proofs.AskedSites.{CodeSite}
use Rattle.meaning_runs.proofs.SitesWithin.{no_site, from_site}
use Rattle.meaning_runs.proofs.BodyOffsetsTokens.{Ordered, first_ordered, tokens_ordered, AreUnder, tokens_under}
use Rattle.meaning_runs.proofs.BodyOffsetsRules.{Gives, gives_token, gives_semicolon, gives_identifier, first_under}
use Rattle.meaning_runs.proofs.BodyOffsetsParts.{gives_import_name}
use Rattle.meaning_runs.proofs.BodyOffsets.{import_spec, imports, receiver, top_level}
use Rattle.meaning_reports.proofs.CountedPackages.{second_among}

-- Places among the tokens of a text

-- the name begins there, if there is one
abbrev NameIn : ℕ → Option Identifier → Type 0
NameIn n None = Unit {0}
NameIn n (Some name) = name.span.start ≤ n

-- the tokens that are left stand in order, and end at the offset or before
record IsIn (n : ℕ) (place : Cursor) : Type 0 where
  lo : ℕ
  ordered : Ordered lo place.left
  low : lo ≤ n
  under : AreUnder n place.left

module _ (n : ℕ) where
  goes : {takes : Bool} {asks : List CodeSite} {ms : List Mark} {rule : Rule} → Gives takes no_site asks ms rule
      → (from to : Cursor) → IsIn n from → rule from to
      → IsIn n to
  goes h from to k s =
      let a = h from to k.lo tt k.ordered s in
      let b = a.bounded n k.low k.under in
      record { lo = a.hi; ordered = a.left; low = b.0; under = b.1 }

  goes_from : {takes : Bool} {asks : List CodeSite} {ms : List Mark} {rule : Rule} → Gives takes (from_site 0) asks ms rule
      → (from to : Cursor) → IsIn n from → rule from to
      → IsIn n to
  goes_from h from to k s =
      let a = h from to k.lo (omega arith) k.ordered s in
      let b = a.bounded n k.low k.under in
      record { lo = a.hi; ordered = a.left; low = b.0; under = b.1 }

  begins_in : (kind : TokenKind) (from to : Cursor) → IsIn n from → token kind from to → start_at from ≤ n
  begins_in kind from to k t =
      let first : Token = record { kind = kind; start = t.start; end = to.end } in
      let ends = (first_ordered k.lo first to.left (subst (λ (l : List Token). Ordered k.lo l) t.taken k.ordered)).0.ends in
      let under = (first_under n first to.left (subst (AreUnder n) t.taken k.under)).0 in
      let here : start_at from ≡ t.start = ap (λ (l : List Token). first_start from.end l) t.taken in
      omega (arith, ends, under, here)

  name_begins_in : (text : GoText) (o : Option Identifier) (from to : Cursor) → IsIn n from → import_name text o from to
      → NameIn n o
  name_begins_in text None from to k s = tt
  name_begins_in text (Some name) from to k (inl s) =
      let low = begins_in _ from to k s.0.0 in
      let same = s.1 in
      omega (arith, low, same)
  name_begins_in text (Some name) from to k (inr s) =
      let low = begins_in _ from to k s.1.1.0 in
      let same = s.1.1.1 in
      omega (arith, low, same)

  string_begins_in : (from to : Cursor) → IsIn n from → string_token from to → start_at from ≤ n
  string_begins_in from to k (inl t) = begins_in _ from to k t
  string_begins_in from to k (inr t) = begins_in _ from to k t

  module _ (text : GoText) where
    -- Imports

    -- its path stands there, and so does its name
    abbrev SpecIn : ImportSpec → Type 0
    SpecIn i = (i.path_span.start ≤ n) × NameIn n i.name

    spec_in : (i : ImportSpec) (from to : Cursor) → IsIn n from → SpellsImportSpec text i from to → SpecIn i
    spec_in i from to k s =
        let opened = s.1.0 in
        let here = goes (gives_import_name text i.name) from opened.0 k opened.1 in
        let low = string_begins_in opened.0 to here opened.2.0 in
        let same = opened.2.1 in
        (omega (arith, low, same), name_begins_in text i.name from opened.0 k opened.1)

    specs_in : (is : List ImportSpec) (from to : Cursor) → IsIn n from → SpellsImportSpecs text is from to
        → (i : ImportSpec) → Contains is i
        → SpecIn i
    specs_in [] from to k s i h = absurd (contains_nil i h)
    specs_in (x ∷ is) from to k s i h = elim (contains_cases x i is h) [
      | inl same ↦ subst (λ (y : ImportSpec). SpecIn y) same (spec_in x from s.0 k s.1)
      | inr later ↦
          let behind = goes (import_spec text x) from s.0 k s.1 in
          let next = goes gives_semicolon s.0 s.2.0 behind s.2.1 in
          specs_in is s.2.0 to next s.2.2 i later
    ]

    one_in : (is : List ImportSpec) (from to : Cursor) → IsIn n from → SpellsOneImport text is from to
        → (i : ImportSpec) → Contains is i
        → SpecIn i
    one_in [] from to k s i h = absurd (contains_nil i h)
    one_in (x ∷ []) from to k s i h = elim (contains_cases x i [] h) [
      | inl same ↦ subst (λ (y : ImportSpec). SpecIn y) same (spec_in x from to k s)
      | inr none ↦ absurd (contains_nil i none)
    ]
    one_in (x ∷ y ∷ is) from to k s i h = absurd s

    group_in : (b : Bool) (is : List ImportSpec) (from to : Cursor) → IsIn n from
        → chosen b (in_parentheses (SpellsImportSpecs text is)) (SpellsOneImport text is) from to
        → (i : ImportSpec) → Contains is i
        → SpecIn i
    group_in true is from to k s i h =
        let inside = goes (gives_token _) from s.0 k s.1 in specs_in is s.0 s.2.0 inside s.2.1 i h
    group_in false is from to k s i h = one_in is from to k s i h

    imports_in : (ds : List ImportDeclaration) (from to : Cursor) → IsIn n from → SpellsImports text ds from to
        → (i : ImportSpec) → Contains (specs_of ds) i
        → SpecIn i
    imports_in [] from to k s i h = absurd (contains_nil i h)
    imports_in (d ∷ ds) from to k s i h =
        let first = s.1.0 in
        let inside = goes (gives_token _) from first.0 k first.1 in
        elim (Contains-append_cases d.specs (specs_of ds) i h) [
          | inl own ↦ group_in d.is_grouped d.specs first.0 s.0 inside first.2 i own
          | inr later ↦
              let rest = goes (imports text (d ∷ [])) from s.2.0 k (s.0, s.1, (s.2.0, s.2.1, refl)) in
              imports_in ds s.2.0 to rest s.2.2 i later
        ]

    -- Functions

    name_in : (f : Function) (from to : Cursor) → IsIn n from → SpellsFunction text f from to → f.name.span.start ≤ n
    name_in f from to k s =
        let first = s.0 in
        let behind = goes (gives_token _) from first.0 k first.1 in
        let received = first.2 in
        let here = goes_from (receiver text 0 f.receiver) first.0 received.0 behind received.1 in
        let named = received.2.1 in
        let low = begins_in _ received.0 received.2.0 here named.0.0 in
        let same = named.1 in
        omega (arith, low, same)

    functions_in : (ds : List TopLevelDeclaration) (from to : Cursor) → IsIn n from → SpellsTopLevels text ds from to
        → (f : Function) → Contains ds (function_declaration f)
        → f.name.span.start ≤ n
    functions_in [] from to k s f h = absurd (contains_nil (function_declaration f) h)
    functions_in (d ∷ ds) from to k s f h = elim (contains_cases d (function_declaration f) ds h) [
      | inl same ↦ name_in f from s.0 k (of_it d same s.1)
      | inr later ↦
          let behind = goes (top_level text d) from s.0 k s.1 in
          let next = goes gives_semicolon s.0 s.2.0 behind s.2.1 in
          functions_in ds s.2.0 to next s.2.2 f later
    ]
      where
        of_it : (e : TopLevelDeclaration) → e ≡ function_declaration f → SpellsTopLevel text e from s.0 → SpellsFunction text f from s.0
        of_it e same t = subst (λ (x : TopLevelDeclaration). SpellsTopLevel text x from s.0) same t

-- what is named in the tree of a text
record LiesIn (text : List ℕ) (tree : SourceFile) : Type 0 where
  imports : (i : ImportSpec) → Contains (imports_of tree) i → i.path_span.start ≤ length text
  names : (i : ImportSpec) (name : Identifier) → Contains (imports_of tree) i → i.name ≡ Some name → name.span.start ≤ length text
  functions : (f : Function) → Contains tree.declarations (function_declaration f) → f.name.span.start ≤ length text

lies_as_written : (edition : Edition) (text : List ℕ) (tree : SourceFile) → IsTreeOf edition text tree → LiesIn text tree
lies_as_written edition bytes tree t =
    let n = length bytes in
    let text : GoText = read_in edition bytes in
    let start : IsIn n (first_place t.tokens) = record {
      lo = 0;
      ordered = tokens_ordered bytes t.tokens t.cut;
      low = omega arith;
      under = tokens_under bytes t.tokens t.cut;
    } in
    let s = t.spelled.0 in
    let behind = goes n (gives_token _) (first_place t.tokens) s.0 start s.1 in
    let named = goes n (gives_identifier text tree.package_name) s.0 s.2.0 behind s.2.1 in
    let first = goes n gives_semicolon s.2.0 s.2.2.0 named s.2.2.1 in
    let later = goes n (imports text tree.imports) s.2.2.0 s.2.2.2.0 first s.2.2.2.1 in
    record {
      imports = λ i among. (imports_in n text tree.imports s.2.2.0 s.2.2.2.0 first s.2.2.2.1 i among).0;
      names = λ i name among is.
          subst (NameIn n) is (imports_in n text tree.imports s.2.2.0 s.2.2.2.0 first s.2.2.2.1 i among).1;
      functions = functions_in n text tree.declarations s.2.2.2.0 t.last later s.2.2.2.2;
    }

-- what is said of each import, and doesn't depend on its path, is said of those that are meant
of_each_meant : (P : ImportSpec → Type 0) (meant : Meant) → ((s : ImportSpec) → P s → P (meant_import meant s))
    → (ss : List ImportSpec) → ((i : ImportSpec) → Contains ss i → P i)
    → (i : ImportSpec) → Contains (map (meant_import meant) ss) i
    → P i
of_each_meant P meant stays [] all i h = absurd (contains_nil i h)
of_each_meant P meant stays (s ∷ ss) all i h = elim (contains_cases (meant_import meant s) i (map (meant_import meant) ss) h) [
  | inl same ↦ subst P same (stays s (all s (contains_here s ss)))
  | inr later ↦ of_each_meant P meant stays ss (λ j there. all j (contains_there s j ss there)) i later
]

lies_meant : (text : List ℕ) (meant : Meant) (tree : SourceFile) → LiesIn text tree → LiesIn text (with_meant_imports meant tree)
lies_meant text meant tree l =
    let there = λ (i : ImportSpec) (among : Contains (imports_of (with_meant_imports meant tree)) i).
    subst (λ (ss : List ImportSpec). Contains ss i) (specs_meant meant tree.imports) among in
    record {
      imports = λ i among.
          of_each_meant (λ s. s.path_span.start ≤ length text) meant (λ s low. low) (imports_of tree) l.imports i (there i among);
      names = λ i name among is.
          of_each_meant (λ s. (n : Identifier) → s.name ≡ Some n → n.span.start ≤ length text) meant (λ s low. low)
          (imports_of tree) (λ s k n e. l.names s n k e) i (there i among) name is;
      functions = l.functions;
    }

lies_in : (edition : Edition) (text : List ℕ) (tree : SourceFile) → IsTreeButForImports edition text tree → LiesIn text tree
lies_in edition text tree t =
    subst (LiesIn text) t.same (lies_meant text t.meant t.written (lies_as_written edition text t.written t.is_tree))

-- The files of a package

-- a function of that name
record IsNamedIn (ds : List TopLevelDeclaration) (name : Identifier) : Type 0 where
  function : Function
  is_there : Contains ds (function_declaration function)
  same : function.name ≡ name

named_in : (n : ℕ) (ds : List TopLevelDeclaration) (e : FunctionName) → Contains (function_names_in n ds) e
    → (e.file ≡ n) × IsNamedIn ds e.name
named_in n [] e h = absurd (contains_nil e h)
named_in n (general_declaration d ∷ ds) e h =
    let w = named_in n ds e h in
    (w.0, record { function = w.1.function; is_there = contains_there (general_declaration d) _ ds w.1.is_there; same = w.1.same })
named_in n (function_declaration f ∷ ds) e h = by (can_be_meant f) h (named_in n ds e)
  where
    later : (e.file ≡ n) × IsNamedIn ds e.name → (e.file ≡ n) × IsNamedIn (function_declaration f ∷ ds) e.name
    later w = (w.0, record { function = w.1.function; is_there = contains_there (function_declaration f) _ ds w.1.is_there; same = w.1.same })

    by : (b : Bool) → Contains (if b then record { file = n; name = f.name } ∷ function_names_in n ds else function_names_in n ds) e
        → (Contains (function_names_in n ds) e → (e.file ≡ n) × IsNamedIn ds e.name)
        → (e.file ≡ n) × IsNamedIn (function_declaration f ∷ ds) e.name
    by false k go = later (go k)
    by true k go = elim (contains_cases (record { file = n; name = f.name }) e (function_names_in n ds) k) [
      | inl same ↦ (
        sym (ap (λ (x : FunctionName). x.file) same),
        record { function = f; is_there = contains_here (function_declaration f) ds; same = ap (λ (x : FunctionName). x.name) same },
      )
      | inr r ↦ later (go r)
    ]

record IsNamedAmong (n : ℕ) (trees : List SourceFile) (e : FunctionName) : Type 0 where
  place : ℕ
  tree : SourceFile
  is_place : e.file ≡ n + place
  is_tree : slice_get trees place ≡ Some tree
  named : IsNamedIn tree.declarations e.name

named_among : (n : ℕ) (trees : List SourceFile) (e : FunctionName) → Contains (function_names_from n trees) e → IsNamedAmong n trees e
named_among n [] e h = absurd (contains_nil e h)
named_among n (tree ∷ trees) e h =
    elim (Contains-append_cases (function_names_in n tree.declarations) (function_names_from (n + 1) trees) e h) [
      | inl own ↦
          let w = named_in n tree.declarations e own in
          let at = w.0 in
          record { place = 0; tree = tree; is_place = omega (arith, at); is_tree = refl; named = w.1 }
      | inr later ↦
          let w = named_among (n + 1) trees e later in
          let at = w.is_place in
          record { place = suc w.place; tree = w.tree; is_place = omega (arith, at); is_tree = w.is_tree; named = w.named }
    ]

-- Entries

module _ (ps : List LoadedPackage) (i : ℕ) (p : LoadedPackage) (texts : List (List ℕ)) (is : slice_get ps i ≡ Some p) (are : AreTextsOf texts p) where
  text_of : (q : LoadedPackage) (n : ℕ) (file : Reading) → slice_get ps i ≡ Some q → slice_get q.files n ≡ Some file
      → (text : List ℕ) × (slice_get texts n ≡ Some text) × Fits p.edition text file
  text_of q n file that there =
      are.each n file (subst (λ (r : LoadedPackage). slice_get r.files n ≡ Some file) (same_Some q p (sym that ∙ is)) there)

  import_in : (j file : ℕ) (spec : ImportSpec) (code : DiagnosticCode) → ImportsAt ps i j file spec → StandsIn texts (import_entry file spec code)
  import_in j file spec code im =
      let there = ap (slice_get im.importer.files) (sym im.is_file) ∙ file_of im.importer im.tree im.is_tree in
      let w = text_of im.importer file (has_tree im.tree.tree) im.is_importer there in
      record { text = w.0; is_file = w.1; within = (lies_in p.edition w.0 im.tree.tree w.2).imports spec im.is_spec }

  pub dot_in : (tables : Tables) (file : ℕ) (dot : Identifier) → IsLeftOut ps tables i file dot → StandsIn texts (dot_entry file dot)
  dot_in tables file dot h =
      let there = ap (slice_get h.importer.files) (sym h.is_file) ∙ file_of h.importer h.tree h.is_tree in
      let w = text_of h.importer file (has_tree h.tree.tree) h.is_importer there in
      record { text = w.0; is_file = w.1; within = (lies_in p.edition w.0 h.tree.tree w.2).names h.spec dot h.is_spec h.is_its }

  whole_in : (x : Entry) → IsWholeFault ps i x → StandsIn texts x
  whole_in x (has_no_tokens q file at why that there) =
      let w = text_of q file (has_text_fault at why) that there in record { text = w.0; is_file = w.1; within = w.2 }
  whole_in x (has_no_tree q file at why that there) =
      let w = text_of q file (has_tree_fault at why) that there in record { text = w.0; is_file = w.1; within = w.2 }
  whole_in x (has_two_functions q f tree that second there) =
      let among : Contains (numbered_trees q) tree =
      (f.file, slice_get_within (numbered_trees q) f.file tree there, get_or_from_slice_get (numbered_trees q) f.file tree tree there) in
      let w = text_of q tree.file (has_tree tree.tree) that (file_of q tree among) in
      let named = named_among 0 (trees_of q) f (second_among [] (function_names_from 0 (trees_of q)) f second) in
      let at = named.is_place in
      let place : f.file ≡ named.place = omega (arith, at) in
      let trees : slice_get (trees_of q) f.file ≡ Some tree.tree =
      slice_get-map (λ (t : NumberedTree). t.tree) (numbered_trees q) f.file ∙ ap (option_map (λ (t : NumberedTree). t.tree)) there in
      let same : named.tree ≡ tree.tree = same_Some named.tree tree.tree (sym named.is_tree ∙ (ap (slice_get (trees_of q)) (sym place) ∙ trees)) in
      let function = subst (λ (t : SourceFile). IsNamedIn t.declarations f.name) same named.named in
      record {
        text = w.0;
        is_file = w.1;
        within = subst (λ (name : Identifier). name.span.start ≤ length w.0) function.same
            ((lies_in p.edition w.0 tree.tree w.2).functions function.function function.is_there);
      }
  whole_in x (has_no_rank j file spec none_above none im) = import_in j file spec _ im

pub whole_places_lie_in_files : WholePlacesLieInFiles
whole_places_lie_in_files = record {
  of_whole = λ ps i p texts x is are h. whole_in ps i p texts is are x h;
  of_import = λ ps i j file spec code p texts is are im. import_in ps i p texts is are j file spec code im;
}
