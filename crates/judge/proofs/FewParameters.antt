-- A function in the tree of a text has fewer parameters than the text has bytes: each takes a token, and a text has no more
-- tokens than bytes, but for a semicolon at its end. So the position of each of them can be written.
use Rattle.std.proofs.Common.{◌≡◌, ℕ, suc, ◌+◌, ◌<◌, ◌≤◌, ◌-◌, ◌^◌, ◌⊎◌, inl, inr, Bool, true, false, ◌&&◌, ◌||◌, List, [], ◌∷◌, ◌++◌, length, drop, Option, Some, None, Contains, refl, sym, ap, ◌∙◌, subst, arith}
use Rattle.std.specs.Prelude.{◌==◌, if◌then◌else◌}
use Rattle.std.specs.List.{list_any}
use Rattle.std.specs.Str.{bytes_eq}
use Rattle.std.proofs.lemmas.Bool.{false≢true, and_parts}
use Rattle.std.proofs.lemmas.Bool.Decides.{Decides-eqb}
use Rattle.std.proofs.lemmas.List.{length-append, length-drop}
use Rattle.std.proofs.lemmas.Option.{none-some, same_Some}
use Rattle.lexer.proofs.Literals.{positive_size}
use Rattle.lexer.specs.Cut.{Cut}
use Rattle.lexer.specs.Semicolons.{semicolon as due_semicolon, tokens_at, due_after, tokens_from}
use Rattle.lexer.specs.Tokens.{mark_size, IsTokens}
use Rattle.lexer.specs.declared.pieces.Piece.{Piece}
use Rattle.lexer.specs.declared.pieces.PieceKind.{PieceKind}
use Rattle.lexer.specs.declared.pieces.PieceKind.TheVariants.{WhiteSpace, Newline, LineComment, GeneralComment, GeneralCommentWithNewline, TokenOf}
use Rattle.lexer.specs.declared.token.Token.{Token}
use Rattle.meaning.proofs.Membership.{contains_nil, contains_here, contains_there, contains_cases}
use Rattle.meaning.specs.Cursor.{GoText, read_in, Cursor, Rule, ◌⨾◌, one_of}
use Rattle.meaning.specs.FunctionFacts.{Meanings, TrackedType, Item, items_of, item_type, cancel, FunctionFacts, parameter_at, tracked_parameters, signature_facts, function_facts, facts_in, facts_from}
use Rattle.meaning.specs.Grammar.{before_item, after_items, IsSecond, IsNoMethod, type_parameters, import_name, SpellsItems, SpellsTypeParameters, SpellsSignature, SpellsImportSpec, SpellsImportSpecs, SpellsOneImport, SpellsImports, SpellsReceiver, SpellsBody, SpellsFunction, SpellsTopLevel, SpellsTopLevels, SpellsFile}
use Rattle.meaning.specs.OuterBlocks.{can_be_meant, or_else}
use Rattle.meaning.specs.TreeOfText.{first_place, IsTreeOf}
use Rattle.meaning.specs.Uses.{has_kind_at}
use Rattle.meaning_reports.specs.MeantImports.{IsTreeButForImports}
use Rattle.tree.specs.declared.edition.Edition.{Edition}
use Rattle.tree.specs.declared.edition.Edition.TheVariants.{First, Second}
use Rattle.tree.specs.Syntax.{Identifier, Block, Parameters, no_parameter, named_and, unnamed_and, name_alone_and, Signature, signature_of, Function, TopLevelDeclaration, function_declaration, general_declaration, ImportSpec, ImportDeclaration, SourceFile}
use Rattle.meaning.specs.Grammar.{as_type}
use Rattle.tree_reader.proofs.Lengths.{NoLonger, Shorter, weak, both, enclosed, same_length, never_longer, token_shorter, chosen_longest, optional_longest, spanning_no_longer, where_no_longer, string_shorter, semicolon_longest, identifier_shorter, type_parameters_longest, expression_shorter, items_longest, type_items_longest, signature_longest, statements_longest, declaration_shorter}

-- the rule takes so many tokens, or more
abbrev TakesMany : ℕ → Rule → Type 0
TakesMany n rule = (from to : Cursor) → rule from to → length to.left + n ≤ length from.left

behind : (n : ℕ) {first second : Rule} → NoLonger first → TakesMany n second → TakesMany n (first ⨾ second)
behind n h k from to s = omega (arith, h from s.0 s.1, k s.0 to s.2)

one_more : (n : ℕ) {first second : Rule} → Shorter first → TakesMany n second → TakesMany (suc n) (first ⨾ second)
one_more n h k from to s = omega (arith, h from s.0 s.1, k s.0 to s.2)

before_item_longest : (first : Bool) → NoLonger (before_item first)
before_item_longest true = same_length
before_item_longest false = weak (token_shorter _)

after_items_longest : (first : Bool) → NoLonger (after_items first)
after_items_longest true = same_length
after_items_longest false = optional_longest (weak (token_shorter _))

abbrev parameters_of : Signature → List Item
parameters_of (signature_of ps rs brackets) = items_of ps

either_longest : {first second : Rule} → NoLonger first → NoLonger second → NoLonger (one_of first second)
either_longest h k from to (inl s) = h from to s
either_longest h k from to (inr s) = k from to s

module _ (text : GoText) where
  many_items : (first : Bool) (ps : Parameters) → TakesMany (length (items_of ps)) (SpellsItems text first ps)
  unfolding SpellsItems
  many_items first no_parameter = λ from to s. let h = after_items_longest first from to s in omega (arith, h)
  many_items first (named_and n ellipsis t ps) =
      behind _ (before_item_longest first)
      (one_more _ (identifier_shorter text n)
      (behind _ (chosen_longest ellipsis (weak (token_shorter _)) same_length)
      (behind _ (weak (expression_shorter text as_type t)) (many_items false ps))))
  many_items first (unnamed_and ellipsis t ps) =
      behind _ (before_item_longest first)
      (behind _ (chosen_longest ellipsis (weak (token_shorter _)) same_length)
      (one_more _ (expression_shorter text as_type t) (many_items false ps)))
  many_items first (name_alone_and n ps) =
      behind _ (before_item_longest first) (one_more _ (identifier_shorter text n) (many_items false ps))

  few_of_signature : (s : Signature) (from to : Cursor) → SpellsSignature text s from to
      → length (parameters_of s) ≤ length from.left
  unfolding SpellsSignature
  few_of_signature (signature_of ps rs brackets) from to s =
      let inner = s.1.1 in
      omega (arith, token_shorter _ from inner.0 inner.1, many_items true ps inner.0 inner.2.0 inner.2.1)

  -- Functions of a file

  receiver_longest : (receiver : Option Parameters) → NoLonger (SpellsReceiver text receiver)
  receiver_longest None = same_length
  receiver_longest (Some ps) = where_no_longer (weak (enclosed _ _ (items_longest text true ps)))

  body_longest : (b : Option Block) → NoLonger (SpellsBody text b)
  body_longest None = same_length
  body_longest (Some b) = spanning_no_longer (weak (enclosed _ _ (statements_longest text b.statements)))

  type_parameters_too : (f : Function)
      → NoLonger (type_parameters (IsSecond text.edition × IsNoMethod f.receiver) f.type_parameters
      (SpellsTypeParameters text true f.type_parameters))
  type_parameters_too f =
      type_parameters_longest (IsSecond text.edition × IsNoMethod f.receiver) f.type_parameters
      (type_items_longest text true f.type_parameters)

  top_level_longest : (d : TopLevelDeclaration) → NoLonger (SpellsTopLevel text d)
  top_level_longest (function_declaration f) =
      spanning_no_longer (both (weak (token_shorter _)) (both (receiver_longest f.receiver)
      (both (weak (identifier_shorter text f.name)) (both (type_parameters_too f)
      (both (signature_longest text f.signature) (body_longest f.body))))))
  top_level_longest (general_declaration d) = weak (declaration_shorter text d)

  few_of_function : (f : Function) (from to : Cursor) → SpellsFunction text f from to
      → length (parameters_of f.signature) ≤ length from.left
  few_of_function f from to s =
      let receiver = s.0.2 in
      let name = receiver.2 in
      let types = name.2 in
      let signature = types.2 in
      omega (
        arith,
        token_shorter _ from s.0.0 s.0.1,
        receiver_longest f.receiver s.0.0 receiver.0 receiver.1,
        identifier_shorter text f.name receiver.0 name.0 name.1,
        type_parameters_too f name.0 types.0 types.1,
        few_of_signature f.signature types.0 signature.0 signature.1,
      )

  few_of_each : (ds : List TopLevelDeclaration) (from to : Cursor) → SpellsTopLevels text ds from to
      → (f : Function) → Contains ds (function_declaration f)
      → length (parameters_of f.signature) ≤ length from.left
  few_of_each [] from to s f h = absurd (contains_nil (function_declaration f) h)
  few_of_each (d ∷ ds) from to s f h =
      elim (contains_cases d (function_declaration f) ds h) [
        | inl same ↦
            few_of_function f from s.0
            (subst (λ (e : TopLevelDeclaration). SpellsTopLevel text e from s.0) same s.1)
        | inr later ↦
            omega (
              arith,
              top_level_longest d from s.0 s.1,
              semicolon_longest s.0 s.2.0 s.2.1,
              few_of_each ds s.2.0 to s.2.2 f later,
            )
      ]

  import_name_longest : (n : Option Identifier) → NoLonger (import_name text n)
  import_name_longest None = same_length
  import_name_longest (Some n) =
      either_longest (weak (identifier_shorter text n))
      (where_no_longer (where_no_longer (spanning_no_longer (weak (token_shorter _)))))

  import_spec_longest : (i : ImportSpec) → NoLonger (SpellsImportSpec text i)
  import_spec_longest i =
      where_no_longer (spanning_no_longer (both (import_name_longest i.name)
      (spanning_no_longer (weak string_shorter))))

  import_specs_longest : (is : List ImportSpec) → NoLonger (SpellsImportSpecs text is)
  import_specs_longest [] = same_length
  import_specs_longest (i ∷ is) = both (import_spec_longest i) (both semicolon_longest (import_specs_longest is))

  one_import_longest : (is : List ImportSpec) → NoLonger (SpellsOneImport text is)
  one_import_longest [] = never_longer
  one_import_longest (i ∷ []) = import_spec_longest i
  one_import_longest (i ∷ (k ∷ is)) = never_longer

  imports_longest : (ds : List ImportDeclaration) → NoLonger (SpellsImports text ds)
  imports_longest [] = same_length
  imports_longest (d ∷ ds) =
      both (spanning_no_longer (both (weak (token_shorter _)) (chosen_longest d.is_grouped
      (weak (enclosed _ _ (import_specs_longest d.specs))) (one_import_longest d.specs))))
      (both semicolon_longest (imports_longest ds))

  few_of_file : (file : SourceFile) (from to : Cursor) → SpellsFile text file from to
      → (f : Function) → Contains file.declarations (function_declaration f)
      → length (parameters_of f.signature) ≤ length from.left
  few_of_file file from to s f h =
      let name = s.0.2 in
      let semicolon = name.2 in
      let imports = semicolon.2 in
      omega (
        arith,
        token_shorter _ from s.0.0 s.0.1,
        identifier_shorter text file.package_name s.0.0 name.0 name.1,
        semicolon_longest name.0 semicolon.0 semicolon.1,
        imports_longest file.imports semicolon.0 imports.0 imports.1,
        few_of_each file.declarations imports.0 to imports.2 f h,
      )

-- Tokens of a text

few_due : (due : Option ℕ) → length (due_semicolon due) ≤ 1
few_due None = omega arith
few_due (Some end) = omega arith

few_at : (s : PieceKind) (start end : ℕ) (due : Option ℕ) → length (tokens_at s start end due) ≤ 1
few_at (TokenOf k) start end due = omega arith
few_at Newline start end due = few_due due
few_at LineComment start end due = few_due due
few_at GeneralCommentWithNewline start end due = few_due due
few_at WhiteSpace start end due = omega arith
few_at GeneralComment start end due = omega arith

few_from : (text : List ℕ) (ps : List Piece) (at : ℕ) (due : Option ℕ) → Cut text ps []
    → length (tokens_from at due ps) ≤ length text + 1
unfolding Cut tokens_from
few_from text [] at due c = let h = few_due due in omega (arith, h)
few_from text (p ∷ ps) at due c =
    let rest = tokens_from (at + p.size) (due_after p.kind (at + p.size) due) ps in
    let here = few_at p.kind at (at + p.size) due in
    let some = positive_size p text c.0.begins in
    let within : p.size ≤ length text = c.0.begins.within in
    let left : length (drop p.size text) ≡ length text - p.size = length-drop p.size text in
    let later = few_from (drop p.size text) ps (at + p.size) (due_after p.kind (at + p.size) due) c.1 in
    omega (arith, length-append (tokens_at p.kind at (at + p.size) due) rest, here, some, within, left, later)

few_tokens : (text : List ℕ) (tokens : List Token) → IsTokens text tokens → length tokens ≤ length text + 1
few_tokens text tokens t =
    let left : length (drop (mark_size text) text) ≡ length text - mark_size text = length-drop (mark_size text) text in
    let all = few_from (drop (mark_size text) text) t.pieces (mark_size text) None t.cut in
    omega (arith, ap length t.listed, left, all)

few_written : (edition : Edition) (text : List ℕ) (tree : SourceFile) → IsTreeOf edition text tree
    → (f : Function) → Contains tree.declarations (function_declaration f)
    → length (parameters_of f.signature) < 2 ^ 32
few_written edition text tree is f h =
    let few = few_of_file (read_in edition text) tree (first_place is.tokens) is.last is.spelled f h in
    let tokens = few_tokens text is.tokens is.cut in
    let small = is.cut.small in
    omega (arith, few, tokens, small)

few_parameters : (edition : Edition) (text : List ℕ) (tree : SourceFile) → IsTreeButForImports edition text tree
    → (f : Function) → Contains tree.declarations (function_declaration f)
    → length (parameters_of f.signature) < 2 ^ 32
few_parameters edition text tree is f h =
    few_written edition text is.written is.is_tree f
    (subst (λ (file : SourceFile). Contains file.declarations (function_declaration f)) (sym is.same) h)

-- Positions

or_cases : (x y : Bool) → (x || y) ≡ true → (x ≡ true) ⊎ (y ≡ true)
or_cases true y e = inl refl
or_cases false y e = inr e

position_within : (means : Meanings) (j k : ℕ) (is : List Item)
    → list_any (has_kind_at cancel k) (tracked_parameters means j is) ≡ true
    → k < j + length is
position_within means j k [] e = absurd (false≢true e)
position_within means j k (i ∷ is) e = by (item_type means i) e (position_within means (j + 1) k is)
  where
    by : (o : Option TrackedType)
        → list_any (has_kind_at cancel k) (parameter_at j o ++ tracked_parameters means (j + 1) is) ≡ true
        → (list_any (has_kind_at cancel k) (tracked_parameters means (j + 1) is) ≡ true → k < j + 1 + length is)
        → k < j + suc (length is)
    by None h go = let later = go h in omega (arith, later)
    by (Some t) h go =
        elim (or_cases (has_kind_at cancel k record { position = j; typed = t })
        (list_any (has_kind_at cancel k) (tracked_parameters means (j + 1) is)) h) [
          | inl here ↦ let same = (Decides-eqb j k).0 (and_parts _ (j == k) here).1 in omega (arith, same)
          | inr rest ↦ let later = go rest in omega (arith, later)
        ]

-- what is known of the parameters of a function whose signature has few of them
abbrev KnowsFew : FunctionFacts → Type 0
KnowsFew facts = (k : ℕ) → list_any (has_kind_at cancel k) facts.parameters ≡ true → k < 2 ^ 32

few_known : (means : Meanings) (s : Signature) → length (parameters_of s) < 2 ^ 32 → KnowsFew (signature_facts means s)
few_known means (signature_of ps rs brackets) few k e =
    let within = position_within means 0 k (items_of ps) e in
    omega (arith, few, within)

few_of : (edition : Edition) (means : Meanings) (f : Function) → length (parameters_of f.signature) < 2 ^ 32
    → KnowsFew (function_facts edition means f)
few_of First means f few k e = few_known means f.signature few k e
few_of Second means f few k e = few_known means f.signature few k e

few_in : (edition : Edition) (means : Meanings) (name : List ℕ) (ds : List TopLevelDeclaration) (facts : FunctionFacts)
    → ((f : Function) → Contains ds (function_declaration f) → length (parameters_of f.signature) < 2 ^ 32)
    → facts_in edition means name ds ≡ Some facts
    → KnowsFew facts
few_in edition means name [] facts few e = absurd (none-some facts e)
few_in edition means name (general_declaration d ∷ ds) facts few e =
    few_in edition means name ds facts
    (λ f h. few f (contains_there (general_declaration d) (function_declaration f) ds h)) e
few_in edition means name (function_declaration g ∷ ds) facts few e =
    by (can_be_meant g && bytes_eq g.name.text name) e
    (few_in edition means name ds facts
    (λ f h. few f (contains_there (function_declaration g) (function_declaration f) ds h)))
  where
    by : (b : Bool) → (if b then Some (function_facts edition means g) else facts_in edition means name ds) ≡ Some facts
        → (facts_in edition means name ds ≡ Some facts → KnowsFew facts)
        → KnowsFew facts
    by true h go =
        subst KnowsFew (same_Some (function_facts edition means g) facts h)
        (few_of edition means g (few g (contains_here (function_declaration g) ds)))
    by false h go = go h

pub positions_fit : (edition : Edition) (means : ℕ → Meanings) (name : List ℕ) (n : ℕ) (trees : List SourceFile)
    (facts : FunctionFacts)
    → ((tree : SourceFile) → Contains trees tree → (text : List ℕ) × IsTreeButForImports edition text tree)
    → facts_from edition means name n trees ≡ Some facts
    → KnowsFew facts
positions_fit edition means name n [] facts texts e = absurd (none-some facts e)
positions_fit edition means name n (tree ∷ trees) facts texts e =
    by (facts_in edition (means n) name tree.declarations) refl e
    (positions_fit edition means name (n + 1) trees facts (λ t h. texts t (contains_there tree t trees h)))
  where
    by : (o : Option FunctionFacts) → facts_in edition (means n) name tree.declarations ≡ o
        → or_else o (facts_from edition means name (n + 1) trees) ≡ Some facts
        → (facts_from edition means name (n + 1) trees ≡ Some facts → KnowsFew facts)
        → KnowsFew facts
    by None p h go = go h
    by (Some g) p h go =
        let text = texts tree (contains_here tree trees) in
        few_in edition (means n) name tree.declarations facts (few_parameters edition text.0 tree text.1) (p ∙ h)
