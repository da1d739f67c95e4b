-- The reader gives each file that the tokens spell.
use Rattle.std.proofs.Common.{◌≡◌, ℕ, zero, suc, ◌+◌, ◌-◌, ◌≤◌, ◌<◌, Bool, true, false, List, [], ◌∷◌, length, Option, Some, None, slice_range, refl, sym, ap, ◌∙◌, arith, inl, inr}
use Rattle.lexer.specs.Spelling.{same_kind}
use Rattle.lexer.specs.declared.token.Token.{Token}
use Rattle.lexer.specs.declared.token.TokenKind.{TokenKind}
use Rattle.lexer.specs.declared.token.TokenKind.TheVariants.{Identifier as identifier_kind, InterpretedString as interpreted_string_token, RawString as raw_string_token, ConstKeyword, FuncKeyword, ImportKeyword, TypeKeyword, VarKeyword, LeftParenthesis, RightParenthesis, LeftBrace, Dot, LeftBracket}
use Rattle.tree.specs.declared.span.Span.{Span}
use Rattle.tree.specs.declared.operator.DeclKeyword.{DeclKeyword}
use Rattle.tree.specs.declared.operator.DeclKeyword.TheVariants.{Const, Var, «Type» as type_keyword}
use Rattle.tree.specs.Syntax.{Identifier, Signature, signature_of, Parameters, Block, Function, TopLevelDeclaration, function_declaration, general_declaration, declaration_of, ImportSpec, ImportDeclaration, SourceFile, no_parameter, named_and, unnamed_and, name_alone_and}
use Rattle.tree.specs.Depth.{receiver_depth, body_depth, function_depth, top_level_depth, top_levels_depth, declaration_depth, file_depth, parameters_depth}
use Rattle.meaning.specs.Cursor.{GoText, Cursor, ◌⨾◌, TakesToken, token, string_token, chosen, first_is, is_next, semicolon, start_at, spanning, optional_identifier}
use Rattle.meaning.specs.OperatorTokens.{keyword_token}
use Rattle.meaning.specs.Grammar.{in_parentheses, SpellsImportSpec, SpellsImportSpecs, SpellsOneImport, SpellsImports, SpellsReceiver, SpellsBody, SpellsFunction, SpellsTopLevel, SpellsTopLevels, SpellsFile, SpellsDeclaration, IsSecond, IsNoMethod, in_brackets, type_parameters, import_name, dot_text, SpellsSignature, SpellsTypeParameters}
use Rattle.meaning.specs.declared.TheConstants.{MOST_DEPTH}
use Rattle.tree_reader.specs.Reading.{stands, behind, read_identifier, Read, span_between}
use Rattle.tree_reader.specs.Reader.{declaration_keyword, is_string, is_end, top, read_signature, read_import_spec, read_import_specs, read_import, read_imports, read_receiver_within, read_body_within, read_function_declaration_within, read_top_level_within, is_over, read_top_levels_within, read_file_within, read_file, is_second, is_no_method, read_import_name, read_function_parameters}
use Rattle.tree_reader.proofs.Taken.{step, when_true, when_false, only_true, behind_gives, next_gives, of_next_gives, stands_gives, stands_other, stands_not, take_gives, take_semicolon_gives, before_semicolon, span_is, read_identifier-complete, read_optional_identifier-complete, and_true, and_not}
use Rattle.tree_reader.proofs.Lengths.{Shorter, NoLonger, weak, both, first_then, enclosed, same_length, never_longer, token_shorter, chosen_longest, spanning_shorter, where_no_longer, string_shorter, semicolon_longest, identifier_shorter, optional_identifier_longest, items_longest, signature_longest, statements_longest, declaration_shorter, type_parameters_longest, type_items_longest}
use Rattle.tree_reader.proofs.CompleteLists.{closing_is_end, read_block-complete}
use Rattle.tree_reader.proofs.CompleteSignatures.{read_parameters-complete, read_signature-complete}
use Rattle.tree_reader.proofs.CompleteDeclarations.{read_declaration-complete}
use Rattle.tree_reader.proofs.CompleteStatements.{keyword_given}
use Rattle.tree_reader.proofs.Complete.{are_complete}
use Rattle.std.specs.Prelude.{◌&&◌}
use Rattle.meaning.specs.WellFormed.{end_constrained}
use Rattle.tree_reader.proofs.CompleteIndexes.{second_true}
use Rattle.tree_reader.proofs.CompleteInstances.{read_type_parameters-complete}

string-behind : (from to : Cursor) → string_token from to → behind from ≡ to
string-behind from to (inl t) = behind_gives t
string-behind from to (inr t) = behind_gives t

string-next : (test : TokenKind → Bool) (from to : Cursor) → string_token from to → test interpreted_string_token ≡ test raw_string_token → is_next test from ≡ test raw_string_token
string-next test from to (inl t) e = next_gives t test ∙ e
string-next test from to (inr t) e = next_gives t test

-- what an import's spec begins with
abbrev begins_spec : TokenKind → Bool
begins_spec identifier_kind = true
begins_spec interpreted_string_token = true
begins_spec raw_string_token = true
begins_spec Dot = true
begins_spec _ = false

-- what stands behind the imports
abbrev begins_top_level : TokenKind → Bool
begins_top_level FuncKeyword = true
begins_top_level ConstKeyword = true
begins_top_level VarKeyword = true
begins_top_level TypeKeyword = true
begins_top_level _ = false

-- Behind what a semicolon follows stands an end of it.
end_there : (from to : Cursor) → semicolon from to → is_next is_end from ≡ true
end_there from to s = before_semicolon is_end from to refl closing_is_end s

declaration-begins : (keyword : DeclKeyword) (from to : Cursor) → TakesToken (keyword_token keyword) from to → is_next begins_top_level from ≡ true
declaration-begins Const from to t = next_gives t begins_top_level
declaration-begins Var from to t = next_gives t begins_top_level
declaration-begins type_keyword from to t = next_gives t begins_top_level

no_func : (keyword : DeclKeyword) → same_kind (keyword_token keyword) FuncKeyword ≡ false
unfolding same_kind
no_func Const = refl
no_func Var = refl
no_func type_keyword = refl

module _ (text : GoText) where
  import_spec-begins : (i : ImportSpec) (from to : Cursor) → SpellsImportSpec text i from to → is_next begins_spec from ≡ true
  import_spec-begins i from to s = begins i.name s.1.0.1
    where
      begins : (n : Option Identifier) → import_name text n from s.1.0.0 → is_next begins_spec from ≡ true
      begins None p = ap (is_next begins_spec) p ∙ string-next begins_spec s.1.0.0 to s.1.0.2.0 refl
      begins (Some n) (inl p) = next_gives p.0.0 begins_spec
      begins (Some n) (inr p) = next_gives p.1.1.0 begins_spec

  import_name-longest : (n : Option Identifier) → NoLonger (import_name text n)
  import_name-longest None from to s = same_length from to s
  import_name-longest (Some n) from to (inl s) = weak (identifier_shorter text n) from to s
  import_name-longest (Some n) from to (inr s) = weak (token_shorter Dot) from to s.1.1.0

  import_name-complete : (n : Option Identifier) (from to : Cursor)
      → import_name text n from to
      → stands identifier_kind to ≡ false
      → stands Dot to ≡ false
      → read_import_name text from ≡ Some (n, to)
  unfolding read_import_name same_kind
  import_name-complete None from to p none dot =
      when_false _ (and_not (is_second text.edition) (ap (stands Dot) p ∙ dot))
      (read_optional_identifier-complete text None from to p none)
  import_name-complete (Some n) from to (inl s) none dot =
      when_false _ (and_not (is_second text.edition) (stands_other s.0.0 Dot refl))
      (read_optional_identifier-complete text (Some n) from to s none)
  import_name-complete (Some n) from to (inr s) none dot =
      let point = s.1.1.0 in
      let name : (record { text = dot_text; span = span_between from (behind from) }, behind from) ≡ (n, to) =
      ap (λ c. (record { text = dot_text; span = span_between from c }, c)) (behind_gives point)
      ∙ (λ i. (record { text = sym s.1.0 i; span = span_is n.span from to s.1.1.1 s.1.1.2 i }, to)) in
      when_true _ (and_true (second_true text.edition s.0) (stands_gives point))
      (ap (λ (x : Identifier × Cursor). Some (Some x.0, x.1)) name)

  import_spec-shorter : (i : ImportSpec) → Shorter (SpellsImportSpec text i)
  import_spec-shorter i from to s =
      omega (arith, import_name-longest i.name from s.1.0.0 s.1.0.1, string_shorter s.1.0.0 to s.1.0.2.0)

  import_specs-longest : (is : List ImportSpec) → NoLonger (SpellsImportSpecs text is)
  import_specs-longest [] = same_length
  import_specs-longest (i ∷ is) = both (weak (import_spec-shorter i)) (both semicolon_longest (import_specs-longest is))

  one_import-longest : (is : List ImportSpec) → NoLonger (SpellsOneImport text is)
  one_import-longest (i ∷ []) = weak (import_spec-shorter i)
  one_import-longest [] = never_longer
  one_import-longest (i ∷ (k ∷ is)) = never_longer

  import-shorter : (specs : List ImportSpec) (is_grouped : Bool) (span : Span) → Shorter (spanning span (token ImportKeyword ⨾ chosen is_grouped (in_parentheses (SpellsImportSpecs text specs)) (SpellsOneImport text specs)))
  import-shorter specs is_grouped span =
      spanning_shorter (first_then (token_shorter _) (chosen_longest is_grouped (weak (enclosed _ _ (import_specs-longest specs))) (one_import-longest specs)))

  import_spec-complete : (i : ImportSpec) (from to : Cursor) → SpellsImportSpec text i from to → read_import_spec text from ≡ Some (i, to)
  unfolding read_import_spec
  import_spec-complete i from to s =
      let rest = s.1.0 in
      let p = rest.2.1 in
      let q = rest.2.2 in
      let no_name = stands_not is_string identifier_kind rest.0 refl (string-next is_string rest.0 to rest.2.0 refl) in
      let no_dot = stands_not is_string Dot rest.0 refl (string-next is_string rest.0 to rest.2.0 refl) in
      let path : slice_range text.bytes (start_at rest.0 + 1) (to.end - 1) ≡ i.path = (λ j. slice_range text.bytes (sym p j + 1) (sym q j - 1)) ∙ sym s.0 in
      step _ (import_name-complete i.name from rest.0 rest.1 no_name no_dot) (only_true (string-next is_string rest.0 to rest.2.0 refl) (rw (string-behind rest.0 to rest.2.0) (λ j. Some (record { name = i.name; path = path j; path_span = span_is i.path_span rest.0 to p q j; span = span_is i.span from to s.1.1 s.1.2 j }, to))))

  import_specs-complete : (n : ℕ) (is : List ImportSpec) (from to : Cursor) {after : Cursor} → SpellsImportSpecs text is from to → TakesToken RightParenthesis to after → length from.left < n → read_import_specs text n from ≡ Some (is, to)
  unfolding read_import_specs
  import_specs-complete zero is from to s t short = absurd (omega arith)
  import_specs-complete (suc n) [] from to s t short = when_true _ (ap (stands RightParenthesis) s ∙ stands_gives t) (λ j. Some ([], s j))
  import_specs-complete (suc n) (i ∷ is) from to s t short =
      let more = s.2 in
      let shorter : length more.0.left < n = omega (arith, import_spec-shorter i from s.0 s.1, semicolon_longest s.0 more.0 more.1) in
      when_false _ (stands_not begins_spec RightParenthesis from refl (import_spec-begins i from s.0 s.1)) (step _ (import_spec-complete i from s.0 s.1) (step _ (take_semicolon_gives more.1) (step _ (import_specs-complete n is more.0 to more.2 t shorter) refl)))

  import-complete : (specs : List ImportSpec) (is_grouped : Bool) (span : Span) (from to : Cursor) → spanning span (token ImportKeyword ⨾ chosen is_grouped (in_parentheses (SpellsImportSpecs text specs)) (SpellsOneImport text specs)) from to → read_import text from ≡ Some (record { specs = specs; is_grouped = is_grouped; span = span }, to)
  unfolding read_import same_kind
  import-complete specs true span from to s =
      let word = s.0 in
      let brackets = word.2 in
      let inner = brackets.2 in
      let read = import_specs-complete (suc (length brackets.0.left)) specs brackets.0 inner.0 inner.1 inner.2 (omega arith) in
      rw (behind_gives word.1) (when_true _ (stands_gives brackets.1) (rw (behind_gives brackets.1) (step _ read (step _ (take_gives inner.2) (λ j. Some (record { specs = specs; is_grouped = true; span = span_is span from to s.1 s.2 j }, to))))))
  import-complete (i ∷ []) false span from to s =
      let word = s.0 in
      rw (behind_gives word.1) (when_false _ (stands_not begins_spec LeftParenthesis word.0 refl (import_spec-begins i word.0 to word.2)) (step _ (import_spec-complete i word.0 to word.2) (λ j. Some (record { specs = i ∷ []; is_grouped = false; span = span_is span from to s.1 s.2 j }, to))))
  import-complete [] false span from to s = absurd s.0.2
  import-complete (i ∷ (k ∷ is)) false span from to s = absurd s.0.2

  imports-complete : (n : ℕ) (ds : List ImportDeclaration) (from to : Cursor) → SpellsImports text ds from to → stands ImportKeyword to ≡ false → length from.left < n → read_imports text n from ≡ Some (ds, to)
  unfolding read_imports
  imports-complete zero ds from to s e short = absurd (omega arith)
  imports-complete (suc n) [] from to s e short = when_false _ (ap (stands ImportKeyword) s ∙ e) (λ j. Some ([], s j))
  imports-complete (suc n) (d ∷ ds) from to s e short =
      let word = s.1.0.1 in
      let more = s.2 in
      let shorter : length more.0.left < n = omega (arith, import-shorter d.specs d.is_grouped d.span from s.0 s.1, semicolon_longest s.0 more.0 more.1) in
      when_true _ (stands_gives word) (step _ (import-complete d.specs d.is_grouped d.span from s.0 s.1) (step _ (take_semicolon_gives more.1) (step _ (imports-complete n ds more.0 to more.2 e shorter) refl)))

  top_level-begins : (d : TopLevelDeclaration) (from to : Cursor) → SpellsTopLevel text d from to → is_next begins_top_level from ≡ true
  unfolding SpellsDeclaration
  top_level-begins (function_declaration f) from to s = next_gives s.0.1 begins_top_level
  top_level-begins (general_declaration (declaration_of keyword specs is_grouped span)) from to s = declaration-begins keyword from s.0.0 s.0.1

  receiver-longest : (receiver : Option Parameters) → NoLonger (SpellsReceiver text receiver)
  receiver-longest None = same_length
  receiver-longest (Some ps) = where_no_longer (weak (enclosed _ _ (items_longest text true ps)))

  body-longest : (body : Option Block) → NoLonger (SpellsBody text body)
  body-longest None = same_length
  body-longest (Some b) = weak (spanning_shorter (enclosed _ _ (statements_longest text b.statements)))

  top_level-shorter : (d : TopLevelDeclaration) → Shorter (SpellsTopLevel text d)
  top_level-shorter (function_declaration f) =
      spanning_shorter (first_then (token_shorter _) (both (receiver-longest f.receiver) (both (weak (identifier_shorter text f.name)) (both (type_parameters_longest (IsSecond text.edition × IsNoMethod f.receiver) f.type_parameters (type_items_longest text true f.type_parameters)) (both (signature_longest text f.signature) (body-longest f.body))))))
  top_level-shorter (general_declaration d) = declaration_shorter text d

  over : (place : Cursor) → place.left ≡ [] → is_over text place ≡ true
  over place e = ap (λ tokens. is_over text (record { left = tokens; end = place.end })) e

  first_there : (test : TokenKind → Bool) (end : ℕ) (tokens : List Token) → first_is test tokens ≡ true → is_over text (record { left = tokens; end = end }) ≡ false
  first_there test end [] e = let both : false ≡ true = e in cc
  first_there test end (t ∷ rest) e = refl

  -- No import stands behind the imports.
  no_import : (ds : List TopLevelDeclaration) (from to : Cursor) → SpellsTopLevels text ds from to → to.left ≡ [] → stands ImportKeyword from ≡ false
  unfolding stands
  no_import [] from to s e = ap (λ place. is_next (λ k. same_kind k ImportKeyword) place) s ∙ ap (first_is (λ k. same_kind k ImportKeyword)) e
  no_import (x ∷ xs) from to s e = stands_not begins_top_level ImportKeyword from refl (top_level-begins x from s.0 s.1)

module _ (text : GoText) (most : ℕ) where
  signature_no_bracket : (signature : Signature) (from to : Cursor) → SpellsSignature text signature from to → stands LeftBracket from ≡ false
  unfolding SpellsSignature same_kind
  signature_no_bracket (signature_of ps rs brackets) from to s = stands_other s.1.1.1 LeftBracket refl

  receiver-complete : (receiver : Option Parameters) (from to : Cursor) {after : Cursor} → SpellsReceiver text receiver from to → receiver_depth receiver ≤ most → TakesToken identifier_kind to after → read_receiver_within text most from ≡ Some (receiver, to)
  unfolding read_receiver_within same_kind
  receiver-complete None from to s d t =
      when_false _ (ap (stands LeftParenthesis) s ∙ stands_other t LeftParenthesis refl) (λ j. Some (None, s j))
  receiver-complete (Some ps) from to s d t =
      when_true _ (stands_gives s.1.1) (step _ (read_parameters-complete text (top text most) most (are_complete text most) ps from to s.0 s.1 d) refl)

  body-complete : (body : Option Block) (from to : Cursor) → SpellsBody text body from to → body_depth body ≤ most → is_next is_end to ≡ true → read_body_within text most from ≡ Some (body, to)
  unfolding read_body_within
  body-complete None from to s d e =
      when_false _ (ap (stands LeftBrace) s ∙ stands_not is_end LeftBrace to refl e) (λ j. Some (None, s j))
  body-complete (Some b) from to s d e =
      when_true _ (stands_gives s.0.1) (step _ (read_block-complete text (top text most) most (are_complete text most) b.statements b.braces from to s d) refl)

  -- type parameters of what has no receiver
  abbrev parameters_at : Option Parameters → Cursor → Read Parameters
  parameters_at receiver place = read_function_parameters text most receiver place

  no_method : (receiver : Option Parameters) → IsNoMethod receiver → is_no_method receiver ≡ true
  no_method None h = refl
  no_method (Some ps) h = absurd h

  parameters-read : (receiver : Option Parameters) (ps : Parameters) (from to : Cursor)
      → IsSecond text.edition
      → IsNoMethod receiver
      → end_constrained ps ≡ true
      → in_brackets (SpellsTypeParameters text true ps) from to
      → parameters_depth ps ≤ most
      → parameters_at receiver from ≡ Some (ps, to)
  unfolding read_function_parameters
  parameters-read receiver ps from to second none h s d =
      when_true _ (and_true (second_true text.edition second) (and_true (no_method receiver none) (stands_gives s.1)))
      (read_type_parameters-complete text (top text most) most (are_complete text most) ps from to h s d)

  parameters-complete : (receiver : Option Parameters) (ps : Parameters) (from to : Cursor)
      → type_parameters (IsSecond text.edition × IsNoMethod receiver) ps (SpellsTypeParameters text true ps) from to
      → stands LeftBracket to ≡ false
      → parameters_depth ps ≤ most
      → parameters_at receiver from ≡ Some (ps, to)
  unfolding read_function_parameters
  parameters-complete receiver no_parameter from to p none d =
      when_false _ (and_not (is_second text.edition) (and_not (is_no_method receiver) (ap (stands LeftBracket) p ∙ none)))
      (ap (λ c. Some (no_parameter, c)) p)
  parameters-complete receiver (named_and n ellipsis t ps) from to s none d =
      parameters-read receiver (named_and n ellipsis t ps) from to s.0.0 s.0.1 s.1.0 s.1.1 d
  parameters-complete receiver (unnamed_and ellipsis t ps) from to s none d =
      parameters-read receiver (unnamed_and ellipsis t ps) from to s.0.0 s.0.1 s.1.0 s.1.1 d
  parameters-complete receiver (name_alone_and n ps) from to s none d =
      parameters-read receiver (name_alone_and n ps) from to s.0.0 s.0.1 s.1.0 s.1.1 d

  -- the parts of a function, one after the other
  function_after : {kind : TokenKind} (f : Function) (from start name parameters signature body to : Cursor) → TakesToken kind from start → read_receiver_within text most start ≡ Some (f.receiver, name) → read_identifier text name ≡ Some (f.name, parameters) → parameters_at f.receiver parameters ≡ Some (f.type_parameters, signature) → read_signature text (top text most) signature ≡ Some (f.signature, body) → read_body_within text most body ≡ Some (f.body, to) → f.span.start ≡ start_at from → f.span.end ≡ to.end → read_function_declaration_within text most from ≡ Some (f, to)
  unfolding read_function_declaration_within
  function_after f from start name parameters signature body to t receiver named typed signed bodied p q =
      step _ (ap (read_receiver_within text most) (behind_gives t) ∙ receiver) (step _ named (step _ typed (step _ signed (step _ bodied (λ j. Some (record { receiver = f.receiver; name = f.name; type_parameters = f.type_parameters; signature = f.signature; body = f.body; span = span_is f.span from to p q j }, to))))))

  function-complete : (f : Function) (from to : Cursor) → SpellsFunction text f from to → function_depth f ≤ most → is_next is_end to ≡ true → read_function_declaration_within text most from ≡ Some (f, to)
  function-complete f from to s d e =
      let word = s.0 in
      let name = word.2.2 in
      let parameters = name.2 in
      let signature = parameters.2 in
      let receiver = receiver-complete f.receiver word.0 word.2.0 word.2.1 (omega arith) name.1.0.0 in
      let read = read_signature-complete text (top text most) most (are_complete text most) f.signature parameters.0 signature.0 signature.1 (omega arith) in
      let typed = parameters-complete f.receiver f.type_parameters name.0 parameters.0 parameters.1 (signature_no_bracket f.signature parameters.0 signature.0 signature.1) (omega arith) in
      let body = body-complete f.body signature.0 to signature.2 (omega arith) e in
      function_after f from word.0 word.2.0 name.0 parameters.0 signature.0 to word.1 receiver (read_identifier-complete text f.name word.2.0 name.0 name.1) typed read body s.1 s.2

  top_level-complete : (d : TopLevelDeclaration) (from to : Cursor) → SpellsTopLevel text d from to → top_level_depth d ≤ most → is_next is_end to ≡ true → read_top_level_within text most from ≡ Some (d, to)
  unfolding read_top_level_within SpellsDeclaration declaration_depth
  top_level-complete (function_declaration f) from to s d e =
      when_true _ (stands_gives s.0.1) (step _ (function-complete f from to s d e) refl)
  top_level-complete (general_declaration (declaration_of keyword specs is_grouped span)) from to s d e =
      let read = read_declaration-complete text (top text most) most (are_complete text most) keyword specs is_grouped span from to s d e in
      when_false _ (stands_other s.0.1 FuncKeyword (no_func keyword)) (rw (of_next_gives s.0.1 declaration_keyword ∙ keyword_given keyword) (step _ read refl))

  top_levels-complete : (n : ℕ) (ds : List TopLevelDeclaration) (from to : Cursor) → SpellsTopLevels text ds from to → to.left ≡ [] → top_levels_depth ds ≤ most → length from.left < n → read_top_levels_within text most n from ≡ Some (ds, to)
  unfolding read_top_levels_within
  top_levels-complete zero ds from to s e d short = absurd (omega arith)
  top_levels-complete (suc n) [] from to s e d short = when_true _ (ap (is_over text) s ∙ over text to e) (λ j. Some ([], s j))
  top_levels-complete (suc n) (x ∷ xs) from to s e d short =
      let more = s.2 in
      let shorter : length more.0.left < n = omega (arith, top_level-shorter text x from s.0 s.1, semicolon_longest s.0 more.0 more.1) in
      let read = top_level-complete x from s.0 s.1 (omega arith) (end_there s.0 more.0 more.1) in
      when_false _ (first_there text begins_top_level from.end from.left (top_level-begins text x from s.0 s.1)) (step _ read (step _ (take_semicolon_gives more.1) (step _ (top_levels-complete n xs more.0 to more.2 e (omega arith) shorter) refl)))

  pub read_file_within-complete : (from to : Cursor) (file : SourceFile) → SpellsFile text file from to → to.left ≡ [] → file_depth file ≤ most → read_file_within text most from ≡ Some (file, to)
  unfolding read_file_within
  read_file_within-complete from to file s e d =
      let word = s.0 in
      let name = word.2 in
      let end = name.2 in
      let parts = end.2 in
      let imports = imports-complete text (suc (length end.0.left)) file.imports end.0 parts.0 parts.1 (no_import text file.declarations parts.0 to parts.2 e) (omega arith) in
      let declarations = top_levels-complete (suc (length parts.0.left)) file.declarations parts.0 to parts.2 e d (omega arith) in
      step _ (take_gives word.1) (step _ (read_identifier-complete text file.package_name word.0 name.0 name.1) (step _ (take_semicolon_gives end.1) (step _ imports (step _ declarations (λ j. Some (record { package_name = file.package_name; imports = file.imports; declarations = file.declarations; span = span_is file.span from to s.1 s.2 j }, to))))))

module _ (text : GoText) where
  -- with the limit that the tree of a text has
  pub read_file-complete : (from to : Cursor) (file : SourceFile) → SpellsFile text file from to → to.left ≡ [] → file_depth file ≤ MOST_DEPTH → read_file text from ≡ Some (file, to)
  read_file-complete = read_file_within-complete text MOST_DEPTH
