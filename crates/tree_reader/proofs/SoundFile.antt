-- The files that are read are spelled by all of their tokens and no deeper than they may be, where the parts of their
-- declarations are so.
use Rattle.std.proofs.Common.{◌≡◌, ℕ, zero, suc, ◌≤◌, Bool, true, false, true≢false, ◌&&◌, List, [], ◌∷◌, inl, inr, refl, sym, arith}
use Rattle.std.specs.Prelude.{Option, Some, None}
use Rattle.std.proofs.lemmas.Option.{option_and_then_some, none-some}
use Rattle.std.proofs.lemmas.Bool.{false≢true, and_parts}
use Rattle.lexer.specs.declared.token.Token.{Token}
use Rattle.lexer.specs.declared.token.TokenKind.TheVariants.{FuncKeyword, ImportKeyword, PackageKeyword, LeftParenthesis, RightParenthesis, LeftBracket, LeftBrace, Dot}
use Rattle.tree.specs.Syntax.{Identifier, Parameters, no_parameter, Block, Function, TopLevelDeclaration, ImportSpec, ImportDeclaration, SourceFile}
use Rattle.tree.specs.Depth.{parameters_depth, receiver_depth, body_depth, function_depth, top_level_depth, top_levels_depth, file_depth}
use Rattle.meaning.specs.Cursor.{GoText, Cursor, ◌⨾◌, token, chosen, spanning, is_next, optional_identifier}
use Rattle.meaning.specs.Grammar.{IsSecond, IsNoMethod, type_parameters, import_name, SpellsTypeParameters, in_parentheses, SpellsOneImport, SpellsImportSpec, SpellsImportSpecs, SpellsImports, SpellsReceiver, SpellsBody, SpellsFunction, SpellsTopLevel, SpellsTopLevels, SpellsFile}
use Rattle.tree_reader.specs.Reading.{stands, behind, take, take_semicolon, steps, read_identifier, read_optional_identifier}
use Rattle.tree_reader.specs.Reader.{of_next, declaration_keyword, is_string, is_second, is_no_method, read_import_name, read_type_parameters, read_function_parameters, read_parameters, read_signature, read_block, read_declaration, top, read_import_spec, read_import_specs, read_import, read_imports, read_receiver_within, read_body_within, read_function_declaration_within, read_top_level_within, is_over, read_top_levels_within, read_file_within}
use Rattle.tree_reader.specs.Claims.{AreSound}
use Rattle.tree_reader.proofs.Steps.{given, two_ways, only_where_some, option_ways, stands-sound, take-sound, take_semicolon-sound, read_identifier-sound, read_optional_identifier-sound}
use Rattle.tree_reader.proofs.Tables.{is_string-sound}
use Rattle.tree_reader.proofs.SoundIndexes.{second_is}
use Rattle.tree_reader.proofs.SoundInstances.{parameters_there, read_type_parameters-sound}
use Rattle.tree_reader.proofs.SoundBlocks.{read_block-sound}
use Rattle.tree_reader.proofs.SoundSignatures.{read_parameters-sound, read_signature-sound}
use Rattle.tree_reader.proofs.SoundDeclarations.{read_declaration-sound}

module _ (text : GoText) where
  abbrev ReadsImportSpec : Cursor → ImportSpec × Cursor → Type 0
  ReadsImportSpec from x = SpellsImportSpec text x.0 from x.1

  abbrev ReadsImportSpecs : Cursor → List ImportSpec × Cursor → Type 0
  ReadsImportSpecs from x = SpellsImportSpecs text x.0 from x.1

  -- an import without its semicolon
  abbrev ReadsImport : Cursor → ImportDeclaration × Cursor → Type 0
  ReadsImport from x =
      spanning x.0.span (token ImportKeyword
      ⨾ chosen x.0.is_grouped (in_parentheses (SpellsImportSpecs text x.0.specs)) (SpellsOneImport text x.0.specs))
      from x.1

  abbrev ReadsImports : Cursor → List ImportDeclaration × Cursor → Type 0
  ReadsImports from x = SpellsImports text x.0 from x.1

  plain_name : (n : Option Identifier) (from to : Cursor) → optional_identifier text n from to → import_name text n from to
  plain_name None from to h = h
  plain_name (Some n) from to h = inl h

  read_import_name-sound : (from : Cursor) (x : Option Identifier × Cursor)
      → read_import_name text from ≡ Some x → import_name text x.0 from x.1
  unfolding read_import_name
  read_import_name-sound from x e =
      elim (two_ways (is_second text.edition && stands Dot from) _ _ (Some x) e) [
        | inl c ↦ (let tests = and_parts (is_second text.edition) (stands Dot from) c.0 in
            given (λ (x : Option Identifier × Cursor). import_name text x.0 from x.1) _ x c.1
            (inr (second_is text.edition tests.0, (refl, (stands-sound Dot from tests.1, refl, refl)))))
        | inr c ↦ plain_name x.0 from x.1 (read_optional_identifier-sound text from x c.1)
      ]

  read_import_spec-sound : (from : Cursor) (x : ImportSpec × Cursor)
      → read_import_spec text from ≡ Some x → ReadsImportSpec from x
  unfolding read_import_spec
  read_import_spec-sound from x e =
      option_and_then_some _ (read_import_name text from) x e λ n n-read n-then.
      let h = only_where_some (is_next is_string n.1) _ x n-then in
      given (ReadsImportSpec from) _ x h.1 (
        refl,
        (
          (n.1, read_import_name-sound from n n-read, (is_string-sound n.1 h.0, refl, refl)),
          refl,
          refl,
        ),
      )

  read_import_specs-sound : (n : ℕ) (from : Cursor) (x : List ImportSpec × Cursor)
      → read_import_specs text n from ≡ Some x → ReadsImportSpecs from x
  unfolding read_import_specs
  read_import_specs-sound zero from x e = absurd (none-some x e)
  read_import_specs-sound (suc n) from x e =
      elim (two_ways (stands RightParenthesis from) _ _ (Some x) e) [
        | inl c ↦ given (ReadsImportSpecs from) _ x c.1 refl
        | inr c ↦ (
            option_and_then_some _ (read_import_spec text from) x c.1 λ first first-read first-then.
            option_and_then_some _ (take_semicolon first.1) x first-then λ end end-read end-then.
            option_and_then_some _ (read_import_specs text n end) x end-then λ more more-read more-then.
            given (ReadsImportSpecs from) _ x more-then (
              first.1,
              read_import_spec-sound from first first-read,
              (end, take_semicolon-sound first.1 end end-read, read_import_specs-sound n end more more-read),
            )
            )
      ]

  read_import-sound : (from : Cursor) (x : ImportDeclaration × Cursor)
      → stands ImportKeyword from ≡ true → read_import text from ≡ Some x → ReadsImport from x
  unfolding read_import
  read_import-sound from x k e =
      let inner = behind from in
      let word = stands-sound ImportKeyword from k in
      elim (two_ways (stands LeftParenthesis inner) _ _ (Some x) e) [
        | inl c ↦ (
            option_and_then_some _ (read_import_specs text (steps (behind inner))
            (behind inner)) x c.1 λ specs specs-read specs-then.
            option_and_then_some _ (take RightParenthesis specs.1) x specs-then λ end end-read end-then.
            let h = read_import_specs-sound (steps (behind inner)) (behind inner) specs specs-read in
            given (ReadsImport from) _ x end-then (
              (
                inner,
                word,
                (
                  behind inner,
                  stands-sound LeftParenthesis inner c.0,
                  (specs.1, h, take-sound RightParenthesis specs.1 end end-read),
                ),
              ),
              refl,
              refl,
            )
            )
        | inr c ↦ (
            option_and_then_some _ (read_import_spec text inner) x c.1 λ spec spec-read spec-then.
            given (ReadsImport from) _ x spec-then
            ((inner, word, read_import_spec-sound inner spec spec-read), refl, refl)
            )
      ]

  read_imports-sound : (n : ℕ) (from : Cursor) (x : List ImportDeclaration × Cursor)
      → read_imports text n from ≡ Some x → ReadsImports from x
  unfolding read_imports
  read_imports-sound zero from x e = absurd (none-some x e)
  read_imports-sound (suc n) from x e =
      elim (two_ways (stands ImportKeyword from) _ _ (Some x) e) [
        | inl c ↦ (
            option_and_then_some _ (read_import text from) x c.1 λ first first-read first-then.
            option_and_then_some _ (take_semicolon first.1) x first-then λ end end-read end-then.
            option_and_then_some _ (read_imports text n end) x end-then λ more more-read more-then.
            given (ReadsImports from) _ x more-then (
              first.1,
              read_import-sound from first c.0 first-read,
              (end, take_semicolon-sound first.1 end end-read, read_imports-sound n end more more-read),
            )
            )
        | inr c ↦ given (ReadsImports from) _ x c.1 refl
      ]

-- no token is left
is_over-sound : (text : GoText) (left : List Token) (end : ℕ)
    → is_over text (record { left = left; end = end }) ≡ true → left ≡ []
is_over-sound text [] end o = refl
is_over-sound text (t ∷ rest) end o = absurd (false≢true o)

module _ (text : GoText) (most : ℕ) (sound : AreSound text most (top text most)) where
  abbrev ReadsReceiver : Cursor → Option Parameters × Cursor → Type 0
  ReadsReceiver from x = SpellsReceiver text x.0 from x.1 × (receiver_depth x.0 ≤ most)

  read_receiver_within-sound : (from : Cursor) (x : Option Parameters × Cursor)
      → read_receiver_within text most from ≡ Some x → ReadsReceiver from x
  unfolding read_receiver_within
  read_receiver_within-sound from x e =
      elim (two_ways (stands LeftParenthesis from) _ _ (Some x) e) [
        | inl c ↦ (
            option_and_then_some _ (read_parameters text (top text most) from) x c.1 λ ps ps-read ps-then.
            let h = read_parameters-sound text (top text most) most sound from ps ps-read in
            given (ReadsReceiver from) _ x ps-then ((h.0, h.1), h.2)
            )
        | inr c ↦ given (ReadsReceiver from) _ x c.1 (refl, omega arith)
      ]

  abbrev ReadsBody : Cursor → Option Block × Cursor → Type 0
  ReadsBody from x = SpellsBody text x.0 from x.1 × (body_depth x.0 ≤ most)

  read_body_within-sound : (from : Cursor) (x : Option Block × Cursor) → read_body_within text most from ≡ Some x → ReadsBody from x
  unfolding read_body_within
  read_body_within-sound from x e =
      elim (two_ways (stands LeftBrace from) _ _ (Some x) e) [
        | inl c ↦ (
            option_and_then_some _ (read_block text (top text most) from) x c.1 λ b b-read b-then.
            given (ReadsBody from) _ x b-then (read_block-sound text (top text most) most sound from b b-read)
            )
        | inr c ↦ given (ReadsBody from) _ x c.1 (refl, omega arith)
      ]

  is_no_method-true : (receiver : Option Parameters) → is_no_method receiver ≡ true → IsNoMethod receiver
  is_no_method-true None e = tt
  is_no_method-true (Some ps) e = absurd (true≢false (sym e))

  abbrev ReadsFunctionParameters : Option Parameters → Cursor → Parameters × Cursor → Type 0
  ReadsFunctionParameters receiver from x =
      type_parameters (IsSecond text.edition × IsNoMethod receiver) x.0 (SpellsTypeParameters text true x.0) from x.1
      × (parameters_depth x.0 ≤ most)

  read_function_parameters-sound : (receiver : Option Parameters) (from : Cursor) (x : Parameters × Cursor)
      → read_function_parameters text most receiver from ≡ Some x → ReadsFunctionParameters receiver from x
  unfolding read_function_parameters parameters_depth
  read_function_parameters-sound receiver from x e =
      let opens = is_no_method receiver && stands LeftBracket from in
      elim (two_ways (is_second text.edition && opens) _ _ (Some x) e) [
        | inl c ↦ (let tests = and_parts (is_second text.edition) opens c.0 in
            let alone = is_no_method-true receiver (and_parts (is_no_method receiver) (stands LeftBracket from) tests.1).0 in
            let h = read_type_parameters-sound text (top text most) most sound from x c.1 in
            let allowed : IsSecond text.edition × IsNoMethod receiver = (second_is text.edition tests.0, alone) in (
              parameters_there text (IsSecond text.edition × IsNoMethod receiver) x.0 (SpellsTypeParameters text true x.0)
                  from x.1 allowed h.0 h.1,
              h.2,
            ))
        | inr c ↦ given (ReadsFunctionParameters receiver from) (no_parameter, from) x c.1 (refl, omega arith)
      ]

  abbrev ReadsFunction : Cursor → Function × Cursor → Type 0
  ReadsFunction from x = SpellsFunction text x.0 from x.1 × (function_depth x.0 ≤ most)

  read_function_declaration_within-sound : (from : Cursor) (x : Function × Cursor)
      → stands FuncKeyword from ≡ true → read_function_declaration_within text most from ≡ Some x → ReadsFunction from x
  unfolding read_function_declaration_within
  read_function_declaration_within-sound from x k e =
      option_and_then_some _ (read_receiver_within text most (behind from)) x e λ receiver receiver-read receiver-then.
      option_and_then_some _ (read_identifier text receiver.1) x receiver-then λ n n-read n-then.
      option_and_then_some _ (read_function_parameters text most receiver.0 n.1) x n-then λ ps ps-read ps-then.
      option_and_then_some _ (read_signature text (top text most) ps.1) x ps-then λ signature signature-read signature-then.
      option_and_then_some _ (read_body_within text most signature.1) x signature-then λ body body-read body-then.
      let r = read_receiver_within-sound (behind from) receiver receiver-read in
      let p = read_function_parameters-sound receiver.0 n.1 ps ps-read in
      let s = read_signature-sound text (top text most) most sound ps.1 signature signature-read in
      let b = read_body_within-sound signature.1 body body-read in
      let first = r.1 in
      let second = s.1 in
      let third = b.1 in
      let fourth = p.1 in
      given (ReadsFunction from) _ x body-then (
        (
          (
            behind from,
            stands-sound FuncKeyword from k,
            (
              receiver.1,
              r.0,
              (n.1, read_identifier-sound text receiver.1 n n-read, (ps.1, p.0, (signature.1, s.0, b.0))),
            ),
          ),
          refl,
          refl,
        ),
        omega arith,
      )

  abbrev ReadsTopLevel : Cursor → TopLevelDeclaration × Cursor → Type 0
  ReadsTopLevel from x = SpellsTopLevel text x.0 from x.1 × (top_level_depth x.0 ≤ most)

  read_top_level_within-sound : (from : Cursor) (x : TopLevelDeclaration × Cursor)
      → read_top_level_within text most from ≡ Some x → ReadsTopLevel from x
  unfolding read_top_level_within
  read_top_level_within-sound from x e =
      elim (two_ways (stands FuncKeyword from) _ _ (Some x) e) [
        | inl c ↦ (
            option_and_then_some _ (read_function_declaration_within text most from) x c.1 λ f f-read f-then.
            given (ReadsTopLevel from) _ x f-then (read_function_declaration_within-sound from f c.0 f-read)
            )
        | inr c ↦ elim (option_ways _ _ (of_next declaration_keyword from) (Some x) c.1) [
          | inl k ↦ absurd (none-some x k.1)
          | inr k ↦ (
              option_and_then_some _ (read_declaration text (top text most) k.0 from) x k.2 λ d d-read d-then.
              given (ReadsTopLevel from) _ x d-then
              (read_declaration-sound text (top text most) most sound k.0 from d k.1 d-read)
              )
        ]
      ]

  abbrev ReadsTopLevels : Cursor → List TopLevelDeclaration × Cursor → Type 0
  ReadsTopLevels from x = SpellsTopLevels text x.0 from x.1 × (x.1.left ≡ []) × (top_levels_depth x.0 ≤ most)

  read_top_levels_within-sound : (n : ℕ) (from : Cursor) (x : List TopLevelDeclaration × Cursor)
      → read_top_levels_within text most n from ≡ Some x → ReadsTopLevels from x
  unfolding read_top_levels_within
  read_top_levels_within-sound zero from x e = absurd (none-some x e)
  read_top_levels_within-sound (suc n) from x e =
      elim (two_ways (is_over text from) _ _ (Some x) e) [
        | inl c ↦ given (ReadsTopLevels from) _ x c.1 (refl, is_over-sound text from.left from.end c.0, omega arith)
        | inr c ↦ (
            option_and_then_some _ (read_top_level_within text most from) x c.1 λ first first-read first-then.
            option_and_then_some _ (take_semicolon first.1) x first-then λ end end-read end-then.
            option_and_then_some _ (read_top_levels_within text most n end) x end-then λ more more-read more-then.
            let h = read_top_level_within-sound from first first-read in
            let others = read_top_levels_within-sound n end more more-read in
            let one = h.1 in
            let rest = others.2 in
            given (ReadsTopLevels from) _ x more-then
            ((first.1, h.0, (end, take_semicolon-sound first.1 end end-read, others.0)), others.1, omega arith)
            )
      ]

  abbrev ReadsFile : Cursor → SourceFile × Cursor → Type 0
  ReadsFile from x = SpellsFile text x.0 from x.1 × (x.1.left ≡ []) × (file_depth x.0 ≤ most)

  pub read_file_within-sound : (from : Cursor) (x : SourceFile × Cursor) → read_file_within text most from ≡ Some x → ReadsFile from x
  unfolding read_file_within
  read_file_within-sound from x e =
      option_and_then_some _ (take PackageKeyword from) x e λ word word-read word-then.
      option_and_then_some _ (read_identifier text word) x word-then λ n n-read n-then.
      option_and_then_some _ (take_semicolon n.1) x n-then λ end end-read end-then.
      option_and_then_some _ (read_imports text (steps end) end) x end-then λ imports imports-read imports-then.
      option_and_then_some _ (read_top_levels_within text most
      (steps imports.1) imports.1) x imports-then λ declarations declarations-read declarations-then.
      let i = read_imports-sound text (steps end) end imports imports-read in
      let d = read_top_levels_within-sound (steps imports.1) imports.1 declarations declarations-read in
      given (ReadsFile from) _ x declarations-then (
        (
          (
            word,
            take-sound PackageKeyword from word word-read,
            (
              n.1,
              read_identifier-sound text word n n-read,
              (end, take_semicolon-sound n.1 end end-read, (imports.1, i, d.0)),
            ),
          ),
          refl,
          refl,
        ),
        d.1,
        d.2,
      )
