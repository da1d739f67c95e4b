-- The directives of lines, one more after the other.
use Rattle.std.proofs.Common.{◌≡◌, ◌∙◌, ◌+◌, ◌<◌, length, get_or, drop, map, ℕ, Bool, true, false, if◌then◌else◌, List, [], ◌∷◌, ◌++◌, Option, None, Some, is_some, option_map, refl, sym, ap, true≢false}
use Rattle.std.specs.Prelude.{◌==◌, ◌&&◌}
use Rattle.std.specs.Option.{option_or}
use Rattle.std.proofs.lemmas.List.{drop_more}
use Rattle.std.proofs.lemmas.Bool.{and_from, and_parts}
use Rattle.std.proofs.lemmas.Bool.Decides.{Decides-eqb}
use Rattle.directives.specs.Directives.{DirectiveView, directive_view, directives_of}
use Rattle.lexer.specs.declared.source.Source.{Source}
use Rattle.directives.specs.declared.found.Directive.{Directive}
use Rattle.accepting.specs.ByLines.{Lines, SourceDirective, directives_from, in_source, is_on, on_line}
use Rattle.accepting.specs.LinesKept.{line_or}

line_last : (o : Option DirectiveView) → option_or o None ≡ o
line_last None = refl
line_last (Some x) = refl

or_assoc : (a b c : Option DirectiveView) → option_or (option_or a b) c ≡ option_or a (option_or b c)
or_assoc None b c = refl
or_assoc (Some x) b c = refl

either : (b : Bool) (x : DirectiveView) (all front back : Option DirectiveView) → all ≡ option_or front back
    → (if b then Some x else all) ≡ option_or (if b then Some x else front) back
either true x all front back is = refl
either false x all front back is = is

module _ (file n : ℕ) where
  on_line_append : (xs ys : List SourceDirective)
      → on_line (xs ++ ys) file n ≡ option_or (on_line xs file n) (on_line ys file n)
  on_line_append [] ys = refl
  on_line_append (d ∷ ds) ys =
      either (is_on file n d) d.directive (on_line (ds ++ ys) file n) (on_line ds file n) (on_line ys file n)
      (on_line_append ds ys)

  -- some were added, where their lines had none, and then the rest
  lines_next : (old new : Option DirectiveView) (xs ys : List SourceDirective)
      → new ≡ option_or old (on_line xs file n)
      → option_or new (on_line ys file n) ≡ option_or old (on_line (xs ++ ys) file n)
  lines_next old new xs ys is =
      ap (λ o. option_or o (on_line ys file n)) is
      ∙ or_assoc old (on_line xs file n) (on_line ys file n)
      ∙ ap (option_or old) (sym (on_line_append xs ys))

-- a directive of a line that had none was added
module _ (old new : Lines) (file : ℕ) (d : DirectiveView) where
  pub line_added : old file d.line ≡ None
      → ((other n : ℕ) → new other n ≡ (if (file == other) && (d.line == n) then Some d else old other n))
      → (other n : ℕ) → new other n ≡ option_or (old other n) (line_or (in_source file d) other n None)
  line_added none grew other n = grew other n ∙ by ((file == other) && (d.line == n)) refl
    where
      by : (b : Bool) → ((file == other) && (d.line == n)) ≡ b
          → (if b then Some d else old other n) ≡ option_or (old other n) (if b then Some d else None)
      by true e =
          let both = and_parts (file == other) (d.line == n) e in
          let here : old other n ≡ None =
          (λ i. old (sym ((Decides-eqb file other).0 both.0) i) (sym ((Decides-eqb d.line n).0 both.1) i)) ∙ none in
          sym (ap (λ o. option_or o (Some d)) here)
      by false e = sym (line_last (old other n))

-- one of a line that has one is left out
pub line_there : (old : Lines) (file : ℕ) (d : DirectiveView) → is_some (old file d.line) ≡ true
    → (other n : ℕ) → old other n ≡ option_or (old other n) (line_or (in_source file d) other n None)
line_there old file d there other n = by ((file == other) && (d.line == n)) refl
  where
    kept : (o : Option DirectiveView) → is_some o ≡ true → o ≡ option_or o (Some d)
    kept None e = absurd (true≢false (sym e))
    kept (Some x) e = refl

    by : (b : Bool) → ((file == other) && (d.line == n)) ≡ b
        → old other n ≡ option_or (old other n) (if b then Some d else None)
    by true e =
        let both = and_parts (file == other) (d.line == n) e in
        let here : is_some (old other n) ≡ true =
        (λ i. is_some (old (sym ((Decides-eqb file other).0 both.0) i) (sym ((Decides-eqb d.line n).0 both.1) i)))
        ∙ there in
        kept (old other n) here
    by false e = sym (line_last (old other n))

-- what a map has of a line, as what it stands for
pub seen_if : (b : Bool) (d : Directive) (o : Option Directive)
    → option_map directive_view (if b then Some d else o)
    ≡ (if b then Some (directive_view d) else option_map directive_view o)
seen_if true d o = refl
seen_if false d o = refl

pub is_some_seen : (o : Option Directive) → is_some (option_map directive_view o) ≡ is_some o
is_some_seen None = refl
is_some_seen (Some d) = refl

pub none_seen : (o : Option Directive) → is_some o ≡ false → option_map directive_view o ≡ None
none_seen None e = refl
none_seen (Some d) e = absurd (true≢false e)

-- no line has one, so there is none
pub none_there : (ds : List SourceDirective) → ((file n : ℕ) → on_line ds file n ≡ None) → ds ≡ []
none_there [] none = refl
none_there (d ∷ ds) none =
    let own : is_on d.file d.directive.line d ≡ true =
    and_from (d.file == d.file) (d.directive.line == d.directive.line)
    ((Decides-eqb d.file d.file).1 refl) ((Decides-eqb d.directive.line d.directive.line).1 refl) in
    let some : Some d.directive ≡ None =
    sym (ap (λ b. if b then Some d.directive else on_line ds d.file d.directive.line) own)
    ∙ none d.file d.directive.line in
    cc

-- the directives of a source, and of those behind it
source_next : (file : ℕ) (ss : List Source) (s : Source) (text : List ℕ) (found : List Directive)
    → file < length ss → s ≡ get_or ss file s
    → text ≡ s.bytes.items
    → map directive_view found ≡ directives_of text
    → directives_from file (drop file ss)
    ≡ map (in_source file) (map directive_view found) ++ directives_from (file + 1) (drop (file + 1) ss)
source_next file ss s text found inside is same are =
    ap (directives_from file) (drop_more ss file s inside)
    ∙ ap (λ x. map (in_source file) (directives_of x.bytes.items) ++ directives_from (file + 1) (drop (file + 1) ss))
    (sym is)
    ∙ ap (λ ds. map (in_source file) ds ++ directives_from (file + 1) (drop (file + 1) ss))
    (sym (are ∙ ap directives_of same))

module _ (file other n : ℕ) (old new whole : Option DirectiveView) where
  -- those of a source were added, and then those of the sources behind it
  pub file_lines : (ss : List Source) (s : Source) (text : List ℕ) (found : List Directive)
      → file < length ss → s ≡ get_or ss file s
      → text ≡ s.bytes.items
      → map directive_view found ≡ directives_of text
      → new ≡ option_or old (on_line (map (in_source file) (map directive_view found)) other n)
      → option_or old (on_line (directives_from file (drop file ss)) other n) ≡ whole
      → option_or new (on_line (directives_from (file + 1) (drop (file + 1) ss)) other n) ≡ whole
  file_lines ss s text found inside is same are grew so_far =
      lines_next other n old new (map (in_source file) (map directive_view found))
      (directives_from (file + 1) (drop (file + 1) ss)) grew
      ∙ ap (λ l. option_or old (on_line l other n)) (sym (source_next file ss s text found inside is same are))
      ∙ so_far
