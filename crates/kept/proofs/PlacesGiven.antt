-- Where names are given; marks that give nothing, and addresses of what is given there.
use Rattle.std.proofs.Common.{◌≡◌, ℕ, Bool, true, false, not, ◌&&◌, ◌||◌, if◌then◌else◌, List, [], ◌∷◌, Option, Some, None, Bor, refl, sym, ap, ◌∙◌}
use Rattle.std.specs.Prelude.{◌==◌, map}
use Rattle.std.specs.List.{list_any}
use Rattle.std.proofs.lemmas.List.Folds.{list_any-append}
use Rattle.tree.specs.declared.expression.Expr.{Expr}
use Rattle.tree.specs.Syntax.{missing_expression}
use Rattle.tree.specs.View.{expression_syntax, expressions_syntax}
use Rattle.mentions.specs.declared.mark.Mark.{Mark as KeptMark}
use Rattle.mentions.specs.declared.mark.Mark.TheVariants.{Mentions, OfFields, RunsLiteral, Returns, Opens, Closes}
use Rattle.mentions.specs.declared.mark.Mention.{Mention as KeptMention}
use Rattle.mentions.specs.declared.mark.FieldMark.{FieldMark as KeptField}
use Rattle.mentions.specs.declared.mark.FieldMark.TheVariants.{CallsField, WritesField, HandsOver, HandsLiteral, Renews, ImportsAll}
use Rattle.mentions.specs.declared.mark.Taker.{Taker as KeptTaker}
use Rattle.mentions.specs.MarkViews.{field_mark_view, mark_view}
use Rattle.meaning.specs.Mentions.{BodyPlace, FieldMark, calls_field, writes_field, hands_over, hands_literal, renews, imports_all, Mark, of_fields, closes}
use Rattle.meaning.specs.Tracked.{Known, Placed, placed}
use Rattle.meaning.specs.Objects.{is_value_in}
use Rattle.meaning.specs.Uses.{Seen}
use Rattle.meaning.specs.Kept.{Gift, named_gift, element_gift, gifts, gift_places, items_places, places_given, is_of_import, is_place_given, points_elsewhere, holder}
use Rattle.kept.specs.KeptViews.{brings_names, field_places, gives_at, gives_there, is_declared_in, is_name_at}
use Rattle.kept.proofs.MarksAsked.{any_placed}

-- Places

pub name_there : (at : ℕ) (gs : List Gift) → list_any (is_name_at at) gs ≡ list_any (λ n. n == at) (gift_places gs)
name_there at [] = refl
name_there at (named_gift n ∷ gs) = ap (λ b. (n.at == at) || b) (name_there at gs)
name_there at (element_gift e ∷ gs) = name_there at gs

pub items_there : (at : ℕ) (es : List Expr)
    → list_any (gives_at at) (map expression_syntax es) ≡ list_any (λ n. n == at) (items_places (expressions_syntax es))
items_there at [] = refl
items_there at (e ∷ es) =
    let given = gifts missing_expression (expression_syntax e) in
    (λ i. name_there at given i || items_there at es i)
    ∙ sym (list_any-append (λ n. n == at) (gift_places given) (items_places (expressions_syntax es)))

-- Marks

pub fields_give : (known : Known) (site : ℕ) (m : FieldMark) → field_places known m ≡ places_given known (of_fields site m)
fields_give known site (calls_field f) = refl
fields_give known site (writes_field l by) = refl
fields_give known site (hands_over taker e) = refl
fields_give known site (hands_literal taker at) = refl
fields_give known site (renews number) = refl
fields_give known site imports_all = refl

pub no_field_given : (known : Known) (m : KeptField) → ((taker : KeptTaker) (e : Bor Expr) → m ≡ HandsOver taker e → ⊥)
    → [] ≡ field_places known (field_mark_view m)
no_field_given known (HandsOver taker e) not = absurd (not taker e refl)
no_field_given known (CallsField f) not = refl
no_field_given known (WritesField l by) not = refl
no_field_given known (HandsLiteral taker at) not = refl
no_field_given known (Renews number) not = refl
no_field_given known ImportsAll not = refl

pub none_given_there : (known : Known) (m : KeptMark) → ((site : ℕ) (f : Bor KeptField) → m ≡ OfFields site f → ⊥)
    → ((at : ℕ) (es : Bor (List Expr)) → m ≡ Returns at es → ⊥) → [] ≡ places_given known (mark_view m)
none_given_there known (OfFields site f) field items = absurd (field site f refl)
none_given_there known (Returns at es) field items = absurd (items at es refl)
none_given_there known (Mentions n) field items = refl
none_given_there known (RunsLiteral moment site at) field items = refl
none_given_there known (Opens b) field items = refl
none_given_there known Closes field items = refl

pub no_mention_given : (s : Seen) (x : ℕ) (m : KeptMark) → ((n : KeptMention) → m ≡ Mentions n → ⊥)
    → false ≡ is_place_given s x (mark_view m)
no_mention_given s x (Mentions n) mention = absurd (mention n refl)
no_mention_given s x (OfFields site f) mention = refl
no_mention_given s x (RunsLiteral moment site at) mention = refl
no_mention_given s x (Returns at es) mention = refl
no_mention_given s x (Opens b) mention = refl
no_mention_given s x Closes mention = refl

pub names_brought : (site : ℕ) (m : FieldMark) → brings_names m ≡ is_of_import (of_fields site m)
names_brought site (calls_field f) = refl
names_brought site (writes_field l by) = refl
names_brought site (hands_over taker e) = refl
names_brought site (hands_literal taker at) = refl
names_brought site (renews number) = refl
names_brought site imports_all = refl

pub no_names_brought : (m : KeptField) → (m ≡ ImportsAll → ⊥) → false ≡ brings_names (field_mark_view m)
no_names_brought ImportsAll not = absurd (not refl)
no_names_brought (HandsOver taker e) not = refl
no_names_brought (CallsField f) not = refl
no_names_brought (WritesField l by) not = refl
no_names_brought (HandsLiteral taker at) not = refl
no_names_brought (Renews number) not = refl

pub no_import : (m : KeptMark) → ((site : ℕ) (f : Bor KeptField) → m ≡ OfFields site f → ⊥) → false ≡ is_of_import (mark_view m)
no_import (OfFields site f) field = absurd (field site f refl)
no_import (Mentions n) field = refl
no_import (RunsLiteral moment site at) field = refl
no_import (Returns at es) field = refl
no_import (Opens b) field = refl
no_import Closes field = refl

-- a mark that closes a body gives nothing
pub closes_nothing : (s : Seen) (x at : ℕ) (bs : List BodyPlace) → gives_there s x at bs closes ≡ false
closes_nothing s x at bs = by (is_declared_in s bs x)
  where
    by : (b : Bool) → (b && false) ≡ false
    by true = refl
    by false = refl

-- The object that holds

module _ (s : Seen) (x : ℕ) where
  abbrev held_if : Bool → Bool → Option ℕ
  held_if is_value points = if is_value || not points then Some x else None

  pub held_unpointed : list_any (λ (p : Placed). points_elsewhere s x p.mark) s.marks ≡ false → Some x ≡ holder s (Some x)
  held_unpointed none = by (is_value_in s.known s.marks x) ∙ ap (held_if (is_value_in s.known s.marks x)) (sym none)
    where
      by : (b : Bool) → Some x ≡ held_if b false
      by true = refl
      by false = refl

  pub held_value : is_value_in s.known s.marks x ≡ true → Some x ≡ holder s (Some x)
  held_value is = ap (λ b. held_if b (list_any (λ (p : Placed). points_elsewhere s x p.mark) s.marks)) (sym is)

  pub held_none : is_value_in s.known s.marks x ≡ false
      → list_any (λ (p : Placed). points_elsewhere s x p.mark) s.marks ≡ true → None ≡ holder s (Some x)
  held_none is points = λ i. held_if (sym is i) (sym points i)

  -- by the marks without their bodies
  pub points_placed : (ms : List Mark)
      → list_any (λ (p : Placed). points_elsewhere s x p.mark) (placed [] ms) ≡ list_any (points_elsewhere s x) ms
  points_placed ms = any_placed (points_elsewhere s x) refl [] ms
