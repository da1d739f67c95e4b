-- What functions under `go` get, argument by argument.
use Rattle.std.proofs.Common.{◌≡◌, ℕ, ◌+◌, Bool, List, [], ◌∷◌, ◌++◌, Option, Some, None, option_map, map, append_assoc, sym, ap, ◌∙◌}
use Rattle.tree.specs.Syntax.{Expression, Expressions, expression_and}
use Rattle.tracked.specs.LocalViews.{SeenLocal, entry_of}
use Rattle.meaning.specs.BodyEvents.{sent_from, sent_there}
use Rattle.meaning.specs.Mentions.{BodyPlace, Call, is_none_left}
use Rattle.meaning.specs.Tracked.{Local}
use Rattle.meaning.specs.Uses.{Seen, Sent}
use Rattle.uses.specs.SentViews.{argument_sent, entry_sent}

-- a local that was found, with what the marks of its file do to it
pub sent_same : (s : Seen) (bs : List BodyPlace) (c : Call) (k : ℕ) (e : SeenLocal) (o : Option Local)
    → Some e ≡ option_map (entry_of s) o
    → entry_sent s bs c k e ≡ sent_there s bs c k o
sent_same s bs c k e None is = absurd cc
sent_same s bs c k e (Some l) is =
    let same : e ≡ entry_of s l = cc in
    ap (λ (x : SeenLocal). entry_sent s bs c k x) same

pub sent_first : (s : Seen) (bs : List BodyPlace) (c : Call) (k : ℕ) (is_last : Bool) (e : Expression) (es : Expressions)
    → is_last ≡ is_none_left es
    → sent_from s bs c k (expression_and e es) ≡ argument_sent s bs c k is_last e ++ sent_from s bs c (k + 1) es
sent_first s bs c k is_last e es last = ap (λ b. argument_sent s bs c k b e ++ sent_from s bs c (k + 1) es) (sym last)

module _ {X : Type 0} where
  -- a loop keeps that what was added, with what the rest adds, is the whole
  pub adds_next : (now next all names rest whole : List X) → now ++ all ≡ whole → all ≡ names ++ rest
      → next ≡ now ++ names → next ++ rest ≡ whole
  adds_next now next all names rest whole kept parts added =
      ap (λ l. l ++ rest) added ∙ append_assoc now names rest ∙ ap (λ l. now ++ l) (sym parts) ∙ kept
