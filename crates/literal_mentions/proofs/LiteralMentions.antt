-- The locals that a literal mentions: mark by mark, and in the order of their places.
use Rattle.std.proofs.Common.{◌≡◌, ℕ, ◌+◌, ◌<◌, ◌≤◌, nat_le, Bool, true, false, if◌then◌else◌, List, [], ◌∷◌, ◌++◌, length, get_or, drop, map, flat_map, refl, sym, ap, ◌∙◌}
use Rattle.std.specs.List.{list_any}
use Rattle.std.specs.Prelude.{◌==◌, OnOk, Result, Ok, Err}
use Rattle.std.specs.List.Sorted.{IsSortedByKey, IsStableByKey}
use Rattle.std.specs.Ordering.{nat_cmp}
use Rattle.std.proofs.lemmas.List.{at_drop_all}
use Rattle.tree.proofs.Depths.{drop_item}
use Rattle.mentions.specs.declared.mark.BodyPlace.{BodyPlace as KeptBody}
use Rattle.mentions.specs.declared.mark.Mark.{Mark as KeptMark}
use Rattle.mentions.specs.MarkViews.{body_view, mark_view, marks_view}
use Rattle.meaning.specs.Mentions.{BodyPlace, Mark, mentions, of_fields, runs_literal, returns, opens, closes}
use Rattle.meaning.specs.Tracked.{Known, Placed, placed}
use Rattle.meaning.specs.Kept.{MentionAt, put_mention, in_order_of_place}
use Rattle.tracked.specs.LocalViews.{bodies_at}
use Rattle.kept_forms.proofs.AddedParts.{adds_next, all_there}
use Rattle.literal_mentions.specs.declared.mentioned.MentionAt.{MentionAt as KeptMention}
use Rattle.literal_mentions.specs.LiteralViews.{mention_at_view, mentioned_if, AddsMentions}
use Rattle.literal_mentions.proofs.StableOrder.{put, in_order, sorted_is}

-- Mark by mark

abbrev pub mentioned_among : Known → ℕ → List Placed → List MentionAt
mentioned_among known literal ps = flat_map (λ p. mentioned_if known literal p.bodies p.mark) ps

nothing_if : (b : Bool) (rest : List MentionAt) → rest ≡ (if b then [] else []) ++ rest
nothing_if true rest = refl
nothing_if false rest = refl

module _ (known : Known) (literal : ℕ) where
  mentioned-mark : (bs : List BodyPlace) (m : Mark) (ms : List Mark)
      → mentioned_among known literal (placed bs (m ∷ ms))
      ≡ mentioned_if known literal (bodies_at bs m) m ++ mentioned_among known literal (placed (bodies_at bs m) ms)
  unfolding placed
  mentioned-mark bs (mentions m) ms = refl
  mentioned-mark bs (of_fields site m) ms = refl
  mentioned-mark bs (runs_literal moment site at) ms = refl
  mentioned-mark bs (returns at es) ms = refl
  mentioned-mark bs (opens b) ms = refl
  mentioned-mark bs closes ms = nothing_if (list_any (λ b. b.at == literal) (bodies_at bs closes)) _

  module _ (marks : List KeptMark) (i : ℕ) where
    pub mentioned_next : (m : KeptMark) → i < length marks → m ≡ get_or marks i m → (before after slice : List KeptBody)
        → map body_view after ≡ bodies_at (map body_view before) (mark_view m) → slice ≡ after
        → (now next : List KeptMention) (whole : List MentionAt)
        → AddsMentions now next (mentioned_if known literal (map body_view slice) (mark_view m))
        → map mention_at_view now
        ++ mentioned_among known literal (placed (map body_view before) (marks_view (drop i marks))) ≡ whole
        → map mention_at_view next
        ++ mentioned_among known literal (placed (map body_view after) (marks_view (drop (i + 1) marks))) ≡ whole
    mentioned_next m within is before after slice around same now next whole adds so_far =
        let rest : List Mark = marks_view (drop (i + 1) marks) in
        let there : List BodyPlace → List MentionAt = λ bs. mentioned_if known literal bs (mark_view m) in
        let left : List BodyPlace → List MentionAt = λ bs. mentioned_among known literal (placed bs rest) in
        adds_next (map mention_at_view now) (map mention_at_view next) _ (there (map body_view after))
        (left (map body_view after)) whole so_far
        (ap (λ (ms : List KeptMark). mentioned_among known literal (placed (map body_view before) (marks_view ms)))
        (drop_item marks i m within is)
        ∙ mentioned-mark (map body_view before) (mark_view m) rest
        ∙ sym (ap (λ (bs : List BodyPlace). there bs ++ left bs) around))
        (adds ∙ ap (λ (bs : List KeptBody). map mention_at_view now ++ there (map body_view bs)) same)

    pub mentioned_last : length marks ≤ i → (bs : List BodyPlace) (now : List KeptMention) (whole : List MentionAt)
        → map mention_at_view now ++ mentioned_among known literal (placed bs (marks_view (drop i marks))) ≡ whole
        → map mention_at_view now ≡ whole
    unfolding placed
    mentioned_last past bs now whole so_far =
        all_there _ _ _
        (at_drop_all (λ (ms : List KeptMark). mentioned_among known literal (placed bs (marks_view ms))) marks i past) so_far

-- In the order of their places

abbrev pub place_of : KeptMention → ℕ
place_of m = m.at

view_put : (m : KeptMention) (ns : List KeptMention)
    → map mention_at_view (put place_of m ns) ≡ put_mention (mention_at_view m) (map mention_at_view ns)
view_put m [] = refl
view_put m (n ∷ ns) =
    by (nat_le m.at n.at)
    ∙ ap (λ r. if nat_le m.at n.at then mention_at_view m ∷ mention_at_view n ∷ map mention_at_view ns else mention_at_view n ∷ r)
    (view_put m ns)
  where
    by : (t : Bool)
        → map mention_at_view (if t then m ∷ n ∷ ns else n ∷ put place_of m ns)
        ≡ (if t then mention_at_view m ∷ mention_at_view n ∷ map mention_at_view ns
        else mention_at_view n ∷ map mention_at_view (put place_of m ns))
    by true = refl
    by false = refl

view_in_order : (ms : List KeptMention) → map mention_at_view (in_order place_of ms) ≡ in_order_of_place (map mention_at_view ms)
view_in_order [] = refl
view_in_order (m ∷ ms) = view_put m (in_order place_of ms) ∙ ap (put_mention (mention_at_view m)) (view_in_order ms)

pub ordered_by_place : {X E S : Type 0} (result : Result X E) (before after : List KeptMention)
    → OnOk result S
    → (S → IsSortedByKey place_of nat_cmp after)
    → IsStableByKey place_of nat_cmp before after
    → OnOk result (map mention_at_view after ≡ in_order_of_place (map mention_at_view before))
ordered_by_place (Ok x) before after s sorted stable =
    ap (map mention_at_view) (sorted_is place_of before after (sorted s) stable) ∙ view_in_order before
ordered_by_place (Err e) before after s sorted stable = s
