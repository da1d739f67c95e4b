-- What the program keeps of the mentions in a literal, and what it stands for.
use Rattle.std.specs.Prelude.{ℕ, ◌≡◌, ◌==◌, if◌then◌else◌, List, [], ◌++◌, map}
use Rattle.std.specs.List.{list_any}
use Rattle.literal_mentions.specs.declared.mentioned.MentionAt.{MentionAt as KeptMention}
use Rattle.meaning.specs.Mentions.{BodyPlace, Mark}
use Rattle.meaning.specs.Tracked.{Known}
use Rattle.meaning.specs.Kept.{MentionAt, mentioned_there}

abbrev pub mention_at_view : KeptMention → MentionAt
mention_at_view m = record { at = m.at; number = m.number }

abbrev pub AddsMentions : List KeptMention → List KeptMention → List MentionAt → Type 0
AddsMentions before after ms = map mention_at_view after ≡ map mention_at_view before ++ ms

-- the local that a mark mentions, if the literal at that offset is one of these bodies
abbrev pub mentioned_if : Known → ℕ → List BodyPlace → Mark → List MentionAt
mentioned_if known literal bodies mark =
    if list_any (λ b. b.at == literal) bodies then mentioned_there known mark else []
