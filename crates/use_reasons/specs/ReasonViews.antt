-- What the program keeps of reasons, and what it stands for.
use Rattle.std.specs.Prelude.{ℕ, ◌≡◌, nat_eq, if◌then◌else◌, List, ◌++◌, Option, Some, option_map}
use Rattle.indexmap.specs.IndexMap.{get}
use Rattle.meaning.specs.Mentions.{BodyPlace, Mark}
use Rattle.meaning.specs.OuterBlocks.{or_else}
use Rattle.meaning.specs.Tracked.{Known, Placed}
use Rattle.use_reasons.specs.declared.reason.ReasonText.{ReasonText as KeptText}
use Rattle.use_reasons.specs.declared.reason.ReasonText.TheVariants.{Words, Named}
use Rattle.use_reasons.specs.declared.reason.UseReason.{UseReason as KeptReason}
use Rattle.use_reasons.specs.declared.table.Reasons.{Reasons}
use Rattle.use_reasons.specs.declared.uses.AskedOf.{AskedOf as KeptOf}
use Rattle.use_reasons.specs.declared.uses.AskedOf.TheVariants.{OfCancel, OfGroup, BoundAgain}
use Rattle.use_reasons.specs.declared.uses.Told.{Told}
use Rattle.use_reasons.specs.UseReasons.{UseReason, AskedOf, of_cancel, of_group, of_binding, compared_in, cancel_by, group_by, pointed_by, first_compared, first_cancel, first_group, first_pointed}

abbrev pub text_view : KeptText → List ℕ
text_view (Words words) = words.now
text_view (Named before name after) = before.now ++ (name.now ++ after.now)

abbrev pub reason_view : KeptReason → UseReason
reason_view r = record { at = r.at; text = text_view r.text }

abbrev pub of_view : KeptOf → AskedOf
of_view OfCancel = of_cancel
of_view OfGroup = of_group
of_view BoundAgain = of_binding

-- Tables of reasons

abbrev pub reason_in : Reasons → ℕ → Option UseReason
reason_in reasons n = option_map reason_view (get nat_eq reasons.by_number n)

abbrev pub updated : ℕ → UseReason → Option UseReason → ℕ → Option UseReason
updated number r old n = if nat_eq number n then Some r else old

-- of two reasons of a number the first counts
abbrev pub Adds : Reasons → Reasons → (ℕ → Option UseReason) → Type 0
Adds before after f = (n : ℕ) → reason_in after n ≡ or_else (reason_in before n) (f n)

-- what a mark tells is added
pub record Finds (known : Known) (bodies : List BodyPlace) (mark : Mark) (before after : Told) : Type 0 where
  pub compared : Adds before.compared after.compared (λ at. compared_in at bodies mark)
  pub cancels : Adds before.cancels after.cancels (λ at. cancel_by known at bodies mark)
  pub groups : Adds before.groups after.groups (λ at. group_by known at bodies mark)
  pub pointers : Adds before.pointers after.pointers (λ n. pointed_by known n bodies mark)

-- the tables have what these marks tell
pub record Has (known : Known) (marks : List Placed) (told : Told) : Type 0 where
  pub compared : (at : ℕ) → reason_in told.compared at ≡ first_compared at marks
  pub cancels : (at : ℕ) → reason_in told.cancels at ≡ first_cancel known at marks
  pub groups : (at : ℕ) → reason_in told.groups at ≡ first_group known at marks
  pub pointers : (n : ℕ) → reason_in told.pointers n ≡ first_pointed known n marks
