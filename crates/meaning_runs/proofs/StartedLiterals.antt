-- In the tree of a text each literal that a body starts in a group, or tries to start, is there: it follows the callee
-- of the call that starts it.
use Rattle.std.proofs.Common.{◌≡◌, ℕ, true, List, Option, Some, refl, subst}
use Rattle.meaning.specs.Mentions.{BodyPlace, Call, argument_use, called, Mention}
use Rattle.meaning.specs.Tracked.{Local}
use Rattle.meaning.specs.Uses.{Seen, Event}
use Rattle.meaning_runs.specs.Bodies.{Body}
use Rattle.meaning_runs.specs.EventSources.{HasSource}
use Rattle.meaning_runs.specs.Laws.{IsThere}
use Rattle.meaning_runs.specs.RunLists.{StartedLiteralsAreThere}
use Rattle.meaning_runs.specs.Steps.{Starts, by_start, by_try}
use Rattle.meaning_runs.proofs.DeferredLiterals.{HasLiteral, literal_there, of_text_in_form}
use Rattle.meaning_runs.proofs.EventSources.{has_source}
use Rattle.meaning_runs.proofs.GroupUses.{AreMembers, IsStart, UsesGroup, starts, tries, waits, waits_later, lends, HasGroupUse, is_about_group, group_use_there}
use Rattle.meaning_runs.proofs.MarkForms.{literal_of}
use Rattle.meaning_runs.proofs.MarksBeside.{IsCallee, IsBeside, AreInForm}

pub starts_about : (e : Event) (v : ℕ) (literal : Option ℕ) → Starts e v literal → is_about_group e ≡ true
starts_about e v literal by_start = refl
starts_about e v literal by_try = refl

-- what a mention that starts something says
pub record IsStartOf (seen : Seen) (bodies : List BodyPlace) (m : Mention) (l : Local) (v : ℕ) (literal : Option ℕ)
    : Type 0 where
  pub call : Call
  pub is_start_there : IsStart m call
  pub are_members : AreMembers seen bodies l
  pub is_it : l.number ≡ v
  pub is_literal : literal_of call ≡ literal

pub start_said : (seen : Seen) (bodies : List BodyPlace) (m : Mention) (l : Local) (e : Event) (v : ℕ) (literal : Option ℕ)
    → UsesGroup seen bodies m l e
    → Starts e v literal
    → IsStartOf seen bodies m l v literal
start_said seen bodies m l e v literal (starts c s h) by_start =
    record { call = c; is_start_there = s; are_members = h; is_it = refl; is_literal = refl }
start_said seen bodies m l e v literal (tries c s h) by_try =
    record { call = c; is_start_there = s; are_members = h; is_it = refl; is_literal = refl }
start_said seen bodies m l e v literal (waits h) s = elim s [ ]
start_said seen bodies m l e v literal (waits_later h) s = elim s [ ]
start_said seen bodies m l e v literal (lends f k h) s = elim s [ ]

-- the mention is the callee of the call, whose only argument is a literal in the body
pub record HasArgument (b : Body) (bodies : List BodyPlace) (m : Mention) (c : Call) (at : ℕ) : Type 0 where
  pub callee : IsCallee b.file.marks bodies m c
  pub literal : HasLiteral b at (argument_use (Some c))

module _ (b : Body) (form : AreInForm b.file.marks) (e : Event) where
  pub argument_there : (u : HasGroupUse b e) (c : Call) (at : ℕ)
      → u.mention.role ≡ called c
      → literal_of c ≡ Some at
      → HasArgument b u.placed.bodies u.mention c at
  argument_there u c at is_callee is =
      let bodies = u.placed.bodies in
      let beside = subst (λ m. IsBeside b.file.marks bodies m) u.is_mention (form.beside u.placed u.is_of_file) in
      let callee = beside c is_callee in
      record {
        callee = callee;
        literal = literal_there b bodies at (argument_use (Some c)) u.stands_here (callee.literal at is);
      }

  pub started_literal_there : HasSource b e → (v at : ℕ) → Starts e v (Some at) → IsThere b (Some at)
  started_literal_there source v at is =
      let u = group_use_there b e source (starts_about e v (Some at) is) in
      let s = start_said b.file u.placed.bodies u.mention u.use_of.local e v (Some at) u.use_of.uses is in
      let h = (argument_there u s.call at s.is_start_there.is_callee s.is_literal).literal in
      (h.literal, h.is_literal, h.begins_there)

pub started_literals_are_there : StartedLiteralsAreThere
started_literals_are_there b t x o v at text lists among is =
    started_literal_there b (of_text_in_form b text) o.event (has_source b t x lists o among) v at is
