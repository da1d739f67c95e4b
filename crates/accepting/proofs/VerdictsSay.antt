-- What verdicts say of the findings of a package.
use Rattle.std.proofs.Common.{◌≡◌, Bool, true, false, List, [], ◌∷◌, refl, sym, ap, ◌∙◌, true≢false}
use Rattle.std.specs.List.{All, list_all}
use Rattle.std.proofs.lemmas.List.Elements.{All-cons, All-head, All-nil, All-tail}
use Rattle.std.proofs.lemmas.Bool.{and_from, and_parts}
use Rattle.accepting.specs.Findings.{FindingEntry, is_accepted, verdict_by}
use Rattle.accepting.specs.Laws.{AcceptedSaysAll, YesSaysNone}
use Rattle.accepting.specs.declared.findings.Verdict.{Verdict}
use Rattle.accepting.specs.declared.findings.Verdict.TheVariants.{Yes, Accepted}

abbrev IsAccepted : FindingEntry → Type 0
IsAccepted f = is_accepted f ≡ true

all_from : (fs : List FindingEntry) → list_all is_accepted fs ≡ true → All IsAccepted fs
all_from [] e = All-nil IsAccepted
all_from (f ∷ fs) e =
    let both = and_parts (is_accepted f) (list_all is_accepted fs) e in
    All-cons IsAccepted f fs both.0 (all_from fs both.1)

all_to : (fs : List FindingEntry) → All IsAccepted fs → list_all is_accepted fs ≡ true
all_to [] each = refl
all_to (f ∷ fs) each =
    and_from (is_accepted f) (list_all is_accepted fs) (All-head IsAccepted f fs each)
    (all_to fs (All-tail IsAccepted f fs each))

-- the verdicts apart
abbrev is_yes : Verdict → Bool
is_yes Yes = true
is_yes verdict = false

abbrev is_all_accepted : Verdict → Bool
is_all_accepted Accepted = true
is_all_accepted verdict = false

abbrev has_findings : List FindingEntry → Bool
has_findings [] = false
has_findings (f ∷ fs) = true

by_accepted : (t : Bool) → is_all_accepted (verdict_by t) ≡ t
by_accepted true = refl
by_accepted false = refl

by_not_yes : (t : Bool) → is_yes (verdict_by t) ≡ false
by_not_yes true = refl
by_not_yes false = refl

pub accepted_says : AcceptedSaysAll
accepted_says [] = ((λ e. absurd (true≢false (sym (ap is_all_accepted e)))), (λ has. absurd (has.0 refl)))
accepted_says (f ∷ fs) = (
  (λ e. (
    (λ none. true≢false (ap has_findings none)),
    all_from (f ∷ fs) (sym (by_accepted (list_all is_accepted (f ∷ fs))) ∙ ap is_all_accepted e),
  )),
  (λ has. ap verdict_by (all_to (f ∷ fs) has.1)),
)

pub yes_says : YesSaysNone
yes_says [] = ((λ e. refl), (λ e. refl))
yes_says (f ∷ fs) = (
  (λ e. absurd (true≢false (sym (ap is_yes e) ∙ by_not_yes (list_all is_accepted (f ∷ fs))))),
  (λ none. absurd (true≢false (ap has_findings none))),
)
