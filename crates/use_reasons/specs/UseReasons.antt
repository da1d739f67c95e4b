-- Why uses stand in a report that the rules don't allow. Of a cancel function, a group or a maker used otherwise the
-- form is told in which its name stands; of a variable that is bound although a literal captures it, where the first
-- literal stands that does so; of a result with a name, where it has it.
use Rattle.std.specs.Prelude.{ℕ, ◌==◌, nat_le, nat_lt, Bool, true, false, not, ◌&&◌, if◌then◌else◌, List, [], ◌∷◌, ◌++◌, Option, Some, None}
use Rattle.tree.specs.Syntax.{Identifier, Signature, signature_of}
use Rattle.meaning.specs.FunctionFacts.{FunctionFacts}
use Rattle.meaning.specs.Mentions.{Named, Role, argument, found_nil, found_error, Mention, BodyPlace, Mark, mentions, opens}
use Rattle.meaning.specs.OuterBlocks.{or_else}
use Rattle.meaning.specs.Scopes.{parameters_named}
use Rattle.meaning.specs.Tracked.{Known, facts_of, is_variable, local_meant_or, variable_of, Placed}
use Rattle.meaning.specs.Uses.{last_name}
use Rattle.reasons.specs.Reasons.{KnownCallee, unknown, known as is_known, Reason, compared, cancel_reason, group_reason, giver_reason, errgroup_reason, NameTold, no_name, callee_name, own_name, Told, told, Pointer, captured_here, result_has_name, pointer_text}

-- what is told of a use, and at which offset
pub record UseReason : Type 0 where
  pub at : ℕ
  pub text : List ℕ

-- The form in which a name stands

abbrev pub known_by : Option FunctionFacts → KnownCallee
known_by None = unknown
known_by (Some facts) = is_known

-- of the function that is called with the name
abbrev pub callee_known : Known → Role → KnownCallee
callee_known known (argument k has_address c) = known_by (facts_of known c.callee)
callee_known known role = unknown

-- that function
abbrev pub callee_told : Named → Role → List ℕ
callee_told n (argument k has_address c) = last_name c.callee
callee_told n role = last_name n

abbrev pub text_by : NameTold → Told → Mention → List ℕ
text_by no_name t m = t.before
text_by callee_name t m = t.before ++ (callee_told m.named m.role ++ t.after)
text_by own_name t m = t.before ++ (last_name m.named ++ t.after)

abbrev pub told_text : Told → Mention → List ℕ
told_text t m = text_by t.name t m

abbrev pub told_as : Reason → Mention → UseReason
told_as r m = record { at = m.named.at; text = told_text (told r) m }

-- the local's number is the offset of a place in the body, or in its signature
abbrev pub is_around : ℕ → BodyPlace → Bool
is_around n b = nat_le b.at n && nat_lt n b.braces.end

-- the innermost body around the mention is a literal, and the local is declared outside
abbrev pub is_captured : ℕ → List BodyPlace → Bool
is_captured n [] = false
is_captured n (b ∷ bs) = not (is_around n b)

-- what means no variable is a maker or a giver
abbrev pub cancel_form : Known → List BodyPlace → Mention → Option ℕ → Reason
cancel_form known bodies m None = giver_reason m.role
cancel_form known bodies m (Some n) =
    cancel_reason (callee_known known m.role) (is_captured n bodies) m.named.selected m.role

abbrev pub form_of_cancel : Known → List BodyPlace → Mention → Reason
form_of_cancel known bodies m = cancel_form known bodies m (variable_of known m)

abbrev pub cancel_told : Known → List BodyPlace → Mention → UseReason
cancel_told known bodies m = told_as (form_of_cancel known bodies m) m

-- what means no variable is the package `errgroup`
abbrev pub group_form : Known → List BodyPlace → Mention → Option ℕ → Reason
group_form known bodies m None = errgroup_reason m.role
group_form known bodies m (Some n) =
    group_reason (callee_known known m.role) (is_captured n bodies) m.named.selected m.role

abbrev pub form_of_group : Known → List BodyPlace → Mention → Reason
form_of_group known bodies m = group_form known bodies m (variable_of known m)

abbrev pub group_told : Known → List BodyPlace → Mention → UseReason
group_told known bodies m = told_as (form_of_group known bodies m) m

abbrev pub only_of : ℕ → UseReason → ℕ → Option UseReason
only_of number r n = if number == n then Some r else None

-- a mention at that offset
abbrev pub cancel_by : Known → ℕ → List BodyPlace → Mark → Option UseReason
cancel_by known at bodies (mentions m) = only_of m.named.at (cancel_told known bodies m) at
cancel_by known at bodies mark = None

abbrev pub group_by : Known → ℕ → List BodyPlace → Mark → Option UseReason
group_by known at bodies (mentions m) = only_of m.named.at (group_told known bodies m) at
group_by known at bodies mark = None

abbrev pub is_comparison : Role → Bool
is_comparison (found_nil nil) = true
is_comparison (found_error nil row) = true
is_comparison role = false

-- a condition finds out something of the name at that offset
abbrev pub compared_by : ℕ → Mention → Option UseReason
compared_by at m = if is_comparison m.role then only_of m.named.at (told_as compared m) at else None

abbrev pub compared_in : ℕ → List BodyPlace → Mark → Option UseReason
compared_in at bodies (mentions m) = compared_by at m
compared_in at bodies mark = None

-- Where to look for a literal, or for a result

abbrev pub pointing : ℕ → Pointer → UseReason
pointing at p = record { at = at; text = pointer_text p }

abbrev pub captured_by : ℕ → List BodyPlace → Option UseReason
captured_by n [] = None
captured_by n (b ∷ bs) = if is_around n b then None else Some (pointing b.at captured_here)

abbrev pub result_named : ℕ → List Identifier → Option UseReason
result_named n [] = None
result_named n (i ∷ is) = or_else (only_of i.span.start (pointing i.span.start result_has_name) n) (result_named n is)

abbrev pub result_names : Signature → List Identifier
result_names (signature_of ps rs brackets) = parameters_named rs

abbrev pub pointed_by : Known → ℕ → List BodyPlace → Mark → Option UseReason
pointed_by known n bodies (mentions m) = if is_variable (variable_of known m) n then captured_by n bodies else None
pointed_by known n bodies (opens b) = result_named n (result_names b.signature)
pointed_by known n bodies mark = None

-- What the first mark tells that tells something

abbrev pub first_by : (List BodyPlace → Mark → Option UseReason) → List Placed → Option UseReason
first_by f [] = None
first_by f (p ∷ ps) = or_else (f p.bodies p.mark) (first_by f ps)

abbrev pub first_compared : ℕ → List Placed → Option UseReason
first_compared at = first_by (compared_in at)

abbrev pub first_cancel : Known → ℕ → List Placed → Option UseReason
first_cancel known at = first_by (cancel_by known at)

abbrev pub first_group : Known → ℕ → List Placed → Option UseReason
first_group known at = first_by (group_by known at)

abbrev pub first_pointed : Known → ℕ → List Placed → Option UseReason
first_pointed known n = first_by (pointed_by known n)

-- What is asked

pub data AskedOf : Type 0 where
  -- of a mention of a cancel variable, a maker or a giver: LC06
  of_cancel : AskedOf
  -- of a mention of a group, or of the package `errgroup`: LC09
  of_group : AskedOf
  -- of a name that is bound again, or of a result: LC11
  of_binding : AskedOf

abbrev pub pointed_of : Known → List Placed → Option ℕ → Option UseReason
pointed_of known ps None = None
pointed_of known ps (Some n) = first_pointed known n ps

-- A name that a condition compares is mentioned plainly too, before what the condition finds out: that it is compared
-- is told first. A result's name that no use is known of is the one that its place declares.
abbrev pub use_reason : Known → List Placed → ℕ → AskedOf → Option UseReason
use_reason known ps at of_cancel = or_else (first_compared at ps) (first_cancel known at ps)
use_reason known ps at of_group = or_else (first_compared at ps) (first_group known at ps)
use_reason known ps at of_binding = pointed_of known ps (local_meant_or (known.means at) (Some at))
