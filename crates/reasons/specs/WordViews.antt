-- What the program keeps of words, branches and reasons, and what it stands for.
use Rattle.std.specs.Prelude.{◌≡◌, List, ◌++◌, map}
use Rattle.reasons.specs.Branches.{BranchForm, if_form, loop_form, clauses_form, Branch}
use Rattle.reasons.specs.Reasons.{KnownCallee, unknown, known, Reason, stored_cancel, stored_group, compared, address_taken, exposed_to_change, bound_in_for, bound_otherwise, used_as_type, in_brackets, called_under_go, called_with_others, called_otherwise, cancel_returned, group_returned, passed_on, passed_to_no_taker, passed_to_unknown, passed_in_expression, passed_in_literal, passed_under_go, passed_under_defer, no_method, not_called, name_in_brackets, name_under_go, name_under_defer, name_in_expression, name_in_return, name_in_literal, name_with_variable, given_in_return, given_to_none, made_nowhere, Pointer, captured_here, result_has_name, on_the_ring, first_of_name, NameTold, no_name, callee_name, own_name, Told}
use Rattle.reasons.specs.Words.{Word, obtained, made, started, holds, does_not_hold, goes_on, ends, entered, none_entered}
use Rattle.reasons.specs.declared.branches.Branch.{Branch as KeptBranch}
use Rattle.reasons.specs.declared.branches.BranchForm.{BranchForm as KeptForm}
use Rattle.reasons.specs.declared.branches.BranchForm.TheVariants.{If, Loop, Clauses}
use Rattle.reasons.specs.declared.reasons.KnownCallee.{KnownCallee as KeptCallee}
use Rattle.reasons.specs.declared.reasons.KnownCallee.TheVariants.{Unknown, Known}
use Rattle.reasons.specs.declared.reasons.NameTold.{NameTold as KeptName}
use Rattle.reasons.specs.declared.reasons.NameTold.TheVariants.{NoName, CalleeName, OwnName}
use Rattle.reasons.specs.declared.reasons.Pointer.{Pointer as KeptPointer}
use Rattle.reasons.specs.declared.reasons.Pointer.TheVariants.{CapturedHere, ResultHasName, OnTheRing, FirstOfName}
use Rattle.reasons.specs.declared.reasons.Reason.{Reason as KeptReason}
use Rattle.reasons.specs.declared.reasons.Reason.TheVariants.{StoredCancel, StoredGroup, Compared, AddressTaken, ExposedToChange, BoundInFor, BoundOtherwise, UsedAsType, InBrackets, CalledUnderGo, CalledWithOthers, CalledOtherwise, CancelReturned, GroupReturned, PassedOn, PassedToNoTaker, PassedToUnknown, PassedInExpression, PassedInLiteral, PassedUnderGo, PassedUnderDefer, NoMethod, NotCalled, NameInBrackets, NameUnderGo, NameUnderDefer, NameInExpression, NameInReturn, NameInLiteral, NameWithVariable, GivenInReturn, GivenToNone, MadeNowhere}
use Rattle.reasons.specs.declared.reasons.Told.{Told as KeptTold}
use Rattle.reasons.specs.declared.words.Word.{Word as KeptWord}
use Rattle.reasons.specs.declared.words.Word.TheVariants.{Obtained, Made, Started, Holds, DoesNotHold, GoesOn, Ends, Entered, NoneEntered}

abbrev pub word_view : KeptWord → Word
word_view Obtained = obtained
word_view Made = made
word_view Started = started
word_view Holds = holds
word_view DoesNotHold = does_not_hold
word_view GoesOn = goes_on
word_view Ends = ends
word_view Entered = entered
word_view NoneEntered = none_entered

abbrev pub form_view : KeptForm → BranchForm
form_view (If braces is_silent) = if_form braces is_silent
form_view Loop = loop_form
form_view (Clauses clauses) = clauses_form clauses.items

abbrev pub branch_view : KeptBranch → Branch
branch_view b = record { span = b.span; form = form_view b.form }

-- these branches are added
pub record AddsBranches (bs : List Branch) (before after : List KeptBranch) : Type 0 where
  pub are : map branch_view after ≡ map branch_view before ++ bs

abbrev pub callee_view : KeptCallee → KnownCallee
callee_view Unknown = unknown
callee_view Known = known

abbrev pub reason_view : KeptReason → Reason
reason_view StoredCancel = stored_cancel
reason_view StoredGroup = stored_group
reason_view Compared = compared
reason_view AddressTaken = address_taken
reason_view ExposedToChange = exposed_to_change
reason_view BoundInFor = bound_in_for
reason_view BoundOtherwise = bound_otherwise
reason_view UsedAsType = used_as_type
reason_view InBrackets = in_brackets
reason_view CalledUnderGo = called_under_go
reason_view CalledWithOthers = called_with_others
reason_view CalledOtherwise = called_otherwise
reason_view CancelReturned = cancel_returned
reason_view GroupReturned = group_returned
reason_view PassedOn = passed_on
reason_view PassedToNoTaker = passed_to_no_taker
reason_view PassedToUnknown = passed_to_unknown
reason_view PassedInExpression = passed_in_expression
reason_view PassedInLiteral = passed_in_literal
reason_view PassedUnderGo = passed_under_go
reason_view PassedUnderDefer = passed_under_defer
reason_view NoMethod = no_method
reason_view NotCalled = not_called
reason_view NameInBrackets = name_in_brackets
reason_view NameUnderGo = name_under_go
reason_view NameUnderDefer = name_under_defer
reason_view NameInExpression = name_in_expression
reason_view NameInReturn = name_in_return
reason_view NameInLiteral = name_in_literal
reason_view NameWithVariable = name_with_variable
reason_view GivenInReturn = given_in_return
reason_view GivenToNone = given_to_none
reason_view MadeNowhere = made_nowhere

abbrev pub pointer_view : KeptPointer → Pointer
pointer_view CapturedHere = captured_here
pointer_view ResultHasName = result_has_name
pointer_view OnTheRing = on_the_ring
pointer_view FirstOfName = first_of_name

abbrev pub name_view : KeptName → NameTold
name_view NoName = no_name
name_view CalleeName = callee_name
name_view OwnName = own_name

abbrev pub told_view : KeptTold → Told
told_view t = record { before = t.before.now; name = name_view t.name; after = t.after.now }
