-- In which form a name stands whose use no rule allows, and how it is told. The form is the mention's role, as the
-- rules take it (`Uses` of `meaning`). What is told says where to look, and not how to mend it.
use Rattle.std.specs.Prelude.{ℕ, Bool, true, false, ◌||◌, if◌then◌else◌, List, Option, Some, None, codes}
use Rattle.std.specs.Str.{bytes_eq}
use Rattle.meaning.specs.Mentions.{CallPlace, nowhere, as_statement, return_item, deferred, under_go, Standing, first_of_for, Role, elsewhere, as_key, exposed, pointed_to, found_nil, found_error, called, called_in_brackets, argument, returned, left, names_type, new_literal, parameter_pointer}

-- what is known of the function of which a name is an argument
pub data KnownCallee : Type 0 where
  -- nothing: its package was not given, or it is a method or a value
  unknown : KnownCallee
  -- its parameters are known
  known : KnownCallee

pub data Reason : Type 0 where
  -- of a variable
  stored_cancel : Reason
  stored_group : Reason
  compared : Reason
  address_taken : Reason
  exposed_to_change : Reason
  bound_in_for : Reason
  bound_otherwise : Reason
  used_as_type : Reason
  in_brackets : Reason
  called_under_go : Reason
  called_with_others : Reason
  called_otherwise : Reason
  cancel_returned : Reason
  group_returned : Reason
  -- of a variable that is passed to a function
  passed_on : Reason
  passed_to_no_taker : Reason
  passed_to_unknown : Reason
  passed_in_expression : Reason
  passed_in_literal : Reason
  passed_under_go : Reason
  passed_under_defer : Reason
  -- of a method of a group, or of a maker, a giver, or a name of `errgroup`
  no_method : Reason
  not_called : Reason
  name_in_brackets : Reason
  name_under_go : Reason
  name_under_defer : Reason
  name_in_expression : Reason
  name_in_return : Reason
  name_in_literal : Reason
  name_with_variable : Reason
  given_in_return : Reason
  given_to_none : Reason
  made_nowhere : Reason

-- A variable that is passed to a function, and whether a literal captures it

abbrev pub unless_captured : Bool → Reason → Reason
unless_captured is_captured r = if is_captured then passed_in_literal else r

-- a known function gets it at a call place, and in the body that declares it; what stands against that there is given
abbrev pub known_reason : Bool → Reason → CallPlace → Reason
known_reason is_captured otherwise nowhere = passed_in_expression
known_reason is_captured otherwise place = unless_captured is_captured otherwise

abbrev pub callee_reason : KnownCallee → Bool → Reason → CallPlace → Reason
callee_reason unknown is_captured otherwise place = passed_to_unknown
callee_reason known is_captured otherwise place = known_reason is_captured otherwise place

abbrev pub cancel_passed : KnownCallee → Bool → Bool → CallPlace → Reason
cancel_passed k is_captured true place = address_taken
cancel_passed k is_captured false under_go = passed_under_go
cancel_passed k is_captured false place = callee_reason k is_captured passed_on place

-- a group may be lent by its address
abbrev pub group_passed : KnownCallee → Bool → CallPlace → Reason
group_passed k is_captured under_go = passed_under_go
group_passed k is_captured deferred = passed_under_defer
group_passed k is_captured place = callee_reason k is_captured passed_to_no_taker place

-- A cancel variable (LC06)

abbrev pub bound_reason : Standing → Reason
bound_reason first_of_for = bound_in_for
bound_reason standing = bound_otherwise

-- as a statement and under `defer` it may be called, with the arguments that it takes
abbrev pub place_reason : CallPlace → Reason
place_reason as_statement = called_with_others
place_reason deferred = called_with_others
place_reason under_go = called_under_go
place_reason place = called_otherwise

abbrev pub cancel_called : Option (List ℕ) → CallPlace → Reason
cancel_called None place = place_reason place
cancel_called (Some m) place = no_method

abbrev pub cancel_reason : KnownCallee → Bool → Option (List ℕ) → Role → Reason
cancel_reason k is_captured selected elsewhere = stored_cancel
cancel_reason k is_captured selected as_key = stored_cancel
cancel_reason k is_captured selected exposed = exposed_to_change
cancel_reason k is_captured selected pointed_to = address_taken
cancel_reason k is_captured selected (found_nil nil) = compared
cancel_reason k is_captured selected (found_error nil row) = compared
cancel_reason k is_captured selected (called c) = cancel_called selected c.place
cancel_reason k is_captured selected called_in_brackets = in_brackets
cancel_reason k is_captured selected (argument n has_address c) = cancel_passed k is_captured has_address c.place
cancel_reason k is_captured selected (returned n) = cancel_returned
cancel_reason k is_captured selected (left n row) = bound_reason row.standing
cancel_reason k is_captured selected (names_type row) = used_as_type
cancel_reason k is_captured selected (new_literal row) = used_as_type
cancel_reason k is_captured selected parameter_pointer = used_as_type

-- A group variable (LC09)

abbrev pub is_wait : List ℕ → Bool
is_wait m = bytes_eq m (codes "Wait")

abbrev pub is_followed : List ℕ → Bool
is_followed m =
    bytes_eq m (codes "Go") || (bytes_eq m (codes "TryGo") || (is_wait m || bytes_eq m (codes "SetLimit")))

-- at a place at which the method may be called
abbrev pub allowed_reason : Bool → Reason
allowed_reason is_captured = if is_captured then name_in_literal else name_with_variable

-- `Wait` may be called under `defer` and in a return too
abbrev pub unless_it_waits : Bool → Bool → Reason → Reason
unless_it_waits is_captured waits otherwise = if waits then allowed_reason is_captured else otherwise

abbrev pub method_reason : Bool → Bool → CallPlace → Reason
method_reason is_captured waits nowhere = name_in_expression
method_reason is_captured waits under_go = name_under_go
method_reason is_captured waits deferred = unless_it_waits is_captured waits name_under_defer
method_reason is_captured waits (return_item n) = unless_it_waits is_captured waits name_in_return
method_reason is_captured waits place = allowed_reason is_captured

abbrev pub group_called : Bool → Option (List ℕ) → CallPlace → Reason
group_called is_captured None place = called_otherwise
group_called is_captured (Some m) place =
    if is_followed m then method_reason is_captured (is_wait m) place else no_method

-- a method that stands there without a call
abbrev pub unless_selected : Option (List ℕ) → Reason → Reason
unless_selected None r = r
unless_selected (Some m) r = not_called

abbrev pub group_reason : KnownCallee → Bool → Option (List ℕ) → Role → Reason
group_reason k is_captured selected elsewhere = unless_selected selected stored_group
group_reason k is_captured selected as_key = stored_group
group_reason k is_captured selected exposed = exposed_to_change
group_reason k is_captured selected pointed_to = address_taken
group_reason k is_captured selected (found_nil nil) = compared
group_reason k is_captured selected (found_error nil row) = compared
group_reason k is_captured selected (called c) = group_called is_captured selected c.place
group_reason k is_captured selected called_in_brackets = in_brackets
group_reason k is_captured selected (argument n has_address c) =
    unless_selected selected (group_passed k is_captured c.place)
group_reason k is_captured selected (returned n) = group_returned
group_reason k is_captured selected (left n row) = bound_reason row.standing
group_reason k is_captured selected (names_type row) = used_as_type
group_reason k is_captured selected (new_literal row) = used_as_type
group_reason k is_captured selected parameter_pointer = used_as_type

-- A maker or giver (LC06), and what `errgroup` has (LC09). A call of an instance is no plain call.

abbrev pub maker_called : CallPlace → Reason
maker_called (return_item n) = given_in_return
maker_called deferred = name_under_defer
maker_called under_go = name_under_go
maker_called place = given_to_none

-- what is told where it is not called stands first
abbrev pub maker_reason : Reason → Role → Reason
maker_reason otherwise (called c) = maker_called c.place
maker_reason otherwise called_in_brackets = name_in_brackets
maker_reason otherwise role = otherwise

abbrev pub giver_reason : Role → Reason
giver_reason role = maker_reason not_called role

abbrev pub errgroup_reason : Role → Reason
errgroup_reason role = maker_reason made_nowhere role

-- How it is told. Where a function or method is named, its name stands between the two texts.

-- whose name: that of the function to which the name is passed, or that of the method, maker or giver itself
pub data NameTold : Type 0 where
  no_name : NameTold
  callee_name : NameTold
  own_name : NameTold

pub record Told : Type 0 where
  pub before : List ℕ
  pub name : NameTold
  pub after : List ℕ

abbrev pub plainly : List ℕ → Told
plainly text = record { before = text; name = no_name; after = codes "" }

abbrev pub passed : List ℕ → Told
passed after = record { before = codes "passed to "; name = callee_name; after = after }

abbrev pub named : List ℕ → Told
named after = record { before = codes ""; name = own_name; after = after }

abbrev pub given : List ℕ → Told
given after = record { before = codes "what "; name = own_name; after = after }

abbrev pub told : Reason → Told
told stored_cancel = plainly (codes "stored, or used as a value, and whoever has it then may not call it")
told stored_group = plainly (codes "stored, or used as a value, and whoever has it then may start work in it")
told compared = plainly (codes "compared")
told address_taken = plainly (codes "its address is taken")
told exposed_to_change = plainly (codes "may get another value here")
told bound_in_for = plainly (codes "bound in the first statement of a for")
told bound_otherwise = plainly (codes "bound in another way")
told used_as_type = plainly (codes "used as a type in another way")
told in_brackets = plainly (codes "called in brackets")
told called_under_go = plainly (codes "called under go")
told called_with_others = plainly (codes "called with other arguments than it takes")
told called_otherwise = plainly (codes "called in another way")
told cancel_returned = plainly (codes "returned at a position that hands nothing on")
told group_returned = plainly (codes "returned, which hands no group on")
told passed_on = passed (codes ", which is not known to call it")
told passed_to_no_taker = passed (codes ", which takes no group there")
told passed_to_unknown = passed (codes ", of which nothing is known")
told passed_in_expression = passed (codes " within an expression")
told passed_in_literal = passed (codes " in a function literal")
told passed_under_go = passed (codes " under go")
told passed_under_defer = passed (codes " under defer")
told no_method = named (codes " is no method that is followed")
told not_called = named (codes " is used without a plain call")
told name_in_brackets = named (codes " is called in brackets")
told name_under_go = named (codes " is called under go")
told name_under_defer = named (codes " is called under defer")
told name_in_expression = named (codes " is called within an expression")
told name_in_return = named (codes " is called in a return")
told name_in_literal = named (codes " is called in a function literal")
told name_with_variable = named (codes " is called with a variable that is followed")
told given_in_return = given (codes " gives is returned to callers that are not followed")
told given_to_none = given (codes " gives goes elsewhere than into a local variable that is followed, as into a field")
told made_nowhere = named (codes " is named here for no group that is followed, as in the type of a field")

-- Of other codes

pub data Pointer : Type 0 where
  -- LC11: the literal that captures the variable
  captured_here : Pointer
  -- LC11: the named result
  result_has_name : Pointer
  -- LC14: an import that leads on to the ring
  on_the_ring : Pointer
  -- LC15: the first function of the name
  first_of_name : Pointer

abbrev pub pointer_text : Pointer → List ℕ
pointer_text captured_here = codes "captured by this literal"
pointer_text result_has_name = codes "this result has a name"
pointer_text on_the_ring = codes "this import leads on to the ring"
pointer_text first_of_name = codes "the first function of this name"
