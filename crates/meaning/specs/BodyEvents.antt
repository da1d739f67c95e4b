-- What is told of a body: its use faults, its variables in their order, and the events at its sites. Its variables are
-- the tracked ones that it declares outside its inner literals, and those declared outside it that it or a literal in
-- it mentions. Parameters come first; then the name that occurs first comes first. Of a body with too many variables,
-- or with variables and a `goto`, its use faults alone are told. Faults are listed as the marks come, and one may come
-- twice: two clauses of a type switch declare the name of one guard, and a binding may break two rules of one code.
-- (This tool's rules.)
use Rattle.std.specs.Prelude.{ℕ, zero, suc, ◌+◌, ◌==◌, Bool, true, false, not, ◌&&◌, ◌||◌, if◌then◌else◌, List, [], ◌∷◌, ◌++◌, Option, Some, None, is_some, map, flat_map, codes, nat_lt, nat_le}
use Rattle.std.specs.List.{list_any, filter}
use Rattle.tree.specs.declared.edition.Edition.{Edition}
use Rattle.tree.specs.declared.edition.Edition.TheVariants.{First, Second}
use Rattle.tree.specs.Syntax.{Expression, Expressions, no_expression, expression_and, SourceFile}
use Rattle.meaning.specs.declared.TheConstants.{MOST_CANCELS, MOST_GROUPS}
use Rattle.meaning.specs.OuterBlocks.{has_any}
use Rattle.meaning.specs.Jumps.{jumps_in}
use Rattle.meaning.specs.StatementCode.{Sites}
use Rattle.meaning.specs.Mentions.{Named, as_bare, Call, Role, called, is_none_left, Mention, BodyPlace, Moment, at_return, in_goroutine, Mark, mentions, of_fields, runs_literal, returns, opens, closes, marks_by, file_marks}
use Rattle.meaning.specs.FunctionFacts.{cancel_type, VariableKind, cancel, group, CancelResult}
use Rattle.meaning.specs.Tracked.{Known, some_keep, is_of_universe, local_meant_or, variable_of, Placed, LocalRole, parameter, receiver, variadic, result, in_block, Local, body_locals}
use Rattle.meaning.specs.Uses.{Seen, seen_in, found, tracked_kind, cancel_type_of, is_given_as, is_outside, is_of_local, is_body, body_gives, is_statement_place, is_under_go, takes, is_own, Callee, callee_of, Handed, Sent, go_pass, go_literal, Event, other, defer_literal, go, return_event, goto_used, too_many_variables, UseFault, fault_at, error_events, variable_outcome, field_faults, mention_faults, recover_faults, result_faults, is_cancel}
use Rattle.meaning.specs.Kept.{object_events, field_events, handed_in_fields}

-- Bodies of a file

abbrev pub opened_by : Mark → List BodyPlace
opened_by (mentions m) = []
opened_by (of_fields site m) = []
opened_by (runs_literal moment site at) = []
opened_by (returns at es) = []
opened_by (opens b) = b ∷ []
opened_by closes = []

-- in the order of the marks
abbrev pub opened_in : List Placed → List BodyPlace
opened_in [] = []
opened_in (p ∷ ps) = opened_by p.mark ++ opened_in ps

abbrev pub put_body : BodyPlace → List BodyPlace → List BodyPlace
put_body b [] = b ∷ []
put_body b (c ∷ cs) = if nat_le b.at c.at then b ∷ c ∷ cs else c ∷ put_body b cs

-- in the order of their places; of bodies at one place the first comes first
abbrev pub by_place : List BodyPlace → List BodyPlace
by_place [] = []
by_place (b ∷ bs) = put_body b (by_place bs)

-- the bodies of a file, by the places of their `func`
abbrev pub bodies_of : Seen → List BodyPlace
bodies_of seen = by_place (opened_in seen.marks)

-- Events

-- the variable that an item of a return hands on
abbrev pub handed_at : Seen → ℕ → List CancelResult → Option VariableKind → Local → List Handed
handed_at seen k gives None l = []
handed_at seen k gives (Some group) l = []
handed_at seen k gives (Some cancel) l =
    if is_given_as k (cancel_type_of seen l) gives
    then record { number = l.number; position = k; object = None } ∷ [] else []

abbrev pub handed_there : Seen → ℕ → List CancelResult → Option Local → List Handed
handed_there seen k gives None = []
handed_there seen k gives (Some l) = handed_at seen k gives (tracked_kind seen (Some l)) l

abbrev pub item_variable : Known → Option Named → Option ℕ
item_variable known None = None
item_variable known (Some n) = local_meant_or (known.means n.at) None

abbrev pub handed_item : Seen → List CancelResult → ℕ → Expression → List Handed
handed_item seen gives k e = handed_there seen k gives (found seen (item_variable seen.known (as_bare e)))

abbrev pub handed_on : Seen → List BodyPlace → ℕ → Expressions → List Handed
handed_on seen bodies k no_expression = []
handed_on seen bodies k (expression_and e es) =
    handed_item seen (body_gives seen.known bodies) k e
    ++ (handed_in_fields seen bodies k e ++ handed_on seen bodies (k + 1) es)

-- declared in a block, and no parameter
abbrev pub is_in_block : LocalRole → Bool
is_in_block (parameter k) = false
is_in_block receiver = false
is_in_block variadic = false
is_in_block result = false
is_in_block in_block = true

-- What a function under `go` gets: cancel variables that the body declares, no parameters, at positions of their
-- types. (Else a function that starts itself with what it got would be known to call it.)
abbrev pub is_sent : Seen → List BodyPlace → Call → ℕ → Local → Bool
is_sent seen bodies c k l =
    (is_own l bodies && is_in_block l.role)
    && (is_cancel (tracked_kind seen (Some l)) && takes seen.known c (cancel_type (cancel_type_of seen l)) k)

abbrev pub sent_there : Seen → List BodyPlace → Call → ℕ → Option Local → List Sent
sent_there seen bodies c k None = []
sent_there seen bodies c k (Some l) =
    if is_sent seen bodies c k l then record { number = l.number; position = k } ∷ [] else []

-- under `...` the last argument is at no position
abbrev pub sent_from : Seen → List BodyPlace → Call → ℕ → Expressions → List Sent
sent_from seen bodies c k no_expression = []
sent_from seen bodies c k (expression_and e es) =
    (if is_none_left es && c.has_ellipsis then []
    else sent_there seen bodies c k (found seen (item_variable seen.known (as_bare e))))
    ++ sent_from seen bodies c (k + 1) es

abbrev pub function_sent : Callee → List Sent → List Event
function_sent f [] = []
function_sent f (x ∷ xs) = go (go_pass f (x ∷ xs)) ∷ []

abbrev pub sent_in_role : Seen → List BodyPlace → Role → List Event
sent_in_role seen bodies (called c) =
    if is_under_go c.place
    then function_sent (callee_of seen.known c.callee) (sent_from seen bodies c 0 c.arguments)
    else []
sent_in_role seen bodies role = []

abbrev pub sent_events : Edition → Seen → List BodyPlace → Mention → List Event
sent_events First seen bodies m = []
sent_events Second seen bodies m = sent_in_role seen bodies m.role

-- in the first edition a literal under `go` sees to nothing
abbrev pub literal_events : Edition → Moment → ℕ → List Event
literal_events e at_return at = defer_literal at ∷ []
literal_events First in_goroutine at = []
literal_events Second in_goroutine at = go (go_literal at) ∷ []

abbrev pub mark_events : Seen → List BodyPlace → Mark → List Event
mark_events seen bodies (mentions m) =
    (variable_outcome seen bodies m).events
    ++ (error_events seen m m.role ++ (object_events seen bodies m ++ sent_events seen.known.edition seen bodies m))
mark_events seen bodies (of_fields site m) = field_events seen bodies (of_fields site m) m
mark_events seen bodies (runs_literal moment site at) = literal_events seen.known.edition moment at
mark_events seen bodies (returns at es) = return_event (handed_on seen bodies 0 es) ∷ []
mark_events seen bodies (opens b) = []
mark_events seen bodies closes = []

abbrev pub is_site : Mark → ℕ → Bool
is_site (mentions m) at = m.site == at
is_site (of_fields site m) at = site == at
is_site (runs_literal moment site literal) at = site == at
is_site (returns site es) at = site == at
is_site (opens b) at = false
is_site closes at = false

-- what a site of the body gives, in the order of its marks
abbrev pub events_at : Seen → ℕ → List Placed → ℕ → List Event
events_at seen body [] at = []
events_at seen body (p ∷ ps) at =
    if is_body body p.bodies && is_site p.mark at
    then mark_events seen p.bodies p.mark ++ events_at seen body ps at
    else events_at seen body ps at

-- a call of the universe's `panic` as a statement
abbrev pub is_panic : Known → Mention → Role → Bool
is_panic known m (called c) = is_of_universe known (codes "panic") m.named && is_statement_place c.place
is_panic known m role = false

abbrev pub panics_there : Known → ℕ → ℕ → List BodyPlace → Mark → Bool
panics_there known body at bodies (mentions m) =
    is_body body bodies && ((m.site == at) && is_panic known m m.role)
panics_there known body at bodies mark = false

-- the events of the body with that `func`
abbrev pub sites_of : Seen → ℕ → Sites Event
sites_of seen body = record {
  other = other;
  events = events_at seen body seen.marks;
  panics = λ at. list_any (λ p. panics_there seen.known body at p.bodies p.mark) seen.marks;
  returns = return_event [];
}

-- Variables of a body

-- the body stands among these, and the one that declares the variable around it
abbrev pub is_declared_around : ℕ → ℕ → List BodyPlace → Bool
is_declared_around declaring body [] = false
is_declared_around declaring body (b ∷ bs) =
    if b.at == body then list_any (λ c. c.at == declaring) bs else is_declared_around declaring body bs

abbrev pub is_around : ℕ → List BodyPlace → Bool
is_around body = list_any (λ b. b.at == body)

-- a mention of the local, in the body or a literal in it
abbrev pub occurs_in : Known → ℕ → Local → List BodyPlace → Mark → Bool
occurs_in known body l bodies (mentions m) = is_around body bodies && is_of_local l (variable_of known m)
occurs_in known body l bodies mark = false

abbrev pub is_captured_there : Known → ℕ → Local → List BodyPlace → Mark → Bool
is_captured_there known body l bodies (mentions m) =
    is_declared_around l.body body bodies && is_of_local l (variable_of known m)
is_captured_there known body l bodies mark = false

abbrev pub is_variable_of : Seen → ℕ → Local → Bool
is_variable_of seen body l =
    is_some (tracked_kind seen (Some l))
    && ((l.body == body) || list_any (λ p. is_captured_there seen.known body l p.bodies p.mark) seen.marks)

abbrev pub lesser : ℕ → ℕ → ℕ
lesser m n = if nat_le m n then m else n

abbrev pub occurrence : Mark → ℕ
occurrence (mentions m) = m.named.at
occurrence (of_fields site m) = site
occurrence (runs_literal moment site at) = at
occurrence (returns at es) = at
occurrence (opens b) = b.at
occurrence closes = 0

abbrev pub least : ℕ → Option ℕ → ℕ
least m None = m
least m (Some n) = lesser m n

-- the least offset of an occurrence in the body, or this one
abbrev pub first_occurrence : Known → ℕ → Local → List Placed → Option ℕ
first_occurrence known body l [] = None
first_occurrence known body l (p ∷ ps) =
    if occurs_in known body l p.bodies p.mark then Some (least (occurrence p.mark) (first_occurrence known body l ps))
    else first_occurrence known body l ps

pub data VariableRole : Type 0 where
  -- a parameter of the body, with its position
  own_parameter : ℕ → VariableRole
  own_receiver : VariableRole
  declared_in_body : VariableRole
  captured : VariableRole

pub record Variable : Type 0 where
  pub number : ℕ
  pub name : List ℕ
  pub kind : VariableKind
  pub role : VariableRole
  -- the offset of its first occurrence in the body
  pub first : ℕ

abbrev pub role_in_own : LocalRole → VariableRole
role_in_own (parameter k) = own_parameter k
role_in_own receiver = own_receiver
role_in_own variadic = declared_in_body
role_in_own result = declared_in_body
role_in_own in_block = declared_in_body

abbrev pub role_in : ℕ → Local → VariableRole
role_in body l = if l.body == body then role_in_own l.role else captured

-- a parameter occurs first where it is declared
abbrev pub first_in : VariableRole → Local → Option ℕ → ℕ
first_in (own_parameter k) l first = l.at
first_in own_receiver l first = l.at
first_in declared_in_body l None = l.at
first_in declared_in_body l (Some first) = first
first_in captured l None = l.at
first_in captured l (Some first) = first

abbrev pub variable_there : Seen → ℕ → Local → Option VariableKind → List Variable
variable_there seen body l None = []
variable_there seen body l (Some kind) =
    record {
      number = l.number;
      name = l.name;
      kind = kind;
      role = role_in body l;
      first = first_in (role_in body l) l (first_occurrence seen.known body l seen.marks);
    }
    ∷ []

abbrev pub variable_found : Seen → ℕ → Option Local → List Variable
variable_found seen body None = []
variable_found seen body (Some l) =
    if is_variable_of seen body l then variable_there seen body l (tracked_kind seen (Some l)) else []

-- those of the locals of these numbers
abbrev pub variables_among : Seen → ℕ → List ℕ → List Variable
variables_among seen body [] = []
variables_among seen body (n ∷ ns) = variable_found seen body (found seen (Some n)) ++ variables_among seen body ns

-- each number once, where it comes first
abbrev pub distinct : List ℕ → List ℕ
distinct [] = []
distinct (n ∷ ns) = n ∷ filter (λ m. not (m == n)) (distinct ns)

abbrev pub is_parameter : VariableRole → Bool
is_parameter (own_parameter k) = true
is_parameter own_receiver = true
is_parameter declared_in_body = false
is_parameter captured = false

-- parameters first; then by the first occurrence, and by the number where one guard declares several
abbrev pub is_earlier : Variable → Variable → Bool
is_earlier u v =
    if nat_lt u.first v.first then true else (u.first == v.first) && nat_lt u.number v.number

abbrev pub comes_before : Variable → Variable → Bool
comes_before u v =
    if is_parameter u.role then not (is_parameter v.role) || is_earlier u v
    else not (is_parameter v.role) && is_earlier u v

abbrev pub put_in : Variable → List Variable → List Variable
put_in v [] = v ∷ []
put_in v (u ∷ us) = if comes_before u v then u ∷ put_in v us else v ∷ u ∷ us

abbrev pub in_their_order : List Variable → List Variable
in_their_order [] = []
in_their_order (v ∷ vs) = put_in v (in_their_order vs)

-- the variables of the body, in the order of their numbers
abbrev pub variables_of : Seen → ℕ → List Variable
variables_of seen body = in_their_order (variables_among seen body (distinct (map (λ l. l.number) seen.locals)))

-- Too many

abbrev pub is_cancel_variable : Variable → Bool
is_cancel_variable v = is_cancel (Some v.kind)

-- the variable after so many is one too many
abbrev pub fault_after : ℕ → List Variable → List UseFault
fault_after n [] = []
fault_after zero (v ∷ vs) = fault_at v.first too_many_variables v.name
fault_after (suc n) (v ∷ vs) = fault_after n vs

abbrev pub too_many_faults : List Variable → List UseFault
too_many_faults vs =
    fault_after MOST_CANCELS (filter is_cancel_variable vs)
    ++ fault_after MOST_GROUPS (filter (λ v. not (is_cancel_variable v)) vs)

-- Use faults

abbrev pub has_variables : Seen → BodyPlace → Bool
has_variables seen b = has_any (variables_of seen b.at)

-- in the second edition `recover` is free where no body around it has a tracked variable
abbrev pub forbids_recover : Edition → Seen → List BodyPlace → Bool
forbids_recover First seen bodies = true
forbids_recover Second seen bodies = list_any (has_variables seen) bodies

-- of each `goto` of a body that has tracked variables; the first edition's trees have none
abbrev pub jump_faults : Seen → BodyPlace → List UseFault
jump_faults seen b =
    if has_variables seen b then flat_map (λ at. fault_at at goto_used (codes "-")) (jumps_in b.statements) else []

abbrev pub mark_faults : Seen → List BodyPlace → Mark → List UseFault
mark_faults seen bodies (mentions m) =
    mention_faults seen bodies m
    ++ (if forbids_recover seen.known.edition seen bodies then recover_faults seen.known m else [])
mark_faults seen bodies (of_fields site m) = field_faults seen m
mark_faults seen bodies (runs_literal moment site at) = []
mark_faults seen bodies (returns at es) = []
mark_faults seen bodies (opens b) = result_faults (body_locals seen.known b) ++ jump_faults seen b
mark_faults seen bodies closes = []

-- of what stands in no body
abbrev pub outer_faults_of : Seen → List Placed → List UseFault
outer_faults_of seen [] = []
outer_faults_of seen (p ∷ ps) =
    if is_outside p.bodies then mark_faults seen p.bodies p.mark ++ outer_faults_of seen ps
    else outer_faults_of seen ps

-- of what stands in the body, and in no literal in it
abbrev pub faults_of : Seen → ℕ → List Placed → List UseFault
faults_of seen body [] = []
faults_of seen body (p ∷ ps) =
    if is_body body p.bodies then mark_faults seen p.bodies p.mark ++ faults_of seen body ps
    else faults_of seen body ps

-- All of a body

-- The paths of a body are not followed where it has too many variables, or a `goto` beside variables.
abbrev pub unfollowed_faults : Seen → BodyPlace → List UseFault
unfollowed_faults seen b = too_many_faults (variables_of seen b.at) ++ jump_faults seen b

abbrev pub body_faults : Seen → ℕ → List UseFault
body_faults seen body = faults_of seen body seen.marks ++ too_many_faults (variables_of seen body)

abbrev pub outer_faults : Seen → List UseFault
outer_faults seen = outer_faults_of seen seen.marks

-- a file with what is known of it
abbrev pub seen_file : Known → SourceFile → Seen
seen_file known file = seen_in known (marks_by known.edition (some_keep known.fields) (file_marks file))
