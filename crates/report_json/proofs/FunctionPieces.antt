-- The function in which a finding stands, cut into what is put.
use Rattle.std.proofs.Common.{◌≡◌, ℕ, true, Option, Some, None, List, [], ◌∷◌, ◌++◌, length, decimal, codes, refl, sym, ap, ◌∙◌, arith}
use Rattle.std.proofs.lemmas.List.{append_assoc}
use Rattle.json.specs.Print.{escape_byte, escape}
use Rattle.serde_json.specs.Data.{boolean}
use Rattle.serde_json.specs.Written.{compact_text}
use Rattle.function_spans.specs.Bodies.{body_end}
use Rattle.function_spans.specs.Functions.{full_name, function_name, is_in_literal, receiver_type, type_before}
use Rattle.lexer.specs.Place.{line_of}
use Rattle.format_parts.specs.Pieces.{members_listed}
use Rattle.format_parts.proofs.Spelled.{escape-append}
use Rattle.format_parts.proofs.Values.{joined, listed_is}
use Rattle.report_json.specs.InFunctions.{function_members}

-- what stands behind the name
abbrev pub line_pieces : (line end : ℕ) (truth : List ℕ) → List (List ℕ)
line_pieces line end truth =
    codes "\",\"line\":" ∷ decimal line ∷ codes ",\"end_line\":" ∷ decimal end ∷ codes ",\"literal\":" ∷ truth ∷ codes "}" ∷ []

function_here : (text : List ℕ) (offset function : ℕ) → members_listed true (function_members text offset (Some function)) ≡ codes ",\"function\":{\"name\":\"" ++ (escape (full_name text function) ++ joined (line_pieces (line_of text function) (line_of text (body_end text function)) (compact_text (boolean (is_in_literal text function offset)))) [])
unfolding escape_byte
function_here text offset function = listed_is true (function_members text offset (Some function))

pub function_is : (text held : List ℕ) (offset function line end end_line : ℕ) (truth : List ℕ) → held ≡ text → line ≡ line_of text function → end ≡ body_end held function → end_line ≡ line_of text end → truth ≡ compact_text (boolean (is_in_literal held function offset)) → members_listed true (function_members text offset (Some function)) ≡ codes ",\"function\":{\"name\":\"" ++ (escape (full_name held function) ++ joined (line_pieces line end_line truth) [])
function_is text held offset function line end end_line truth h l e m t =
    rw (t, m, e, l, h) (function_here text offset function)

-- none is told
pub no_function : (text : List ℕ) (offset : ℕ) (function : Option ℕ) → function ≡ None → members_listed true (function_members text offset function) ≡ []
no_function text offset function f = rw f refl

-- the one that is told
pub told_is : (text : List ℕ) (offset function : ℕ) (told found : Option ℕ) → found ≡ told → found ≡ Some function → members_listed true (function_members text offset told) ≡ members_listed true (function_members text offset (Some function))
told_is text offset function told found t f = ap (λ o. members_listed true (function_members text offset o)) (sym t ∙ f)

-- a full name in three parts
pub name_is : (text : List ℕ) (function : ℕ) (receiver dot name : List ℕ) → receiver ≡ receiver_type text function → receiver ++ dot ≡ type_before receiver → name ≡ function_name text function → escape (full_name text function) ≡ escape receiver ++ (escape dot ++ escape name)
name_is text function receiver dot name r d n =
    let front : type_before (receiver_type text function) ≡ receiver ++ dot = ap type_before (sym r) ∙ sym d in
    ap (λ t. escape (t ++ function_name text function)) front
    ∙ ap (λ t. escape ((receiver ++ dot) ++ t)) (sym n)
    ∙ (escape-append (receiver ++ dot) name
    ∙ (ap (λ t. t ++ escape name) (escape-append receiver dot) ∙ append_assoc (escape receiver) (escape dot) (escape name)))

-- the dot of a type
pub no_dot : (receiver : List ℕ) → length receiver ≡ 0 → receiver ++ [] ≡ type_before receiver
no_dot [] none = refl
no_dot (b ∷ bs) none = absurd (omega (arith, none))

pub one_dot : (receiver : List ℕ) → (length receiver ≡ 0 → ⊥) → receiver ++ codes "." ≡ type_before receiver
one_dot [] some = absurd (some refl)
one_dot (b ∷ bs) some = refl
