-- The five parts of a note's text, as they are put.
use Rattle.std.proofs.Common.{◌≡◌, ℕ, List, ◌++◌, sym, ap, ◌∙◌}
use Rattle.std.proofs.lemmas.List.{append_assoc}
use Rattle.json.specs.Print.{escape}
use Rattle.format_parts.proofs.Spelled.{escape-append}

pub parts_then : (a b c d e text rest : List ℕ) → a ++ (b ++ (c ++ (d ++ e))) ≡ text
    → text ++ rest ≡ a ++ (b ++ (c ++ (d ++ (e ++ rest))))
parts_then a b c d e text rest are =
    ap (λ t. t ++ rest) (sym are)
    ∙ (append_assoc a (b ++ (c ++ (d ++ e))) rest
    ∙ ap (λ t. a ++ t) (append_assoc b (c ++ (d ++ e)) rest
    ∙ ap (λ t. b ++ t) (append_assoc c (d ++ e) rest ∙ ap (λ t. c ++ t) (append_assoc d e rest))))

escaped : (a b c d e : List ℕ)
    → escape a ++ (escape b ++ (escape c ++ (escape d ++ escape e))) ≡ escape (a ++ (b ++ (c ++ (d ++ e))))
escaped a b c d e =
    sym (escape-append a (b ++ (c ++ (d ++ e)))
    ∙ ap (λ t. escape a ++ t) (escape-append b (c ++ (d ++ e))
    ∙ ap (λ t. escape b ++ t) (escape-append c (d ++ e) ∙ ap (λ t. escape c ++ t) (escape-append d e))))

-- in a JSON string
pub escaped_then : (a b c d e text rest : List ℕ) → a ++ (b ++ (c ++ (d ++ e))) ≡ text
    → escape text ++ rest ≡ escape a ++ (escape b ++ (escape c ++ (escape d ++ (escape e ++ rest))))
escaped_then a b c d e text rest are =
    parts_then (escape a) (escape b) (escape c) (escape d) (escape e) (escape text) rest
    (escaped a b c d e ∙ ap escape are)
