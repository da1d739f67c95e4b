-- Bytes that stand for themselves, and paths of URIs in JSON strings.
use Rattle.std.proofs.Common.{◌≡◌, ℕ, ◌+◌, ◌<◌, ◌^◌, inl, inr, List, [], ◌∷◌, ◌++◌, length, get_or, take, drop, Bool, true, false, cond, codes, decimal, refl, sym, ap, ◌∙◌, arith, All, subst, Result, Err}
use Rattle.std.proofs.lemmas.Bool.{and_parts, cond_both, cond-true}
use Rattle.std.proofs.lemmas.Bool.Decides.{nat_tests}
use Rattle.std.proofs.lemmas.Fmt.{digits_decimal}
use Rattle.std.proofs.lemmas.Str.Parse.{IsNumeralModel, numerals_by_value, tells_all_ascii_digits}
use Rattle.std.specs.Char.{is_ascii_digit}
use Rattle.std.specs.Str.{all_ascii_digits}
use Rattle.std.specs.Str.Parse.{digits_value}
use Rattle.std.proofs.lemmas.List.{append_assoc, append-nil, take_more, take-append-drop}
use Rattle.std.proofs.lemmas.List.Elements.{All-head, All-tail}
use Rattle.std.proofs.lemmas.List.Concat.{flat_map-append}
use Rattle.std.specs.Borrow.{Bor}
use Rattle.json.specs.Print.{escape_byte, escape}
use Rattle.json.proofs.Printed.Strings.{escape_byte_plain}
use Rattle.percent_encoding.specs.Percent.{percent_encode_byte}
use Rattle.percent_encoding.proofs.PercentLemmas.{IsEscapeByte, All-percent_encode_byte}
use Rattle.report.specs.Writing.{TakesFront}
use Rattle.report.proofs.Fronts.{front_within}
use Rattle.format_parts.specs.declared.strings.Spelling.{Spelling}
use Rattle.format_parts.specs.declared.strings.Spelling.TheVariants.{InString, InUri}
use Rattle.format_parts.specs.FileUris.{is_kept, uri_byte, uri_path, is_absolute, uri_scheme, file_uri}
use Rattle.format_parts.specs.Pieces.{PutsFront, byte_text, spelled, stands_in_string, stands}

plain_in_string : (b : ℕ) → stands_in_string b ≡ true → escape_byte b ≡ b ∷ []
plain_in_string b h =
    escape_byte_plain b
    (λ q. let bad : false ≡ true = subst (λ x. stands_in_string x ≡ true) q h in cc)
    (λ q. let bad : false ≡ true = subst (λ x. stands_in_string x ≡ true) q h in cc)
    (grind (arith, nat_tests, h))

-- what the test of a byte says
pub plain_byte : (s : Spelling) (b : ℕ) → stands s b ≡ true → byte_text s b ≡ b ∷ []
plain_byte InString b h = plain_in_string b h
plain_byte InUri b h = cond-true (is_kept b) (b ∷ []) (percent_encode_byte b) h

-- one byte more that stands for itself
pub plain_more : (s : Spelling) (xs : List ℕ) (i : ℕ) → i < length xs → stands s (get_or xs i 0) ≡ true → spelled s (take i xs) ≡ take i xs → spelled s (take (i + 1) xs) ≡ take (i + 1) xs
plain_more s xs i inside test before =
    let plain = plain_byte s (get_or xs i 0) test in
    let next : take (i + 1) xs ≡ take i xs ++ get_or xs i 0 ∷ [] = take_more xs i 0 inside in
    ap (spelled s) next
    ∙ (flat_map-append (byte_text s) (take i xs) (get_or xs i 0 ∷ [])
    ∙ (ap (λ t. t ++ (byte_text s (get_or xs i 0) ++ [])) before ∙ (ap (λ t. take i xs ++ (t ++ [])) plain ∙ sym next)))

-- a run that stands for itself, and what follows it
pub plain_run : (s : Spelling) (xs : List ℕ) (n : ℕ) → spelled s (take n xs) ≡ take n xs → spelled s xs ≡ take n xs ++ spelled s (drop n xs)
plain_run s xs n plain =
    ap (spelled s) (sym (take-append-drop n xs))
    ∙ (flat_map-append (byte_text s) (take n xs) (drop n xs) ∙ ap (λ t. t ++ spelled s (drop n xs)) plain)

-- the first byte, and what follows it
pub first_spelled : (s : Spelling) (xs : List ℕ) → 0 < length xs → spelled s xs ≡ byte_text s (get_or xs 0 0) ++ spelled s (drop 1 xs)
first_spelled s [] there = absurd (omega (arith, there))
first_spelled s (x ∷ xs) there = refl

-- a front was begun and not ended
pub front_stops : {E : Type 0} (s : Spelling) (bytes part rest old new : List ℕ) → spelled s bytes ≡ part ++ spelled s rest → TakesFront part old new → (r : Result (Bor (List ℕ)) E) → (e : E) → r ≡ Err e → PutsFront s bytes old new r
front_stops {E} s bytes part rest old new is begun r e why =
    let whole = front_within [] part (spelled s rest) old old new (sym (append-nil old)) begun in
    subst (λ (x : Result (Bor (List ℕ)) E). PutsFront s bytes old new x) (sym why) (subst (λ t. TakesFront t old new) (sym is) whole)

pub none_spelled : (s : Spelling) (xs : List ℕ) → length xs ≡ 0 → spelled s xs ≡ []
none_spelled s [] none = refl
none_spelled s (x ∷ xs) none = absurd (omega (arith, none))

-- a byte of a URI is none that a JSON string escapes
plain_escape_byte : (b : ℕ) → IsEscapeByte b → escape_byte b ≡ b ∷ []
plain_escape_byte b (inl e) = escape_byte_plain b (λ q. omega (arith, e, q)) (λ q. omega (arith, e, q)) (omega (arith, e))
plain_escape_byte b (inr (inl d)) = escape_byte_plain b (λ q. omega (arith, d, q)) (λ q. omega (arith, d, q)) (omega (arith, d))
plain_escape_byte b (inr (inr d)) = escape_byte_plain b (λ q. omega (arith, d, q)) (λ q. omega (arith, d, q)) (omega (arith, d))

pub escape-append : (xs ys : List ℕ) → escape (xs ++ ys) ≡ escape xs ++ escape ys
escape-append xs ys = flat_map-append escape_byte xs ys

escape_escaped : (xs : List ℕ) → All IsEscapeByte xs → escape xs ≡ xs
escape_escaped [] each = refl
escape_escaped (b ∷ bs) each =
    ap (λ t. t ++ escape bs) (plain_escape_byte b (All-head IsEscapeByte b bs each))
    ∙ ap (λ t. b ∷ t) (escape_escaped bs (All-tail IsEscapeByte b bs each))

kept_plain : (b : ℕ) → is_kept b ≡ true → escape (b ∷ []) ≡ b ∷ []
kept_plain b kept =
    ap (λ t. t ++ [])
    (escape_byte_plain b
    (λ q. let bad : false ≡ true = subst (λ x. is_kept x ≡ true) q kept in cc)
    (λ q. let bad : false ≡ true = subst (λ x. is_kept x ≡ true) q kept in cc)
    (grind (arith, nat_tests, kept)))

escape_uri_byte : (b : ℕ) → escape (uri_byte b) ≡ uri_byte b
escape_uri_byte b =
    cond_both (is_kept b) (b ∷ []) (percent_encode_byte b) (λ t. escape t ≡ t) (kept_plain b) (λ e. escape_escaped (percent_encode_byte b) (All-percent_encode_byte b))

pub escape_uri_path : (name : List ℕ) → escape (uri_path name) ≡ uri_path name
escape_uri_path [] = refl
escape_uri_path (b ∷ bs) =
    escape-append (uri_byte b) (uri_path bs)
    ∙ (ap (λ t. t ++ escape (uri_path bs)) (escape_uri_byte b) ∙ ap (λ t. uri_byte b ++ t) (escape_uri_path bs))

escape_scheme : (absolute : Bool) → escape (cond absolute (codes "file://") []) ≡ cond absolute (codes "file://") []
unfolding escape_byte
escape_scheme true = refl
escape_scheme false = refl

-- the URI of a file in a JSON string, and the rest
pub file_uri_then : (name rest : List ℕ) → escape (file_uri name) ++ rest ≡ uri_scheme name ++ (uri_path name ++ rest)
file_uri_then name rest =
    ap (λ t. t ++ rest) (escape-append (uri_scheme name) (uri_path name))
    ∙ (append_assoc (escape (uri_scheme name)) (escape (uri_path name)) rest
    ∙ (ap (λ t. t ++ (escape (uri_path name) ++ rest)) (escape_scheme (is_absolute name))
    ∙ ap (λ t. uri_scheme name ++ (t ++ rest)) (escape_uri_path name)))

-- decimal digits stand for themselves
own : IsNumeralModel (λ ds. all_ascii_digits ds ≡ true) (digits_value 10)
own = numerals_by_value _ tells_all_ascii_digits

digit_stands : (b : ℕ) → is_ascii_digit b ≡ true → stands_in_string b ≡ true
digit_stands b h = grind (arith, nat_tests, h)

digits_stand : (ds : List ℕ) → all_ascii_digits ds ≡ true → escape ds ≡ ds
digits_stand [] h = refl
digits_stand (b ∷ bs) h =
    let both = and_parts _ _ h in
    ap (λ t. t ++ escape bs) (plain_byte InString b (digit_stands b both.0)) ∙ ap (λ t. b ∷ t) (digits_stand bs both.1)

pub number_stands : (n : ℕ) → n < 2 ^ 64 → escape (decimal n) ≡ decimal n
number_stands n fits = digits_stand (decimal n) (digits_decimal own n fits)
