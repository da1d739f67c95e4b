-- What is found in a value is what the value is made of, part by part.
use Rattle.std.proofs.Common.{◌≡◌, ℕ, ◌^◌, Bool, true, false, List, [], ◌∷◌, Option, Some, None, if◌then◌else◌, nat_lt, option_map, option_and_then, codes, map, refl, sym, ap, ap₂, subst, ◌∙◌}
use Rattle.std.proofs.lemmas.Bool.{ltb-true, lt-ltb}
use Rattle.std.proofs.lemmas.Slice.Eq.{bytes_eq-Decides}
use Rattle.std.specs.List.{AllByRecursion}
use Rattle.std.specs.Str.{bytes_eq}
use Rattle.serde_json.specs.Data.{Num, unsigned, negative, float, Data, null, boolean, number, string, array, object, Items, no_items, item, Members, no_members, member}
use Rattle.serde_json.specs.Find.{as_number, as_u64, as_bool, as_str, as_object, get_member}
use Rattle.serde_json.specs.View.{items_of}
use Rattle.table_json.specs.declared.table.Parameter.{Parameter}
use Rattle.table_json.specs.declared.table.Parameter.TheVariants.{Cancel, Cause, Group}
use Rattle.table_json.specs.declared.table.Version.{Version}
use Rattle.table_json.specs.declared.table.Version.TheVariants.{Older, Newer}
use Rattle.table_json.specs.Parts.{first_member, only_if_last, two_members, three_members, four_members, position_in, if_text, called_in, group_in, first_found, parameter_in, function_in, older_function_in, functions_in, all_of}
use Rattle.table_json.specs.Tables.{itself, position_of}
use Rattle.table_json.specs.TableTexts.{version_of}
use Rattle.table_json.specs.TableValues.{whole, called_with, parameter_value, function_with, older_function_with, table_with, if_fits, number_of, Fits}

-- One step of what may be missing

pub and_then : {A B : Type 0} (f : A → Option B) (o : Option A) (b : B) → option_and_then f o ≡ Some b
    → (a : A) × (o ≡ Some a) × (f a ≡ Some b)
and_then f None b e = absurd (cc)
and_then f (Some a) b e = (a, refl, e)

pub mapped : {A B : Type 0} (f : A → B) (o : Option A) (b : B) → option_map f o ≡ Some b
    → (a : A) × (o ≡ Some a) × (f a ≡ b)
mapped f None b e = absurd (cc)
mapped f (Some a) b e = (a, refl, cc)

pub some_same : {A : Type 0} (a b : A) → Some a ≡ Some b → a ≡ b
some_same a b e = cc

pub if_so : {A : Type 0} (t : Bool) (o : Option A) (a : A) → (if t then o else None) ≡ Some a → (t ≡ true) × (o ≡ Some a)
if_so true o a e = (refl, e)
if_so false o a e = absurd (cc)

-- What a value is

of_object : (value : Data) (ms : Members) → as_object value ≡ Some ms → value ≡ object ms
of_object null ms e = absurd (cc)
of_object (boolean b) ms e = absurd (cc)
of_object (number n) ms e = absurd (cc)
of_object (string s) ms e = absurd (cc)
of_object (array ds) ms e = absurd (cc)
of_object (object ns) ms e = let same : ns ≡ ms = cc in ap object same

pub of_string : (value : Data) (s : List ℕ) → as_str value ≡ Some s → value ≡ string s
of_string null s e = absurd (cc)
of_string (boolean b) s e = absurd (cc)
of_string (number n) s e = absurd (cc)
of_string (string t) s e = let same : t ≡ s = cc in ap string same
of_string (array cs) s e = absurd (cc)
of_string (object ns) s e = absurd (cc)

of_bool : (value : Data) (b : Bool) → as_bool value ≡ Some b → value ≡ boolean b
of_bool null b e = absurd (cc)
of_bool (boolean c) b e = let same : c ≡ b = cc in ap boolean same
of_bool (number n) b e = absurd (cc)
of_bool (string t) b e = absurd (cc)
of_bool (array cs) b e = absurd (cc)
of_bool (object ns) b e = absurd (cc)

of_unsigned : (n : Num) (m : ℕ) → as_u64 n ≡ Some m → n ≡ unsigned m
of_unsigned (unsigned k) m e = let same : k ≡ m = cc in ap unsigned same
of_unsigned (negative z) m e = absurd (cc)
of_unsigned (float x) m e = absurd (cc)

pub of_number : (value : Data) (m : ℕ) → option_and_then as_u64 (as_number value) ≡ Some m → value ≡ whole m
of_number null m e = absurd (cc)
of_number (boolean c) m e = absurd (cc)
of_number (number n) m e = ap number (of_unsigned n m e)
of_number (string t) m e = absurd (cc)
of_number (array cs) m e = absurd (cc)
of_number (object ns) m e = absurd (cc)

-- Members

of_first : (key : List ℕ) (ms : Members) (value : Data) (rest : Members) → first_member key ms ≡ Some (value, rest)
    → ms ≡ member key value rest
of_first key no_members value rest e = absurd (cc)
of_first key (member k d ms) value rest e =
    let found = if_so (bytes_eq k key) (Some (d, ms)) (value, rest) e in
    let both = some_same (d, ms) (value, rest) found.1 in
    λ i. member ((bytes_eq-Decides k key).0 found.0 i) (both i).0 (both i).1

of_last : {A : Type 0} (a b : A) (ms : Members) → only_if_last a ms ≡ Some b → (a ≡ b) × (ms ≡ no_members)
of_last a b no_members e = (cc, refl)
of_last a b (member k d ms) e = absurd (cc)

pub of_two : (first second : List ℕ) (value : Data) (found : Data × Data) → two_members first second value ≡ Some found
    → value ≡ object (member first found.0 (member second found.1 no_members))
unfolding two_members
of_two first second value found e =
    let ms = and_then _ (as_object value) found e in
    let a = and_then _ (first_member first ms.0) found ms.2 in
    let b = and_then _ (first_member second a.0.1) found a.2 in
    let last = of_last (a.0.0, b.0.0) found b.0.1 b.2 in
    of_object value ms.0 ms.1
    ∙ ap object (of_first first ms.0 a.0.0 a.0.1 a.1
    ∙ ap (member first a.0.0) (of_first second a.0.1 b.0.0 b.0.1 b.1
    ∙ ap (member second b.0.0) last.1))
    ∙ (λ i. object (member first (last.0 i).0 (member second (last.0 i).1 no_members)))

pub of_three : (first second third : List ℕ) (value : Data) (found : Data × Data × Data)
    → three_members first second third value ≡ Some found
    → value ≡ object (member first found.0 (member second found.1 (member third found.2 no_members)))
unfolding three_members
of_three first second third value found e =
    let ms = and_then _ (as_object value) found e in
    let a = and_then _ (first_member first ms.0) found ms.2 in
    let b = and_then _ (first_member second a.0.1) found a.2 in
    let c = and_then _ (first_member third b.0.1) found b.2 in
    let last = of_last (a.0.0, b.0.0, c.0.0) found c.0.1 c.2 in
    of_object value ms.0 ms.1
    ∙ ap object (of_first first ms.0 a.0.0 a.0.1 a.1
    ∙ ap (member first a.0.0) (of_first second a.0.1 b.0.0 b.0.1 b.1
    ∙ ap (member second b.0.0) (of_first third b.0.1 c.0.0 c.0.1 c.1
    ∙ ap (member third c.0.0) last.1)))
    ∙ (λ i. object (member first (last.0 i).0 (member second (last.0 i).1 (member third (last.0 i).2 no_members))))

-- Numbers that fit

pub of_fitting : (value : Data) (n : ℕ) → option_and_then if_fits (option_and_then as_u64 (as_number value)) ≡ Some n
    → (value ≡ whole n) × Fits n
of_fitting value n e =
    let m = and_then if_fits (option_and_then as_u64 (as_number value)) n e in
    let small = if_so (nat_lt m.0 (2 ^ 32)) (Some m.0) n m.2 in
    let same : m.0 ≡ n = cc (small.1) in
    (of_number value m.0 m.1 ∙ ap whole same, subst Fits same (ltb-true m.0 (2 ^ 32) small.0))

-- a version that is read fits
pub version_fits : (version : Version) → if_fits (number_of version) ≡ Some (number_of version)
version_fits Older = refl
version_fits Newer = refl

under_version : (o : Option Data) (n : ℕ)
    → option_and_then if_fits (option_and_then as_u64 (option_and_then as_number o)) ≡ Some n
    → o ≡ Some (whole n)
under_version None n e = absurd (cc)
under_version (Some value) n e = ap Some (of_fitting value n e).0

-- a version that fits is the number that stands as such
pub of_version : (ms : Members) (n : ℕ) → version_of (object ms) ≡ Some n
    → get_member (codes "version") ms ≡ Some (whole n)
of_version ms n e = under_version (get_member (codes "version") ms) n e

-- Positions

pub of_position : (value : Data) (n : ℕ) → position_in value ≡ Some n → (value ≡ whole n) × Fits n
unfolding position_in
of_position value n e = of_fitting value n e

pub position_there : (n : ℕ) → Fits n → position_in (whole n) ≡ Some n
unfolding position_in
position_there n small = ap (λ t. if t then Some n else None) (lt-ltb n (2 ^ 32) small)

-- Parameters

of_text : {A : Type 0} (wanted : List ℕ) (found : Option A) (text : Option (List ℕ)) (a : A)
    → if_text wanted found text ≡ Some a
    → (text ≡ Some wanted) × (found ≡ Some a)
of_text wanted found None a e = absurd (cc)
of_text wanted found (Some t) a e =
    let both = if_so (bytes_eq t wanted) found a e in
    (ap Some ((bytes_eq-Decides t wanted).0 both.0), both.1)

IsParameter : Data → Parameter → Type 0
IsParameter value p = (value ≡ parameter_value p) × Fits (position_of p)

of_called : (kind : List ℕ) (value : Data) (c : ℕ × Bool) → called_in kind value ≡ Some c
    → (value ≡ called_with kind c.0 c.1) × Fits c.0
unfolding called_in
of_called wanted value c e =
    let ms = and_then _ (three_members (codes "at") (codes "calls") (codes "kind") value) c e in
    let kind = of_text wanted _ (as_str ms.0.2) c ms.2 in
    let at = and_then _ (position_in ms.0.0) c kind.1 in
    let calls = mapped _ (as_bool ms.0.1) c at.2 in
    let place = of_position ms.0.0 at.0 at.1 in
    let whole_value : value ≡ called_with wanted at.0 calls.0 =
    of_three _ _ _ value ms.0 ms.1
    ∙ (λ i. object (member (codes "at") (place.0 i) (member (codes "calls") (of_bool ms.0.1 calls.0 calls.1 i)
    (member (codes "kind") (of_string ms.0.2 wanted kind.0 i) no_members)))) in
    subst (λ d. (value ≡ called_with wanted d.0 d.1) × Fits d.0) calls.2 (whole_value, place.1)

of_group : (value : Data) (p : Parameter) → group_in value ≡ Some p → IsParameter value p
unfolding group_in IsParameter
of_group value p e =
    let ms = and_then _ (two_members (codes "at") (codes "kind") value) p e in
    let kind = of_text (codes "group") _ (as_str ms.0.1) p ms.2 in
    let at = mapped _ (position_in ms.0.0) p kind.1 in
    let place = of_position ms.0.0 at.0 at.1 in
    let whole_value : value ≡ parameter_value (Group at.0) =
    of_two _ _ value ms.0 ms.1
    ∙ (λ i. object (member (codes "at") (place.0 i)
    (member (codes "kind") (of_string ms.0.1 (codes "group") kind.0 i) no_members))) in
    subst (λ q. (value ≡ parameter_value q) × Fits (position_of q)) at.2 (whole_value, place.1)

of_first_found : (value : Data) (a b : Option Parameter) (p : Parameter) → (a ≡ Some p → IsParameter value p)
    → (b ≡ Some p → IsParameter value p)
    → first_found a b ≡ Some p
    → IsParameter value p
of_first_found value None b p first second e = second e
of_first_found value (Some q) b p first second e = first e

of_cancel : (value : Data) (p : Parameter)
    → option_map (λ c. Cancel c.0 c.1) (called_in (codes "cancel") value) ≡ Some p
    → IsParameter value p
unfolding IsParameter
of_cancel value p e =
    let c = mapped _ (called_in (codes "cancel") value) p e in
    subst (λ q. (value ≡ parameter_value q) × Fits (position_of q)) c.2 (of_called (codes "cancel") value c.0 c.1)

of_cause : (value : Data) (p : Parameter)
    → option_map (λ c. Cause c.0 c.1) (called_in (codes "cause") value) ≡ Some p
    → IsParameter value p
unfolding IsParameter
of_cause value p e =
    let c = mapped _ (called_in (codes "cause") value) p e in
    subst (λ q. (value ≡ parameter_value q) × Fits (position_of q)) c.2 (of_called (codes "cause") value c.0 c.1)

of_parameter : (value : Data) (p : Parameter) → parameter_in value ≡ Some p
    → (value ≡ parameter_value p) × Fits (position_of p)
unfolding parameter_in IsParameter
of_parameter value p e =
    of_first_found value _ _ p (of_cancel value p) (of_first_found value _ _ p (of_cause value p) (of_group value p)) e

pub parameter_there : (p : Parameter) → Fits (position_of p) → parameter_in (parameter_value p) ≡ Some p
unfolding parameter_in called_in group_in three_members two_members
parameter_there (Cancel at calls) small =
    let value = parameter_value (Cancel at calls) in
    ap (λ o. first_found (option_map (λ (c : ℕ × Bool). Cancel c.0 c.1) (option_and_then (λ n. Some (n, calls)) o))
    (first_found (option_map (λ (c : ℕ × Bool). Cause c.0 c.1) (called_in (codes "cause") value)) (group_in value)))
    (position_there at small)
parameter_there (Cause at calls) small =
    let value = parameter_value (Cause at calls) in
    ap (λ o. first_found (option_map (λ (c : ℕ × Bool). Cause c.0 c.1) (option_and_then (λ n. Some (n, calls)) o)) (group_in value))
    (position_there at small)
parameter_there (Group at) small = ap (λ o. option_map (λ n. Group n) o) (position_there at small)

-- Functions

pub function_there : (name : List ℕ) (gives causes params : List Data)
    → function_in (function_with name gives causes params)
    ≡ Some (name, items_of gives, items_of causes, items_of params)
unfolding function_in four_members
function_there name gives causes params = refl

pub older_function_there : (name : List ℕ) (gives params : List Data)
    → older_function_in (older_function_with name gives params) ≡ Some (name, items_of gives, items_of params)
unfolding older_function_in three_members
older_function_there name gives params = refl

-- Tables

pub functions_there : (version : ℕ) (functions : List Data)
    → functions_in (table_with version functions) ≡ Some (items_of functions)
unfolding functions_in two_members
functions_there version functions = refl

list_of : Items → List Data
list_of no_items = []
list_of (item d ds) = d ∷ list_of ds

list_of-items_of : (ds : List Data) → list_of (items_of ds) ≡ ds
unfolding list_of
list_of-items_of [] = refl
list_of-items_of (d ∷ ds) = ap (λ es. d ∷ es) (list_of-items_of ds)

pub same_items : (ds es : List Data) → items_of ds ≡ items_of es → ds ≡ es
same_items ds es same = sym (list_of-items_of ds) ∙ (ap list_of same ∙ list_of-items_of es)

-- Lists

module _ {A : Type 0} (value_of : A → Data) (position : A → ℕ) (find : Data → Option A) where
  pub record Finds : Type 0 where
    pub is_value : (value : Data) (a : A) → find value ≡ Some a → (value ≡ value_of a) × Fits (position a)
    pub there : (a : A) → Fits (position a) → find (value_of a) ≡ Some a

  module _ (finds : Finds) where
    pub all_there : (given : List A) → AllByRecursion (λ a. Fits (position a)) given
        → all_of find (map value_of given) ≡ Some given
    all_there [] h = refl
    all_there (a ∷ given) h =
        ap₂ (λ o p. option_and_then (λ y. option_map (λ ys. y ∷ ys) p) o) (finds.there a h.0) (all_there given h.1)

pub finds_positions : Finds whole itself position_in
finds_positions = record { is_value = of_position; there = position_there }

pub finds_parameters : Finds parameter_value position_of parameter_in
finds_parameters = record { is_value = of_parameter; there = parameter_there }
