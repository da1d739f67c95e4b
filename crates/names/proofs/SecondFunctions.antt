-- The first function whose name an earlier one has, when the names of the earlier ones are kept as a set.
use Rattle.std.proofs.Common.{◌≡◌, ℕ, ◌+◌, ◌<◌, Bool, true, false, ◌&&◌, ◌||◌, if◌then◌else◌, cond, List, [], ◌∷◌, ◌++◌, map, length, get_or, drop, refl, sym, ap, ◌∙◌, subst}
use Rattle.std.proofs.lemmas.List.{drop_more}
use Rattle.std.proofs.lemmas.Map.Text.{hash_map_updates_str}
use Rattle.std.specs.Prelude.{Option, Some, None, is_some}
use Rattle.std.specs.Borrow.{Bor}
use Rattle.std.specs.Str.{bytes_eq}
use Rattle.indexmap.specs.IndexMap.{IndexMap, UpdatesBy}
use Rattle.tree.specs.Syntax.{Function, Declaration, TopLevelDeclaration, function_declaration, general_declaration}
use Rattle.tree.specs.declared.file.TopLevelDecl.{TopLevelDecl}
use Rattle.tree.specs.declared.file.File.{File}
use Rattle.tree.specs.View.{top_level_syntax, file_syntax}
use Rattle.tree.proofs.Depths.{drop_item}
use Rattle.meaning.specs.OuterBlocks.{can_be_meant}
use Rattle.meaning.specs.TwoFunctions.{FunctionName, function_names_in, function_names_from, is_called_before, second_after}
use Rattle.names.specs.Answers.{at_name}

-- the set of names that a map keeps
abbrev pub has_name : {V S : Type 0} → IndexMap (Bor (List ℕ)) V S → List ℕ → Bool
has_name m name = is_some (at_name m name)

-- the set has the names of the earlier functions
abbrev pub Sees : (List ℕ → Bool) → List FunctionName → Type 0
Sees seen earlier = (f : FunctionName) → seen f.name.text ≡ is_called_before f earlier

-- the answer is what is found among the rest, after functions whose names are those of the set
pub record IsLeft (seen : List ℕ → Bool) (rest : List FunctionName) (answer : Option FunctionName) : Type 0 where
  pub earlier : List FunctionName
  pub sees : Sees seen earlier
  pub same : second_after earlier rest ≡ answer

when : {A : Type 0} (b c : Bool) (x y : A) → b ≡ c → cond b x y ≡ cond c x y
when b c x y e = ap (λ d. cond d x y) e

or_swap : (a b c : Bool) → (a || (b || c)) ≡ ((b || a) || c)
or_swap true true c = refl
or_swap true false c = refl
or_swap false true c = refl
or_swap false false c = refl

-- The next function

next_passes : (seen new : List ℕ → Bool) (counts : Bool) (f : FunctionName) (rest : List FunctionName) (answer : Option FunctionName)
    → false ≡ (counts && seen f.name.text)
    → ((name : List ℕ) → new name ≡ ((counts && bytes_eq f.name.text name) || seen name))
    → IsLeft seen (if counts then f ∷ rest else rest) answer → IsLeft new rest answer
next_passes seen new false f rest answer unseen adds left =
    record { earlier = left.earlier; sees = λ g. adds g.name.text ∙ left.sees g; same = left.same }
next_passes seen new true f rest answer unseen adds left = record {
  earlier = f ∷ left.earlier;
  sees = λ g. adds g.name.text ∙ ap (λ b. bytes_eq f.name.text g.name.text || b) (left.sees g);
  same = when false (is_called_before f left.earlier) (Some f) (second_after (f ∷ left.earlier) rest) (unseen ∙ left.sees f) ∙ left.same;
}

-- what is called so: the next function, or one of the rest, or an earlier one
next_seen : (seen new : List ℕ → Bool) (counts : Bool) (f g : FunctionName) (rest : List FunctionName) (whole : Bool)
    → ((name : List ℕ) → new name ≡ ((counts && bytes_eq f.name.text name) || seen name))
    → (is_called_before g (if counts then f ∷ rest else rest) || seen g.name.text) ≡ whole
    → (is_called_before g rest || new g.name.text) ≡ whole
next_seen seen new false f g rest whole adds all = ap (λ b. is_called_before g rest || b) (adds g.name.text) ∙ all
next_seen seen new true f g rest whole adds all =
    ap (λ b. is_called_before g rest || b) (adds g.name.text)
    ∙ or_swap (is_called_before g rest) (bytes_eq f.name.text g.name.text) (seen g.name.text) ∙ all

-- The declarations of a file

-- none of the functions before the rest is a second one, and their names have come into the set
pub record IsWalked (old seen : List ℕ → Bool) (rest all : List TopLevelDeclaration) : Type 0 where
  pub left :
      (file : ℕ) (earlier : List FunctionName) → Sees old earlier
      → IsLeft seen (function_names_in file rest) (second_after earlier (function_names_in file all))
  pub names :
      (file : ℕ) (f : FunctionName)
      → (is_called_before f (function_names_in file rest) || seen f.name.text) ≡ (is_called_before f (function_names_in file all) || old f.name.text)

abbrev name_of : ℕ → Function → FunctionName
name_of file f = record { file = file; name = f.name }

pub walked_function : (old seen new : List ℕ → Bool) (f : Function) (rest all : List TopLevelDeclaration)
    → false ≡ (can_be_meant f && seen f.name.text)
    → ((name : List ℕ) → new name ≡ ((can_be_meant f && bytes_eq f.name.text name) || seen name))
    → IsWalked old seen (function_declaration f ∷ rest) all → IsWalked old new rest all
walked_function old seen new f rest all unseen adds walked = record {
  left = λ file earlier sees.
      next_passes seen new (can_be_meant f) (name_of file f) (function_names_in file rest) (second_after earlier (function_names_in file all))
      unseen adds (walked.left file earlier sees);
  names = λ file g.
      next_seen seen new (can_be_meant f) (name_of file f) g (function_names_in file rest)
      (is_called_before g (function_names_in file all) || old g.name.text) adds (walked.names file g);
}

pub walked_other : (old seen new : List ℕ → Bool) (d : Declaration) (rest all : List TopLevelDeclaration)
    → ((name : List ℕ) → new name ≡ seen name) → IsWalked old seen (general_declaration d ∷ rest) all → IsWalked old new rest all
walked_other old seen new d rest all same walked = record {
  left = λ file earlier sees.
      let l = walked.left file earlier sees in
      record { earlier = l.earlier; sees = λ f. same f.name.text ∙ l.sees f; same = l.same };
  names = λ file f. ap (λ b. is_called_before f (function_names_in file rest) || b) (same f.name.text) ∙ walked.names file f;
}

-- the declaration that comes next in the program's list
pub walked_item :
    (old seen : List ℕ → Bool) (ds : List TopLevelDecl) (i : ℕ) (d : TopLevelDecl) (s : TopLevelDeclaration) (all : List TopLevelDeclaration)
    → i < length ds → d ≡ get_or ds i d → top_level_syntax d ≡ s
    → IsWalked old seen (map top_level_syntax (drop i ds)) all → IsWalked old seen (s ∷ map top_level_syntax (drop (i + 1) ds)) all
walked_item old seen ds i d s all below item is walked =
    let rest = map top_level_syntax (drop (i + 1) ds) in
    subst (λ l. IsWalked old seen l all) (ap (map top_level_syntax) (drop_item ds i d below item) ∙ ap (λ t. t ∷ rest) is) walked

-- The functions of a whole file

abbrev onto : List FunctionName → List FunctionName → List FunctionName
onto earlier [] = earlier
onto earlier (f ∷ fs) = onto (f ∷ earlier) fs

passed : (b : Bool) (f : FunctionName) (one all end : Option FunctionName) → (one ≡ None → all ≡ end)
    → cond b (Some f) one ≡ None → cond b (Some f) all ≡ end
passed false f one all end rest e = rest e
passed true f one all end rest e = cc

found : (b : Bool) (f g : FunctionName) (one all : Option FunctionName) → (one ≡ Some g → all ≡ Some g)
    → cond b (Some f) one ≡ Some g → cond b (Some f) all ≡ Some g
found false f g one all rest e = rest e
found true f g one all rest e = e

after_none : (earlier fs gs : List FunctionName) → second_after earlier fs ≡ None
    → second_after earlier (fs ++ gs) ≡ second_after (onto earlier fs) gs
after_none earlier [] gs e = refl
after_none earlier (f ∷ fs) gs e =
    passed (is_called_before f earlier) f (second_after (f ∷ earlier) fs) (second_after (f ∷ earlier) (fs ++ gs))
    (second_after (onto (f ∷ earlier) fs) gs) (after_none (f ∷ earlier) fs gs) e

after_some : (earlier fs gs : List FunctionName) (g : FunctionName) → second_after earlier fs ≡ Some g
    → second_after earlier (fs ++ gs) ≡ Some g
after_some earlier [] gs g e = cc
after_some earlier (f ∷ fs) gs g e =
    found (is_called_before f earlier) f g (second_after (f ∷ earlier) fs) (second_after (f ∷ earlier) (fs ++ gs))
    (after_some (f ∷ earlier) fs gs g) e

called_onto : (g : FunctionName) (earlier fs : List FunctionName)
    → (is_called_before g fs || is_called_before g earlier) ≡ is_called_before g (onto earlier fs)
called_onto g earlier [] = refl
called_onto g earlier (f ∷ fs) =
    sym (or_swap (is_called_before g fs) (bytes_eq f.name.text g.name.text) (is_called_before g earlier)) ∙ called_onto g (f ∷ earlier) fs

pub file_passes : (seen new : List ℕ → Bool) (fs rest : List FunctionName) (answer : Option FunctionName)
    → ((earlier : List FunctionName) → Sees seen earlier → None ≡ second_after earlier fs)
    → ((f : FunctionName) → new f.name.text ≡ (is_called_before f fs || seen f.name.text))
    → IsLeft seen (fs ++ rest) answer → IsLeft new rest answer
file_passes seen new fs rest answer unseen adds left = record {
  earlier = onto left.earlier fs;
  sees = λ g. adds g ∙ ap (λ b. is_called_before g fs || b) (left.sees g) ∙ called_onto g left.earlier fs;
  same = sym (after_none left.earlier fs rest (sym (unseen left.earlier left.sees))) ∙ left.same;
}

pub file_has_second : (seen : List ℕ → Bool) (fs rest : List FunctionName) (f : FunctionName) (answer : Option FunctionName)
    → ((earlier : List FunctionName) → Sees seen earlier → Some f ≡ second_after earlier fs)
    → IsLeft seen (fs ++ rest) answer → Some f ≡ answer
file_has_second seen fs rest f answer seconds left =
    sym (after_some left.earlier fs rest f (sym (seconds left.earlier left.sees))) ∙ left.same

-- the file that comes next in the program's list
pub file_item : (seen : List ℕ → Bool) (files : List File) (i : ℕ) (file : File) (ds : List TopLevelDecl) (answer : Option FunctionName)
    → i < length files → ds ≡ (get_or files i file).declarations.items
    → IsLeft seen (function_names_from i (map file_syntax (drop i files))) answer
    → IsLeft seen (function_names_in i (map top_level_syntax ds) ++ function_names_from (i + 1) (map file_syntax (drop (i + 1) files))) answer
file_item seen files i file ds answer below declared left =
    let rest = function_names_from (i + 1) (map file_syntax (drop (i + 1) files)) in
    subst (λ l. IsLeft seen (function_names_in i (map top_level_syntax l) ++ rest) answer) (sym declared)
    (subst (λ l. IsLeft seen (function_names_from i (map file_syntax l)) answer) (drop_more files i file below) left)

-- The set as a map

some_or : {V : Type 0} (b : Bool) (value : V) (old : Option V) → is_some (cond b (Some value) old) ≡ (b || is_some old)
some_or true value old = refl
some_or false value old = refl

pub name_added : {V S : Type 0} (seen new : IndexMap (Bor (List ℕ)) V S) (value : V) (key text : List ℕ) (meant counts : Bool)
    → meant ≡ true → meant ≡ counts → key ≡ text
    → UpdatesBy (λ x y. bytes_eq x.now y.now) (λ k. bytes_eq key k.now) seen new (Some value)
    → (name : List ℕ) → has_name new name ≡ ((counts && bytes_eq text name) || has_name seen name)
name_added seen new value key text meant counts is_meant same is_key updates name =
    ap is_some (hash_map_updates_str key seen new (Some value) updates name)
    ∙ some_or (bytes_eq key name) value (at_name seen name)
    ∙ ap (λ t. bytes_eq t name || has_name seen name) is_key
    ∙ ap (λ b. (b && bytes_eq text name) || has_name seen name) (sym is_meant ∙ same)
