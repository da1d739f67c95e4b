-- Parts that are added at the end of a list, step by step.
use Rattle.std.proofs.Common.{◌≡◌, ℕ, Bool, true, false, if◌then◌else◌, List, [], ◌∷◌, ◌++◌, map, Result, Ok, Err, IfOk, OnOk, refl, sym, ap, ◌∙◌, append_assoc}
use Rattle.std.proofs.lemmas.List.{append-nil, map-append}
use Rattle.std.proofs.lemmas.Result.{on_ok_weaker}
use Rattle.tree.specs.declared.statement.CaseClause.{CaseClause, out-CaseClause}
use Rattle.tree.specs.declared.statement.CommClause.{CommClause, out-CommClause}
use Rattle.tree.specs.Syntax.{CaseClauses, CommunicationClauses}
use Rattle.tree.specs.View.{case_clause_and, communication_clause_and, statements_syntax}
use Rattle.tree.proofs.Views.{case_clause_and-out, communication_clause_and-out}
use Rattle.body_parts.specs.declared.part.Part.{Part as KeptPart}
use Rattle.body_parts.specs.declared.part.Wanted.{Wanted}
use Rattle.body_parts.specs.declared.part.Wanted.TheVariants.{All, Jumps}
use Rattle.body_parts.specs.PartViews.{part_view, is_wanted, wanted_of, Adds}
use Rattle.meaning.specs.Jumps.{Part, declaration_part, return_part, goto_part, plain_part, parts_of, cases_parts, communications_parts, jumps_among}

pub if_ok : {T F : Type 0} {P Q : T → Type 0} (r : Result T F) → ((t : T) → P t → Q t) → IfOk r P → IfOk r Q
if_ok (Ok t) f h = f t h
if_ok (Err e) f h = h

-- Parts that are wanted

wanted_both : (w : Wanted) (xs ys : List Part) → wanted_of w (xs ++ ys) ≡ wanted_of w xs ++ wanted_of w ys
wanted_both w [] ys = refl
wanted_both w (x ∷ xs) ys = by (is_wanted w x) (wanted_both w xs ys)
  where
    by : (b : Bool) → wanted_of w (xs ++ ys) ≡ wanted_of w xs ++ wanted_of w ys
        → (if b then x ∷ wanted_of w (xs ++ ys) else wanted_of w (xs ++ ys))
        ≡ (if b then x ∷ wanted_of w xs else wanted_of w xs) ++ wanted_of w ys
    by true rest = ap (λ l. x ∷ l) rest
    by false rest = rest

all_wanted : (ps : List Part) → wanted_of All ps ≡ ps
all_wanted [] = refl
all_wanted (p ∷ ps) = ap (λ l. p ∷ l) (all_wanted ps)

-- the jumps among those that are wanted as jumps are those among all
jumps_wanted : (ps : List Part) → jumps_among (wanted_of Jumps ps) ≡ jumps_among ps
jumps_wanted [] = refl
jumps_wanted (declaration_part d ∷ ps) = jumps_wanted ps
jumps_wanted (return_part at ∷ ps) = jumps_wanted ps
jumps_wanted (goto_part at ∷ ps) = ap (λ l. at ∷ l) (jumps_wanted ps)
jumps_wanted (plain_part at ∷ ps) = jumps_wanted ps

pub jumps_more : (p : Part) (ps : List Part) → jumps_among (p ∷ ps) ≡ jumps_among (p ∷ []) ++ jumps_among ps
jumps_more (declaration_part d) ps = refl
jumps_more (return_part n) ps = refl
jumps_more (goto_part n) ps = refl
jumps_more (plain_part n) ps = refl

-- Adding

module _ (w : Wanted) where
  pub adds_nothing : (before : List KeptPart) → Adds w [] before before
  adds_nothing before = record { are = sym (append-nil (map part_view before)) }

  pub adds_wanted : (before after : List KeptPart) (p : KeptPart) → is_wanted w (part_view p) ≡ true
      → after ≡ before ++ p ∷ [] → Adds w (part_view p ∷ []) before after
  adds_wanted before after p e pushed = record {
    are = ap (map part_view) pushed ∙ map-append part_view before (p ∷ [])
        ∙ ap (λ b. map part_view before ++ (if b then part_view p ∷ [] else [])) (sym e);
  }

  pub adds_unwanted : (before : List KeptPart) (p : Part) → is_wanted w p ≡ false → Adds w (p ∷ []) before before
  adds_unwanted before p e = record {
    are = sym (append-nil (map part_view before)) ∙ ap (λ b. map part_view before ++ (if b then p ∷ [] else [])) (sym e);
  }

  pub adds_then : (before between after : List KeptPart) (ps qs : List Part)
      → Adds w ps before between
      → Adds w qs between after
      → Adds w (ps ++ qs) before after
  adds_then before between after ps qs first second = record {
    are = second.are ∙ ap (λ l. l ++ wanted_of w qs) first.are
        ∙ append_assoc (map part_view before) (wanted_of w ps) (wanted_of w qs)
        ∙ ap (λ l. map part_view before ++ l) (sym (wanted_both w ps qs));
  }

  -- The last step may fail.

  pub then_adds : {T E : Type 0} (result : Result T E) (before between after : List KeptPart) (ps qs : List Part)
      → Adds w ps before between
      → OnOk result (Adds w qs between after)
      → OnOk result (Adds w (ps ++ qs) before after)
  then_adds result before between after ps qs first =
      on_ok_weaker result (adds_then before between after ps qs first)

  pub three_adds : {T E : Type 0} (result : Result T E) (a b c d : List KeptPart) (ps qs rs : List Part)
      → Adds w ps a b
      → Adds w qs b c
      → OnOk result (Adds w rs c d)
      → OnOk result (Adds w (ps ++ (qs ++ rs)) a d)
  three_adds result a b c d ps qs rs first second third =
      then_adds result a b d ps (qs ++ rs) first (then_adds result b c d qs rs second third)

  pub four_adds : {T E : Type 0} (result : Result T E) (a b c d e : List KeptPart) (ps qs rs ss : List Part)
      → Adds w ps a b
      → Adds w qs b c
      → Adds w rs c d
      → OnOk result (Adds w ss d e)
      → OnOk result (Adds w (ps ++ (qs ++ (rs ++ ss))) a e)
  four_adds result a b c d e ps qs rs ss first second third fourth =
      then_adds result a b e ps (qs ++ (rs ++ ss)) first (three_adds result b c d e qs rs ss second third fourth)

  -- A loop keeps that what was added with what the rest adds is the whole.

  pub adds_next : (now next : List KeptPart) (all ps rest : List Part) (whole : List Part)
      → map part_view now ++ wanted_of w all ≡ whole
      → all ≡ ps ++ rest
      → Adds w ps now next
      → map part_view next ++ wanted_of w rest ≡ whole
  adds_next now next all ps rest whole kept parts added =
      ap (λ l. l ++ wanted_of w rest) added.are
      ∙ append_assoc (map part_view now) (wanted_of w ps) (wanted_of w rest)
      ∙ ap (λ l. map part_view now ++ l) (sym (ap (wanted_of w) parts ∙ wanted_both w ps rest))
      ∙ kept

  pub adds_all : (start end : List KeptPart) (all whole : List Part)
      → map part_view end ++ wanted_of w all ≡ map part_view start ++ wanted_of w whole
      → all ≡ []
      → Adds w whole start end
  adds_all start end all whole kept nothing = record {
    are = sym (append-nil (map part_view end)) ∙ ap (λ l. map part_view end ++ wanted_of w l) (sym nothing) ∙ kept;
  }

-- A clause of a list, and the rest

abbrev pub case_parts : CaseClause → List Part
case_parts c = plain_part (out-CaseClause c).span.start ∷ parts_of (statements_syntax (out-CaseClause c).statements.items)

pub cases_more : (c : CaseClause) (cs : CaseClauses) → cases_parts (case_clause_and c cs) ≡ case_parts c ++ cases_parts cs
unfolding cases_parts
cases_more c cs = ap cases_parts (case_clause_and-out c cs)

abbrev pub communication_parts : CommClause → List Part
communication_parts c =
    plain_part (out-CommClause c).span.start ∷ parts_of (statements_syntax (out-CommClause c).statements.items)

pub communications_more : (c : CommClause) (cs : CommunicationClauses)
    → communications_parts (communication_clause_and c cs) ≡ communication_parts c ++ communications_parts cs
unfolding communications_parts
communications_more c cs = ap communications_parts (communication_clause_and-out c cs)

-- The jumps of those that are left, with those that were found, are those of all.

pub jump_next : (now next found all rest whole : List ℕ)
    → now ++ all ≡ whole → all ≡ found ++ rest → next ≡ now ++ found → next ++ rest ≡ whole
jump_next now next found all rest whole kept split added =
    ap (λ l. l ++ rest) added ∙ append_assoc now found rest ∙ ap (λ l. now ++ l) (sym split) ∙ kept

pub jumps_all : (found all whole : List ℕ) → found ++ all ≡ whole → all ≡ [] → found ≡ whole
jumps_all found all whole kept nothing = sym (append-nil found) ∙ ap (λ l. found ++ l) (sym nothing) ∙ kept

-- What was added to no part

wanted_alone : (w : Wanted) (start end : List KeptPart) (ps : List Part) → start ≡ [] → Adds w ps start end
    → map part_view end ≡ wanted_of w ps
wanted_alone w start end ps none added = added.are ∙ ap (λ l. map part_view l ++ wanted_of w ps) none

pub all_alone : (start end : List KeptPart) (ps : List Part) → start ≡ [] → Adds All ps start end → map part_view end ≡ ps
all_alone start end ps none added = wanted_alone All start end ps none added ∙ all_wanted ps

pub jumps_alone : (found : List ℕ) (start end kept : List KeptPart) (ps : List Part) → start ≡ [] → Adds Jumps ps start end
    → kept ≡ end → found ≡ jumps_among (map part_view kept) → found ≡ jumps_among ps
jumps_alone found start end kept ps none added same are =
    are ∙ ap (λ l. jumps_among (map part_view l)) same ∙ ap jumps_among (wanted_alone Jumps start end ps none added)
    ∙ jumps_wanted ps
