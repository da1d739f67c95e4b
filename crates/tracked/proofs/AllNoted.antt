-- What all marks of a file do to a local that nothing was known of.
use Rattle.std.proofs.Common.{◌≡◌, ℕ, Bool, true, false, ◌&&◌, ◌||◌, if◌then◌else◌, List, [], ◌∷◌, ◌++◌, Option, Some, None, option_map, refl, sym, ap, ◌∙◌}
use Rattle.std.specs.Prelude.{◌==◌, not}
use Rattle.std.specs.List.{list_any}
use Rattle.std.proofs.lemmas.Bool.Decides.{Decides-eqb}
use Rattle.meaning.specs.Mentions.{BodyPlace, Mark, mentions, of_fields, runs_literal, returns, opens, closes}
use Rattle.meaning.specs.Tracked.{Known, Placed, Local, locals_of, find_local, variable_of, is_variable, obtains_in, makes_in}
use Rattle.meaning.specs.Objects.{ObjectRow, object_rows, field_locals}
use Rattle.meaning.specs.Uses.{Seen, is_own, is_of_local, mentions_inside}
use Rattle.tracked.specs.declared.table.Entries.{Entries}
use Rattle.meaning.specs.BodyEvents.{distinct}
use Rattle.tracked.specs.declared.table.Locals.{Locals}
use Rattle.tracked.specs.declared.seen.Seen.{Seen as KeptSeen}
use Rattle.tracked.specs.LocalViews.{SeenLocal, entry_in, fresh, noted, noted_all, numbers_of, AddsLocals, HasLocals, TellsLocals, entry_of, seen_view, SeesLocals}
use Rattle.tracked.proofs.Added.{fresh_in, has_more}

or_false : (b : Bool) → (b || false) ≡ b
or_false true = refl
or_false false = refl

or_assoc : (a b c : Bool) → ((a || b) || c) ≡ (a || (b || c))
or_assoc true b c = refl
or_assoc false b c = refl

same_variable : (o : Option ℕ) (l : Local) → is_variable o l.number ≡ is_of_local l o
same_variable None l = refl
same_variable (Some n) l = refl

-- an entry with what a mark, or what marks, add to it
abbrev with_flags : SeenLocal → Bool → Bool → Bool → SeenLocal
with_flags e obtained made inside = record {
  local = e.local;
  is_obtained = e.is_obtained || obtained;
  is_made = e.is_made || made;
  is_in_literal = e.is_in_literal || inside;
}

with_none : (e : SeenLocal) → e ≡ with_flags e false false false
with_none e = λ i. record {
  local = e.local;
  is_obtained = sym (or_false e.is_obtained) i;
  is_made = sym (or_false e.is_made) i;
  is_in_literal = sym (or_false e.is_in_literal) i;
}

with_both : (e : SeenLocal) (o m l p n k : Bool)
    → with_flags (with_flags e o m l) p n k ≡ with_flags e (o || p) (m || n) (l || k)
with_both e o m l p n k = λ i. record {
  local = e.local;
  is_obtained = or_assoc e.is_obtained o p i;
  is_made = or_assoc e.is_made m n i;
  is_in_literal = or_assoc e.is_in_literal l k i;
}

module _ (known : Known) where
  -- what one mark does to the local
  noted-flags : (bodies : List BodyPlace) (m : Mark) (e : SeenLocal)
      → noted known e.local.number bodies m e
      ≡ with_flags e (obtains_in known e.local.number m) (makes_in known e.local.number m)
      (mentions_inside known e.local bodies m)
  noted-flags bodies (mentions m) e =
      ap (λ b. with_flags e (obtains_in known e.local.number (mentions m)) (makes_in known e.local.number (mentions m))
      (b && not (is_own e.local bodies)))
      (same_variable (variable_of known m) e.local)
  noted-flags bodies (of_fields site m) e = with_none e
  noted-flags bodies (runs_literal moment site at) e = with_none e
  noted-flags bodies (returns at es) e = with_none e
  noted-flags bodies (opens b) e = with_none e
  noted-flags bodies closes e = with_none e

  noted_all-flags : (ps : List Placed) (e : SeenLocal)
      → noted_all known e.local.number ps e
      ≡ with_flags e (list_any (λ p. obtains_in known e.local.number p.mark) ps)
      (list_any (λ p. makes_in known e.local.number p.mark) ps)
      (list_any (λ p. mentions_inside known e.local p.bodies p.mark) ps)
  noted_all-flags [] e = with_none e
  noted_all-flags (p ∷ ps) e =
      ap (noted_all known e.local.number ps) (noted-flags p.bodies p.mark e)
      ∙ noted_all-flags ps
      (with_flags e (obtains_in known e.local.number p.mark) (makes_in known e.local.number p.mark)
      (mentions_inside known e.local p.bodies p.mark))
      ∙ with_both e _ _ _ _ _ _

-- the first local of a number, by the test of its number
module _ (seen : Seen) (n : ℕ) (l : Local) (others : Option Local)
    (rest : option_map (noted_all seen.known n seen.marks) (option_map fresh others) ≡ option_map (entry_of seen) others)
  where
    first_noted : (b : Bool) → (b ≡ true → l.number ≡ n)
        → option_map (noted_all seen.known n seen.marks) (option_map fresh (if b then Some l else others))
        ≡ option_map (entry_of seen) (if b then Some l else others)
    first_noted true same =
        ap (λ k. Some (noted_all seen.known k seen.marks (fresh l))) (sym (same refl))
        ∙ ap Some (noted_all-flags seen.known seen.marks (fresh l))
    first_noted false same = rest

pub all_noted : (seen : Seen) (ls : List Local) (n : ℕ)
    → option_map (noted_all seen.known n seen.marks) (option_map fresh (find_local ls n))
    ≡ option_map (entry_of seen) (find_local ls n)
all_noted seen [] n = refl
all_noted seen (l ∷ ls) n =
    first_noted seen n l (find_local ls n) (all_noted seen ls n) (l.number == n) (Decides-eqb l.number n).0

-- a table with these locals, after all marks were noted
pub told_entries : (known : Known) (ps : List Placed) (ls : List Local) (a b : Entries)
    → ((n : ℕ) → entry_in a n ≡ fresh_in ls n)
    → ((n : ℕ) → entry_in b n ≡ option_map (noted_all known n ps) (entry_in a n))
    → (n : ℕ) → entry_in b n ≡ option_map (λ l. noted_all known n ps (fresh l)) (find_local ls n)
told_entries known ps ls a b there notes n =
    notes n ∙ ap (option_map (noted_all known n ps)) (there n) ∙ both (find_local ls n)
  where
    both : (o : Option Local)
        → option_map (noted_all known n ps) (option_map fresh o) ≡ option_map (λ l. noted_all known n ps (fresh l)) o
    both None = refl
    both (Some l) = refl

together : (known : Known) (ps : List Placed) (n : ℕ) (o : Option Local)
    → option_map (λ l. noted_all known n ps (fresh l)) o ≡ option_map (noted_all known n ps) (option_map fresh o)
together known ps n None = refl
together known ps n (Some l) = refl

-- what is kept of a file so is what its marks do to its locals
pub sees_locals : (seen : KeptSeen) (ps : List Placed) (rows : List ObjectRow)
    → ps ≡ (seen_view seen).marks → rows ≡ object_rows (seen_view seen).known (seen_view seen).marks
    → TellsLocals seen.locals (seen_view seen).known ps rows → SeesLocals seen
sees_locals seen ps rows same equal tells =
    let known = (seen_view seen).known in
    let ls : List Placed → List ObjectRow → List Local = λ ps rows. locals_of known ps ++ field_locals rows rows in
    record {
      entries = λ n.
          tells.entries n
          ∙ ap (λ (ps : List Placed). option_map (λ l. noted_all known n ps (fresh l)) (find_local (ls ps rows) n)) same
          ∙ ap (λ (rows : List ObjectRow). option_map (λ l. noted_all known n (seen_view seen).marks (fresh l))
          (find_local (ls (seen_view seen).marks rows) n)) equal
          ∙ together known (seen_view seen).marks n (find_local (seen_view seen).locals n)
          ∙ all_noted (seen_view seen) (seen_view seen).locals n;
      numbers =
          tells.numbers ∙ ap (λ (ps : List Placed). distinct (numbers_of (ls ps rows))) same
          ∙ ap (λ (rows : List ObjectRow). distinct (numbers_of (ls (seen_view seen).marks rows))) equal;
    }

-- the locals of the marks, and then those of rows that obtain into fields
pub tells_locals : (known : Known) (ps : List Placed) (rows : List ObjectRow) (a b c : Locals)
    → HasLocals a (locals_of known ps) → AddsLocals a b (field_locals rows rows)
    → ((n : ℕ) → entry_in c.entries n ≡ option_map (noted_all known n ps) (entry_in b.entries n))
    → c.numbers.items ≡ b.numbers.items → TellsLocals c known ps rows
tells_locals known ps rows a b c has adds notes numbers =
    let more = has_more a b (locals_of known ps) (field_locals rows rows) has adds in record {
      entries = told_entries known ps (locals_of known ps ++ field_locals rows rows) b.entries c.entries more.entries notes;
      numbers = numbers ∙ more.numbers;
    }
