-- Files that were told of as they were seen, one after the other, and those that are not walked.
use Rattle.std.proofs.Common.{◌≡◌, ℕ, zero, suc, ◌+◌, Bool, false, List, [], ◌∷◌, ◌++◌, map, Some, None, refl, sym, ap, ◌∙◌, subst, arith}
use Rattle.std.specs.Prelude.{◌==◌, slice_get}
use Rattle.std.specs.List.{list_any}
use Rattle.std.proofs.lemmas.Option.{none-some, same_Some}
use Rattle.std.proofs.lemmas.List.{append-nil, append_assoc}
use Rattle.tree.specs.declared.edition.Edition.{Edition}
use Rattle.tree.specs.declared.edition.Edition.TheVariants.{First, Second}
use Rattle.tree.specs.Syntax.{SourceFile}
use Rattle.meaning.specs.Tracked.{Known, placed, locals_of}
use Rattle.meaning.specs.Uses.{Seen, seen_in}
use Rattle.meaning.specs.BodyEvents.{bodies_of, variables_of}
use Rattle.meaning_packages.specs.Credits.{binds_captured}
use Rattle.mentions.specs.MarkViews.{body_view}
use Rattle.events.specs.declared.told.Told.{Told}
use Rattle.events.specs.ToldViews.{TellsFile, TellsNothing, events_of_site}
use Rattle.silent_files.specs.WalkedFiles.{seen_if, seen_some}
use Rattle.calls_flags.specs.declared.told_file.ToldFile.{ToldFile}
use Rattle.calls_flags.specs.ToldFiles.{TellsSeen, TellAllSeen, ordered_if}

pub none_told : TellAllSeen [] []
none_told = record { are_as_many = refl; each = λ i seen k is is_kept. absurd (none-some seen is) }

pub first_and : (seen : Seen) (k : ToldFile) (seens : List Seen) (ks : List ToldFile) → TellsSeen seen k → TellAllSeen seens ks
    → TellAllSeen (seen ∷ seens) (k ∷ ks)
first_and seen k seens ks first rest = record {
  are_as_many = let same = rest.are_as_many in omega (arith, same);
  each = at;
}
  where
    at : (i : ℕ) (s : Seen) (t : ToldFile) → slice_get (seen ∷ seens) i ≡ Some s → slice_get (k ∷ ks) i ≡ Some t
        → TellsSeen s t
    at zero s t is is_kept =
        subst (λ x. TellsSeen x t) (same_Some seen s is) (subst (TellsSeen seen) (same_Some k t is_kept) first)
    at (suc i) s t is is_kept = rest.each i s t is is_kept

-- what was told of a file was told of the file that was seen so
pub told_so : (s meant : Seen) → s ≡ meant → (kept : ToldFile)
    → TellsFile s kept.told
    → ((body : ℕ) → ordered_if kept.variables body ≡ variables_of s body)
    → (kept.variables ≡ None → bodies_of s ≡ [])
    → TellsSeen meant kept
told_so s meant same kept tells variables none =
    subst (λ x. TellsSeen x kept) same (record { tells = tells; are_variables = variables; no_body = none })

binds_nothing : (e : Edition) (known : Known) (body number : ℕ) → false ≡ binds_captured e (seen_in known []) body number
unfolding placed
binds_nothing First known body number = refl
binds_nothing Second known body number = refl

nothing_told : (known : Known) (told : Told) → TellsNothing known.edition told → TellsFile (seen_in known []) told
unfolding placed
nothing_told known told none = record {
  outer = ap (map _) none.outer;
  faults = λ body. ap (map _) (none.faults body);
  events = λ body at. ap (events_of_site at) (none.events body);
  panics = λ body at. ap (list_any (λ site. site == at)) (none.panics body);
  bound = λ body number. ap (list_any (λ n. n == number)) (none.bound body) ∙ binds_nothing known.edition known body number;
  keeping = ap (map _) none.keeping;
  opened = ap (map body_view) none.opened;
  edition = none.edition;
}

bare_variables : (known : Known) (body : ℕ) → [] ≡ variables_of (seen_in known []) body
unfolding placed locals_of
bare_variables known body = refl

bare_bodies : (known : Known) → bodies_of (seen_in known []) ≡ []
unfolding placed
bare_bodies known = refl

-- a file of which nothing was told is one without marks
pub silent_so : (known : Known) (kept : ToldFile) → kept.variables ≡ None → TellsNothing known.edition kept.told
    → TellsSeen (seen_in known []) kept
silent_so known kept none nothing = record {
  tells = nothing_told known kept.told nothing;
  are_variables = λ body. ap (λ o. ordered_if o body) none ∙ bare_variables known body;
  no_body = λ e. bare_bodies known;
}

-- what was told so far, with what is told of the trees that are left, is told of all
abbrev pub TellsOn : (ℕ → Bool) → (ℕ → Known) → ℕ → List SourceFile → List SourceFile → List ToldFile → Type 0
TellsOn walked known n left all so_far = (rest : List ToldFile) → TellAllSeen (seen_some walked known n left) rest
    → TellAllSeen (seen_some walked known 0 all) (so_far ++ rest)

pub tells_next : (walked : ℕ → Bool) (known : ℕ → Known) (n : ℕ) (tree : SourceFile) (left left_before all : List SourceFile)
    (so_far next : List ToldFile) (k : ToldFile)
    → left_before ≡ tree ∷ left
    → next ≡ so_far ++ k ∷ []
    → TellsSeen (seen_if (walked n) (known n) tree) k
    → TellsOn walked known n left_before all so_far
    → TellsOn walked known (n + 1) left all next
tells_next walked known n tree left left_before all so_far next k is_left is_next this on rest told =
    let here : TellAllSeen (seen_some walked known n left_before) (k ∷ rest) =
    subst (λ ts. TellAllSeen (seen_some walked known n ts) (k ∷ rest)) (sym is_left)
    (first_and (seen_if (walked n) (known n) tree) k (seen_some walked known (n + 1) left) rest this told) in
    subst (TellAllSeen (seen_some walked known 0 all))
    (sym (append_assoc so_far (k ∷ []) rest) ∙ ap (λ ks. ks ++ rest) (sym is_next))
    (on (k ∷ rest) here)

pub all_are_told : (walked : ℕ → Bool) (known : ℕ → Known) (n : ℕ) (left all : List SourceFile) (so_far : List ToldFile) → left ≡ []
    → TellsOn walked known n left all so_far
    → TellAllSeen (seen_some walked known 0 all) so_far
all_are_told walked known n left all so_far none on =
    subst (TellAllSeen (seen_some walked known 0 all)) (append-nil so_far)
    (on [] (subst (λ ts. TellAllSeen (seen_some walked known n ts) []) (sym none) none_told))

pub tells_first : (walked : ℕ → Bool) (known : ℕ → Known) (all : List SourceFile) (so_far : List ToldFile) → so_far ≡ []
    → TellsOn walked known 0 all all so_far
tells_first walked known all so_far none rest told =
    subst (λ ks. TellAllSeen (seen_some walked known 0 all) (ks ++ rest)) (sym none) told
