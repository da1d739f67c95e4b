-- Faults of fields of new objects that rows obtain into.
use Rattle.std.proofs.Common.{◌≡◌, ℕ, Bool, true, false, true≢false, if◌then◌else◌, List, [], ◌++◌, Option, Some, None, is_some, option_map, refl, sym, ap, ◌∙◌}
use Rattle.tree.specs.Syntax.{Identifier}
use Rattle.meaning.specs.Mentions.{Standing, ordinary, first_of_for, communication, Row}
use Rattle.meaning.specs.Tracked.{Local}
use Rattle.meaning.specs.Uses.{Seen, UseFault, row_binds, field_obtained, field_left_faults}
use Rattle.tracked.specs.LocalViews.{SeenLocal, entry_of}
use Rattle.uses.specs.OutcomeViews.{first_field_faults, type_field_faults}

module _ (seen : Seen) (v : Local) (f : Identifier) (row : Row) (k : ℕ) where
  by_standing : (s : Standing)
      → first_field_faults s f ++ type_field_faults seen v f (record row { standing = s }) k
      ≡ field_obtained seen v f (record row { standing = s }) k
  by_standing ordinary = refl
  by_standing first_of_for = refl
  by_standing communication = refl

  pub obtained_faults
      : first_field_faults row.standing f ++ type_field_faults seen v f row k ≡ field_obtained seen v f row k
  obtained_faults = by_standing row.standing

the_local : (seen : Seen) (e : SeenLocal) (o : Option Local) → Some e ≡ option_map (entry_of seen) o → o ≡ Some e.local
the_local seen e None is = absurd (true≢false (ap is_some is))
the_local seen e (Some l) is = ap (option_map (λ (e : SeenLocal). e.local)) (sym is)

module _ (seen : Seen) (f : Identifier) (row : Row) (k : ℕ) (o : Option Local) where
  pub bound_faults : (e : SeenLocal) → Some e ≡ option_map (entry_of seen) o → true ≡ row_binds seen row
      → field_obtained seen e.local f row k ≡ field_left_faults seen o f row k
  bound_faults e is binds =
      ap (λ t. if t then field_obtained seen e.local f row k else []) binds
      ∙ ap (λ (o : Option Local). field_left_faults seen o f row k) (sym (the_local seen e o is))

  pub unbound_faults : (e : SeenLocal) → Some e ≡ option_map (entry_of seen) o → false ≡ row_binds seen row
      → [] ≡ field_left_faults seen o f row k
  unbound_faults e is binds =
      ap (λ t. if t then field_obtained seen e.local f row k else []) binds
      ∙ ap (λ (o : Option Local). field_left_faults seen o f row k) (sym (the_local seen e o is))

  pub no_faults : None ≡ option_map (entry_of seen) o → [] ≡ field_left_faults seen o f row k
  no_faults is = by o is
    where
      by : (o : Option Local) → None ≡ option_map (entry_of seen) o → [] ≡ field_left_faults seen o f row k
      by None is = refl
      by (Some l) is = absurd (true≢false (sym (ap is_some is)))
