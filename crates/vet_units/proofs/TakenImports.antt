-- The imports of a unit that count, one after the other.
use Rattle.std.proofs.Common.{◌≡◌, ℕ, Bool, true, false, if◌then◌else◌, List, [], ◌∷◌, ◌++◌, filter, sym, ap, ◌∙◌, subst}
use Rattle.std.specs.List.{AllZip}
use Rattle.std.proofs.lemmas.List.{append_assoc, append-nil}
use Rattle.unit_reports.specs.declared.units.ImportedUnit.{ImportedUnit}
use Rattle.unit_reading.specs.ToldImports.{counts_in}
use Rattle.unit_reading.specs.declared.vetx_input.ToldImport.{ToldImport}
use Rattle.vet_units.specs.JudgedUnits.{AreCounted, AreCountedSoFar, IsCounted}

one_more : (xs : List ToldImport) (x : ToldImport) (us : List ImportedUnit) (u : ImportedUnit) → AllZip IsCounted xs us
    → IsCounted x u
    → AllZip IsCounted (xs ++ x ∷ []) (us ++ u ∷ [])
one_more [] x [] u are is = (is, tt)
one_more (y ∷ xs) x (v ∷ us) u are is = (are.0, one_more xs x us u are.1 is)
one_more [] x (v ∷ us) u are is = absurd are
one_more (y ∷ xs) x [] u are is = absurd are

module _ (module_path : List ℕ) (all : List ToldImport) where
  among : (one : ToldImport) (left : List ToldImport) (here : Bool) → counts_in module_path one ≡ here
      → filter (counts_in module_path) (one ∷ left) ≡ (if here then one ∷ filter (counts_in module_path) left else filter (counts_in module_path) left)
  among one left here e i =
      if e i then one ∷ filter (counts_in module_path) left else filter (counts_in module_path) left

  pub take_one : (one : ToldImport) (before left : List ToldImport) (us : List ImportedUnit) (u : ImportedUnit)
      → before ≡ one ∷ left
      → counts_in module_path one ≡ true
      → IsCounted one u
      → AreCountedSoFar module_path before all us
      → AreCountedSoFar module_path left all (us ++ u ∷ [])
  take_one one before left us u is counts its so_far = record {
    done = so_far.done ++ one ∷ [];
    complete = append_assoc so_far.done (one ∷ []) (filter (counts_in module_path) left)
        ∙ (ap (λ xs. so_far.done ++ xs) (sym (among one left true counts))
        ∙ (ap (λ xs. so_far.done ++ filter (counts_in module_path) xs) (sym is) ∙ so_far.complete));
    are_imports = one_more so_far.done one us u so_far.are_imports its;
  }

  pub pass_one : (one : ToldImport) (before left : List ToldImport) (us : List ImportedUnit) → before ≡ one ∷ left
      → counts_in module_path one ≡ false
      → AreCountedSoFar module_path before all us
      → AreCountedSoFar module_path left all us
  pass_one one before left us is counts so_far = record {
    done = so_far.done;
    complete = ap (λ xs. so_far.done ++ xs) (sym (among one left false counts))
        ∙ (ap (λ xs. so_far.done ++ filter (counts_in module_path) xs) (sym is) ∙ so_far.complete);
    are_imports = so_far.are_imports;
  }

  pub take_all : (left : List ToldImport) (us : List ImportedUnit) → left ≡ [] → AreCountedSoFar module_path left all us
      → AreCounted module_path all us
  take_all left us none so_far =
      subst (λ xs. AllZip IsCounted xs us)
      (sym (append-nil so_far.done)
      ∙ (ap (λ xs. so_far.done ++ filter (counts_in module_path) xs) (sym none) ∙ so_far.complete))
      so_far.are_imports
