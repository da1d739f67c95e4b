-- The packages of a list, one after the other.
use Rattle.std.proofs.Common.{◌≡◌, true, false, ℕ, List, [], ◌∷◌, ◌++◌, Option, filter, ◌∙◌, ap, subst, sym}
use Rattle.std.proofs.lemmas.List.{append-nil, append_assoc}
use Rattle.std.specs.List.{AllZip}
use Rattle.load.specs.declared.packages.GivenPackage.{GivenPackage}
use Rattle.tree.specs.declared.edition.Edition.{Edition}
use Rattle.package_list.specs.ListedValues.{PackageEntry}
use Rattle.inputs.specs.Packages.{has_files, AddListed, AreListed, IsListed}

kept : (entry : PackageEntry) (entries : List PackageEntry) → has_files entry ≡ true
    → filter has_files (entry ∷ entries) ≡ entry ∷ filter has_files entries
kept entry entries is = rw is

passed : (entry : PackageEntry) (entries : List PackageEntry) → has_files entry ≡ false
    → filter has_files (entry ∷ entries) ≡ filter has_files entries
passed entry entries is = rw is

-- what was added so far, and that it completes what is read of those that are left
pub record AddsSo (edition : Edition) (here : Option (List ℕ)) (all : List PackageEntry) (before now : List GivenPackage)
    (left : List PackageEntry)
    : Type 0 where
  pub added : List GivenPackage
  pub grown : now ≡ before ++ added
  pub completes : (rest : List GivenPackage) → AreListed edition here left rest → AreListed edition here all (added ++ rest)

module _ (edition : Edition) (here : Option (List ℕ)) (all : List PackageEntry) (before : List GivenPackage) where
  pub adds_none : (now : List GivenPackage) (left : List PackageEntry) → now ≡ before → left ≡ all
      → AddsSo edition here all before now left
  adds_none now left same whole = record {
    added = [];
    grown = same ∙ sym (append-nil before);
    completes = λ rest h. subst (λ entries. AreListed edition here entries rest) whole h;
  }

  pub adds_no_package : (now : List GivenPackage) (old left : List PackageEntry) (entry : PackageEntry) → old ≡ entry ∷ left
      → has_files entry ≡ false
      → AddsSo edition here all before now old
      → AddsSo edition here all before now left
  adds_no_package now old left entry is none so = record {
    added = so.added;
    grown = so.grown;
    completes = λ rest h. so.completes rest
        (subst (λ entries. AreListed edition here entries rest) (sym is)
        (subst (λ kept. AllZip (IsListed edition here) kept rest) (sym (passed entry left none)) h));
  }

  pub adds_next : (now next : List GivenPackage) (old left : List PackageEntry) (entry : PackageEntry) (given : GivenPackage)
      → old ≡ entry ∷ left
      → has_files entry ≡ true
      → IsListed edition here entry given
      → next ≡ now ++ given ∷ []
      → AddsSo edition here all before now old
      → AddsSo edition here all before next left
  adds_next now next old left entry given is some listed more so = record {
    added = so.added ++ given ∷ [];
    grown = more ∙ (ap (λ l. l ++ given ∷ []) so.grown ∙ append_assoc before so.added (given ∷ []));
    completes = λ rest h.
        subst (AreListed edition here all) (sym (append_assoc so.added (given ∷ []) rest))
        (so.completes (given ∷ rest)
        (subst (λ entries. AreListed edition here entries (given ∷ rest)) (sym is)
        (subst (λ kept. AllZip (IsListed edition here) kept (given ∷ rest)) (sym (kept entry left some)) (listed, h))));
  }

  pub adds_all : (now : List GivenPackage) (left : List PackageEntry) → left ≡ [] → AddsSo edition here all before now left
      → AddListed edition all before now
  adds_all now left none so = record {
    here = here;
    added = so.added;
    are_listed =
        subst (AreListed edition here all) (append-nil so.added)
        (so.completes [] (subst (λ entries. AreListed edition here entries []) (sym none) tt));
    together = so.grown;
  }

-- the same of equal entries
pub added_of : (edition : Edition) (entries others : List PackageEntry) (before after : List GivenPackage) → entries ≡ others
    → AddListed edition entries before after
    → AddListed edition others before after
added_of edition entries others before after same added =
    subst (λ es. AddListed edition es before after) same added
