use Rattle.std.proofs.Common.{◌≡◌, [], Some, map, option_map, sym, ap, subst, ◌∙◌, rules}
use Rattle.std.proofs.lemmas.List.{nil_from_length}
use Rattle.package_list.specs.ListedValues.{package_of}
use Rattle.package_list.specs.ListTexts.{first_incomplete, AreListedIn}
use Rattle.package_list.proofs.PiecesRead.{listed, not_listed}
use Rattle.package_list.proofs.list.read_list.Goals as goal

pub returns-in_default-clause-fault : goal.returns-in_default-clause-fault
returns-in_default-clause-fault c =
    not_listed c.args.bytes.now _ c.in_ok-packages.ensures.ok
    (ap (option_map (λ list. map package_of list.items)) c.in_default.is)

pub returns-then-is_empty-clause-fault : goal.returns-then-is_empty-clause-fault
returns-then-is_empty-clause-fault c =
    let none : c.in-Some.packages.items ≡ [] = nil_from_length c.in-Some.packages.items (search rules) in
    subst (AreListedIn c.args.bytes.now) (ap (map package_of) none)
    (listed c.args.bytes.now _ _ c.in_ok-packages.ensures.ok (ap (option_map (λ list. map package_of list.items)) c.in-Some.is))

pub returns-in_ok-from_str-in-Some-first_incomplete-clause-fault :
    goal.returns-in_ok-from_str-in-Some-first_incomplete-clause-fault
returns-in_ok-from_str-in-Some-first_incomplete-clause-fault c =
    let same : c.deref.result.now ≡ c.in-Some.packages.items = search rules in (
      map package_of c.in-Some.packages.items,
      listed c.args.bytes.now _ _ c.in_ok-packages.ensures.ok
          (ap (option_map (λ list. map package_of list.items)) c.in-Some.is),
      ap (λ ps. first_incomplete (map package_of ps)) (sym same)
          ∙ sym c.first_incomplete.ensures
          ∙ ap (option_map (λ path. path.now)) c.in-Some-first_incomplete.is
          ∙ ap Some (sym c.in_ok-from_str-in-Some-first_incomplete.ensures.ok),
    )

pub returns-in-None-clause-listed : goal.returns-in-None-clause-listed
returns-in-None-clause-listed c =
    listed c.args.bytes.now _ _ c.in_ok-packages.ensures.ok
    (ap (option_map (λ list. map package_of list.items)) c.in-Some.is)
