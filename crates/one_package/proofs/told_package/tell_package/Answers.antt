use Rattle.std.proofs.Common.{ℕ, List, ◌≡◌, ◌∙◌, false, ◌||◌, ap, sym, subst, map}
use Rattle.std.specs.List.{list_any}
use Rattle.silent_files.specs.WalkedFiles.{is_walked}
use Rattle.facts.specs.FactViews.{facts_by_name, facts_by_path}
use Rattle.meaning.specs.FunctionFacts.{package_facts}
use Rattle.names.specs.Answers.{declared_at}
use Rattle.silent_files.specs.SilentPackages.{GiveNone}
use Rattle.silent_files.specs.WalkedFiles.{SkipsSilent}
use Rattle.silent_files.proofs.SilentFiles.{neither_second}
use Rattle.tree.specs.View.{file_syntax}
use Rattle.meaning.specs.TwoFunctions.{FunctionName, function_names_from}
use Rattle.meaning_reports.specs.Loaded.{signatures_of}
use Rattle.meaning_reports.specs.PackageTables.{tells}
use Rattle.files_to_walk.specs.Functions.{has_giver, has_told}
use Rattle.imports.specs.Views.{text_views}
use Rattle.meaning.specs.Tracked.{these_fields}
use Rattle.one_package.proofs.JudgedFiles.{keeping_so, seen_so}
use Rattle.files_to_walk.proofs.OwnGivers.{none_gives, told_from}
use Rattle.one_package.proofs.told_package.tell_package.Goals as goal

pub returns-clause-told : goal.returns-clause-told
returns-clause-told g c = λ ps tables i p is_p its around whole means.
    let facts = facts_by_name c.in_ok-table.table in
    let names = declared_at c.args.names.now in
    let are_trees = ap (map file_syntax) c.deref.ensures.value ∙ sym its.are_trees in
    let are_facts : (name : List ℕ) → facts name ≡ signatures_of ps p name = λ name. c.in_ok-table.ensures name
    ∙ λ j. package_facts (sym its.is_edition j) (λ file at. means file at j) (are_trees j) name in
    let gives_none : c.signs_of_files-signs.result.gives ≡ false → GiveNone facts = λ off.
    none_gives facts c.args.loaded.now.edition names (map file_syntax c.args.loaded.now.trees.items)
    (λ name. c.in_ok-table.ensures name ∙ ap (λ ts. package_facts c.args.loaded.now.edition names (map file_syntax ts) name) c.deref.ensures.value)
    (sym (c.signs_of_files-signs.ensures.gives ∙ ap (λ ts. list_any (has_giver facts) (map file_syntax ts)) c.deref-2.ensures.value) ∙ off) in
    let own : c.signs_of_files-signs.result.gives ≡ false → GiveNone (signatures_of ps p) = λ off.
    subst GiveNone (λ j name. are_facts name j) (gives_none off) in
    let imported = facts_by_path c.args.around.signatures.now in
    let skip = c.in_ok-walked.ensures.skip ps tables i p is_p its whole
    (λ off. own (neither_second c.args.tellers.now.tells_all c.signs_of_files-signs.result.gives (sym c.needs_all-all.ensures ∙ off)))
    around.are_givers in
    let keeping = keeping_so ps tables p c.args.loaded.now.edition names facts imported
    (sym its.is_edition) means are_facts around.are_signatures (is_walked c.deref-4.result.now) _
    (these_fields (text_views c.in_ok-fields.fields.keeping.items) (text_views c.in_ok-fields.fields.filled.items))
    (ap (map file_syntax) c.deref-3.ensures.value ∙ sym its.are_trees)
    (subst (λ ms. SkipsSilent ps tables p (is_walked ms)) (sym c.deref-4.ensures.value) skip)
    c.in_ok-fields.ensures in
    record {
      walked = is_walked c.deref-8.result.now;
      are_signatures = are_facts;
      is_told = c.signs_of_files-signs.ensures.told
          ∙ (ap (λ ts. list_any (has_told facts) (map file_syntax ts)) c.deref-2.ensures.value
          ∙ (told_from facts 0 (map file_syntax c.args.loaded.now.trees.items)
          ∙ λ j. list_any (λ (f : FunctionName). tells (are_facts f.name.text j)) (function_names_from 0 (sym its.are_trees j))));
      are_fields = keeping;
      are_files = seen_so ps tables p c.args.loaded.now.edition names facts imported
          (sym its.is_edition) means are_facts
          around.are_signatures (is_walked c.deref-8.result.now) _ c.in_ok-files.files.items _
          (ap (map file_syntax) c.deref-5.ensures.value ∙ sym its.are_trees)
          ((λ j. these_fields (text_views (c.deref-6.ensures.value j)) (text_views (c.deref-7.ensures.value j))) ∙ keeping) c.in_ok-files.ensures;
      skip_silent = subst (λ ms. SkipsSilent ps tables p (is_walked ms)) (sym c.deref-8.ensures.value) skip;
      all = λ is n. ap (λ ms. is_walked ms n) c.deref-8.ensures.value
          ∙ c.in_ok-walked.ensures.all (c.needs_all-all.ensures ∙ ap (λ b. b || c.signs_of_files-signs.result.gives) is) n;
    }

pub returns-clause-marked : goal.returns-clause-marked
returns-clause-marked g c = λ off.
    let facts = facts_by_name c.in_ok-table.table in
    let names = declared_at c.args.names.now in
    none_gives facts c.args.loaded.now.edition names (map file_syntax c.args.loaded.now.trees.items)
    (λ name. c.in_ok-table.ensures name ∙ ap (λ ts. package_facts c.args.loaded.now.edition names (map file_syntax ts) name) c.deref.ensures.value)
    (sym (c.signs_of_files-signs.ensures.gives ∙ ap (λ ts. list_any (has_giver facts) (map file_syntax ts)) c.deref-2.ensures.value) ∙ off)
