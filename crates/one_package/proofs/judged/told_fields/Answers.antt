use Rattle.std.proofs.Common.{◌≡◌, [], map, ap, refl, sym, subst}
use Rattle.std.proofs.lemmas.Result.{IfOk-weaker}
use Rattle.calls_flags.specs.ToldFiles.{TellAllSeen}
use Rattle.report.specs.Entries.{entry_of, texts_of}
use Rattle.silent_files.specs.WalkedFiles.{walked_files}
use Rattle.one_package.proofs.FollowsSo.{if_both}
use Rattle.one_package.proofs.ToldFields.{fields_of_yes, fields_of_no}
use Rattle.one_package.proofs.WholeOnly.{not_empty, is_empty}
use Rattle.one_package.proofs.judged.told_fields.Goals as goal

pub returns-then-is_empty : goal.returns-then-is_empty
returns-then-is_empty c =
    let none : map entry_of c.args.found.now ≡ [] = is_empty entry_of c.args.found.now _ refl c.if-is_empty.ensures in
    IfOk-weaker c.fields_to_tell.result _ _
    (λ fields both ps tables p all told.
    let seens = walked_files ps tables p told.walked in
    fields_of_yes ps tables p all c.args.told.now (map entry_of c.args.found.now) (texts_of fields.items) none told both.0
    (both.1 seens (subst (TellAllSeen seens) (sym c.deref.ensures.value) told.are_files)))
    (if_both _ _ c.fields_to_tell.result c.fields_to_tell.ensures.sorted c.fields_to_tell.ensures.fields)

pub returns-else-is_empty : goal.returns-else-is_empty
returns-else-is_empty c = λ ps tables p all told.
    fields_of_no ps tables p (map entry_of c.args.found.now) (texts_of c.new.result.items)
    (not_empty entry_of c.args.found.now _ refl c.if-is_empty.ensures) (ap texts_of c.new.ensures.items)
