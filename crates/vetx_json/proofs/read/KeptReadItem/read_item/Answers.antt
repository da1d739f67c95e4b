use Rattle.std.proofs.Common.{refl}
use Rattle.json_reading.proofs.ItemsMade.{no_item_read, none_yet}
use Rattle.vetx_json.proofs.VetxRead.{no_vetx}
use Rattle.vetx_json.proofs.read.KeptReadItem.read_item.Goals as goal

pub read_made-requires : goal.read_made-requires
read_made-requires c = (
  refl,
  refl,
  none_yet _ _ _ _ _ refl (
    refl,
    refl,
    none_yet _ _ _ _ _ refl (
      refl,
      refl,
      none_yet _ _ _ _ _ refl (
        refl,
        refl,
        none_yet _ _ _ _ _ refl (
          refl,
          refl,
          none_yet _ _ _ _ _ refl (
            refl,
            refl,
            none_yet _ _ _ _ _ refl (
              refl,
              refl,
              none_yet _ _ _ _ _ refl (
                refl,
                refl,
                none_yet _ _ _ _ _ refl
                    (refl, refl, none_yet _ _ _ _ _ refl refl),
              ),
            ),
          ),
        ),
      ),
    ),
  ),
)

pub returns-in-None-clause-ok : goal.returns-in-None-clause-ok
returns-in-None-clause-ok c =
    let none = no_item_read _ _ _ _ c.in_ok-found.field-0 c.in_ok-found.ensures.ok c.in-None.is in
    record { value = none.0; stands = none.1; judged = no_vetx none.0 none.2 }
