use Rattle.std.proofs.Common.{◌≡◌, ◌++◌, drop, map}
use Rattle.serde_json.specs.View.{view}
use Rattle.table_json.specs.TableValues.{whole}
use Rattle.certificate_json.specs.Parts.{AllSmall}
use Rattle.certificate_json.proofs.written.mask_values.Given as goal

-- the values so far, with those of what is left, are all; and where the masks that are left are small, all are
abbrev pub invariant-loop-mask : goal.invariant-loop-mask
invariant-loop-mask l = record {
  values : map view l.values.items ++ map whole (drop l.mask-index l.masks) ≡ map whole l.masks;
  small : AllSmall (drop l.mask-index l.masks) → AllSmall l.masks;
}
