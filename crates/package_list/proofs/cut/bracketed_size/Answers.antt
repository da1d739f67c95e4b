use Rattle.std.proofs.Common.{◌≡◌, ◌+◌, drop, ◌∙◌, arith}
use Rattle.package_list.specs.Pieces.{bracketed_size}
use Rattle.package_list.specs.declared.cut.Place.TheVariants.{Outside}
use Rattle.package_list.proofs.StringSizes.{after, after_none, after_some, behind_byte, behind_string, within}
use Rattle.package_list.proofs.cut.bracketed_size.Goals.{then-byte-eq34, else-byte-eq34}
use Rattle.package_list.proofs.cut.bracketed_size.Goals as goal

pub returns-then-opened-eq0-clause-value : goal.returns-then-opened-eq0-clause-value
returns-then-opened-eq0-clause-value c =
    let bytes = c.args.bytes.now in
    let l = c.loop-index in
    let now = c.if-byte-eq34 in
    let left : now.index + after now.opened (drop now.index bytes) ≡ bracketed_size Outside 0 bytes = elim now.branch [
      | then-byte-eq34 w ↦ behind_string bytes l.index l.opened _ c.loop-index-test.true l.invariant.to_come _ w.string_size-index.result
          now.opened now.index w.if-byte-eq34.true w.split_at.ensures.back w.string_size-index.ensures.value w.opened-is w.index-is
      | else-byte-eq34 w ↦ behind_byte bytes l.index l.opened _ c.loop-index-test.true l.invariant.to_come
          now.opened now.index w.if-byte-eq34.false (w.opened-is ∙ w.opened_after-opened.ensures.value) w.index-is
    ] in
    let none = after_none now.opened (drop now.index bytes) c.if-opened-eq0.true in
    omega (arith, left, none)

pub loop-index-preserved : goal.loop-index-preserved
loop-index-preserved c =
    let bytes = c.args.bytes.now in
    let l = c.loop-index in
    let now = c.if-byte-eq34 in
    let left : now.index + after now.opened (drop now.index bytes) ≡ bracketed_size Outside 0 bytes = elim now.branch [
      | then-byte-eq34 w ↦ behind_string bytes l.index l.opened _ c.loop-index-test.true l.invariant.to_come _ w.string_size-index.result
          now.opened now.index w.if-byte-eq34.true w.split_at.ensures.back w.string_size-index.ensures.value w.opened-is w.index-is
      | else-byte-eq34 w ↦ behind_byte bytes l.index l.opened _ c.loop-index-test.true l.invariant.to_come
          now.opened now.index w.if-byte-eq34.false (w.opened-is ∙ w.opened_after-opened.ensures.value) w.index-is
    ] in
    let some = after_some now.opened (drop now.index bytes) c.if-opened-eq0.false in
    record {
      in_range = elim now.branch [
        | then-byte-eq34 w ↦ within bytes _ l.index w.string_size-index.result now.index c.loop-index-test.true
            w.split_at.ensures.back w.string_size-index.ensures.fits w.index-is
        | else-byte-eq34 w ↦ omega (arith, w.index-is, c.loop-index-test.true)
      ];
      few_open = elim now.branch [
        | then-byte-eq34 w ↦ omega (arith, w.opened-is, w.index-is, l.invariant.few_open)
        | else-byte-eq34 w ↦ omega (arith, w.opened-is, w.opened_after-opened.ensures.most, w.index-is, l.invariant.few_open)
      ];
      to_come = omega (arith, left, some);
    }
