use Rattle.std.proofs.Common.{string_bytes}
use Rattle.std.specs.Prelude.{Result, Ok, Err, IfOk}
use Rattle.serde_json.specs.View.{view}
use Rattle.vetx_json.specs.KeptUnits.{vetx_of}
use Rattle.vetx_json.proofs.VetxLaws.{text_back}
use Rattle.vetx_json.proofs.Writing.{text_of_vetx}
use Rattle.vetx_json.proofs.written.to_json.Goals as goal

both : {T E : Type 0} (r : Result T E) (P Q R : T → Type 0) → ((x : T) → P x → Q x → R x) → IfOk r P → IfOk r Q
    → IfOk r R
both (Ok x) P Q R h p q = h x p q
both (Err e) P Q R h p q = tt

pub returns : goal.returns
returns c =
    let kept = vetx_of c.args.kept.now in
    let value = view c.in_ok-vetx_value.field-0 in
    both c.to_string.result _ _ _ (λ s text reads. record {
      is_text = text_of_vetx value kept (string_bytes s) c.in_ok-vetx_value.ensures.value text;
      reads_back =
          text_back value kept (string_bytes s) c.in_ok-vetx_value.ensures.value c.in_ok-vetx_value.ensures.fits reads;
    })
    c.to_string.ensures.text c.to_string.ensures.reads_back
