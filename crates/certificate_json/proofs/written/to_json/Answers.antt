use Rattle.std.proofs.Common.{string_bytes}
use Rattle.std.specs.Prelude.{Result, Ok, Err, IfOk}
use Rattle.serde_json.specs.View.{view}
use Rattle.certificate_json.specs.Certificates.{packages_of}
use Rattle.certificate_json.proofs.WritingBack.{text_of}
use Rattle.certificate_json.proofs.written.to_json.Goals as goal

both : {T E : Type 0} (r : Result T E) (P Q R : T → Type 0) → ((x : T) → P x → Q x → R x) → IfOk r P → IfOk r Q
    → IfOk r R
both (Ok x) P Q R h p q = h x p q
both (Err e) P Q R h p q = tt

pub returns : goal.returns
returns c =
    both c.to_string.result _ _ _ (λ s text reads.
    text_of (packages_of c.args.certificates.now) (view c.in_ok-certificates_value.field-0) (string_bytes s)
    c.in_ok-certificates_value.ensures text reads)
    c.to_string.ensures.text c.to_string.ensures.reads_back
