use Rattle.std.proofs.Common.{string_bytes}
use Rattle.std.specs.Prelude.{Result, Ok, Err, IfOk}
use Rattle.serde_json.specs.View.{view}
use Rattle.table_json.specs.Tables.{entries_of}
use Rattle.table_json.proofs.TableLaws.{text_back}
use Rattle.table_json.proofs.Writing.{text_of_table}
use Rattle.table_json.proofs.written.to_json.Goals as goal

both : {T E : Type 0} (r : Result T E) (P Q R : T → Type 0) → ((x : T) → P x → Q x → R x) → IfOk r P → IfOk r Q
    → IfOk r R
both (Ok x) P Q R h p q = h x p q
both (Err e) P Q R h p q = tt

pub returns : goal.returns
returns c =
    let written = entries_of c.in_ok-written.written in
    both c.to_string.result _ _ _ (λ s text reads. record {
      written = written;
      are_written = c.in_ok-written.ensures;
      is_text = text_of_table (view c.in_ok-table_value.field-0) written (string_bytes s) c.in_ok-table_value.ensures.value text;
      reads_back =
          text_back (view c.in_ok-table_value.field-0) written (string_bytes s) c.in_ok-table_value.ensures.value
          c.in_ok-table_value.ensures.fits reads;
    })
    c.to_string.ensures.text c.to_string.ensures.reads_back
