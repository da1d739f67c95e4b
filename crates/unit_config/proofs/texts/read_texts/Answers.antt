use Rattle.std.proofs.Common.{inl, map, sym, ap, ◌∙◌}
use Rattle.serde_json.specs.Data.{object}
use Rattle.json_reading.proofs.ObjectsRead.{object_read, no_object_read}
use Rattle.unit_config.specs.KeyedTexts.{are_told, keyed_of}
use Rattle.unit_config.proofs.KeyedRead.{are_no_texts, are_texts, no_entries}
use Rattle.unit_config.proofs.texts.read_texts.Goals as goal

pub returns-then-not-branch-clause-ok : goal.returns-then-not-branch-clause-ok
returns-then-not-branch-clause-ok c =
    let none =
    no_object_read _ _ _ _ c.in_ok-read_object.field-0 c.in_ok-read_object.ensures.ok c.if-not-branch.true in
    record { value = none.0; stands = none.1; judged = inl none.2 }

pub returns-then-are_told-clause-ok : goal.returns-then-are_told-clause-ok
returns-then-are_told-clause-ok c =
    let read =
    object_read _ _ _ _ c.in_ok-read_object.field-0 c.in_ok-read_object.ensures.ok c.if-not-branch.false
    (no_entries _ (ap (map keyed_of) c.new.ensures.items)) in
    record {
      value = object read.0;
      stands = read.1;
      judged = are_texts (map keyed_of c.read_object.new.members.entries.items) read.0 read.2
          (sym (ap (λ es. are_told (map keyed_of es)) c.deref.ensures.value) ∙ sym c.if-are_told.ensures);
    }

pub returns-else-are_told-clause-ok : goal.returns-else-are_told-clause-ok
returns-else-are_told-clause-ok c =
    let read =
    object_read _ _ _ _ c.in_ok-read_object.field-0 c.in_ok-read_object.ensures.ok c.if-not-branch.false
    (no_entries _ (ap (map keyed_of) c.new.ensures.items)) in
    record {
      value = object read.0;
      stands = read.1;
      judged = are_no_texts (map keyed_of c.read_object.new.members.entries.items) read.0 read.2
          (sym (ap (λ es. are_told (map keyed_of es)) c.deref.ensures.value) ∙ sym c.if-are_told.ensures);
    }
