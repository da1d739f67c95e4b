use Rattle.std.proofs.Common.{◌≡◌, ◌∷◌, None, ap, ◌∙◌, refl, arith}
use Rattle.json.specs.Json.{value}
use Rattle.json.specs.Reads.{token_of}
use Rattle.json.proofs.Grammar.{value_is}
use Rattle.serde_json.specs.Read.{of_json, converted}
use Rattle.json_reading.proofs.Started.{at_none, at_list, at_object, too_deep_list, too_deep_object, at_text, at_boolean, at_null, at_number, no_number}
use Rattle.json_reading.proofs.start.take_start.Goals as goal

pub returns-in_default-clause-err : goal.returns-in_default-clause-err
returns-in_default-clause-err c = at_none c.args.depth c.args.reader.now (grind arith)

pub returns-then-depth-eq0-clause-err : goal.returns-then-depth-eq0-clause-err
returns-then-depth-eq0-clause-err c =
    too_deep_list c.args.depth c.args.reader.now c.next.new.self
    (c.in-Some.ensures.value ∙ ap (λ t. token_of t ∷ c.next.new.self) c.in-BeginArray.is) c.if-depth-eq0.true

pub returns-else-depth-eq0-clause-ok : goal.returns-else-depth-eq0-clause-ok
returns-else-depth-eq0-clause-ok c =
    at_list c.args.depth c.args.reader.now c.next.new.self
    (c.in-Some.ensures.value ∙ ap (λ t. token_of t ∷ c.next.new.self) c.in-BeginArray.is) (grind arith)

pub returns-then-depth-eq0-2-clause-err : goal.returns-then-depth-eq0-2-clause-err
returns-then-depth-eq0-2-clause-err c =
    too_deep_object c.args.depth c.args.reader.now c.next.new.self
    (c.in-Some.ensures.value ∙ ap (λ t. token_of t ∷ c.next.new.self) c.in-BeginObject.is) c.if-depth-eq0-2.true

pub returns-else-depth-eq0-2-clause-ok : goal.returns-else-depth-eq0-2-clause-ok
returns-else-depth-eq0-2-clause-ok c =
    at_object c.args.depth c.args.reader.now c.next.new.self
    (c.in-Some.ensures.value ∙ ap (λ t. token_of t ∷ c.next.new.self) c.in-BeginObject.is) (grind arith)

pub returns-in-String-clause-ok : goal.returns-in-String-clause-ok
returns-in-String-clause-ok c =
    at_text c.args.depth c.args.reader.now c.next.new.self c.in-String.text.now
    (c.in-Some.ensures.value ∙ ap (λ t. token_of t ∷ c.next.new.self) c.in-String.is)

pub returns-in-Some-number-clause-ok : goal.returns-in-Some-number-clause-ok
returns-in-Some-number-clause-ok c =
    at_number c.args.depth c.args.reader.now c.next.new.self c.in-Number.text.now c.in-Some-number.number _
    (c.in-Some.ensures.value ∙ ap (λ t. token_of t ∷ c.next.new.self) c.in-Number.is) refl c.in-Some-number.ensures

pub returns-in-None-clause-err : goal.returns-in-None-clause-err
returns-in-None-clause-err c =
    no_number c.args.depth c.args.reader.now c.next.new.self c.in-Number.text.now _
    (c.in-Some.ensures.value ∙ ap (λ t. token_of t ∷ c.next.new.self) c.in-Number.is) refl c.in-None.ensures

pub returns-in-Bool-clause-ok : goal.returns-in-Bool-clause-ok
returns-in-Bool-clause-ok c =
    at_boolean c.args.depth c.args.reader.now c.next.new.self c.in-Bool.is_true
    (c.in-Some.ensures.value ∙ ap (λ t. token_of t ∷ c.next.new.self) c.in-Bool.is)

pub returns-in-Null-clause-ok : goal.returns-in-Null-clause-ok
returns-in-Null-clause-ok c =
    at_null c.args.depth c.args.reader.now c.next.new.self
    (c.in-Some.ensures.value ∙ ap (λ t. token_of t ∷ c.next.new.self) c.in-Null.is)

pub returns-in-EndObject-clause-err : goal.returns-in-EndObject-clause-err
returns-in-EndObject-clause-err c =
    let first : c.args.reader.now ≡ token_of c.in-Some.token ∷ c.next.new.self = c.in-Some.ensures.value in
    let none : value c.args.depth c.args.reader.now ≡ None =
    rw (value_is c.args.depth c.args.reader.now, first) (grind arith) in
    ap (converted of_json) none
