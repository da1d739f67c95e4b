use Rattle.std.proofs.Common.{◌≡◌, map, subst, Bor}
use Rattle.std.proofs.lemmas.Result.{IfOk-weaker}
use Rattle.std.specs.List.{AllByRecursion}
use Rattle.serde_json.specs.View.{view}
use Rattle.table_json.specs.Parts.{HasFits}
use Rattle.table_json.specs.Tables.{entry_of}
use Rattle.table_json.specs.TableValues.{function_value}
use Rattle.table_json.specs.WrittenTables.{IsOrdered}
use Rattle.certificate_json.specs.declared.certificates.Body.{Body}
use Rattle.certificate_json.specs.Certificates.{BodyEntry, body_of, by_place, package_of, place_of}
use Rattle.certificate_json.specs.CertificateValues.{body_value}
use Rattle.certificate_json.specs.Parts.{HasBodyFits}
use Rattle.certificate_json.proofs.WritingBack.{package_text}
use Rattle.certificate_json.proofs.written.package_value.Goals as goal

abbrev seen : Bor Body → BodyEntry
seen b = body_of b.now

pub returns : goal.returns
returns c =
    let ordered = map seen c.in_ok-ordered.ordered.items in
    let facts = map entry_of c.in_ok-facts.facts.functions.items in
    let bodies = map view c.in_ok-bodies.bodies.items in
    let functions = map view c.in_ok-functions.functions.items in
    IfOk-weaker c.package_object.result _ _ (λ value is.
    package_text (package_of c.args.entry.now) (view value) ordered facts bodies functions
    (subst (λ xs. IsOrdered by_place place_of (map body_of xs) ordered) c.deref.ensures.value c.in_ok-ordered.ensures)
    c.in_ok-facts.ensures
    (subst (λ xs. bodies ≡ map body_value (map seen xs)) c.deref-2.ensures.value c.in_ok-bodies.ensures.values)
    (subst (λ xs. AllByRecursion HasBodyFits (map seen xs)) c.deref-2.ensures.value c.in_ok-bodies.ensures.fit)
    (subst (λ xs. functions ≡ map function_value (map entry_of xs)) c.deref-3.ensures.value c.in_ok-functions.ensures.values)
    (subst (λ xs. AllByRecursion HasFits (map entry_of xs)) c.deref-3.ensures.value c.in_ok-functions.ensures.fit) is)
    c.package_object.ensures
