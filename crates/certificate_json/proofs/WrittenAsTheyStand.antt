-- Certificates that are in order are written as they stand.
use Rattle.std.proofs.Common.{◌≡◌, List, [], ◌∷◌, refl}
use Rattle.std.specs.List.{AllByRecursion, AllZip}
use Rattle.table_json.proofs.WrittenInOrder.{ordered_is, written_as_it_stands}
use Rattle.certificate_json.specs.Certificates.{PackageEntry, place_of, HasOrder}
use Rattle.certificate_json.specs.WrittenCertificates.{CertificatesInOrderAreWritten, IsTold, IsWrittenAs}
use Rattle.certificate_json.proofs.BodyReadings.{place_total}

package_as_it_stands : (p w : PackageEntry) → HasOrder p → IsTold p → IsWrittenAs p w → w ≡ p
package_as_it_stands p w order told is =
    let bodies = ordered_is place_total place_of p.bodies w.bodies order.bodies_rise is.are_bodies in
    let facts = written_as_it_stands p.facts w.facts is.are_facts order.facts_in_order told in
    λ i. record { path = is.is_path i; bodies = bodies i; facts = facts i }

packages_as_they_stand : (ps ws : List PackageEntry) → AllByRecursion HasOrder ps → AllByRecursion IsTold ps
    → AllZip IsWrittenAs ps ws
    → ws ≡ ps
packages_as_they_stand [] [] order told h = refl
packages_as_they_stand [] (w ∷ ws) order told h = absurd h
packages_as_they_stand (p ∷ ps) [] order told h = absurd h
packages_as_they_stand (p ∷ ps) (w ∷ ws) order told h =
    let first = package_as_it_stands p w order.0 told.0 h.0 in
    let rest = packages_as_they_stand ps ws order.1 told.1 h.1 in
    λ i. first i ∷ rest i

pub written_as_they_stand : CertificatesInOrderAreWritten
written_as_they_stand packages written each order told =
    packages_as_they_stand packages written order.each_in_order told each
