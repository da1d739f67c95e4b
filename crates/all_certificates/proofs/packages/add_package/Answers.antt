use Rattle.std.proofs.Common.{◌≡◌, ◌∷◌, [], length, map, refl, sym, ap, ◌∙◌, subst}
use Rattle.std.proofs.lemmas.List.{length-map, map-append}
use Rattle.certificate_json.specs.Certificates.{package_of}
use Rattle.certificate_json.specs.declared.certificates.Package.{Package}
use Rattle.table_json.specs.Tables.{entries_of}
use Rattle.all_certificates.specs.KeptCertificates.{AreFactsAt}
use Rattle.all_certificates.proofs.packages.add_package.Goals as goal

pub returns-clause-certified : goal.returns-clause-certified
returns-clause-certified c =
    let before = c.args.certified.now.items in
    let one : Package = record {
      path = c.in_ok-path.path;
      bodies = c.args.judged.certificates;
      facts = c.in_ok-facts.facts;
    } in
    let place : c.len.result ≡ length (map package_of before) =
    c.len.ensures ∙ (c.args.certified.now.ok.0 ∙ sym (length-map before package_of)) in
    record {
      added = package_of one;
      is_made = record {
        is_path = c.in_ok-path.ensures.ok;
        are_bodies = refl;
        are_facts =
            subst (λ n. AreFactsAt c.args.packages.now n c.args.judged (entries_of c.in_ok-facts.facts)) place
            c.in_ok-facts.ensures;
      };
      is_sum = ap (map package_of) c.in_ok-push-2.ensures.items ∙ map-append package_of before (one ∷ []);
    }
