use Rattle.std.proofs.Common.{◌≡◌, ◌∙◌, ap, codes, rules, string_bytes, ◌++◌}
use Rattle.vet_units.specs.Digests.{digest_text}
use Rattle.vet_units.proofs.calls.version_line.Goals as goal

pub returns-clause-line : goal.returns-clause-line
returns-clause-line g c =
    let made : string_bytes c.in_ok-line.line
    ≡ codes "ctxvet version 0.4.0 " ++ (string_bytes c.in_ok-sum.sum ++ codes "\n") = search rules in (
      c.in_ok-file.file,
      made ∙ ap (λ sum. codes "ctxvet version 0.4.0 " ++ (sum ++ codes "\n"))
          (c.in_ok-sum.ensures ∙ ap digest_text c.bytes.ensures),
    )
