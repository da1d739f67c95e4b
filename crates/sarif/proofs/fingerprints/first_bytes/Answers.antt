use Rattle.std.proofs.Common.{◌≤◌, length, rules, sym}
use Rattle.std.proofs.lemmas.List.{take_all}
use Rattle.sarif.specs.declared.fingerprints.TheConstants.{MOST_BYTES}
use Rattle.sarif.proofs.fingerprints.first_bytes.Goals as goal

pub returns-then-text-le-MOST_BYTES : goal.returns-then-text-le-MOST_BYTES
returns-then-text-le-MOST_BYTES c =
    let short : length c.args.text.now ≤ MOST_BYTES = search rules in
    sym (take_all MOST_BYTES c.args.text.now short)
