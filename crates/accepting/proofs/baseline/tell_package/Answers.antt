use Rattle.std.proofs.Common.{ap}
use Rattle.accepting.specs.Findings.{found_view}
use Rattle.accepting.proofs.baseline.tell_package.Goals as goal

pub returns : goal.returns
returns c = λ known before fits so.
    let step = c.in_ok-findings.ensures known before fits so in
    record {
      is_told = ap (λ fs. record (found_view c.args.one) { findings = fs }) step.are_told;
      left = step.left;
    }
