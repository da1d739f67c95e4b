use Rattle.explanations.proofs.told_reasons.told_reasons.Goals as goal

pub returns : goal.returns
returns c = λ ps tables i p is_p tells around none means told.
    record {
      ways = λ asks. c.in_ok-ways.ensures ps tables i p asks is_p around none told;
      uses = c.in_ok-uses.ensures ps tables p tells around means told;
    }
