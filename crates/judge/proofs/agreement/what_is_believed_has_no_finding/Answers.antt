use Rattle.judge.proofs.FileAgreement.{what_is_believed_has_no_finding as lemma}
use Rattle.judge.proofs.agreement.what_is_believed_has_no_finding.Goals as goal
use Rattle.certificates.proofs.LeastCertificates.{least_holds, least_settles}
use Rattle.checker.proofs.CheckedLists.{keeps_claims}

pub returns : goal.returns
returns c =
    lemma record {
      least_holds = least_holds;
      least_settles = least_settles;
      keeps_claims = keeps_claims;
      credits_are_fair = c.credits_are_fair.ensures;
      nothing_is_found = c.nothing_is_found.ensures;
    }
