use Rattle.judge.proofs.FileAgreement.{least_certificates_are_believed as lemma}
use Rattle.judge.proofs.agreement.least_certificates_are_believed.Goals as goal
use Rattle.certificates.proofs.LeastCertificates.{least_holds, least_settles}
use Rattle.checker.proofs.CheckedLists.{keeps_claims}

pub returns : goal.returns
returns c =
    lemma record {
      least_holds = least_holds;
      least_settles = least_settles;
      keeps_claims = keeps_claims;
      credits_are_fair = c.credits_are_fair.ensures;
      nothing_is_found = c.nothing_is_found.ensures;
    }
