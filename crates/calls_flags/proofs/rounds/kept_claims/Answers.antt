use Rattle.std.proofs.Common.{map, subst}
use Rattle.std.proofs.lemmas.Result.{IfOk-weaker}
use Rattle.meaning_packages.specs.CallsFlags.{calls_by}
use Rattle.calls_flags.specs.Claims.{claim_view, KeepsClaim, Sieves}
use Rattle.called_parameters.specs.Called.{flags_by_path}
use Rattle.calls_flags.proofs.rounds.kept_claims.Goals as goal

pub returns-clause-sieves : goal.returns-clause-sieves
returns-clause-sieves c =
    IfOk-weaker c.kept_by_paths.result _ _
    (λ kept sieves fs tell are. subst
    (λ flags. Sieves (KeepsClaim fs (calls_by flags (flags_by_path c.args.imported.now)))
    (map claim_view c.args.claims.now) (map claim_view kept.items))
    (λ i name k. c.in_ok-own.ensures name k i) (sieves fs tell are))
    c.kept_by_paths.ensures.sieves
