use Rattle.std.proofs.Common.{◌≡◌, ◌++◌, drop}
use Rattle.code.specs.CodeViews.{codes_view}
use Rattle.body_code.specs.SiteViews.{sites_view}
use Rattle.body_code.proofs.Bodies.{statement_codes, case_codes, communication_codes}
use Rattle.body_code.proofs.body.+code.Given as goal

-- what was added with what the rest adds is the whole
abbrev pub invariant-statements-loop-item : goal.invariant-statements-loop-item
invariant-statements-loop-item g l =
    codes_view l.codes.items ++ statement_codes (sites_view l.sites) (drop l.item-index l.list)
    ≡ statement_codes (sites_view l.sites) l.list

abbrev pub invariant-cases-loop-clause : goal.invariant-cases-loop-clause
invariant-cases-loop-clause g l =
    codes_view l.codes.items ++ case_codes (sites_view l.sites) (drop l.clause-index l.clauses)
    ≡ case_codes (sites_view l.sites) l.clauses

abbrev pub invariant-communications-loop-clause : goal.invariant-communications-loop-clause
invariant-communications-loop-clause g l =
    codes_view l.codes.items ++ communication_codes (sites_view l.sites) (drop l.clause-index l.clauses)
    ≡ communication_codes (sites_view l.sites) l.clauses
