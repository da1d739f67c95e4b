use Rattle.std.proofs.Common.{sym, ◌∙◌}
use Rattle.tree.specs.Syntax.{no_case}
use Rattle.tree.specs.View.{case_clause_and, cases_syntax}
use Rattle.tree_reader.specs.Reader.{read_cases}
use Rattle.parser_base.proofs.Faults.{is_stopped}
use Rattle.parser_base.proofs.Growing.{runs_out}
use Rattle.parser_base.specs.Places.{cursor, parts_of, go_text}
use Rattle.parser_clauses.specs.Clauses.{read_case_clause}
use Rattle.parser_clauses.proofs.ClauseLists.{cases-round, no-cases, all_cases, clauses-end, clauses-fail, clauses-more}
use Rattle.parser_clauses.proofs.switches.cases.Goals as goal

pub returns-then-stands : goal.returns-then-stands
returns-then-stands g c =
    clauses-end case_clause_and no_case cases_syntax all_cases (read_case_clause (go_text c.args.source) (parts_of c.args.source) c.args.source.below) (read_cases (go_text c.args.source) (parts_of c.args.source) c.args.source.below) (cases-round (go_text c.args.source) (parts_of c.args.source) c.args.source.below) c.loop.items.items _ c.loop.counter (cursor c.args.source c.loop.rest) _ c.loop.invariant c.loop-test.true (sym c.stands.ensures ∙ c.if-stands.true)

pub returns-in-loop : goal.returns-in-loop
returns-in-loop g c =
    clauses-fail case_clause_and no_case cases_syntax all_cases (read_case_clause (go_text c.args.source) (parts_of c.args.source) c.args.source.below) (read_cases (go_text c.args.source) (parts_of c.args.source) c.args.source.below) (cases-round (go_text c.args.source) (parts_of c.args.source) c.args.source.below) c.loop.items.items _ c.loop.counter (cursor c.args.source c.loop.rest) _ c.loop.invariant c.loop-test.true _ (sym c.stands.ensures ∙ c.if-stands.false) c.in-Err-holding.ensures

pub loop-preserved : goal.loop-preserved
loop-preserved g c =
    rw c.in_ok-items.ensures (clauses-more case_clause_and no_case cases_syntax all_cases (read_case_clause (go_text c.args.source) (parts_of c.args.source) c.args.source.below) (read_cases (go_text c.args.source) (parts_of c.args.source) c.args.source.below) (cases-round (go_text c.args.source) (parts_of c.args.source) c.args.source.below) c.loop.items.items _ c.loop.counter (cursor c.args.source c.loop.rest) _ c.loop.invariant c.loop-test.true (sym c.stands.ensures ∙ c.if-stands.false) _ _ c.in-Ok-holding.ensures)

pub returns : goal.returns
returns g c =
    is_stopped c.unexpected.result _ (runs_out case_clause_and (read_cases (go_text c.args.source) (parts_of c.args.source) c.args.source.below) c.loop.items.items _ c.loop.counter (cursor c.args.source c.loop.rest) _ c.loop.invariant (no-cases (go_text c.args.source) (parts_of c.args.source) c.args.source.below) c.loop-test.false)
