use Rattle.std.proofs.Common.{sym, ◌∙◌}
use Rattle.tree.specs.Syntax.{no_communication}
use Rattle.tree.specs.View.{communication_clause_and, communications_syntax}
use Rattle.tree_reader.specs.Reader.{read_communications}
use Rattle.parser_base.proofs.Faults.{is_stopped}
use Rattle.parser_base.proofs.Growing.{runs_out}
use Rattle.parser_base.specs.Places.{cursor, parts_of, go_text}
use Rattle.parser_clauses.specs.Clauses.{read_communication_clause}
use Rattle.parser_clauses.proofs.ClauseLists.{communications-round, no-communications, all_communications, clauses-end, clauses-fail, clauses-more}
use Rattle.parser_clauses.proofs.selects.communications.Goals as goal

pub returns-then-stands : goal.returns-then-stands
returns-then-stands g c =
    clauses-end communication_clause_and no_communication communications_syntax all_communications (read_communication_clause (go_text c.args.source) (parts_of c.args.source) c.args.source.below) (read_communications (go_text c.args.source) (parts_of c.args.source) c.args.source.below) (communications-round (go_text c.args.source) (parts_of c.args.source) c.args.source.below) c.loop.items.items _ c.loop.counter (cursor c.args.source c.loop.rest) _ c.loop.invariant c.loop-test.true (sym c.stands.ensures ∙ c.if-stands.true)

pub returns-in-loop : goal.returns-in-loop
returns-in-loop g c =
    clauses-fail communication_clause_and no_communication communications_syntax all_communications (read_communication_clause (go_text c.args.source) (parts_of c.args.source) c.args.source.below) (read_communications (go_text c.args.source) (parts_of c.args.source) c.args.source.below) (communications-round (go_text c.args.source) (parts_of c.args.source) c.args.source.below) c.loop.items.items _ c.loop.counter (cursor c.args.source c.loop.rest) _ c.loop.invariant c.loop-test.true _ (sym c.stands.ensures ∙ c.if-stands.false) c.in-Err-holding.ensures

pub loop-preserved : goal.loop-preserved
loop-preserved g c =
    rw c.in_ok-items.ensures (clauses-more communication_clause_and no_communication communications_syntax all_communications (read_communication_clause (go_text c.args.source) (parts_of c.args.source) c.args.source.below) (read_communications (go_text c.args.source) (parts_of c.args.source) c.args.source.below) (communications-round (go_text c.args.source) (parts_of c.args.source) c.args.source.below) c.loop.items.items _ c.loop.counter (cursor c.args.source c.loop.rest) _ c.loop.invariant c.loop-test.true (sym c.stands.ensures ∙ c.if-stands.false) _ _ c.in-Ok-holding.ensures)

pub returns : goal.returns
returns g c =
    is_stopped c.unexpected.result _ (runs_out communication_clause_and (read_communications (go_text c.args.source) (parts_of c.args.source) c.args.source.below) c.loop.items.items _ c.loop.counter (cursor c.args.source c.loop.rest) _ c.loop.invariant (no-communications (go_text c.args.source) (parts_of c.args.source) c.args.source.below) c.loop-test.false)
