use Rattle.std.proofs.Common.{◌≡◌, ◌-◌}
use Rattle.tree.specs.View.{case_clause_and}
use Rattle.tree_reader.specs.Reader.{read_cases}
use Rattle.tree_reader.specs.Reading.{steps}
use Rattle.parser_base.specs.Places.{cursor, parts_of, go_text}
use Rattle.parser_base.proofs.Growing.{after}
use Rattle.parser_clauses.proofs.switches.cases.Given as goal

abbrev pub invariant-loop : goal.invariant-loop
invariant-loop g l =
    after case_clause_and l.items.items (read_cases (go_text l.source) (parts_of l.source) l.source.below (l.end - l.counter) (cursor l.source l.rest)) ≡ read_cases (go_text l.source) (parts_of l.source) l.source.below (steps (cursor l.source l.fn.place)) (cursor l.source l.fn.place)
