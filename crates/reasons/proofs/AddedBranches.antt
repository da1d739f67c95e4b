-- Branches that are added at the end of a list, step by step.
use Rattle.std.proofs.Common.{◌≡◌, ℕ, List, [], ◌∷◌, ◌++◌, map, Result, OnOk, sym, ap, ◌∙◌, append_assoc}
use Rattle.std.proofs.lemmas.List.{append-nil, map-append}
use Rattle.std.proofs.lemmas.Result.{on_ok_weaker}
use Rattle.reasons.specs.Branches.{Branch, branches_of, case_branches, communication_branches, case_offsets, communication_offsets}
use Rattle.reasons.specs.WordViews.{branch_view, AddsBranches}
use Rattle.reasons.specs.declared.branches.Branch.{Branch as KeptBranch}
use Rattle.tree.specs.declared.statement.CaseClause.{CaseClause, out-CaseClause}
use Rattle.tree.specs.declared.statement.CommClause.{CommClause, out-CommClause}
use Rattle.tree.specs.declared.statement.Block.{Block, out-Block}
use Rattle.tree.specs.Syntax.{CaseClauses, CommunicationClauses}
use Rattle.tree.specs.View.{block_braces, case_clause_and, communication_clause_and, cases_syntax, communications_syntax, statements_syntax}
use Rattle.tree.proofs.Views.{case_clause_and-out, communication_clause_and-out, block_syntax-out}

pub adds_nothing : (before : List KeptBranch) → AddsBranches [] before before
adds_nothing before = record { are = sym (append-nil (map branch_view before)) }

pub adds_one : (before after : List KeptBranch) (b : KeptBranch)
    → after ≡ before ++ b ∷ []
    → AddsBranches (branch_view b ∷ []) before after
adds_one before after b pushed = record { are = ap (map branch_view) pushed ∙ map-append branch_view before (b ∷ []) }

pub adds_then : (before between after : List KeptBranch) (bs cs : List Branch)
    → AddsBranches bs before between
    → AddsBranches cs between after
    → AddsBranches (bs ++ cs) before after
adds_then before between after bs cs first second = record {
  are = second.are ∙ ap (λ l. l ++ cs) first.are ∙ append_assoc (map branch_view before) bs cs;
}

-- The last step may fail.

pub then_adds : {T E : Type 0} (result : Result T E) (before between after : List KeptBranch) (bs cs : List Branch)
    → AddsBranches bs before between
    → OnOk result (AddsBranches cs between after)
    → OnOk result (AddsBranches (bs ++ cs) before after)
then_adds result before between after bs cs first = on_ok_weaker result (adds_then before between after bs cs first)

pub three_adds : {T E : Type 0} (result : Result T E) (a b c d : List KeptBranch) (ps qs rs : List Branch)
    → AddsBranches ps a b
    → AddsBranches qs b c
    → OnOk result (AddsBranches rs c d)
    → OnOk result (AddsBranches (ps ++ (qs ++ rs)) a d)
three_adds result a b c d ps qs rs first second third =
    then_adds result a b d ps (qs ++ rs) first (then_adds result b c d qs rs second third)

pub four_adds : {T E : Type 0} (result : Result T E) (a b c d e : List KeptBranch) (ps qs rs ss : List Branch)
    → AddsBranches ps a b
    → AddsBranches qs b c
    → AddsBranches rs c d
    → OnOk result (AddsBranches ss d e)
    → OnOk result (AddsBranches (ps ++ (qs ++ (rs ++ ss))) a e)
four_adds result a b c d e ps qs rs ss first second third fourth =
    then_adds result a b e ps (qs ++ (rs ++ ss)) first (three_adds result b c d e qs rs ss second third fourth)

-- A loop keeps that what was added with what the rest adds is the whole.

pub adds_next : (now next : List KeptBranch) (all bs rest whole : List Branch)
    → map branch_view now ++ all ≡ whole
    → all ≡ bs ++ rest
    → AddsBranches bs now next
    → map branch_view next ++ rest ≡ whole
adds_next now next all bs rest whole kept split added =
    ap (λ l. l ++ rest) added.are
    ∙ append_assoc (map branch_view now) bs rest
    ∙ ap (λ l. map branch_view now ++ l) (sym split)
    ∙ kept

pub adds_all : (start end : List KeptBranch) (all whole : List Branch)
    → map branch_view end ++ all ≡ map branch_view start ++ whole
    → all ≡ []
    → AddsBranches whole start end
adds_all start end all whole kept nothing = record {
  are = sym (append-nil (map branch_view end)) ∙ ap (λ l. map branch_view end ++ l) (sym nothing) ∙ kept;
}

-- What was added to none

pub alone : (start end : List KeptBranch) (bs : List Branch) → start ≡ [] → AddsBranches bs start end → map branch_view end ≡ bs
alone start end bs none added = added.are ∙ ap (λ l. map branch_view l ++ bs) none

-- A clause of a list, and the rest

abbrev pub in_case : CaseClause → List Branch
in_case c = branches_of (statements_syntax (out-CaseClause c).statements.items)

pub cases_more : (c : CaseClause) (cs : CaseClauses) → case_branches (case_clause_and c cs) ≡ in_case c ++ case_branches cs
unfolding case_branches
cases_more c cs = ap case_branches (case_clause_and-out c cs)

abbrev pub in_communication : CommClause → List Branch
in_communication c = branches_of (statements_syntax (out-CommClause c).statements.items)

pub communications_more : (c : CommClause) (cs : CommunicationClauses)
    → communication_branches (communication_clause_and c cs) ≡ in_communication c ++ communication_branches cs
unfolding communication_branches
communications_more c cs = ap communication_branches (communication_clause_and-out c cs)

-- The offsets of clauses, which are pushed one by one

pub offsets_next : (now next : List ℕ) (at : ℕ) (all rest whole : List ℕ)
    → next ≡ now ++ at ∷ []
    → all ≡ at ∷ rest
    → now ++ all ≡ whole
    → next ++ rest ≡ whole
offsets_next now next at all rest whole pushed split kept =
    ap (λ l. l ++ rest) pushed ∙ append_assoc now (at ∷ []) rest ∙ ap (λ l. now ++ l) (sym split) ∙ kept

pub first_case : (c : CaseClause) (cs : List CaseClause)
    → case_offsets (cases_syntax (c ∷ cs)) ≡ (out-CaseClause c).span.start ∷ case_offsets (cases_syntax cs)
first_case c cs = ap case_offsets (case_clause_and-out c (cases_syntax cs))

pub first_communication : (c : CommClause) (cs : List CommClause)
    → communication_offsets (communications_syntax (c ∷ cs))
    ≡ (out-CommClause c).span.start ∷ communication_offsets (communications_syntax cs)
first_communication c cs = ap communication_offsets (communication_clause_and-out c (communications_syntax cs))

pub braces_out : (b : Block) → block_braces b ≡ (out-Block b).span
braces_out b = λ i. (block_syntax-out b i).braces
