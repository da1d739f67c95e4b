-- What is added at the end of the marks, step by step.
use Rattle.std.proofs.Common.{◌≡◌, ℕ, List, [], ◌∷◌, ◌++◌, Result, OnOk, refl, sym, ap, ◌∙◌}
use Rattle.std.proofs.lemmas.List.{append_assoc, append-nil, map-append}
use Rattle.std.proofs.lemmas.Result.{on_ok_weaker}
use Rattle.mentions.specs.declared.mark.Mark.{Mark as KeptMark}
use Rattle.mentions.specs.MarkViews.{mark_view, marks_view, Adds}
use Rattle.tree.specs.declared.expression.Param.{Param, Named', Unnamed', NameAlone}
use Rattle.tree.specs.Syntax.{Parameters, no_parameter}
use Rattle.tree.specs.View.{parameter_and}
use Rattle.meaning.specs.Mentions.{Mark, declared_elsewhere}
use Rattle.meaning.specs.Scopes.{parameters_named}

pub adds_nothing : (before : List KeptMark) → Adds before before []
adds_nothing before = sym (append-nil (marks_view before))

pub adds_same : (before after : List KeptMark) (names others : List Mark) → names ≡ others → Adds before after names → Adds before after others
adds_same before after names others same added = added ∙ ap (λ l. marks_view before ++ l) same

-- one after the other
pub adds_then : (before between after : List KeptMark) (names others : List Mark)
    → Adds before between names
    → Adds between after others
    → Adds before after (names ++ others)
adds_then before between after names others first second =
    second ∙ ap (λ l. l ++ others) first ∙ append_assoc (marks_view before) names others

pub adds_pushed : (before after : List KeptMark) (mark : KeptMark) → after ≡ before ++ mark ∷ [] → Adds before after (mark_view mark ∷ [])
adds_pushed before after mark pushed = ap marks_view pushed ∙ map-append mark_view before (mark ∷ [])

-- A loop keeps that what was added with what the rest adds is the whole.

pub adds_next : (now next : List KeptMark) (all names rest whole : List Mark)
    → marks_view now ++ all ≡ whole
    → all ≡ names ++ rest
    → Adds now next names
    → marks_view next ++ rest ≡ whole
adds_next now next all names rest whole kept parts added =
    ap (λ l. l ++ rest) added ∙ append_assoc (marks_view now) names rest ∙ ap (λ l. marks_view now ++ l) (sym parts) ∙ kept

pub adds_all : (start end : List KeptMark) (all whole : List Mark)
    → marks_view end ++ all ≡ marks_view start ++ whole
    → all ≡ []
    → Adds start end whole
adds_all start end all whole kept nothing =
    sym (append-nil (marks_view end)) ∙ ap (λ l. marks_view end ++ l) (sym nothing) ∙ kept

-- The last step may fail.

pub then_adds : {T E : Type 0} (result : Result T E) (before between after : List KeptMark) (names others : List Mark)
    → Adds before between names
    → OnOk result (Adds between after others)
    → OnOk result (Adds before after (names ++ others))
then_adds result before between after names others first = on_ok_weaker result (adds_then before between after names others first)

pub same_adds : {T E : Type 0} (result : Result T E) (before after : List KeptMark) (names others : List Mark)
    → names ≡ others
    → OnOk result (Adds before after names)
    → OnOk result (Adds before after others)
same_adds result before after names others same = on_ok_weaker result (adds_same before after names others same)

pub three_adds : {T E : Type 0} (result : Result T E) (a b c d : List KeptMark) (xs ys zs : List Mark)
    → Adds a b xs
    → Adds b c ys
    → OnOk result (Adds c d zs)
    → OnOk result (Adds a d (xs ++ (ys ++ zs)))
three_adds result a b c d xs ys zs first second third =
    then_adds result a b d xs (ys ++ zs) first (then_adds result b c d ys zs second third)

pub four_adds : {T E : Type 0} (result : Result T E) (a b c d e : List KeptMark) (xs ys zs ws : List Mark)
    → Adds a b xs
    → Adds b c ys
    → Adds c d zs
    → OnOk result (Adds d e ws)
    → OnOk result (Adds a e (xs ++ (ys ++ (zs ++ ws))))
four_adds result a b c d e xs ys zs ws first second third fourth =
    then_adds result a b e xs (ys ++ (zs ++ ws)) first (three_adds result b c d e ys zs ws second third fourth)

pub alone_adds : {T E : Type 0} (result : Result T E) (before after : List KeptMark) (names : List Mark)
    → OnOk result (Adds before after names)
    → OnOk result (Adds before after (names ++ []))
alone_adds result before after names = same_adds result before after names (names ++ []) (sym (append-nil names))

pub then_alone_adds : {T E : Type 0} (result : Result T E) (a b c : List KeptMark) (xs ys : List Mark)
    → Adds a b xs
    → OnOk result (Adds b c ys)
    → OnOk result (Adds a c (xs ++ (ys ++ [])))
then_alone_adds result a b c xs ys first second = then_adds result a b c xs (ys ++ []) first (alone_adds result b c ys second)

-- An item of a list, and the rest.

pub one_part : (a rest : List Mark) → a ++ rest ≡ (a ++ []) ++ rest
one_part a rest = sym (append_assoc a [] rest)

pub two_parts : (a b rest : List Mark) → a ++ (b ++ rest) ≡ (a ++ (b ++ [])) ++ rest
two_parts a b rest = sym (append_assoc a (b ++ []) rest ∙ ap (λ l. a ++ l) (append_assoc b [] rest))

pub three_parts : (a b c rest : List Mark) → a ++ (b ++ (c ++ rest)) ≡ (a ++ (b ++ (c ++ []))) ++ rest
three_parts a b c rest =
    sym (append_assoc a (b ++ (c ++ [])) rest ∙ ap (λ l. a ++ l) (append_assoc b (c ++ []) rest ∙ ap (λ l. b ++ l) (append_assoc c [] rest)))

pub four_parts : (a b c d rest : List Mark) → a ++ (b ++ (c ++ (d ++ rest))) ≡ (a ++ (b ++ (c ++ (d ++ [])))) ++ rest
four_parts a b c d rest =
    ap (λ l. a ++ l) (three_parts b c d rest) ∙ sym (append_assoc a (b ++ (c ++ (d ++ []))) rest)

pub two_joined : (a b rest : List Mark) → a ++ (b ++ rest) ≡ (a ++ b) ++ rest
two_joined a b rest = sym (append_assoc a b rest)

pub three_joined : (a b c rest : List Mark) → a ++ (b ++ (c ++ rest)) ≡ (a ++ (b ++ c)) ++ rest
three_joined a b c rest = sym (append_assoc a (b ++ c) rest ∙ ap (λ l. a ++ l) (append_assoc b c rest))

pub parameters_named_more : (site : ℕ) (p : Param) (ps : Parameters)
    → declared_elsewhere site (parameters_named (parameter_and p ps))
    ≡ declared_elsewhere site (parameters_named (parameter_and p no_parameter)) ++ declared_elsewhere site (parameters_named ps)
unfolding parameter_and
parameters_named_more site (Named' n ellipsis t span) ps = refl
parameters_named_more site (Unnamed' ellipsis t span) ps = refl
parameters_named_more site (NameAlone n) ps = refl
