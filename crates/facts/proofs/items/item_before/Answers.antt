use Rattle.std.proofs.Common.{refl, sym, ap, ◌∙◌, option_map}
use Rattle.meaning.specs.FunctionFacts.{items_of}
use Rattle.tree.specs.View.{identifier_syntax}
use Rattle.tree.proofs.Views.{parameter_and-Named, parameter_and-Unnamed, parameter_and-NameAlone}
use Rattle.facts.specs.FactViews.{item_view}
use Rattle.facts.proofs.Gathered.{alone_before, alone_last}
use Rattle.facts.proofs.items.item_before.Goals as goal

pub returns-in-Named : goal.returns-in-Named
returns-in-Named c = λ rest follows. rw (c.in-Named.is, parameter_and-Named) refl

pub returns-in-Unnamed : goal.returns-in-Unnamed
returns-in-Unnamed c = λ rest follows. rw (c.in-Unnamed.is, parameter_and-Unnamed) refl

pub returns-in-Some : goal.returns-in-Some
returns-in-Some c = λ rest follows.
    rw (c.in-NameAlone.is, parameter_and-NameAlone)
    (alone_before (identifier_syntax c.in-NameAlone.name) (item_view c.in-Some.item) (items_of rest)
    (ap (option_map item_view) (sym c.in-Some.is) ∙ follows))

pub returns-in-None : goal.returns-in-None
returns-in-None c = λ rest follows.
    rw (c.in-NameAlone.is, parameter_and-NameAlone)
    (alone_last (identifier_syntax c.in-NameAlone.name) (items_of rest)
    (ap (option_map item_view) (sym c.in-None.is) ∙ follows))
