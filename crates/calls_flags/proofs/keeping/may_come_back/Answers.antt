use Rattle.std.proofs.Common.{true, IsTrue, refl, sym, subst}
use Rattle.std.specs.Prelude.{◌↔◌}
use Rattle.meaning_packages.specs.CallsFlags.{ComesBackBy}
use Rattle.calls_flags.proofs.keeping.may_come_back.Goals as goal

pub returns-in-First : goal.returns-in-First
returns-in-First c = λ b tells v there.
    subst (λ e. IsTrue true ↔ ComesBackBy e b) (sym c.in-First.is) (λ e. tt, λ h. refl)

pub returns-in-Second : goal.returns-in-Second
returns-in-Second c = λ b tells v there.
    subst (λ e. IsTrue c.comes_back.result ↔ ComesBackBy e b) (sym c.in-Second.is)
    (c.comes_back.ensures b tells.is_graph tells.are_variables tells.classifies v there)
