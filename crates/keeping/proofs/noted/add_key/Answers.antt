use Rattle.std.proofs.Common.{refl}
use Rattle.keeping.proofs.Keys.{nothing_noted, key_noted}
use Rattle.keeping.proofs.noted.add_key.Goals as goal

pub returns-in_ok-push-in-Key : goal.returns-in_ok-push-in-Key
returns-in_ok-push-in-Key c =
    key_noted c.args.notes.now.items c.push.new.self.items c.args.mention _ c.in-Key.is refl c.in_ok-push-in-Key.ensures.items

pub returns-in_default : goal.returns-in_default
returns-in_default c = nothing_noted c.args.notes.now.items c.args.mention c.in_default.not-Key
