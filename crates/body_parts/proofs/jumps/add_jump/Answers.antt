use Rattle.std.proofs.Common.{sym}
use Rattle.std.proofs.lemmas.List.{append-nil}
use Rattle.body_parts.proofs.jumps.add_jump.Goals as goal

pub returns-in-Declaration : goal.returns-in-Declaration
returns-in-Declaration c = rw c.in-Declaration.is (sym (append-nil _))

pub returns-in-Return : goal.returns-in-Return
returns-in-Return c = rw c.in-Return.is (sym (append-nil _))

pub returns-in_ok-push-in-Goto : goal.returns-in_ok-push-in-Goto
returns-in_ok-push-in-Goto c = rw c.in-Goto.is c.in_ok-push-in-Goto.ensures.items

pub returns-in-Plain : goal.returns-in-Plain
returns-in-Plain c = rw c.in-Plain.is (sym (append-nil _))
