use Rattle.body_code.proofs.jumping.part_code.Goals as goal

pub returns-in-Declaration : goal.returns-in-Declaration
returns-in-Declaration g c = rw c.in-Declaration.is c.declaration.ensures

pub returns-in-Return : goal.returns-in-Return
returns-in-Return g c = rw c.in-Return.is c.leaving.ensures

pub returns-in-Goto : goal.returns-in-Goto
returns-in-Goto g c = rw c.in-Goto.is c.site.ensures

pub returns-in-Plain : goal.returns-in-Plain
returns-in-Plain g c = rw c.in-Plain.is c.site-in-Plain.ensures
