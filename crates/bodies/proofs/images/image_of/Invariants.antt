use Rattle.bodies.proofs.MaskImages.{ImageSoFar}
use Rattle.bodies.proofs.images.image_of.Given as goal

-- the bits so far were taken
abbrev pub invariant-loop-bit : goal.invariant-loop-bit
invariant-loop-bit g l = ImageSoFar l.count (g.S.Step.step l.steps) l.mask l.image l.bit
