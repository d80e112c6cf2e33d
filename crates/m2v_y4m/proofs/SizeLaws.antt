-- The bytes of a frame of a header that is within its bounds.
use Rattle.std.proofs.Common.{◌*◌, ◌<◌, ◌≤◌, arith}
use Rattle.std.proofs.Math.Nat.{mul-pos}
use Rattle.m2v_y4m.specs.declared.header.Y4mHeader.{Y4mHeader}
use Rattle.m2v_y4m.specs.Rules.{IsHeader}
use Rattle.m2v_y4m.specs.Frames.{size_of}

pub size_some : (h : Y4mHeader) → IsHeader h → 1 ≤ size_of h
size_some h is = let some : 0 < h.width * h.height = mul-pos (omega (arith, is.wide)) (omega (arith, is.tall)) in omega arith
