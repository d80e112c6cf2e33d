use Rattle.std.proofs.Common.{◌≡◌, ◌+◌, ◌++◌, length, take}
use Rattle.m2v_make.specs.Source.{left_of}
use Rattle.m2v_make.proofs.generated.GeneratedSource.read.Given as goal

abbrev pub invariant-loop-at : goal.invariant-loop-at
invariant-loop-at l =
    record {
      place : l.self.place ≡ l.fn.self.place + l.at;
      long : length l.buf ≡ length l.fn.buf;
      moved : left_of l.fn.self ≡ take l.at l.buf ++ left_of l.self;
    }
