use Rattle.std.proofs.Common.{rules, ap, Ok}
use Rattle.m2v_y4m.proofs.Steps.{read_gave, read_moved, is_over}
use Rattle.m2v_y4m.proofs.Spots.{read_here, read_behind, stood_behind}
use Rattle.m2v_y4m.proofs.reader.Reader.read.Goals as goal

pub returns-in-Ok-true-clause-moved : goal.returns-in-Ok-true-clause-moved
returns-in-Ok-true-clause-moved g c =
    read_moved c.give.result c.args.self.now c.give.new.self _ _ c.give.new.buf
    (read_gave c.give.result _ _ c.give.new.buf _ c.in-Ok-true.ensures.same c.give.ensures.gave)

pub returns-in-Ok-true-clause-over : goal.returns-in-Ok-true-clause-over
returns-in-Ok-true-clause-over g c = λ is some. is_over c.give.new.self _ (c.give.ensures.over is)

pub returns-in-Ok-false-clause-over : goal.returns-in-Ok-false-clause-over
returns-in-Ok-false-clause-over g c = λ is some. is_over c.enter.new.self _ (c.in-Ok-false.ensures.over (ap Ok c.in-Ok-false.field-0-test))

pub returns-then-buf-eq0-clause-read : goal.returns-then-buf-eq0-clause-read
returns-then-buf-eq0-clause-read g c = read_here c.args.self.now _ (search rules)

pub returns-in-Ok-true-clause-read : goal.returns-in-Ok-true-clause-read
returns-in-Ok-true-clause-read g c =
    read_behind c.give.result _ _ _ c.give.new.buf (c.in-Ok-true.ensures.read (c.in-Ok-true.ensures.inside (ap Ok c.in-Ok-true.field-0-test)).unbroken) c.give.ensures.read

pub returns-in-Ok-true-clause-stood : goal.returns-in-Ok-true-clause-stood
returns-in-Ok-true-clause-stood g c =
    stood_behind c.give.result _ _ _ (c.in-Ok-true.ensures.read (c.in-Ok-true.ensures.inside (ap Ok c.in-Ok-true.field-0-test)).unbroken) c.give.ensures.stood
