use Rattle.std.proofs.Common.{refl, rules, arith, ◌≡◌, ◌<◌, ◌≤◌, ◌∙◌, length}
use Rattle.m2v_port.proofs.Runs.{length_into, on_err}
use Rattle.m2v_y4m.proofs.Spots.{read_here, read_into, read_into_none, read_fewer, gave_fewer}
use Rattle.m2v_y4m.proofs.unpacking.read_whole.Goals as goal

pub loop-filled-init : goal.loop-filled-init
loop-filled-init g c = record {
  within = omega arith;
  same = refl;
  read = read_here c.args.reader.now _ c.requires.unbroken;
  unbroken = c.requires.unbroken;
  header = refl;
  faults = omega arith;
}

pub loop-filled-preserved : goal.loop-filled-preserved
loop-filled-preserved g c =
    let so_far = c.loop-filled.invariant in
    let read = c.in_ok-n.ensures in
    let within : c.in_ok-n.n ≤ length c.read.new.buf = omega (arith, read.within, c.read.auto.buf) in
    record {
      within = length_into c.loop-filled.buf c.read.new.buf _ c.loop-filled.filled c.in_ok-n.n so_far.within within;
      same = search rules;
      read = read_into _ _ _ c.loop-filled.buf c.read.new.buf _ c.loop-filled.filled c.in_ok-n.n so_far.within within so_far.read read.read;
      unbroken = read.unbroken;
      header = read.header ∙ so_far.header;
      faults = omega (arith, so_far.faults, read.faults);
    }

pub returns-in_err-n-clause-err : goal.returns-in_err-n-clause-err
returns-in_err-n-clause-err g c =
    let so_far = c.loop-filled.invariant in
    let less : c.loop-filled.filled < length c.args.buf.now = omega (arith, so_far.same) in
    on_err c.from_residual.result (λ none. read_fewer _ _ _ c.loop-filled.buf c.loop-filled.filled _ so_far.within less so_far.read (c.in_err-n.ensures.stood none))

pub returns-in_err-n-clause-broke : goal.returns-in_err-n-clause-broke
returns-in_err-n-clause-broke g c =
    let so_far = c.loop-filled.invariant in
    let less : c.loop-filled.filled < length c.args.buf.now = omega (arith, so_far.same) in
    on_err c.from_residual.result (gave_fewer _ _ _ c.loop-filled.buf c.loop-filled.filled _ so_far.within less so_far.read c.in_err-n.ensures.same)

pub returns-then-n-eq0-clause-read : goal.returns-then-n-eq0-clause-read
returns-then-n-eq0-clause-read g c =
    let so_far = c.loop-filled.invariant in
    let read = c.in_ok-n.ensures in
    let within : c.in_ok-n.n ≤ length c.read.new.buf = omega (arith, read.within, c.read.auto.buf) in
    let none : c.in_ok-n.n ≡ 0 = omega arith in
    read_into_none _ _ _ c.loop-filled.buf c.read.new.buf _ c.loop-filled.filled c.in_ok-n.n so_far.within within none so_far.read read.read
