use Rattle.std.proofs.Common.{ap, length, arith}
use Rattle.std.proofs.lemmas.List.{length-append}
use Rattle.m2v_slice.proofs.TextLengths.{header_length}
use Rattle.m2v_slice.specs.Headers.{header_units}
use Rattle.m2v_encode.proofs.done.DoneGroup.put_headers.Goals as goal

pub returns-clause-room : goal.returns-clause-room
returns-clause-room g c =
    let head = header_units c.settings-2.result.now c.job-job.result.now c.delay_from-delay.result in
    omega (
      arith,
      c.write_headers.ensures.room,
      ap length c.write_headers.ensures.written,
      length-append c.clear.new.self.written head,
      header_length c.settings-2.result.now c.job-job.result.now c.delay_from-delay.result c.job-job.ensures.job,
      ap length c.clear.ensures.written,
      c.clear.ensures.room,
      c.requires.room,
    )
