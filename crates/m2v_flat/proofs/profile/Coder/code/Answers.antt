use Rattle.std.proofs.Common.{arith, ap, ◌∙◌, length}
use Rattle.m2v_plane.specs.declared.dims.Dims.{Dims}
use Rattle.m2v_plane.specs.Samples.{Samples}
use Rattle.m2v_flat.proofs.Passing.{is_small}
use Rattle.m2v_flat.proofs.profile.Coder.code.Goals as goal

pub write_frame-requires-clause-code : goal.write_frame-requires-clause-code
write_frame-requires-clause-code c =
    let small = is_small c.args.self.now.settings c.requires.ready.passed in omega (arith, small.bounds.code_most)

pub write_frame-requires-clause-quantiser : goal.write_frame-requires-clause-quantiser
write_frame-requires-clause-quantiser c =
    let small = is_small c.args.self.now.settings c.requires.ready.passed in (small.bounds.quantiser_least, small.bounds.quantiser_most)

pub write_frame-requires-clause-rows : goal.write_frame-requires-clause-rows
write_frame-requires-clause-rows c =
    let small = is_small c.args.self.now.settings c.requires.ready.passed in
    omega (arith, small.rows, ap (λ (s : Samples). s.dims.mb_rows) c.pad_from_raw.ensures.value, ap (λ (d : Dims). d.mb_rows) c.requires.ready.frame)

pub write_frame-requires-clause-columns : goal.write_frame-requires-clause-columns
write_frame-requires-clause-columns c =
    let small = is_small c.args.self.now.settings c.requires.ready.passed in
    omega (arith, small.columns, ap (λ (s : Samples). s.dims.mb_width) c.pad_from_raw.ensures.value, ap (λ (d : Dims). d.mb_width) c.requires.ready.frame)

pub write_frame-requires-clause-room : goal.write_frame-requires-clause-room
write_frame-requires-clause-room c = omega (arith, c.clear.ensures.room, c.requires.ready.room)

pub returns-clause-ready : goal.returns-clause-ready
returns-clause-ready c = record {
  passed = c.requires.ready.passed;
  raw = c.requires.ready.raw;
  frame = ap (λ (s : Samples). s.dims) c.pad_from_raw.ensures.value ∙ c.requires.ready.frame;
  room = omega (arith, c.write_frame.ensures.room, c.clear.ensures.room, ap length c.clear.ensures.written, c.requires.ready.room);
}
