use Rattle.std.proofs.Common.{◌-◌, append_assoc, [], cond, arith}
use Rattle.m2v_slice.specs.Headers.{header_units, begins_group, group_units, picture_units}
use Rattle.m2v_slice.proofs.TextLengths.{header_parts}
use Rattle.m2v_slice.proofs.writing.write_headers.Goals as goal

-- src/writing.rt:155:1
pub returns-clause-written : goal.returns-clause-written
unfolding header_units
returns-clause-written c =
    let s = c.args.settings.now in
    let job = c.args.job.now in
    let group = cond (begins_group job) (group_units s (job.display - job.frame)) [] in
    let units = picture_units s job c.args.delay in
    rw (c.write_picture_units.ensures.written, c.write_group_where.ensures.written) (append_assoc c.args.out.now.written group units)

-- src/writing.rt:155:1
pub returns-clause-room : goal.returns-clause-room
returns-clause-room c =
    let parts = header_parts c.args.settings.now c.args.job.now c.args.delay in
    omega (arith, parts, c.write_group_where.ensures.room, c.write_picture_units.ensures.room)
