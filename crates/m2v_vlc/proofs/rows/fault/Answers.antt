use Rattle.std.proofs.Common.{arith, ◌<◌, length, refl}
use Rattle.m2v_vlc.proofs.LookupLaws.{cut_long, cut_is}
use Rattle.m2v_vlc.specs.Lookups.{rows_of}
use Rattle.m2v_vlc.proofs.rows.fault.Goals as goal

pub returns-then-left-gt17 : goal.returns-then-left-gt17
returns-then-left-gt17 g c = let long : 17 < length c.args.input.now.rest = omega arith in rw (cut_long (rows_of c.args.rows.now) c.args.input.now.rest c.requires.within long) refl

pub returns-then-begins_any : goal.returns-then-begins_any
returns-then-begins_any g c = rw (cut_is c.args.rows.now c.args.input.now.rest c.left-left.result c.peek.result c.begins_any.result c.requires c.left-left.ensures.value (c.peek.ensures.whole (omega arith)) c.begins_any.ensures, c.if-begins_any.true) refl

pub returns-else-begins_any : goal.returns-else-begins_any
returns-else-begins_any g c = rw (cut_is c.args.rows.now c.args.input.now.rest c.left-left.result c.peek.result c.begins_any.result c.requires c.left-left.ensures.value (c.peek.ensures.whole (omega arith)) c.begins_any.ensures, c.if-begins_any.false) refl
