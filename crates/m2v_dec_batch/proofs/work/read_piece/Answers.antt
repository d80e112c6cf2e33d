use Rattle.std.proofs.Common.{◌∙◌, sym}
use Rattle.m2v_plane.specs.Fields.{sample_at}
use Rattle.m2v_dec_rows.specs.m2v_dec_picture.Reads.{seen_by}
use Rattle.m2v_dec_batch.proofs.RowRead.{faulty_is, after_is, rebuilt_is}
use Rattle.m2v_dec_batch.proofs.work.read_piece.Goals as goal

pub returns-in-Some : goal.returns-in-Some
returns-in-Some c =
    let x = c.args.x.now in
    let refs = seen_by (sample_at c.args.forward.now) (sample_at c.args.backward.now) in
    record { value = faulty_is x refs c.args.r c.requires.opened c.requires.row c.args.row c.read_row.new.out c.in-Some.fault c.in-Some.ensures.exact }

pub returns-then-is_some : goal.returns-then-is_some
returns-then-is_some c =
    let x = c.args.x.now in
    let refs = seen_by (sample_at c.args.forward.now) (sample_at c.args.backward.now) in
    record { value = after_is x refs c.args.r c.requires.opened c.requires.row c.args.row c.read_row.new.out c.in-None.ensures.exact (sym c.is_some.ensures ∙ c.if-is_some.true) }

pub returns-else-is_some : goal.returns-else-is_some
returns-else-is_some c =
    let x = c.args.x.now in
    let refs = seen_by (sample_at c.args.forward.now) (sample_at c.args.backward.now) in
    record { value = rebuilt_is x refs c.args.r c.requires.opened c.requires.row c.args.row c.read_row.new.out c.requires.blank c.in-None.ensures.exact (sym c.is_some.ensures ∙ c.if-is_some.false) }
