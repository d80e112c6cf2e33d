use Rattle.std.proofs.Common.{◌∙◌}
use Rattle.m2v_dec_batch.proofs.Learning.{room_fits}
use Rattle.m2v_dec_batch.proofs.book.DecodeBook.fresh_cache.Goals as goal

pub returns : goal.returns
returns c =
    let b = c.args.self.now in
    record {
      fits = record {
        one = room_fits b c.in_room.result _ c.in_room.ensures.room c.in_room.ensures.frame c.in_room.ensures.picture (c.in_ok-one.ensures.value ∙ c.dims.ensures.value);
        two = room_fits b c.in_room-2.result _ c.in_room-2.ensures.room c.in_room-2.ensures.frame c.in_room-2.ensures.picture (c.in_ok-two.ensures.value ∙ c.dims-2.ensures.value);
        blank = c.in_ok-blank.ensures.value;
      };
    }
