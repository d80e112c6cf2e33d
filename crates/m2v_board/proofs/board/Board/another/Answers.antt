use Rattle.std.proofs.Common.{rules}
use Rattle.m2v_board.proofs.Opening.{splits_ok}
use Rattle.m2v_board.proofs.board.Board.another.Goals as goal

pub split_seat-requires : goal.split_seat-requires
split_seat-requires g c = (search rules, search rules, splits_ok _ _ _ c.requires.more c.requires.jobs c.requires.none_past)
