use Rattle.m2v_order.proofs.Handed.{frames_all, coding_all, coding_begins, groups_all, handed_all, sound_all, stays_all}
use Rattle.m2v_order.proofs.laws.law_groups.Goals as goal

pub returns : goal.returns
returns g c = record {
  frames = frames_all;
  coding = coding_all;
  begin = coding_begins;
  groups = groups_all;
  handed = handed_all;
  sound = sound_all;
  stays = stays_all;
}
