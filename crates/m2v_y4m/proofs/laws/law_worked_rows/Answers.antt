use Rattle.m2v_y4m.proofs.Rows.{opens, comes, bad_chroma, bad_magic, bad_magic_end, bad_line, bad_empty, bad_no_width, bad_none, bad_space, bad_again, bad_digits, bad_wide, bad_tall, bad_colon, bad_zero, bad_slow, bad_bottom, frames_params, frames_lines, frames_end, frames_cut, frames_short, frames_second, frames_third, frames_no}
use Rattle.m2v_y4m.proofs.laws.law_worked_rows.Goals as goal

pub returns : goal.returns
returns c = record {
  opens = opens;
  comes = comes;
  bad_chroma = bad_chroma;
  bad_magic = bad_magic;
  bad_magic_end = bad_magic_end;
  bad_line = bad_line;
  bad_empty = bad_empty;
  bad_no_width = bad_no_width;
  bad_none = bad_none;
  bad_space = bad_space;
  bad_again = bad_again;
  bad_digits = bad_digits;
  bad_wide = bad_wide;
  bad_tall = bad_tall;
  bad_colon = bad_colon;
  bad_zero = bad_zero;
  bad_slow = bad_slow;
  bad_bottom = bad_bottom;
  frames_params = frames_params;
  frames_lines = frames_lines;
  frames_end = frames_end;
  frames_cut = frames_cut;
  frames_short = frames_short;
  frames_second = frames_second;
  frames_third = frames_third;
  frames_no = frames_no;
}
