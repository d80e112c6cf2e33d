use Rattle.std.proofs.Common.{◌≡◌, ◌∙◌, ◌+◌, ◌*◌, ◌-◌, length, get_or, arith, ap, pos, List, ℤ}
use borrow.Rule.Slice.PartMut.{put_mid}
use mir.Syntax.{w32}
use Rattle.m2v_idct.proofs.AllLanes.{fits_word, word_told, told_is, wider}
use Rattle.m2v_idct.proofs.PutLines.{line_else, line_here, whole_line}
use Rattle.m2v_idct.proofs.forward_columns.put_line.Goals as goal

pub returns : goal.returns
returns c =
    let xs = c.args.out.now in
    let y = c.args.v in
    let n = 8 * y + 8 - 8 * y in
    let ln : n ≡ 8 = omega arith in
    let x = word_told c.args.x in
    let x_is : x ≡ c.args.x = told_is w32 2147483647 fits_word c.args.x (wider 600000000 2147483647 (omega arith) c.args.x c.requires.within) in
    let lx : length x ≡ 8 = ap (λ (t : List ℤ). length t) x_is ∙ c.requires.len in
    let whole = whole_line xs x y n c.told-out lx c.requires.v ln in
    record {
      row = λ k lk. ap (λ t. get_or (put_mid (8 * y) n xs t) (8 * y + k) (pos 0)) whole ∙ line_here xs x y n c.told-out lx c.requires.v ln k lk ∙ ap (λ (t : List ℤ). get_or t k (pos 0)) x_is;
      rest = λ i h. ap (λ t. get_or (put_mid (8 * y) n xs t) i (pos 0)) whole ∙ line_else xs x y n c.told-out lx c.requires.v ln i h;
    }
