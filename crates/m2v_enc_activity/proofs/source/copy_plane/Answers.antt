use Rattle.std.proofs.Common.{◌≡◌, ℕ, ◌+◌, ◌-◌, ◌*◌, ◌≤◌, ◌<◌, length, take, drop, get_or, ap, sym, ◌∙◌, subst, arith}
use borrow.Rule.Slice.PartMut.{put_mid}
use Rattle.m2v_pred.specs.m2v_plane.Sizes.{side}
use Rattle.m2v_pred.specs.m2v_plane.Samples.{sample_in}
use Rattle.m2v_pred.proofs.m2v_plane.Places.{line_more, line_fits, part_len, plane_is, length-line_part}
use Rattle.m2v_pred.proofs.Lines.{part_get}
use Rattle.m2v_enc_activity.proofs.source.copy_plane.Goals as goal

pub loop-line-preserved : goal.loop-line-preserved
loop-line-preserved c = λ r x lt small.
    let s = side c.args.plane in
    let w = c.side-side.result in
    let is : w ≡ s = c.side-side.ensures.value in
    let n = c.loop-line.line in
    let xs = c.loop-line.out in
    let ys = c.copy_line.new.out in
    let at = λ (k line x : ℕ). sample_in c.args.source.now c.args.plane c.args.lines (k * c.args.row + line) (k * c.args.column + x) in
    let below : n < s = omega (arith, is) in
    let whole : length xs ≡ s * s = omega arith in
    let fits : n * s + s ≤ s * s = line_fits n s s s below (omega arith) in
    let old_len : length (take (n * w + w - n * w) (drop (n * w) xs)) ≡ s =
    subst (λ (k : ℕ). length (take (n * k + k - n * k) (drop (n * k) xs)) ≡ s) (sym is) (part_len xs (n * s) (n * s + s - n * s) (omega arith) ∙ omega arith) in
    let m = length (take (n * w + w - n * w) (drop (n * w) xs)) in
    let line = sample_in c.args.source.now c.args.plane c.args.lines (w * c.args.row + n) in
    let len : length ys ≡ s = ap length c.copy_line.ensures.value ∙ length-line_part line (w * c.args.column) m ∙ old_len in
    subst (λ (k : ℕ). get_or (put_mid (n * k) (n * k + k - n * k) xs ys) (r * s + x) 0 ≡ at s r x) (sym is)
    (line_more (at s) n s (n * s + s - n * s) xs ys (omega arith) (omega arith) len c.loop-line.invariant
    (λ j less.
    ap (λ zs. get_or zs j 0) c.copy_line.ensures.value ∙ part_get line (w * c.args.column) m j (omega (arith, old_len, less)) ∙ ap (λ (k : ℕ). at k n j) is)
    r x lt small)

pub returns : goal.returns
returns c = record {
  value =
      let s = side c.args.plane in
      let is : c.side-side.result ≡ s = c.side-side.ensures.value in
      plane_is c.loop-line.out s s (λ line x. sample_in c.args.source.now c.args.plane c.args.lines (s * c.args.row + line) (s * c.args.column + x)) (omega arith)
      (λ r x lt small. c.loop-line.invariant r x (omega (arith, is)) small);
}
