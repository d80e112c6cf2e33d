use Rattle.std.proofs.Common.{◌≡◌, ◌≤◌, ◌<◌, ℕ, ◌+◌, ◌-◌, ◌*◌, get_or, length, arith, ap, sym, ◌∙◌}
use Rattle.m2v_plane.specs.Sizes.{side}
use Rattle.m2v_plane.specs.Samples.{sample_of}
use Rattle.m2v_plane.proofs.Places.{line_fits, part_len, length-line_part}
use Rattle.m2v_pred.proofs.Lines.{part_get}
use Rattle.m2v_slice.proofs.KeptLines.{row_fits, lines_there, lines_others}
use Rattle.m2v_slice.proofs.kept.put_row.Goals as goal

pub copy_from_slice-requires : goal.copy_from_slice-requires
copy_from_slice-requires c =
    let p = c.args.plane in
    let w = c.args.columns in
    let n = c.loop-line.line in
    let spot = c.side-side.result * c.args.k + n in
    let here : spot ≡ side p * c.args.k + n = ap (λ i. i * c.args.k + n) c.side-side.ensures.value in
    let below : n < side p = omega (arith, c.side-side.ensures.value) in
    let fits = line_fits (side p * c.args.k + n) (12 * side p) w w (row_fits p c.args.k n c.requires.place below) (omega arith) in
    let m = spot * w + w - spot * w in
    let start : spot * w ≡ (side p * c.args.k + n) * w = ap (λ i. i * w) here in
    let wide : m ≡ w = omega arith in
    part_len c.loop-line.out (spot * w) m (omega (arith, fits, start, wide, c.requires.whole, c.loop-line.invariant.len)) ∙ wide
    ∙ sym (ap length c.line-samples.ensures.value ∙ length-line_part (sample_of c.args.row.now p n) 0 w)

pub loop-line-preserved : goal.loop-line-preserved
loop-line-preserved c =
    let p = c.args.plane in
    let w = c.args.columns in
    let n = c.loop-line.line in
    let spot = c.side-side.result * c.args.k + n in
    let here : spot ≡ side p * c.args.k + n = ap (λ i. i * c.args.k + n) c.side-side.ensures.value in
    let below : n < side p = omega (arith, c.side-side.ensures.value) in
    let fits = line_fits (side p * c.args.k + n) (12 * side p) w w (row_fits p c.args.k n c.requires.place below) (omega arith) in
    let m = spot * w + w - spot * w in
    let start : spot * w ≡ (side p * c.args.k + n) * w = ap (λ i. i * w) here in
    let wide : m ≡ w = omega arith in
    let inside : spot * w ≤ length c.loop-line.out = omega (arith, fits, start, c.requires.whole, c.loop-line.invariant.len) in
    let long = part_len c.loop-line.out (spot * w) m (omega (arith, fits, start, wide, c.requires.whole, c.loop-line.invariant.len)) in
    let line = c.copy_from_slice.new.self in
    let same : length line ≡ w = omega (arith, c.copy_from_slice.ensures.len, long, wide) in
    let new : (x : ℕ) → x < w → get_or line x 0 ≡ sample_of c.args.row.now p n x = λ x lt.
    ap (λ ys. get_or ys x 0) (c.copy_from_slice.ensures.after ∙ c.line-samples.ensures.value)
    ∙ part_get (sample_of c.args.row.now p n) 0 w x lt
    ∙ (let none : 0 + x ≡ x = omega arith in ap (sample_of c.args.row.now p n) none) in
    record {
      len = omega arith;
      there = lines_there p c.args.k n w m spot (sample_of c.args.row.now p) c.loop-line.out line here wide inside same c.loop-line.invariant.there new;
      others = λ other l x apart lt small under.
          lines_others p c.args.k n w m spot c.loop-line.out line here wide inside same below other l x apart small under
          ∙ c.loop-line.invariant.others other l x apart lt small under;
    }
