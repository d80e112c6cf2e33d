use Rattle.std.proofs.Common.{◌≡◌, ◌+◌, ◌*◌, ◌<◌, Bool, List, ◌++◌, length, refl, ap, sym, ◌∙◌, subst, arith, append-nil}
use Rattle.std.specs.Prelude.{◌-◌, slice_index}
use Rattle.std.proofs.lemmas.List.{length-append}
use Rattle.std.proofs.Common.{append_assoc}
use Rattle.m2v_plane.specs.Samples.{Samples}
use Rattle.m2v_macroblock.specs.m2v_recon.Macro.{with_macroblock}
use Rattle.m2v_choose.specs.Decisions.{Decision}
use Rattle.m2v_choose.specs.Choice.{candidate_at, choice_of, state_behind}
use Rattle.m2v_slice.specs.Slices.{decision, begun}
use Rattle.m2v_slice.specs.Steps.{CanCode, text_of, task_by}
use Rattle.m2v_slice.proofs.Columns.{decision_is, long_so, short_so, row_dims, state_more, text_more, row_more, work_more, can_code}
use Rattle.m2v_slice.proofs.Candidates.{bits_are}
use Rattle.m2v_slice.proofs.SoFar.{before_more, ahead_less, before_small, work_small, few_activities, is_so_far, coarse_is, effort_so}
use Rattle.m2v_slice.proofs.row.code_row.Goals as goal

pub start-effort-requires : goal.start-effort-requires
start-effort-requires g c =
    record { few = few_activities (task_by c.args.source.now (g.V.RefView.at c.args.forward.now) (g.V.RefView.at c.args.backward.now) c.args.context.now c.args.plan.now) c.requires.slice c.requires.activities }

pub loop-column-init : goal.loop-column-init
unfolding begun
loop-column-init g c = record {
  state = c.at_start-state.ensures.value;
  written = sym (append-nil _);
  row = refl;
  room = refl;
  work = c.start-effort.ensures.work;
  before = c.start-effort.ensures.before;
  ahead = c.start-effort.ensures.ahead;
}

pub overflow_sub-left : goal.overflow_sub-left
overflow_sub-left g c =
    let t = task_by c.args.source.now (g.V.RefView.at c.args.forward.now) (g.V.RefView.at c.args.backward.now) c.args.context.now c.args.plan.now in
    let n = c.loop-column.column in
    let s = begun t c.args.row.now n in
    let len : c.bit_len-from.result ≡ 38 + length s.text = omega (arith, c.bit_len-from.ensures, ap length c.loop-column.invariant.written ∙ length-append c.args.bits.now.written s.text, c.requires.header) in
    omega (arith, long_so t c.requires.slice c.args.row.now n c.bit_len-from.result (omega arith) len)

pub overflow_sub-left-in-loop-column : goal.overflow_sub-left-in-loop-column
overflow_sub-left-in-loop-column g c =
    let t = task_by c.args.source.now (g.V.RefView.at c.args.forward.now) (g.V.RefView.at c.args.backward.now) c.args.context.now c.args.plan.now in
    let n = c.loop-column.column in
    let s = begun t c.args.row.now n in
    let len : c.bit_len-from.result ≡ 38 + length s.text = omega (arith, c.bit_len-from.ensures, ap length c.loop-column.invariant.written ∙ length-append c.args.bits.now.written s.text, c.requires.header) in
    omega (arith, long_so t c.requires.slice c.args.row.now n c.bit_len-from.result (omega arith) len, c.from.ensures)

pub quantiser-q-requires-clause-slice : goal.quantiser-q-requires-clause-slice
quantiser-q-requires-clause-slice g c = λ some more.
    let t = task_by c.args.source.now (g.V.RefView.at c.args.forward.now) (g.V.RefView.at c.args.backward.now) c.args.context.now c.args.plan.now in
    let n = c.loop-column.column in
    let s = begun t c.args.row.now n in
    let inv = c.loop-column.invariant in
    let e = c.loop-column.effort in
    let small : n < t.context.columns = omega arith in
    let len : c.bit_len-from.result ≡ 38 + length s.text = omega (arith, c.bit_len-from.ensures, ap length c.loop-column.invariant.written ∙ length-append c.args.bits.now.written s.text, c.requires.header) in
    effort_so t s n c.bit_len-from.result c.from.result e.work e.before e.ahead small len c.from.ensures inv.work inv.before inv.ahead (is_so_far t c.requires.slice c.requires.activities (c.requires.most more) c.args.row.now n small some more)

pub limits_at-limits-requires-clause-held : goal.limits_at-limits-requires-clause-held
limits_at-limits-requires-clause-held g c =
    let t = task_by c.args.source.now (g.V.RefView.at c.args.forward.now) (g.V.RefView.at c.args.backward.now) c.args.context.now c.args.plan.now in
    let n = c.loop-column.column in
    let s = begun t c.args.row.now n in
    let inv = c.loop-column.invariant in
    let e = c.loop-column.effort in
    let small : n < t.context.columns = omega arith in
    let len : c.bit_len-from.result ≡ 38 + length s.text = omega (arith, c.bit_len-from.ensures, ap length c.loop-column.invariant.written ∙ length-append c.args.bits.now.written s.text, c.requires.header) in
    omega (arith, long_so t c.requires.slice c.args.row.now n c.bit_len-from.result small len)

pub code_macroblock-requires-clause-can : goal.code_macroblock-requires-clause-can
code_macroblock-requires-clause-can g c =
    let f = g.V.RefView.size c.args.forward.now in
    let b = g.V.RefView.size c.args.backward.now in
    let ahead = g.V.RefView.Holds c.args.forward.now in
    let behind = g.V.RefView.Holds c.args.backward.now in
    let t = task_by c.args.source.now (g.V.RefView.at c.args.forward.now) (g.V.RefView.at c.args.backward.now) c.args.context.now c.args.plan.now in
    let n = c.loop-column.column in
    let s = begun t c.args.row.now n in
    let inv = c.loop-column.invariant in
    let e = c.loop-column.effort in
    let small : n < t.context.columns = omega arith in
    let len : c.bit_len-from.result ≡ 38 + length s.text = omega (arith, c.bit_len-from.ensures, ap length c.loop-column.invariant.written ∙ length-append c.args.bits.now.written s.text, c.requires.header) in
    let same = decision_is t s n c.loop-column.state c.limits_at-limits.result c.bit_len-from.result c.quantiser-q.result inv.state len
    (coarse_is t s n c.bit_len-from.result c.from.result e.work e.before e.ahead small len c.from.ensures inv.work inv.before inv.ahead c.quantiser-q.result c.quantiser-q.ensures.value)
    c.limits_at-limits.ensures.value in
    subst (λ (d : Decision). CanCode d f b ahead behind) (sym same) (can_code t f b ahead behind c.requires.slice c.requires.references c.args.row.now n small)

pub code_macroblock-requires-clause-row : goal.code_macroblock-requires-clause-row
code_macroblock-requires-clause-row g c =
    let t = task_by c.args.source.now (g.V.RefView.at c.args.forward.now) (g.V.RefView.at c.args.backward.now) c.args.context.now c.args.plan.now in
    ap (λ (s : Samples). s.dims) c.loop-column.invariant.row ∙ row_dims t c.args.row.now c.loop-column.column ∙ c.requires.row

pub code_macroblock-requires-clause-room : goal.code_macroblock-requires-clause-room
code_macroblock-requires-clause-room g c =
    let t = task_by c.args.source.now (g.V.RefView.at c.args.forward.now) (g.V.RefView.at c.args.backward.now) c.args.context.now c.args.plan.now in
    let n = c.loop-column.column in
    let s = begun t c.args.row.now n in
    let small : n < c.args.context.now.columns = omega arith in
    omega (
      arith,
      small,
      c.loop-column.invariant.room,
      ap length c.loop-column.invariant.written ∙ length-append c.args.bits.now.written s.text,
      short_so t c.requires.slice c.args.row.now n (omega arith),
      c.requires.room,
    )

pub add-requires : goal.add-requires
add-requires g c =
    let f = g.V.RefView.size c.args.forward.now in
    let b = g.V.RefView.size c.args.backward.now in
    let above = g.V.RefView.Holds c.args.forward.now in
    let behind = g.V.RefView.Holds c.args.backward.now in
    let t = task_by c.args.source.now (g.V.RefView.at c.args.forward.now) (g.V.RefView.at c.args.backward.now) c.args.context.now c.args.plan.now in
    let n = c.loop-column.column in
    let s = begun t c.args.row.now n in
    let inv = c.loop-column.invariant in
    let e = c.loop-column.effort in
    let small : n < t.context.columns = omega arith in
    let len : c.bit_len-from.result ≡ 38 + length s.text = omega (arith, c.bit_len-from.ensures, ap length c.loop-column.invariant.written ∙ length-append c.args.bits.now.written s.text, c.requires.header) in
    let same = decision_is t s n c.loop-column.state c.limits_at-limits.result c.bit_len-from.result c.quantiser-q.result inv.state len
    (coarse_is t s n c.bit_len-from.result c.from.result e.work e.before e.ahead small len c.from.ensures inv.work inv.before inv.ahead c.quantiser-q.result c.quantiser-q.ensures.value)
    c.limits_at-limits.ensures.value in
    let d = decision t s n in
    let more = ap length c.code_macroblock.ensures.written ∙ length-append c.loop-column.bits.written _ in
    let told = (λ i. length (text_of (same i) (choice_of (same i)))) ∙ bits_are d (choice_of d) in
    let fits = (can_code t f b above behind c.requires.slice c.requires.references c.args.row.now n small).fits in
    record {
      q = c.quantiser-q.ensures.code.1;
      bits = omega (arith, c.bit_len-from.ensures, c.bit_len.ensures, more, told, fits.most);
      work = omega (arith, inv.work, work_small t c.requires.slice c.args.row.now n (omega arith));
      before = omega (arith, inv.before, before_small t c.requires.slice c.requires.activities n);
      ahead = omega (arith, inv.ahead, ahead_less t.activities n);
    }

pub loop-column-preserved : goal.loop-column-preserved
unfolding decision
loop-column-preserved g c =
    let row = c.args.row.now in
    let old = c.args.bits.now.written in
    let t = task_by c.args.source.now (g.V.RefView.at c.args.forward.now) (g.V.RefView.at c.args.backward.now) c.args.context.now c.args.plan.now in
    let n = c.loop-column.column in
    let s = begun t c.args.row.now n in
    let inv = c.loop-column.invariant in
    let e = c.loop-column.effort in
    let small : n < t.context.columns = omega arith in
    let len : c.bit_len-from.result ≡ 38 + length s.text = omega (arith, c.bit_len-from.ensures, ap length c.loop-column.invariant.written ∙ length-append c.args.bits.now.written s.text, c.requires.header) in
    let same = decision_is t s n c.loop-column.state c.limits_at-limits.result c.bit_len-from.result c.quantiser-q.result inv.state len
    (coarse_is t s n c.bit_len-from.result c.from.result e.work e.before e.ahead small len c.from.ensures inv.work inv.before inv.ahead c.quantiser-q.result c.quantiser-q.ensures.value)
    c.limits_at-limits.ensures.value in
    let coarse = coarse_is t s n c.bit_len-from.result c.from.result e.work e.before e.ahead small len c.from.ensures inv.work inv.before inv.ahead c.quantiser-q.result c.quantiser-q.ensures.value in
    let d = decision t s n in
    let more = ap length c.code_macroblock.ensures.written ∙ length-append c.loop-column.bits.written _ in
    let told : c.bit_len.result - c.bit_len-from.result ≡ length (text_of d (choice_of d)) =
    omega (arith, c.bit_len-from.ensures, c.bit_len.ensures, more, ap (λ (x : Decision). length (text_of x (choice_of x))) same) in
    record {
      state = c.code_macroblock.ensures.state ∙ (λ i. state_behind (same i) (choice_of (same i))) ∙ sym (state_more t row n);
      written = c.code_macroblock.ensures.written ∙ (λ i. inv.written i ++ text_of (same i) (choice_of (same i))) ∙ append_assoc old s.text (text_of d (choice_of d)) ∙ ap (λ (xs : List Bool). old ++ xs) (sym (text_more t row n));
      row = c.code_macroblock.ensures.row ∙ (λ i. with_macroblock 1 0 (same i).limits.column (candidate_at (same i) (choice_of (same i))) (inv.row i)) ∙ sym (row_more t row n);
      room = omega (arith, inv.room, c.code_macroblock.ensures.room, more);
      work = c.add.ensures.work ∙ (λ i. inv.work i + coarse i * told i) ∙ sym (work_more t row n);
      before = c.add.ensures.before ∙ (λ i. inv.before i + slice_index t.activities n) ∙ sym (before_more t.activities n);
      ahead = omega (arith, c.add.ensures.ahead, inv.ahead, ahead_less t.activities n);
    }
