use Rattle.std.proofs.Common.{◌≡◌, ◌+◌, ◌++◌, length, take, drop}
use Rattle.std.specs.Prelude.{sum}
use Rattle.m2v_slice.specs.Slices.{begun}
use Rattle.m2v_slice.specs.Steps.{task_by}
use Rattle.m2v_slice.proofs.row.code_row.Given as goal

abbrev pub invariant-loop-column : goal.invariant-loop-column
invariant-loop-column g l = record {
  state : l.state ≡ (begun (task_by l.source (g.V.RefView.at l.forward) (g.V.RefView.at l.backward) l.context l.plan) l.fn.row l.column).state;
  written : l.bits.written ≡ l.fn.bits.written
      ++ (begun (task_by l.source (g.V.RefView.at l.forward) (g.V.RefView.at l.backward) l.context l.plan) l.fn.row l.column).text;
  row : l.row ≡ (begun (task_by l.source (g.V.RefView.at l.forward) (g.V.RefView.at l.backward) l.context l.plan) l.fn.row l.column).row;
  room : l.bits.room + length l.bits.written ≡ l.fn.bits.room + length l.fn.bits.written;
  work : l.effort.work ≡ (begun (task_by l.source (g.V.RefView.at l.forward) (g.V.RefView.at l.backward) l.context l.plan) l.fn.row l.column).work;
  before : l.effort.before ≡ sum (take l.column l.plan.activities.now);
  ahead : l.effort.ahead ≡ sum (drop l.column l.plan.activities.now);
}
