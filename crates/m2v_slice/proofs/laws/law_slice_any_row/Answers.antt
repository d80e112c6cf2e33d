use Rattle.std.proofs.Common.{refl}
use Rattle.m2v_slice.proofs.AnyRow.{same_state, same_text, same_begun}
use Rattle.m2v_slice.proofs.laws.law_slice_any_row.Goals as goal

pub returns : goal.returns
returns c = record {
  state = λ t a b first second n. same_state t a b first second n;
  text = λ t a b first second n. same_text t a b first second n;
  row = λ t a b first second. same_begun t a b first second t.source.dims.mb_width refl;
}
