-- The sequence end code, as it is read.
use Rattle.std.proofs.Common.{◌≡◌, ℕ, true, false, Ok, Err, refl}
use Rattle.m2v_bits.specs.Syntax.{seq, bind, rule, done}
use Rattle.m2v_model.specs.declared.fault.FaultKind.TheVariants.{MissingMacroblocks, FieldPair}
use Rattle.m2v_model.specs.declared.state.State.{State}
use Rattle.m2v_model.specs.Units.{Units}
use Rattle.m2v_model.specs.States.{is_complete, none_waits}
use Rattle.m2v_model.specs.Streams.{close, no_second_field_due, end_unit, ending, final}

pub end_stands : (st : State) (start : ℕ) (us : Units) → is_complete st.sequence st.picture ≡ true → none_waits st.waiting ≡ true
    → (final (end_unit st start)).read us ≡ Ok ((false, ending), us)
unfolding final end_unit close no_second_field_due seq bind rule done
end_stands st start us e w = rw (e, w) refl

pub end_broken : (st : State) (start : ℕ) (us : Units) → is_complete st.sequence st.picture ≡ false
    → (final (end_unit st start)).read us ≡ Err (MissingMacroblocks, start)
unfolding final end_unit close no_second_field_due seq bind rule done
end_broken st start us e = rw e refl

pub end_waits : (st : State) (start : ℕ) (us : Units) → is_complete st.sequence st.picture ≡ true → none_waits st.waiting ≡ false
    → (final (end_unit st start)).read us ≡ Err (FieldPair, start)
unfolding final end_unit close no_second_field_due seq bind rule done
end_waits st start us e w = rw (e, w) refl
