-- The sequence end code, which ends a stream.
use Rattle.std.proofs.Common.{◌≡◌, ℕ, true, false, List, [], ◌∷◌, ◌++◌, Bool, Some, inl, inr, refl, subst, arith}
use Rattle.std.specs.Prelude.{is_some}
use Rattle.m2v_bits.specs.Bits.{bits_of, start_code, unit}
use Rattle.m2v_bits.specs.Syntax.{seq, done, here, rule, choose, Rounds, last}
use Rattle.m2v_model.specs.declared.state.State.{State}
use Rattle.m2v_model.specs.Units.{unit_at, unit_bits}
use Rattle.m2v_model.specs.States.{is_complete, none_waits}
use Rattle.m2v_model.specs.Streams.{Part, ending, after, close, no_second_field_due, end_unit, final, later_unit, known_unit, next_unit, unit_round}
use Rattle.m2v_model.specs.Texts.{unit_bytes, Packs}
use Rattle.m2v_model.specs.Chains.{sofar}
use Rattle.m2v_model.proofs.Units.{packs_unit}
use Rattle.m2v_model.proofs.Calm.{calm_end}

abbrev pub end_bytes : List ℕ
end_bytes = unit_bytes 0xB7 []

end_is : unit 0xB7 [] ≡ start_code 0xB7
unfolding bits_of
end_is = refl

pub end_packs : Packs (start_code 0xB7) (end_bytes ∷ [])
end_packs = subst (λ (t : List Bool). Packs t (end_bytes ∷ [])) end_is (packs_unit 0xB7 [] (omega arith) (calm_end [] (omega arith)))

-- behind a sequence header, where the picture is complete and no second field is due
pub end_stands : (st : State) (parts : List Part) → is_some st.sequence ≡ true → is_complete st.sequence st.picture ≡ true → none_waits st.waiting ≡ true
    → Rounds unit_round (sofar st parts) (sofar (after st ending) (parts ++ ending ∷ [])) (end_bytes ∷ []) []
unfolding unit_round next_unit known_unit later_unit final end_unit close no_second_field_due choose rule here unit_at seq done
end_stands st parts known whole none =
    let us = end_bytes ∷ [] in
    last (
      unit_bits us,
      us,
      (refl, refl),
      (
        Some end_bytes,
        [],
        refl,
        (
          (false, ending),
          [],
          inr (refl, inl (known, inr (refl, inr (refl, inr (refl, inr (refl, inl (refl, (ending, [], (tt, [], (whole, refl), (tt, [], (none, refl), (refl, refl))), (refl, refl))))))))),
          (refl, refl),
        ),
      ),
    )
