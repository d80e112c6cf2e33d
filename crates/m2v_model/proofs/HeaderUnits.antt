-- A sequence header and a picture header, each with its extension, are parts of a stream.
use Rattle.std.proofs.Common.{◌≡◌, ℕ, true, List, [], ◌∷◌, Bool, Option, Some, inl, inr, refl, arith}
use Rattle.std.specs.Prelude.{is_some}
use Rattle.m2v_bits.specs.Syntax.{seq, done, here, rule, choose}
use Rattle.m2v_head.specs.declared.sequence.SequenceInfo.{SequenceInfo}
use Rattle.m2v_head.specs.declared.sequence.SequenceExtension.{SequenceExtension}
use Rattle.m2v_head.specs.declared.picture.PictureInfo.{PictureInfo}
use Rattle.m2v_head.specs.declared.picture.PictureExtension.{PictureExtension}
use Rattle.m2v_model.specs.declared.state.State.{State}
use Rattle.m2v_model.specs.Units.{Units, unit_at, unit_bits, Next}
use Rattle.m2v_model.specs.Faults.{InUnit}
use Rattle.m2v_model.specs.Headers.{whole_header, sequence_in, sequence_extension_in, picture_in, picture_extension_in}
use Rattle.m2v_model.specs.States.{is_complete, none_waits, is_same_sequence, is_progressive, is_second_field_due, has_anchor}
use Rattle.m2v_model.specs.Streams.{sequence, picture, close, no_second_field_due, extension_in, extension_behind, sequence_unit, picture_unit, onward, later_unit, known_unit}
use Rattle.m2v_model.specs.Texts.{ended, unit_bytes}
use Rattle.m2v_model.specs.Chains.{Reads}
use Rattle.m2v_model.proofs.Headers.{IdStands, inside_stands, extension_in_stands}

-- the extension unit behind a header, and what is made of both
extended_stands : {V : Type 0} {K : V → Units → Type 0} (s : InUnit V) (own : ℕ) (v : V) (e : List Bool) (us : Units)
    → (extension_in own (unit_bytes 0xB5 e) (unit_bits (unit_bytes 0xB5 e ∷ us)) s).Stands v us us → K v us
    → (next : ℕ) × (from : Units) × ((next ≡ unit_bits (unit_bytes 0xB5 e ∷ us)) × (from ≡ unit_bytes 0xB5 e ∷ us))
    × ((unit : Option (List ℕ)) × (left : Units) × Next unit from left × ((x : V) × (rest : Units) × (extension_behind own unit next s).Stands x left rest × K x rest))
unfolding extension_behind choose
extended_stands s own v e us read then =
    let later = unit_bytes 0xB5 e ∷ us in
    (unit_bits later, later, (refl, refl), (Some (unit_bytes 0xB5 e), us, refl, (v, us, inl (refl, read), then)))

pub sequence_reads : (st : State) (info : SequenceInfo) (extension : SequenceExtension) (t e : List Bool)
    → (whole_header sequence_in).Stands info (ended t) [] → (whole_header (sequence_extension_in info)).Stands extension (ended e) [] → IdStands 1 e
    → is_complete st.sequence st.picture ≡ true → none_waits st.waiting ≡ true → is_same_sequence st.first (record { info = info; extension = extension }) ≡ true
    → Reads st (sequence (record { info = info; extension = extension })) (unit_bytes 0xB3 t) (unit_bytes 0xB5 e ∷ [])
unfolding known_unit onward sequence_unit close no_second_field_due extension_behind choose rule here unit_at seq done
sequence_reads st info extension t e header extended id complete paired same = record {
  stands = λ start us.
      let later = unit_bytes 0xB5 e ∷ us in
      let own = inside_stands (whole_header sequence_in) 0xB3 t info later [] header in
      let other = extension_in_stands (whole_header (sequence_extension_in info)) 1 (unit_bits later) e extension us (omega arith) id refl extended in
      inl (
        refl,
        (
          sequence (record { info = info; extension = extension }),
          us,
          (
            tt,
            later,
            (complete, refl),
            (
              tt,
              later,
              (paired, refl),
              (
                info,
                later,
                own,
                extended_stands _ 1 extension e us other (tt, us, (same, refl), (refl, refl)),
              ),
            ),
          ),
          (refl, refl),
        ),
      );
}

-- behind a sequence header
pub picture_reads : (st : State) (info : PictureInfo) (extension : PictureExtension) (t e : List Bool) → is_some st.sequence ≡ true
    → (whole_header picture_in).Stands info (ended t) [] → (whole_header (picture_extension_in (is_progressive st.sequence) info)).Stands extension (ended e) [] → IdStands 8 e
    → is_complete st.sequence st.picture ≡ true → is_second_field_due st.waiting info extension ≡ true → has_anchor st info ≡ true
    → Reads st (picture info extension) (unit_bytes 0x00 t) (unit_bytes 0xB5 e ∷ [])
unfolding known_unit later_unit onward picture_unit close extension_behind choose rule here unit_at seq done
picture_reads st info extension t e known header extended id complete due anchored = record {
  stands = λ start us.
      let later = unit_bytes 0xB5 e ∷ us in
      let own = inside_stands (whole_header picture_in) 0x00 t info later [] header in
      let other = extension_in_stands (whole_header (picture_extension_in (is_progressive st.sequence) info)) 8 (unit_bits later) e extension us (omega arith) id refl extended in
      inr (
        refl,
        inl (
          known,
          inl (
            refl,
            (
              picture info extension,
              us,
              (
                tt,
                later,
                (complete, refl),
                (
                  info,
                  later,
                  own,
                  extended_stands _ 8 extension e us other (tt, us, (due, refl), (tt, us, (anchored, refl), (refl, refl))),
                ),
              ),
              (refl, refl),
            ),
          ),
        ),
      );
}
