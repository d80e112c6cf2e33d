-- The headers and slices of a picture, one behind another.
use Rattle.std.proofs.Common.{◌≡◌, ℕ, ◌<◌, Bool, true, List, [], ◌∷◌, length, Option, Some, None, inl, inr, refl, sym, subst}
use Rattle.m2v_bits.specs.Syntax.{seq, done, rule, choose}
use Rattle.m2v_head.specs.Texts.{sequence_text, sequence_extension_text, group_text, picture_text, picture_extension_text}
use Rattle.m2v_set.specs.declared.settings.Settings.{Settings}
use Rattle.m2v_set.specs.Bounds.{InSize, InChoice}
use Rattle.m2v_order.specs.declared.jobs.PictureJob.{PictureJob}
use Rattle.m2v_slice.specs.Headers.{sequence_of, sequence_extension_of, group_from, picture_of, extension_of}
use Rattle.m2v_slice.specs.Books.{Book, job_at}
use Rattle.m2v_slice.specs.Conditions.{IsBook}
use Rattle.m2v_slice.proofs.Groups.{picture_is_one}
use Rattle.m2v_slice.proofs.Slices.{is_job}
use Rattle.m2v_model.specs.declared.state.FirstField.{FirstField}
use Rattle.m2v_model.specs.declared.state.Open.{Open}
use Rattle.m2v_model.specs.declared.state.State as known
use Rattle.m2v_model.specs.Headers.{whole_header, group_in, picture_extension_in}
use Rattle.m2v_model.specs.States.{is_complete, none_waits, is_same_sequence}
use Rattle.m2v_model.specs.Streams.{sequence, group, picture, close, no_second_field_due, group_unit, onward, later_unit, known_unit}
use Rattle.m2v_model.specs.Texts.{ended, unit_bytes}
use Rattle.m2v_model.specs.Chains.{Reads}
use Rattle.m2v_enc_stream.specs.Trees.{sequence_by}
use Rattle.m2v_enc_stream.specs.States.{state_with}
use Rattle.m2v_enc_stream.proofs.Turns.{IsCounted}
use Rattle.m2v_enc_stream.proofs.States.{progressive_is, state_before, due_at, anchored_at}
use Rattle.m2v_model.proofs.Headers.{inside_stands}
use Rattle.m2v_model.proofs.HeaderUnits as reading
use Rattle.m2v_enc_stream.proofs.Headers.{sequence_stands, extension_stands, sequence_id, group_stands, picture_stands, coding_stands, picture_id}

-- ---- headers

abbrev pub sequence_bytes : Settings → List ℕ
sequence_bytes s = unit_bytes 0xB3 (sequence_text (sequence_of s))

abbrev pub extension_bytes : Settings → List ℕ
extension_bytes s = unit_bytes 0xB5 (sequence_extension_text (sequence_extension_of s))

abbrev pub group_bytes : Settings → ℕ → List ℕ
group_bytes s first = unit_bytes 0xB8 (group_text (group_from s first))

abbrev pub picture_bytes : PictureJob → ℕ → List ℕ
picture_bytes job delay = unit_bytes 0x00 (picture_text (picture_of job delay))

abbrev pub coding_bytes : Settings → PictureJob → List ℕ
coding_bytes s job = unit_bytes 0xB5 (picture_extension_text (extension_of s job))

pub sequence_reads : (s : Settings) (st : known.State) → InSize s → InChoice s → is_complete st.sequence st.picture ≡ true → none_waits st.waiting ≡ true → is_same_sequence st.first (sequence_by s) ≡ true
    → Reads st (sequence (sequence_by s)) (sequence_bytes s) (extension_bytes s ∷ [])
sequence_reads s st h c complete paired same =
    reading.sequence_reads st (sequence_of s) (sequence_extension_of s) (sequence_text (sequence_of s)) (sequence_extension_text (sequence_extension_of s))
    (sequence_stands s h c) (extension_stands s h) (sequence_id s) complete paired same

pub group_reads : (s : Settings) (closed : Bool) (anchors display : ℕ) (waits : Option FirstField) → none_waits waits ≡ true
    → Reads (state_with s closed anchors waits None) (group (group_from s display)) (group_bytes s display) []
unfolding known_unit later_unit onward group_unit close no_second_field_due choose rule seq done
group_reads s closed anchors display waits paired = record {
  stands = λ start us.
      let own = inside_stands (whole_header group_in) 0xB8 (group_text (group_from s display)) (group_from s display) us [] (group_stands s display) in
      inr (
        refl,
        inl (
          refl,
          inr (
            refl,
            inr (
              refl,
              inr (
                refl,
                inr (
                  refl,
                  inr (
                    refl,
                    inl (
                      refl,
                      (
                        group (group_from s display),
                        us,
                        (tt, us, (refl, refl), (tt, us, (paired, refl), (group_from s display, us, own, (refl, refl)))),
                        (refl, refl),
                      ),
                    ),
                  ),
                ),
              ),
            ),
          ),
        ),
      );
}

coding_here : (b : Book) → IsBook b → (p delay : ℕ) → p < length b.pictures
    → (whole_header (picture_extension_in (sequence_by b.settings).extension.progressive_sequence (picture_of (job_at b p) delay))).Stands (extension_of b.settings (job_at b p)) (ended (picture_extension_text (extension_of b.settings (job_at b p)))) []
coding_here b h p delay lt =
    subst (λ (x : Bool). (whole_header (picture_extension_in x (picture_of (job_at b p) delay))).Stands (extension_of b.settings (job_at b p)) (ended (picture_extension_text (extension_of b.settings (job_at b p)))) []) (sym (progressive_is b.settings))
    (coding_stands b.settings (job_at b p) delay (is_job b h p lt) (picture_is_one b h p lt).structure)

pub picture_reads : (b : Book) → IsBook b → (closed : Bool) (before p delay : ℕ) (open_one : Option Open) → IsCounted b before → p < length b.pictures → delay < 65536
    → is_complete (Some (sequence_by b.settings)) open_one ≡ true
    → Reads (state_before b closed before p open_one) (picture (picture_of (job_at b p) delay) (extension_of b.settings (job_at b p))) (picture_bytes (job_at b p) delay) (coding_bytes b.settings (job_at b p) ∷ [])
picture_reads b h closed before p delay open_one c lt small complete =
    let s = b.settings in
    let job = job_at b p in
    reading.picture_reads (state_before b closed before p open_one) (picture_of job delay) (extension_of s job) (picture_text (picture_of job delay)) (picture_extension_text (extension_of s job))
    refl (picture_stands job delay (is_job b h p lt) small) (coding_here b h p delay lt) (picture_id s job) complete (due_at b h p delay lt) (anchored_at b h closed before p delay open_one c lt)
