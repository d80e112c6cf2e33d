-- Headers in their units, and those of their rules that look ahead.
use Rattle.std.proofs.Common.{◌≡◌, ℕ, ◌+◌, ◌^◌, ◌<◌, ◌≤◌, Bool, true, false, not, ◌||◌, List, [], ◌++◌, length, drop, replicate, Some, refl, sym, ap, subst, arith}
use Rattle.std.specs.Prelude.{nat_eq, nat_le}
use Rattle.std.proofs.lemmas.Bool.{ne_eqb, le-leb}
use Rattle.m2v_bits.specs.Bits.{bits_of, number, to_edge}
use Rattle.m2v_bits.specs.Syntax.{seq, done, here, rule, renamed}
use Rattle.m2v_bits.specs.Leaves.{bits_at, end_at}
use Rattle.m2v_bits.proofs.Cursor.{zeros_are_zero}
use Rattle.m2v_head.specs.Texts.{sequence_extension_text, rates_text, picture_extension_text}
use Rattle.m2v_head.specs.Fits.{SequenceExtensionFits, PictureExtensionFits}
use Rattle.m2v_head.specs.declared.sequence.SequenceInfo.{SequenceInfo}
use Rattle.m2v_head.specs.declared.sequence.SequenceExtension.{SequenceExtension}
use Rattle.m2v_head.specs.declared.picture.PictureInfo.{PictureInfo}
use Rattle.m2v_head.specs.declared.picture.PictureExtension.{PictureExtension}
use Rattle.m2v_head.proofs.Spellings.{sequence_extension_spells, picture_extension_spells}
use Rattle.m2v_model.specs.declared.fault.FaultKind.TheVariants.{Truncated}
use Rattle.m2v_model.specs.Faults.{InUnit}
use Rattle.m2v_model.specs.Looking.{number_from, look, looking}
use Rattle.m2v_model.specs.Units.{Units, inside}
use Rattle.m2v_model.specs.Headers.{whole_header, size_of, size_at, sequence_extension_in, is_f_code, uses_forward, uses_backward, f_code_at, f_codes_at, is_structure, picture_extension_in}
use Rattle.m2v_model.specs.Plain.{plain_sequence_extension}
use Rattle.m2v_model.specs.Streams.{id_at, extension_in}
use Rattle.m2v_model.specs.Texts.{ended, unit_bytes}
use Rattle.m2v_model.proofs.Units.{ended_bits}

-- ---- units

-- the zeros behind a text
abbrev pub behind : List Bool → List Bool
behind t = replicate (to_edge (32 + length t)) false

-- what stands in a text stands in its unit
pub inside_stands : {V : Type 0} (s : InUnit V) (value : ℕ) (t : List Bool) (v : V) (us : Units) (end : List Bool) → s.Stands v (ended t) end → (inside (unit_bytes value t) s).Stands v us us
unfolding inside
inside_stands s value t v us end h = (refl, (end, subst (λ (x : List Bool). s.Stands v x end) (sym (ended_bits t)) h))

-- a header, and zeros
pub whole_stands : {V : Type 0} (s : InUnit V) (t : List Bool) (v : V) → s.Stands v (ended t) (behind t) → (whole_header s).Stands v (ended t) []
unfolding whole_header seq end_at done
whole_stands s t v h = (v, behind t, h, (tt, [], (zeros_are_zero (to_edge (32 + length t)), refl), (refl, refl)))

abbrev pub IdStands : ℕ → List Bool → Type 0
IdStands own t = ended t ≡ bits_of 4 own ++ drop 4 (ended t)

-- an extension, with its id, stands in its unit
pub extension_in_stands : {V : Type 0} (s : InUnit V) (own start : ℕ) (t : List Bool) (v : V) (us : Units) → own < 2 ^ 4 → IdStands own t → nat_eq own own ≡ true → s.Stands v (ended t) []
    → (extension_in own (unit_bytes 0xB5 t) start s).Stands v us us
unfolding extension_in id_at seq rule looking bits_at
extension_in_stands s own start t v us below id same h = (
  own,
  us,
  inside_stands (looking (bits_at Truncated 4)) 0xB5 t own us (ended t) (refl, (drop 4 (ended t), (below, id))),
  (tt, us, (same, refl), inside_stands s 0xB5 t v us [] h),
)

-- ---- sequence extensions

plain_fits : (profile : ℕ) (progressive : Bool) → profile < 2 ^ 8 → SequenceExtensionFits (plain_sequence_extension profile progressive)
plain_fits profile progressive small = record {
  profile_and_level = small;
  chroma_format = refl;
  horizontal_ext = omega arith;
  vertical_ext = omega arith;
  bit_rate_ext = omega arith;
  vbv_ext = omega arith;
  rate_n = omega arith;
  rate_d = omega arith;
}

size_some : (n : ℕ) → 1 ≤ n → not (nat_eq (size_of n 0) 0) ≡ true
size_some n some = ap not (ne_eqb (size_of n 0) 0 (λ e. omega (arith, some, e)))

size_most : (n most : ℕ) → n ≤ most → nat_le (size_of n 0) most ≡ true
size_most n most le = le-leb (size_of n 0) most (omega (arith, le))

plain_looks : (profile : ℕ) (progressive : Bool) (info : SequenceInfo) → profile < 2 ^ 8
    → 1 ≤ info.horizontal_size → info.horizontal_size ≤ 1920 → 1 ≤ info.vertical_size → info.vertical_size ≤ 1152
    → (sequence_extension_in info).Stands (plain_sequence_extension profile progressive) (ended (sequence_extension_text (plain_sequence_extension profile progressive))) (behind (sequence_extension_text (plain_sequence_extension profile progressive)))
unfolding sequence_extension_in size_at seq here look number_from rule renamed ended sequence_extension_text rates_text bits_of number
plain_looks profile progressive info small wide width tall height =
    let x = plain_sequence_extension profile progressive in
    let t = ended (sequence_extension_text x) in
    let rest = behind (sequence_extension_text x) in (
      length t,
      t,
      (refl, refl),
      (
        Some 1,
        t,
        (refl, refl),
        (
          Some 0,
          t,
          (refl, refl),
          (
            tt,
            t,
            (tt, t, (size_some info.horizontal_size wide, refl), (size_most info.horizontal_size 1920 width, refl)),
            (
              Some 0,
              t,
              (refl, refl),
              (
                tt,
                t,
                (tt, t, (size_some info.vertical_size tall, refl), (size_most info.vertical_size 1152 height, refl)),
                (sequence_extension_spells x (plain_fits profile progressive small)).stands rest,
              ),
            ),
          ),
        ),
      ),
    )

-- it stands behind a sequence header of a size that is read
pub plain_stands : (profile : ℕ) (progressive : Bool) (info : SequenceInfo) → profile < 2 ^ 8
    → 1 ≤ info.horizontal_size → info.horizontal_size ≤ 1920 → 1 ≤ info.vertical_size → info.vertical_size ≤ 1152
    → (whole_header (sequence_extension_in info)).Stands (plain_sequence_extension profile progressive) (ended (sequence_extension_text (plain_sequence_extension profile progressive))) []
plain_stands profile progressive info small wide width tall height =
    whole_stands (sequence_extension_in info) (sequence_extension_text (plain_sequence_extension profile progressive)) (plain_sequence_extension profile progressive)
    (plain_looks profile progressive info small wide width tall height)

-- ---- picture coding extensions

-- four f_codes without concealment vectors, each of which may stand where it is used
pub f_codes_stand : (kind at : ℕ) (t : List Bool) (a b c d : ℕ) → number_from 26 1 t ≡ Some 0
    → number_from 4 4 t ≡ Some a → number_from 8 4 t ≡ Some b → number_from 12 4 t ≡ Some c → number_from 16 4 t ≡ Some d
    → (not (uses_forward kind (Some 0)) || is_f_code a) ≡ true → (not (uses_forward kind (Some 0)) || is_f_code b) ≡ true
    → (not (uses_backward kind) || is_f_code c) ≡ true → (not (uses_backward kind) || is_f_code d) ≡ true
    → (f_codes_at kind at).Stands tt t t
unfolding f_codes_at f_code_at seq look rule
f_codes_stand kind at t a b c d plain ea eb ec ed pa pb pc pd = (
  Some 0,
  t,
  (sym plain, refl),
  (
    tt,
    t,
    (Some a, t, (sym ea, refl), (pa, refl)),
    (
      tt,
      t,
      (Some b, t, (sym eb, refl), (pb, refl)),
      (tt, t, (Some c, t, (sym ec, refl), (pc, refl)), (Some d, t, (sym ed, refl), (pd, refl))),
    ),
  ),
)

coding_looks : (progressive : Bool) (info : PictureInfo) (x : PictureExtension) (structure : ℕ) → PictureExtensionFits x
    → (let t = ended (picture_extension_text x) in
    (f_codes_at info.kind (length t)).Stands tt t t → number_from 22 2 t ≡ Some structure → is_structure progressive structure ≡ true
    → (picture_extension_in progressive info).Stands x t (behind (picture_extension_text x)))
unfolding picture_extension_in seq here look rule renamed ended
coding_looks progressive info x structure fits codes told may =
    let t = ended (picture_extension_text x) in (
      length t,
      t,
      (refl, refl),
      (
        tt,
        t,
        codes,
        (
          Some structure,
          t,
          (sym told, refl),
          (tt, t, (may, refl), (picture_extension_spells x fits).stands (behind (picture_extension_text x))),
        ),
      ),
    )

-- an extension of such f_codes, and a structure that may stand
pub coding_stands : (progressive : Bool) (info : PictureInfo) (x : PictureExtension) (structure : ℕ) → PictureExtensionFits x
    → (let t = ended (picture_extension_text x) in
    (f_codes_at info.kind (length t)).Stands tt t t → number_from 22 2 t ≡ Some structure → is_structure progressive structure ≡ true
    → (whole_header (picture_extension_in progressive info)).Stands x t [])
coding_stands progressive info x structure fits codes told may =
    whole_stands (picture_extension_in progressive info) (picture_extension_text x) x (coding_looks progressive info x structure fits codes told may)
