-- How long the headers are.
use Rattle.std.proofs.Common.{◌≡◌, ℕ, ◌+◌, ◌≤◌, ◌++◌, ◌-◌, List, [], ◌∷◌, length, refl, arith, true, false, not, ◌&&◌, cond, if◌then◌else◌, Bool, nat_eq}
use Rattle.std.proofs.lemmas.List.{length-append}
use Rattle.m2v_bits.specs.Bits.{bits_of, unit}
use Rattle.m2v_bits.proofs.Units.{start_length, unit_length}
use Rattle.m2v_head.specs.Texts.{sequence_text, sequence_extension_text, rates_text, group_text, picture_text, picture_extension_text, directions_text, flags_text, composite_text, loaded_text}
use Rattle.m2v_set.specs.declared.settings.Settings.{Settings}
use Rattle.m2v_order.specs.declared.jobs.PictureJob.{PictureJob}
use Rattle.m2v_slice.specs.Headers.{sequence_of, sequence_extension_of, group_from, picture_of, extension_of, group_units, picture_units, header_units, header_bits, begins_group, IsJob}

pub sequence_length : (s : Settings) → length (sequence_text (sequence_of s)) ≡ 64
unfolding sequence_text loaded_text bits_of sequence_of
sequence_length s = refl

pub sequence_extension_length : (s : Settings) → length (sequence_extension_text (sequence_extension_of s)) ≡ 48
unfolding sequence_extension_text rates_text bits_of sequence_extension_of
sequence_extension_length s = refl

pub group_length : (s : Settings) (display : ℕ) → length (group_text (group_from s display)) ≡ 27
unfolding group_text bits_of group_from
group_length s display = refl

pub picture_extension_length : (s : Settings) (job : PictureJob) → length (picture_extension_text (extension_of s job)) ≡ 34
unfolding picture_extension_text flags_text composite_text bits_of extension_of
picture_extension_length s job = refl

directions_length : (b c : Bool) (x y : List Bool) → length (cond b [] (x ++ cond c [] y)) ≡ cond b 0 (length x + cond c 0 (length y))
directions_length true c x y = refl
directions_length false true x y = length-append x []
directions_length false false x y = length-append x y

-- an I picture has no f_code of other times, a P picture one, a B picture two
pub picture_length : (job : PictureJob) (delay : ℕ) → length (picture_text (picture_of job delay)) ≡ 30 + cond (nat_eq job.kind 1) 0 (4 + cond (nat_eq job.kind 2) 0 4)
unfolding picture_text directions_text bits_of picture_of
picture_length job delay =
    let x = false ∷ bits_of 3 (cond (nat_eq job.kind 1) 0 7) in
    let y = false ∷ bits_of 3 (cond (nat_eq job.kind 3) 7 0) in
    let d = cond (nat_eq job.kind 1) [] (x ++ cond (nat_eq job.kind 2) [] y) in
    omega (arith, length-append d (false ∷ []), directions_length (nat_eq job.kind 1) (nat_eq job.kind 2) x y)

pub picture_most : (job : PictureJob) (delay : ℕ) → length (picture_text (picture_of job delay)) ≤ 38
picture_most job delay = by_kind (nat_eq job.kind 1) (nat_eq job.kind 2) (picture_length job delay)
  where
    by_kind : (b c : Bool) → length (picture_text (picture_of job delay)) ≡ 30 + cond b 0 (4 + cond c 0 4) → length (picture_text (picture_of job delay)) ≤ 38
    by_kind true c e = omega (arith, e)
    by_kind false true e = omega (arith, e)
    by_kind false false e = omega (arith, e)

-- with its start code and the zero bits behind it
pub picture_unit_length : (job : PictureJob) (delay : ℕ) → length (unit 0x00 (picture_text (picture_of job delay))) ≡ cond (nat_eq job.kind 1) 64 72
picture_unit_length job delay = by_kind (nat_eq job.kind 1) (nat_eq job.kind 2) (picture_length job delay)
  where
    by_kind : (b c : Bool) → length (picture_text (picture_of job delay)) ≡ 30 + cond b 0 (4 + cond c 0 4) → length (unit 0x00 (picture_text (picture_of job delay))) ≡ cond b 64 72
    by_kind true c e = omega (arith, e, unit_length 0x00 (picture_text (picture_of job delay)))
    by_kind false true e = omega (arith, e, unit_length 0x00 (picture_text (picture_of job delay)))
    by_kind false false e = omega (arith, e, unit_length 0x00 (picture_text (picture_of job delay)))

pub extension_unit_length : (s : Settings) (job : PictureJob) → length (unit 0xB5 (picture_extension_text (extension_of s job))) ≡ 72
extension_unit_length s job =
    let t = picture_extension_text (extension_of s job) in
    omega (arith, unit_length 0xB5 t, picture_extension_length s job)

pub picture_units_length : (s : Settings) (job : PictureJob) (delay : ℕ) → length (picture_units s job delay) ≡ cond (nat_eq job.kind 1) 64 72 + 72
unfolding picture_units
picture_units_length s job delay =
    let a = unit 0x00 (picture_text (picture_of job delay)) in
    let b = unit 0xB5 (picture_extension_text (extension_of s job)) in
    omega (arith, length-append a b, picture_unit_length job delay, extension_unit_length s job)

pub group_units_length : (s : Settings) (display : ℕ) → length (group_units s display) ≡ 240
unfolding group_units
group_units_length s display =
    let a = sequence_text (sequence_of s) in
    let b = sequence_extension_text (sequence_extension_of s) in
    let c = group_text (group_from s display) in
    omega (arith, length-append (unit 0xB3 a) (unit 0xB5 b ++ unit 0xB8 c), length-append (unit 0xB5 b) (unit 0xB8 c), unit_length 0xB3 a, unit_length 0xB5 b, unit_length 0xB8 c, sequence_length s, sequence_extension_length s, group_length s display)

-- the headers of a group, where there are some, and those of the picture
pub header_parts : (s : Settings) (job : PictureJob) (delay : ℕ) → header_bits job ≡ cond (begins_group job) 240 0 + length (picture_units s job delay)
unfolding header_bits begins_group
header_parts s job delay = by_kind (nat_eq job.kind 1) (nat_eq job.structure 2) (picture_units_length s job delay)
  where
    by_kind : (b c : Bool) → length (picture_units s job delay) ≡ cond b 64 72 + 72 → (if b && not c then 376 else if b then 136 else 144) ≡ cond (b && not c) 240 0 + length (picture_units s job delay)
    by_kind true true e = omega (arith, e)
    by_kind true false e = omega (arith, e)
    by_kind false c e = omega (arith, e)

pub header_length : (s : Settings) (job : PictureJob) (delay : ℕ) → IsJob job → length (header_units s job delay) ≡ header_bits job
unfolding header_units header_bits begins_group
header_length s job delay is = by_kind (nat_eq job.kind 1) (nat_eq job.structure 2) (picture_units_length s job delay)
  where
    first : List Bool
    first = group_units s (job.display - job.frame)

    by_kind : (b c : Bool) → length (picture_units s job delay) ≡ cond b 64 72 + 72 → length (cond (b && not c) first [] ++ picture_units s job delay) ≡ (if b && not c then 376 else if b then 136 else 144)
    by_kind true true e = e
    by_kind true false e = omega (arith, e, length-append first (picture_units s job delay), group_units_length s (job.display - job.frame))
    by_kind false c e = e

pub ruleset units = (unit_length, sequence_length, sequence_extension_length, group_length, picture_extension_length)
