-- No prefix of a start code stands in the headers of the encoder's stream.
use Rattle.std.proofs.Common.{◌≡◌, ℕ, suc, ◌+◌, ◌%◌, ◌^◌, ◌<◌, ◌≤◌, Bool, true, false, List, [], ◌∷◌, ◌++◌, length, replicate, refl, sym, subst, arith}
use Rattle.std.proofs.lemmas.List.{length-replicate}
use Rattle.m2v_bits.specs.Bits.{bits_of, to_edge}
use Rattle.m2v_bits.proofs.Bits.{length-bits_of}
use Rattle.m2v_head.specs.Texts.{sequence_text, sequence_extension_text, rates_text, group_text, picture_text, directions_text, picture_extension_text, flags_text, composite_text, loaded_text}
use Rattle.m2v_head.specs.declared.sequence.SequenceExtension.{SequenceExtension}
use Rattle.m2v_set.specs.declared.settings.Settings.{Settings}
use Rattle.m2v_set.specs.declared.settings.Level.{Level}
use Rattle.m2v_set.specs.declared.settings.Level.TheVariants.{Main, High1440, High}
use Rattle.m2v_set.specs.Bounds.{InSize, InChoice}
use Rattle.m2v_set.specs.Rules.{is_progressive}
use Rattle.m2v_order.specs.declared.jobs.PictureJob.{PictureJob}
use Rattle.m2v_slice.specs.Headers.{profile_of, sequence_of, sequence_extension_of, group_from, picture_of, extension_of}
use Rattle.m2v_slice.proofs.TextLengths.{sequence_extension_length, picture_length}
use Rattle.m2v_model.specs.Texts.{Calm, ended, IsCalm}
use Rattle.m2v_model.proofs.Calm.{calm_then, calm_any, calm_one, some_one, calm_end, calm_whole}
use Rattle.m2v_model.specs.Plain.{plain_sequence_extension}
use Rattle.m2v_enc_stream.proofs.Headers.{plain_is, size_bounds, by_kind}

-- ---- sequences

-- the parts of the text of a sequence header, from the size on
abbrev sequence_by_parts : ℕ → ℕ → ℕ → ℕ → ℕ → ℕ → List Bool
sequence_by_parts width height aspect code bits buffer =
    bits_of 12 width ++ (bits_of 12 height ++ (bits_of 4 aspect ++ (bits_of 4 code ++ (bits_of 18 bits ++ (true ∷ (bits_of 10 buffer ++ (false ∷ false ∷ false ∷ [])))))))

sequence_is : (s : Settings) → sequence_text (sequence_of s) ≡ sequence_by_parts (s.width % 4096) (s.height % 4096) s.aspect s.rate_code (s.bits % 262144) (s.buffer % 1024)
unfolding sequence_text loaded_text sequence_of
sequence_is s = refl

calm_number : (n v k m : ℕ) → 0 < v → v < 2 ^ n → n ≤ suc k → n + m ≤ 23 → Calm k (bits_of n v) m
calm_number n v k m some below le small =
    let len = length-bits_of n v in
    calm_one (bits_of n v) k m (some_one n v some below) (omega (arith, len, le)) (omega (arith, len, small))

calm_bits : (n v k m : ℕ) → n + m ≤ k → n + m ≤ 22 → Calm k (bits_of n v) m
calm_bits n v k m le small =
    let len = length-bits_of n v in
    calm_any (bits_of n v) k m (omega (arith, len, le)) (omega (arith, len, small))

parts_calm : (width height aspect code bits buffer : ℕ) → 0 < width → width < 2 ^ 12 → 0 < height → height < 2 ^ 12 → 0 < aspect → aspect < 2 ^ 4 → 0 < code → code < 2 ^ 4 → 0 < bits → bits < 2 ^ 18
    → Calm 22 (sequence_by_parts width height aspect code bits buffer) 7
parts_calm width height aspect code bits buffer w1 w2 h1 h2 a1 a2 c1 c2 b1 b2 =
    let flags : List Bool = false ∷ false ∷ false ∷ [] in
    let end = bits_of 10 buffer ++ flags in
    let rate = bits_of 18 bits in
    calm_then (bits_of 12 width) _ 22 11 7 (calm_number 12 width 22 11 w1 w2 (omega arith) (omega arith))
    (calm_then (bits_of 12 height) _ 11 11 7 (calm_number 12 height 11 11 h1 h2 (omega arith) (omega arith))
    (calm_then (bits_of 4 aspect) _ 11 19 7 (calm_number 4 aspect 11 19 a1 a2 (omega arith) (omega arith))
    (calm_then (bits_of 4 code) _ 19 19 7 (calm_number 4 code 19 19 c1 c2 (omega arith) (omega arith))
    (calm_then rate (true ∷ end) 19 5 7 (calm_number 18 bits 19 5 b1 b2 (omega arith) (omega arith))
    (calm_then (bits_of 10 buffer) flags 22 12 7 (calm_bits 10 buffer 22 12 (omega arith) (omega arith)) (omega arith))))))

pub sequence_calm : (s : Settings) → InSize s → InChoice s → IsCalm (sequence_text (sequence_of s))
sequence_calm s h c =
    let sizes = size_bounds s h in
    calm_end (sequence_text (sequence_of s)) (subst (λ (t : List Bool). Calm 22 t 7) (sym (sequence_is s))
    (parts_calm (s.width % 4096) (s.height % 4096) s.aspect s.rate_code (s.bits % 262144) (s.buffer % 1024)
    (omega (arith, sizes.0.0)) (omega arith) (omega (arith, sizes.1.0)) (omega arith)
    (omega (arith, c.shaped)) (omega (arith, c.aspect)) (omega (arith, h.code)) (omega (arith, h.codes))
    (omega (arith, h.bit, h.bits)) (omega arith)))

-- the extension, of each level
extension_calm : (level : Level) (progressive : Bool) → Calm 22 (sequence_extension_text (plain_sequence_extension (profile_of level) progressive)) 6
unfolding sequence_extension_text rates_text bits_of profile_of
extension_calm Main true = omega arith
extension_calm Main false = omega arith
extension_calm High1440 true = omega arith
extension_calm High1440 false = omega arith
extension_calm High true = omega arith
extension_calm High false = omega arith

pub sequence_extension_calm : (s : Settings) → InSize s → IsCalm (sequence_extension_text (sequence_extension_of s))
sequence_extension_calm s h =
    calm_whole (sequence_extension_text (sequence_extension_of s)) (omega (arith, sequence_extension_length s))
    (subst (λ (x : SequenceExtension). Calm 22 (sequence_extension_text x) 6) (sym (plain_is s h)) (extension_calm s.level (is_progressive s.scan)))

-- ---- groups

group_parts_calm : (d c b : Bool) (hours minutes seconds pictures : ℕ)
    → Calm 22 (d ∷ (bits_of 5 hours ++ (bits_of 6 minutes ++ (true ∷ (bits_of 6 seconds ++ (bits_of 6 pictures ++ (c ∷ b ∷ []))))))) 7
group_parts_calm d c b hours minutes seconds pictures =
    let flags : List Bool = c ∷ b ∷ [] in
    calm_then (d ∷ []) _ 22 21 7 (calm_any (d ∷ []) 22 21 (omega arith) (omega arith))
    (calm_then (bits_of 5 hours) _ 21 16 7 (calm_bits 5 hours 21 16 (omega arith) (omega arith))
    (calm_then (bits_of 6 minutes) (true ∷ (bits_of 6 seconds ++ (bits_of 6 pictures ++ flags))) 16 10 7 (calm_bits 6 minutes 16 10 (omega arith) (omega arith))
    (calm_then (bits_of 6 seconds) _ 22 16 7 (calm_bits 6 seconds 22 16 (omega arith) (omega arith))
    (calm_then (bits_of 6 pictures) flags 16 10 7 (calm_bits 6 pictures 16 10 (omega arith) (omega arith))
    (calm_any flags 10 7 (omega arith) (omega arith))))))

pub group_calm : (s : Settings) (display : ℕ) → IsCalm (group_text (group_from s display))
unfolding group_text
group_calm s display =
    let g = group_from s display in
    calm_end (group_text g) (group_parts_calm g.«drop» g.closed_gop g.broken_link g.hours g.minutes g.seconds g.pictures)

-- ---- pictures

-- the zeros behind a text of which so many may still come
calm_by : (t : List Bool) (n : ℕ) → n ≤ 7 → to_edge (32 + length t) ≤ n → Calm 22 t n → IsCalm t
unfolding ended
calm_by t n small few h =
    let zeros = replicate (to_edge (32 + length t)) false in
    let len : length zeros ≤ n = omega (arith, length-replicate (to_edge (32 + length t)) false, few) in
    record { calm = calm_then t zeros 22 n 0 h (calm_any zeros n 0 (omega (arith, len)) (omega (arith, len, small))) }

-- the texts of the three types
kinds : Calm 12 (bits_of 3 1) 22 × Calm 12 (bits_of 3 2) 21 × Calm 12 (bits_of 3 3) 22
unfolding bits_of
kinds = (omega arith, omega arith, omega arith)

-- what stands at the end of a P and of a B picture's header
ends : Calm 5 (false ∷ (bits_of 3 7 ++ (false ∷ []))) 7 × Calm 6 (false ∷ (bits_of 3 7 ++ (false ∷ (bits_of 3 7 ++ (false ∷ []))))) 7
unfolding bits_of
ends = (omega arith, omega arith)

picture_calm_by : (frame delay kind m left : ℕ) (end : List Bool) → Calm 12 (bits_of 3 kind) (16 + m) → 16 + m ≤ 22 → Calm m end left
    → Calm 22 (bits_of 10 frame ++ (bits_of 3 kind ++ (bits_of 16 delay ++ end))) left
picture_calm_by frame delay kind m left end first small last_part =
    calm_then (bits_of 10 frame) _ 22 12 left (calm_bits 10 frame 22 12 (omega arith) (omega arith))
    (calm_then (bits_of 3 kind) _ 12 (16 + m) left first
    (calm_then (bits_of 16 delay) end (16 + m) m left (calm_bits 16 delay (16 + m) m (omega arith) small) last_part))

abbrev PictureCalm : PictureJob → ℕ → ℕ → Type 0
PictureCalm job delay kind = IsCalm (picture_text (picture_of (record job { kind = kind }) delay))

intra_is : (job : PictureJob) (delay : ℕ) → picture_text (picture_of (record job { kind = 1 }) delay) ≡ bits_of 10 job.frame ++ (bits_of 3 1 ++ (bits_of 16 delay ++ (false ∷ [])))
unfolding picture_text directions_text picture_of
intra_is job delay = refl

forward_is : (job : PictureJob) (delay : ℕ)
    → picture_text (picture_of (record job { kind = 2 }) delay) ≡ bits_of 10 job.frame ++ (bits_of 3 2 ++ (bits_of 16 delay ++ (false ∷ (bits_of 3 7 ++ (false ∷ [])))))
unfolding picture_text directions_text picture_of bits_of
forward_is job delay = refl

both_is : (job : PictureJob) (delay : ℕ)
    → picture_text (picture_of (record job { kind = 3 }) delay) ≡ bits_of 10 job.frame ++ (bits_of 3 3 ++ (bits_of 16 delay ++ (false ∷ (bits_of 3 7 ++ (false ∷ (bits_of 3 7 ++ (false ∷ [])))))))
unfolding picture_text directions_text picture_of bits_of
both_is job delay = refl

intra_calm : (job : PictureJob) (delay : ℕ) → PictureCalm job delay 1
intra_calm job delay =
    let t = picture_text (picture_of (record job { kind = 1 }) delay) in
    let len = picture_length (record job { kind = 1 }) delay in
    calm_by t 2 (omega arith) (omega (arith, len))
    (subst (λ (x : List Bool). Calm 22 x 2) (sym (intra_is job delay)) (picture_calm_by job.frame delay 1 6 2 (false ∷ []) kinds.0 (omega arith) (omega arith)))

forward_calm : (job : PictureJob) (delay : ℕ) → PictureCalm job delay 2
forward_calm job delay =
    let t = picture_text (picture_of (record job { kind = 2 }) delay) in
    calm_end t
    (subst (λ (x : List Bool). Calm 22 x 7) (sym (forward_is job delay)) (picture_calm_by job.frame delay 2 5 7 (false ∷ (bits_of 3 7 ++ (false ∷ []))) kinds.1 (omega arith) ends.0))

both_calm : (job : PictureJob) (delay : ℕ) → PictureCalm job delay 3
both_calm job delay =
    let t = picture_text (picture_of (record job { kind = 3 }) delay) in
    calm_end t
    (subst (λ (x : List Bool). Calm 22 x 7) (sym (both_is job delay))
    (picture_calm_by job.frame delay 3 6 7 (false ∷ (bits_of 3 7 ++ (false ∷ (bits_of 3 7 ++ (false ∷ []))))) kinds.2 (omega arith) ends.1))

pub picture_calm : (job : PictureJob) (delay : ℕ) → (1 ≤ job.kind) × (job.kind ≤ 3) → IsCalm (picture_text (picture_of job delay))
picture_calm job delay kind = by_kind (PictureCalm job delay) (intra_calm job delay) (forward_calm job delay) (both_calm job delay) job.kind kind

-- ---- coding extensions

-- behind the f_codes: 14 bits
abbrev coding_rest : Settings → PictureJob → List Bool
coding_rest s job = bits_of 2 0 ++ (bits_of 2 job.structure ++ (flags_text (extension_of s job) ++ composite_text (extension_of s job).composite))

rest_length : (s : Settings) (job : PictureJob) → length (coding_rest s job) ≡ 14
unfolding bits_of flags_text composite_text extension_of
rest_length s job = refl

abbrev codes : ℕ → ℕ → List Bool
codes forward backward = bits_of 4 forward ++ (bits_of 4 forward ++ (bits_of 4 backward ++ bits_of 4 backward))

first_calm : Calm 22 (bits_of 4 8) 19
unfolding bits_of
first_calm = omega arith

-- the f_codes of the three types
codes_calm : Calm 19 (codes 15 15) 21 × Calm 19 (codes 2 15) 21 × Calm 19 (codes 2 2) 21
unfolding bits_of
codes_calm = (omega arith, omega arith, omega arith)

abbrev CodingCalm : Settings → PictureJob → ℕ → Type 0
CodingCalm s job kind = IsCalm (picture_extension_text (extension_of s (record job { kind = kind })))

coding_calm_by : (s : Settings) (job : PictureJob) (kind forward backward : ℕ)
    → picture_extension_text (extension_of s (record job { kind = kind })) ≡ bits_of 4 8 ++ (codes forward backward ++ coding_rest s job)
    → Calm 19 (codes forward backward) 21 → CodingCalm s job kind
coding_calm_by s job kind forward backward is h =
    let rest = coding_rest s job in
    let len = rest_length s job in
    calm_end (picture_extension_text (extension_of s (record job { kind = kind })))
    (subst (λ (x : List Bool). Calm 22 x 7) (sym is)
    (calm_then (bits_of 4 8) _ 22 19 7 first_calm
    (calm_then (codes forward backward) rest 19 21 7 h (calm_any rest 21 7 (omega (arith, len)) (omega (arith, len))))))

no_codes_is : (s : Settings) (job : PictureJob) → picture_extension_text (extension_of s (record job { kind = 1 })) ≡ bits_of 4 8 ++ (codes 15 15 ++ coding_rest s job)
unfolding picture_extension_text flags_text composite_text extension_of bits_of
no_codes_is s job = refl

forward_codes_is : (s : Settings) (job : PictureJob) → picture_extension_text (extension_of s (record job { kind = 2 })) ≡ bits_of 4 8 ++ (codes 2 15 ++ coding_rest s job)
unfolding picture_extension_text flags_text composite_text extension_of bits_of
forward_codes_is s job = refl

both_codes_is : (s : Settings) (job : PictureJob) → picture_extension_text (extension_of s (record job { kind = 3 })) ≡ bits_of 4 8 ++ (codes 2 2 ++ coding_rest s job)
unfolding picture_extension_text flags_text composite_text extension_of bits_of
both_codes_is s job = refl

pub coding_calm : (s : Settings) (job : PictureJob) → (1 ≤ job.kind) × (job.kind ≤ 3) → IsCalm (picture_extension_text (extension_of s job))
coding_calm s job kind =
    by_kind (CodingCalm s job) (coding_calm_by s job 1 15 15 (no_codes_is s job) codes_calm.0) (coding_calm_by s job 2 2 15 (forward_codes_is s job) codes_calm.1)
    (coding_calm_by s job 3 2 2 (both_codes_is s job) codes_calm.2) job.kind kind
