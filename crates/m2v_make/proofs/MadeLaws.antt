-- What can come of coding, decoding and checking the frames of a seed: success, or want of memory.
use Rattle.std.proofs.Common.{◌≡◌, ℕ, ◌*◌, ◌≤◌, All, inl, inr, List, [], ◌∷◌, ◌++◌, length, Option, Some, None, IfSome, Result, Ok, Err, refl, sym, ap, subst, ◌∙◌, arith}
use Rattle.std.proofs.lemmas.List.{length-append, length-map}
use Rattle.std.proofs.lemmas.List.Elements.{All-head, All-tail}
use Rattle.m2v_port.specs.Ends.{Change, absent}
use Rattle.m2v_port.specs.Port.{Moves, Rose}
use Rattle.m2v_port.proofs.Runs.{moved_all}
use Rattle.m2v_plane.specs.Raw.{raw}
use Rattle.m2v_set.specs.declared.settings.Settings.{Settings}
use Rattle.m2v_order.specs.Calls.{jobs_in, picture_of}
use Rattle.m2v_order.specs.Coding.{Coding, is_intra, is_anchor, in_order, structures}
use Rattle.m2v_encode.specs.declared.answer.EncodeError.{EncodeError}
use Rattle.m2v_encode.specs.declared.answer.EncodeError.TheVariants as encoding
use Rattle.m2v_encode.specs.Answers.{AreWhole, Stops}
use Rattle.m2v_encode.specs.m2v_enc_stream.Streams.{Recon}
use Rattle.m2v_encode.specs.m2v_law_shown.Laws.{DecodesTo}
use Rattle.m2v_encode.specs.m2v_enc_stream.Trees.{groups_of}
use Rattle.m2v_encode.proofs.m2v_law_shown.Headline.{headline}
use Rattle.m2v_check.specs.m2v_model.Pieces.{most_input}
use Rattle.m2v_check.specs.m2v_model.Lawful.{Lawful as IsRuled}
use Rattle.m2v_check.specs.m2v_model.Buffering.{HasFigures, Safe}
use Rattle.m2v_check.specs.m2v_dec_piece.declared.answer.DecodeError.{DecodeError}
use Rattle.m2v_check.specs.m2v_dec_piece.declared.answer.DecodeError.TheVariants as decoding
use Rattle.m2v_check.specs.m2v_decode.declared.answer.Decoded.{Decoded}
use Rattle.m2v_check.specs.m2v_decode.Complete.{IsUnderLimits, counted}
use Rattle.m2v_check.specs.m2v_decode.Complete.{Gives as DecodeGives, IsAnswered as IsDecodeAnswered}
use Rattle.m2v_check.specs.declared.verdict.Figures.{Figures}
use Rattle.m2v_check.specs.declared.verdict.Verdict.{Verdict}
use Rattle.m2v_check.specs.declared.verdict.Verdict.TheVariants.{Lawful}
use Rattle.m2v_check.specs.Meaning.{IsLawful, buffer_figures}
use Rattle.m2v_check.specs.Answers.{Gives, IsAnswered}
use Rattle.m2v_make.specs.Frames.{generated}
use Rattle.m2v_make.specs.Source.{frame_size}
use Rattle.m2v_make.specs.Making.{make_settings, stream_of}
use Rattle.m2v_make.proofs.SettingsLaws.{settings_pass}
use Rattle.m2v_make.proofs.FrameLaws.{all_length}
use Rattle.m2v_make.proofs.CodedLaws.{size_made, whole_made}
use Rattle.m2v_make.proofs.StreamLimits.{pictures_are, fits, length_most}
use Rattle.m2v_make.proofs.Judged.{judged}

-- a count that stays 0 doesn't rise
pub still : Rose 0 0 → ⊥
still (inl less) = absurd (omega (arith, less))
still (inr full) = absurd (omega (arith, full))

-- ---- coding

raw_length : (size : ℕ) (frames : List (List ℕ)) → All (λ (f : List ℕ). length f ≡ size) frames → length (raw frames) ≡ length frames * size
raw_length size [] each = omega arith
raw_length size (f ∷ fs) each =
    let here : length f ≡ size = All-head (λ (f : List ℕ). length f ≡ size) f fs each in
    omega (arith, here, length-append f (raw fs), raw_length size fs (All-tail (λ (f : List ℕ). length f ≡ size) f fs each))

frames_length : (frames : List (List ℕ)) → AreWhole make_settings frames → length (raw frames) ≡ 38016 * length frames
frames_length frames each = omega (arith, raw_length frame_size frames (whole_made frames each))

-- the bytes that were read are at most all there are
moved_few : (all bytes : List ℕ) (new : Option (List ℕ)) → Moves (Some all) bytes new → length bytes ≤ length all
moved_few all bytes None moved = let was : Some all ≡ None = moved.was in absurd cc
moved_few all bytes (Some rest) moved =
    let was : Some all ≡ Some (bytes ++ rest) = moved.was in
    let is : all ≡ bytes ++ rest = cc in
    omega (arith, ap length is, length-append bytes rest)

-- the frames are whole, and neither their source nor a sink in memory fails
coding_stops : (seed : ℕ) (left held : Change) (e : EncodeError) → left.old ≡ Some (raw (generated seed)) → (left.Failed → ⊥) → (held.Failed → ⊥)
    → Stops make_settings left held absent e → e ≡ encoding.Memory
unfolding Stops
coding_stops seed left held encoding.Read told read write h = absurd (read h.0)
coding_stops seed left held encoding.Write told read write (inl failed, cut) = absurd (write failed)
coding_stops seed left held encoding.Write told read write (inr failed, cut) = absurd failed
coding_stops seed left held (encoding.ShortFrame extra) told read write h =
    let begun = h.begun in
    let all : raw h.frames ++ h.part ≡ raw (generated seed) = subst (λ (o : Option (List ℕ)). IfSome o (λ all. raw h.frames ++ h.part ≡ all)) told (moved_all begun.moved h.end) in
    absurd (omega (arith, ap length all, length-append (raw h.frames) h.part, frames_length h.frames begun.whole, h.count, h.some, h.less, size_made, all_length seed))
coding_stops seed left held encoding.NoFrames told read write h =
    let all : [] ≡ raw (generated seed) = subst (λ (o : Option (List ℕ)). IfSome o (λ all. [] ≡ all)) told (moved_all h.moved h.end) in
    absurd (omega (arith, ap length all, all_length seed))
coding_stops seed left held encoding.TooManyFrames told read write h =
    let begun = h.begun in
    let moved : Moves (Some (raw (generated seed))) (raw h.frames ++ h.next ∷ []) left.new = subst (λ (o : Option (List ℕ)). Moves o (raw h.frames ++ h.next ∷ []) left.new) told begun.moved in
    absurd (omega (arith, moved_few _ _ _ moved, length-append (raw h.frames) (h.next ∷ []), frames_length h.frames begun.whole, h.all, all_length seed))
coding_stops seed left held encoding.Memory told read write h = refl

pub coding_stops_by : (seed : ℕ) (s : Settings) (left held : Change) (e : EncodeError) → s ≡ make_settings → left.old ≡ Some (raw (generated seed)) → (left.Failed → ⊥) → (held.Failed → ⊥)
    → Stops s left held absent e → e ≡ encoding.Memory
coding_stops_by seed s left held e is told read write h =
    coding_stops seed left held e told read write (subst (λ (x : Settings). Stops x left held absent e) is h)

-- ---- the stream

count_made : (seed : ℕ) → length (generated seed) ≡ 48
unfolding generated
count_made seed = refl

some_made : (seed : ℕ) → 1 ≤ length (generated seed)
some_made seed = omega (arith, count_made seed)

few_made : (seed : ℕ) → length (generated seed) ≤ 999999
few_made seed = omega (arith, count_made seed)

ordered : length (Coding make_settings 48) ≡ 48
unfolding make_settings is_intra is_anchor in_order structures
ordered = refl

-- what the headline says of it
pub made_decodes : (seed : ℕ) → DecodesTo (stream_of seed) (Recon make_settings (generated seed))
made_decodes seed = (headline make_settings (generated seed) settings_pass (some_made seed) (few_made seed)).decodes

pub made_lawful : (seed : ℕ) → IsRuled (stream_of seed)
made_lawful seed = (headline make_settings (generated seed) settings_pass (some_made seed) (few_made seed)).lawful

pub made_safe : (seed : ℕ) → Safe (stream_of seed)
made_safe seed = (headline make_settings (generated seed) settings_pass (some_made seed) (few_made seed)).safe

-- one picture a frame
pictures_made : (seed : ℕ) → length (jobs_in (groups_of make_settings (generated seed))) ≡ 48
pictures_made seed =
    sym (length-map (jobs_in (groups_of make_settings (generated seed))) picture_of)
    ∙ ap length (headline make_settings (generated seed) settings_pass (some_made seed) (few_made seed)).order
    ∙ ap (λ (n : ℕ). length (Coding make_settings n)) (count_made seed)
    ∙ ordered

short : (seed : ℕ) → length (stream_of seed) ≤ most_input
short seed =
    let most = length_most make_settings (generated seed) settings_pass (some_made seed) (few_made seed) in
    omega (arith, most, pictures_are make_settings (generated seed), pictures_made seed)

under : (seed : ℕ) → IsUnderLimits (stream_of seed)
under seed = fits make_settings (generated seed) settings_pass (some_made seed) (few_made seed) (short seed)

-- ---- decoding

decode_gives : (left held : Change) (d : Decoded) (e : DecodeError) → (left.Failed → ⊥) → (held.Failed → ⊥) → DecodeGives left held (Ok d) (Err e) → e ≡ decoding.Memory
decode_gives left held d e read write (DecodeGives.as_said is) = absurd cc
decode_gives left held d e read write (DecodeGives.read is failed) = absurd (read failed)
decode_gives left held d e read write (DecodeGives.write is failed) = absurd (write failed)
decode_gives left held d e read write (DecodeGives.memory is) = cc

-- the stream decodes, and passes no limit
pub decoding_stops : (seed : ℕ) (text : List ℕ) (left held : Change) (e : DecodeError) → text ≡ stream_of seed → (left.Failed → ⊥) → (held.Failed → ⊥)
    → IsDecodeAnswered left held (Err e) text → e ≡ decoding.Memory
decoding_stops seed text left held e is read write h =
    let here : IsDecodeAnswered left held (Err e) (stream_of seed) = subst (IsDecodeAnswered left held (Err e)) is h in
    let decodes = (made_decodes seed).decodes in
    decode_gives left held (counted decodes) e read write (here.decodes _ decodes (under seed))

-- ---- checking

check_gives : (left : Change) (v : Verdict) (e : DecodeError) → (left.Failed → ⊥) → Gives left (Ok v) (Err e) → e ≡ decoding.Memory
check_gives left v e read (Gives.as_said is) = absurd cc
check_gives left v e read (Gives.read is failed) = absurd (read failed)
check_gives left v e read (Gives.memory is) = cc

verdict_gives : (left : Change) (v w : Verdict) → Gives left (Ok v) (Ok w) → w ≡ v
verdict_gives left v w (Gives.as_said is) = cc
verdict_gives left v w (Gives.read is failed) = absurd cc
verdict_gives left v w (Gives.memory is) = absurd cc

-- what is answered: the verdict is lawful, and no limit is passed
answered : (seed : ℕ) (text : List ℕ) (left : Change) (r : Result Verdict DecodeError) → text ≡ stream_of seed → IsAnswered left r text
    → (f : Figures) × IsLawful (stream_of seed) f × Gives left (Ok (Lawful f)) r
answered seed text left r is h =
    let here : IsAnswered left r (stream_of seed) = subst (IsAnswered left r) is h in
    let verdict = judged make_settings (generated seed) settings_pass (some_made seed) (few_made seed) in
    (verdict.0, verdict.1, here.judged (Lawful verdict.0) verdict.1 (under seed))

pub checking_stops : (seed : ℕ) (text : List ℕ) (left : Change) (e : DecodeError) → text ≡ stream_of seed → (left.Failed → ⊥) → IsAnswered left (Err e) text → e ≡ decoding.Memory
checking_stops seed text left e is read h =
    let a = answered seed text left (Err e) is h in
    check_gives left (Lawful a.0) e read a.2

pub checking_gives : (seed : ℕ) (text : List ℕ) (left : Change) (v : Verdict) → text ≡ stream_of seed → IsAnswered left (Ok v) text
    → (f : Figures) × (v ≡ Lawful f) × HasFigures (stream_of seed) (buffer_figures f)
checking_gives seed text left v is h =
    let a = answered seed text left (Ok v) is h in
    (a.0, verdict_gives left (Lawful a.0) v a.2, a.1.buffer)
