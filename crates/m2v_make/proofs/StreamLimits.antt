-- No piece of the encoder's stream passes a limit: each picture fits the decoder's buffer.
use Rattle.std.proofs.Common.{◌≡◌, ℕ, ◌+◌, ◌*◌, ◌≤◌, false, List, [], ◌∷◌, ◌++◌, length, map, sum, refl, sym, ap, subst, ◌∙◌, arith, append_assoc}
use Rattle.std.specs.Prelude.{All}
use Rattle.std.proofs.lemmas.List.{length-append}
use Rattle.std.proofs.lemmas.List.Elements.{All-nil, All-cons, All-append, All-head, All-tail}
use Rattle.m2v_bits.specs.Bits.{bits_of, start_code, IsEdge, ◌⧺◌}
use Rattle.m2v_plane.specs.Samples.{Samples}
use Rattle.m2v_set.specs.declared.settings.Settings.{Settings}
use Rattle.m2v_set.specs.Numbers.{buffer_bits, delay_of}
use Rattle.m2v_set.specs.Rules.{Passes}
use Rattle.m2v_set.proofs.Facts.{bounds}
use Rattle.m2v_vbv.specs.Annex.{Start, Removal, Safe}
use Rattle.m2v_order.specs.Groups.{Group}
use Rattle.m2v_order.specs.Calls.{jobs_in}
use Rattle.m2v_encode.specs.m2v_enc_stream.Streams.{Progress, Coded, coded_all, at_start, group_coded, groups_coded}
use Rattle.m2v_encode.specs.m2v_enc_stream.Sent.{SentPicture, Sent, removal_of}
use Rattle.m2v_encode.specs.m2v_enc_stream.Trees.{groups_of}
use Rattle.m2v_encode.proofs.m2v_enc_stream.Follows.{stream_follows}
use Rattle.m2v_encode.proofs.m2v_law_shown.Decodes.{spelled}
use Rattle.m2v_encode.proofs.m2v_law_shown.Accounts.{bits_are, total_is, pictures_counted}
use Rattle.m2v_encode.proofs.m2v_law_shown.Ends.{with_end}
use Rattle.m2v_encode.proofs.m2v_law_shown.Lengths.{bytes_by}
use Rattle.m2v_encode.proofs.m2v_law_shown.SentPictures.{bits_of_sent, groups_take}
use Rattle.m2v_encode.proofs.m2v_law_shown.ToldAccounts.{sent_safe}
use Rattle.m2v_check.specs.m2v_model.Pieces.{pieces, most_input}
use Rattle.m2v_check.specs.m2v_model.Buffering.{bits_of_piece}
use Rattle.m2v_check.specs.m2v_decode.Complete.{IsUnderLimits}
use Rattle.m2v_make.proofs.Limits.{most_bits, under_limits, bits_are_bytes, sum_most}

-- numbers that are at most another one
abbrev AtMost : ℕ → List ℕ → Type 0
AtMost most ns = All (λ n. n ≤ most) ns

-- the buffer's account of a stream begins so
abbrev start_by : Settings → Start
start_by s = record { k = s.bits; buffer_bits = buffer_bits s; s = 272; delay = delay_of s }

-- what a safe account removes was held, and so has at most the bits of the buffer
removed_most : (start : Start) (rs before : List Removal) (xs : List SentPicture) → rs ≡ before ++ map removal_of xs → Safe start rs
    → AtMost start.buffer_bits (bits_of_sent xs)
removed_most start rs before [] are safe = All-nil (λ (n : ℕ). n ≤ start.buffer_bits)
removed_most start rs before (x ∷ xs) are safe =
    let held = safe before (removal_of x) (map removal_of xs) are in
    All-cons (λ (n : ℕ). n ≤ start.buffer_bits) x.bits (bits_of_sent xs) (omega (arith, held.0, held.1))
    (removed_most start rs (before ++ removal_of x ∷ []) xs (are ∙ sym (append_assoc before (removal_of x ∷ []) (map removal_of xs))) safe)

-- the same of the pieces, of which the last one but one has the end code too
without_end : (most : ℕ) (ns : List ℕ) → AtMost most (with_end ns) → AtMost most ns
unfolding with_end
without_end most [] few = few
without_end most (n ∷ []) few =
    let here : n + 32 ≤ most = All-head (λ (k : ℕ). k ≤ most) (n + 32) [] few in
    All-cons (λ (k : ℕ). k ≤ most) n [] (omega (arith, here)) (All-nil (λ (k : ℕ). k ≤ most))
without_end most (n ∷ m ∷ ns) few =
    All-cons (λ (k : ℕ). k ≤ most) n (m ∷ ns) (All-head (λ (k : ℕ). k ≤ most) n (with_end (m ∷ ns)) few)
    (without_end most (m ∷ ns) (All-tail (λ (k : ℕ). k ≤ most) n (with_end (m ∷ ns)) few))

at_most_more : (most more : ℕ) (ns : List ℕ) → most ≤ more → AtMost most ns → AtMost more ns
at_most_more most more ns le few = λ k d lt. let here = few k d lt in omega (arith, le, here)

-- the bits of pieces, by those of the pictures as they are sent
pieces_most : (pictures sent : List ℕ) (ps : List (List ℕ)) → map bits_of_piece ps ≡ pictures ++ 32 ∷ [] → sent ≡ with_end pictures → AtMost most_bits sent
    → AtMost most_bits (map bits_of_piece ps)
pieces_most pictures sent ps are ends few =
    subst (AtMost most_bits) (sym are)
    (All-append (λ (n : ℕ). n ≤ most_bits) pictures (32 ∷ []) (without_end most_bits pictures (subst (AtMost most_bits) ends few))
    (All-cons (λ (n : ℕ). n ≤ most_bits) 32 [] (omega arith) (All-nil (λ (n : ℕ). n ≤ most_bits))))

-- how many pieces there are
with_last : (pictures bits : List ℕ) (count : ℕ) → bits ≡ pictures ++ 32 ∷ [] → length pictures ≡ count → length bits ≡ count + 1
with_last pictures bits count are is = omega (arith, ap length are, length-append pictures (32 ∷ []), is)

-- the sequence end code
code_length : length (start_code 0xB7) ≡ 32
unfolding bits_of
code_length = refl

-- how many pictures are coded
pictures_in_groups : (s : Settings) (gs : List (Group Samples)) (x : Progress) → (groups_coded s x gs).pictures ≡ x.pictures + length (jobs_in gs)
unfolding groups_coded group_coded
pictures_in_groups s [] x = omega arith
pictures_in_groups s (g ∷ []) x = omega (arith, length-append g.pictures [])
pictures_in_groups s (g ∷ h ∷ more) x =
    omega (arith, pictures_in_groups s (h ∷ more) (group_coded s x g false), length-append g.pictures (jobs_in (h ∷ more)))

pub pictures_are : (s : Settings) (frames : List (List ℕ)) → (coded_all s frames).pictures ≡ length (jobs_in (groups_of s frames))
unfolding coded_all
pictures_are s frames =
    let all : (coded_all s frames).pictures ≡ 0 + length (jobs_in (groups_of s frames)) = pictures_in_groups s (groups_of s frames) (at_start s) in
    omega (arith, all)

module _ (s : Settings) (frames : List (List ℕ)) (passes : Passes s) (some : 1 ≤ length frames) (few : length frames ≤ 999999) where
  sent_most : AtMost most_bits (bits_of_sent (Sent s frames))
  sent_most =
      let buffer = (bounds s passes).size.buffer in
      at_most_more (buffer_bits s) most_bits (bits_of_sent (Sent s frames)) (omega (arith, buffer))
      (removed_most (start_by s) (map removal_of (Sent s frames)) [] (Sent s frames) refl (sent_safe spelled s frames passes some few))

  small : AtMost most_bits (map bits_of_piece (pieces (Coded s frames)))
  small =
      pieces_most _ _ (pieces (Coded s frames)) (bits_are spelled s frames passes some few)
      (groups_take s (groups_of s frames) (at_start s) (stream_follows s frames passes few)) sent_most

  -- each picture has few bytes, so a stream that isn't longer than an input may be passes no limit
  pub fits : length (Coded s frames) ≤ most_input → IsUnderLimits (Coded s frames)
  fits long = under_limits (Coded s frames) small long

  -- its bytes are those of its pieces
  bits_sum : 8 * length (Coded s frames) ≡ sum (map bits_of_piece (pieces (Coded s frames)))
  bits_sum =
      let text = (coded_all s frames).text in
      let total = total_is spelled s frames passes some few in
      let behind = length-append text (start_code 0xB7) in
      let whole = bits_are_bytes (pieces (Coded s frames)) in
      let edge : IsEdge (text ⧺ start_code 0xB7) = omega (arith, total, behind, code_length, whole) in
      omega (arith, bytes_by (text ⧺ start_code 0xB7) edge, total, behind, code_length)

  pub length_most : length (Coded s frames) ≤ 2097152 * ((coded_all s frames).pictures + 1)
  length_most =
      let bits = map bits_of_piece (pieces (Coded s frames)) in
      omega (arith, bits_sum, sum_most bits small, with_last _ bits _ (bits_are spelled s frames passes some few) (pictures_counted s frames))
