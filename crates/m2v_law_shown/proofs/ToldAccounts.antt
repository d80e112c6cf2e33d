-- The account that a verifier makes of the stream is that of the pictures as they are sent.
use Rattle.std.proofs.Common.{◌≡◌, ℕ, ◌+◌, ◌*◌, ◌≤◌, false, List, [], ◌∷◌, length, map, sum, refl, sym, ap, subst, ◌∙◌, arith, Some}
use Rattle.std.proofs.lemmas.List.{length-append}
use Rattle.std.proofs.lemmas.Nat.{div-add-mod'}
use Rattle.m2v_bits.specs.Bits.{bits_of, start_code, ◌⧺◌}
use Rattle.m2v_set.specs.declared.settings.Settings.{Settings}
use Rattle.m2v_set.specs.Rules.{Passes}
use Rattle.m2v_vbv.specs.Annex.{Start, Removal, removed, Safe}
use Rattle.m2v_rate.specs.Plans.{start_of}
use Rattle.m2v_slice.specs.Headers.{sequence_of, sequence_extension_of}
use Rattle.m2v_enc_stream.specs.Streams.{Coded, coded_all, at_start}
use Rattle.m2v_model.specs.Pieces.{pieces}
use Rattle.m2v_model.specs.Lawful.{Numbered, rate_of, buffer_of}
use Rattle.m2v_model.specs.Buffering.{StreamAccount, intervals, sizes, bits_of_piece, joined_removals, removals, unsafe_in}
use Rattle.m2v_model.proofs.VerdictLaws.{judged_by_all}
use Rattle.m2v_enc_stream.specs.Sent.{SentPicture, Sent, removal_of}
use Rattle.m2v_enc_stream.proofs.Begins.{stream_begins}
use Rattle.m2v_enc_stream.proofs.Units.{stream_units}
use Rattle.m2v_enc_stream.proofs.Flat.{stream_sent}
use Rattle.m2v_enc_stream.proofs.Streams.{stream_bits}
use Rattle.m2v_enc_stream.proofs.Groups.{all_coded}
use Rattle.m2v_enc_stream.specs.Removals.{Seen}
use Rattle.m2v_rate.proofs.Streams.{stream_safe}
use Rattle.m2v_enc_stream.specs.Trees.{sequence_by, groups_of}
use Rattle.m2v_enc_stream.proofs.SliceUnits.{Spelled}
use Rattle.m2v_enc_stream.proofs.Follows.{stream_follows}
use Rattle.m2v_law_shown.specs.Accounts.{AreTold, account_told}
use Rattle.m2v_law_shown.proofs.Accounts.{taken_is, total_is, first_is}
use Rattle.m2v_law_shown.proofs.Ends.{groups_end}
use Rattle.m2v_law_shown.proofs.SentPictures.{bits_of_sent, groups_take}

-- ---- the sequence header

rate_is : (s : Settings) → rate_of (sequence_by s) ≡ s.bits
unfolding sequence_of sequence_extension_of
rate_is s = div-add-mod' s.bits 262144

buffer_is : (s : Settings) → buffer_of (sequence_by s) ≡ s.buffer
unfolding sequence_of sequence_extension_of
buffer_is s = div-add-mod' s.buffer 1024

frame_rate_is : (s : Settings) → (sequence_by s).info.frame_rate_code ≡ s.rate_code
unfolding sequence_of
frame_rate_is s = refl

-- ---- removals

joined_sent : (xs : List SentPicture) → joined_removals (bits_of_sent xs) (map (λ (x : SentPicture). x.units) xs) ≡ map removal_of xs
unfolding joined_removals
joined_sent [] = refl
joined_sent (x ∷ xs) = ap (λ (rs : List Removal). removal_of x ∷ rs) (joined_sent xs)

-- ---- accounts

-- the account of the pictures as they are sent
abbrev pub account_sent : Settings → List (List ℕ) → StreamAccount
account_sent s frames =
    let rs = map removal_of (Sent s frames) in record { start = start_of s; total = removed rs; removals = rs }

same_start : (k l b c d e f g : ℕ) → k ≡ l → b ≡ c → d ≡ e → f ≡ g
    → (let x : Start = record { k = k; buffer_bits = 16384 * b; s = d; delay = f } in
    let y : Start = record { k = l; buffer_bits = 16384 * c; s = e; delay = g } in
    x ≡ y)
same_start k l b c d e f g h i j m = rw (h, i, j, m) refl

same_account : (a b : Start) (m n : ℕ) (rs ts : List Removal) → a ≡ b → m ≡ n → rs ≡ ts
    → (let x : StreamAccount = record { start = a; total = m; removals = rs } in
    let y : StreamAccount = record { start = b; total = n; removals = ts } in
    x ≡ y)
same_account a b m n rs ts h i j = rw (h, i, j) refl

code_length : length (start_code 0xB7) ≡ 32
unfolding bits_of
code_length = refl

module _ (law : Spelled) (s : Settings) (frames : List (List ℕ)) (passes : Passes s) (some : 1 ≤ length frames) (few : length frames ≤ 999999) where
  pub sent_safe : Safe (start_of s) (map removal_of (Sent s frames))
  sent_safe = subst (Safe (start_of s)) (stream_sent s frames passes few) (stream_safe s (Seen s frames) passes (all_coded s frames passes few))

  total_sent : sum (map bits_of_piece (pieces (Coded s frames))) ≡ removed (map removal_of (Sent s frames))
  total_sent =
      let sent = stream_bits s frames passes some few ∙ ap (λ (rs : List Removal). removed rs) (stream_sent s frames passes few) in
      let total : length (coded_all s frames).text + 32 ≡ length ((coded_all s frames).text ⧺ start_code 0xB7) =
      omega (arith, length-append (coded_all s frames).text (start_code 0xB7), code_length) in
      total_is law s frames passes some few ∙ total ∙ sent

  pub sizes_sent : (ns : List Numbered) → AreTold s frames ns → sizes (length ns) (map bits_of_piece (pieces (Coded s frames))) ≡ bits_of_sent (Sent s frames)
  sizes_sent ns told =
      ap (λ (n : ℕ). sizes n (map bits_of_piece (pieces (Coded s frames)))) told.count
      ∙ taken_is law s frames passes some few
      ∙ sym (groups_end s (groups_of s frames) (at_start s) (stream_follows s frames passes few))
      ∙ sym (groups_take s (groups_of s frames) (at_start s) (stream_follows s frames passes few))

  removals_told : (ns : List Numbered) → AreTold s frames ns
      → removals false (sequence_by s).info.frame_rate_code (map bits_of_piece (pieces (Coded s frames))) ns ≡ map removal_of (Sent s frames)
  removals_told ns told =
      ap (λ (c : ℕ). removals false c (map bits_of_piece (pieces (Coded s frames))) ns) (frame_rate_is s)
      ∙ ap (λ (ls : List ℕ). joined_removals ls (intervals false s.rate_code false ns)) (sizes_sent ns told)
      ∙ ap (joined_removals (bits_of_sent (Sent s frames))) (told.times ∙ sym (stream_units s frames passes few))
      ∙ joined_sent (Sent s frames)

  -- there is a picture
  sent_some : bits_of_sent (Sent s frames) ≡ [] → ⊥
  sent_some e =
      let first = stream_begins s frames passes some few in
      let is : bits_of_sent (Sent s frames) ≡ first.0.bits ∷ bits_of_sent first.1 = ap bits_of_sent first.2 in
      absurd (omega (arith, ap length (sym is ∙ e)))

  pub account_is : (ns : List Numbered) → AreTold s frames ns → account_told s frames ns ≡ Some (account_sent s frames)
  unfolding sizes
  account_is [] told = absurd (sent_some (sym (sizes_sent [] told)))
  account_is (n ∷ ns) told =
      ap Some (same_account _ _ _ _ _ _
      (same_start _ _ _ _ _ _ _ _ (rate_is s) (buffer_is s) (first_is law s frames passes some few) (told.first n ns refl))
      total_sent (removals_told (n ∷ ns) told))

  pub all_safe : (ns : List Numbered) → AreTold s frames ns → unsafe_in (account_told s frames ns) ≡ []
  all_safe ns told =
      ap unsafe_in (account_is ns told) ∙ (judged_by_all (account_sent s frames)).1 sent_safe
