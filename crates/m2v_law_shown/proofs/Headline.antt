-- The stream of raw frames decodes to its reconstructions, is lawful, and keeps the buffer.
use Rattle.std.proofs.Common.{◌≡◌, ℕ, ◌≤◌, List, [], ◌∷◌, length, map, get_or, suc, refl, sym, ap, ◌∙◌, arith}
use Rattle.std.proofs.lemmas.List.{length-map}
use Rattle.m2v_set.specs.declared.settings.Settings.{Settings}
use Rattle.m2v_set.specs.Numbers.{delay_of}
use Rattle.m2v_set.specs.Rules.{Passes}
use Rattle.m2v_slice.specs.Headers.{sequence_extension_of}
use Rattle.m2v_enc_stream.specs.Streams.{Coded, coded_all, at_start}
use Rattle.m2v_model.specs.Pieces.{pieces}
use Rattle.m2v_model.specs.Decoding.{low_delay_of}
use Rattle.m2v_model.specs.Lawful.{Numbered}
use Rattle.m2v_model.specs.Buffering.{account_by, account_in, unsafe_in}
use Rattle.m2v_enc_stream.specs.Sent.{SentPicture, Sent}
use Rattle.m2v_enc_stream.proofs.Workers.{coded_same, recon_same}
use Rattle.m2v_enc_stream.proofs.Begins.{stream_begins}
use Rattle.m2v_enc_stream.specs.Trees.{groups_of, tree_of}
use Rattle.m2v_enc_stream.proofs.Follows.{stream_follows}
use Rattle.m2v_enc_stream.proofs.TreeStreams.{stream_stands}
use Rattle.m2v_law_shown.proofs.Decodes.{spelled, decodes_to}
use Rattle.m2v_law_shown.specs.Told.{number_delay, numbers_of}
use Rattle.m2v_law_shown.proofs.Streams.{stream_told}
use Rattle.m2v_law_shown.proofs.Account.{tells_numbers, stream_intervals}
use Rattle.m2v_law_shown.proofs.Lawful.{encoded_lawful}
use Rattle.m2v_law_shown.specs.Texts.{picture_bits}
use Rattle.m2v_law_shown.specs.Accounts.{AreTold, account_told, delay_in}
use Rattle.m2v_law_shown.specs.Headline.{Headline}
use Rattle.m2v_law_shown.proofs.Accounts.{pictures_counted}
use Rattle.m2v_law_shown.proofs.Ends.{with_end}
use Rattle.m2v_law_shown.proofs.SentPictures.{bits_of_sent, groups_take}
use Rattle.m2v_law_shown.proofs.ToldAccounts.{all_safe}
use Rattle.m2v_law_shown.proofs.Orders.{pictures_ordered, frames_shown}

with_end_length : (xs : List ℕ) → length (with_end xs) ≡ length xs
unfolding with_end
with_end_length [] = refl
with_end_length (x ∷ []) = refl
with_end_length (x ∷ y ∷ ys) = ap suc (with_end_length (y ∷ ys))

module _ (s : Settings) (frames : List (List ℕ)) (passes : Passes s) (some : 1 ≤ length frames) (few : length frames ≤ 999999) where
  delays : map number_delay (numbers_of s frames) ≡ map (λ (x : SentPicture). x.delay) (Sent s frames)
  delays = (tells_numbers s frames passes some few).delays

  count : length (numbers_of s frames) ≡ (coded_all s frames).pictures
  count =
      let told : length (map number_delay (numbers_of s frames)) ≡ length (map (λ (x : SentPicture). x.delay) (Sent s frames)) = ap length delays in
      let taken : length (bits_of_sent (Sent s frames)) ≡ length (with_end (picture_bits s frames)) =
      ap length (groups_take s (groups_of s frames) (at_start s) (stream_follows s frames passes few)) in
      let numbers = length-map (numbers_of s frames) number_delay in
      let sent = length-map (Sent s frames) (λ (x : SentPicture). x.delay) in
      let bits = length-map (Sent s frames) (λ (x : SentPicture). x.bits) in
      let ends = with_end_length (picture_bits s frames) in
      let counted = pictures_counted s frames in
      omega (arith, told, taken, numbers, sent, bits, ends, counted)

  first : (n : Numbered) (more : List Numbered) → numbers_of s frames ≡ n ∷ more → delay_in n ≡ delay_of s
  first n more is =
      let begins = stream_begins s frames passes some few in
      let head : get_or (map number_delay (n ∷ more)) 0 0 ≡ get_or (map (λ (x : SentPicture). x.delay) (begins.0 ∷ begins.1)) 0 0 =
      ap (λ (ns : List Numbered). get_or (map number_delay ns) 0 0) (sym is)
      ∙ ap (λ (ds : List ℕ). get_or ds 0 0) delays
      ∙ ap (λ (xs : List SentPicture). get_or (map (λ (x : SentPicture). x.delay) xs) 0 0) begins.2 in
      head ∙ begins.3.delay

  pub told : AreTold s frames (numbers_of s frames)
  told = record { count = count; first = first; times = stream_intervals s frames passes some few }

  pub account_same : account_in (Coded s frames) (tree_of s frames) ≡ account_told s frames (numbers_of s frames)
  unfolding sequence_extension_of
  account_same =
      let is = (stream_told s frames passes some few).first in
      λ i. account_by (low_delay_of (is i)) (is i) (pieces (Coded s frames)) (numbers_of s frames)

  pub headline : Headline s frames
  headline = record {
    decodes = decodes_to s frames passes some few;
    lawful = encoded_lawful s frames passes some few;
    safe = record {
      tree = tree_of s frames;
      stream = stream_stands spelled s frames passes some few;
      safe = ap unsafe_in account_same ∙ all_safe spelled s frames passes some few (numbers_of s frames) told;
    };
    order = pictures_ordered s frames passes;
    count = frames_shown s frames passes;
    workers = λ n. record { stream = coded_same n s frames; shown = recon_same n s frames };
  }
