-- The verdict on the encoder's stream.
use Rattle.std.proofs.Common.{◌≡◌, ℕ, ◌≤◌, false, List, [], ◌∷◌, length, map, get_or, refl, ap, arith}
use Rattle.std.specs.Prelude.{sum}
use Rattle.std.proofs.lemmas.Bool.{ne_eqb}
use Rattle.m2v_set.specs.declared.settings.Settings.{Settings}
use Rattle.m2v_set.specs.Rules.{Passes}
use Rattle.m2v_vbv.specs.Annex.{Start}
use Rattle.m2v_encode.specs.m2v_enc_stream.Streams.{Coded}
use Rattle.m2v_check.specs.m2v_model.Pieces.{pieces}
use Rattle.m2v_check.specs.m2v_model.Decoding.{Stream, pictures, frames_of}
use Rattle.m2v_check.specs.m2v_model.Lawful.{Numbered, is_variable}
use Rattle.m2v_check.specs.m2v_model.Buffering.{figures_in}
use Rattle.m2v_encode.specs.m2v_enc_stream.Sent.{SentPicture, Sent, AreExact}
use Rattle.m2v_encode.proofs.m2v_enc_stream.Exact.{stream_exact}
use Rattle.m2v_encode.specs.m2v_enc_stream.Trees.{tree_of}
use Rattle.m2v_encode.proofs.m2v_enc_stream.TreeStreams.{stream_stands}
use Rattle.m2v_encode.proofs.m2v_law_shown.Decodes.{spelled}
use Rattle.m2v_encode.specs.m2v_law_shown.Told.{number_delay, numbers_of}
use Rattle.m2v_encode.proofs.m2v_law_shown.Account.{tells_numbers}
use Rattle.m2v_encode.proofs.m2v_law_shown.Headline.{headline}
use Rattle.m2v_check.specs.declared.verdict.Figures.{Figures}
use Rattle.m2v_check.specs.Meaning.{IsLawful}

-- the first delay isn't the one that says that the rate is variable
is_constant : (start : Start) (ns : List Numbered) (xs : List SentPicture) → map number_delay ns ≡ map (λ (x : SentPicture). x.delay) xs → AreExact start [] xs → is_variable ns ≡ false
is_constant start [] xs e exact = refl
is_constant start (n ∷ ns) [] e exact = absurd cc
is_constant start (n ∷ ns) (x ∷ xs) e exact =
    let is : number_delay n ≡ x.delay = ap (λ (ds : List ℕ). get_or ds 0 0) e in
    let small = exact.0.1 in
    ne_eqb (number_delay n) 65535 (λ all. omega (arith, all, is, small))

module _ (s : Settings) (frames : List (List ℕ)) (passes : Passes s) (some : 1 ≤ length frames) (few : length frames ≤ 999999) where
  stands : Stream (Coded s frames) (tree_of s frames)
  stands = stream_stands spelled s frames passes some few

  -- the figures of the stream
  abbrev figures : Figures
  figures =
      let buffer = figures_in (Coded s frames) (tree_of s frames) in
      record {
        frames = length (frames_of (tree_of s frames));
        pictures = length (pictures (tree_of s frames));
        bytes = sum (map length (pieces (Coded s frames)));
        low = buffer.low;
        high = buffer.high;
        delays = buffer.delays;
      }

  pub judged : (f : Figures) × IsLawful (Coded s frames) f
  judged =
      let h = headline s frames passes some few in
      let constant = is_constant _ (numbers_of s frames) (Sent s frames) (tells_numbers s frames passes some few).delays (stream_exact s frames passes few) in (
        figures,
        record {
          lawful = h.lawful;
          constant = record { tree = tree_of s frames; stream = stands; rate = constant };
          safe = h.safe;
          counts = record { tree = tree_of s frames; stream = stands; frames = refl; pictures = refl; bytes = refl };
          buffer = record { tree = tree_of s frames; stream = stands; figures = refl };
        },
      )
