-- The account that a verifier makes of the encoder's stream, by its pieces and its pictures.
use Rattle.std.specs.Prelude.{ℕ, ◌≡◌, false, List, ◌∷◌, length, Option, Some}
use Rattle.std.specs.List.{flat_map}
use Rattle.m2v_plane.specs.Samples.{Samples}
use Rattle.m2v_set.specs.declared.settings.Settings.{Settings}
use Rattle.m2v_set.specs.Numbers.{delay_of}
use Rattle.m2v_order.specs.Groups.{Group}
use Rattle.m2v_order.specs.Times.{intervals_of}
use Rattle.m2v_enc_stream.specs.Streams.{Coded, coded_all}
use Rattle.m2v_model.specs.Pieces.{pieces}
use Rattle.m2v_model.specs.Lawful.{Numbered}
use Rattle.m2v_model.specs.Buffering.{StreamAccount, intervals, account_by}
use Rattle.m2v_enc_stream.specs.Trees.{sequence_by, groups_of}

-- the vbv_delay in the header of a picture
abbrev pub delay_in : Numbered → ℕ
delay_in n = n.picture.info.vbv_delay

-- What the account takes of the pictures of the stream of raw frames: how many they are, the delay of the first one, which is
-- that of the settings, and the times behind them, which are those of the groups.
pub record AreTold (s : Settings) (frames : List (List ℕ)) (ns : List Numbered) : Type 0 where
  pub count : length ns ≡ (coded_all s frames).pictures
  pub first : (n : Numbered) (more : List Numbered) → ns ≡ n ∷ more → delay_in n ≡ delay_of s
  pub times : intervals false s.rate_code false ns ≡ flat_map (λ (g : Group Samples). intervals_of s g.before g.pictures) (groups_of s frames)

-- the account of the stream of raw frames with these pictures: its sequence header is that of the settings, and low_delay
-- isn't set there
abbrev pub account_told : Settings → List (List ℕ) → List Numbered → Option StreamAccount
account_told s frames ns = account_by false (Some (sequence_by s)) (pieces (Coded s frames)) ns
