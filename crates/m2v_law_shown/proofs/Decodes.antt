-- The encoder's stream decodes to its reconstructions.
use Rattle.std.proofs.Common.{ℕ, ◌≤◌, List, length, sym}
use Rattle.m2v_set.specs.declared.settings.Settings.{Settings}
use Rattle.m2v_set.specs.Rules.{Passes}
use Rattle.m2v_enc_stream.specs.Streams.{Coded, Recon}
use Rattle.m2v_model.specs.Decoding.{Decodes}
use Rattle.m2v_model.proofs.Unique.{exactly_one}
use Rattle.m2v_enc_stream.proofs.CalmSlices.{slice_calm}
use Rattle.m2v_enc_stream.proofs.Slices.{slice_stands, none_large}
use Rattle.m2v_enc_stream.specs.Trees.{tree_of}
use Rattle.m2v_enc_stream.proofs.SliceUnits.{Spelled}
use Rattle.m2v_enc_stream.proofs.TreeStreams.{stream_stands}
use Rattle.m2v_law_shown.specs.Laws.{DecodesTo}
use Rattle.m2v_law_shown.proofs.Streams.{shown_is}

-- what a text decodes to, it decodes to alone
pub decoded_to : (text : List ℕ) (frames : List (List ℕ)) → Decodes text frames → DecodesTo text frames
decoded_to text frames d = record {
  decodes = d;
  only = λ shown e. (exactly_one text).one_decoding shown frames e d;
  sound = λ place kind f. (exactly_one text).not_both frames place kind d f;
}

pub spelled : Spelled
spelled = record {
  calm = λ t slice. slice_calm t slice;
  reads = λ t references zeros slice decoded. slice_stands t references zeros slice decoded;
  large = λ t slice. none_large t slice;
}

pub decodes_to : (s : Settings) (frames : List (List ℕ)) → Passes s → 1 ≤ length frames → length frames ≤ 999999 → DecodesTo (Coded s frames) (Recon s frames)
decodes_to s frames passes some few = decoded_to (Coded s frames) (Recon s frames) (record {
  tree = tree_of s frames;
  stream = stream_stands spelled s frames passes some few;
  shown = sym (shown_is s frames passes some few);
})
