-- What making a stream of a seed answers, and what stands then on output.
use Rattle.std.specs.Prelude.{ℕ, ◌≡◌, List, length, false, None}
use Rattle.m2v_port.specs.Ends.{Change}
use Rattle.m2v_port.specs.Port.{Grows, GrowsByPrefix}
use Rattle.m2v_set.specs.declared.settings.Settings.{Settings}
use Rattle.m2v_set.specs.declared.settings.Scan.TheVariants.{Frames}
use Rattle.m2v_set.specs.declared.settings.Level.TheVariants.{Main}
use Rattle.m2v_set.specs.declared.settings.Planning.TheVariants.{Weights}
use Rattle.m2v_encode.specs.m2v_enc_stream.Streams.{Coded, Recon}
use Rattle.m2v_encode.specs.Answers.{numbers_of}
use Rattle.m2v_encode.specs.m2v_law_shown.Laws.{DecodesTo}
use Rattle.m2v_check.specs.m2v_model.Lawful.{Lawful}
use Rattle.m2v_check.specs.m2v_model.Buffering.{HasFigures, Safe}
use Rattle.m2v_make.specs.declared.answer.Made.{Made}
use Rattle.m2v_make.specs.declared.answer.MakeError.{MakeError}
use Rattle.m2v_make.specs.declared.answer.MakeError.TheVariants.{Write, Memory}
use Rattle.m2v_make.specs.Frames.{generated}

-- the settings
unfoldable pub make_settings : Settings
make_settings = record {
  width = 176;
  height = 144;
  rate_code = 3;
  bits = 1000;
  buffer = 15;
  delay = None;
  group = 12;
  step = 3;
  closed = false;
  scan = Frames;
  search = 7;
  aspect = 2;
  workers = 4;
  pulldown = false;
  level = Main;
  planning = Weights;
}

-- the stream of the frames of a seed
abbrev pub stream_of : ℕ → List ℕ
stream_of seed = Coded make_settings (generated seed)

-- Output has grown by the stream of the seed, and these are its numbers and the figures of its buffer. The stream decodes to
-- the reconstructions of the seed's frames and to nothing else, breaks no rule of its level, and keeps the decoder's buffer.
pub record Makes (seed : ℕ) (held : Change) (m : Made) : Type 0 where
  pub grown : Grows held.old (stream_of seed) held.new
  pub bytes : m.bytes ≡ length (stream_of seed)
  pub stuffing : m.stuffing ≡ (numbers_of make_settings (generated seed)).stuffing
  pub figures : HasFigures (stream_of seed) (record { low = m.low; high = m.high; delays = m.delays })
  pub decodes : DecodesTo (stream_of seed) (Recon make_settings (generated seed))
  pub lawful : Lawful (stream_of seed)
  pub safe : Safe (stream_of seed)

-- When each error comes, and what stands then: output has grown by a prefix of the stream. Want of memory is the one free
-- answer; the code gives it where a call for memory failed, and nowhere else.
unfoldable pub MakeStops : ℕ → Change → MakeError → Type 0
MakeStops seed held Write = held.Failed × GrowsByPrefix held.old (stream_of seed) held.new
MakeStops seed held Memory = GrowsByPrefix held.old (stream_of seed) held.new
