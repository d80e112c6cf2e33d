-- What `make` does: its words, which outcome comes, and what is answered.
use Rattle.std.specs.Prelude.{ℕ, ◌≡◌, ◌⊎◌, true, List, [], ◌∷◌, Option, Some, codes, option_map, option_and_then, unwrap_or}
use Rattle.clap.specs.Walk.{Row, Rule, Text, one_of}
use Rattle.clap.specs.Simple.{App, new_rule}
use Rattle.clap.specs.declared.builder.value_parser.ValueParser.{ValueParser}
use Rattle.clap.specs.declared.builder.value_parser.ValueParser.TheVariants as parsers
use Rattle.m2v_port.specs.Ends.{Change}
use Rattle.m2v_make.specs.declared.answer.Made.{Made}
use Rattle.m2v_make.specs.Making.{Makes, MakeStops}
use Rattle.m2v_tool.specs.declared.make.MakeOutcome.{MakeOutcome}
use Rattle.m2v_tool.specs.declared.make.MakeOutcome.TheVariants.{Done, Stopped}
use Rattle.m2v_tool.specs.Simple.{simple, taken, unsigned}
use Rattle.m2v_tool.specs.Endings.{Ending, with_figures, Success}
use Rattle.m2v_tool.specs.Stops.{making_stopped}
use Rattle.m2v_tool.specs.Runs.{Run, Succeeds}

-- ---- words

-- numbers that fit 64 bits
abbrev pub u64_parser : ValueParser
u64_parser = parsers.Unsigned 0 18446744073709551615

-- the word behind `make`: a seed
abbrev pub seed_word : Rule
seed_word = record (new_rule (codes "SEED")) { parser = Some u64_parser; required = true }

abbrev pub make_app : App
make_app = simple (codes "make") (seed_word ∷ [])

-- the seed that was given: `clap` takes no words without it
unfoldable pub seed_in : List Row → ℕ
seed_in rows = unwrap_or (option_and_then (unsigned 18446744073709551615) (one_of (codes "SEED") rows)) 0

-- what the words behind `make` mean, where `clap` takes them
unfoldable pub make_meant : List Text → Option ℕ
make_meant words = option_map seed_in (taken make_app words)

-- ---- outcomes

-- When each outcome of `make` comes, and what stands then.
unfoldable pub MakeComes : ℕ → Change → MakeOutcome → Type 0
MakeComes seed held (Done own made) = (own ≡ seed) × Makes seed held made
MakeComes seed held (Stopped e) = MakeStops seed held e

-- ---- statuses and lines

-- of a stream with these numbers
unfoldable pub made_ending : ℕ → Made → Ending
made_ending seed m = with_figures 0
    ((codes "make seed ", seed) ∷ (codes " frames 48 bytes ", m.bytes)
    ∷ (codes " stuffing ", m.stuffing) ∷ (codes " low ", m.low) ∷ (codes " high ", m.high)
    ∷ (codes " delays ", m.delays) ∷ [])

-- of each outcome
unfoldable pub make_ending : MakeOutcome → Ending
make_ending (Done seed made) = made_ending seed made
make_ending (Stopped e) = making_stopped e

-- ---- answers

-- The status that `make` gives: success, a write fault where the count of output or report rose, or want of memory.
pub data MakeAnswer (r : Run) : Type 0 where
  ok : r.status ≡ 0 → MakeAnswer r
  write : r.output.Failed ⊎ r.report.Failed → r.status ≡ 8 → MakeAnswer r
  memory : r.status ≡ 12 → MakeAnswer r

-- What is answered to `make`: with status 0 the stream of the seed was made, which decodes to the reconstructions of the seed's
-- frames and to nothing else, breaks no rule of its level and keeps the decoder's buffer (`Makes`); one of these answers; and
-- a stream is made where neither count rose, but for want of memory.
pub record MakeKeeps (seed : ℕ) (r : Run) : Type 0 where
  pub done : r.status ≡ 0 → Success (Makes seed r.output) (made_ending seed) r.report
  pub answer : MakeAnswer r
  pub made : (r.output.Failed → ⊥) → (r.report.Failed → ⊥) → Succeeds r
