-- What a report counts of a stream, and its figures beside those of the verifier.
use Rattle.std.specs.Prelude.{◌≡◌, ℕ, List, length, map, sum}
use Rattle.std.specs.Option.{unwrap_or}
use Rattle.m2v_model.specs.Pieces.{pieces}
use Rattle.m2v_model.specs.Streams.{Sofar}
use Rattle.m2v_model.specs.Decoding.{pictures, frames_of}
use Rattle.m2v_audit.specs.m2v_check.declared.verdict.Figures.{Figures}
use Rattle.m2v_audit.specs.declared.asked.Asked.{Asked}
use Rattle.m2v_law_audit.specs.Sequences.{SequenceReport, sequence_report}

-- A report counts the frames that a stream shows, its pictures, and its bytes from its first sequence header to its end code
-- or its end.
pub record CountsStream (r : SequenceReport) (text : List ℕ) (tree : Sofar) : Type 0 where
  pub frames : r.kept.frames ≡ length (frames_of tree)
  pub pictures : r.kept.pictures ≡ length (pictures tree)
  pub bytes : r.kept.bytes ≡ sum (map length (pieces text))

-- the report of a text does so, whichever sequence of the input it is and wherever it stands
abbrev pub CountsAll : List ℕ → Sofar → Type 0
CountsAll text tree = (asked : Asked) (number start : ℕ) → CountsStream (sequence_report asked number start text) text tree

-- A report counts as many frames shown, pictures and bytes as the verifier, and tells its figures of the buffer: the least that
-- a picture leaves and the most that is held, in bits, rounded down, and how many delays behind the first aren't exact. Without
-- a picture all three are 0.
pub record SameFigures (r : SequenceReport) (f : Figures) : Type 0 where
  pub frames : r.kept.frames ≡ f.frames
  pub pictures : r.kept.pictures ≡ f.pictures
  pub bytes : r.kept.bytes ≡ f.bytes
  pub low : unwrap_or r.kept.report.tally.low 0 ≡ f.low
  pub high : r.kept.report.tally.high ≡ f.high
  pub delays : r.kept.report.tally.delays ≡ f.delays

-- the report of a text does so, whichever and wherever it is
abbrev pub TellsFigures : List ℕ → Figures → Type 0
TellsFigures text f = (asked : Asked) (number start : ℕ) → SameFigures (sequence_report asked number start text) f
