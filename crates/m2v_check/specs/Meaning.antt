-- What each verdict on a stream says (clause 8 and Annex C).
use Rattle.std.specs.Prelude.{◌≡◌, ℕ, Bool, true, false, List, length, map, sum}
use Rattle.m2v_model.specs.Pieces.{pieces}
use Rattle.m2v_model.specs.Streams.{Sofar}
use Rattle.m2v_model.specs.Decoding.{Stream, events, pictures, frames_of}
use Rattle.m2v_model.specs.Lawful.{Lawful, Broken, breach, is_variable, all_numbered}
use Rattle.m2v_model.specs.Buffering.{BufferFigures, Safe, FirstUnsafe, HasFigures}
use Rattle.m2v_vbv.specs.declared.fault.AccountFault.{AccountFault}
use Rattle.m2v_check.specs.declared.verdict.Figures.{Figures}
use Rattle.m2v_check.specs.declared.verdict.Verdict.{Verdict}
use Rattle.m2v_check.specs.declared.verdict.Verdict.TheVariants as verdicts

-- the text is a stream without a fault, of so many frames and pictures, and of so many bytes from its first sequence header
-- to its end code or its end
pub record HasCounts (text : List ℕ) (f : Figures) : Type 0 where
  pub tree : Sofar
  pub stream : Stream text tree
  pub frames : f.frames ≡ length (frames_of tree)
  pub pictures : f.pictures ≡ length (pictures tree)
  pub bytes : f.bytes ≡ sum (map length (pieces text))

-- the text is a stream without a fault, whose first vbv_delay says that its rate is variable, or doesn't
pub record HasRate (text : List ℕ) (variable : Bool) : Type 0 where
  pub tree : Sofar
  pub stream : Stream text tree
  pub rate : is_variable (all_numbered (events tree)) ≡ variable

-- the figures of the buffer
abbrev pub buffer_figures : Figures → BufferFigures
buffer_figures f = record { low = f.low; high = f.high; delays = f.delays }

-- No rule is broken, the rate is constant and the buffer bears the stream.
pub record IsLawful (text : List ℕ) (f : Figures) : Type 0 where
  pub lawful : Lawful text
  pub constant : HasRate text false
  pub safe : Safe text
  pub counts : HasCounts text f
  pub buffer : HasFigures text (buffer_figures f)

-- No rule is broken, and the rate is variable: nothing is told of the buffer.
pub record IsVariable (text : List ℕ) (f : Figures) : Type 0 where
  pub lawful : Lawful text
  pub variable : HasRate text true
  pub counts : HasCounts text f
  pub none : buffer_figures f ≡ record { low = 0; high = 0; delays = 0 }

-- No rule is broken, the rate is constant, and so the account fails first.
pub record IsUnsafe (text : List ℕ) (fault : AccountFault) : Type 0 where
  pub lawful : Lawful text
  pub constant : HasRate text false
  pub unsafe : FirstUnsafe text fault

-- what a verdict says of a text
abbrev pub Means : List ℕ → Verdict → Type 0
Means text (verdicts.Lawful f) = IsLawful text f
Means text (verdicts.Variable f) = IsVariable text f
Means text (verdicts.Unlawful rule picture have need) = Broken text (breach rule picture have need)
Means text (verdicts.Buffer fault) = IsUnsafe text fault
