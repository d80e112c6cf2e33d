-- What contracts see of a reader, and what a piece does to it: what it does to each decoder that has come as far.
use Rattle.std.specs.Prelude.{◌≡◌, ℕ, ◌+◌, Bool, false, List, length, option_to_list, None}
use Rattle.m2v_model.specs.declared.notes.Notes.{Notes}
use Rattle.m2v_model.specs.declared.state.State.{State}
use Rattle.m2v_model.specs.States.{at_first}
use Rattle.m2v_decode.specs.declared.pass.Pass.{Pass}
use Rattle.m2v_decode.specs.Decoding.{Decoding, Advanced}

-- the headers in force between two pieces; how many pictures were read, how many of them dropped, and how many frames the
-- others make; whether the end has come, and whether no piece may be read any more, since one was refused
pub record Reading : Type 0 where
  pub state : State
  pub pictures : ℕ
  pub dropped : ℕ
  pub frames : ℕ
  pub ended : Bool
  pub failed : Bool

-- what contracts see of a reader
abbrev pub read_by : Pass → Bool → Bool → Reading
read_by c ended failed = record { state = c.state; pictures = c.pictures; dropped = c.dropped; frames = c.frames; ended = ended; failed = failed }

-- before the first piece
abbrev pub nothing_read : Reading
nothing_read = record { state = at_first; pictures = 0; dropped = 0; frames = 0; ended = false; failed = false }

-- A decoder that has come as far, whatever frames it has at hand: its headers and counts are the reader's, and each frame
-- was handed out, is due or waits to be shown.
pub record Follows (r : Reading) (d : Decoding) : Type 0 where
  pub state : d.state ≡ r.state
  pub pictures : d.pictures ≡ r.pictures
  pub dropped : d.dropped ≡ r.dropped
  pub frames : d.shown + (length d.ready + length (option_to_list d.anchor)) ≡ r.frames
  pub ended : d.ended ≡ r.ended
  pub failed : d.failed ≡ r.failed
  pub reading : d.frames.reading ≡ None

-- a piece that begins at a byte leads a decoder on as it leads the reader on, with the same notes
pub record LeadsOn (d : Decoding) (place : ℕ) (whole : List ℕ) (notes : Notes) (r : Reading) : Type 0 where
  pub behind : Decoding
  pub advanced : Advanced d place whole notes behind
  pub follows : Follows r behind
