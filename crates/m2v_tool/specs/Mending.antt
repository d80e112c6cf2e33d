-- What `mend` does: its words, which outcome comes, what stands in input, output and recon then, and what is answered to a
-- text. Where its words name a file, recon gets the list of what was left out.
use Rattle.std.specs.Prelude.{◌≡◌, ℕ, List, [], ◌∷◌, ◌++◌, Option, Some, None, codes, option_map, string_bytes}
use Rattle.clap.specs.Walk.{Text, first_of}
use Rattle.clap.specs.Simple.{App}
use Rattle.m2v_port.specs.Ends.{Tells}
use Rattle.m2v_port.specs.Port.{Grows, GrowsByPrefix}
use Rattle.m2v_port.specs.declared.error.PortError.{PortError}
use Rattle.m2v_model.specs.Pieces.{Limit}
use Rattle.m2v_cut.specs.m2v_decode.Answers.{OfText}
use Rattle.m2v_cut.specs.m2v_decode.FaultWords.{fault_word}
use Rattle.m2v_mend.specs.declared.answer.Answer.{Answer}
use Rattle.m2v_mend.specs.declared.answer.MendError.{MendError}
use Rattle.m2v_mend.specs.Answers.{mend_limit, answer_told, mended_bytes, IsMended, Fails}
use Rattle.m2v_mend.specs.Listing.{list_of}
use Rattle.m2v_mend.specs.m2v_law_seam.Spans.{steps}
use Rattle.m2v_mend.specs.m2v_law_seam.Told as told
use Rattle.m2v_mend.specs.m2v_law_seam.Told.{all_kept, some_kept, none_kept, status_of, answer_to}
use Rattle.m2v_mend.specs.m2v_law_seam.Mends.{MendDecodes, MendSame, MendTwice, LeftOut, AllTold, AllThere, FramesTold, PicturesKept, AnswerTells}
use Rattle.m2v_tool.specs.declared.mend.MendWords.{MendWords}
use Rattle.m2v_tool.specs.declared.mend.MendOutcome.{MendOutcome}
use Rattle.m2v_tool.specs.declared.mend.MendOutcome.TheVariants.{Mended, Unopened, Stopped}
use Rattle.m2v_tool.specs.Simple.{simple, text_option, taken}
use Rattle.m2v_tool.specs.Endings.{Ending, with_figures, Told, Success, numbered, unopened_ending, ending_past}
use Rattle.m2v_tool.specs.Stops.{mending_stopped}
use Rattle.m2v_tool.specs.Runs.{Run, Work, work_of, Yields, NoneFailed, Succeeds}
use Rattle.m2v_tool.specs.Places.{recon_by, Stands, Shut}

-- ---- words

-- the options behind `mend`: the name of the file for the list
abbrev pub mend_app : App
mend_app = simple (codes "mend") (text_option (codes "list") ∷ [])

-- what words say: that name, where it is given
abbrev pub list_named : MendWords → Option Text
list_named w = option_map string_bytes w.list

-- what the words behind `mend` mean, where `clap` takes them
unfoldable pub mend_meant : List Text → Option (Option Text)
mend_meant words = option_map (first_of (codes "list")) (taken mend_app words)

-- ---- outcomes

-- The input was read to its end; recon, where a name is given, is open under it and has grown by the list.
pub record MendRead (name : Option Text) (k : Work) (a : Answer) : Type 0 where
  pub mended : OfText k.input (λ text. IsMended text k.output (recon_by name k.recon) a)
  pub stands : Stands name k

-- Mending stopped.
pub record MendStopped (name : Option Text) (k : Work) (e : MendError) : Type 0 where
  pub stops : Fails k.input k.output (recon_by name k.recon) e
  pub stands : Stands name k

-- A name is given, and recon wasn't opened.
pub record MendShut (name : Option Text) (k : Work) (e : PortError) : Type 0 where
  pub named : (name ≡ None) → ⊥
  pub shut : Shut e k

-- When each outcome of `mend` comes, by the name for the list, and what stands then.
unfoldable pub MendComes : Option Text → Work → MendOutcome → Type 0
MendComes name k (Mended a) = MendRead name k a
MendComes name k (Unopened e) = MendShut name k e
MendComes name k (Stopped e) = MendStopped name k e

-- ---- statuses and lines

-- of an answer: no picture was left out, some were, or nothing was kept
unfoldable pub told_ending : told.Answer → Ending
told_ending (all_kept groups pictures bytes) = with_figures 0
    ((codes "groups ", groups) ∷ (codes " pictures ", pictures) ∷ (codes " bytes ", bytes) ∷ [])
told_ending (some_kept groups of_groups pictures of_pictures bytes) = with_figures 18
    ((codes "groups ", groups) ∷ (codes " of ", of_groups) ∷ (codes " pictures ", pictures)
    ∷ (codes " of ", of_pictures) ∷ (codes " bytes ", bytes) ∷ [])
told_ending (none_kept fault) =
    numbered 19 ((codes "nothing kept stream " ++ fault_word fault.0) ++ codes " at bit ") fault.1

abbrev pub mended_ending : Answer → Ending
mended_ending a = told_ending (answer_told a)

-- of each outcome
unfoldable pub mend_ending : MendOutcome → Ending
mend_ending (Mended a) = mended_ending a
mend_ending (Unopened e) = unopened_ending e
mend_ending (Stopped e) = mending_stopped e

-- ---- answers

-- What `mend` answers to a text, by the name for the list: the mended text is on output and its list in recon, and the status
-- and the line are those of its answer; or the text passes a limit, and a prefix of the mended text is on output and one of the
-- list in recon. In its place may come 8 where a name is given and the count of recon rose.
pub data MendAnswer (r : Run) (name : Option Text) (text : List ℕ) : Type 0 where
  mended : mend_limit text ≡ None → Grows r.output.old (mended_bytes text) r.output.new
      → Grows (recon_by name r.recon).old (list_of text) (recon_by name r.recon).new
      → Told (told_ending (answer_to steps text)) r.status r.report → MendAnswer r name text
  past : (l : Limit) → mend_limit text ≡ Some l → GrowsByPrefix r.output.old (mended_bytes text) r.output.new
      → GrowsByPrefix (recon_by name r.recon).old (list_of text) (recon_by name r.recon).new
      → Told (ending_past l) r.status r.report → MendAnswer r name text
  recon : (recon_by name r.recon).Failed → r.status ≡ 8 → MendAnswer r name text

-- An input was mended, and no picture of it was left out.
pub record MendDone (name : Option Text) (k : Work) (a : Answer) : Type 0 where
  pub read : MendRead name k a
  pub all : status_of (answer_told a) ≡ 0

-- What is answered to `mend`, by the name for the list, and what holds of it. With status 0 no picture was left out; every text
-- has its one answer; and one of which no picture is left out succeeds, unless it passes a limit. The mended text is a stream
-- without a fault, and shows what its strands show, each decoded by itself; a stream without a fault stays as it is, and so does
-- what was mended; what is left out reads neither behind the strand under way nor by itself; each unit and each picture of the
-- input is kept or told as left out, with its place, and the numbers of the answer are theirs.
pub record MendKeeps (name : Option Text) (r : Run) : Type 0 where
  pub done : r.status ≡ 0 → Success (MendDone name (work_of r)) mended_ending r.report
  pub answer : Tells r.input (λ text. Yields r (MendAnswer r name text))
  pub mended : Tells r.input (λ text. mend_limit text ≡ None → status_of (answer_to steps text) ≡ 0
      → NoneFailed r → ((recon_by name r.recon).Failed → ⊥) → Succeeds r)
  pub decodes : Tells r.input (MendDecodes steps)
  pub same : Tells r.input (MendSame steps)
  pub twice : Tells r.input (MendTwice steps)
  pub left_out : Tells r.input (LeftOut steps)
  pub all_told : Tells r.input (AllTold steps)
  pub all_there : Tells r.input (AllThere steps)
  pub frames_told : Tells r.input (FramesTold steps)
  pub pictures_kept : Tells r.input (PicturesKept steps)
  pub numbers : Tells r.input (AnswerTells steps)
