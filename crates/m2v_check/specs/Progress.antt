-- Checking under way: what the judge knows when all pieces were read, the end of the text, and the verdict that is told there.
use Rattle.std.specs.Prelude.{◌≡◌, ℕ, ◌+◌, false, List, [], ◌∷◌, Option, Some, None, length, map, sum, Result, Ok, Err}
use Rattle.m2v_port.specs.Ends.{Change, change}
use Rattle.m2v_model.specs.Pictures.{Events, pictures_in}
use Rattle.m2v_model.specs.Pieces.{pieces}
use Rattle.m2v_model.specs.Decoding.{low_delay_of}
use Rattle.m2v_model.specs.Lawful.{Numbered, all_numbered}
use Rattle.m2v_model.specs.Buffering.{BufferFigures, StreamAccount, account_by, unsafe_in, figures_of}
use Rattle.m2v_vbv.specs.declared.fault.AccountFault.{AccountFault}
use Rattle.m2v_decode.specs.Answers.{start_of}
use Rattle.m2v_model.specs.ByPieces.{at_start, pieces_read, end_read}
use Rattle.m2v_dec_piece.specs.declared.answer.DecodeError.{DecodeError}
use Rattle.m2v_dec_piece.specs.declared.answer.DecodeError.TheVariants as errors
use Rattle.m2v_dec_piece.specs.Cutting.{Cutting}
use Rattle.m2v_decode.specs.Decoding.{Decoding, between, due_of, Finished}
use Rattle.m2v_decode.specs.Reading.{Reading, Follows}
use Rattle.m2v_decode.specs.Progress.{IsDone}
use Rattle.m2v_check.specs.declared.judge.Judge.{Judge}
use Rattle.m2v_check.specs.declared.judge.Judgement.{Judgement}
use Rattle.m2v_check.specs.declared.judge.Judgement.TheVariants as judgements
use Rattle.m2v_check.specs.declared.buffer.BufferFigures.{BufferFigures as Found}
use Rattle.m2v_check.specs.Running.{no_rules, broken_in}
use Rattle.m2v_check.specs.Laws.{rules_after, Alternates, first_low_delay}
use Rattle.m2v_check.specs.Judging.{judgement_of, ended_by}
use Rattle.m2v_check.specs.declared.verdict.Verdict.{Verdict}
use Rattle.m2v_check.specs.declared.verdict.Verdict.TheVariants as verdicts

-- an output that isn't there
abbrev pub none_held : Unit {0} → Option (List ℕ)
none_held u = None

abbrev pub none_failed : Unit {0} → ℕ
none_failed u = 0

abbrev pub no_output : Change
no_output = change none_held none_failed tt tt

-- the figures that are found, as the definition lists them
abbrev pub figures_found : Found → BufferFigures
figures_found f = record { low = f.low; high = f.high; delays = f.delays }

-- what is said of an account of pieces and pictures: how it fails first, or its figures
abbrev pub IsSaid : Option StreamAccount → List (List ℕ) → List Numbered → Result Found AccountFault → Type 0
IsSaid a ps ns (Err f) = (others : List AccountFault) × (unsafe_in a ≡ f ∷ others)
IsSaid a ps ns (Ok x) = (unsafe_in a ≡ []) × (figures_found x ≡ figures_of ps ns a)

-- all pieces of the text were read and judged
pub record IsAllJudged (text : List ℕ) (d : Decoding) (j : Judge) : Type 0 where
  pub events : Events
  pub read : pieces_read at_start (start_of text) (pieces text) ≡ Ok (events, between d)
  pub rules : j.rules ≡ rules_after no_rules events
  pub alternates : Alternates false (pictures_in events)
  pub low : first_low_delay events ≡ low_delay_of d.state.first
  pub bytes : j.bytes ≡ sum (map length (pieces text))
  pub account : broken_in j.rules ≡ None
      → IsSaid (account_by (low_delay_of d.state.first) d.state.first (pieces text) (all_numbered events)) (pieces text) (all_numbered events) (ended_by j.buffer)

-- the same of the text that the source tells
abbrev pub IsJudgedText : Change → Decoding → Judge → Type 0
IsJudgedText left d j = (text rest : List ℕ) → left.old ≡ Some text → left.new ≡ Some rest → IsAllJudged text d j

-- all pieces were read and judged: by the reader as by a decoder that has come as far
pub record AreJudged (left : Change) (c : Cutting) (r : Reading) (j : Judge) : Type 0 where
  pub decoder : Decoding
  pub follows : Follows r decoder
  pub done : IsDone left no_output c decoder
  pub judged : IsJudgedText left decoder j

-- the verdict of a judgement, with what is counted of the stream
abbrev pub verdict_of : Judgement → ℕ → ℕ → ℕ → Verdict
verdict_of (judgements.Unlawful b) frames pictures bytes = verdicts.Unlawful b.rule b.picture b.have b.need
verdict_of judgements.Variable frames pictures bytes =
    verdicts.Variable (record { frames = frames; pictures = pictures; bytes = bytes; low = 0; high = 0; delays = 0 })
verdict_of (judgements.Unsafe f) frames pictures bytes = verdicts.Buffer f
verdict_of (judgements.Lawful x) frames pictures bytes =
    verdicts.Lawful (record { frames = frames; pictures = pictures; bytes = bytes; low = x.low; high = x.high; delays = x.delays })

-- what is said of the stream, where it ends here
abbrev pub said : Judge → Judgement
said j = judgement_of (broken_in j.rules) j.rules.constant (ended_by j.buffer)

-- the end of the text was read, and this is the verdict
pub record Ends (old : Decoding) (end : ℕ) (j : Judge) (v : Verdict) : Type 0 where
  pub new : Decoding
  pub finished : Finished old end new
  pub verdict : v ≡ verdict_of (said j) (old.shown + length (due_of new)) old.pictures j.bytes

-- why not
abbrev pub EndFails : Decoding → ℕ → DecodeError → Type 0
EndFails old end errors.Read = ⊥
EndFails old end errors.Write = ⊥
EndFails old end (errors.Stream f) = end_read (between old) end ≡ Err (f.kind, f.place)
EndFails old end errors.TooLong = ⊥
EndFails old end errors.PictureTooLarge = ⊥
EndFails old end errors.Memory = Unit {0}
