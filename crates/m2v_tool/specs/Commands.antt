-- What the program does for all words: a line a command in each definition.
use Rattle.std.specs.Prelude.{ℕ, List}
use Rattle.m2v_tool.specs.declared.flat.FlatWords.{FlatWords}
use Rattle.m2v_tool.specs.declared.encode.EncodeWords.{EncodeWords}
use Rattle.m2v_tool.specs.declared.mend.MendWords.{MendWords}
use Rattle.m2v_y4m.specs.declared.header.Y4mHeader.{Y4mHeader}
use Rattle.m2v_audit.specs.declared.asked.Asked.{Asked}
use Rattle.m2v_tool.specs.declared.cut.CutWords.{CutWords}
use Rattle.m2v_tool.specs.declared.command.Command.{Command}
use Rattle.m2v_tool.specs.declared.command.Command.TheVariants as commands
use Rattle.m2v_tool.specs.declared.command.Outcome.{Outcome}
use Rattle.m2v_tool.specs.declared.command.Outcome.TheVariants as outcomes
use Rattle.m2v_tool.specs.Words.{Means, NoCommand}
use Rattle.m2v_tool.specs.Runs.{Run, Work, work_of, IsUntouched, RefusedBy}
use Rattle.m2v_tool.specs.Endings.{Ending, Told, usage, no_memory}
use Rattle.m2v_tool.specs.Coding.{FlatKeeps}
pub use Rattle.m2v_tool.specs.EncodeWords.{words_of}
use Rattle.m2v_tool.specs.Encoding.{EncodeKeeps}
use Rattle.m2v_tool.specs.Decoding.{DecodeKeeps}
use Rattle.m2v_tool.specs.Checking.{CheckKeeps}
use Rattle.m2v_tool.specs.Auditing.{AuditKeeps}
use Rattle.m2v_tool.specs.Mending.{MendKeeps}
pub use Rattle.m2v_tool.specs.Mending.{list_named}
use Rattle.m2v_tool.specs.Making.{MakeKeeps}
use Rattle.m2v_tool.specs.Cutting.{CutKeeps}
use Rattle.m2v_tool.specs.Y4mCoding.{Y4mKeeps}
use Rattle.m2v_tool.specs.Packing.{PackKeeps, UnpackKeeps}
-- what each command does and how each outcome is told
unfoldable pub use Rattle.m2v_tool.specs.Coding.{FlatComes, flat_ending}
unfoldable pub use Rattle.m2v_tool.specs.Encoding.{EncodeComes, encode_ending}
unfoldable pub use Rattle.m2v_tool.specs.Decoding.{DecodeComes, decode_ending}
unfoldable pub use Rattle.m2v_tool.specs.Checking.{CheckComes, check_ending}
unfoldable pub use Rattle.m2v_tool.specs.Auditing.{AuditComes, audit_ending}
unfoldable pub use Rattle.m2v_tool.specs.Mending.{MendComes, mend_ending}
unfoldable pub use Rattle.m2v_tool.specs.Making.{MakeComes, make_ending}
unfoldable pub use Rattle.m2v_tool.specs.Cutting.{CutComes, cut_ending}
unfoldable pub use Rattle.m2v_tool.specs.Y4mCoding.{Y4mComes, y4m_ending}
unfoldable pub use Rattle.m2v_tool.specs.Packing.{PackComes, pack_ending, UnpackComes, unpack_ending}

-- When each outcome comes, and what stands then: words that mean no command are refused, and else comes what their
-- command gives. Where memory ran out before the words were read, nothing else is looked at.
unfoldable pub Comes : List (List ℕ) → Work → Outcome → Type 0
Comes words k outcomes.Usage = NoCommand words × IsUntouched k
Comes words k outcomes.NoMemory = IsUntouched k
Comes words k (outcomes.Flat o) =
    (w : FlatWords) × Means words (commands.Flat w) × FlatComes w k.input k.output o
    × k.recon.Unchanged
Comes words k (outcomes.Encode o) =
    (w : EncodeWords) × Means words (commands.Encode w) × EncodeComes (words_of w) k o
Comes words k (outcomes.Decode o) =
    (workers : ℕ) × Means words (commands.Decode workers) × DecodeComes workers k.input k.output o
    × k.recon.Unchanged
Comes words k (outcomes.Check o) =
    Means words commands.Check × CheckComes k.input o × k.output.Unchanged × k.recon.Unchanged
Comes words k (outcomes.Audit o) =
    (w : Asked) × Means words (commands.Audit w) × AuditComes w k.input k.output o
    × k.recon.Unchanged
Comes words k (outcomes.Mend o) =
    (w : MendWords) × Means words (commands.Mend w) × MendComes (list_named w) k o
Comes words k (outcomes.Make o) =
    (seed : ℕ) × Means words (commands.Make seed) × MakeComes seed k.output o
    × k.input.Unchanged × k.recon.Unchanged
Comes words k (outcomes.Cut o) =
    (w : CutWords) × Means words (commands.Cut w) × CutComes w k.input k.output o
    × k.recon.Unchanged
Comes words k (outcomes.Pack o) =
    (h : Y4mHeader) × Means words (commands.Pack h) × PackComes h k.input k.output o
    × k.recon.Unchanged
Comes words k (outcomes.Unpack o) =
    Means words commands.Unpack × UnpackComes k.input k.output o × k.recon.Unchanged
Comes words k (outcomes.EncodeY4m o) =
    (w : EncodeWords) × Means words (commands.EncodeY4m w) × Y4mComes (words_of w) k o

-- the status and the line of each outcome
unfoldable pub ending_of : Outcome → Ending
ending_of outcomes.Usage = usage
ending_of outcomes.NoMemory = no_memory
ending_of (outcomes.Flat o) = flat_ending o
ending_of (outcomes.Encode o) = encode_ending o
ending_of (outcomes.Decode o) = decode_ending o
ending_of (outcomes.Check o) = check_ending o
ending_of (outcomes.Audit o) = audit_ending o
ending_of (outcomes.Mend o) = mend_ending o
ending_of (outcomes.Make o) = make_ending o
ending_of (outcomes.Cut o) = cut_ending o
ending_of (outcomes.Pack o) = pack_ending o
ending_of (outcomes.Unpack o) = unpack_ending o
ending_of (outcomes.EncodeY4m o) = y4m_ending o

-- what is answered to a command
abbrev pub Keeps : Command → Run → Type 0
Keeps (commands.Flat w) r = FlatKeeps w r
Keeps (commands.Encode w) r = EncodeKeeps (words_of w) r
Keeps (commands.Decode workers) r = DecodeKeeps workers r
Keeps commands.Check r = CheckKeeps r
Keeps (commands.Audit w) r = AuditKeeps w r
Keeps (commands.Mend w) r = MendKeeps (list_named w) r
Keeps (commands.Make seed) r = MakeKeeps seed r
Keeps (commands.Cut w) r = CutKeeps w r
Keeps (commands.Pack h) r = PackKeeps h r
Keeps commands.Unpack r = UnpackKeeps r
Keeps (commands.EncodeY4m w) r = Y4mKeeps (words_of w) r

-- the outcome that came, and what was told of it
pub record Ran (r : Run) : Type 0 where
  pub outcome : Outcome
  pub comes : Comes r.words (work_of r) outcome
  pub told : Told (ending_of outcome) r.status r.report

-- What each run keeps: which outcome came, what stands then and what was told of it; words that mean no command are
-- refused, and nothing else is looked at; and what is answered to a command.
pub record Kept (r : Run) : Type 0 where
  pub ran : Ran r
  pub refused : NoCommand r.words → RefusedBy 2 r
  pub command : (c : Command) → Means r.words c → Keeps c r
