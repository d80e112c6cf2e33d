-- What is told of a sequence header, a group header and a picture, as records.
use Rattle.std.specs.Prelude.{ℕ, ◌-◌, ◌*◌, Bool, true, not, nat_eq, if◌then◌else◌, Option, Some, None}
use Rattle.m2v_model.specs.m2v_macroblock.m2v_head.declared.group.GroupInfo.{GroupInfo}
use Rattle.m2v_model.specs.declared.state.Sequence.{Sequence}
use Rattle.m2v_model.specs.declared.notes.PictureNote.{PictureNote}
use Rattle.m2v_model.specs.States.{width_of, height_of}
use Rattle.m2v_model.specs.Lawful.{rate_of, buffer_of}
use Rattle.m2v_strict.specs.m2v_check.declared.coded.CodedPicture.{CodedPicture}
use Rattle.m2v_audit.specs.declared.places.Waiting.{Waiting}
use Rattle.m2v_audit.specs.declared.records.SequenceRecord.{SequenceRecord}
use Rattle.m2v_audit.specs.declared.records.GroupRecord.{GroupRecord}
use Rattle.m2v_audit.specs.declared.records.PictureRecord.{PictureRecord}
use Rattle.m2v_audit.specs.declared.report.Rate.{Rate}
use Rattle.m2v_audit.specs.declared.words.PictureType.{PictureType}
use Rattle.m2v_audit.specs.declared.words.PictureType.TheVariants as types
use Rattle.m2v_audit.specs.declared.words.RateKind.{RateKind}
use Rattle.m2v_audit.specs.declared.words.Structure.{Structure}
use Rattle.m2v_audit.specs.declared.words.Structure.TheVariants as structures
use Rattle.m2v_audit.specs.Times.{fields_of}

-- ---- a sequence header

-- a sequence by its first header, which stands at a bit of the input
abbrev pub sequence_record : ℕ → ℕ → Sequence → RateKind → SequenceRecord
sequence_record number bit s rate = record {
  sequence = number;
  bit = bit;
  width = width_of s;
  height = height_of s;
  frame_rate_code = s.info.frame_rate_code;
  aspect = s.info.aspect;
  profile_and_level = s.extension.profile_and_level;
  progressive = s.extension.progressive_sequence;
  low_delay = s.extension.low_delay;
  bit_rate = rate_of s;
  vbv_buffer_size = buffer_of s;
  rate = rate;
}

-- the first vbv_delay doesn't say that the rate is variable (clause 6.3.9); without a picture the rate counts as constant
abbrev pub is_constant : Option PictureNote → Bool
is_constant None = true
is_constant (Some n) = not (nat_eq n.info.vbv_delay 65535)

-- how the buffer is filled, by the first header and the first picture
abbrev pub rate_with : Sequence → Option PictureNote → Rate
rate_with s n = record { constant = is_constant n; low_delay = s.extension.low_delay; size = 1800 * (16384 * buffer_of s) }

-- ---- a group header

abbrev pub group_record : ℕ → ℕ → ℕ → ℕ → GroupInfo → GroupRecord
group_record number group bit picture g = record {
  sequence = number;
  group = group;
  bit = bit;
  picture = picture;
  drop_frame = g.drop;
  hours = g.hours;
  minutes = g.minutes;
  seconds = g.seconds;
  pictures = g.pictures;
  closed = g.closed_gop;
  broken = g.broken_link;
}

-- ---- a picture

-- where its start code begins
abbrev pub bit_of : PictureNote → ℕ
bit_of n = n.code_end - 32

abbrev pub type_of : ℕ → PictureType
type_of kind = if nat_eq kind 1 then types.I else if nat_eq kind 2 then types.P else types.B

abbrev pub structure_of : ℕ → Structure
structure_of structure = if nat_eq structure 1 then structures.Top else if nat_eq structure 2 then structures.Bottom else structures.Frame

-- what is told of a picture whose piece has so many bytes, of which so many zero bytes end it
abbrev pub picture_record : ℕ → CodedPicture → ℕ → ℕ → PictureRecord
picture_record number p bytes zeros = record {
  sequence = number;
  picture = p.number;
  bit = bit_of p.note;
  kind = type_of p.note.info.kind;
  structure = structure_of p.note.extension.structure;
  temporal_reference = p.note.info.temporal_reference;
  bits = 8 * bytes;
  zeros = 8 * zeros;
  vbv_delay = p.note.info.vbv_delay;
  fields = fields_of p.sequence p.note;
  dropped = p.note.dropped;
}

-- a picture whose place in its group isn't known yet
abbrev pub waiting_of : CodedPicture → Waiting
waiting_of p = record { number = p.number; bit = bit_of p.note; reference = p.note.info.temporal_reference }
