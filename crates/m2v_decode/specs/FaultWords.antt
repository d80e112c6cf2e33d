-- The words of the kinds of faults (see docs/BITSTREAM.md).
use Rattle.std.specs.Prelude.{ℕ, List, codes}
use Rattle.m2v_model.specs.declared.fault.FaultKind.{FaultKind}
use Rattle.m2v_model.specs.declared.fault.FaultKind.TheVariants as kinds

unfoldable pub fault_word : FaultKind → List ℕ
fault_word kinds.NoSequence = codes "NoSequence"
fault_word kinds.NotMpeg2 = codes "NotMpeg2"
fault_word kinds.Unsupported = codes "Unsupported"
fault_word kinds.Truncated = codes "Truncated"
fault_word kinds.NoCode = codes "NoCode"
fault_word kinds.BadMarker = codes "BadMarker"
fault_word kinds.Forbidden = codes "Forbidden"
fault_word kinds.SequenceChanged = codes "SequenceChanged"
fault_word kinds.SliceOrder = codes "SliceOrder"
fault_word kinds.MissingMacroblocks = codes "MissingMacroblocks"
fault_word kinds.SkipRule = codes "SkipRule"
fault_word kinds.VectorRange = codes "VectorRange"
fault_word kinds.VectorOutside = codes "VectorOutside"
fault_word kinds.Overrun = codes "Overrun"
fault_word kinds.DcRange = codes "DcRange"
fault_word kinds.MissingReference = codes "MissingReference"
fault_word kinds.FieldPair = codes "FieldPair"
