use Rattle.m2v_slice.proofs.TextLengths.{header_length}
use Rattle.m2v_slice.proofs.laws.law_headers.Goals as goal

-- src/laws.rt:9:1
pub returns : goal.returns
returns c = header_length
