use Rattle.std.proofs.Common.{refl}
use Rattle.m2v_bits.specs.Bits as bitsBits
use Rattle.m2v_bits.specs.Elements as bitsElements
use Rattle.m2v_bits.specs.Leaves as bitsLeaves
use Rattle.m2v_bits.specs.Syntax as bitsSyntax
use Rattle.m2v_model.specs.m2v_macroblock.m2v_head.Elements as headElements
use Rattle.m2v_model.specs.m2v_macroblock.m2v_head.Headers as headHeaders
use Rattle.m2v_model.specs.Faults as modelFaults
use Rattle.m2v_model.specs.Headers as modelHeaders
use Rattle.m2v_model.specs.Units as modelUnits
use Rattle.m2v_audit.specs.Front as front
use Rattle.m2v_audit.specs.WorkedPiece as worked
use Rattle.m2v_audit.proofs.front_laws.law_front_worked.Goals as goal

pub returns : goal.returns
unfolding bitsBits.bits_of bitsBits.number bitsBits.all_zero bitsElements.flag_at bitsLeaves.bits_at bitsLeaves.end_at bitsSyntax.bind bitsSyntax.done bitsSyntax.seq bitsSyntax.here bitsSyntax.rule bitsSyntax.renamed headElements.marker_at headHeaders.group_at modelFaults.of_head modelHeaders.whole_header modelHeaders.group_in modelUnits.cut front.group_at front.header_at front.headers_from worked.sequence_units worked.group_unit worked.unread_unit worked.picture_unit
returns c = record { told = refl; unread = refl }
