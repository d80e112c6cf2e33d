use Rattle.std.proofs.Common.{refl}
use Rattle.std.specs.Fmt as fmt
use Rattle.m2v_bits.specs.Bits as bitsBits
use Rattle.m2v_bits.specs.Leaves as bitsLeaves
use Rattle.m2v_bits.specs.Syntax as bitsSyntax
use Rattle.m2v_model.specs.m2v_macroblock.m2v_head.Headers as headHeaders
use Rattle.m2v_model.specs.Faults as modelFaults
use Rattle.m2v_model.specs.Headers as modelHeaders
use Rattle.m2v_model.specs.Pieces as modelPieces
use Rattle.m2v_model.specs.ByPieces as modelByPieces
use Rattle.m2v_model.specs.Streams as modelStreams
use Rattle.m2v_model.specs.Units as modelUnits
use Rattle.m2v_dec_piece.specs.Following as following
use Rattle.m2v_audit.specs.Auditing as auditing
use Rattle.m2v_audit.specs.Audited as audited
use Rattle.m2v_strict.specs.m2v_check.m2v_decode.FaultWords as faultWords
use Rattle.m2v_audit.specs.Lines as lines
use Rattle.m2v_audit.specs.WorkedTexts as worked
use Rattle.m2v_audit.proofs.texts_laws.law_texts_worked.Goals as goal

pub returns : goal.returns
unfolding fmt.digits bitsBits.bits_of bitsBits.number bitsBits.all_zero bitsLeaves.bits_at bitsLeaves.end_at bitsSyntax.bind bitsSyntax.done bitsSyntax.seq bitsSyntax.here bitsSyntax.rule bitsSyntax.choose bitsSyntax.rounds bitsSyntax.repeated bitsSyntax.renamed headHeaders.sequence_at modelFaults.of_head modelHeaders.whole_header modelHeaders.sequence_in modelUnits.cut modelUnits.unit_at modelUnits.inside modelPieces.grouped modelPieces.is_end modelPieces.phase_after modelPieces.before_sequence modelPieces.limit modelByPieces.told modelByPieces.piece_read modelStreams.no_second_field_due modelStreams.close modelStreams.sequence_unit modelStreams.onward modelStreams.known_unit modelStreams.next_unit modelStreams.unit_round modelStreams.units_from following.following auditing.stopped audited.stopping_line audited.limit_at audited.pieces_told audited.texts_told faultWords.fault_word lines.column_text worked.two_broken
returns c asked = refl
