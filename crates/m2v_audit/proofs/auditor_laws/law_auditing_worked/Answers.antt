use Rattle.std.proofs.Common.{refl}
use Rattle.std.specs.Fmt as fmt
use Rattle.m2v_bits.specs.Bits as bitsBits
use Rattle.m2v_bits.specs.Elements as bitsElements
use Rattle.m2v_bits.specs.Leaves as bitsLeaves
use Rattle.m2v_bits.specs.Syntax as bitsSyntax
use Rattle.m2v_set.specs.Numbers as numbers
use Rattle.m2v_model.specs.m2v_macroblock.m2v_head.Elements as headElements
use Rattle.m2v_model.specs.m2v_macroblock.m2v_head.Headers as headHeaders
use Rattle.m2v_model.specs.Faults as modelFaults
use Rattle.m2v_model.specs.Headers as modelHeaders
use Rattle.m2v_model.specs.Lawful as lawful
use Rattle.m2v_model.specs.Pieces as modelPieces
use Rattle.m2v_model.specs.Units as modelUnits
use Rattle.m2v_vbv.specs.Buffer as buffer
use Rattle.m2v_strict.specs.Elements as strictElements
use Rattle.m2v_strict.specs.SequenceRules as sequenceRules
use Rattle.m2v_strict.specs.GroupRules as groupRules
use Rattle.m2v_strict.specs.PictureRules as pictureRules
use Rattle.m2v_strict.specs.OrderRules as orderRules
use Rattle.m2v_strict.specs.TimeRules as timeRules
use Rattle.m2v_strict.specs.ParityRules as parityRules
use Rattle.m2v_strict.specs.ArrivalRules as arrivalRules
use Rattle.m2v_strict.specs.OtherRules as otherRules
use Rattle.m2v_strict.specs.DvdRules as dvdRules
use Rattle.m2v_strict.specs.SetRules as setRules
use Rattle.m2v_audit.specs.Account as account
use Rattle.m2v_audit.specs.Auditing as auditing
use Rattle.m2v_audit.specs.Findings as findings
use Rattle.m2v_audit.specs.Front as front
use Rattle.m2v_audit.specs.Others as others
use Rattle.m2v_audit.specs.Lines as lines
use Rattle.m2v_audit.specs.Report as report
use Rattle.m2v_audit.specs.WorkedPiece as worked
use Rattle.m2v_audit.proofs.auditor_laws.law_auditing_worked.Goals as goal

pub returns : goal.returns
unfolding fmt.digits bitsBits.bits_of bitsBits.number bitsBits.all_zero bitsElements.flag_at bitsLeaves.bits_at bitsLeaves.end_at bitsSyntax.bind bitsSyntax.done bitsSyntax.seq bitsSyntax.here bitsSyntax.rule bitsSyntax.renamed headElements.marker_at headHeaders.group_at numbers.field_units numbers.field_time numbers.limits_of modelFaults.of_head modelHeaders.whole_header modelHeaders.group_in modelPieces.zeros_first modelUnits.cut lawful.level_of lawful.most_horizontal lawful.level_rule lawful.width_rule lawful.height_rule lawful.frame_rate_rule lawful.luma_rule lawful.rate_rule lawful.buffer_rule lawful.horizontal_rule lawful.vertical_rule lawful.intra_rule lawful.crowd_rule lawful.repeat_rule lawful.progressive_rule lawful.precision_rule strictElements.word_of sequenceRules.coded_luma_rule sequenceRules.aspect_rule sequenceRules.constrained_rule sequenceRules.first_number_rule sequenceRules.header_rule sequenceRules.extension_rule sequenceRules.is_broadcast sequenceRules.aspect_warning sequenceRules.size_warning sequenceRules.is_higher sequenceRules.height_warning groupRules.time_code_rule groupRules.drop_rule groupRules.passing_rule groupRules.broken_link_warning pictureRules.low_delay_rule pictureRules.delay_rule pictureRules.f_code_rule pictureRules.full_pel_rule pictureRules.field_rule pictureRules.prediction_rule pictureRules.top_first_rule pictureRules.interlaced_rule pictureRules.repeat_by_rate_rule pictureRules.chroma_rule pictureRules.dropped_warning pictureRules.b_repeat_warning dvdRules.b_frames_with setRules.set_remarks setRules.set_group_remarks setRules.set_picture_remarks buffer.told buffer.next buffer.tells account.settled_of account.behind_settled auditing.with_header auditing.sequences_of auditing.with_headers auditing.after_piece auditing.ended findings.with_breaches findings.with_remarks findings.with_misplaced findings.with_removals front.group_at front.header_at front.headers_from lines.column_text lines.name_of lines.name_with lines.rate_word lines.type_word lines.structure_word lines.failure_word report.with_counts worked.sequence_units worked.group_unit worked.picture_unit orderRules.sequence_order_rule orderRules.group_order_rule orderRules.late_header_rule orderRules.first_type_rule orderRules.end_code_warning timeRules.counted_rate timeRules.pictures_warning timeRules.continuity_warning timeRules.time_warnings parityRules.parity_warning arrivalRules.arrival_rule otherRules.extra_rule otherRules.chroma_number_rule otherRules.chroma_rule others.colour_at others.description_at others.between_at others.display_id_at others.display_at others.extra_at others.display_in others.extra_in others.matrices_of others.other_at others.others_from others.display_of others.own_remarks others.own_bit others.with_own_remarks others.display_remarks others.first_display headElements.id_at headHeaders.matrices_at modelHeaders.matrices_in
returns c = record { begun = refl; over = refl }
