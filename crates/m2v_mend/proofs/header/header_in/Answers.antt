use Rattle.std.proofs.Common.{length, ap, ◌∙◌}
use Rattle.m2v_model.specs.Units.{Units, joined}
use Rattle.m2v_law_seam.specs.Faults.{only_header}
use Rattle.m2v_mend.proofs.Headed.{header_is}
use Rattle.m2v_mend.proofs.header.header_in.Goals as goal

pub returns : goal.returns
returns c =
    header_is c.args.piece.now c.in_ok-header.header c.header_length-length.result _ (c.header_length-length.ensures ∙ ap (λ (us : Units). length (joined (only_header us))) c.units.ensures.value) c.in_ok-header.ensures c.in_ok-read_header.ensures
