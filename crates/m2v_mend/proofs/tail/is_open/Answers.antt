use Rattle.std.proofs.Common.{sym, ap, ◌∙◌}
use Rattle.m2v_law_seam.specs.Strands.{ends_open}
use Rattle.m2v_mend.specs.Tail.{last_bits}
use Rattle.m2v_mend.proofs.Closing.{zeros_left, not_open, open_so}
use Rattle.m2v_mend.proofs.tail.is_open.Goals as goal

pub returns-then-zeros_of-gt0 : goal.returns-then-zeros_of-gt0
returns-then-zeros_of-gt0 c = zeros_left c.args.piece.now c.zeros_of.result c.zeros_of.ensures c.if-zeros_of-gt0.true

pub returns-then-not-ends_in_prefix : goal.returns-then-not-ends_in_prefix
returns-then-not-ends_in_prefix c =
    not_open c.args.piece.now c.zeros_of.result c.zeros_of.ensures c.if-zeros_of-gt0.false (ap ends_open (sym c.deref.ensures.value) ∙ sym c.ends_in_prefix.ensures ∙ c.if-not-ends_in_prefix.true)

pub returns : goal.returns
returns c =
    open_so c.args.piece.now c.zeros_of.result c.last_bits.result c.zeros_of.ensures c.if-zeros_of-gt0.false (ap ends_open (sym c.deref.ensures.value) ∙ sym c.ends_in_prefix.ensures ∙ c.if-not-ends_in_prefix.false)
    (c.last_bits.ensures ∙ ap (last_bits 0) c.units.ensures.value)
