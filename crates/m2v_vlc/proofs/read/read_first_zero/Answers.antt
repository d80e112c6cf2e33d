use Rattle.std.proofs.Common.{arith, ◌∙◌, sym, ap}
use Rattle.m2v_bits.specs.Bits.{Unread}
use Rattle.m2v_bits.proofs.SyntaxLaws.{good}
use Rattle.std.specs.Prelude.{pos}
use Rattle.m2v_vlc.specs.Values.{minus}
use Rattle.m2v_vlc.specs.Coefficients.{IsFirst, first_zero}
use Rattle.m2v_vlc.specs.declared.values.CodeFault.TheVariants.{Truncated, NoCode}
use Rattle.m2v_vlc.specs.declared.values.Coefficient.TheVariants.{Pair}
use Rattle.m2v_vlc.proofs.ValueLaws.{in_range}
use Rattle.m2v_vlc.proofs.Firsts.{first_zero_free, first_zero_known, is_first, first_range, first_same, first_cut, first_plus, first_minus}
use Rattle.m2v_vlc.proofs.read.read_first_zero.Goals as goal

pub returns-then-p-lt2-clause-exact : goal.returns-then-p-lt2-clause-exact
returns-then-p-lt2-clause-exact c = rw (first_same c.args.input.now.rest (omega (arith, c.peek-p.ensures.value, c.if-p-lt2.true))) c.read_coefficient_zero.ensures.exact

pub returns-then-p-lt2-clause-range : goal.returns-then-p-lt2-clause-range
returns-then-p-lt2-clause-range c = in_range IsFirst is_first Truncated NoCode first_zero c.args.input.now.rest c.read_coefficient_zero.new.input.rest c.read_coefficient_zero.result first_zero_free first_zero_known first_range (rw (first_same c.args.input.now.rest (omega (arith, c.peek-p.ensures.value, c.if-p-lt2.true))) c.read_coefficient_zero.ensures.exact)

pub returns-then-left-lt2-clause-exact : goal.returns-then-left-lt2-clause-exact
returns-then-left-lt2-clause-exact c = first_cut c.args.input.now.rest (omega (arith, c.peek-p.ensures.value, c.if-p-lt2.false)) (omega arith)

pub returns-then-p-eq2-clause-exact : goal.returns-then-p-eq2-clause-exact
returns-then-p-eq2-clause-exact c =
    first_plus c.args.input.now.rest (sym c.peek-p.ensures.value ∙ c.if-p-eq2.true) (omega arith)
    ∙ ap (λ (u : Unread). good (Pair 0 (pos 1), u.rest)) (sym c.skip.ensures)

pub returns-else-p-eq2-clause-exact : goal.returns-else-p-eq2-clause-exact
returns-else-p-eq2-clause-exact c =
    first_minus c.args.input.now.rest (omega (arith, c.peek-p.ensures.value, c.peek-p.ensures.below, c.if-p-lt2.false, c.if-p-eq2.false)) (omega arith)
    ∙ ap (λ (u : Unread). good (Pair 0 (minus 1), u.rest)) (sym c.skip.ensures)
