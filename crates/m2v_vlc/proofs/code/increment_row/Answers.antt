use Rattle.std.proofs.Common.{arith, ◌∙◌, ap, sym, inl, inr}
use Rattle.m2v_vlc.specs.Tables.{increment_code}
use Rattle.m2v_vlc.proofs.Increments.{step_index, escape_index, past_index}
use Rattle.m2v_vlc.proofs.code.increment_row.Goals as goal

pub returns-then-n-gt33 : goal.returns-then-n-gt33
returns-then-n-gt33 c = past_index c.in-Step.n (λ r. elim c.if-n-gt33.either [ inl z ↦ omega (arith, z, r.0) | inr x ↦ omega (arith, x.1, r.1) ]) ∙ ap increment_code (sym c.in-Step.is)

pub returns-else-n-gt33 : goal.returns-else-n-gt33
returns-else-n-gt33 c = let h = c.if-n-gt33.false in step_index c.in-Step.n (omega (arith, h.0)) h.1 ∙ ap increment_code (sym c.in-Step.is)

pub returns-in-Escape : goal.returns-in-Escape
returns-in-Escape c = escape_index ∙ ap increment_code (sym c.in-Escape.is)
