use Rattle.std.proofs.Common.{ℕ, arith}
use Rattle.std.proofs.lemmas.List.{length-replicate}
use Rattle.m2v_search.proofs.Slides.{zeros}
use Rattle.m2v_search.proofs.parts.columns_at.Goals as goal

pub loop-k-init : goal.loop-k-init
loop-k-init c = record { len = length-replicate {A = ℕ} 56 0; value = λ k lt. absurd (omega arith); rest = λ k le. zeros 56 k }
