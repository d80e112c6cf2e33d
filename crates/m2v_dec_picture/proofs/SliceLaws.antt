-- What the loop over macroblocks goes by.
use Rattle.std.proofs.Common.{◌≡◌, ℕ, Bool, true, false, not, List, [], length, refl, ◌+◌, ◌-◌, ◌*◌, ◌<◌, pos, ◌+ℤ◌}
use Rattle.std.specs.Prelude.{nat_abs}
use Rattle.m2v_bits.specs.Bits.{all_zero}
use Rattle.m2v_bits.specs.Syntax.{seq, bind, here, rule, done, renamed}
use Rattle.m2v_bits.specs.Leaves.{zero_at}
use Rattle.m2v_bits.proofs.SyntaxLaws.{good, bad, onward, round_err, round_more, round_last}
use Rattle.m2v_head.specs.declared.slice.SliceInfo.{SliceInfo}
use Rattle.m2v_head.specs.Headers as head
use Rattle.m2v_macro.specs.Macros.{increment_at}
use Rattle.m2v_macro.specs.declared.values.SliceState.{SliceState}
use Rattle.m2v_macroblock.specs.Macroblocks.{Macroblock}
use Rattle.m2v_model.specs.declared.fault.FaultKind.{FaultKind}
use Rattle.m2v_model.specs.declared.fault.FaultKind.TheVariants.{Truncated, SliceOrder}
use Rattle.m2v_model.specs.declared.setup.SliceSetup.{SliceSetup}
use Rattle.m2v_model.specs.Faults.{of_head, of_macro}
use Rattle.m2v_model.specs.Looking.{looking}
use Rattle.m2v_model.specs.Slices.{Row, with_next, macroblock_at, macroblock_round, macroblocks_at, begins_late, slice_start, unit_place, slice_at}
use Rattle.m2v_model.proofs.SliceLaws.{macroblock_strict, round_strict}

pub macroblocks_err : (s : SliceSetup) (r : Row) (t : List Bool) (f : FaultKind × ℕ) → (macroblock_at s r.state).read t ≡ bad f → (macroblocks_at s r).read t ≡ bad f
unfolding macroblocks_at macroblock_round seq bind here
macroblocks_err s r t f at = round_err length Truncated (macroblock_round s) (λ r. (round_strict s r).lawful) (onward (round_strict s)) r t f (rw at refl)

round_is : (s : SliceSetup) (r : Row) (x : Macroblock) (t mid : List Bool) (b : Bool) → (macroblock_at s r.state).read t ≡ good (x, mid) → not (all_zero mid) ≡ b
    → (macroblock_round s r).read t ≡ good ((b, with_next s.context r x (length t - length mid)), mid)
unfolding macroblock_round seq bind here zero_at done
round_is s r x t mid b at z = rw (at, z) refl

pub macroblocks_more : (s : SliceSetup) (r : Row) (x : Macroblock) (t mid : List Bool) → (macroblock_at s r.state).read t ≡ good (x, mid) → not (all_zero mid) ≡ true
    → (macroblocks_at s r).read t ≡ (macroblocks_at s (with_next s.context r x (length t - length mid))).read mid
unfolding macroblocks_at
macroblocks_more s r x t mid at z = round_more length Truncated (macroblock_round s) (λ r. (round_strict s r).lawful) (onward (round_strict s)) r _ t mid (round_is s r x t mid true at z)

pub macroblocks_last : (s : SliceSetup) (r : Row) (x : Macroblock) (t mid : List Bool) → (macroblock_at s r.state).read t ≡ good (x, mid) → not (all_zero mid) ≡ false
    → (macroblocks_at s r).read t ≡ good (with_next s.context r x (length t - length mid), mid)
unfolding macroblocks_at
macroblocks_last s r x t mid at z = round_last length Truncated (macroblock_round s) (λ r. (round_strict s r).lawful) (onward (round_strict s)) r _ t mid (round_is s r x t mid false at z)

pub macroblock_less : (s : SliceSetup) (st : SliceState) (x : Macroblock) (t mid : List Bool) → (macroblock_at s st).read t ≡ good (x, mid) → length mid < length t
macroblock_less s st x t mid e = (macroblock_strict s st).takes.less x t mid ((macroblock_strict s st).lawful.found x t mid e)

-- ---- slices

-- a row before its first macroblock
abbrev pub at_row : SliceSetup → ℕ → ℕ → ℕ → Row
at_row s covered row quantiser = record { state = slice_start s.context row covered quantiser; macroblocks = []; bits = [] }

-- reading a slice, exit by exit
module _ (s : SliceSetup) (covered row : ℕ) (t : List Bool) where
  pub slice_no_header : (f : FaultKind × ℕ) → (renamed of_head head.slice_at).read t ≡ bad f → (slice_at s covered row).read t ≡ bad f
  unfolding slice_at unit_place seq bind here
  slice_no_header f a = rw a refl

  pub slice_no_increment : (info : SliceInfo) (mid : List Bool) (f : FaultKind × ℕ) → (renamed of_head head.slice_at).read t ≡ good (info, mid)
      → (renamed of_macro increment_at).read mid ≡ bad f → (slice_at s covered row).read t ≡ bad f
  unfolding slice_at unit_place looking seq bind here
  slice_no_increment info mid f a b = rw (a, b) refl

  pub slice_early : (info : SliceInfo) (mid ahead : List Bool) (n : ℕ) → (renamed of_head head.slice_at).read t ≡ good (info, mid)
      → (renamed of_macro increment_at).read mid ≡ good (n, ahead) → begins_late (row * s.context.columns) n covered ≡ false → (slice_at s covered row).read t ≡ bad (SliceOrder, length t + 32)
  unfolding slice_at unit_place looking rule seq bind here
  slice_early info mid ahead n a b d = rw (a, b, d) refl

  pub slice_broken : (info : SliceInfo) (mid ahead : List Bool) (n : ℕ) (f : FaultKind × ℕ) → (renamed of_head head.slice_at).read t ≡ good (info, mid)
      → (renamed of_macro increment_at).read mid ≡ good (n, ahead) → begins_late (row * s.context.columns) n covered ≡ true
      → (macroblocks_at s (at_row s covered row info.quantiser)).read mid ≡ bad f
      → (slice_at s covered row).read t ≡ bad f
  unfolding slice_at unit_place looking rule seq bind here
  slice_broken info mid ahead n f a b d e = rw (a, b, d, e) refl

  pub slice_read : (info : SliceInfo) (mid ahead rest : List Bool) (n : ℕ) (x : Row) → (renamed of_head head.slice_at).read t ≡ good (info, mid)
      → (renamed of_macro increment_at).read mid ≡ good (n, ahead) → begins_late (row * s.context.columns) n covered ≡ true
      → (macroblocks_at s (at_row s covered row info.quantiser)).read mid ≡ good (x, rest)
      → (slice_at s covered row).read t ≡ good (record { info = info; macroblocks = x.macroblocks; bits = x.bits; covered = nat_abs (x.state.address +ℤ pos 1) }, rest)
  unfolding slice_at unit_place looking rule seq bind here done
  slice_read info mid ahead rest n x a b d e = rw (a, b, d, e) refl
