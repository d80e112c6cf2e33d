-- What is read of a block stands there, and what stands there is read: a block has one reading.
use Rattle.std.proofs.Common.{◌≡◌, ℕ, ◌+◌, Bool, true, false, List, length, subst, ap, ◌∙◌, sym, refl, ◌<◌, ℤ, arith, zero-add}
use Rattle.std.specs.Prelude.{nat_eq, ◌&&◌, if◌then◌else◌, slice_set}
use Rattle.std.proofs.lemmas.Bool.{eqb-true, lt-ltb, false_from_ne_true}
use Rattle.m2v_bits.specs.Syntax.{renamed, choose, seq, bind, here, rule, done}
use Rattle.m2v_bits.proofs.SyntaxLaws.{Lawful, Strict, Takes, good, bad, good_is, done_lawful, here_lawful, rule_lawful, seq_lawful, seq_strict, seq_strict_later, choose_lawful, choose_strict, renamed_lawful, repeated_strict, onward, round_err, round_more, round_last}
use Rattle.m2v_bits.proofs.LeafLaws.{bits_lawful}
use Rattle.m2v_vlc.specs.declared.values.CodeFault.TheVariants as codes
use Rattle.m2v_vlc.specs.declared.values.Coefficient.{Coefficient}
use Rattle.m2v_vlc.specs.declared.values.Coefficient.TheVariants.{End, Escape, Pair}
use Rattle.m2v_vlc.specs.Codes.{Row, code_at}
use Rattle.m2v_vlc.specs.Coefficients.{coefficient_zero, coefficient_one, first_zero}
use Rattle.m2v_vlc.proofs.Checks.{strict_of}
use Rattle.m2v_vlc.proofs.Sizes.{dc_luma_checked, dc_chroma_checked}
use Rattle.m2v_vlc.proofs.Coefficients.{zero_pointed, one_pointed}
use Rattle.m2v_vlc.proofs.Firsts.{first_zero_strict}
use Rattle.m2v_quant.specs.declared.kind.BlockKind.{BlockKind}
use Rattle.m2v_block.specs.declared.fault.BlockFault.{BlockFault}
use Rattle.m2v_block.specs.declared.fault.BlockFault.TheVariants.{Overrun, ForbiddenLevel, DcRange}
use Rattle.m2v_block.specs.Faults.{of_code, cut, coded}
use Rattle.m2v_block.specs.Blocks.{Scan, size_at, dc_at, placed, coefficient_at, code_from, pair_at, pairs_at, opened, first_at, block_at}

coded_takes : {V : Type 0} (table : List (Row V)) → Strict length (code_at codes.Truncated codes.NoCode table) → Takes length (coded table)
unfolding renamed
coded_takes table s = record { less = s.takes.less }

coded_strict : {V : Type 0} (table : List (Row V)) → Strict length (code_at codes.Truncated codes.NoCode table) → Strict length (coded table)
coded_strict table s = record { lawful = renamed_lawful of_code s.lawful; takes = coded_takes table s }

pub size_strict : (luma : Bool) → Strict length (size_at luma)
unfolding size_at
size_strict luma = choose_strict luma (coded_strict _ (strict_of dc_luma_checked codes.Truncated codes.NoCode)) (coded_strict _ (strict_of dc_chroma_checked codes.Truncated codes.NoCode))

dc_strict : (luma : Bool) (precision : ℕ) (predictor : ℤ) → Strict length (dc_at luma precision predictor)
unfolding dc_at
dc_strict luma precision predictor =
    seq_strict_later (here_lawful length length) (λ start.
    seq_strict (size_strict luma) (λ size.
    seq_lawful (bits_lawful cut size) (λ bits.
    seq_lawful (rule_lawful length _ DcRange start) (λ fits.
    done_lawful length _))))

placed_lawful : (start run : ℕ) (level : ℤ) (s : Scan) → Lawful length (placed start run level s)
unfolding placed
placed_lawful start run level s = seq_lawful (rule_lawful length _ Overrun start) (λ fits. done_lawful length _)

coefficient_lawful : (start : ℕ) (s : Scan) (c : Coefficient) → Lawful length (coefficient_at start s c)
unfolding coefficient_at
coefficient_lawful start s End = done_lawful length _
coefficient_lawful start s Escape =
    seq_lawful (bits_lawful cut 6) (λ run.
    seq_lawful (here_lawful length length) (λ at.
    seq_lawful (bits_lawful cut 12) (λ level.
    seq_lawful (rule_lawful length _ ForbiddenLevel at) (λ allowed.
    placed_lawful start run _ s))))
coefficient_lawful start s (Pair run level) = placed_lawful start run level s

code_strict : (first one : Bool) → Strict length (code_from first one)
unfolding code_from
code_strict first one =
    choose_strict first (coded_strict _ (first_zero_strict codes.Truncated codes.NoCode))
    (choose_strict one (coded_strict _ (strict_of one_pointed.checked codes.Truncated codes.NoCode)) (coded_strict _ (strict_of zero_pointed.checked codes.Truncated codes.NoCode)))

pair_strict : (one : Bool) (s : Scan) → Strict length (pair_at one s)
unfolding pair_at
pair_strict one s =
    seq_strict_later (here_lawful length length) (λ start.
    seq_strict (code_strict (nat_eq s.filled 0) one) (λ c.
    coefficient_lawful start s c))

pub pairs_strict : (one : Bool) (s : Scan) → Strict length (pairs_at one s)
unfolding pairs_at
pairs_strict one s = repeated_strict length cut (pair_at one) (pair_strict one) s

first_lawful : (kind : BlockKind) (predictor : ℤ) → Lawful length (first_at kind predictor)
unfolding first_at
first_lawful kind predictor = choose_lawful kind.intra (dc_strict kind.luma kind.precision predictor).lawful (done_lawful length _)

-- the laws of a block: one reading, and it takes something
pub block_strict : (kind : BlockKind) (table_one : Bool) (predictor : ℤ) → Strict length (block_at kind table_one predictor)
unfolding block_at
block_strict kind table_one predictor =
    seq_strict_later (first_lawful kind predictor) (λ dc.
    seq_strict (pairs_strict (kind.intra && table_one) (opened kind.intra dc)) (λ scan.
    done_lawful length _))

-- two spellings of one text give the same levels and the same rest
pub block_once : (kind : BlockKind) (table_one : Bool) (predictor : ℤ) (a b : List ℤ) (t rest other : List Bool)
    → (block_at kind table_one predictor).Stands a t rest → (block_at kind table_one predictor).Stands b t other → (a ≡ b) × (rest ≡ other)
block_once kind table_one predictor a b t rest other p q =
    let l = (block_strict kind table_one predictor).lawful in
    let same = good_is {K = BlockFault} (a, rest) (b, other) (sym (l.only a t rest p) ∙ l.only b t other q) in
    (ap (λ (x : List ℤ × List Bool). x.0) same, ap (λ (x : List ℤ × List Bool). x.1) same)

-- ---- what the reader's loop goes by

pub pairs_err : (one : Bool) (s : Scan) (t : List Bool) (f : BlockFault × ℕ) → (pair_at one s).read t ≡ bad f → (pairs_at one s).read t ≡ bad f
unfolding pairs_at
pairs_err one = round_err length cut (pair_at one) (λ s. (pair_strict one s).lawful) (onward (pair_strict one))

pub pairs_more : (one : Bool) (s m : Scan) (t mid : List Bool) (b : Bool) → (pair_at one s).read t ≡ good ((b, m), mid) → b ≡ true → (pairs_at one s).read t ≡ (pairs_at one m).read mid
unfolding pairs_at
pairs_more one s m t mid b e on = round_more length cut (pair_at one) (λ s. (pair_strict one s).lawful) (onward (pair_strict one)) s m t mid (subst (λ (x : Bool). (pair_at one s).read t ≡ good ((x, m), mid)) on e)

pub pairs_last : (one : Bool) (s m : Scan) (t mid : List Bool) (b : Bool) → (pair_at one s).read t ≡ good ((b, m), mid) → b ≡ false → (pairs_at one s).read t ≡ good (m, mid)
unfolding pairs_at
pairs_last one s m t mid b e off = round_last length cut (pair_at one) (λ s. (pair_strict one s).lawful) (onward (pair_strict one)) s m t mid (subst (λ (x : Bool). (pair_at one s).read t ≡ good ((x, m), mid)) off e)

pub pairs_less : (one : Bool) (s m : Scan) (t mid : List Bool) (b : Bool) → (pair_at one s).read t ≡ good ((b, m), mid) → length mid < length t
pairs_less one s m t mid b e = (pair_strict one s).takes.less (b, m) t mid ((pair_strict one s).lawful.found (b, m) t mid e)

-- a pair with a code of the table that holds behind the first place, within the scan
pub quick : (one : Bool) (s : Scan) (run : ℕ) (level : ℤ) (bs rest : List Bool) → 0 < s.filled → s.filled + run < 64
    → (code_at codes.Truncated codes.NoCode (if one then coefficient_one else coefficient_zero)).read bs ≡ good (Pair run level, rest)
    → (pair_at one s).read bs ≡ good ((true, record { filled = s.filled + run + 1; levels = slice_set s.levels (s.filled + run) level }), rest)
unfolding pair_at coefficient_at placed code_from choose renamed seq bind here rule done
quick true s run level bs rest some fits e =
    let first : nat_eq s.filled 0 ≡ false = false_from_ne_true (nat_eq s.filled 0) (λ z. absurd (omega (arith, some, eqb-true s.filled 0 z))) in
    rw (first, e, lt-ltb (s.filled + run) 64 fits) refl
quick false s run level bs rest some fits e =
    let first : nat_eq s.filled 0 ≡ false = false_from_ne_true (nat_eq s.filled 0) (λ z. absurd (omega (arith, some, eqb-true s.filled 0 z))) in
    rw (first, e, lt-ltb (s.filled + run) 64 fits) refl

-- the end of a block by the table that holds behind the first place
pub quick_end : (one : Bool) (s : Scan) (bs rest : List Bool) → 0 < s.filled
    → (code_at codes.Truncated codes.NoCode (if one then coefficient_one else coefficient_zero)).read bs ≡ good (End, rest)
    → (pair_at one s).read bs ≡ good ((false, s), rest)
unfolding pair_at coefficient_at code_from choose renamed seq bind here done
quick_end true s bs rest some e =
    let first : nat_eq s.filled 0 ≡ false = false_from_ne_true (nat_eq s.filled 0) (λ z. absurd (omega (arith, some, eqb-true s.filled 0 z))) in
    rw (first, e) refl
quick_end false s bs rest some e =
    let first : nat_eq s.filled 0 ≡ false = false_from_ne_true (nat_eq s.filled 0) (λ z. absurd (omega (arith, some, eqb-true s.filled 0 z))) in
    rw (first, e) refl

-- a pair at the first place of a block that is not intra
pub quick_begin : (levels : List ℤ) (run : ℕ) (level : ℤ) (bs rest : List Bool) → run < 64
    → (code_at codes.Truncated codes.NoCode first_zero).read bs ≡ good (Pair run level, rest)
    → (pair_at false (record { filled = 0; levels = levels })).read bs ≡ good ((true, record { filled = run + 1; levels = slice_set levels run level }), rest)
unfolding pair_at coefficient_at placed code_from choose renamed seq bind here rule done
quick_begin levels run level bs rest fits e = rw (e, zero-add run, lt-ltb run 64 fits) refl
