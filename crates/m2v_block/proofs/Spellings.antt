-- What is written spells the levels.
use Rattle.std.proofs.Common.{◌≡◌, ℕ, zero, suc, ◌+◌, ◌-◌, ◌^◌, ◌<◌, ◌≤◌, Bool, true, false, ◌&&◌, List, [], ◌∷◌, ◌++◌, length, set, replicate, All, ℤ, pos, negsuc, refl, sym, ap, subst, ◌∙◌, append_assoc, append-nil, arith, inl, inr}
use Rattle.std.specs.Prelude.{nat_eq, nat_lt, cond, ◌-ℤ◌}
use Rattle.std.proofs.lemmas.Int.{ints}
use Rattle.std.proofs.lemmas.Bool.{cases_Bool, ne_eqb, eq-eqb, eqb-true, lt-ltb, le-ltb, both_ways}
use Rattle.std.proofs.lemmas.List.Elements.{All-head, All-tail}
use Rattle.std.proofs.lemmas.List.{length-append}
use Rattle.m2v_bits.specs.Bits.{bits_of}
use Rattle.m2v_bits.specs.Syntax.{Spells, done, seq, rule, repeated, last, more}
use Rattle.m2v_bits.specs.Leaves.{bits_at}
use Rattle.m2v_bits.specs.Elements.{BitSyntax, left_at}
use Rattle.m2v_bits.proofs.LeafLaws.{seq_spells, done_spells, here_spells, rule_spells, first_spells, second_spells, renamed_spells, bits_spells}
use Rattle.m2v_vlc.specs.declared.values.CodeFault.TheVariants as codes
use Rattle.m2v_vlc.specs.declared.values.Coefficient.{Coefficient}
use Rattle.m2v_vlc.specs.declared.values.Coefficient.TheVariants.{End, Escape, Pair}
use Rattle.m2v_vlc.proofs.Coefficients.{coefficient_zero_spells, coefficient_one_spells}
use Rattle.m2v_vlc.proofs.Firsts.{first_zero_spells}
use Rattle.m2v_quant.specs.declared.kind.BlockKind.{BlockKind}
use Rattle.m2v_quant.specs.Kinds.{IsKind, IsLevel}
use Rattle.m2v_block.specs.declared.fault.BlockFault.{BlockFault}
use Rattle.m2v_block.specs.declared.fault.BlockFault.TheVariants.{Overrun, ForbiddenLevel}
use Rattle.m2v_block.specs.Faults.{of_code, cut}
use Rattle.m2v_block.specs.Blocks.{IsDc, Scan, opened, first_at, block_at, placed, escaped, is_allowed, coefficient_at, code_from, pair_at, pairs_at}
use Rattle.m2v_block.specs.Texts.{code_text, twelve, escape_text, pair_text, is_zero, level_text, run_after, pairs_text, IsBlock, block_text}
use Rattle.m2v_block.specs.Dc.{dc_text}
use Rattle.m2v_block.proofs.Written.{escape_length, end_some}
use Rattle.m2v_block.proofs.DcSpellings.{dc_spells}

code_spells : (first one : Bool) (c : Coefficient) → 0 < length (code_text first one c) → Spells (code_from first one) c (code_text first one c)
unfolding code_from code_text
code_spells true one c some = first_spells true _ _ c _ refl (renamed_spells of_code _ c _ (first_zero_spells codes.Truncated codes.NoCode c some))
code_spells false true c some = second_spells false _ _ c _ refl (first_spells true _ _ c _ refl (renamed_spells of_code _ c _ (coefficient_one_spells codes.Truncated codes.NoCode c some)))
code_spells false false c some = second_spells false _ _ c _ refl (second_spells false _ _ c _ refl (renamed_spells of_code _ c _ (coefficient_zero_spells codes.Truncated codes.NoCode c some)))

-- the scan behind a pair
abbrev after_pair : Scan → ℕ → ℤ → Scan
after_pair s run level = record { filled = s.filled + run + 1; levels = set s.levels (s.filled + run) level }

placed_spells : (start run : ℕ) (level : ℤ) (s : Scan) → s.filled + run < 64 → Spells (placed start run level s) (true, after_pair s run level) []
unfolding placed
placed_spells start run level s inside = rule_spells (nat_lt (s.filled + run) 64) Overrun start (λ fits. done (true, after_pair s run level)) (true, after_pair s run level) [] (lt-ltb _ _ inside) (done_spells (true, after_pair s run level))

twelve_below : (level : ℤ) → IsLevel level → twelve level < 2 ^ 12
unfolding twelve
twelve_below (pos n) h = omega (arith, ints, h.0, h.1)
twelve_below (negsuc n) h = omega (arith, ints, h.0, h.1)

twelve_back : (level : ℤ) → IsLevel level → escaped (twelve level) ≡ level
unfolding twelve escaped
twelve_back (pos n) h = let low : n < 2048 = omega (arith, ints, h.1) in rw (lt-ltb n 2048 low) refl
twelve_back (negsuc n) h =
    let high : nat_lt (4096 - suc n) 2048 ≡ false = le-ltb _ _ (omega (arith, ints, h.0)) in
    rw high (omega (arith, ints, h.0))

twelve_allowed : (level : ℤ) → IsLevel level → (level ≡ pos 0 → ⊥) → is_allowed (twelve level) ≡ true
unfolding twelve is_allowed
twelve_allowed (pos n) h some =
    let not_zero : nat_eq n 0 ≡ false = ne_eqb n 0 (λ e. some (ap pos e)) in
    let not_least : nat_eq n 2048 ≡ false = ne_eqb n 2048 (λ e. omega (arith, ints, h.1)) in
    rw (not_zero, not_least) refl
twelve_allowed (negsuc n) h some =
    let not_zero : nat_eq (4096 - suc n) 0 ≡ false = ne_eqb (4096 - suc n) 0 (λ e. omega (arith, ints, h.0)) in
    let not_least : nat_eq (4096 - suc n) 2048 ≡ false = ne_eqb (4096 - suc n) 2048 (λ e. omega (arith, ints, h.0)) in
    rw (not_zero, not_least) refl

positive : (n : ℕ) → nat_eq n 0 ≡ false → 0 < n
positive zero e = absurd cc
positive (suc n) e = omega arith

-- ---- an escaped pair

abbrev allowed_at : ℕ → Scan → ℕ → ℕ → ℕ → BitSyntax BlockFault (Bool × Scan)
allowed_at start s run at level = seq (rule (is_allowed level) ForbiddenLevel at) (λ allowed. placed start run (escaped level) s)

abbrev level_behind : ℕ → Scan → ℕ → ℕ → BitSyntax BlockFault (Bool × Scan)
level_behind start s run at = seq (bits_at cut 12) (allowed_at start s run at)

abbrev run_behind : ℕ → Scan → ℕ → BitSyntax BlockFault (Bool × Scan)
run_behind start s run = seq left_at (level_behind start s run)

level_spells : (start at run : ℕ) (level : ℤ) (s : Scan) → s.filled + run < 64 → IsLevel level → (level ≡ pos 0 → ⊥) → Spells (level_behind start s run at) (true, after_pair s run level) (bits_of 12 (twelve level))
level_spells start at run level s inside range some =
    let back = subst (λ (z : ℤ). Spells (placed start run z s) (true, after_pair s run level) []) (sym (twelve_back level range)) (placed_spells start run level s inside) in
    let rest = rule_spells (is_allowed (twelve level)) ForbiddenLevel at (λ allowed. placed start run (escaped (twelve level)) s) (true, after_pair s run level) [] (twelve_allowed level range some) back in
    subst (λ (t : List Bool). Spells (level_behind start s run at) (true, after_pair s run level) t) (append-nil (bits_of 12 (twelve level)))
    (seq_spells (allowed_at start s run at) (twelve level) (true, after_pair s run level) (bits_of 12 (twelve level)) [] (bits_spells cut 12 (twelve level) (twelve_below level range)) rest)

escape_spells : (start run : ℕ) (level : ℤ) (s : Scan) → s.filled + run < 64 → IsLevel level → (level ≡ pos 0 → ⊥) → Spells (coefficient_at start s Escape) (true, after_pair s run level) (bits_of 6 run ++ bits_of 12 (twelve level))
unfolding coefficient_at
escape_spells start run level s inside range some =
    seq_spells (run_behind start s) run (true, after_pair s run level) (bits_of 6 run) (bits_of 12 (twelve level)) (bits_spells cut 6 run (omega arith))
    (here_spells length (level_behind start s run) (true, after_pair s run level) (bits_of 12 (twelve level)) (λ at. level_spells start at run level s inside range some))

pair_of_spells : (start run : ℕ) (level : ℤ) (s : Scan) → s.filled + run < 64 → Spells (coefficient_at start s (Pair run level)) (true, after_pair s run level) []
unfolding coefficient_at
pair_of_spells start run level s inside = placed_spells start run level s inside

end_of_spells : (start : ℕ) (s : Scan) → Spells (coefficient_at start s End) (false, s) []
unfolding coefficient_at
end_of_spells start s = done_spells (false, s)

abbrev coefficient_behind : Bool → Bool → Scan → ℕ → BitSyntax BlockFault (Bool × Scan)
coefficient_behind first one s start = seq (code_from first one) (coefficient_at start s)

coded_spells : (first one : Bool) (start run : ℕ) (level : ℤ) (s : Scan) → s.filled + run < 64 → IsLevel level → (level ≡ pos 0 → ⊥) → Spells (coefficient_behind first one s start) (true, after_pair s run level) (pair_text first one run level)
unfolding pair_text escape_text
coded_spells first one start run level s inside range some = elim (cases_Bool (nat_eq (length (code_text first one (Pair run level))) 0)) [
  | inl none ↦ rw none (seq_spells (coefficient_at start s) Escape (true, after_pair s run level) (code_text first one Escape) (bits_of 6 run ++ bits_of 12 (twelve level)) (code_spells first one Escape (omega (arith, escape_length first one))) (escape_spells start run level s inside range some))
  | inr coded ↦ rw coded (subst (λ (t : List Bool). Spells (coefficient_behind first one s start) (true, after_pair s run level) t) (append-nil (code_text first one (Pair run level)))
      (seq_spells (coefficient_at start s) (Pair run level) (true, after_pair s run level) (code_text first one (Pair run level)) [] (code_spells first one (Pair run level) (positive _ coded)) (pair_of_spells start run level s inside)))
]

pair_spells : (first one : Bool) (run : ℕ) (level : ℤ) (s : Scan) → first ≡ nat_eq s.filled 0 → s.filled + run < 64 → IsLevel level → (level ≡ pos 0 → ⊥) → Spells (pair_at one s) (true, after_pair s run level) (pair_text first one run level)
unfolding pair_at
pair_spells first one run level s e inside range some =
    rw e (here_spells length (coefficient_behind (nat_eq s.filled 0) one s) (true, after_pair s run level) (pair_text (nat_eq s.filled 0) one run level) (λ start. coded_spells (nat_eq s.filled 0) one start run level s inside range some))

end_spells : (one : Bool) (s : Scan) → nat_eq s.filled 0 ≡ false → Spells (pair_at one s) (false, s) (code_text false one End)
unfolding pair_at
end_spells one s e =
    rw e (here_spells length (coefficient_behind false one s) (false, s) (code_text false one End) (λ start. subst (λ (t : List Bool). Spells (coefficient_behind false one s start) (false, s) t) (append-nil (code_text false one End))
    (seq_spells (coefficient_at start s) End (false, s) (code_text false one End) [] (code_spells false one End (end_some one)) (end_of_spells start s))))

-- ---- all pairs

last_spells : (one : Bool) (s z : Scan) (text : List Bool) → Spells (pair_at one s) (false, z) text → Spells (pairs_at one s) z text
unfolding pairs_at repeated
last_spells one s z text h = record { stands = λ rest. last (h.stands rest) }

more_spells : (one : Bool) (s m z : Scan) (x y : List Bool) → Spells (pair_at one s) (true, m) x → Spells (pairs_at one m) z y → Spells (pairs_at one s) z (x ++ y)
unfolding pairs_at repeated
more_spells one s m z x y p q = record { stands = λ rest. rw (append_assoc x y rest) (more (p.stands (y ++ rest)) (q.stands rest)) }

text_zero : (first one : Bool) (run : ℕ) (level : ℤ) (levels : List ℤ) → is_zero level ≡ true → pairs_text first one run (level ∷ levels) ≡ pairs_text first one (run + 1) levels
unfolding pairs_text level_text run_after
text_zero true one run level levels e = rw e refl
text_zero false one run level levels e = rw e refl

text_some : (first one : Bool) (run : ℕ) (level : ℤ) (levels : List ℤ) → is_zero level ≡ false → pairs_text first one run (level ∷ levels) ≡ pair_text first one run level ++ pairs_text false one 0 levels
unfolding pairs_text level_text run_after
text_some true one run level levels e = rw e refl
text_some false one run level levels e = rw e refl

-- the levels from a place on take theirs
unfoldable overlay : List ℤ → ℕ → List ℤ → List ℤ
overlay before k [] = before
overlay before k (level ∷ levels) = overlay (cond (is_zero level) before (set before k level)) (k + 1) levels

zero_is : (level : ℤ) → is_zero level ≡ true → level ≡ pos 0
zero_is (pos n) e = ap pos (eqb-true n 0 e)
zero_is (negsuc n) e = absurd (omega (arith, eqb-true (suc n) 0 e))

some_is : (level : ℤ) → is_zero level ≡ false → level ≡ pos 0 → ⊥
some_is (pos n) e is = both_ways _ e (eq-eqb n 0 (omega (arith, ints, is)))
some_is (negsuc n) e is = omega (arith, ints, is)

abbrev Ends : Bool → Scan → List ℤ → List Bool → Type 0
Ends one s levels text = (q : ℕ) × Spells (pairs_at one s) (record { filled = q; levels = levels }) text

abbrev at : ℕ → List ℤ → Scan
at p levels = record { filled = p; levels = levels }

pairs_spells : (first one : Bool) (levels : List ℤ) (p run : ℕ) (before : List ℤ) → first ≡ nat_eq p 0 → All IsLevel levels → p + run + length levels ≡ 64 → (first ≡ true → levels ≡ replicate (length levels) (pos 0) → ⊥)
    → Ends one (at p before) (overlay before (p + run) levels) (pairs_text first one run levels)
unfolding overlay pairs_text
pairs_spells first one [] p run before e range sum some = elim (cases_Bool first) [
  | inl on ↦ absurd (some on refl)
  | inr off ↦ (p, last_spells one (at p before) (at p before) (code_text false one End) (end_spells one (at p before) (sym e ∙ off)))
]
pairs_spells first one (level ∷ levels) p run before e range sum some = elim (cases_Bool (is_zero level)) [
  | inl zero_here ↦
      let ih = pairs_spells first one levels p (run + 1) before e (All-tail IsLevel level levels range) (omega arith) (λ on same. some on (λ i. zero_is level zero_here i ∷ same i)) in
      let next : p + (run + 1) ≡ p + run + 1 = omega arith in
      let placed_same : overlay before (p + (run + 1)) levels ≡ overlay before (p + run) (level ∷ levels) = rw (zero_here, next) refl in
      let text_same = sym (text_zero first one run level levels zero_here) in (
        ih.0,
        subst (λ (t : List Bool). Spells (pairs_at one (at p before)) (at ih.0 (overlay before (p + run) (level ∷ levels))) t) text_same
            (subst (λ (ls : List ℤ). Spells (pairs_at one (at p before)) (at ih.0 ls) (pairs_text first one (run + 1) levels)) placed_same ih.1),
      )
  | inr some_here ↦
      let not_first : false ≡ nat_eq (p + run + 1) 0 = sym (ne_eqb (p + run + 1) 0 (λ is. omega arith)) in
      let ih = pairs_spells false one levels (p + run + 1) 0 (set before (p + run) level) not_first (All-tail IsLevel level levels range) (omega arith) (λ on same. cc) in
      let next : p + run + 1 + 0 ≡ p + run + 1 = omega arith in
      let placed_same : overlay (set before (p + run) level) (p + run + 1 + 0) levels ≡ overlay before (p + run) (level ∷ levels) = rw (some_here, next) refl in
      let text_same = sym (text_some first one run level levels some_here) in
      let head = pair_spells first one run level (at p before) e (omega arith) (All-head IsLevel level levels range) (some_is level some_here) in (
        ih.0,
        subst (λ (t : List Bool). Spells (pairs_at one (at p before)) (at ih.0 (overlay before (p + run) (level ∷ levels))) t) text_same
            (more_spells one (at p before) (at (p + run + 1) (set before (p + run) level)) (at ih.0 (overlay before (p + run) (level ∷ levels))) (pair_text first one run level) (pairs_text false one 0 levels) head
            (subst (λ (ls : List ℤ). Spells (pairs_at one (at (p + run + 1) (set before (p + run) level))) (at ih.0 ls) (pairs_text false one 0 levels)) placed_same ih.1)),
      )
]

set_behind : (front rest : List ℤ) (y x : ℤ) → set (front ++ (y ∷ rest)) (length front) x ≡ front ++ (x ∷ rest)
set_behind [] rest y x = refl
set_behind (z ∷ front) rest y x = ap (λ (l : List ℤ). z ∷ l) (set_behind front rest y x)

placed_one : (front rest : List ℤ) (level : ℤ) (k : ℕ) → k ≡ length front
    → cond (is_zero level) (front ++ (pos 0 ∷ rest)) (set (front ++ (pos 0 ∷ rest)) k level) ≡ (front ++ (level ∷ [])) ++ rest
placed_one front rest level k e = elim (cases_Bool (is_zero level)) [
  | inl zero_here ↦ rw zero_here (ap (λ (x : ℤ). front ++ (x ∷ rest)) (sym (zero_is level zero_here)) ∙ sym (append_assoc front (level ∷ []) rest))
  | inr some_here ↦ rw (some_here, e) (set_behind front rest (pos 0) level ∙ sym (append_assoc front (level ∷ []) rest))
]

overlay_is : (front levels : List ℤ) (k : ℕ) → k ≡ length front → overlay (front ++ replicate (length levels) (pos 0)) k levels ≡ front ++ levels
unfolding overlay
overlay_is front [] k e = refl
overlay_is front (level ∷ levels) k e =
    ap (λ (before : List ℤ). overlay before (k + 1) levels) (placed_one front (replicate (length levels) (pos 0)) level k e)
    ∙ overlay_is (front ++ (level ∷ [])) levels (k + 1) (omega (arith, length-append front (level ∷ [])))
    ∙ append_assoc front (level ∷ []) levels

-- ---- blocks

scan_spells : (one : Bool) (s : Scan) (levels : List ℤ) (text : List Bool) → Ends one s levels text → Spells (seq (pairs_at one s) (λ scan. done scan.levels)) levels text
scan_spells one s levels text h =
    subst (λ (t : List Bool). Spells (seq (pairs_at one s) (λ scan. done scan.levels)) levels t) (append-nil text)
    (seq_spells (λ scan. done scan.levels) (at h.0 levels) levels text [] h.1 (done_spells levels))

joined : (kind : BlockKind) (table_one : Bool) (predictor dc : ℤ) (levels : List ℤ) (x y : List Bool) → Spells (first_at kind predictor) dc x → Ends (kind.intra && table_one) (opened kind.intra dc) levels y → Spells (block_at kind table_one predictor) levels (x ++ y)
unfolding block_at
joined kind table_one predictor dc levels x y p q =
    seq_spells (λ dc. seq (pairs_at (kind.intra && table_one) (opened kind.intra dc)) (λ scan. done scan.levels)) dc levels x y p (scan_spells (kind.intra && table_one) (opened kind.intra dc) levels y q)

intra_first : (kind : BlockKind) (predictor dc : ℤ) → kind.intra ≡ true → kind.precision ≤ 3 → IsDc kind.precision predictor → IsDc kind.precision dc → Spells (first_at kind predictor) dc (dc_text kind.luma (dc -ℤ predictor))
unfolding first_at
intra_first kind predictor dc on le p q = first_spells kind.intra _ _ dc _ on (dc_spells kind.luma kind.precision predictor dc le p q)

other_first : (kind : BlockKind) (predictor : ℤ) → kind.intra ≡ false → Spells (first_at kind predictor) (pos 0) []
unfolding first_at
other_first kind predictor off = second_spells kind.intra _ _ (pos 0) [] off (done_spells (pos 0))

behind_dc : (one : Bool) (dc : ℤ) (levels : List ℤ) → All IsLevel levels → length levels ≡ 63 → Ends one (opened true dc) (dc ∷ levels) (pairs_text false one 0 levels)
unfolding opened
behind_dc one dc levels range len =
    let zeros : dc ∷ replicate (length levels) (pos 0) ≡ dc ∷ replicate 63 (pos 0) = ap (λ (n : ℕ). dc ∷ replicate n (pos 0)) len in
    let end = pairs_spells false one levels 1 0 (dc ∷ replicate 63 (pos 0)) refl range (omega arith) (λ on same. cc) in
    let same : overlay (dc ∷ replicate 63 (pos 0)) 1 levels ≡ dc ∷ levels = ap (λ (before : List ℤ). overlay before 1 levels) (sym zeros) ∙ overlay_is (dc ∷ []) levels 1 refl in
    (end.0, subst (λ (ls : List ℤ). Spells (pairs_at one (at 1 (dc ∷ replicate 63 (pos 0)))) (at end.0 ls) (pairs_text false one 0 levels)) same end.1)

from_first : (levels : List ℤ) → All IsLevel levels → length levels ≡ 64 → (levels ≡ replicate 64 (pos 0) → ⊥) → Ends false (opened false (pos 0)) levels (pairs_text true false 0 levels)
unfolding opened
from_first levels range len some =
    let zeros : replicate (length levels) (pos 0) ≡ replicate 64 (pos 0) = ap (λ (n : ℕ). replicate n (pos 0)) len in
    let end = pairs_spells true false levels 0 0 (replicate 64 (pos 0)) refl range (omega arith) (λ on same. some (same ∙ zeros)) in
    let same : overlay (replicate 64 (pos 0)) 0 levels ≡ levels = ap (λ (before : List ℤ). overlay before 0 levels) (sym zeros) ∙ overlay_is [] levels 0 refl in
    (end.0, subst (λ (ls : List ℤ). Spells (pairs_at false (at 0 (replicate 64 (pos 0)))) (at end.0 ls) (pairs_text true false 0 levels)) same end.1)

intra_text : (kind : BlockKind) (table_one : Bool) (predictor dc : ℤ) (levels : List ℤ) → kind.intra ≡ true
    → dc_text kind.luma (dc -ℤ predictor) ++ pairs_text false table_one 0 levels ≡ block_text kind table_one predictor (dc ∷ levels)
unfolding block_text
intra_text kind table_one predictor dc levels on = rw on refl

other_text : (kind : BlockKind) (table_one : Bool) (predictor : ℤ) (levels : List ℤ) → kind.intra ≡ false → pairs_text true false 0 levels ≡ block_text kind table_one predictor levels
unfolding block_text
other_text kind table_one predictor levels off = rw off refl

intra_spells : (kind : BlockKind) (table_one : Bool) (predictor : ℤ) (levels : List ℤ) → kind.intra ≡ true → IsKind kind → IsBlock kind levels → IsDc kind.precision predictor → length levels ≡ 64
    → Spells (block_at kind table_one predictor) levels (block_text kind table_one predictor levels)
intra_spells kind table_one predictor [] on k b p len = absurd (omega arith)
intra_spells kind table_one predictor (dc ∷ levels) on k b p len =
    let pairs = behind_dc table_one dc levels (All-tail IsLevel dc levels b.within) (omega arith) in
    let first = intra_first kind predictor dc on k.precision p (b.dc on) in
    let ends : Ends (kind.intra && table_one) (opened kind.intra dc) (dc ∷ levels) (pairs_text false table_one 0 levels) = rw on pairs in
    subst (λ (t : List Bool). Spells (block_at kind table_one predictor) (dc ∷ levels) t) (intra_text kind table_one predictor dc levels on)
    (joined kind table_one predictor dc (dc ∷ levels) (dc_text kind.luma (dc -ℤ predictor)) (pairs_text false table_one 0 levels) first ends)

other_spells : (kind : BlockKind) (table_one : Bool) (predictor : ℤ) (levels : List ℤ) → kind.intra ≡ false → IsBlock kind levels → length levels ≡ 64
    → Spells (block_at kind table_one predictor) levels (block_text kind table_one predictor levels)
other_spells kind table_one predictor levels off b len =
    let ends : Ends (kind.intra && table_one) (opened kind.intra (pos 0)) levels (pairs_text true false 0 levels) = rw off (from_first levels b.within len (b.some off)) in
    subst (λ (t : List Bool). Spells (block_at kind table_one predictor) levels t) (other_text kind table_one predictor levels off)
    (joined kind table_one predictor (pos 0) levels [] (pairs_text true false 0 levels) (other_first kind predictor off) ends)

-- what is written of a block spells its levels
pub block_spells : (kind : BlockKind) (table_one : Bool) (predictor : ℤ) (levels : List ℤ) → IsKind kind → IsBlock kind levels → (kind.intra ≡ true → IsDc kind.precision predictor) → length levels ≡ 64
    → Spells (block_at kind table_one predictor) levels (block_text kind table_one predictor levels)
block_spells kind table_one predictor levels k b p len = elim (cases_Bool kind.intra) [
  | inl on ↦ intra_spells kind table_one predictor levels on k b (p on) len
  | inr off ↦ other_spells kind table_one predictor levels off b len
]
