-- An escaped pair is read where its code, its run and its level stand.
use Rattle.std.proofs.Common.{◌≡◌, ℕ, ◌+◌, ◌<◌, ◌≤◌, Bool, true, false, List, take, drop, length, refl, sym, ap, subst, ◌∙◌, arith}
use Rattle.std.specs.Prelude.{nat_eq, slice_set}
use Rattle.std.proofs.lemmas.Bool.{lt-ltb, le-ltb}
use Rattle.std.proofs.lemmas.List.{drop-drop, length-drop}
use Rattle.m2v_bits.specs.Bits.{number, ahead}
use Rattle.m2v_bits.specs.Syntax.{renamed, choose, seq, bind, here, rule, done}
use Rattle.m2v_bits.specs.Leaves.{bits_at}
use Rattle.m2v_bits.proofs.Cursor.{ahead_take}
use Rattle.m2v_bits.proofs.SyntaxLaws.{good}
use Rattle.m2v_vlc.specs.declared.values.Coefficient.TheVariants.{Escape}
use Rattle.m2v_vlc.proofs.Escapes.{zero_escape, one_escape, first_escape}
use Rattle.m2v_block.specs.Blocks.{Scan, placed, escaped, is_allowed, coefficient_at, code_from, pair_at}

-- the code, whichever table holds
code_read : (first one : Bool) (bs : List Bool) → number (ahead 6 bs) ≡ 1 → 6 ≤ length bs → (code_from first one).read bs ≡ good (Escape, drop 6 bs)
unfolding code_from choose renamed
code_read true one bs e le = rw (first_escape bs e le) refl
code_read false true bs e le = rw (one_escape bs e le) refl
code_read false false bs e le = rw (zero_escape bs e le) refl

pair_read : (one : Bool) (s : Scan) (bs : List Bool) (run n : ℕ) → (code_from (nat_eq s.filled 0) one).read bs ≡ good (Escape, drop 6 bs) → 24 ≤ length bs
    → number (take 6 (drop 6 bs)) ≡ run → number (take 12 (drop 6 (drop 6 bs))) ≡ n → is_allowed n ≡ true → s.filled + run < 64
    → (pair_at one s).read bs ≡ good ((true, record { filled = s.filled + run + 1; levels = slice_set s.levels (s.filled + run) (escaped n) }), drop 12 (drop 6 (drop 6 bs)))
unfolding pair_at coefficient_at placed bits_at seq bind here rule done
pair_read one s bs run n e long at_run at_level allowed fits =
    let six = le-ltb (length (drop 6 bs)) 6 (omega (arith, long, length-drop 6 bs)) in
    let twelve = le-ltb (length (drop 6 (drop 6 bs))) 12 (omega (arith, long, length-drop 6 bs, length-drop 6 (drop 6 bs))) in
    rw (e, six, at_run, twelve, at_level, allowed, lt-ltb (s.filled + run) 64 fits) refl

pub escape_read : (one : Bool) (s : Scan) (bs : List Bool) (run n : ℕ) → number (ahead 6 bs) ≡ 1 → 24 ≤ length bs
    → number (ahead 6 (drop 6 bs)) ≡ run → number (ahead 12 (drop 12 bs)) ≡ n → is_allowed n ≡ true → s.filled + run < 64
    → (pair_at one s).read bs ≡ good ((true, record { filled = s.filled + run + 1; levels = slice_set s.levels (s.filled + run) (escaped n) }), drop 24 bs)
escape_read one s bs run n code long at_run at_level allowed fits =
    let twelve : drop 6 (drop 6 bs) ≡ drop 12 bs = drop-drop 6 6 bs in
    let end : drop 12 (drop 6 (drop 6 bs)) ≡ drop 24 bs = ap (drop 12) twelve ∙ drop-drop 12 12 bs in
    let first : number (take 6 (drop 6 bs)) ≡ run = ap number (sym (ahead_take 6 (drop 6 bs) (omega (arith, long, length-drop 6 bs)))) ∙ at_run in
    let second : number (take 12 (drop 6 (drop 6 bs))) ≡ n =
    ap (λ (xs : List Bool). number (take 12 xs)) twelve ∙ ap number (sym (ahead_take 12 (drop 12 bs) (omega (arith, long, length-drop 12 bs)))) ∙ at_level in
    subst (λ (xs : List Bool). (pair_at one s).read bs ≡ good ((true, record { filled = s.filled + run + 1; levels = slice_set s.levels (s.filled + run) (escaped n) }), xs)) end
    (pair_read one s bs run n (code_read (nat_eq s.filled 0) one bs code (omega (arith, long))) long first second allowed fits)
