-- The escape, of six bits in each table of coefficients.
use Rattle.std.proofs.Common.{◌≡◌, ◌-◌, ◌/◌, ◌^◌, ◌≤◌, Bool, true, List, length, drop, inl, refl, sym, ap, ◌∙◌, arith}
use Rattle.m2v_bits.specs.Bits.{number, ahead}
use Rattle.m2v_bits.proofs.Cursor.{ahead_take}
use Rattle.m2v_bits.proofs.SyntaxLaws.{good}
use Rattle.m2v_vlc.specs.declared.values.Coefficient.{Coefficient}
use Rattle.m2v_vlc.specs.declared.values.Coefficient.TheVariants.{Escape}
use Rattle.m2v_vlc.specs.declared.values.CodeFault.TheVariants.{Truncated, NoCode}
use Rattle.m2v_vlc.specs.Codes.{Row, row, In, code_at, is_free}
use Rattle.m2v_vlc.specs.Coefficients.{coefficient_zero, coefficient_one, first_zero}
use Rattle.m2v_vlc.proofs.CodeLaws.{begins_number, front_number, row_here}
use Rattle.m2v_vlc.proofs.Coefficients.{zero_pointed, one_pointed, in_zero, in_one}
use Rattle.m2v_vlc.proofs.Firsts.{first_zero_free}

abbrev escape : Row Coefficient
escape = row Escape 0x1 6

read : (t : List (Row Coefficient)) → is_free t ≡ true → In t escape → (bs : List Bool) → number (ahead 6 bs) ≡ 1 → 6 ≤ length bs
    → (code_at Truncated NoCode t).read bs ≡ good (Escape, drop 6 bs)
unfolding code_at
read t free there bs e le =
    let front : number bs / 2 ^ (length bs - 6) ≡ 1 = front_number 6 bs le ∙ ap number (sym (ahead_take 6 bs le)) ∙ e in
    rw (row_here t escape bs free there (begins_number escape bs (omega arith) le front)) refl

in_first : In first_zero escape
unfolding first_zero
in_first = inl refl

pub zero_escape : (bs : List Bool) → number (ahead 6 bs) ≡ 1 → 6 ≤ length bs → (code_at Truncated NoCode coefficient_zero).read bs ≡ good (Escape, drop 6 bs)
zero_escape bs e le = read coefficient_zero zero_pointed.checked.free in_zero bs e le

pub one_escape : (bs : List Bool) → number (ahead 6 bs) ≡ 1 → 6 ≤ length bs → (code_at Truncated NoCode coefficient_one).read bs ≡ good (Escape, drop 6 bs)
one_escape bs e le = read coefficient_one one_pointed.checked.free in_one bs e le

pub first_escape : (bs : List Bool) → number (ahead 6 bs) ≡ 1 → 6 ≤ length bs → (code_at Truncated NoCode first_zero).read bs ≡ good (Escape, drop 6 bs)
first_escape bs e le = read first_zero first_zero_free in_first bs e le
