-- The values of the code tables, and whether two are the same.
use Rattle.std.specs.Prelude.{ℕ, ◌+◌, ◌<◌, ◌≤◌, Bool, true, false, cond, not, ◌&&◌, ◌||◌, nat_eq, ℤ, pos, negsuc, neg_ℤ}
use Rattle.m2v_vlc.specs.declared.values.Increment.{Increment}
use Rattle.m2v_vlc.specs.declared.values.Increment.TheVariants.{Step, Escape}
use Rattle.m2v_vlc.specs.declared.values.MbType.{MbType}

-- ---- whether two values are the same

abbrev pub same_number : ℕ → ℕ → Bool
same_number a b = nat_eq a b

unfoldable pub same_signed : ℤ → ℤ → Bool
same_signed (pos a) (pos b) = nat_eq a b
same_signed (pos a) (negsuc b) = false
same_signed (negsuc a) (pos b) = false
same_signed (negsuc a) (negsuc b) = nat_eq a b

abbrev pub same_flag : Bool → Bool → Bool
same_flag true b = b
same_flag false true = false
same_flag false false = true

unfoldable pub same_increment : Increment → Increment → Bool
same_increment (Step a) (Step b) = nat_eq a b
same_increment (Step a) Escape = false
same_increment Escape (Step b) = false
same_increment Escape Escape = true

abbrev pub same_type : MbType → MbType → Bool
same_type a b = same_flag a.quant b.quant && (same_flag a.forward b.forward && (same_flag a.backward b.backward && (same_flag a.pattern b.pattern && same_flag a.intra b.intra)))

-- ---- the values

abbrev pub minus : ℕ → ℤ
minus n = neg_ℤ (pos n)

-- a step has a code from 1 to 33, and the escape has one
abbrev pub IsIncrement : Increment → Type 0
IsIncrement (Step n) = (0 < n) × (n ≤ 33)
IsIncrement Escape = Unit {0}

-- the columns of tables B.2 to B.4: quant, motion forward, motion backward, pattern, intra
abbrev pub kind : ℕ → ℕ → ℕ → ℕ → ℕ → MbType
kind quant forward backward pattern intra = record { quant = nat_eq quant 1; forward = nat_eq forward 1; backward = nat_eq backward 1; pattern = nat_eq pattern 1; intra = nat_eq intra 1 }

-- the flags of a type as one number
abbrev pub flags : MbType → ℕ
flags v = cond v.quant 16 0 + cond v.forward 8 0 + cond v.backward 4 0 + cond v.pattern 2 0 + cond v.intra 1 0

-- which types tables B.2, B.3 and B.4 have: an intra one has no vectors and no pattern; another one has a quantiser code only with a pattern
abbrev pub only_intra : MbType → Bool
only_intra v = v.intra && (not v.forward && (not v.backward && not v.pattern))

abbrev pub has_type_i : MbType → Bool
has_type_i v = only_intra v

abbrev pub has_type_p : MbType → Bool
has_type_p v = only_intra v || (not v.intra && (not v.backward && ((v.forward || v.pattern) && (not v.quant || v.pattern))))

abbrev pub has_type_b : MbType → Bool
has_type_b v = only_intra v || (not v.intra && ((v.forward || v.backward) && (not v.quant || v.pattern)))
