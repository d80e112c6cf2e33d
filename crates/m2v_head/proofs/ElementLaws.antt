-- The elements are lawful: what is read stands there, and what is refused is broken so; and what spells them.
use Rattle.std.proofs.Common.{◌≡◌, ℕ, zero, suc, ◌<◌, ◌≤◌, ◌^◌, Bool, true, false, List, [], ◌++◌, length, refl, ap, subst, arith}
use Rattle.std.specs.Prelude.{not, nat_eq}
use Rattle.std.proofs.lemmas.Bool.{eq-eqb, ne_eqb}
use Rattle.std.proofs.lemmas.List.{append-nil}
use Rattle.m2v_bits.specs.Bits.{bits_of}
use Rattle.m2v_bits.specs.Syntax.{Syntax, done, seq, rule, choose, repeated, last, Spells}
use Rattle.m2v_bits.proofs.SyntaxLaws.{Lawful, Strict, good, bad, onward, round_err, round_more, round_last, done_lawful, here_lawful, rule_lawful, seq_lawful, seq_strict, seq_strict_later, choose_lawful, repeated_strict}
use Rattle.m2v_bits.proofs.ElementLaws.{bit_true, held_spells}
pub use Rattle.m2v_bits.proofs.ElementLaws.{same_spells, whole_spells, last_spells}
use Rattle.m2v_bits.proofs.ElementLaws as elements
use Rattle.m2v_bits.proofs.LeafLaws.{bits_lawful, bits_strict, bits_spells, done_spells, seq_spells, here_spells, rule_spells, second_spells}
use Rattle.m2v_head.specs.declared.fault.HeadFault.{HeadFault}
use Rattle.m2v_head.specs.declared.fault.HeadFault.TheVariants.{NoCode, Truncated, BadMarker, Forbidden}
use Rattle.m2v_head.specs.Texts.{flag, marker}
use Rattle.m2v_head.specs.Elements.{number_at, flag_at, marker_at, id_at, some_at, information_at, pair_at, pairs_at}

-- a number of some bits
pub number_strict : (n : ℕ) → 0 < n → Strict length (number_at n)
number_strict n some = bits_strict Truncated n some

pub number_lawful : (n : ℕ) → Lawful length (number_at n)
number_lawful n = bits_lawful Truncated n

pub flag_strict : Strict length flag_at
flag_strict = elements.flag_strict Truncated

pub marker_strict : Strict length marker_at
unfolding marker_at
marker_strict =
    seq_strict_later (here_lawful length length) (λ at.
    seq_strict (number_strict 1 (omega arith)) (λ bit.
    rule_lawful length _ BadMarker at))

pub id_strict : (own : ℕ) → Strict length (id_at own)
unfolding id_at
id_strict own =
    seq_strict_later (here_lawful length length) (λ at.
    seq_strict (number_strict 4 (omega arith)) (λ id.
    rule_lawful length _ NoCode at))

pub some_strict : (field n : ℕ) → 0 < n → Strict length (some_at field n)
unfolding some_at
some_strict field n some =
    seq_strict_later (here_lawful length length) (λ at.
    seq_strict (number_strict n some) (λ v.
    seq_lawful (rule_lawful length _ (Forbidden field) at) (λ holds.
    done_lawful length _)))

information_lawful : Lawful length information_at
unfolding information_at
information_lawful = seq_lawful (number_lawful 8) (λ information. done_lawful length _)

pub pair_strict : (none : Unit {0}) → Strict length (pair_at none)
unfolding pair_at
pair_strict none = seq_strict flag_strict (λ more. choose_lawful more information_lawful (done_lawful length _))

pub pairs_strict : Strict length pairs_at
unfolding pairs_at
pairs_strict = repeated_strict length Truncated pair_at pair_strict tt

-- ---- what the loop over pairs goes by

pub pairs_err : (t : List Bool) (f : HeadFault × ℕ) → (pair_at tt).read t ≡ bad f → pairs_at.read t ≡ bad f
unfolding pairs_at
pairs_err = round_err length Truncated pair_at (λ s. (pair_strict s).lawful) (onward pair_strict) tt

pub pairs_more : (x : Bool × Unit {0}) (t mid : List Bool) → (pair_at tt).read t ≡ good (x, mid) → x.0 ≡ true → pairs_at.read t ≡ pairs_at.read mid
unfolding pairs_at
pairs_more x t mid e on = round_more length Truncated pair_at (λ s. (pair_strict s).lawful) (onward pair_strict) tt x.1 t mid (subst (λ (b : Bool). (pair_at tt).read t ≡ good ((b, x.1), mid)) on e)

pub pairs_last : (x : Bool × Unit {0}) (t mid : List Bool) → (pair_at tt).read t ≡ good (x, mid) → x.0 ≡ false → pairs_at.read t ≡ good (tt, mid)
unfolding pairs_at
pairs_last x t mid e off = round_last length Truncated pair_at (λ s. (pair_strict s).lawful) (onward pair_strict) tt x.1 t mid (subst (λ (b : Bool). (pair_at tt).read t ≡ good ((b, x.1), mid)) off e)

pub pairs_less : (x : Bool × Unit {0}) (t mid : List Bool) → (pair_at tt).read t ≡ good (x, mid) → length mid < length t
pairs_less x t mid e = (pair_strict tt).takes.less x t mid ((pair_strict tt).lawful.found x t mid e)

-- ---- what spells the elements

pub number_spells : (n v : ℕ) → v < 2 ^ n → Spells (number_at n) v (bits_of n v)
number_spells n v below = bits_spells Truncated n v below

pub flag_spells : (b : Bool) → Spells flag_at b (flag b)
flag_spells b = elements.flag_spells Truncated b

pub marker_spells : Spells marker_at tt marker
unfolding marker_at
marker_spells = same_spells bit_true (here_spells length _ tt (bits_of 1 1) (λ at. held_spells 1 (λ bit. nat_eq bit 1) BadMarker at (bits_of 1 1) refl (number_spells 1 1 (omega arith))))

pub id_spells : (own : ℕ) → own < 2 ^ 4 → Spells (id_at own) tt (bits_of 4 own)
unfolding id_at
id_spells own below = here_spells length _ tt (bits_of 4 own) (λ at. held_spells own (λ id. nat_eq id own) NoCode at (bits_of 4 own) (eq-eqb own own refl) (number_spells 4 own below))

pub some_of : (v : ℕ) → 1 ≤ v → not (nat_eq v 0) ≡ true
some_of zero le = absurd (omega arith)
some_of (suc v) le = ap not (ne_eqb (suc v) 0 (λ e. omega arith))

pub some_spells : (field n v : ℕ) → v < 2 ^ n → not (nat_eq v 0) ≡ true → Spells (some_at field n) v (bits_of n v)
unfolding some_at
some_spells field n v below some =
    here_spells length _ v (bits_of n v) (λ at.
    whole_spells (seq_spells (λ b. seq (rule (not (nat_eq b 0)) (Forbidden field) at) (λ holds. done b)) v v (bits_of n v) [] (number_spells n v below)
    (rule_spells (not (nat_eq v 0)) (Forbidden field) at (λ holds. done v) v [] some (done_spells v))))

pair_ends : Spells (pair_at tt) (false, tt) (flag false)
unfolding pair_at
pair_ends = whole_spells (seq_spells (λ more. choose more information_at (done (false, tt))) false (false, tt) (flag false) [] (flag_spells false) (second_spells false information_at (done (false, tt)) (false, tt) [] refl (done_spells (false, tt))))

-- no extra information
pub pairs_spells : Spells pairs_at tt (flag false)
unfolding pairs_at repeated
pairs_spells = record { stands = λ rest. last (pair_ends.stands rest) }
