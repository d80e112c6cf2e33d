-- The look-ups of pairs, checked by computing against the rows' look-ups, and what is read by those with short codes.
use Rattle.std.proofs.Common.{◌≡◌, ℕ, ◌+◌, ◌-◌, ◌/◌, ◌<◌, ◌≤◌, Bool, true, eqb, leb, List, length, get_or, drop, Option, Some, None, Ok, inl, inr, refl, sym, ap, ap₂, subst, ◌∙◌, arith}
use Rattle.std.specs.Prelude.{◌&&◌, cond, nat_lt, slice_get, pos}
use Rattle.std.proofs.lemmas.Bool.{cases_lt, eqb-true, leb-true, and_parts}
use Rattle.m2v_bits.specs.Bits.{number, ahead}
use Rattle.m2v_bits.proofs.SyntaxLaws.{good}
use Rattle.m2v_vlc.specs.declared.values.Coefficient.{Coefficient}
use Rattle.m2v_vlc.specs.declared.values.Coefficient.TheVariants.{End, Escape, Pair}
use Rattle.m2v_vlc.specs.declared.values.CodeFault.TheVariants.{Truncated, NoCode}
use Rattle.m2v_vlc.specs.declared.zero_rows.TheConstants.{ZERO_BY_9, ZERO_BY_13, ZERO_BY_17}
use Rattle.m2v_vlc.specs.declared.one_rows.TheConstants.{ONE_BY_9, ONE_BY_13, ONE_BY_17}
use Rattle.m2v_vlc.specs.declared.zero_short.TheConstants.{ZERO_SHORT}
use Rattle.m2v_vlc.specs.declared.one_short.TheConstants.{ONE_SHORT}
use Rattle.m2v_vlc.specs.declared.zero_long.TheConstants.{ZERO_LONG}
use Rattle.m2v_vlc.specs.declared.one_long.TheConstants.{ONE_LONG}
use Rattle.m2v_vlc.specs.declared.longest.TheConstants.{LONGEST}
use Rattle.m2v_vlc.specs.Codes.{Row, code_at}
use Rattle.m2v_vlc.specs.Values.{same_signed, minus}
use Rattle.m2v_vlc.specs.Shorts.{ShortPair, Stands, Ends, nothing}
use Rattle.m2v_vlc.specs.Coefficients.{coefficient_zero, coefficient_one, first_zero, pairs_zero, pairs_one, signed}
use Rattle.m2v_vlc.proofs.LookupLaws.{reads_row, get_in, peeked}
use Rattle.m2v_vlc.proofs.Places.{is_small, small_range}
use Rattle.m2v_vlc.proofs.ValueLaws.{signed_sound, below, agree, all_in}
use Rattle.m2v_vlc.proofs.Coefficients.{Pointed, first_by}
use Rattle.m2v_vlc.proofs.Firsts.{first_same, first_plus, first_minus}
use Rattle.m2v_vlc.proofs.Checks.{table_of}

-- ---- an entry is the pair, or the end, of the row that the rows' look-up points to

abbrev pub is_entry : ℕ → Coefficient → ℕ → ShortPair → Bool
is_entry w End len e = eqb e.1 128 && (eqb len e.2 && leb len w)
is_entry w Escape len e = eqb e.1 64
is_entry w (Pair run level) len e = leb run 31 && (eqb run e.1 && (same_signed level e.0 && (eqb len e.2 && leb len w)))

abbrev pub is_short : ℕ → Option (Row Coefficient) → ShortPair → Bool
is_short w None e = eqb e.1 64
is_short w (Some r) e = is_entry w r.value r.len e

pair_is : (w : ℕ) (v : Coefficient) (len : ℕ) (e : ShortPair) → is_entry w v len e ≡ true → e.1 < 64 → (v ≡ Pair e.1 e.0) × (len ≡ e.2) × (e.2 ≤ w)
pair_is w End len e h lt = absurd (omega (arith, lt, eqb-true e.1 128 (and_parts (eqb e.1 128) (eqb len e.2 && leb len w) h).0))
pair_is w Escape len e h lt = absurd (omega (arith, lt, eqb-true e.1 64 h))
pair_is w (Pair run level) len e h lt =
    let a = and_parts (leb run 31) (eqb run e.1 && (same_signed level e.0 && (eqb len e.2 && leb len w))) h in
    let b = and_parts (eqb run e.1) (same_signed level e.0 && (eqb len e.2 && leb len w)) a.1 in
    let c = and_parts (same_signed level e.0) (eqb len e.2 && leb len w) b.1 in
    let d = and_parts (eqb len e.2) (leb len w) c.1 in
    let same : len ≡ e.2 = eqb-true len e.2 d.0 in
    (ap₂ Pair (eqb-true run e.1 b.0) (signed_sound level e.0 c.0), same, omega (arith, same, leb-true len w d.1))

end_is : (w : ℕ) (v : Coefficient) (len : ℕ) (e : ShortPair) → is_entry w v len e ≡ true → e.1 ≡ 128 → (v ≡ End) × (len ≡ e.2) × (e.2 ≤ w)
end_is w End len e h is =
    let a = and_parts (eqb e.1 128) (eqb len e.2 && leb len w) h in
    let b = and_parts (eqb len e.2) (leb len w) a.1 in
    let same : len ≡ e.2 = eqb-true len e.2 b.0 in
    (refl, same, omega (arith, same, leb-true len w b.1))
end_is w Escape len e h is = absurd (omega (arith, is, eqb-true e.1 64 h))
end_is w (Pair run level) len e h is =
    let a = and_parts (leb run 31) (eqb run e.1 && (same_signed level e.0 && (eqb len e.2 && leb len w))) h in
    let b = and_parts (eqb run e.1) (same_signed level e.0 && (eqb len e.2 && leb len w)) a.1 in
    absurd (omega (arith, is, leb-true run 31 a.0, eqb-true run e.1 b.0))

-- a row of the value, with the code's bits
abbrev pub Found : ℕ → Option (Row Coefficient) → Coefficient → ℕ → Type 0
Found w o v len = (r : Row Coefficient) × (o ≡ Some r) × (r.value ≡ v) × (r.len ≡ len) × (len ≤ w)

pub pair_row : (w : ℕ) (o : Option (Row Coefficient)) (e : ShortPair) → is_short w o e ≡ true → e.1 < 64 → Found w o (Pair e.1 e.0) e.2
pair_row w None e h lt = absurd (omega (arith, lt, eqb-true e.1 64 h))
pair_row w (Some r) e h lt = let p = pair_is w r.value r.len e h lt in (r, refl, p.0, p.1, p.2)

pub end_row : (w : ℕ) (o : Option (Row Coefficient)) (e : ShortPair) → is_short w o e ≡ true → e.1 ≡ 128 → Found w o End e.2
end_row w None e h is = absurd (omega (arith, is, eqb-true e.1 64 h))
end_row w (Some r) e h is = let p = end_is w r.value r.len e h is in (r, refl, p.0, p.1, p.2)

-- ---- what is read

-- the row that the rows' look-ups by thirteen and seventeen bits point to
abbrev pub row_by : List ℕ → List ℕ → ℕ → ℕ
row_by by_13 by_17 p = cond (nat_lt p 512) (get_or by_17 p 0) (get_or by_13 (p / 16 - 32) 0)

-- the entries by nine bits are those of the rows, behind the first eight, which stand for nothing; so are those by fourteen and by seventeen
pub record AreEntries (by_9 by_13 by_17 : List ℕ) (t : List (Row Coefficient)) (shorts longs : List ShortPair) : Type 0 where
  pub few : below (λ n. (get_or shorts n nothing).1) 8 ≡ below (λ n. 64) 8
  pub short : below (λ n. is_short 9 (slice_get t (get_or by_9 n 0)) (get_or shorts (8 + n) nothing)) 504 ≡ below (λ n. true) 504
  pub long : below (λ n. is_short 17 (slice_get t (row_by by_13 by_17 (256 + n))) (get_or longs ((256 + n) / 8 - 32) nothing)) 1792 ≡ below (λ n. true) 1792
  pub longest : below (λ n. is_short 17 (slice_get t (row_by by_13 by_17 n)) (get_or LONGEST n nothing)) 256 ≡ below (λ n. true) 256

module _ {rows : List (Coefficient × ℕ × ℕ)} {by by_13 by_17 : List ℕ} {t : List (Row Coefficient)} (is : Pointed rows by by_13 by_17 t) (k : ℕ) (lt : k < 512) where
  reads : (v : Coefficient) (len : ℕ) (bs : List Bool) → 8 ≤ k → Found 9 (slice_get t (get_or by (k - 8) 0)) v len → k ≡ number (ahead 9 bs) → len ≤ length bs
      → (code_at Truncated NoCode t).read bs ≡ Ok (v, drop len bs)
  reads v len bs large (r, get, value, same, short) nine enough =
      let i = get_or by (k - 8) 0 in
      let seventeen = number (ahead 17 bs) in
      let high : k ≡ seventeen / 256 = nine ∙ peeked 9 bs (omega arith) in
      let at = first_by is bs seventeen i refl (omega (arith, high, lt)) (omega (arith, high, large)) (ap (λ (x : ℕ). get_or by (x - 8) 0) high) in
      reads_row Truncated NoCode t i r bs (table_of is.checked) at get (omega (arith, same, enough)) ∙ ap₂ (λ w n. good (w, drop n bs)) value same

  module _ {shorts longs : List ShortPair} (are : AreEntries by by_13 by_17 t shorts longs) (p : ShortPair) (entry : p ≡ get_or shorts k nothing) where
    -- an entry that stands for something is that of a row
    entry_is : (p.1 ≡ 64 → ⊥) → (8 ≤ k) × (is_short 9 (slice_get t (get_or by (k - 8) 0)) p ≡ true)
    entry_is other =
        elim (cases_lt k 8) [
          | inl small ↦ absurd (other (ap (λ (e : ShortPair). e.1) entry ∙ agree (λ n. (get_or shorts n nothing).1) (λ n. 64) 8 k are.few small))
          | inr large ↦
              let n = k - 8 in
              let same : 8 + n ≡ k = omega arith in
              let here : get_or shorts (8 + n) nothing ≡ p = rw same (sym entry) in
              (large, subst (λ (x : ShortPair). is_short 9 (slice_get t (get_or by n 0)) x ≡ true) here (agree (λ n. is_short 9 (slice_get t (get_or by n 0)) (get_or shorts (8 + n) nothing)) (λ n. true) 504 n are.short (omega arith)))
        ]

    pub stands : p.1 < 64 → Stands 9 t k p
    stands run =
        let e = entry_is (λ z. absurd (omega (arith, z, run))) in
        let found = pair_row 9 (slice_get t (get_or by (k - 8) 0)) p e.1 run in
        let r = found.0 in
        record {
          short = found.4;
          range = small_range (Pair p.1 p.0) (subst (λ (x : Coefficient). is_small x ≡ true) found.2 (all_in is_small t r is.known (get_in t (get_or by (k - 8) 0) r found.1)));
          reads = λ bs nine enough. reads (Pair p.1 p.0) p.2 bs e.0 found nine enough;
        }

    pub ends : p.1 ≡ 128 → Ends 9 t k p
    ends run =
        let e = entry_is (λ z. absurd (omega (arith, z, run))) in
        let found = end_row 9 (slice_get t (get_or by (k - 8) 0)) p e.1 run in
        record {
          short = found.4;
          reads = λ bs nine enough. reads End p.2 bs e.0 found nine enough;
        }

-- ---- tables B.14 and B.15

pub zero_entries : AreEntries ZERO_BY_9 ZERO_BY_13 ZERO_BY_17 coefficient_zero ZERO_SHORT ZERO_LONG
unfolding below coefficient_zero pairs_zero signed same_signed
zero_entries = record { few = refl; short = refl; long = refl; longest = refl }

pub one_entries : AreEntries ONE_BY_9 ONE_BY_13 ONE_BY_17 coefficient_one ONE_SHORT ONE_LONG
unfolding below coefficient_one pairs_one signed same_signed
one_entries = record { few = refl; short = refl; long = refl; longest = refl }

-- ---- table B.14 at the first coefficient of a block that is not intra

-- where the first bit is 0 its table reads what table B.14 reads
pub first_stands : (k : ℕ) (p : ShortPair) → k < 256 → Stands 9 coefficient_zero k p → Stands 9 first_zero k p
first_stands k p lt is = record {
  short = is.short;
  range = is.range;
  reads = λ bs nine enough. first_same bs (omega (arith, lt, nine, peeked 9 bs (omega arith), peeked 2 bs (omega arith))) ∙ is.reads bs nine enough;
}

pub first_long_stands : (k : ℕ) (p : ShortPair) → k < 2048 → Stands 17 coefficient_zero k p → Stands 17 first_zero k p
first_long_stands k p lt is = record {
  short = is.short;
  range = is.range;
  reads = λ bs seventeen enough. first_same bs (omega (arith, lt, seventeen, peeked 2 bs (omega arith))) ∙ is.reads bs seventeen enough;
}

pub plus_stands : (k : ℕ) → 256 ≤ k → k < 384 → Stands 9 first_zero k (pos 1, 0, 2)
plus_stands k from lt = record {
  short = omega arith;
  range = small_range (Pair 0 (pos 1)) refl;
  reads = λ bs nine enough. first_plus bs (omega (arith, from, lt, nine, peeked 9 bs (omega arith), peeked 2 bs (omega arith))) enough;
}

pub minus_stands : (k : ℕ) → 384 ≤ k → k < 512 → Stands 9 first_zero k (minus 1, 0, 2)
minus_stands k from lt = record {
  short = omega arith;
  range = small_range (Pair 0 (minus 1)) refl;
  reads = λ bs nine enough. first_minus bs (omega (arith, from, lt, nine, peeked 9 bs (omega arith), peeked 2 bs (omega arith))) enough;
}
