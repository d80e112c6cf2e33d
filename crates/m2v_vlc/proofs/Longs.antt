-- What is read by the look-ups of pairs with long codes.
use Rattle.std.proofs.Common.{◌≡◌, ℕ, ◌+◌, ◌-◌, ◌/◌, ◌<◌, ◌≤◌, Bool, true, List, get_or, drop, inl, inr, refl, sym, ap₂, subst, ◌∙◌, arith}
use Rattle.std.specs.Prelude.{slice_get}
use Rattle.std.proofs.lemmas.Bool.{cases_lt, lt-ltb, le-ltb}
use Rattle.m2v_bits.specs.Bits.{number, ahead}
use Rattle.m2v_bits.proofs.SyntaxLaws.{good}
use Rattle.m2v_vlc.specs.declared.values.Coefficient.{Coefficient}
use Rattle.m2v_vlc.specs.declared.values.Coefficient.TheVariants.{Pair}
use Rattle.m2v_vlc.specs.declared.values.CodeFault.TheVariants.{Truncated, NoCode}
use Rattle.m2v_vlc.specs.declared.longest.TheConstants.{LONGEST}
use Rattle.m2v_vlc.specs.Codes.{Row}
use Rattle.m2v_vlc.specs.Lookups.{Points}
use Rattle.m2v_vlc.specs.Shorts.{ShortPair, Stands, nothing}
use Rattle.m2v_vlc.proofs.LookupLaws.{reads_row, get_in}
use Rattle.m2v_vlc.proofs.Places.{is_small, small_range}
use Rattle.m2v_vlc.proofs.ValueLaws.{agree, all_in}
use Rattle.m2v_vlc.proofs.Coefficients.{Pointed, middle_by, last_by}
use Rattle.m2v_vlc.proofs.Shorts.{is_short, pair_row, row_by, AreEntries}
use Rattle.m2v_vlc.proofs.Checks.{table_of}

module _ {rows : List (Coefficient × ℕ × ℕ)} {by_9 by_13 by_17 : List ℕ} {t : List (Row Coefficient)} (is : Pointed rows by_9 by_13 by_17 t) (k : ℕ) where
  points : (bs : List Bool) → k ≡ number (ahead 17 bs) → k < 2048 → Points t (row_by by_13 by_17 k) bs
  points bs at lt =
      elim (cases_lt k 512) [
        | inl small ↦ rw (lt-ltb k 512 small) (last_by is bs k (get_or by_17 k 0) at small refl)
        | inr large ↦ rw (le-ltb k 512 large) (middle_by is bs k (get_or by_13 (k / 16 - 32) 0) at lt large refl)
      ]

  -- an entry that is that of the row stands
  stands : (p : ShortPair) → k < 2048 → is_short 17 (slice_get t (row_by by_13 by_17 k)) p ≡ true → p.1 < 64 → Stands 17 t k p
  stands p lt holds run =
      let i = row_by by_13 by_17 k in
      let found = pair_row 17 (slice_get t i) p holds run in
      let r = found.0 in
      record {
        short = found.4;
        range = small_range (Pair p.1 p.0) (subst (λ (x : Coefficient). is_small x ≡ true) found.2 (all_in is_small t r is.known (get_in t i r found.1)));
        reads = λ bs look enough.
            reads_row Truncated NoCode t i r bs (table_of is.checked) (points bs look lt) found.1 (omega (arith, found.3, enough))
            ∙ ap₂ (λ v n. good (v, drop n bs)) found.2 found.3;
      }

  -- an entry by fourteen bits, or by seventeen where these begin with nine zeros
  pub long_stands : {shorts longs : List ShortPair} (p : ShortPair) → AreEntries by_9 by_13 by_17 t shorts longs → k < 2048
      → (256 ≤ k → p ≡ get_or longs (k / 8 - 32) nothing) → (k < 256 → p ≡ get_or LONGEST k nothing) → p.1 < 64 → Stands 17 t k p
  long_stands {shorts} {longs} p are lt far near run =
      elim (cases_lt k 256) [
        | inl small ↦
            let holds = agree (λ n. is_short 17 (slice_get t (row_by by_13 by_17 n)) (get_or LONGEST n nothing)) (λ n. true) 256 k are.longest small in
            stands p lt (subst (λ (x : ShortPair). is_short 17 (slice_get t (row_by by_13 by_17 k)) x ≡ true) (sym (near small)) holds) run
        | inr large ↦
            let n = k - 256 in
            let same : 256 + n ≡ k = omega arith in
            let holds = agree (λ n. is_short 17 (slice_get t (row_by by_13 by_17 (256 + n))) (get_or longs ((256 + n) / 8 - 32) nothing)) (λ n. true) 1792 n are.long (omega arith) in
            let here = subst (λ (x : ℕ). is_short 17 (slice_get t (row_by by_13 by_17 x)) (get_or longs (x / 8 - 32) nothing) ≡ true) same holds in
            stands p lt (subst (λ (x : ShortPair). is_short 17 (slice_get t (row_by by_13 by_17 k)) x ≡ true) (sym (far large)) here) run
      ]
