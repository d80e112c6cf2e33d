-- Levels of which those that are 0 aren't kept: one more is kept, and the list of all 64.
use Rattle.std.proofs.Common.{◌≡◌, ◌≢◌, ℕ, zero, suc, ◌+◌, ◌<◌, ◌≤◌, refl, ap, sym, subst, ◌∙◌, arith, List, ◌∷◌, length, get_or, set, replicate, get_or-set_other, get_or-set_same, ℤ, pos, negsuc, inl, inr}
use Rattle.std.proofs.lemmas.Bool.{cases_eq, cases_lt}
use Rattle.std.proofs.lemmas.Int.{ints, to_z-of_z}
use Rattle.std.proofs.lemmas.List.{ext_get_or, length-replicate}
use mir.Syntax.{w16, w32}
use mir.Val.{SFits, to_z, of_z}
use Rattle.std.proofs.Math.ListN.{length-set}
use Rattle.m2v_quant.specs.declared.sparse.LevelAt.{LevelAt}
use Rattle.m2v_quant.specs.Kinds.{IsLevel}
use Rattle.m2v_quant.proofs.Zeros.{zeros_at}
use Rattle.m2v_quant.specs.Sparse.{AreKept, IsClearFrom, IsKept, kept_at, spread}

pub length_spread : (first : ℤ) (later : List LevelAt) (n : ℕ) → length (spread first later n) ≡ 64
unfolding spread
length_spread first later zero = refl
length_spread first later (suc n) = length-set (spread first later n) _ _ ∙ length_spread first later n

-- those behind the first n don't count
spread_same : (first : ℤ) (xs ys : List LevelAt) (n : ℕ) → ((j : ℕ) → j < n → kept_at xs j ≡ kept_at ys j) → spread first xs n ≡ spread first ys n
unfolding spread
spread_same first xs ys zero e = refl
spread_same first xs ys (suc n) e =
    (λ i. set (spread_same first xs ys n (λ j lt. e j (omega arith)) i) (e n (omega arith) i).position (e n (omega arith) i).level)

-- one more is set
pub spread_more : (first : ℤ) (later : List LevelAt) (n : ℕ) → spread first later (n + 1) ≡ set (spread first later n) (kept_at later n).position (kept_at later n).level
unfolding spread
spread_more first later n = let e : n + 1 ≡ suc n = omega arith in ap (spread first later) e

-- the first stays where it is
pub first_stays : (first : ℤ) (later : List LevelAt) (n : ℕ) → ((j : ℕ) → j < n → IsKept first later j) → get_or (spread first later n) 0 (pos 0) ≡ first
unfolding spread
first_stays first later zero each = refl
first_stays first later (suc n) each =
    let apart : 0 ≢ (kept_at later n).position = λ e. absurd (omega (arith, e, (each n (omega arith)).rises)) in
    rw get_or-set_other (first_stays first later n (λ j lt. each j (omega arith)))

-- behind n that are kept come positions above n
behind_all : (first : ℤ) (later : List LevelAt) (n position : ℕ) → 1 ≤ position → ((j : ℕ) → j < n → IsKept first later j)
    → IsClearFrom position (spread first later n) → n < position
unfolding spread
behind_all first later zero position some each clear = omega arith
behind_all first later (suc n) position some each clear =
    let last = each n (omega arith) in
    elim (cases_lt (kept_at later n).position position) [
      | inl lt ↦ omega (arith, lt, last.rises)
      | inr ge ↦
          let room : (kept_at later n).position < length (spread first later n) = omega (arith, last.inside, length_spread first later n) in
          let same : get_or (set (spread first later n) (kept_at later n).position (kept_at later n).level) (kept_at later n).position (pos 0) ≡ (kept_at later n).level =
          rw get_or-set_same refl in
          absurd (last.some (sym same ∙ clear.zero (kept_at later n).position ge))
    ]

pub kept_below : (first : ℤ) (later : List LevelAt) (n position : ℕ) → 1 ≤ position → position < 64 → AreKept first later n → IsClearFrom position (spread first later n) → n < 63
kept_below first later n position some inside h clear = omega (arith, inside, behind_all first later n position some h.each clear)

-- one more is kept
module _ (first : ℤ) (later : List LevelAt) (n : ℕ) (x : LevelAt) where
  abbrev new : List LevelAt
  new = set later n x

  abbrev before : List ℤ
  before = spread first later n

  same_below : (j : ℕ) → j < n → kept_at new j ≡ kept_at later j
  same_below j lt = let apart : j ≢ n = omega arith in rw get_or-set_other refl

  same_spread : (j : ℕ) → j ≤ n → spread first new j ≡ spread first later j
  same_spread j le = spread_same first new later j (λ i lt. same_below i (omega arith))

  stays : (j : ℕ) → j < n → IsKept first later j → IsKept first new j
  stays j lt h =
      let e = sym (same_below j lt) in
      let s = sym (same_spread j (omega arith)) in record {
        rises = subst (λ (k : LevelAt). j < k.position) e h.rises;
        inside = subst (λ (k : LevelAt). k.position < 64) e h.inside;
        free = subst (λ (k : LevelAt). get_or (spread first new j) k.position (pos 0) ≡ pos 0) e (subst (λ (l : List ℤ). get_or l (kept_at later j).position (pos 0) ≡ pos 0) s h.free);
        level = subst (λ (k : LevelAt). IsLevel k.level) e h.level;
        some = subst (λ (k : LevelAt). k.level ≢ pos 0) e h.some;
      }

  last_is : n < length later → kept_at new n ≡ x
  last_is room = rw get_or-set_same refl

  pub kept_more : n < length later → 1 ≤ x.position → x.position < 64 → IsLevel x.level → x.level ≢ pos 0 → IsClearFrom x.position before → AreKept first later n
      → AreKept first new (n + 1)
  kept_more room some inside level other clear h =
      let e = sym (last_is room) in
      record {
        first_is = h.first_is;
        each = λ j lt.
            elim (cases_eq j n) [
              | inl same ↦
                  subst (λ (i : ℕ). IsKept first new i) (sym same) (record {
                    rises = subst (λ (k : LevelAt). n < k.position) e (behind_all first later n x.position some h.each clear);
                    inside = subst (λ (k : LevelAt). k.position < 64) e inside;
                    free = subst (λ (k : LevelAt). get_or (spread first new n) k.position (pos 0) ≡ pos 0) e
                        (subst (λ (l : List ℤ). get_or l x.position (pos 0) ≡ pos 0) (sym (same_spread n (omega arith))) (clear.zero x.position (omega arith)));
                    level = subst (λ (k : LevelAt). IsLevel k.level) e level;
                    some = subst (λ (k : LevelAt). k.level ≢ pos 0) e other;
                  })
              | inr ne ↦ stays j (omega arith) (h.each j (omega arith))
            ];
      }

  pub spread_kept : n < length later → spread first new (n + 1) ≡ set before x.position x.level
  spread_kept room =
      spread_more first new n ∙ (λ i. set (same_spread n (omega arith) i) (last_is room i).position (last_is room i).level)

-- a level fits 16 and 32 bits
pub level_short : (z : ℤ) → IsLevel z → SFits w16 z
level_short (pos a) h = record { sfits = omega (arith, ints, h.0, h.1) }
level_short (negsuc a) h = record { sfits = omega (arith, ints, h.0, h.1) }

pub level_fits : (z : ℤ) → IsLevel z → SFits w32 z
level_fits (pos a) h = record { sfits = omega (arith, ints, h.0, h.1) }
level_fits (negsuc a) h = record { sfits = omega (arith, ints, h.0, h.1) }

-- a level as it is kept
pub kept_as : (z : ℤ) → IsLevel z → to_z w16 (of_z w16 (to_z w32 (of_z w32 z))) ≡ z
kept_as z h = ap (λ (y : ℤ). to_z w16 (of_z w16 y)) (to_z-of_z w32 z (level_fits z h)) ∙ to_z-of_z w16 z (level_short z h)

-- the first of all is set where all are 0
pub set_first : (levels : List ℤ) (p : ℕ) (v : ℤ) → length levels ≡ 64 → p ≡ 0 → IsClearFrom p levels → v ∷ replicate 63 (pos 0) ≡ set levels p v
set_first levels p v len e clear =
    let zeros : levels ≡ replicate 64 (pos 0) =
    ext_get_or (pos 0) levels (replicate 64 (pos 0)) (len ∙ sym (length-replicate 64 (pos 0))) (λ i lt. clear.zero i (omega arith) ∙ sym (zeros_at 64 i)) in
    sym ((λ i. set (zeros i) (e i) v))

-- behind what is set all is 0 as before
pub clear_behind : (levels : List ℤ) (position : ℕ) (level : ℤ) → IsClearFrom position levels → IsClearFrom (position + 1) (set levels position level)
clear_behind levels position level clear = record {
  zero = λ i le. let apart : i ≢ position = omega arith in rw get_or-set_other (clear.zero i (omega arith));
}

-- all but the first are 0
pub opened_clear : (first : ℤ) → IsClearFrom 1 (first ∷ replicate 63 (pos 0))
opened_clear first = record { zero = zero_at }
  where
    zero_at : (i : ℕ) → 1 ≤ i → get_or (first ∷ replicate 63 (pos 0)) i (pos 0) ≡ pos 0
    zero_at zero le = absurd (omega (arith, le))
    zero_at (suc i) le = zeros_at 63 i
